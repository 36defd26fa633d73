use Rattle.std.proofs.Common.{◌∙◌, ap, refl, sym}
use Rattle.loose_methods.specs.Loose.{number_found}
use Rattle.loose_methods.proofs.Bars.{none_defined}
use Rattle.loose_methods.proofs.candidates.Judged.bar_own.Goals as goal

pub returns-in_ok-bar_number-in-Some : goal.returns-in_ok-bar_number-in-Some
returns-in_ok-bar_number-in-Some c = λ o q j k kind own lt cand. c.in_ok-bar_number-in-Some.ensures o q j k kind own lt cand (sym c.number_at.ensures ∙ c.in-Some.is)

pub returns-in-None : goal.returns-in-None
returns-in-None c = λ o q j k kind own lt cand.
    let p = c.args.self.now.program.now in
    none_defined p q c.args.at.class c.args.loose.now c.args.loose.now (ap (number_found p) own ∙ (sym c.number_at.ensures ∙ c.in-None.is)) refl
