use Rattle.std.proofs.Common.{◌≡◌, ◌∙◌, None, Some, ap, refl, subst, sym}
use Rattle.std.specs.Prelude.{slice_get}
use Rattle.std.specs.Option.{option_copied}
use Rattle.loose_methods.specs.Sifting.{Sifts, allows_entry}
use Rattle.loose_methods.proofs.Sifts.{sifts_none}
use Rattle.loose_methods.proofs.calls.Sifter.judge.Goals as goal

pub returns-in_ok-judge_named-in-Some : goal.returns-in_ok-judge_named-in-Some
returns-in_ok-judge_named-in-Some c = λ o j s still.
    let p = c.args.self.now.judged.program.now in
    let asked = c.args.call.now in
    let e : slice_get p.methods asked.called ≡ Some c.in-Some.name.now = sym c.name_at.ensures ∙ ap option_copied c.in-Some.is in
    subst (λ x. Sifts p o (allows_entry p asked.caller asked.kind asked.called x asked.safe) c.args.marks.now c.judge_named.new.marks) (sym e) (c.in_ok-judge_named-in-Some.ensures o j e s still)

pub returns-in-None : goal.returns-in-None
returns-in-None c = λ o j s still.
    let p = c.args.self.now.judged.program.now in
    let asked = c.args.call.now in
    let e : slice_get p.methods asked.called ≡ None = sym c.name_at.ensures ∙ ap option_copied c.in-None.is in
    subst (λ x. Sifts p o (allows_entry p asked.caller asked.kind asked.called x asked.safe) c.args.marks.now c.args.marks.now) (sym e) (sifts_none p o _ c.args.marks.now s (λ n m. refl))
