use Rattle.std.proofs.Common.{◌∙◌, ap, sym}
use Rattle.std.specs.Prelude.{◌&&◌}
use Rattle.std.specs.List.{list_any}
use Rattle.class_defs.specs.Places.{is_under}
use Rattle.loose_methods.proofs.candidates.Judged.is_kept_by.Goals as goal

pub returns-then-not-keeps_from : goal.returns-then-not-keeps_from
returns-then-not-keeps_from c = λ q j k under lt.
    let p = c.args.self.now.program.now in
    sym (ap (λ b. b && list_any (λ d. is_under p d c.args.definer) c.args.place.now.under.now) (sym (c.keeps_from.ensures q j k) ∙ c.if-not-keeps_from.true))

pub returns : goal.returns
returns c = λ q j k under lt.
    let p = c.args.self.now.program.now in
    c.is_any_under.ensures j under.short lt ∙ sym (ap (λ b. b && list_any (λ d. is_under p d c.args.definer) c.args.place.now.under.now) (sym (c.keeps_from.ensures q j k) ∙ c.if-not-keeps_from.false))
