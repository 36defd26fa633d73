use Rattle.std.proofs.Common.{◌∙◌, ap, sym}
use Rattle.std.specs.Prelude.{◌||◌}
use Rattle.std.specs.List.{list_any}
use Rattle.loose_methods.specs.Loose.{is_outer}
use Rattle.loose_methods.proofs.candidates.Judged.lists_outer.Goals as goal

pub returns-then-is_outer : goal.returns-then-is_outer
returns-then-is_outer c = λ j.
    let p = c.args.self.now.program.now in
    sym (ap (λ b. b || list_any (is_outer p) c.args.class.now.interfaces) (sym (c.is_outer.ensures j) ∙ c.if-is_outer.true))

pub returns : goal.returns
returns c = λ j.
    let p = c.args.self.now.program.now in
    c.is_any_outer.ensures j ∙ (ap (list_any (is_outer p)) c.as_slice.ensures ∙ sym (ap (λ b. b || list_any (is_outer p) c.args.class.now.interfaces) (sym (c.is_outer.ensures j) ∙ c.if-is_outer.false)))
