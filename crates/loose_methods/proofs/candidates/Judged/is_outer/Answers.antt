use Rattle.std.proofs.Common.{◌∙◌, ap, sym}
use Rattle.std.specs.Prelude.{◌&&◌, is_some, not}
use Rattle.program_model.specs.MemberRules.{is_object}
use Rattle.program_model.specs.Texts.{type_text}
use Rattle.loose_methods.proofs.candidates.Judged.is_outer.Goals as goal

pub returns-in-Some : goal.returns-in-Some
returns-in-Some c = λ j.
    let p = c.args.self.now.program.now in
    sym (ap (λ o. not (is_some o) && not (is_object (type_text p c.args.kind))) (sym (c.place_of.ensures.is p j.resolved.of) ∙ c.in-Some.is))

pub returns-in-None : goal.returns-in-None
returns-in-None c = λ j.
    let p = c.args.self.now.program.now in
    ap not (c.is_object.ensures ∙ ap is_object c.type_units.ensures) ∙ sym (ap (λ o. not (is_some o) && not (is_object (type_text p c.args.kind))) (sym (c.place_of.ensures.is p j.resolved.of) ∙ c.in-None.is))
