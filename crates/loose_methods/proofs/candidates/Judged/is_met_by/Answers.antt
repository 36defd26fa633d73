use Rattle.std.proofs.Common.{◌≡◌, ◌∙◌, Some, ap, sym}
use Rattle.program_model.specs.Lookups.{class_place}
use Rattle.program_model.specs.MemberRules.{is_object}
use Rattle.receivers.proofs.Walks.{place_short}
use Rattle.loose_methods.specs.Sifting.{is_met_at}
use Rattle.loose_methods.proofs.candidates.Judged.is_met_by.Goals as goal

pub returns-in-Some : goal.returns-in-Some
returns-in-Some c = λ j lt.
    let p = c.args.self.now.program.now in
    let e : class_place p c.args.kind ≡ Some c.in-Some.upper = sym (c.place_of.ensures.is p j.resolved.of) ∙ c.in-Some.is in
    c.is_under.ensures p j.resolved lt (place_short p c.args.kind c.in-Some.upper e) ∙ sym (ap (is_met_at p c.args.kind c.args.class) e)

pub returns-in-None : goal.returns-in-None
returns-in-None c = λ j lt.
    let p = c.args.self.now.program.now in
    c.is_object.ensures ∙ (ap is_object c.type_units.ensures ∙ sym (ap (is_met_at p c.args.kind c.args.class) (sym (c.place_of.ensures.is p j.resolved.of) ∙ c.in-None.is)))
