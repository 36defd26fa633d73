use Rattle.std.proofs.Common.{◌≡◌, ◌∙◌, List, Some, slice_get, length, ap, sym, subst, arith}
use Rattle.std.proofs.lemmas.Option.{slice_get-get_or}
use Rattle.if_rules.proofs.Grows.{fields_all, fields_more, fields_none}
use Rattle.if_rules.proofs.instances.push_fields.Goals as goal

pub loop-place-init : goal.loop-place-init
loop-place-init c = λ rs g m names uses lines of. fields_none c.args.program.now rs c.args.at.now.number c.args.at.now.class c.args.out.now.items

pub loop-place-preserved : goal.loop-place-preserved
loop-place-preserved c = λ rs g m names uses lines of.
    let at : slice_get c.args.class.now.fields c.loop-place.place ≡ Some c.index-fields-place.result =
    subst (λ (ms : List _). slice_get ms c.loop-place.place ≡ Some c.index-fields-place.result) c.as_slice-fields.ensures
    (slice_get-get_or c.as_slice-fields.result.now c.loop-place.place c.index-fields-place.result c.loop-place-test.true ∙ ap (λ x. Some x) (sym c.index-fields-place.is)) in
    fields_more c.args.program.now rs c.args.at.now.number c.args.at.now.class c.loop-place.place c.args.out.now.items c.loop-place.out.items c.push_field.new.out.items
    (c.loop-place.invariant rs g m names uses lines of) (c.in_ok-push_field.ensures rs g m names uses lines of at)

pub returns : goal.returns
returns c = λ rs g m names uses lines of. fields_all c.args.program.now rs c.args.at.now.number c.args.at.now.class c.loop-place.place _ c.args.out.now.items c.loop-place.out.items (omega (arith, c.loop-place-test.false, ap length c.as_slice-fields.ensures))
    (c.loop-place.invariant rs g m names uses lines of)
