use Rattle.std.proofs.Common.{◌≡◌, ◌∙◌, List, Some, slice_get, length, ap, sym, subst, arith}
use Rattle.std.proofs.lemmas.Option.{slice_get-get_or}
use Rattle.if_rules.proofs.Grows.{methods_all, methods_more, methods_none}
use Rattle.if_rules.proofs.instances.push_methods.Goals as goal

pub loop-place-init : goal.loop-place-init
loop-place-init c = λ rs g m names uses lines of. methods_none c.args.program.now rs c.args.at.now.number c.args.at.now.class c.args.out.now.items

pub loop-place-preserved : goal.loop-place-preserved
loop-place-preserved c = λ rs g m names uses lines of.
    let at : slice_get c.args.class.now.methods c.loop-place.place ≡ Some c.index-methods-place.result =
    subst (λ (ms : List _). slice_get ms c.loop-place.place ≡ Some c.index-methods-place.result) c.as_slice-methods.ensures
    (slice_get-get_or c.as_slice-methods.result.now c.loop-place.place c.index-methods-place.result c.loop-place-test.true ∙ ap (λ x. Some x) (sym c.index-methods-place.is)) in
    methods_more c.args.program.now rs c.args.at.now.number c.args.at.now.class c.loop-place.place c.args.out.now.items c.loop-place.out.items c.push_method.new.out.items
    (c.loop-place.invariant rs g m names uses lines of) (c.in_ok-push_method.ensures rs g m names uses lines of at)

pub returns : goal.returns
returns c = λ rs g m names uses lines of. methods_all c.args.program.now rs c.args.at.now.number c.args.at.now.class c.loop-place.place _ c.args.out.now.items c.loop-place.out.items (omega (arith, c.loop-place-test.false, ap length c.as_slice-methods.ensures))
    (c.loop-place.invariant rs g m names uses lines of)
