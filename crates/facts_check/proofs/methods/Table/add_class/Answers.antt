use Rattle.std.proofs.Common.{◌≡◌, List, Some, refl, subst}
use Rattle.std.specs.Prelude.{slice_get}
use Rattle.std.proofs.lemmas.Option.{slice_get_read}
use Rattle.program_model.specs.declared.program.Method.{Method}
use Rattle.facts_check.proofs.Tabling.{one_added}
use Rattle.facts_check.proofs.methods.Table.add_class.Goals as goal

pub loop-method-preserved : goal.loop-method-preserved
loop-method-preserved c =
    let methods = c.as_slice-method-items.result.now in
    let at : slice_get methods c.loop-method.method-index ≡ Some c.method-item.result = slice_get_read methods _ c.loop-method.method-index c.method-item.result refl c.loop-method-test.true c.method-item.is in
    λ known. one_added c.args.known.now c.loop-method.self c.add.new.self c.args.place c.loop-method.method-index c.args.class.now c.method-item.result c.requires.is
    (subst (λ (ms : List Method). slice_get ms c.loop-method.method-index ≡ Some c.method-item.result) c.as_slice-method-items.ensures at)
    (c.in_ok-add.ensures known c.if-not-branch.false) (c.loop-method.invariant known)
