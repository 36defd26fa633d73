use Rattle.std.proofs.Common.{◌≡◌, true, false, ap, sym, ◌∙◌}
use Rattle.std.proofs.lemmas.Result.{IfOk-weaker}
use Rattle.dalvik_defs.specs.ActArray.{may_store}
use Rattle.dalvik_defs.specs.State.{is_null}
use Rattle.dalvik_lookups.specs.Facing.{run_face}
use Rattle.dalvik_lookups.specs.Views.{type_text}
use Rattle.dalvik_state.specs.Views.{names_in, value_of, world_of}
use Rattle.dalvik_state.proofs.Named.{null_named}
use Rattle.dalvik_act.proofs.Instances.{stores_as, stores_instance, stores_null}
use Rattle.dalvik_act.proofs.arrays.may_store.Goals as goal

pub returns-then-is_null-clause-answer : goal.returns-then-is_null-clause-answer
returns-then-is_null-clause-answer c = λ t.
    let l = c.args.tables.now.lookups in
    let n = names_in l in
    stores_as (run_face l).under (world_of n c.args.world.now) c.args.item (value_of n c.args.datum) (type_text l.types c.args.kind) true c.in-Object.is
    (stores_null (run_face l).under (world_of n c.args.world.now) (value_of n c.args.datum) (type_text l.types c.args.kind) (null_named n c.args.datum ∙ sym c.is_null.ensures ∙ c.if-is_null.true))

pub returns-else-is_null-clause-answer : goal.returns-else-is_null-clause-answer
returns-else-is_null-clause-answer c = λ t.
    let l = c.args.tables.now.lookups in
    let n = names_in l in
    let other : is_null (value_of n c.args.datum) ≡ false = null_named n c.args.datum ∙ sym c.is_null.ensures ∙ c.if-is_null.false in
    IfOk-weaker c.is_instance.result _ _ (λ r e. stores_as (run_face l).under (world_of n c.args.world.now) c.args.item (value_of n c.args.datum) (type_text l.types c.args.kind) r c.in-Object.is
    (stores_instance (run_face l).under (world_of n c.args.world.now) (value_of n c.args.datum) (type_text l.types c.args.kind) r other e))
    (c.is_instance.ensures.answer t)
