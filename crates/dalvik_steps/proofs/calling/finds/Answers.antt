use Rattle.std.proofs.Common.{◌≡◌, subst, sym}
use Rattle.std.specs.Prelude.{IfOk}
use Rattle.insn_set.specs.declared.ops.InvokeKind.{InvokeKind}
use Rattle.dalvik_defs.specs.Naming.{method_at}
use Rattle.dalvik_defs.specs.State.{kind_of}
use Rattle.dalvik_lookups.specs.Facing.{named_search, run_face}
use Rattle.dalvik_lookups.specs.declared.finds.Search.{Search}
use Rattle.dalvik_state.specs.States.{class_text}
use Rattle.dalvik_state.specs.Views.{names_in, value_of, world_of}
use Rattle.dalvik_steps.specs.Invoking.{receiver_in, searched}
use Rattle.dalvik_steps.proofs.Sought.{static_searched, super_of}
use Rattle.dalvik_steps.proofs.calling.finds.Goals as goal

pub returns-in-Super-clause-is : goal.returns-in-Super-clause-is
returns-in-Super-clause-is c = λ r kept sound low own.
    let l = c.args.tables.now.lookups in
    let p = l.program.now in
    let m = c.args.call.now.method in
    subst (λ (k : InvokeKind). IfOk c.from_super.result (λ (s : Search). named_search p s ≡ searched (run_face l) k (method_at p m) (kind_of (world_of (names_in l) c.args.world.now) (value_of (names_in l) (receiver_in c.args.call.now.values.items))) (class_text p c.args.own))) (sym c.in-Super.is)
    (super_of l r c.args.own m own low c.from_super.result (c.from_super.ensures.is r kept))

pub returns-in-Static-clause-is : goal.returns-in-Static-clause-is
returns-in-Static-clause-is c = λ r kept sound low own.
    let l = c.args.tables.now.lookups in
    static_searched l r c.args.call.now.method c.statically.result c.args.call.now.kind _ _ c.in-Static.is low (c.statically.ensures r)
