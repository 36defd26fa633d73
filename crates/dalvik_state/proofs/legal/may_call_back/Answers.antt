use Rattle.std.proofs.Common.{ap, not, ◌∙◌}
use Rattle.std.specs.Prelude.{◌&&◌}
use Rattle.name_bridge.proofs.Tables.{sound}
use Rattle.dalvik_defs.specs.Naming.{method_at}
use Rattle.dalvik_defs.specs.Outer.{methods_in}
use Rattle.dalvik_state.proofs.Marked.{method_marked}
use Rattle.dalvik_state.proofs.legal.may_call_back.Goals as goal

pub returns-then-is_virtual : goal.returns-then-is_virtual
returns-then-is_virtual c = λ o r reach low.
    let p = c.args.tables.now.lookups.program.now in
    let m = c.args.method.now.name in
    ap not (c.is_shut.ensures p o reach.members ∙ method_marked p (sound p r.well) o.shut m low)
    ∙ ap (λ b. b && not (methods_in p o.shut (method_at p m))) (c.if-is_virtual.ensures r)
