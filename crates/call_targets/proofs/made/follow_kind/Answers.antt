use Rattle.std.proofs.Common.{List, subst}
use Rattle.std.specs.List.{flat_map}
use Rattle.program_model.specs.declared.program.Method.{Method}
use Rattle.call_graph.specs.Follows.{class_of}
use Rattle.call_targets.specs.declared.named.Call.{Call}
use Rattle.call_targets.specs.Adding.{Adds}
use Rattle.call_targets.specs.Called.{calls_on}
use Rattle.call_targets.specs.Noting.{call_notes, method_notes, methods_of}
use Rattle.call_targets.proofs.Adding.{adds_then}
use Rattle.call_targets.proofs.made.follow_kind.Goals as goal

pub returns-clause-adds : goal.returns-clause-adds
returns-clause-adds c = λ is r.
    let p = c.args.at.now.program.now in
    let t = c.args.tables.now in
    let class = c.args.made.class in
    let outer = c.args.made.outer in
    let old = c.args.targets.now in
    let mid = c.link_calls.new.targets in
    let new = c.enter_methods.new.targets in
    adds_then (flat_map (call_notes p class) (calls_on t.named c.args.kind)) (flat_map (method_notes p t.kept class outer) (methods_of (class_of p c.args.kind))) old mid new
    (subst (λ (l : List Call). Adds (flat_map (call_notes p class) l) old mid) c.on.ensures (c.in_ok-link_calls.ensures.adds is r))
    (subst (λ (l : List Method). Adds (flat_map (method_notes p t.kept class outer) l) mid new) (c.methods_of.ensures is) (c.in_ok-enter_methods.ensures.adds is (c.in_ok-link_calls.ensures.ready r)))
