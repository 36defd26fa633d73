use Rattle.std.proofs.Common.{◌∙◌, arith}
use Rattle.pipeline.proofs.Graphs.{found_graph, found_fault}
use Rattle.pipeline.proofs.Passing.{IsPassed, removes, clean_passed, clean_fault_passed, many_fields_passed}
use Rattle.pipeline.proofs.passes.clean_bodies.Goals as goal

pub returns-in_ok-changed-in-Some : goal.returns-in_ok-changed-in-Some
returns-in_ok-changed-in-Some c =
    let changed = c.in_ok-changed-in-Some.changed in
    let left : IsPassed c.args.traced.origins changed (removes changed.count) c.left_by.result = record { program = c.left_by.ensures.program; changes = c.left_by.ensures.changes ∙ c.removed-changes.ensures; origins = c.left_by.ensures.origins } in
    λ graph outside. clean_passed outside c.args.admitted.now.methods.items c.args.traced c.left_by.result changed c.in-Some.hierarchy left
    (λ formed. found_graph c.args.traced.program c.args.graph.now c.in-Some.hierarchy (graph formed) c.in-Some.is)
    c.in_ok-changed-in-Some.ensures.cleaned c.in_ok-changed-in-Some.ensures.resolved c.in_ok-changed-in-Some.ensures.none_left c.in_ok-changed-in-Some.ensures.same c.in_ok-changed-in-Some.ensures.less

pub returns-then-len : goal.returns-then-len
returns-then-len c = λ graph outside. many_fields_passed outside c.args.admitted.now.methods.items c.args.traced c.unchanged.result c.unchanged.ensures.traced c.unchanged.ensures.changes (omega (arith, c.len.ensures))

pub returns-in-None : goal.returns-in-None
returns-in-None c = λ graph outside. clean_fault_passed outside c.args.admitted.now.methods.items c.args.traced c.unchanged-in-None.result c.unchanged-in-None.ensures.traced c.unchanged-in-None.ensures.changes
    (λ formed. found_fault c.args.traced.program c.args.graph.now (graph formed) c.in-None.is)
