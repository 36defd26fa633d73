use Rattle.std.proofs.Common.{◌≡◌, ◌∙◌, sym, subst, eqb-true}
use Rattle.program_model.specs.declared.program.Program.{Program}
use Rattle.pipeline.specs.Changes.{total_of}
use Rattle.pipeline.specs.Graph.{IsGraph}
use Rattle.pipeline.proofs.passes.refresh_graph.Goals as goal

pub returns-then-is_none : goal.returns-then-is_none
returns-then-is_none c =
    let none : total_of c.args.passed.now.changes ≡ 0 = eqb-true (total_of c.args.passed.now.changes) 0 (sym c.is_none.ensures ∙ c.if-is_none.true) in
    λ p graph same. subst (λ (x : Program). IsGraph x c.args.graph.now) (sym (same none)) graph

pub returns : goal.returns
returns c = λ p graph same. c.renew_graph.ensures
