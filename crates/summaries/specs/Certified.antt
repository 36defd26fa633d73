-- What the analysis of a program answers.
use Rattle.program_model.specs.declared.program.Program.{Program}
use Rattle.program_model.specs.declared.pass.Outside.{Outside}
use Rattle.facts.specs.declared.facts.Facts.{Facts}
use Rattle.call_graph.specs.declared.live_set.LiveSet.{LiveSet}
use Rattle.call_graph.specs.Closed.{IsClosedSet}
use Rattle.call_graph.specs.Facts.{Fits}
use Rattle.call_targets.specs.declared.table.Targets.{Targets}
use Rattle.call_targets.specs.Targeted.{IsTargeted}
use Rattle.closed_facts.specs.Closed.{AreClosed}

-- The facts are closed under the tables of what calls of live methods on objects find and of what the framework may enter. These are
-- the tables of the program, and the marks of live methods are closed.
pub record IsCertified (p : Program) (outside : Outside) (t : Facts) : Type 0 where
  pub live : LiveSet
  pub targets : Targets
  pub fits : Fits p live
  pub live_closed : IsClosedSet p outside live
  pub targeted : IsTargeted p outside live targets
  pub closed : AreClosed p outside live targets t
