-- What a program in which calls and divisions that do nothing are nops owes to the one before, where certified facts know that they
-- do nothing.
use Rattle.std.specs.Prelude.{◌≡◌, Bool, true, List}
use Rattle.program_model.specs.ProgramRules.{is_well_formed}
use Rattle.program_model.specs.declared.pass.Changed.{Changed}
use Rattle.program_model.specs.declared.pass.Outside.{Outside}
use Rattle.program_model.specs.declared.program.Program.{Program}
use Rattle.hierarchy.specs.Shapes.{IsAcyclic, IsResolved}
use Rattle.hierarchy.specs.declared.build.Hierarchy.{Hierarchy}
use Rattle.call_graph.specs.Closed.{IsClosedSet}
use Rattle.call_graph.specs.Facts.{Fits}
use Rattle.call_graph.specs.declared.live_set.LiveSet.{LiveSet}
use Rattle.call_targets.specs.Targeted.{IsTargeted}
use Rattle.call_targets.specs.declared.table.Targets.{Targets}
use Rattle.dalvik_defs.specs.Naming.{named}
use Rattle.dalvik_defs.specs.Outer.{Outer}
use Rattle.pass_defs.specs.Typed.{IsTyped}
use Rattle.removal_law.specs.Reach.{ShutsHold}
use Rattle.facts.specs.declared.facts.Facts.{Facts}
use Rattle.closed_facts.specs.Closed.{AreClosed}
use Rattle.premises.specs.Makers.{MakersAreOwn}
use Rattle.premises.specs.Numbers.{AllHaveWords}
use Rattle.premises.specs.Plain.{ListsPlainly}
use Rattle.facts_kept.specs.Kept.{IsKeptFor}
use Rattle.quiet_code.specs.Quieted.{IsQuieted}

-- What is left of a well-formed and typed program, of which no class is its own ancestor, is kept for the outside for which its facts
-- are certified. Beside what certifies the facts stand what the law of coverage asks of a program and of the kept constructors, and
-- that only interfaces stand in lists of interfaces.
abbrev pub QuietedKept : Type 0
QuietedKept = (p : Program) (h : Hierarchy) (o : Outside) → is_well_formed p ≡ true → IsResolved p h → IsAcyclic p → IsTyped (named p) → (facts : Facts) (admitted : List Bool) (c : Changed)
    → IsQuieted p facts admitted c → AllHaveWords p → MakersAreOwn p o → ListsPlainly p → (live : LiveSet) (targets : Targets) → Fits p live → IsClosedSet p o live → IsTargeted p o live targets
    → AreClosed p o live targets facts → IsKeptFor o p c.program

-- Whatever the facts are, it keeps what a table of shut methods owes: a nop calls nothing.
abbrev pub QuietedShut : Type 0
QuietedShut = (p : Program) (facts : Facts) (admitted : List Bool) (c : Changed) (o : Outer) → IsQuieted p facts admitted c → ShutsHold (named p) o → ShutsHold (named c.program) o
