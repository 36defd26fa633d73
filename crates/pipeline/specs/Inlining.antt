-- What inlining does to a program before the rounds, by number, and what is asked about its calls (this project's profile).
use Rattle.std.specs.Prelude.{◌≡◌, ℕ, Bool, true, List, []}
use Rattle.program_model.specs.declared.pass.Outside.{Outside}
use Rattle.program_model.specs.declared.program.Program.{Program}
use Rattle.program_model.specs.ProgramRules.{is_well_formed}
use Rattle.hierarchy.specs.declared.build.Hierarchy.{Hierarchy}
use Rattle.verify.specs.Methods.{TypesAll}
use Rattle.facts.specs.declared.facts.Facts.{Facts}
use Rattle.inline_calls.specs.Asked.{Row}
use Rattle.inline_calls.specs.Plans.{nothing_done, IsBegun, IsInlined}
use Rattle.pipeline.specs.declared.traces.Traced.{Traced}
use Rattle.pipeline.specs.Graph.{HasGraph, HasGraphFault}
use Rattle.pipeline.specs.Passes.{AreKnown, KeepsForms}
use Rattle.pipeline.specs.Rounds.{first_of}

-- The facts by which calls are looked at: ones that are known of the program, or, where none are, ones that know no register at any
-- position. By those no receiver is known, so that static calls alone may be inlined.
pub data AreTaken (o : Outside) (admitted : List Bool) (p : Program) (facts : Facts) : Type 0 where
  Found : AreKnown o p facts → AreTaken o admitted p facts
  Empty : facts.frames.items ≡ [] → KeepsForms o admitted p → AreTaken o admitted p facts

-- By such facts each call of an admitted method is found that may be inlined. These asks are made, and where every adviser says
-- yes, a copy of the method's instructions stands for the call. The program is well-formed still, and typed where it was.
pub record Inlines (o : Outside) (admitted : List Bool) (p : Program) (t : Traced) (rows : List Row) : Type 0 where
  pub hierarchy : Hierarchy
  pub graph : HasGraph p hierarchy
  pub facts : Facts
  pub taken : AreTaken o admitted p facts
  pub count : ℕ
  pub inlined : IsInlined p hierarchy facts admitted t.program count t.origins rows
  pub formed : is_well_formed t.program ≡ true
  pub typed : TypesAll p hierarchy → TypesAll t.program hierarchy

-- So it is, or the class graph has a fault: then nothing is asked, and nothing changes.
pub data IsInlining (o : Outside) (admitted : List Bool) (p : Program) (t : Traced) : List Row → Type 0 where
  Inlined : (rows : List Row) → Inlines o admitted p t rows → IsInlining o admitted p t rows
  Kept : t ≡ first_of p → HasGraphFault p → IsInlining o admitted p t []

-- Memory did not suffice: no call was asked about, or the first ones.
pub data InliningBegins (o : Outside) (admitted : List Bool) (p : Program) : List Row → Type 0 where
  NoneAsked : InliningBegins o admitted p []
  SomeAsked : (h : Hierarchy) (facts : Facts) (rows : List Row) → HasGraph p h → AreTaken o admitted p facts → IsBegun p h facts admitted (nothing_done p) rows → InliningBegins o admitted p rows
