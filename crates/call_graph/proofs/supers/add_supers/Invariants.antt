use Rattle.std.proofs.Common.{◌≡◌, ◌<◌, true, length, take}
use Rattle.program_model.specs.ProgramRules.{is_well_formed}
use Rattle.hierarchy.specs.Shapes.{IsResolved}
use Rattle.call_graph.specs.Stays.{Stays}
use Rattle.call_graph.specs.Objects.{AreNotes, SameNotes}
use Rattle.call_graph.specs.Least.{AddsOnly, SuperFrom}
use Rattle.call_graph.specs.Supers.{AddsSupers}
use Rattle.call_graph.proofs.supers.add_supers.Given as goal

abbrev pub invariant-loop-named : goal.invariant-loop-named
invariant-loop-named l = record {
  stays : Stays l.fn.out.items l.out.items;
  same : SameNotes l.fn.notes l.notes;
  are : IsResolved l.at.program.now l.at.hierarchy.now → AreNotes l.at.program.now l.fn.notes → AreNotes l.at.program.now l.notes;
  finds : IsResolved l.at.program.now l.at.hierarchy.now → is_well_formed l.at.program.now ≡ true → AreNotes l.at.program.now l.fn.notes → l.caller.0 < length l.at.program.now.types → AddsSupers l.at.program.now l.caller.0 l.caller.1 (take l.named-index l.names) l.out.items;
  only : IsResolved l.at.program.now l.at.hierarchy.now → is_well_formed l.at.program.now ≡ true → AreNotes l.at.program.now l.fn.notes → l.caller.0 < length l.at.program.now.types → AddsOnly (SuperFrom l.at.program.now l.caller.0 l.caller.1 l.names) l.fn.out.items l.out.items;
}
