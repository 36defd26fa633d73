use Rattle.std.proofs.Common.{◌≡◌, ◌<◌, ◌≤◌, ◌++◌, take, drop, length}
use Rattle.std.specs.Prelude.{filter}
use Rattle.domains.specs.ClassSets.{Ascends}
use Rattle.program_model.specs.declared.program.Program.{Program}
use Rattle.dom_frame.specs.Classes.{AreClasses, stands_under}
use Rattle.dom_frame.proofs.classes.Classes.kept.Given as goal

abbrev pub invariant-loop-class : goal.invariant-loop-class
invariant-loop-class l = record {
  ascending : Ascends 0 (l.kept.items ++ drop l.class-index l.classes);
  room : length l.kept.items ≤ l.class-index;
  is : (p : Program) → AreClasses p l.self → l.upper < length p.classes → l.kept.items ≡ filter (stands_under p l.upper) (take l.class-index l.classes);
}
