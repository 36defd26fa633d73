use Rattle.std.proofs.Common.{[], take}
use Rattle.hierarchy.specs.Shapes.{IsResolved}
use Rattle.quiet_methods.specs.Owning.{methods_of, AreOwns}
use Rattle.quiet_methods.proofs.forms.Search.note_classes.Given as goal

abbrev pub invariant-loop-class : goal.invariant-loop-class
invariant-loop-class l = IsResolved l.self.program.now l.self.hierarchy.now
    → AreOwns l.self.program.now l.frames [] l.initial.owns.nodes.items l.initial.owns.ranks.items
    → AreOwns l.self.program.now l.frames (methods_of (take l.class-index l.classes)) l.owns.nodes.items l.owns.ranks.items
