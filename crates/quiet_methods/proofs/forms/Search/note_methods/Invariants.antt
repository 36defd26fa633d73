use Rattle.std.proofs.Common.{List, ◌++◌, take}
use Rattle.program_model.specs.declared.program.Method.{Method}
use Rattle.hierarchy.specs.Shapes.{IsResolved}
use Rattle.quiet_methods.specs.Owning.{AreOwns}
use Rattle.quiet_methods.proofs.forms.Search.note_methods.Given as goal

abbrev pub invariant-loop-method : goal.invariant-loop-method
invariant-loop-method l = (done : List Method) → IsResolved l.self.program.now l.self.hierarchy.now
    → AreOwns l.self.program.now l.frames done l.initial.owns.nodes.items l.initial.owns.ranks.items
    → AreOwns l.self.program.now l.frames (done ++ take l.method-index l.methods) l.owns.nodes.items l.owns.ranks.items
