use Rattle.std.proofs.Common.{◌++◌, List}
use Rattle.program_model.specs.declared.program.Method.{Method}
use Rattle.quiet_methods.specs.Owning.{AreOwns, methods_of}
use Rattle.quiet_methods.proofs.forms.Search.note_classes.Goals as goal
use Rattle.std.proofs.Common.{take, subst}
use Rattle.quiet_methods.proofs.Collecting.{class_more}

-- src/methods.rt:140:9
pub loop-class-preserved : goal.loop-class-preserved
loop-class-preserved c = λ resolved a. class_more c.args.self.now.program.now c.args.frames.now c.args.classes.now c.loop-class.class-index c.class-item.result c.note_methods.new.owns.nodes.items c.note_methods.new.owns.ranks.items c.loop-class-test.true c.class-item.is
    (subst (λ (l : List Method). AreOwns c.args.self.now.program.now c.args.frames.now (methods_of (take c.loop-class.class-index c.args.classes.now) ++ l) c.note_methods.new.owns.nodes.items c.note_methods.new.owns.ranks.items) c.as_slice.ensures
    (c.in_ok-note_methods.ensures (methods_of (take c.loop-class.class-index c.args.classes.now)) resolved (c.loop-class.invariant resolved a)))
