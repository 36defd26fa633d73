use Rattle.dalvik_model.specs.Standing.{subject_of}
use Rattle.dalvik_model.proofs.machine.run.Goals as goal

pub returns-clause-shown : goal.returns-clause-shown
returns-clause-shown c = λ subject arrays. c.collect.ensures.shown (subject_of c.args.program.now c.args.outside.now c.args.framework.now c.args.floats.now c.args.script.now) (c.in_ok-machine.ensures.at subject) arrays
