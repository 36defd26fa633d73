use Rattle.dalvik_model.specs.Standing.{subject_of}
use Rattle.dalvik_model.proofs.Standing.{begins_at, begins_idle}
use Rattle.dalvik_model.proofs.machine.Machine.new.Goals as goal

pub returns-clause-at : goal.returns-clause-at
returns-clause-at c = λ subject.
    let s = subject_of c.args.program.now c.args.outside.now c.args.framework.now c.args.floats.now c.args.script.now in
    record { run = begins_at s c.in_ok-run.run' subject.accepted (c.in_ok-run.ensures s (c.in_ok-tables.ensures subject.well)) }

pub returns-clause-idle : goal.returns-clause-idle
returns-clause-idle c = λ fault.
    let s = subject_of c.args.program.now c.args.outside.now c.args.framework.now c.args.floats.now c.args.script.now in
    record { none = begins_idle s c.in_ok-run.run' fault.refused (c.in_ok-run.ensures s (c.in_ok-tables.ensures fault.well)) }
