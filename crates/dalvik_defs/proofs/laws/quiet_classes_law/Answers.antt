use Rattle.dalvik_defs.proofs.Quiet.{quiet_shows, quiet_shown, trivial_quiet}
use Rattle.dalvik_defs.proofs.laws.quiet_classes_law.Goals as goal

pub returns-clause-there : goal.returns-clause-there
returns-clause-there c = quiet_shows

pub returns-clause-back : goal.returns-clause-back
returns-clause-back c = quiet_shown

pub returns-clause-trivial : goal.returns-clause-trivial
returns-clause-trivial c = trivial_quiet
