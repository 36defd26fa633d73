use Rattle.dalvik_defs.specs.Naming.{named}
use Rattle.thin_laws.specs.Cleaning.{AreIdle}
use Rattle.thin_laws.proofs.Programs.{cleaned_shown, named_thins}
use Rattle.thin_laws.proofs.Idles.{idle_cleaning}
use Rattle.thin_laws.proofs.thin_law.idle_law.Goals as goal

pub returns-clause-by_name : goal.returns-clause-by_name
returns-clause-by_name c = λ p q o sound h. cleaned_shown p (AreIdle p o) (idle_cleaning p o) q o sound h

pub returns-clause-by_number : goal.returns-clause-by_number
returns-clause-by_number c = λ p q o sound h. cleaned_shown (named p) (AreIdle (named p) o) (idle_cleaning (named p) o) (named q) o sound (named_thins (AreIdle (named p) o) p q h)
