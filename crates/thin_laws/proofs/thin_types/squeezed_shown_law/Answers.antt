use Rattle.dalvik_defs.specs.Naming.{named}
use Rattle.thin_laws.proofs.Programs.{named_thins}
use Rattle.thin_laws.specs.Squeezed.{Squeezes}
use Rattle.thin_laws.proofs.TypedPrograms.{marked_shown}
use Rattle.thin_laws.proofs.thin_types.squeezed_shown_law.Goals as goal

pub returns-clause-by_name : goal.returns-clause-by_name
returns-clause-by_name c = λ p q o h. marked_shown p q o h

pub returns-clause-by_number : goal.returns-clause-by_number
returns-clause-by_number c = λ p q o h. marked_shown (named p) (named q) o (named_thins Squeezes p q h)
