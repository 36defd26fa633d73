use Rattle.program_laws.proofs.Transitive.{transitive}
use Rattle.dalvik_defs.specs.Naming.{named}
use Rattle.thin_laws.proofs.Programs.{named_thins}
use Rattle.thin_laws.specs.Squeezed.{Squeezes}
use Rattle.thin_laws.proofs.TypedPrograms.{marked_typed}
use Rattle.thin_laws.proofs.thin_types.squeezed_typed_law.Goals as goal

pub returns-clause-by_name : goal.returns-clause-by_name
returns-clause-by_name c = λ p q rooted typed h. marked_typed p (transitive p rooted) typed q h

pub returns-clause-by_number : goal.returns-clause-by_number
returns-clause-by_number c = λ p q rooted typed h. marked_typed (named p) (transitive (named p) rooted) typed (named q) (named_thins Squeezes p q h)
