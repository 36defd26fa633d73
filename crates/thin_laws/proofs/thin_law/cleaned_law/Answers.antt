use Rattle.dalvik_defs.specs.Naming.{named}
use Rattle.thin_laws.specs.Cleaning.{IsCleaning}
use Rattle.thin_laws.proofs.Programs.{cleaned_shown, named_thins}
use Rattle.thin_laws.proofs.thin_law.cleaned_law.Goals as goal

pub returns-clause-by_name : goal.returns-clause-by_name
returns-clause-by_name c = λ p q o sound h. cleaned_shown p (λ k fs b. IsCleaning p fs b) (λ k fs b i. i) q o sound h

pub returns-clause-by_number : goal.returns-clause-by_number
returns-clause-by_number c = λ p q o sound h. cleaned_shown (named p) (λ k fs b. IsCleaning (named p) fs b) (λ k fs b i. i) (named q) o sound (named_thins (λ k fs b. IsCleaning (named p) fs b) p q h)
