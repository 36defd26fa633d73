-- A file without a fault that passes no limit is read.
use Rattle.std.proofs.Common.{◌≡◌, ◌<◌, ℕ, List, Result, Ok, Err, refl}
use Rattle.std.specs.Prelude.{slice_index}
use Rattle.dex_base.specs.Reading.{Gives}
use Rattle.program_model.specs.declared.program.Program.{Program}
use Rattle.dex_read.specs.Faults.{is_free}
use Rattle.dex_read.specs.File.{program_at}
use Rattle.dex_read.specs.declared.fault.DexFault.{DexFault}
use Rattle.dex_read.specs.declared.fault.DexFault.TheVariants as dex
use Rattle.refused_code.specs.Faultless.{IsFaultless, IsLimit}
use Rattle.refused_code.proofs.Faultless.{only_limits}
use Rattle.refused_code.proofs.Joined as joined
use Rattle.past_law.specs.Within.{IsWithin, IsRead, IsReadOrWanting}
use Rattle.past_law.proofs.Whole.{fails_program}

module _ (bytes : List ℕ) (are : (i : ℕ) → slice_index bytes i < 256) (none : IsFaultless bytes) (within : IsWithin bytes) where
  never : (e : DexFault) → IsLimit e → program_at bytes ≡ Err e → ⊥
  never (dex.Limit fault) h e = within fault ((fails_program bytes are).fault (dex.Limit fault) e)
  never e h g = absurd h

  pub no_fault : (e : DexFault) → program_at bytes ≡ Err e → ⊥
  no_fault e h = never e (only_limits bytes none e ((joined.fails_program bytes are).fault e h)) h

pub reads : (bytes : List ℕ) → ((i : ℕ) → slice_index bytes i < 256) → IsFaultless bytes → IsWithin bytes → IsRead (program_at bytes)
reads bytes are none within = by_result (program_at bytes) refl
  where
    by_result : (read : Result Program DexFault) → program_at bytes ≡ read → IsRead read
    by_result (Ok program) h = tt
    by_result (Err e) h = no_fault bytes are none within e h

pub answers : (bytes : List ℕ) → ((i : ℕ) → slice_index bytes i < 256) → IsFaultless bytes → IsWithin bytes → (result : Result Program DexFault) → Gives is_free (λ program. program) result (program_at bytes) → IsReadOrWanting result
answers bytes are none within (Ok program) h = tt
answers bytes are none within (Err dex.NoMemory) h = tt
answers bytes are none within (Err e) h = absurd (no_fault bytes are none within e h)
