-- A file without a fault is read, or passes a limit.
use Rattle.std.proofs.Common.{◌≡◌, ◌<◌, ℕ, true, false, List, Result, Ok, Err, refl, sym, ◌∙◌, true≢false}
use Rattle.std.specs.Prelude.{slice_index}
use Rattle.dex_base.specs.Reading.{Gives}
use Rattle.program_model.specs.declared.program.Program.{Program}
use Rattle.dex_pools.specs.declared.fault.PoolFault.{PoolFault}
use Rattle.dex_pools.specs.declared.fault.PoolFault.TheVariants as pool
use Rattle.dex_read.specs.Faults.{is_free}
use Rattle.dex_read.specs.File.{program_at}
use Rattle.dex_read.specs.declared.fault.DexFault.{DexFault}
use Rattle.dex_read.specs.declared.fault.DexFault.TheVariants as dex
use Rattle.dex_defs.specs.Parts.{Fault, Short, Magic, Header, Checksum, LongLeb, BadText, BadDescriptor, Index, Order, BadValue, Deep, Shorty, Code, Member, Root, FrameSize}
use Rattle.dex_defs.specs.ClassFaults.{HasFault}
use Rattle.refused_law.specs.Just.{IsJustPart, IsJust}
use Rattle.refused_code.specs.Faultless.{is_beyond, IsFaultless, IsLimit, IsReadOrPast, IsLimitOrFree, IsReadOrFree}
use Rattle.refused_code.proofs.Joined.{fails_program}

module _ (bytes : List ℕ) (none : IsFaultless bytes) where
  never : {A : Type 0} (fault : Fault) → is_beyond fault ≡ false → HasFault bytes fault → A
  never fault not_beyond h = absurd (true≢false (sym (none fault h) ∙ not_beyond))

  of_part : {A : Type 0} (e : PoolFault) → IsJustPart bytes e → A
  of_part pool.NoMemory h = absurd h
  of_part (pool.Short at) h = never (Short at) refl h
  of_part (pool.LongLeb at) h = never (LongLeb at) refl h
  of_part (pool.BadText at) h = never (BadText at) refl h
  of_part (pool.BadDescriptor at) h = never (BadDescriptor at) refl h
  of_part (pool.Index at value size) h = never (Index at value size) refl h
  of_part (pool.Order table place) h = never (Order table place) refl h
  of_part (pool.BadValue at) h = never (BadValue at) refl h
  of_part (pool.Deep at) h = never (Deep at) refl h
  of_part (pool.Shorty at) h = never (Shorty at) refl h
  of_part (pool.Limit limit) h = absurd h

  pub only_limits : (e : DexFault) → IsJust bytes e → IsLimit e
  only_limits dex.NoMemory h = absurd h
  only_limits (dex.Short at) h = never (Short at) refl h
  only_limits dex.Magic h = never Magic refl h
  only_limits (dex.Header at) h = never (Header at) refl h
  only_limits (dex.Checksum stored computed) h = never (Checksum stored computed) refl h
  only_limits (dex.Pool fault) h = of_part fault h
  only_limits (dex.Code method fault) h = never (Code method fault) refl h
  only_limits (dex.Member class place) h = never (Member class place) refl h
  only_limits (dex.Root class) h = never (Root class) refl h
  only_limits (dex.FrameSize method) h = never (FrameSize method) refl h
  only_limits (dex.Limit limit) h = tt

pub reads : (bytes : List ℕ) → ((i : ℕ) → slice_index bytes i < 256) → IsFaultless bytes → IsReadOrPast (program_at bytes)
reads bytes are none = by_result (program_at bytes) refl
  where
    by_result : (read : Result Program DexFault) → program_at bytes ≡ read → IsReadOrPast read
    by_result (Ok program) h = tt
    by_result (Err e) h = only_limits bytes none e ((fails_program bytes are).fault e h)

of_limit : (e : DexFault) → IsLimit e → IsLimitOrFree e
of_limit (dex.Limit limit) h = tt
of_limit e h = absurd h

pub answers : (bytes : List ℕ) → ((i : ℕ) → slice_index bytes i < 256) → IsFaultless bytes → (result : Result Program DexFault) → Gives is_free (λ program. program) result (program_at bytes) → IsReadOrFree result
answers bytes are none (Ok program) h = tt
answers bytes are none (Err dex.NoMemory) h = tt
answers bytes are none (Err e) h = of_limit e (only_limits bytes none e ((fails_program bytes are).fault e h))
