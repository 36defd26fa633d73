-- Files that pass no limit, and what is answered of them.
use Rattle.std.specs.Prelude.{List, ℕ, Result, Ok, Err}
use Rattle.program_model.specs.declared.limits.LimitFault.{LimitFault}
use Rattle.program_model.specs.declared.program.Program.{Program}
use Rattle.dex_defs.specs.Limits.{IsPast}
use Rattle.dex_read.specs.declared.fault.DexFault.{DexFault}
use Rattle.dex_read.specs.declared.fault.DexFault.TheVariants as dex

-- of no quantity has the file one thing more than the limit
abbrev pub IsWithin : List ℕ → Type 0
IsWithin bytes = (fault : LimitFault) → IsPast bytes fault → ⊥

-- a program
abbrev pub IsRead : Result Program DexFault → Type 0
IsRead (Ok program) = Unit {0}
IsRead (Err fault) = ⊥

-- a program, or want of memory
abbrev pub IsReadOrWanting : Result Program DexFault → Type 0
IsReadOrWanting (Ok program) = Unit {0}
IsReadOrWanting (Err dex.NoMemory) = Unit {0}
IsReadOrWanting (Err fault) = ⊥
