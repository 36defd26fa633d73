-- Files in which no fault stands, and what reading answers of them.
use Rattle.std.specs.Prelude.{◌≡◌, ℕ, List, Bool, true, false, Result, Ok, Err}
use Rattle.program_model.specs.declared.program.Program.{Program}
use Rattle.dex_read.specs.declared.fault.DexFault.{DexFault}
use Rattle.dex_read.specs.declared.fault.DexFault.TheVariants as dex
use Rattle.dex_defs.specs.Parts.{Fault, Cycle, Twice, SplitOverride, IllTyped}
use Rattle.dex_defs.specs.ClassFaults.{HasFault}

-- whether a file with the fault is read all the same: one of the class graph, or of types
abbrev pub is_beyond : Fault → Bool
is_beyond (Cycle class) = true
is_beyond (Twice class) = true
is_beyond (SplitOverride class method) = true
is_beyond (IllTyped method position register) = true
is_beyond fault = false

-- no other fault stands in the bytes
abbrev pub IsFaultless : List ℕ → Type 0
IsFaultless bytes = (fault : Fault) → HasFault bytes fault → is_beyond fault ≡ true

-- a passed limit
abbrev pub IsLimit : DexFault → Type 0
IsLimit (dex.Limit limit) = Unit {0}
IsLimit fault = ⊥

-- a program, or a passed limit
abbrev pub IsReadOrPast : Result Program DexFault → Type 0
IsReadOrPast (Ok program) = Unit {0}
IsReadOrPast (Err fault) = IsLimit fault

-- a passed limit, or want of memory
abbrev pub IsLimitOrFree : DexFault → Type 0
IsLimitOrFree dex.NoMemory = Unit {0}
IsLimitOrFree fault = IsLimit fault

-- a program, a passed limit, or want of memory
abbrev pub IsReadOrFree : Result Program DexFault → Type 0
IsReadOrFree (Ok program) = Unit {0}
IsReadOrFree (Err fault) = IsLimitOrFree fault
