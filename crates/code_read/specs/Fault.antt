-- The faults of a body, and which of them is free.
use Rattle.std.specs.Prelude.{ℕ, ◌+◌, Bool, true, false, not, Option, Some, None, Result, Ok, Err, List, position, slice_index}
use Rattle.program_model.specs.declared.limits.Counted.{Counted}
use Rattle.program_model.specs.Limits.{limit_of}
use Rattle.code_read.specs.declared.fault.CodeFault.{CodeFault}
use Rattle.code_read.specs.declared.fault.CodeFault.TheVariants.{NoMemory, Limit}

-- want of memory
abbrev pub is_free : CodeFault → Bool
is_free NoMemory = true
is_free _ = false

-- a passed limit: the quantities are counted one by one
abbrev pub passed : Counted → CodeFault
passed counted = Limit (record { counted = counted; number = limit_of counted + 1 })

-- refuses a place, if there is one
abbrev pub refuse : (ℕ → CodeFault) → Option ℕ → Result (Unit {0}) CodeFault
refuse fault None = Ok tt
refuse fault (Some place) = Err (fault place)

-- the value, or the fault where there is none
abbrev pub or_fault : {A : Type 0} → CodeFault → Option A → Result A CodeFault
or_fault fault None = Err fault
or_fault fault (Some x) = Ok x
