-- What stands at the positions of a caller: the method that is copied there, and what takes its result.
use Rattle.std.specs.Prelude.{ℕ, zero, suc, Bool, false, ◌&&◌, max, List, [], ◌∷◌, Option, Some, None, is_some, slice_get, slice_index_or}
use Rattle.insn_set.specs.declared.ops.Slot.{Slot}
use Rattle.insn_set.specs.declared.form.Insn.{Insn}
use Rattle.insn_set.specs.declared.form.Insn.TheVariants as insn
use Rattle.splice.specs.declared.callee.Callee.{Callee}

-- the method that is copied at a position
abbrev pub chosen_at : List (Option Callee) → ℕ → Option Callee
chosen_at chosen n = slice_index_or chosen n None

-- the slot and the register of a move-result
abbrev pub Taken : Type 0
Taken = Option (Slot × ℕ)

abbrev pub taken_by : Option Insn → Taken
taken_by (Some (insn.MoveResult slot to)) = Some (slot, to)
taken_by i = None

-- the move-result behind a call in whose place a method is copied goes
abbrev pub is_dropped : List (Option Callee) → List Insn → ℕ → Bool
is_dropped chosen insns zero = false
is_dropped chosen insns (suc n) = is_some (chosen_at chosen n) && is_some (taken_by (slice_get insns (suc n)))

-- the greatest register count of the methods that are copied
abbrev pub registers_of : Option Callee → ℕ
registers_of None = 0
registers_of (Some c) = c.body.now.registers

abbrev pub greatest : List (Option Callee) → ℕ
greatest [] = 0
greatest (c ∷ cs) = max (registers_of c) (greatest cs)

-- the registers that a call passes
abbrev pub args_of : Insn → List ℕ
args_of (insn.Invoke kind method args) = args
args_of i = []
