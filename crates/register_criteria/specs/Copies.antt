-- Registers of a copy and of what is copied.
use Rattle.std.specs.Prelude.{ℕ, ◌+◌, Bool, ◌&&◌, ◌||◌}
use Rattle.insn_set.specs.Widths.{is_wide_slot}
use Rattle.insn_set.specs.declared.ops.Slot.{Slot}

-- a test of some register of a copy
abbrev pub touches : (ℕ → Bool) → Slot → ℕ → ℕ → Bool
touches p slot to from = (p to || p from) || (is_wide_slot slot && (p (to + 1) || p (from + 1)))
