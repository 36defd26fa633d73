-- Which calls and divisions of a body do nothing, by number (Dalvik bytecode, "Summary of bytecode set", "binop"; this project's
-- profile).
use Rattle.std.specs.Prelude.{◌≡◌, ◌↔◌, ℕ, ◌+◌, ◌<◌, ◌&&◌, ◌||◌, not, Bool, true, false, nat_lt, List, [], ◌∷◌, ◌++◌, length, Option, Some, None, slice_get}
use Rattle.std.specs.List.{list_any}
use Rattle.insn_set.specs.Flow.{divides}
use Rattle.insn_set.specs.Registers.{in_operand}
use Rattle.insn_set.specs.Widths.{binary_is_wide}
use Rattle.insn_set.specs.declared.ops.BinaryOp.{BinaryOp}
use Rattle.insn_set.specs.declared.form.Insn.{Insn}
use Rattle.insn_set.specs.declared.form.Insn.TheVariants as insn
use Rattle.program_model.specs.declared.body.Body.{Body}
use Rattle.program_model.specs.declared.program.Program.{Program}
use Rattle.flow_cfg.specs.Walks.{successors_of}
use Rattle.body_graph.specs.Walks.{IsRead, IsReadAfter}
use Rattle.live_regs.specs.Live.{is_live}
use Rattle.live_regs.specs.declared.table.Live.{Live}
use Rattle.dom_frame.specs.Registers.{value_at}
use Rattle.dom_frame.specs.declared.frames.Frame.{Frame}
use Rattle.quiet_methods.specs.Forms.{is_no_zero}
use Rattle.quiet_code.specs.Calls.{is_idle_call}

-- ---- divisions

-- the divisor is one number alone, other than 0, or holds of nothing, or no run comes to the position
abbrev pub divides_well : Option Frame → ℕ → Bool
divides_well (Some f) b = is_no_zero (value_at f.registers b)
divides_well None b = true

-- what is written at a position are registers of the body, and no walk onward reads them before they are written
pub record IsUnread (b : Body) (n : ℕ) (wide : Bool) (to : ℕ) : Type 0 where
  pub inside : (r : ℕ) → in_operand wide to r ≡ true → r < b.registers
  pub unread : (r : ℕ) → in_operand wide to r ≡ true → IsReadAfter b r n → ⊥

-- ---- instructions

-- the instruction takes the result of a call
abbrev pub takes_result : Option Insn → Bool
takes_result (Some (insn.MoveResult slot to)) = true
takes_result o = false

-- an instruction at a position does nothing, where these methods are quiet and these registers are known there
abbrev pub DoesNothing : Program → List Bool → Option Frame → Body → ℕ → Insn → Type 0
DoesNothing p quiet o b n (insn.Invoke kind method args) = (takes_result (slice_get b.insns (n + 1)) ≡ false) × (is_idle_call p quiet o kind method args ≡ true)
DoesNothing p quiet o b n (insn.Binary op to x y) = (divides op ≡ true) × (divides_well o y ≡ true) × IsUnread b n (binary_is_wide op) to
DoesNothing p quiet o b n i = ⊥

-- 32 bits number all positions and regions
abbrev pub is_small : Body → Bool
is_small b = nat_lt (length b.insns + length b.regions) 4294967296

pub record IsIdle (p : Program) (quiet : List Bool) (o : Option Frame) (b : Body) (n : ℕ) (i : Insn) : Type 0 where
  pub small : is_small b ≡ true
  pub nothing : DoesNothing p quiet o b n i

-- ---- how they are found

-- the register is live at a position to which a walk goes
abbrev pub is_live_after : Live → Body → ℕ → ℕ → Bool
is_live_after live b n r = list_any (λ m. is_live live m r) (successors_of b n)

abbrev pub unread_by : (ℕ → Bool) → ℕ → Bool → ℕ → Bool
unread_by after registers false to = nat_lt to registers && not (after to)
unread_by after registers true to = (nat_lt (to + 1) registers && not (after to)) && not (after (to + 1))

abbrev pub unread_at : Option Live → Body → ℕ → Bool → ℕ → Bool
unread_at (Some live) b n wide to = unread_by (is_live_after live b n) b.registers wide to
unread_at None b n wide to = false

abbrev pub division_at : Option Frame → Option Live → Body → ℕ → BinaryOp → ℕ → ℕ → Bool
division_at o live b n op to y = (divides op && divides_well o y) && unread_at live b n (binary_is_wide op) to

abbrev pub does_nothing : Program → List Bool → Option Frame → Option Live → Body → ℕ → Insn → Bool
does_nothing p quiet o live b n (insn.Invoke kind method args) = not (takes_result (slice_get b.insns (n + 1))) && is_idle_call p quiet o kind method args
does_nothing p quiet o live b n (insn.Binary op to x y) = division_at o live b n op to y
does_nothing p quiet o live b n i = false

abbrev pub is_division : Insn → Bool
is_division (insn.Binary op to x y) = divides op
is_division i = false

-- what is live in a body, where it has a division
abbrev pub LiveIn : Body → Option Live → Type 0
LiveIn b (Some live) = (n r : ℕ) → r < b.registers → (is_live live n r ≡ true) ↔ IsRead b r n
LiveIn b None = list_any is_division b.insns ≡ false

abbrev pub does_nothing_at : Program → List Bool → (ℕ → Option Frame) → Option Live → Body → ℕ → Option Insn → Bool
does_nothing_at p quiet at live b n (Some i) = does_nothing p quiet (at n) live b n i
does_nothing_at p quiet at live b n None = false
