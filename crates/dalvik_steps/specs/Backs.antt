-- What a value does that comes back to the position that asked for it.
use Rattle.std.specs.Prelude.{ℕ, ◌≡◌, ◌+◌, ◌-◌, ◌<◌, ◌^◌, Bool, true, false, List, length, Option, Some, None, slice_get}
use Rattle.insn_set.specs.declared.form.Insn.{Insn}
use Rattle.insn_set.specs.declared.form.Insn.TheVariants as insn
use Rattle.insn_set.specs.declared.ops.Item.{Item}
use Rattle.dalvik_state.specs.declared.datum.Datum.{Datum}
use Rattle.dalvik_state.specs.declared.datum.Datum.TheVariants as datum
use Rattle.dalvik_state.specs.declared.frame.Frame.{Frame}
use Rattle.dalvik_state.specs.declared.state.State.{State}
use Rattle.dalvik_state.specs.declared.state.Waiting.{Waiting}
use Rattle.dalvik_state.specs.declared.state.Waiting.TheVariants as waiting
use Rattle.dalvik_state.specs.Frames.{with_item, GoesOn, IsSameCode}
use Rattle.dalvik_state.specs.States.{ChangesTop, KeepsRest}

-- the register for which a read asks a value
abbrev pub asked_by : Option Insn → Option (Item × ℕ)
asked_by (Some (insn.InstanceGet item to on field)) = Some (item, to)
asked_by (Some (insn.StaticGet item to field)) = Some (item, to)
asked_by other = None

-- the frame goes on with the result of a call, and all else stays
pub record TakesResult (old new : Frame) (d : Datum) : Type 0 where
  pub code : IsSameCode old new
  pub registers : new.registers.items ≡ old.registers.items
  pub position : old.position < 2 ^ 63 → new.position ≡ old.position + 1
  pub result : new.result ≡ d
  pub caught : new.caught ≡ old.caught

-- by the register that is asked for
abbrev pub BacksBy : Option Datum → Option (Item × ℕ) → Frame → Frame → Type 0
BacksBy None at f g = TakesResult f g (datum.Word 0)
BacksBy (Some d) (Some at) f g = GoesOn f g (with_item at.0 f.registers.items at.1 d)
BacksBy (Some d) None f g = TakesResult f g d

-- the frame goes on with a value; where none comes, nothing is left of an earlier result
pub record Backs (value : Option Datum) (f g : Frame) : Type 0 where
  pub backs : BacksBy value (asked_by (slice_get f.body.now.insns f.position)) f g

-- ---- what a value is given to

-- the entry on top of a stack
abbrev pub last_of : List Waiting → Option Waiting
last_of stack = slice_get stack (length stack - 1)

abbrev pub is_outside : Option Waiting → Bool
is_outside (Some (waiting.Outside owes pending)) = true
is_outside other = false

-- the frame goes on with the value, only the stack changes
pub record TakesBack (value : Option Datum) (old new : State) : Type 0 where
  pub stack : ChangesTop (Backs value) old.stack.items new.stack.items
  pub rest : KeepsRest old new

-- a class that ends takes nothing, and nothing else takes a value
abbrev pub HandedTo : Option Waiting → Option Datum → State → State → Type 0
HandedTo (Some (waiting.Method f)) value old new = TakesBack value old new
HandedTo (Some (waiting.Ending class)) value old new = new ≡ old
HandedTo other value old new = new ≡ record old { ended = true }

pub record IsHanded (value : Option Datum) (old new : State) : Type 0 where
  pub handed : HandedTo (last_of old.stack.items) value old new
