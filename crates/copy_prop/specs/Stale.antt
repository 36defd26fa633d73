-- Reads of a copy that could read the original (this project's profile).
use Rattle.std.specs.Prelude.{◌≡◌, ℕ, ◌+◌, ◌<◌, ◌≤◌, pos, Bool, true, false, ◌&&◌, ◌||◌, if◌then◌else◌, nat_eq, List, Some, Contains}
use Rattle.insn_set.specs.Registers.{in_operand, writes_of}
use Rattle.insn_set.specs.Spelling.{is_encodable, units_of}
use Rattle.insn_set.specs.Widths.{is_wide_slot}
use Rattle.insn_set.specs.declared.ops.Slot.{Slot}
use Rattle.insn_set.specs.declared.form.Insn.{Insn}
use Rattle.insn_set.specs.declared.form.Insn.TheVariants.{Move, CheckCast}
use Rattle.program_model.specs.declared.body.Body.{Body}
use Rattle.flow_cfg.specs.Walks.{successors_of}
use Rattle.insn_regs.specs.Remade.{remade}
use Rattle.insn_regs.specs.Wides.{reads_as}
use Rattle.body_graph.specs.Walks.{insn_at, onward, IsReached, IsReadAt}

-- a Move at a position
abbrev pub IsCopy : Body → ℕ → Slot → ℕ → ℕ → Type 0
IsCopy b at slot to from = insn_at b at ≡ Some (Move slot to from)

-- the registers that a Move writes, or those that it reads
abbrev pub in_copy : Slot → ℕ → ℕ → Bool
in_copy slot at r = in_operand (is_wide_slot slot) at r

abbrev pub in_either : Slot → ℕ → ℕ → ℕ → Bool
in_either slot to from r = in_copy slot to r || in_copy slot from r

abbrev pub overlaps : Slot → ℕ → ℕ → Bool
overlaps slot to from = in_copy slot to from || in_copy slot from to

abbrev pub casts : Insn → ℕ → Bool
casts (CheckCast on kind) r = nat_eq r on
casts f r = false

abbrev pub is_cast : Insn → Bool
is_cast (CheckCast on kind) = true
is_cast f = false

-- Some walk from the entry comes to a position without the copy: it hasn't passed the Move, or a register of the copy
-- was written or cast behind its last pass.
pub data IsSpoilt (b : Body) (at : ℕ) (slot : Slot) (to from : ℕ) : ℕ → Type 0 where
  Begins : IsSpoilt b at slot to from 0
  Stays : (n m : ℕ) → nat_eq n at ≡ false → IsSpoilt b at slot to from n → Contains (successors_of b n) m → IsSpoilt b at slot to from m
  Written : (n m r : ℕ) (f : Insn) → nat_eq n at ≡ false → IsReached b n → insn_at b n ≡ Some f → (in_either slot to from r && writes_of f r) ≡ true → Contains (onward f n) m → IsSpoilt b at slot to from m
  Cast : (n m r : ℕ) (f : Insn) → IsReached b n → insn_at b n ≡ Some f → (in_either slot to from r && casts f r) ≡ true → Contains (successors_of b n) m → IsSpoilt b at slot to from m

-- `from` in place of each `to` that is read, of a wide both halves
abbrev pub instead : Slot → ℕ → ℕ → ℕ → ℕ
instead slot to from r = if nat_eq r to then from else if is_wide_slot slot && nat_eq r (to + 1) then from + 1 else r

abbrev pub reading : Slot → ℕ → ℕ → Insn → Insn
reading slot to from f = remade (instead slot to from) (λ r. r) f

-- the units of the shortest spelling of an instruction that is no branch
abbrev pub units : Insn → ℕ
units f = units_of f (pos 0)

-- The Move stands for the read of its copy at a position. `w` are the widths of the arguments of all methods.
pub record StandsFor (w : List (List Bool)) (b : Body) (at : ℕ) (slot : Slot) (to from : ℕ) (n : ℕ) (f : Insn) : Type 0 where
  pub reached : IsReached b n
  pub kept : IsSpoilt b at slot to from n → ⊥
  pub apart : overlaps slot to from ≡ false
  pub read : reads_as w slot f to ≡ true
  pub plain : is_cast f ≡ false
  pub encodable : is_encodable (reading slot to from f) ≡ true
  pub short : units (reading slot to from f) ≤ units f

-- The Move stands for every read of its copy behind it.
abbrev pub StandsForAll : List (List Bool) → Body → ℕ → Slot → ℕ → ℕ → Type 0
StandsForAll w b at slot to from = (r m n : ℕ) (f : Insn) → in_copy slot to r ≡ true → Contains (successors_of b at) m → IsReadAt b r m n → insn_at b n ≡ Some f → StandsFor w b at slot to from n f

pub data IsWorthIt (w : List (List Bool)) (b : Body) (at : ℕ) (slot : Slot) (to from : ℕ) : Type 0 where
  Lower : from < to → IsWorthIt w b at slot to from
  All : StandsForAll w b at slot to from → IsWorthIt w b at slot to from

-- The Move stands for the read at the position, and that is worth it.
pub record IsStaleBy (w : List (List Bool)) (b : Body) (n : ℕ) (f : Insn) (at : ℕ) (slot : Slot) (to from : ℕ) : Type 0 where
  pub copy : IsCopy b at slot to from
  pub stands : StandsFor w b at slot to from n f
  pub worth : IsWorthIt w b at slot to from

pub record IsStale (w : List (List Bool)) (b : Body) (n : ℕ) : Type 0 where
  pub at : ℕ
  pub slot : Slot
  pub to : ℕ
  pub from : ℕ
  pub form : Insn
  pub has_form : insn_at b n ≡ Some form
  pub by : IsStaleBy w b n form at slot to from
