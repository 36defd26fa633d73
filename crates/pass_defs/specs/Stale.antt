-- Reads of a copy that could read the original (this project's profile).
use Rattle.std.specs.Prelude.{◌≡◌, ℕ, ◌+◌, ◌<◌, ◌≤◌, Bool, true, false, ◌&&◌, ◌||◌, not, if◌then◌else◌, nat_eq, Some, Contains}
use Rattle.std.specs.List.{list_any}
use Rattle.insn_set.specs.Registers.{in_operand}
use Rattle.insn_set.specs.Spelling.{is_encodable}
use Rattle.insn_set.specs.Widths.{is_wide_slot}
use Rattle.insn_set.specs.declared.ops.Slot.{Slot}
use Rattle.dalvik_defs.specs.declared.forms.Form.{Form}
use Rattle.dalvik_defs.specs.declared.forms.Form.TheVariants as form
use Rattle.dalvik_defs.specs.declared.program.NamedBody.{NamedBody}
use Rattle.pass_defs.specs.Bare.{bare, reads, writes}
use Rattle.pass_defs.specs.Remade.{remade}
use Rattle.pass_defs.specs.Walks.{form_at, onward, successors, IsReached, IsReadAt}
use Rattle.pass_defs.specs.Foldable.{units}
use Rattle.pass_defs.specs.Packed.{wides_read}

-- a Move at a position
pub record Copy (b : NamedBody) (at : ℕ) : Type 0 where
  pub slot : Slot
  pub to : ℕ
  pub from : ℕ
  pub stands : form_at b at ≡ Some (form.Move slot to from)

-- the registers that a Move writes, or those that it reads
abbrev pub in_copy : Slot → ℕ → ℕ → Bool
in_copy slot at r = in_operand (is_wide_slot slot) at r

abbrev pub in_either : Slot → ℕ → ℕ → ℕ → Bool
in_either slot to from r = in_copy slot to r || in_copy slot from r

abbrev pub overlaps : Slot → ℕ → ℕ → Bool
overlaps slot to from = in_copy slot to from || in_copy slot from to

abbrev pub casts : Form → ℕ → Bool
casts (form.CheckCast on kind) r = nat_eq on r
casts f r = false

abbrev pub is_cast : Form → Bool
is_cast (form.CheckCast on kind) = true
is_cast f = false

-- Some walk from the entry comes to a position without the copy: it hasn't passed the Move, or a register of the copy
-- was written or cast behind its last pass.
pub data IsSpoilt (b : NamedBody) (at : ℕ) (slot : Slot) (to from : ℕ) : ℕ → Type 0 where
  Begins : IsSpoilt b at slot to from 0
  Stays : (n m : ℕ) → nat_eq n at ≡ false → IsSpoilt b at slot to from n → Contains (successors b n) m → IsSpoilt b at slot to from m
  Written : (n m r : ℕ) (f : Form) → nat_eq n at ≡ false → IsReached b n → form_at b n ≡ Some f → (in_either slot to from r && writes f r) ≡ true → Contains (onward f n) m → IsSpoilt b at slot to from m
  Cast : (n m r : ℕ) (f : Form) → IsReached b n → form_at b n ≡ Some f → (in_either slot to from r && casts f r) ≡ true → Contains (successors b n) m → IsSpoilt b at slot to from m

-- whether the form reads an operand as wide as the slot that begins at the register
abbrev pub reads_as : Slot → Form → ℕ → Bool
reads_as slot f r = elim (is_wide_slot slot) [
  | true ↦ list_any (nat_eq r) (wides_read f)
  | false ↦ reads f r && not (list_any (λ w. in_operand true w r) (wides_read f))
]

-- `from` in place of each `to` that is read, of a wide both halves
abbrev pub instead : Slot → ℕ → ℕ → ℕ → ℕ
instead slot to from r = if nat_eq r to then from else if is_wide_slot slot && nat_eq r (to + 1) then from + 1 else r

abbrev pub reading : Slot → ℕ → ℕ → Form → Form
reading slot to from f = remade (instead slot to from) (λ r. r) (λ t. t) f

pub record StandsFor (b : NamedBody) (at : ℕ) (slot : Slot) (to from : ℕ) (n : ℕ) (f : Form) : Type 0 where
  pub reached : IsReached b n
  pub kept : IsSpoilt b at slot to from n → ⊥
  pub apart : overlaps slot to from ≡ false
  pub read : reads_as slot f to ≡ true
  pub plain : is_cast f ≡ false
  pub encodable : is_encodable (bare (reading slot to from f)) ≡ true
  pub short : units (reading slot to from f) ≤ units f

-- The Move stands for every read of its copy behind it.
abbrev pub StandsForAll : NamedBody → ℕ → Slot → ℕ → ℕ → Type 0
StandsForAll b at slot to from = (r m n : ℕ) (f : Form) → in_copy slot to r ≡ true → Contains (successors b at) m → IsReadAt b r m n → form_at b n ≡ Some f → StandsFor b at slot to from n f

pub data IsWorthIt (b : NamedBody) (at : ℕ) (slot : Slot) (to from : ℕ) : Type 0 where
  Lower : from < to → IsWorthIt b at slot to from
  All : StandsForAll b at slot to from → IsWorthIt b at slot to from

pub record IsStale (b : NamedBody) (n : ℕ) : Type 0 where
  pub at : ℕ
  pub copy : Copy b at
  pub form : Form
  pub has_form : form_at b n ≡ Some form
  pub stands : StandsFor b at copy.slot copy.to copy.from n form
  pub worth : IsWorthIt b at copy.slot copy.to copy.from
