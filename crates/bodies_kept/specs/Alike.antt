-- Originals that have the kinds of their copies, by numbers (this project's profile).
use Rattle.std.specs.Prelude.{◌≡◌, ℕ, ◌+◌, ◌<◌, ◌||◌, Bool, true, false, List, Some}
use Rattle.insn_set.specs.Registers.{reads_of, writes_of}
use Rattle.insn_set.specs.Widths.{is_wide_slot}
use Rattle.insn_set.specs.declared.ops.InvokeKind.{InvokeKind}
use Rattle.insn_set.specs.declared.ops.Slot.{Slot}
use Rattle.insn_set.specs.declared.form.Insn.{Insn}
use Rattle.insn_set.specs.declared.form.Insn.TheVariants as insn
use Rattle.program_model.specs.declared.body.Body.{Body}
use Rattle.body_graph.specs.Walks.{insn_at}
use Rattle.copy_prop.specs.Stale.{IsCopy, overlaps, IsSpoilt}
use Rattle.verify.specs.declared.kinds.Kind.{Kind}
use Rattle.verify.specs.declared.kinds.Kind.TheVariants.{WideLow, WideHigh}
use Rattle.verify.specs.declared.setting.Setting.{Setting}
use Rattle.verify.specs.Frames.{Kinds, kind_at}
use Rattle.verify.specs.Names.{method_class}
use Rattle.verify.specs.Types.{kind_of}

-- a half of a wide
abbrev pub is_half : Kind → Bool
is_half WideLow = true
is_half WideHigh = true
is_half k = false

-- the instructions use registers that the body has, and no constructor is one of a wide type
pub record IsNarrow (s : Setting) (b : Body) : Type 0 where
  pub room : (n r : ℕ) (i : Insn) → insn_at b n ≡ Some i → (reads_of i r || writes_of i r) ≡ true → r < b.registers
  pub calls : (n m : ℕ) (k : InvokeKind) (args : List ℕ) → insn_at b n ≡ Some (insn.Invoke k m args) → is_half (kind_of s.tables.now (method_class s.program.now m)) ≡ false
  pub class : is_half (kind_of s.tables.now s.kind) ≡ false

-- The original has the kind of the copy, which is no half of a wide, or each has both halves.
pub record IsAlike (slot : Slot) (to from : ℕ) (ks : List Kind) : Type 0 where
  pub narrow : is_wide_slot slot ≡ false → (kind_at ks from ≡ kind_at ks to) × (is_half (kind_at ks to) ≡ false)
  pub wide : is_wide_slot slot ≡ true → ((kind_at ks to ≡ WideLow) × (kind_at ks (to + 1) ≡ WideHigh)) × ((kind_at ks from ≡ WideLow) × (kind_at ks (from + 1) ≡ WideHigh))

-- Each Move whose copy stands at the position has such an original.
abbrev pub AreAlike : Body → ℕ → Kinds → Type 0
AreAlike b n a = (at : ℕ) (slot : Slot) (to from : ℕ) → IsCopy b at slot to from → overlaps slot to from ≡ false → (IsSpoilt b at slot to from n → ⊥) → IsAlike slot to from a.registers
