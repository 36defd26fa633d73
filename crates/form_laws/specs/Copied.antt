-- A body that reads originals in place of copies (this project's profile).
use Rattle.std.specs.Prelude.{◌≡◌, ℕ, ◌+◌, ◌<◌, true, false, Some, None, Contains}
use Rattle.insn_set.specs.Widths.{is_wide_slot}
use Rattle.insn_set.specs.declared.ops.Slot.{Slot}
use Rattle.dalvik_defs.specs.Face.{Bodies}
use Rattle.dalvik_defs.specs.declared.names.MethodKey.{MethodKey}
use Rattle.dalvik_defs.specs.declared.forms.Form.{Form}
use Rattle.dalvik_defs.specs.declared.forms.Form.TheVariants as form
use Rattle.dalvik_defs.specs.declared.program.NamedBody.{NamedBody}
use Rattle.dalvik_defs.specs.declared.program.NamedMethod.{NamedMethod}
use Rattle.dalvik_defs.specs.declared.program.NamedClass.{NamedClass}
use Rattle.dalvik_defs.specs.declared.program.NamedProgram.{NamedProgram}
use Rattle.pass_defs.specs.Bare.{reads}
use Rattle.pass_defs.specs.Remade.{remade}
use Rattle.pass_defs.specs.Walks.{form_at, IsReached}
use Rattle.pass_defs.specs.Stale.{overlaps, IsSpoilt}
use Rattle.form_laws.specs.Changes.{width_if, TakesPair}
use Rattle.program_laws.specs.Bodies.{Change, KeepsCode}

-- The first register holds at a position what a Move copied into it from the second one, on every walk from the entry.
pub record IsCopy (b : NamedBody) (n o x : ℕ) : Type 0 where
  pub at : ℕ
  pub slot : Slot
  pub to : ℕ
  pub from : ℕ
  pub stands : form_at b at ≡ Some (form.Move slot to from)
  pub apart : overlaps slot to from ≡ false
  pub kept : IsSpoilt b at slot to from n → ⊥
  pub place : ℕ
  pub below : place < width_if (is_wide_slot slot)
  pub old : o ≡ to + place
  pub new : x ≡ from + place

-- a register, or the original of which it is a copy, and so on
pub data Stands (b : NamedBody) (n : ℕ) : ℕ → ℕ → Type 0 where
  Itself : (o : ℕ) → Stands b n o o
  Original : (o y x : ℕ) → IsCopy b n o y → Stands b n y x → Stands b n o x

-- In the second body forms read other registers, each of which stands for the one that was read. All else stays.
pub record ReadsOriginals (b d : NamedBody) : Type 0 where
  pub new : ℕ → ℕ → ℕ
  pub forms : (n : ℕ) (f : Form) → form_at b n ≡ Some f → form_at d n ≡ Some (remade (new n) (λ r. r) (λ t. t) f)
  pub ends : (n : ℕ) → form_at b n ≡ None → form_at d n ≡ None
  pub regions : d.regions ≡ b.regions
  pub registers : d.registers ≡ b.registers
  pub ins : d.ins ≡ b.ins
  -- halves of a wide are moved together
  pub pairs : (n : ℕ) (f : Form) → form_at b n ≡ Some f → TakesPair (new n) f
  pub stands : (n : ℕ) (f : Form) (r : ℕ) → form_at b n ≡ Some f → IsReached b n → reads f r ≡ true → Stands b n r (new n r)

-- so it is in each method, and methods have code where they had
pub record AllReadOriginals (new : Change) (p : NamedProgram) : Type 0 where
  pub code : KeepsCode new
  pub bodies : (c : NamedClass) (m : NamedMethod) (b d : NamedBody) → Contains p.classes c → Contains c.methods m → m.body ≡ Some b → (new c m).body ≡ Some d → ReadsOriginals b d

-- what a register of the one holds in a register of the other
pub data Equals (find : Bodies) (k : MethodKey) (n o x : ℕ) : Type 0 where
  Same : x ≡ o → Equals find k n o x
  Copies : (b : NamedBody) → find k ≡ Some b → IsCopy b n o x → Equals find k n o x
