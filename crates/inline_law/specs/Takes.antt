-- What is asked of a call with a method's body in its place.
use Rattle.std.specs.Prelude.{◌≡◌, ℕ, false, Some}
use Rattle.insn_set.specs.Widths.{is_wide_slot}
use Rattle.insn_set.specs.declared.ops.Slot.{Slot}
use Rattle.dalvik_defs.specs.Names.{is_void, is_wide}
use Rattle.dalvik_defs.specs.declared.forms.Form.TheVariants as form
use Rattle.dalvik_defs.specs.declared.program.NamedBody.{NamedBody}
use Rattle.dalvik_defs.specs.declared.program.NamedMethod.{NamedMethod}
use Rattle.pass_defs.specs.Inlined.{Taken}
use Rattle.pass_defs.specs.Walks.{form_at}

-- what is taken is a result of the method, and as wide
pub record Takes (m : NamedMethod) (taken : Taken) : Type 0 where
  pub gives : (s : Slot × ℕ) → taken ≡ Some s → is_void m.signature.result ≡ false
  pub wide : (s : Slot × ℕ) → taken ≡ Some s → is_wide m.signature.result ≡ is_wide_slot s.0

-- nothing in a body takes a caught object
abbrev pub CatchesNone : NamedBody → Type 0
CatchesNone b = (j to : ℕ) → form_at b j ≡ Some (form.MoveException to) → ⊥
