-- Instructions that do nothing that is seen later (this project's profile).
use Rattle.std.specs.Prelude.{◌≡◌, ℕ, ◌+◌, Bool, true, false, Option, Some, None}
use Rattle.std.specs.List.{list_any}
use Rattle.std.specs.Prelude.{nat_eq, ◌&&◌}
use Rattle.dalvik_defs.specs.Face.{bodies_of}
use Rattle.dalvik_defs.specs.Outer.{Outer}
use Rattle.dalvik_defs.specs.declared.names.MethodKey.{MethodKey}
use Rattle.dalvik_defs.specs.declared.forms.Form.{Form}
use Rattle.dalvik_defs.specs.declared.forms.Form.TheVariants as form
use Rattle.dalvik_defs.specs.declared.program.NamedBody.{NamedBody}
use Rattle.dalvik_defs.specs.declared.program.NamedProgram.{NamedProgram}
use Rattle.pass_defs.specs.Bare.{writes, targets}
use Rattle.pass_defs.specs.Walks.{form_at, IsReached, IsReadAfter}
use Rattle.pass_defs.specs.Pure.{is_branch}
use Rattle.pass_defs.specs.Constants.{IsPure}

-- the next position is a branch with this position as a target: without it the branch would go to itself
abbrev pub is_target_of : Option Form → ℕ → Bool
is_target_of (Some f) n = is_branch f && list_any (nat_eq n) (targets f)
is_target_of None n = false

abbrev pub is_held : NamedBody → ℕ → Bool
is_held b n = is_target_of (form_at b (n + 1)) n

-- a pure form that writes a register, and no walk onward reads what it writes before that is written
pub record IsUnread (p : NamedProgram) (o : Outer) (k : MethodKey) (b : NamedBody) (n : ℕ) (f : Form) : Type 0 where
  pub pure : IsPure p o k n f
  pub register : ℕ
  pub writes_it : writes f register ≡ true
  pub unread : (r : ℕ) → writes f r ≡ true → IsReadAfter b r n → ⊥

pub data IsIdleForm (p : NamedProgram) (o : Outer) (k : MethodKey) (b : NamedBody) (n : ℕ) : Form → Type 0 where
  Unreached : (f : Form) → (IsReached b n → ⊥) → IsIdleForm p o k b n f
  Unread : (f : Form) → IsUnread p o k b n f → IsIdleForm p o k b n f
  Nop : is_held b n ≡ false → IsIdleForm p o k b n form.Nop
  Skip : IsIdleForm p o k b n (form.Goto (n + 1))

-- An idle form at a place where a nop has to stay, other than one that no walk reaches, becomes such a nop.
pub record IsIdle (p : NamedProgram) (o : Outer) (k : MethodKey) (n : ℕ) : Type 0 where
  pub body : NamedBody
  pub form : Form
  pub has_body : bodies_of p k ≡ Some body
  pub has_form : form_at body n ≡ Some form
  pub idle : IsIdleForm p o k body n form
