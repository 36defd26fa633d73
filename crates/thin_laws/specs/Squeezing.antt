-- What a squeeze removes: positions that no walk reaches, nops, and gotos over positions that go.
use Rattle.std.specs.Prelude.{◌≡◌, ℕ, ◌+◌, ◌<◌, false, List, length, Some, slice_get}
use Rattle.dalvik_defs.specs.declared.forms.Form.{Form}
use Rattle.dalvik_defs.specs.declared.forms.Form.TheVariants as form
use Rattle.dalvik_defs.specs.declared.program.NamedBody.{NamedBody}
use Rattle.pass_defs.specs.Thinned.{Fate, stays, place}
use Rattle.pass_defs.specs.Walks.{form_at, IsReached}

-- a nop goes on to the next position, a goto to its target
abbrev pub Skips : ℕ → Form → ℕ → Type 0
Skips n form.Nop m = m ≡ n + 1
Skips n (form.Goto target) m = m ≡ target
Skips n x m = ⊥

-- every register may be read, and so may the last result
abbrev pub Everything : ℕ → ℕ → Type 0
Everything n r = Unit {0}

abbrev pub Anywhere : ℕ → Type 0
Anywhere n = Unit {0}

-- a nop, or a goto to the next position that is left, as one to the next position itself
pub data IsSkipped (fs : List Fate) (n : ℕ) : Form → Type 0 where
  Nop : IsSkipped fs n form.Nop
  Over : (m : ℕ) → n < m → place fs m ≡ place fs (n + 1) → IsSkipped fs n (form.Goto m)

-- no walk passes the end, and each position that goes or empties is unreached, or such a form
pub record IsSqueezing (fs : List Fate) (b : NamedBody) : Type 0 where
  pub long : length fs ≡ length b.forms
  pub within : (n : ℕ) → IsReached b n → n < length b.forms
  pub skipped : (n : ℕ) (x : Form) (f : Fate) → IsReached b n → form_at b n ≡ Some x → slice_get fs n ≡ Some f → stays f ≡ false → IsSkipped fs n x
