-- The typing of a squeezed body: that of the body, without the positions that go and without what no mark reaches, and with
-- other numbers for the positions where objects were made.
use Rattle.std.specs.Prelude.{◌≡◌, ℕ, suc, ◌+◌, ◌<◌, Bool, true, false, List, [], ◌∷◌, length, map, Option, Some, None, slice_get, if◌then◌else◌, Contains}
use Rattle.std.specs.Option.{option_map}
use Rattle.dalvik_defs.specs.declared.forms.Form.{Form}
use Rattle.dalvik_defs.specs.declared.program.NamedBody.{NamedBody}
use Rattle.dalvik_defs.specs.declared.program.NamedProgram.{NamedProgram}
use Rattle.pass_defs.specs.Kinds.{Kind, is_below}
use Rattle.pass_defs.specs.Thinned.{Fate, Stays, Empties, Goes, stays, place, left}
use Rattle.pass_defs.specs.Typed.{Table}
use Rattle.pass_defs.specs.Walks.{form_at, onward, caught}
use Rattle.thin_laws.specs.Squeezing.{IsSkipped}
use Rattle.thin_laws.specs.Thins.{Right}
use Rattle.thin_laws.specs.Renamed.{kinds_renamed}

-- the order of kinds
abbrev pub IsTransitive : NamedProgram → Type 0
IsTransitive p = (a b c : Kind) → is_below p a b ≡ true → is_below p b c ≡ true → is_below p a c ≡ true

-- The marks are closed: the entry has one, and so has each position where a walk goes on from a marked one. What is marked has a
-- form, what is left is marked, and what is marked and doesn't stay is a nop, or a goto to the next position that is left.
pub record SqueezesMarked (marks : ℕ → Bool) (fs : List Fate) (b : NamedBody) : Type 0 where
  pub long : length fs ≡ length b.forms
  pub within : (n : ℕ) → marks n ≡ true → n < length b.forms
  pub entry : marks 0 ≡ true
  pub onward : (n m : ℕ) (f : Form) → marks n ≡ true → form_at b n ≡ Some f → Contains (onward f n) m → marks m ≡ true
  pub caught : (n m : ℕ) (f : Form) → marks n ≡ true → form_at b n ≡ Some f → Contains (caught b f n) m → marks m ≡ true
  pub left : (n : ℕ) (f : Fate) → slice_get fs n ≡ Some f → (f ≡ Goes → ⊥) → marks n ≡ true
  pub skipped : (n : ℕ) (x : Form) (f : Fate) → marks n ≡ true → form_at b n ≡ Some x → slice_get fs n ≡ Some f → stays f ≡ false → IsSkipped fs n x

-- fates that some marks make right
abbrev pub Squeezes : Right
Squeezes k fs b = (marks : ℕ → Bool) × SqueezesMarked marks fs b

abbrev pub is_left : Option Fate → Bool
is_left (Some Stays) = true
is_left (Some Empties) = true
is_left o = false

-- the place of what is left, and of no other position
abbrev pub site : List Fate → ℕ → ℕ
site fs n = if is_left (slice_get fs n) then place fs n else length fs + n

-- the states of marked positions
abbrev pub marked : (ℕ → Bool) → Table → Table
marked marks [] = []
marked marks (a ∷ t) = (if marks 0 then a else None) ∷ marked (λ n. marks (suc n)) t

abbrev pub squeezed_table : (ℕ → Bool) → List Fate → Table → Table
squeezed_table marks fs t = left fs (map (option_map (kinds_renamed (site fs))) (marked marks t))
