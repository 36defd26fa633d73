-- What a walk up from a class has come to and still has to go to (this project's profile).
use Rattle.std.specs.Prelude.{◌≡◌, ◌<◌, ◌⊎◌, ℕ, suc, Bool, true, false, List, [], ◌∷◌, length, Option, Some, None, nat_eq, slice_get, slice_index_or}
use Rattle.std.specs.List.{list_any}
use Rattle.hierarchy.specs.Climbing.{In}
use Rattle.program_model.specs.declared.program.Class.{Class}
use Rattle.program_model.specs.declared.program.Program.{Program}
use Rattle.class_defs.specs.Places.{above_places, is_under}

-- a type stands in the interface list of a class
abbrev pub lists : ℕ → Class → Bool
lists kind c = list_any (nat_eq kind) c.interfaces

abbrev pub lists_in : ℕ → Option Class → Bool
lists_in kind None = false
lists_in kind (Some c) = lists kind c

-- a type stands in the interface list of the class at a place
abbrev pub lists_at : Program → ℕ → ℕ → Bool
lists_at p kind c = lists_in kind (slice_get p.classes c)

-- how many classes aren't seen
abbrev pub left : List Bool → ℕ
left [] = 0
left (true ∷ bs) = left bs
left (false ∷ bs) = suc (left bs)

-- these classes are seen, and those of them that weren't seen before wait
pub record Grows (us : List ℕ) (seen : List Bool) (stack : List ℕ) (seen' : List Bool) (stack' : List ℕ) : Type 0 where
  pub size : length seen' ≡ length seen
  pub kept : (c : ℕ) → slice_index_or seen c false ≡ true → slice_index_or seen' c false ≡ true
  pub from : (c : ℕ) → slice_index_or seen' c false ≡ true → (slice_index_or seen c false ≡ true) ⊎ (In c us × In c stack')
  pub reached : (c : ℕ) → In c us → c < length seen → slice_index_or seen' c false ≡ true
  pub waits : (c : ℕ) → In c stack → In c stack'
  pub waiting : (c : ℕ) → In c stack' → In c stack ⊎ (slice_index_or seen' c false ≡ true)

-- The walk up from a class for one that passes a test: what is seen stands above the class, and passes or leads on only where it
-- still waits.
pub record Climbs (p : Program) (class : ℕ) (test : ℕ → Bool) (seen : List Bool) (stack : List ℕ) : Type 0 where
  pub size : length seen ≡ length p.classes
  pub start : class < length p.classes → slice_index_or seen class false ≡ true
  pub sound : (c : ℕ) → slice_index_or seen c false ≡ true → is_under p class c ≡ true
  pub stacked : (c : ℕ) → In c stack → slice_index_or seen c false ≡ true
  pub closed : (c : ℕ) → slice_index_or seen c false ≡ true → In c stack ⊎ ((u : ℕ) → In u (above_places p c) → u < length p.classes → slice_index_or seen u false ≡ true)
  pub failed : (c : ℕ) → slice_index_or seen c false ≡ true → In c stack ⊎ (test c ≡ false)
