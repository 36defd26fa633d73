-- A walk over interfaces that lists each behind those above it: its steps.
use Rattle.std.specs.Prelude.{◌≡◌, ◌<◌, ◌≤◌, ◌+◌, ◌*◌, ◌⊎◌, ℕ, Bool, true, false, List, ◌∷◌, ◌++◌, map, length, reverse, slice_get, slice_index_or, slice_set}
use Rattle.program_model.specs.declared.program.Program.{Program}
use Rattle.class_defs.specs.Members.{is_interface}
use Rattle.class_defs.specs.Places.{interface_places}
use Rattle.dalvik_lookups.specs.declared.starts.Rise.{Rise}
use Rattle.dalvik_lookups.specs.declared.starts.Visit.{Visit}
use Rattle.dalvik_lookups.specs.declared.starts.Visit.TheVariants.{Above, Itself}
use Rattle.dalvik_lookups.specs.Listing.{left}
use Rattle.dalvik_lookups.specs.Starting.{has_default, only_if}

-- what is to be done, the first of it first
abbrev pub todo : Rise → List Visit
todo r = reverse r.visits.items

-- How much is left to do: a class that isn't seen may let as many others wait as a list can hold.
abbrev pub work : List Bool → List Visit → ℕ
work seen stack = left seen * 9223372036854775808 + length stack

-- the class is no interface, or the walk has been there
pub record Skipped (p : Program) (class : ℕ) (seen : List Bool) (stack : List Visit) (seen' : List Bool) (stack' : List Visit) : Type 0 where
  pub same : seen' ≡ seen
  pub rest : stack' ≡ stack
  pub why : (is_interface (slice_get p.classes class) ≡ false) ⊎ ((slice_index_or seen class false ≡ true) ⊎ (length seen ≤ class))

-- the walk goes up from an interface, which is listed behind those above it
pub record Opened (p : Program) (class : ℕ) (seen : List Bool) (stack : List Visit) (seen' : List Bool) (stack' : List Visit) : Type 0 where
  pub interface : is_interface (slice_get p.classes class) ≡ true
  pub short : class < length seen
  pub new : slice_index_or seen class false ≡ false
  pub marked : seen' ≡ slice_set seen class true
  pub more : stack' ≡ map (λ c. Above c) (interface_places p class) ++ (Itself class ∷ stack)

-- an interface is listed if it has a virtual method with code
pub record Listed (p : Program) (class : ℕ) (seen : List Bool) (stack : List Visit) (out : List ℕ) (seen' : List Bool) (stack' : List Visit) (out' : List ℕ) : Type 0 where
  pub same : seen' ≡ seen
  pub rest : stack' ≡ stack
  pub more : out' ≡ out ++ only_if (has_default p (slice_get p.classes class)) class

-- one step
abbrev pub Goes : Program → Visit → List Bool → List Visit → List ℕ → List Bool → List Visit → List ℕ → Type 0
Goes p (Above c) seen stack out seen' stack' out' = (Skipped p c seen stack seen' stack' ⊎ Opened p c seen stack seen' stack') × (out' ≡ out)
Goes p (Itself c) seen stack out seen' stack' out' = Listed p c seen stack out seen' stack' out'
