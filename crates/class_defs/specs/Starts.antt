-- Which classes run code when they are initialised, by number (this project's profile).
use Rattle.std.specs.Prelude.{ℕ, zero, suc, ◌&&◌, not, Bool, true, false, List, [], length, Option, Some, None, slice_get, position, cond, codes, is_some}
use Rattle.std.specs.List.{list_all}
use Rattle.program_model.specs.declared.pools.MethodName.{MethodName}
use Rattle.program_model.specs.declared.program.Method.{Method}
use Rattle.program_model.specs.declared.program.Class.{Class}
use Rattle.program_model.specs.declared.program.Program.{Program}
use Rattle.program_model.specs.MemberRules.{is_static}
use Rattle.class_defs.specs.Places.{interface_places, chain_of}
use Rattle.class_defs.specs.Members.{is_named}

abbrev pub names_initialiser : Program → Option MethodName → Bool
names_initialiser p None = false
names_initialiser p (Some q) = is_named p q.name q.proto (codes "<clinit>") [] (codes "V")

abbrev pub is_initialiser : Program → Method → Bool
is_initialiser p m = names_initialiser p (slice_get p.methods m.name)

abbrev pub runs : Option Method → Bool
runs None = false
runs (Some m) = is_static m.flags && is_some m.body

abbrev pub running : List Method → Option ℕ → Option ℕ
running ms None = None
running ms (Some i) = cond (runs (slice_get ms i)) (Some i) None

-- the initialiser of a class: its static method with code of that name, without parameters and result
abbrev pub initialiser_of : Program → Option Class → Option ℕ
initialiser_of p None = None
initialiser_of p (Some k) = running k.methods (position (is_initialiser p) k.methods)

-- the place of the initialiser of the class at a place
abbrev pub initialiser_place : Program → ℕ → Option ℕ
initialiser_place p c = initialiser_of p (slice_get p.classes c)

abbrev pub interfaces_quiet : ℕ → Program → List ℕ → Bool
interfaces_quiet zero p cs = true
interfaces_quiet (suc n) p cs = list_all (λ c. not (is_some (initialiser_place p c)) && interfaces_quiet n p (interface_places p c)) cs

-- A class is trivially initialised where it, its program superclasses and all program interfaces above any of these have no
-- initialiser.
abbrev pub is_trivial : Program → ℕ → Bool
is_trivial p c = list_all (λ d. not (is_some (initialiser_place p d)) && interfaces_quiet (length p.classes) p (interface_places p d)) (chain_of p (Some c))
