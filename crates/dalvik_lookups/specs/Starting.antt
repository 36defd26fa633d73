-- Which classes run code by being initialised before others (this project's profile).
use Rattle.std.specs.Prelude.{ℕ, zero, suc, ◌&&◌, not, Bool, true, false, List, [], ◌∷◌, ◌++◌, length, cond, filter, flat_map, nat_eq, slice_get, Option, Some, None, is_some}
use Rattle.std.specs.List.{list_any}
use Rattle.class_defs.specs.Finding.{beside, is_037}
use Rattle.class_defs.specs.Members.{is_interface}
use Rattle.class_defs.specs.Places.{super_place, interface_places}
use Rattle.program_model.specs.declared.program.Class.{Class}
use Rattle.program_model.specs.declared.program.Method.{Method}
use Rattle.program_model.specs.declared.program.Program.{Program}
use Rattle.program_model.specs.MemberRules.{is_direct}

-- a virtual method with code
abbrev pub is_default : Program → Method → Bool
is_default p m = not (is_direct p m) && is_some m.body

-- a class has such a method
abbrev pub class_default : Program → Class → Bool
class_default p k = list_any (is_default p) k.methods

abbrev pub has_default : Program → Option Class → Bool
has_default p None = false
has_default p (Some k) = class_default p k

-- ---- what is initialised before a class, by places

abbrev pub only_if : Bool → ℕ → List ℕ
only_if true c = c ∷ []
only_if false c = []

-- the interfaces with such a method among some classes and above them, each behind those above it
abbrev pub interfaces_before : ℕ → Program → List ℕ → List ℕ
interfaces_before zero p cs = []
interfaces_before (suc n) p cs = flat_map (λ c. cond (is_interface (slice_get p.classes c)) (interfaces_before n p (interface_places p c) ++ only_if (has_default p (slice_get p.classes c)) c) []) cs

-- each of them once
abbrev pub firsts : List ℕ → List ℕ
firsts [] = []
firsts (c ∷ cs) = c ∷ filter (λ d. not (nat_eq d c)) (firsts cs)

abbrev pub interfaces_first : Program → ℕ → List ℕ
interfaces_first p c = cond (is_037 p.version) (firsts (interfaces_before (length p.classes) p (interface_places p c))) []

-- The program superclass comes first, then in version 037 these interfaces. An interface initialises nothing above it.
abbrev pub initialised_first : Program → ℕ → List ℕ
initialised_first p c = cond (is_interface (slice_get p.classes c)) [] (beside (super_place p c) ++ interfaces_first p c)
