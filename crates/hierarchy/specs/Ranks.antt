-- Ranks of the classes with which those above a class stand lower.
use Rattle.std.specs.Prelude.{◌≡◌, ◌<◌, ◌&&◌, ℕ, Bool, true, List, length, Option, Some, None, nat_lt}
use Rattle.std.specs.List.{list_all}
use Rattle.program_model.specs.declared.program.Program.{Program}
use Rattle.class_defs.specs.Places.{super_place, interface_places}

abbrev pub is_lower : (ℕ → ℕ) → ℕ → Option ℕ → Bool
is_lower rank r None = true
is_lower rank r (Some u) = nat_lt (rank u) r

abbrev pub is_lower_all : (ℕ → ℕ) → ℕ → List ℕ → Bool
is_lower_all rank r us = list_all (λ u. nat_lt (rank u) r) us

-- the rank of a class is below the bound, and those directly above it have lower ones
abbrev pub is_behind : (ℕ → ℕ) → ℕ → ℕ → Option ℕ → List ℕ → Bool
is_behind rank bound class above list = nat_lt (rank class) bound && is_lower rank (rank class) above && is_lower_all rank (rank class) list

-- there are ranks with which each class of a program stands behind those directly above it
pub record IsRanked (p : Program) : Type 0 where
  pub rank : ℕ → ℕ
  pub each : (class : ℕ) → class < length p.classes → is_behind rank (length p.classes) class (super_place p class) (interface_places p class) ≡ true
