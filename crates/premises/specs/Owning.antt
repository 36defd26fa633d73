-- Whether a kept constructor is one that its class defines, by the tables of a hierarchy.
use Rattle.std.specs.Prelude.{◌||◌, not, ℕ, Bool, true, false, Option, Some, None, nat_eq, codes, slice_get, option_and_then}
use Rattle.program_model.specs.declared.pools.MethodName.{MethodName}
use Rattle.program_model.specs.declared.program.Class.{Class}
use Rattle.program_model.specs.declared.program.Method.{Method}
use Rattle.program_model.specs.declared.program.Program.{Program}
use Rattle.program_model.specs.Lookups.{class_place, method_at}
use Rattle.class_defs.specs.Members.{own_method, string_is}
use Rattle.premises.specs.Makers.{can_be_made}

abbrev pub has_number : ℕ → Option Method → Bool
has_number n None = false
has_number n (Some m) = nat_eq m.name n

-- what the class at a place defines of this name and this proto is the method of the number
abbrev pub defines : Program → ℕ → MethodName → ℕ → Bool
defines p n q c = has_number n (option_and_then (method_at p) (own_method p q.name q.proto c))

-- the class can have no objects, or it defines the method
abbrev pub owns : Program → ℕ → MethodName → ℕ → Option Class → Bool
owns p n q c None = true
owns p n q c (Some k) = not (can_be_made k) || defines p n q c

-- so it is for the program class of a type, where there is one
abbrev pub owns_at : Program → ℕ → MethodName → Option ℕ → Bool
owns_at p n q None = true
owns_at p n q (Some c) = owns p n q c (slice_get p.classes c)

-- so it is for a constructor
abbrev pub owns_maker : Program → ℕ → Option MethodName → Bool
owns_maker p n None = true
owns_maker p n (Some q) = not (string_is p q.name (codes "<init>")) || owns_at p n q (class_place p q.class)

abbrev pub is_own : Program → ℕ → Bool
is_own p n = owns_maker p n (slice_get p.methods n)
