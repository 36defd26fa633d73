-- The nearest superclass that two classes have in common.
use Rattle.std.specs.Prelude.{ℕ, Option, nat_eq, find}
use Rattle.std.specs.List.{list_any}
use Rattle.program_model.specs.declared.program.Program.{Program}
use Rattle.class_defs.specs.Places.{chain_of}

-- the first class along the first and its program superclasses that is the second or one of its program superclasses
abbrev pub nearest_place : Program → Option ℕ → Option ℕ → Option ℕ
nearest_place p a b = find (λ c. list_any (nat_eq c) (chain_of p b)) (chain_of p a)
