-- The program classes that types are, or are arrays of, by their descriptors (Dalvik executable format, "TypeDescriptor").
use Rattle.std.specs.Prelude.{ℕ, Bool, List, [], ◌∷◌, map, Option, Some, None, nat_eq, cond, codes, position}
use Rattle.indexmap.specs.IndexMap.{get_by}
use Rattle.std.specs.HashMap.{HashMap}
use Rattle.std.proofs.Common.{Bor}
use Rattle.std.specs.Cmp.Lexicographic.{pointwise}
use Rattle.program_model.specs.declared.program.Class.{Class}
use Rattle.program_model.specs.declared.program.Program.{Program}
use Rattle.program_model.specs.Texts.{string_text, type_text}

abbrev pub same_text : List ℕ → List ℕ → Bool
same_text = pointwise nat_eq

-- a descriptor without its leading brackets
abbrev pub without_brackets : List ℕ → List ℕ
without_brackets [] = []
without_brackets (u ∷ us) = cond (nat_eq u 91) (without_brackets us) (u ∷ us)

-- the type of the last of some classes whose descriptor is this text, another type where there is none
abbrev pub last_named : Program → List ℕ → Option ℕ → List Class → Option ℕ
last_named p t o [] = o
last_named p t o (c ∷ cs) = last_named p t (cond (same_text (type_text p c.name) t) (Some c.name) o) cs

-- what a table of types by their descriptors has for a text
abbrev pub kind_of : {S : Type 0} → HashMap (Bor (List ℕ)) ℕ S → List ℕ → Option ℕ
kind_of m t = get_by (λ u. same_text t u.now) m

abbrev pub or_none : Option ℕ → ℕ
or_none None = 4294967295
or_none (Some kind) = kind

-- the type of the program class that a descriptor is of, or is of an array of
abbrev pub base_of_text : Program → List ℕ → ℕ
base_of_text p t = or_none (last_named p (without_brackets t) None p.classes)

-- for each type the one of the program class that it is, or that it is an array of
abbrev pub bases_of : Program → List ℕ
bases_of p = map (λ s. base_of_text p (string_text p s)) p.types

abbrev pub object_text : List ℕ
object_text = codes "Ljava/lang/Object;"

-- the number of the type Object, another one where the program doesn't name it
abbrev pub object_number : Program → ℕ
object_number p = or_none (position (λ s. same_text (string_text p s) object_text) p.types)
