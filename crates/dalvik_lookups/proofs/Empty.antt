-- Nothing is under an empty text.
use Rattle.std.proofs.Common.{◌≡◌, Bool, true, false, nat_eq, [], ◌∷◌, length, refl, arith}
use Rattle.class_defs.proofs.Positions.{number_of}
use Rattle.dalvik_defs.specs.Names.{Text}
use Rattle.dalvik_defs.specs.Under.{under_types}

pub under_empty : (f : Text → Text → Bool) (s t : Text) → nat_eq (length t) 0 ≡ true → under_types f s t ≡ false
under_empty f [] [] e = refl
under_empty f (u ∷ s) [] e = refl
under_empty f s (v ∷ t) e = let z = number_of (length (v ∷ t)) 0 e in absurd (omega (arith, z))
