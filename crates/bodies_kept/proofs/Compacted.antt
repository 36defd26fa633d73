-- A compacted program is kept.
use Rattle.std.proofs.Common.{◌≡◌, ℕ, true, List, [], ◌∷◌, Bool}
use Rattle.program_model.specs.ProgramRules.{is_well_formed}
use Rattle.program_model.specs.declared.program.Class.{Class}
use Rattle.program_model.specs.declared.program.Method.{Method}
use Rattle.program_model.specs.declared.program.Program.{Program}
use Rattle.class_defs.specs.ClassGraph.{IsTwice}
use Rattle.dalvik_defs.specs.Naming.{named}
use Rattle.pass_defs.specs.Typed.{IsTyped}
use Rattle.program_laws.specs.Others.{Pairwise}
use Rattle.program_laws.specs.Numbered.{NumberedCodes, OtherNumberedMethod, OtherNumberedClass, OtherNumberedBodies}
use Rattle.compact.specs.Narrow.{has_narrow_classes}
use Rattle.compact.specs.Renamed.{IsCompactedProgram}
use Rattle.bodies_kept.specs.Renames.{Compacts}
use Rattle.bodies_kept.proofs.CompactPrograms.{program_compacts, compacted_shown}
use Rattle.bodies_kept.specs.Kept.{AnyCode, IsKept}
use Rattle.bodies_kept.proofs.Compacting.{compacted_formed}
use Rattle.bodies_kept.proofs.CompactTyping.{compacted_typed}

pairs_weaker : {A : Type 0} (R S : A → A → Type 0) → ((x y : A) → R x y → S x y) → (xs ys : List A) → Pairwise R xs ys → Pairwise S xs ys
pairs_weaker R S h [] [] r = tt
pairs_weaker R S h [] (y ∷ ys) r = absurd r
pairs_weaker R S h (x ∷ xs) [] r = absurd r
pairs_weaker R S h (x ∷ xs) (y ∷ ys) r = (h x y r.0, pairs_weaker R S h xs ys r.1)

-- whatever is said of the code
module _ (N : NumberedCodes) (p : Program) where
  any_method : (c : Class) (m n : Method) → OtherNumberedMethod N p c m n → OtherNumberedMethod AnyCode p c m n
  any_method c m n h = record { same = h.same; coded = h.coded; related = tt }

  any_class : (c d : Class) → OtherNumberedClass N p c d → OtherNumberedClass AnyCode p c d
  any_class c d h = record { same = h.same; methods = pairs_weaker (OtherNumberedMethod N p c) (OtherNumberedMethod AnyCode p c) (any_method c) c.methods d.methods h.methods }

  pub any_code : (q : Program) → OtherNumberedBodies N p q → OtherNumberedBodies AnyCode p q
  any_code q h = record { same = h.same; classes = pairs_weaker (OtherNumberedClass N p) (OtherNumberedClass AnyCode p) any_class p.classes q.classes h.classes }

pub compacted_kept : (admitted : List Bool) (p q : Program) → is_well_formed p ≡ true → ((class : ℕ) → IsTwice p class → ⊥) → IsTyped (named p) → has_narrow_classes p ≡ true → IsCompactedProgram admitted p q → IsKept p q
compacted_kept admitted p q fits twice typed narrow i = record {
  formed = compacted_formed admitted p q fits i;
  typed = compacted_typed p fits twice typed narrow admitted q i;
  others = any_code (Compacts p) p q (program_compacts admitted p q i);
  shown = λ o. compacted_shown admitted p q fits twice i o;
}
