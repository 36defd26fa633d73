-- Values by numbers that are the same, as the tables of monitors compare them.
use Rattle.std.proofs.Common.{◌≡◌, ℕ, Bool, true, false, List, nat_eq, eqb-true, eq-eqb, ap, refl, sym, ◌∙◌}
use Rattle.std.specs.Prelude.{Option, Some, None, cond}
use Rattle.std.specs.Map.{lookup}
use Rattle.class_defs.proofs.Positions.{same_test}
use Rattle.dalvik_state.specs.declared.datum.Datum.{Datum}
use Rattle.dalvik_state.specs.declared.datum.Datum.TheVariants as datum
use Rattle.dalvik_state.specs.contracts.datum.DatumPartialEq.TheImpl.{ghosts}
use Rattle.dalvik_state.specs.Frames.{same_in}

number_sym : (a b : ℕ) → nat_eq a b ≡ nat_eq b a
number_sym a b = same_test (nat_eq a b) (nat_eq b a) (λ e. eq-eqb b a (sym (eqb-true a b e))) (λ e. eq-eqb a b (sym (eqb-true b a e)))

same_sym : (a b : Datum) → same_in a b ≡ same_in b a
same_sym (datum.Word x) (datum.Word y) = number_sym x y
same_sym (datum.Word x) (datum.Low y) = refl
same_sym (datum.Word x) (datum.High y) = refl
same_sym (datum.Word x) (datum.Object y) = refl
same_sym (datum.Word x) (datum.Literal y) = refl
same_sym (datum.Word x) (datum.Class y) = refl
same_sym (datum.Low x) (datum.Word y) = refl
same_sym (datum.Low x) (datum.Low y) = number_sym x y
same_sym (datum.Low x) (datum.High y) = refl
same_sym (datum.Low x) (datum.Object y) = refl
same_sym (datum.Low x) (datum.Literal y) = refl
same_sym (datum.Low x) (datum.Class y) = refl
same_sym (datum.High x) (datum.Word y) = refl
same_sym (datum.High x) (datum.Low y) = refl
same_sym (datum.High x) (datum.High y) = number_sym x y
same_sym (datum.High x) (datum.Object y) = refl
same_sym (datum.High x) (datum.Literal y) = refl
same_sym (datum.High x) (datum.Class y) = refl
same_sym (datum.Object x) (datum.Word y) = refl
same_sym (datum.Object x) (datum.Low y) = refl
same_sym (datum.Object x) (datum.High y) = refl
same_sym (datum.Object x) (datum.Object y) = number_sym x y
same_sym (datum.Object x) (datum.Literal y) = refl
same_sym (datum.Object x) (datum.Class y) = refl
same_sym (datum.Literal x) (datum.Word y) = refl
same_sym (datum.Literal x) (datum.Low y) = refl
same_sym (datum.Literal x) (datum.High y) = refl
same_sym (datum.Literal x) (datum.Object y) = refl
same_sym (datum.Literal x) (datum.Literal y) = number_sym x y
same_sym (datum.Literal x) (datum.Class y) = refl
same_sym (datum.Class x) (datum.Word y) = refl
same_sym (datum.Class x) (datum.Low y) = refl
same_sym (datum.Class x) (datum.High y) = refl
same_sym (datum.Class x) (datum.Object y) = refl
same_sym (datum.Class x) (datum.Literal y) = refl
same_sym (datum.Class x) (datum.Class y) = number_sym x y

-- what `==` says of values
pub equal_is : (a b : Datum) → ghosts.eq a b ≡ same_in a b
equal_is (datum.Word x) (datum.Word y) = refl
equal_is (datum.Word x) (datum.Low y) = refl
equal_is (datum.Word x) (datum.High y) = refl
equal_is (datum.Word x) (datum.Object y) = refl
equal_is (datum.Word x) (datum.Literal y) = refl
equal_is (datum.Word x) (datum.Class y) = refl
equal_is (datum.Low x) (datum.Word y) = refl
equal_is (datum.Low x) (datum.Low y) = refl
equal_is (datum.Low x) (datum.High y) = refl
equal_is (datum.Low x) (datum.Object y) = refl
equal_is (datum.Low x) (datum.Literal y) = refl
equal_is (datum.Low x) (datum.Class y) = refl
equal_is (datum.High x) (datum.Word y) = refl
equal_is (datum.High x) (datum.Low y) = refl
equal_is (datum.High x) (datum.High y) = refl
equal_is (datum.High x) (datum.Object y) = refl
equal_is (datum.High x) (datum.Literal y) = refl
equal_is (datum.High x) (datum.Class y) = refl
equal_is (datum.Object x) (datum.Word y) = refl
equal_is (datum.Object x) (datum.Low y) = refl
equal_is (datum.Object x) (datum.High y) = refl
equal_is (datum.Object x) (datum.Object y) = refl
equal_is (datum.Object x) (datum.Literal y) = refl
equal_is (datum.Object x) (datum.Class y) = refl
equal_is (datum.Literal x) (datum.Word y) = refl
equal_is (datum.Literal x) (datum.Low y) = refl
equal_is (datum.Literal x) (datum.High y) = refl
equal_is (datum.Literal x) (datum.Object y) = refl
equal_is (datum.Literal x) (datum.Literal y) = refl
equal_is (datum.Literal x) (datum.Class y) = refl
equal_is (datum.Class x) (datum.Word y) = refl
equal_is (datum.Class x) (datum.Low y) = refl
equal_is (datum.Class x) (datum.High y) = refl
equal_is (datum.Class x) (datum.Object y) = refl
equal_is (datum.Class x) (datum.Literal y) = refl
equal_is (datum.Class x) (datum.Class y) = refl

pub put_count : (old new : List (Datum × ℕ)) (d : Datum) (count : ℕ) → ((q : Datum) → lookup (ghosts.eq q) new ≡ cond (ghosts.eq d q) (Some count) (lookup (ghosts.eq q) old))
    → (q : Datum) → lookup (λ (k : Datum). same_in k q) new ≡ cond (same_in q d) (Some count) (lookup (λ (k : Datum). same_in k q) old)
put_count old new d count h q =
    let test : (k : Datum) → ghosts.eq q k ≡ same_in k q = λ k. equal_is q k ∙ same_sym q k in
    sym (λ i. lookup (λ (k : Datum). test k i) new) ∙ h q ∙ (λ i. cond ((equal_is d q ∙ same_sym d q) i) (Some count) (lookup (λ (k : Datum). test k i) old))
