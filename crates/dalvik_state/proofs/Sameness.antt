-- Whether two values are the same, by numbers and by names.
use Rattle.std.proofs.Common.{◌≡◌, ℕ, ◌<◌, Bool, true, false, nat_eq, ap, refl, sym, ◌∙◌, eqb-true, eq-eqb}
use Rattle.dalvik_lookups.proofs.Interned.{text_same, text_sound}
use Rattle.dalvik_defs.specs.Names.{text_eq}
use Rattle.dalvik_defs.specs.State.{same_value}
use Rattle.dalvik_state.specs.declared.datum.Datum.{Datum}
use Rattle.dalvik_state.specs.declared.datum.Datum.TheVariants as datum
use Rattle.dalvik_state.specs.Frames.{same_in}
use Rattle.dalvik_state.specs.Views.{IsFine, Names, TellsApart, value_of}

same_test : (b c : Bool) → (b ≡ true → c ≡ true) → (c ≡ true → b ≡ true) → b ≡ c
same_test true c f g = sym (f refl)
same_test false true f g = g refl
same_test false false f g = refl

texts_same : (n : Names) (x y : ℕ) → TellsApart n → x < n.texts → y < n.texts → text_eq (n.text x) (n.text y) ≡ nat_eq x y
texts_same n x y t h k = same_test (text_eq (n.text x) (n.text y)) (nat_eq x y)
    (λ e. eq-eqb x y (t.apart x y h k (text_sound (n.text x) (n.text y) e)))
    (λ e. ap (λ (z : ℕ). text_eq (n.text x) (n.text z)) (sym (eqb-true x y e)) ∙ text_same (n.text x))

pub same_named : (n : Names) (size : ℕ) (a b : Datum) → TellsApart n → IsFine n size a → IsFine n size b → same_value (value_of n a) (value_of n b) ≡ same_in a b
same_named n size (datum.Word x) (datum.Word y) t h k = refl
same_named n size (datum.Word x) (datum.Low y) t h k = refl
same_named n size (datum.Word x) (datum.High y) t h k = refl
same_named n size (datum.Word x) (datum.Object y) t h k = refl
same_named n size (datum.Word x) (datum.Literal y) t h k = refl
same_named n size (datum.Word x) (datum.Class y) t h k = refl
same_named n size (datum.Low x) (datum.Word y) t h k = refl
same_named n size (datum.Low x) (datum.Low y) t h k = refl
same_named n size (datum.Low x) (datum.High y) t h k = refl
same_named n size (datum.Low x) (datum.Object y) t h k = refl
same_named n size (datum.Low x) (datum.Literal y) t h k = refl
same_named n size (datum.Low x) (datum.Class y) t h k = refl
same_named n size (datum.High x) (datum.Word y) t h k = refl
same_named n size (datum.High x) (datum.Low y) t h k = refl
same_named n size (datum.High x) (datum.High y) t h k = refl
same_named n size (datum.High x) (datum.Object y) t h k = refl
same_named n size (datum.High x) (datum.Literal y) t h k = refl
same_named n size (datum.High x) (datum.Class y) t h k = refl
same_named n size (datum.Object x) (datum.Word y) t h k = refl
same_named n size (datum.Object x) (datum.Low y) t h k = refl
same_named n size (datum.Object x) (datum.High y) t h k = refl
same_named n size (datum.Object x) (datum.Object y) t h k = refl
same_named n size (datum.Object x) (datum.Literal y) t h k = refl
same_named n size (datum.Object x) (datum.Class y) t h k = refl
same_named n size (datum.Literal x) (datum.Word y) t h k = refl
same_named n size (datum.Literal x) (datum.Low y) t h k = refl
same_named n size (datum.Literal x) (datum.High y) t h k = refl
same_named n size (datum.Literal x) (datum.Object y) t h k = refl
same_named n size (datum.Literal x) (datum.Literal y) t h k = texts_same n x y t h k
same_named n size (datum.Literal x) (datum.Class y) t h k = refl
same_named n size (datum.Class x) (datum.Word y) t h k = refl
same_named n size (datum.Class x) (datum.Low y) t h k = refl
same_named n size (datum.Class x) (datum.High y) t h k = refl
same_named n size (datum.Class x) (datum.Object y) t h k = refl
same_named n size (datum.Class x) (datum.Literal y) t h k = refl
same_named n size (datum.Class x) (datum.Class y) t h k = texts_same n x y t h k
