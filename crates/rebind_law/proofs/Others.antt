-- Programs that are the same but for bodies of which some forms are others.
use Rattle.std.proofs.Common.{◌≡◌, ℕ, true≢false, Option, Some, None, inl, refl, sym, ap, subst₂}
use Rattle.std.specs.Prelude.{is_some}
use Rattle.dalvik_defs.specs.Face.{bodies_of}
use Rattle.dalvik_defs.specs.declared.forms.Form.{Form}
use Rattle.dalvik_defs.specs.declared.names.MethodKey.{MethodKey}
use Rattle.dalvik_defs.specs.declared.program.NamedBody.{NamedBody}
use Rattle.dalvik_defs.specs.declared.program.NamedProgram.{NamedProgram}
use Rattle.program_laws.specs.Others.{OtherBodies}
use Rattle.program_laws.proofs.Faces.{others_face}
use Rattle.program_laws.proofs.Found.{others_found}
use Rattle.rebind_law.specs.Receivers.{IsChanged, AreChanged, ChangesCode, NoCode, Kept, Changed}

some_is : {A : Type 0} (x y : A) → Some x ≡ Some y → x ≡ y
some_is x y e = ap (λ o. elim o [ Some z ↦ z | None ↦ x ]) e

clash : {A : Type 0} (b : NamedBody) → None ≡ Some b → A
clash b e = absurd (true≢false (sym (ap is_some e)))

module _ (B : MethodKey → ℕ → Form → Form → Type 0) where
  none : (k : MethodKey) (x y : Option NamedBody) → ChangesCode B k x y → x ≡ None → y ≡ None
  none k _ _ NoCode e = refl
  none k _ _ (Kept b) e = clash b (sym e)
  none k _ _ (Changed b d h) e = clash b (sym e)

  some : (k : MethodKey) (x y : Option NamedBody) (b : NamedBody) → ChangesCode B k x y → x ≡ Some b → (d : NamedBody) × (y ≡ Some d)
  some k _ _ b NoCode e = clash b e
  some k _ _ b (Kept a) e = (a, refl)
  some k _ _ b (Changed a d h) e = (d, refl)

  itself : (k : MethodKey) (b : NamedBody) → IsChanged (B k) b b
  itself k b = record { forms = λ n f e. (f, (e, inl refl)); ends = λ n e. e; regions = refl; registers = refl; ins = refl }

  body : (k : MethodKey) (x y : Option NamedBody) (b d : NamedBody) → ChangesCode B k x y → x ≡ Some b → y ≡ Some d → IsChanged (B k) b d
  body k _ _ b d NoCode e i = clash b e
  body k _ _ b d (Kept a) e i = subst₂ (IsChanged (B k)) (some_is a b e) (some_is a d i) (itself k a)
  body k _ _ b d (Changed a z h) e i = subst₂ (IsChanged (B k)) (some_is a b e) (some_is z d i) h

  pub others_changed : (p q : NamedProgram) → OtherBodies (ChangesCode B) p q → AreChanged B p q
  others_changed p q h = record {
    face = λ f. sym (others_face (ChangesCode B) p q h f);
    none = λ k e. none k (bodies_of p k) (bodies_of q k) (found k) e;
    some = λ k b e. some k (bodies_of p k) (bodies_of q k) b (found k) e;
    bodies = λ k b d e i. body k (bodies_of p k) (bodies_of q k) b d (found k) e i;
  }
    where
      found : (k : MethodKey) → ChangesCode B k (bodies_of p k) (bodies_of q k)
      found k = others_found (ChangesCode B) (λ k. NoCode) p q h k
