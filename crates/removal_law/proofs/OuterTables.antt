-- The parts of the table that numbers of a program make agree.
use Rattle.std.proofs.Common.{◌≡◌, ℕ, Bool, true, false, List, [], ◌∷◌, refl, sym, ap, ◌∙◌, subst, inl, inr}
use Rattle.std.specs.Prelude.{◌⊎◌, ◌||◌, cond, map, filter}
use Rattle.std.specs.List.{list_any}
use Rattle.lemmas.proofs.Bools.{or_right}
use Rattle.program_model.specs.declared.program.Program.{Program}
use Rattle.program_model.specs.declared.pass.Outside.{Outside}
use Rattle.dalvik_defs.specs.Names.{Text, text_eq, signature_eq, method_eq, same_name}
use Rattle.dalvik_defs.specs.Naming.{method_at}
use Rattle.dalvik_defs.specs.Outer.{outer_of, keepers_in, is_constructor_of}
use Rattle.dalvik_defs.specs.declared.names.Signature.{Signature}
use Rattle.dalvik_defs.specs.declared.names.MethodKey.{MethodKey}
use Rattle.dalvik_defs.proofs.Calm.{text_sound}
use Rattle.removal_law.specs.Left.{In, here, there}
use Rattle.removal_law.specs.Reach.{AgreesInside}
use Rattle.removal_law.proofs.Lists.{and_left, and_behind}
use Rattle.removal_law.proofs.Members.{key, signature_sound}
use Rattle.removal_law.proofs.Outward.{any_here, any_where}
use Rattle.removal_law.proofs.Declared.{method_same}

first_or_rest : {A : Type 0} (x z : A) (xs : List A) → In x (z ∷ xs) → (x ≡ z) ⊎ In x xs
first_or_rest x z xs (here ys) = inl refl
first_or_rest x z xs (there y ys i) = inr i

-- a key of a name and a signature
named_key : (k : MethodKey) (n : Text) (g : Signature) → same_name k.name k.signature n g ≡ true → k ≡ key k.class n g
named_key k n g e =
    ap (λ x. key k.class x k.signature) (text_sound k.name n (and_left (text_eq k.name n) (signature_eq k.signature g) e))
    ∙ ap (key k.class n) (signature_sound k.signature g (and_behind (text_eq k.name n) (signature_eq k.signature g) e))

-- the keys of a name and a signature among those of some numbers
abbrev named_among : Program → List ℕ → Text → Signature → List MethodKey
named_among p ns n g = filter (λ k. same_name k.name k.signature n g) (map (method_at p) ns)

keeper_kept : (p : Program) (t n : Text) (g : Signature) (ns : List ℕ) → In t (keepers_in p ns n g) → list_any (λ i. method_eq (method_at p i) (key t n g)) ns ≡ true
keeper_kept p t n g [] i = elim i [ ]
keeper_kept p t n g (x ∷ ns) i = by (same_name (method_at p x).name (method_at p x).signature n g) refl i (keeper_kept p t n g ns)
  where
    by : (b : Bool) → same_name (method_at p x).name (method_at p x).signature n g ≡ b → In t (map (λ k. k.class) (cond b (method_at p x ∷ named_among p ns n g) (named_among p ns n g)))
        → (In t (keepers_in p ns n g) → list_any (λ i. method_eq (method_at p i) (key t n g)) ns ≡ true) → list_any (λ i. method_eq (method_at p i) (key t n g)) (x ∷ ns) ≡ true
    by true e j ih = elim (first_or_rest t (method_at p x).class (map (λ k. k.class) (named_among p ns n g)) j) [
      | inl h ↦ ap (λ b. b || list_any (λ i. method_eq (method_at p i) (key t n g)) ns)
          (subst (λ z. method_eq (method_at p x) z ≡ true) (named_key (method_at p x) n g e ∙ ap (λ z. key z n g) (sym h)) (method_same (method_at p x)))
      | inr h ↦ or_right (method_eq (method_at p x) (key t n g)) (list_any (λ i. method_eq (method_at p i) (key t n g)) ns) (ih h)
    ]
    by false e j ih = or_right (method_eq (method_at p x) (key t n g)) (list_any (λ i. method_eq (method_at p i) (key t n g)) ns) (ih j)

pub tables_agree : (p : Program) (o : Outside) → AgreesInside (outer_of p o)
tables_agree p o = record {
  constructed = λ t e.
      let r = any_where (λ n. is_constructor_of t (method_at p n)) o.methods e in
      (method_at p r.0, (any_here (λ n. method_eq (method_at p n) (method_at p r.0)) r.0 o.methods r.1.0 (method_same (method_at p r.0)), r.1.1));
  keepers = λ t n g i. keeper_kept p t n g o.methods i;
}
