-- Walks upwards that end do so within as many steps as there are classes.
use Rattle.std.proofs.Common.{◌≡◌, ℕ, zero, suc, ◌+◌, ◌-◌, ◌<◌, ◌≤◌, Bool, true, false, List, [], ◌∷◌, length, refl, sym, ap, ◌∙◌, arith, inl, inr, subst}
use Rattle.std.specs.Prelude.{◌⊎◌, ◌&&◌, not, Option, Some, None, map}
use Rattle.std.specs.List.{list_all}
use Rattle.std.proofs.lemmas.List.{length-map}
use Rattle.dalvik_defs.specs.Names.{Text, text_eq}
use Rattle.dalvik_defs.specs.Under.{class_named, defines, own_above}
use Rattle.dalvik_defs.specs.declared.program.NamedClass.{NamedClass}
use Rattle.dalvik_defs.specs.declared.program.NamedProgram.{NamedProgram}
use Rattle.dalvik_defs.proofs.Calm.{text_sound}
use Rattle.dalvik_defs.proofs.Same.{all_more}
use Rattle.removal_law.specs.Reach.{ends}
use Rattle.removal_law.proofs.Lists.{clash, In, here, there, in_map, times, times_bound, alike_or_more, found_in}
use Rattle.removal_law.proofs.Walks.{plus, plus_is, in_or_not}

pub all_same : {A : Type 0} (f g : A → Bool) (xs : List A) → ((x : A) → In x xs → f x ≡ g x) → list_all f xs ≡ list_all g xs
all_same f g [] h = refl
all_same f g (x ∷ xs) h = ap (λ b. b && list_all f xs) (h x (here xs)) ∙ ap (λ b. g x && b) (all_same f g xs (λ y c. h y (there x xs c)))

module _ (p : NamedProgram) where
  none_above : (t : Text) (o : Option NamedClass) → class_named p t ≡ o → elim o as (λ o. Bool) [ Some c ↦ true | None ↦ false ] ≡ false → own_above p t ≡ []
  none_above t None e i = ap (λ o. elim o as (λ o. List Text) [ Some c ↦ c.superclass ∷ c.interfaces | None ↦ [] ]) e
  none_above t (Some c) e i = clash true refl i

  not_false : (b : Bool) → not b ≡ true → b ≡ false
  not_false true e = clash true refl (sym e)
  not_false false e = refl

  pub undefined_above : (t : Text) → defines p t ≡ false → own_above p t ≡ []
  undefined_above t e = none_above t (class_named p t) refl e

  pub undefined_ends : (t : Text) → defines p t ≡ false → (n : ℕ) → ends p n t ≡ true
  undefined_ends t e zero = ap not e
  undefined_ends t e (suc n) = ap (list_all (ends p n)) (undefined_above t e)

  longer : (n : ℕ) (t : Text) → ends p n t ≡ true → ends p (suc n) t ≡ true
  longer zero t e = undefined_ends t (not_false (defines p t) e) 1
  longer (suc n) t e = all_more (ends p n) (ends p (suc n)) (longer n) (own_above p t) e

  pub longer_by : (j n : ℕ) (t : Text) → ends p n t ≡ true → ends p (plus j n) t ≡ true
  longer_by zero n t e = e
  longer_by (suc j) n t e = longer (plus j n) t (longer_by j n t e)

  abbrev Steady : ℕ → Type 0
  Steady k = (t : Text) → ends p (suc k) t ≡ ends p k t

  steady_on : (k : ℕ) → Steady k → Steady (suc k)
  steady_on k h t = all_same (ends p (suc k)) (ends p k) (own_above p t) (λ u i. h u)

  steady_at : (j k : ℕ) → Steady k → Steady (plus j k)
  steady_at zero k h = h
  steady_at (suc j) k h = steady_on (plus j k) (steady_at j k h)

  steady_for : (j k : ℕ) → Steady k → (t : Text) → ends p (plus j k) t ≡ ends p k t
  steady_for zero k h t = refl
  steady_for (suc j) k h t = steady_at j k h t ∙ steady_for j k h t

  abbrev pub names : List Text
  names = map (λ c. c.name) p.classes

  -- a type that isn't there ends at once
  pub defined_in : (t : Text) (o : Option NamedClass) → class_named p t ≡ o → elim o as (λ o. Bool) [ Some c ↦ true | None ↦ false ] ≡ true → In t names
  defined_in t None e i = clash false i refl
  defined_in t (Some c) e i = let h = found_in (λ c. text_eq c.name t) p.classes c e in subst (λ x. In x names) (text_sound c.name t h.passes) (in_map (λ c. c.name) c p.classes h.is_in)

  leaf : (t : Text) → (In t names → ⊥) → (b : Bool) → defines p t ≡ b → (n : ℕ) → ends p n t ≡ true
  leaf t away true e n = absurd (away (defined_in t (class_named p t) refl e))
  leaf t away false e n = undefined_ends t e n

  whole : (k : ℕ) → ((t : Text) → In t names → ends p (suc k) t ≡ ends p k t) → Steady k
  whole k h t = elim (in_or_not t names) [ inl c ↦ h t c | inr away ↦ leaf t away (defines p t) refl (suc k) ∙ sym (leaf t away (defines p t) refl k) ]

  abbrev SteadyBy : ℕ → Type 0
  SteadyBy n = (m : ℕ) × ((m ≤ n) × Steady m)

  seek : (n : ℕ) → SteadyBy n ⊎ (suc n ≤ times (λ t. ends p (suc n) t) names)
  seek zero = by (alike_or_more (λ t. ends p zero t) (λ t. ends p 1 t) (longer zero) names)
    where
      by : ((t : Text) → In t names → ends p 1 t ≡ ends p zero t) ⊎ (times (λ t. ends p zero t) names < times (λ t. ends p 1 t) names) → SteadyBy zero ⊎ (suc zero ≤ times (λ t. ends p (suc zero) t) names)
      by (inl h) = inl (0, (omega arith, whole zero h))
      by (inr lt) = inr (omega (arith, lt))
  seek (suc n) = by (seek n) (alike_or_more (λ t. ends p (suc n) t) (λ t. ends p (suc (suc n)) t) (longer (suc n)) names)
    where
      by : SteadyBy n ⊎ (suc n ≤ times (λ t. ends p (suc n) t) names)
          → ((t : Text) → In t names → ends p (suc (suc n)) t ≡ ends p (suc n) t) ⊎ (times (λ t. ends p (suc n) t) names < times (λ t. ends p (suc (suc n)) t) names)
          → SteadyBy (suc n) ⊎ (suc (suc n) ≤ times (λ t. ends p (suc (suc n)) t) names)
      by (inl a) h = let le = a.1.0 in inl (a.0, (omega (arith, le), a.1.1))
      by (inr c) (inl h) = inl (suc n, (omega arith, whole (suc n) h))
      by (inr c) (inr lt) = inr (omega (arith, c, lt))

  steady : SteadyBy (length names)
  steady = by (seek (length names))
    where
      by : SteadyBy (length names) ⊎ (suc (length names) ≤ times (λ t. ends p (suc (length names)) t) names) → SteadyBy (length names)
      by (inl a) = a
      by (inr c) = let b = times_bound (λ t. ends p (suc (length names)) t) names in absurd (omega (arith, b, c))

  -- as many steps as there are classes
  pub enough_steps : (t : Text) (n : ℕ) → ends p n t ≡ true → ends p (length p.classes) t ≡ true
  enough_steps t n e =
      let m = steady.0 in
      let le = steady.1.0 in
      let far : length names ≡ length p.classes = length-map p.classes (λ c. c.name) in
      let a : ends p m t ≡ true = sym (steady_for n m steady.1.1 t) ∙ subst (λ x. ends p x t ≡ true) (plus_is m n ∙ add_comm m n ∙ sym (plus_is n m)) (longer_by m n t e) in
      let i : plus (length p.classes - m) m ≡ length p.classes = plus_is (length p.classes - m) m ∙ omega (arith, le, far) in
      subst (λ x. ends p x t ≡ true) i (longer_by (length p.classes - m) m t a)
    where
      add_comm : (a b : ℕ) → a + b ≡ b + a
      add_comm a b = omega arith
