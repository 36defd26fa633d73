-- Where no type stands above itself, the walk upwards from each type ends.
use Rattle.std.proofs.Common.{◌≡◌, ℕ, zero, suc, ◌<◌, Bool, true, false, List, [], ◌∷◌, length, refl, sym, ap, ◌∙◌, arith, inl, inr}
use Rattle.std.specs.Prelude.{◌⊎◌, ◌&&◌}
use Rattle.std.specs.List.{list_any, list_all}
use Rattle.std.proofs.lemmas.List.{length-map}
use Rattle.dalvik_defs.specs.Names.{Text, text_eq, is_class_type}
use Rattle.dalvik_defs.specs.Under.{class_named, defines, own_above, walks, is_own_under}
use Rattle.dalvik_defs.specs.declared.program.NamedProgram.{NamedProgram}
use Rattle.removal_law.specs.Reach.{ends, IsRegular, IsAcyclic}
use Rattle.removal_law.proofs.Lists.{In, here, there, times, alike_or_more}
use Rattle.removal_law.proofs.Walks.{choice, choice_false, text_same, enough}
use Rattle.removal_law.proofs.Levels.{names, undefined_above, undefined_ends, defined_in}
use Rattle.removal_law.proofs.Outward.{any_here, any_where}

all_from : {A : Type 0} (f : A → Bool) (xs : List A) → ((x : A) → In x xs → f x ≡ true) → list_all f xs ≡ true
all_from f [] h = refl
all_from f (x ∷ xs) h = ap (λ b. b && list_all f xs) (h x (here xs)) ∙ all_from f xs (λ y i. h y (there x xs i))

module _ (p : NamedProgram) (acyclic : IsAcyclic p) where
  -- ---- steps enough find all

  none_walks : (k : ℕ) (s t : Text) → defines p s ≡ false → walks (own_above p) k s t ≡ text_eq s t
  none_walks zero s t e = refl
  none_walks (suc k) s t e = ap (λ us. choice (text_eq s t) (list_any (λ u. walks (own_above p) k u t) us)) (undefined_above p s e) ∙ choice_false (text_eq s t)

  leaf : (t s : Text) → (In s (names p) → ⊥) → (b : Bool) → defines p s ≡ b → (k : ℕ) → walks (own_above p) (suc k) s t ≡ walks (own_above p) k s t
  leaf t s away true e k = absurd (away (defined_in p s (class_named p s) refl e))
  leaf t s away false e k = none_walks (suc k) s t e ∙ sym (none_walks k s t e)

  steps_enough : (s t : Text) → walks (own_above p) (suc (length p.classes)) s t ≡ is_own_under p s t
  steps_enough s t =
      let far : length (names p) ≡ length p.classes = length-map p.classes (λ c. c.name) in
      enough (own_above p) t (names p) 0 (λ s away k le. leaf t s away (defines p s) refl k) (suc (length p.classes)) (length p.classes) (omega (arith, far)) (omega (arith, far)) s

  -- ---- what stands above a type, itself apart

  abbrev strict : Text → Text → Bool
  strict t c = list_any (λ v. is_own_under p v c) (own_above p t)

  walk_here : (k : ℕ) (t : Text) → walks (own_above p) k t t ≡ true
  walk_here zero t = text_same t
  walk_here (suc k) t = ap (λ b. choice b (list_any (λ u. walks (own_above p) k u t) (own_above p t))) (text_same t)

  or_choice : (a b : Bool) → b ≡ true → choice a b ≡ true
  or_choice true b e = refl
  or_choice false b e = e

  module _ (t u : Text) (i : In u (own_above p t)) where
    up : (c : Text) → strict u c ≡ true → strict t c ≡ true
    up c e = any_here (λ v. is_own_under p v c) u (own_above p t) i (sym (steps_enough u c) ∙ or_choice (text_eq u c) (list_any (λ v. is_own_under p v c) (own_above p u)) e)

    above_t : strict t u ≡ true
    above_t = any_here (λ v. is_own_under p v u) u (own_above p t) i (walk_here (length p.classes) u)

  not_above : (u : Text) → strict u u ≡ true → ⊥
  not_above u e = let w = any_where (λ v. is_own_under p v u) (own_above p u) e in acyclic u w.0 w.1.0 w.1.1

  abbrev count : Text → ℕ
  count t = times (strict t) (names p)

  fewer : (t u : Text) → In u (own_above p t) → defines p u ≡ true → count u < count t
  fewer t u i d = by (alike_or_more (strict u) (strict t) (up t u i) (names p))
    where
      by : ((x : Text) → In x (names p) → strict t x ≡ strict u x) ⊎ (times (strict u) (names p) < times (strict t) (names p)) → count u < count t
      by (inl h) = absurd (not_above u (sym (h u (defined_in p u (class_named p u) refl d)) ∙ above_t t u i))
      by (inr lt) = lt

  ends_by : (n : ℕ) (t : Text) → count t < n → ends p n t ≡ true
  ends_by zero t lt = absurd (omega (arith, lt))
  ends_by (suc n) t lt = all_from (ends p n) (own_above p t) (λ u i. by u i (defines p u) refl (λ h. ends_by n u h))
    where
      by : (u : Text) → In u (own_above p t) → (b : Bool) → defines p u ≡ b → (count u < n → ends p n u ≡ true) → ends p n u ≡ true
      by u i true d ih = let h = fewer t u i d in ih (omega (arith, h, lt))
      by u i false d ih = undefined_ends p u d n

  pub regular : ((t : Text) → defines p t ≡ true → is_class_type t ≡ true) → IsRegular p
  regular h = record { names = h; grounded = λ t. (suc (count t), ends_by (suc (count t)) t (omega arith)) }
