-- When an array type, or any type of objects, is of the kind of another.
use Rattle.std.proofs.Common.{◌≡◌, ℕ, suc, Bool, true, false, true≢false, [], ◌∷◌, Option, Some, None, ◌⊎◌, inl, inr, refl, sym, ap, ◌∙◌, subst, arith}
use Rattle.std.specs.Prelude.{◌&&◌, ◌||◌, not, nat_eq, nat_lt, if◌then◌else◌}
use Rattle.std.proofs.lemmas.Bool.{eqb-true, eq-eqb, ltb-true, lt-ltb}
use Rattle.dalvik_defs.proofs.Calm.{text_sound}
use Rattle.dalvik_defs.specs.Names.{Text, text_eq, is_array, is_reference, is_wide, object_type, base_of}
use Rattle.dalvik_defs.specs.Under.{class_under, under_types, is_under}
use Rattle.dalvik_defs.specs.declared.program.NamedProgram.{NamedProgram}
use Rattle.dalvik_defs.specs.declared.tables.Framework.{Framework}
use Rattle.pass_defs.specs.Kinds.{Kind, kind_eq, is_plain, depth, arrays_of, line_from, line_of, nearest, is_flat, joined, joined_deep, joined_items, joined_arrays, class_or_reference, item_fits, array_fits, is_below, kind_of, kind_of_reference, object_array}
use Rattle.pass_defs.specs.Kinds as kind
use Rattle.run_laws.specs.TypedStates.{Cond, ArrayFits, RefFits}
use Rattle.run_laws.proofs.Settled.{IsSettled}
use Rattle.run_laws.proofs.Registers.{and_left, and_right}
use Rattle.run_laws.proofs.Sorts.{RefSort, AnArray, APlain, AnAny, ref_sort, array_reference, not_word, not_wide}
use Rattle.run_laws.proofs.Climbs.{Up, or_cases, under_self, nearest_up, plain_defined}

pub true_false : {A : Type 0} {b : Bool} → b ≡ true → b ≡ false → A
true_false i j = absurd (true≢false (sym i ∙ j))

module _ (p : NamedProgram) (f : Framework) (reg : IsSettled p) where
  abbrev under : Text → Text → Bool
  under = is_under p f

  abbrev Fits : Text → Text → Type 0
  Fits = RefFits p f

  -- a test of an array type, in a goal
  pub to_cond : (b : Bool) (A B : Type 0) → (b ≡ true → A) → (b ≡ false → B) → Cond p f b A B
  to_cond true A B x y = x refl
  to_cond false A B x y = y refl

  pub cond_true : (b : Bool) (A B : Type 0) → b ≡ true → Cond p f b A B → A
  cond_true true A B e h = h
  cond_true false A B e h = absurd (true≢false (sym e))

  pub cond_false : (b : Bool) (A B : Type 0) → b ≡ false → Cond p f b A B → B
  cond_false true A B e h = absurd (true≢false e)
  cond_false false A B e h = h

  -- a type is of its own kind
  pub fits_self : (t : Text) → Fits t t
  fits_self [] = to_cond false (ArrayFits p f [] []) (is_plain p [] ≡ true → under [] [] ≡ true) (λ e. absurd (true≢false (sym e))) (λ e i. true_false (reg.regular.class_types [] (plain_defined p [] i)) refl)
  fits_self (u ∷ us) = to_cond (nat_eq u 91) (ArrayFits p f (u ∷ us) (u ∷ us)) (is_plain p (u ∷ us) ≡ true → under (u ∷ us) (u ∷ us) ≡ true) (λ e. (e, (e, inl refl))) (λ e i. under_self p f reg (u ∷ us) (reg.regular.class_types (u ∷ us) (plain_defined p (u ∷ us) i)))

  -- what is under a type is of its kind
  pub under_fits : (z t : Text) → under z t ≡ true → Fits z t
  under_fits [] t e = absurd (true≢false (sym e))
  under_fits (x ∷ z) [] e = absurd (true≢false (sym e))
  under_fits (x ∷ z) (y ∷ t) e = to_cond (nat_eq y 91) (ArrayFits p f (x ∷ z) (y ∷ t)) (is_plain p (y ∷ t) ≡ true → under (x ∷ z) (y ∷ t) ≡ true) (λ i. by (nat_eq x 91) (text_eq (x ∷ z) (y ∷ t)) (text_eq (y ∷ t) object_type) refl refl refl i e (λ j. under_fits z t j)) (λ i j. e)
    where
      by : (a same top : Bool) → nat_eq x 91 ≡ a → text_eq (x ∷ z) (y ∷ t) ≡ same → text_eq (y ∷ t) object_type ≡ top → nat_eq y 91 ≡ true → (elim a as (λ a. Bool) [
        | false ↦ not (nat_eq y 91) && class_under p f (x ∷ z) (y ∷ t)
        | true ↦ same || top || (nat_eq y 91 && is_reference z && is_reference t && under_types (class_under p f) z t)
      ]) ≡ true → (under z t ≡ true → Fits z t) → ArrayFits p f (x ∷ z) (y ∷ t)
      by false same top j k l i m more = absurd (true≢false (sym (and_left (not (nat_eq y 91)) (class_under p f (x ∷ z) (y ∷ t)) m) ∙ ap not i))
      by true true top j k l i m more = (j, (i, inl (ap tail (text_sound (x ∷ z) (y ∷ t) k))))
        where
          tail : Text → Text
          tail [] = []
          tail (u ∷ us) = us
      by true false true j k l i m more = absurd (true≢false (sym i ∙ ap is_array (text_sound (y ∷ t) object_type l)))
      by true false false j k l i m more = let u = under_types (class_under p f) z t in
          let n = and_left ((nat_eq y 91 && is_reference z) && is_reference t) u m in
          (j, (i, inr (and_right (nat_eq y 91) (is_reference z) (and_left (nat_eq y 91 && is_reference z) (is_reference t) n), (and_right (nat_eq y 91 && is_reference z) (is_reference t) n, more (and_right ((nat_eq y 91 && is_reference z) && is_reference t) u m)))))

  -- ---- what fits an array type

  pub class_below : (s t : Text) → is_below p (kind.Class s) (kind.Class t) ≡ true → Up p f reg s t
  class_below s t e = by (text_eq s t) refl e
    where
      near : (o : Option Text) → nearest p s t ≡ o → kind_eq (class_or_reference o) (kind.Class t) ≡ true → Up p f reg s t
      near (Some k) i j = subst (Up p f reg s) (text_sound k t j) (nearest_up p f reg s t k i)
      near None i j = absurd (true≢false (sym j))

      by : (b : Bool) → text_eq s t ≡ b → kind_eq (if b then kind.Class s else class_or_reference (nearest p s t)) (kind.Class t) ≡ true → Up p f reg s t
      by true i j = subst (Up p f reg s) (text_sound s t i) (λ z k. k)
      by false i j = near (nearest p s t) refl j

  -- that all of the kind of one type are of that of another
  abbrev Above : Text → Text → Type 0
  Above s t = (s ≡ t) ⊎ ((is_reference s ≡ true) × ((is_reference t ≡ true) × ((z : Text) → Fits z s → Fits z t)))

  reference_kind : (s : Text) → is_reference s ≡ true → kind_of p s ≡ kind_of_reference p s
  reference_kind s e = ap (λ x. if x then kind.Word else if is_wide s then kind.Low else if is_reference s then kind_of_reference p s else kind.Undefined) (not_word s e)
      ∙ (ap (λ x. if x then kind.Low else if is_reference s then kind_of_reference p s else kind.Undefined) (not_wide s e)
      ∙ ap (λ x. if x then kind_of_reference p s else kind.Undefined) e)

  items_above : (s t : Text) → is_array s ≡ false → is_array t ≡ false → item_fits p s t ≡ true → Above s t
  items_above s t i j e = let last = not (is_plain p t) || is_below p (kind_of p s) (kind.Class t) in
      let refs = and_left (is_reference s && is_reference t) last e in
      let rs = and_left (is_reference s) (is_reference t) refs in
      inr (
        rs,
        (
          and_right (is_reference s) (is_reference t) refs,
          λ z h. to_cond (is_array t) (ArrayFits p f z t) (is_plain p t ≡ true → under z t ≡ true) (λ k. true_false k j) (λ k l. by (or_cases (not (is_plain p t)) (is_below p (kind_of p s) (kind.Class t)) (and_right (is_reference s && is_reference t) last e)) rs z h l),
        ),
      )
    where
      sort : RefSort p s → (z : Text) → Fits z s → is_below p (kind_of_reference p s) (kind.Class t) ≡ true → under z t ≡ true
      sort (AnArray k e) z h l = true_false k i
      sort (APlain a k e) z h l = class_below s t (ap (λ x. is_below p x (kind.Class t)) (sym e) ∙ l) z (cond_false (is_array s) (ArrayFits p f z s) (is_plain p s ≡ true → under z s ≡ true) i h k)
      sort (AnAny a k e) z h l = absurd (true≢false (sym l ∙ ap (λ x. is_below p x (kind.Class t)) e))

      by : (not (is_plain p t) ≡ true) ⊎ (is_below p (kind_of p s) (kind.Class t) ≡ true) → is_reference s ≡ true → (z : Text) → Fits z s → is_plain p t ≡ true → under z t ≡ true
      by (inl k) rs z h l = absurd (true≢false (sym k ∙ ap not l))
      by (inr k) rs z h l = sort (ref_sort p s) z h (ap (λ x. is_below p x (kind.Class t)) (sym (reference_kind s rs)) ∙ k)

  -- an array has a depth, and no other type
  pub depth_array : (t : Text) → is_array t ≡ false → (depth t ≡ 0) × (base_of t ≡ t)
  depth_array [] e = (refl, refl)
  depth_array (u ∷ us) e = (ap (λ b. elim b as (λ b. ℕ) [ true ↦ suc (depth us) | false ↦ 0 ]) e, ap (λ b. elim b as (λ b. Text) [ true ↦ base_of us | false ↦ u ∷ us ]) e)

  pub deep : (u : ℕ) (us : Text) → nat_eq u 91 ≡ true → (depth (u ∷ us) ≡ suc (depth us)) × (base_of (u ∷ us) ≡ base_of us)
  deep u us e = (ap (λ b. elim b as (λ b. ℕ) [ true ↦ suc (depth us) | false ↦ 0 ]) e, ap (λ b. elim b as (λ b. Text) [ true ↦ base_of us | false ↦ u ∷ us ]) e)

  bools : (x y : Bool) → (x ≡ true → y ≡ true) → (y ≡ true → x ≡ true) → x ≡ y
  bools true y i j = sym (i refl)
  bools false true i j = j refl
  bools false false i j = refl

  eq_suc : (m n : ℕ) → nat_eq (suc m) (suc n) ≡ nat_eq m n
  eq_suc m n = bools (nat_eq (suc m) (suc n)) (nat_eq m n) (λ e. let h = eqb-true (suc m) (suc n) e in eq-eqb m n (omega (arith, h))) (λ e. eq-eqb (suc m) (suc n) (ap suc (eqb-true m n e)))

  lt_suc : (m n : ℕ) → nat_lt (suc m) (suc n) ≡ nat_lt m n
  lt_suc m n = bools (nat_lt (suc m) (suc n)) (nat_lt m n) (λ e. let h = ltb-true (suc m) (suc n) e in lt-ltb m n (omega (arith, h))) (λ e. let h = ltb-true m n e in lt-ltb (suc m) (suc n) (omega (arith, h)))

  unequal : (m n : ℕ) → (m ≡ n → ⊥) → nat_eq m n ≡ false
  unequal m n d = by (nat_eq m n) refl
    where
      by : (b : Bool) → nat_eq m n ≡ b → b ≡ false
      by true e = absurd (d (eqb-true m n e))
      by false e = refl

  no_less : (m : ℕ) → nat_lt m 0 ≡ false
  no_less m = by (nat_lt m 0) refl
    where
      by : (b : Bool) → nat_lt m 0 ≡ b → b ≡ false
      by true e = let h = ltb-true m 0 e in absurd (omega (arith, h))
      by false e = refl

  abbrev fitted : Bool → Bool → Bool → Text → Text → Bool
  fitted eq lt same s t = if eq then (same || item_fits p s t) else lt && is_reference t && not (is_plain p t)

  fitted_is : (s t : Text) (m n : ℕ) (eq lt : Bool) (b c : Text) → depth s ≡ m → depth t ≡ n → nat_eq m n ≡ eq → nat_lt n m ≡ lt → base_of s ≡ b → base_of t ≡ c → array_fits p s t ≡ fitted eq lt (text_eq s t) b c
  fitted_is s t m n eq lt b c i j d l k o = ap (λ x. fitted (nat_eq x (depth t)) (nat_lt (depth t) x) (text_eq s t) (base_of s) (base_of t)) i
      ∙ (ap (λ x. fitted (nat_eq m x) (nat_lt x m) (text_eq s t) (base_of s) (base_of t)) j
      ∙ (ap (λ x. fitted x (nat_lt n m) (text_eq s t) (base_of s) (base_of t)) d ∙ (ap (λ x. fitted eq x (text_eq s t) (base_of s) (base_of t)) l
      ∙ (ap (λ x. fitted eq lt (text_eq s t) x (base_of t)) k ∙ ap (λ x. fitted eq lt (text_eq s t) b x) o))))

  zero_suc : (n : ℕ) → nat_eq 0 (suc n) ≡ false
  zero_suc n = unequal 0 (suc n) (λ e. omega (arith, e))

  suc_zero : (n : ℕ) → nat_eq (suc n) 0 ≡ false
  suc_zero n = unequal (suc n) 0 (λ e. omega (arith, e))

  -- by what they are
  bare_array : (s : Text) (y : ℕ) (t : Text) → depth s ≡ 0 → base_of s ≡ s → nat_eq y 91 ≡ true → array_fits p s (y ∷ t) ≡ false
  bare_array s y t i k e = fitted_is s (y ∷ t) 0 (suc (depth t)) false false s (base_of t) i (deep y t e).0 (zero_suc (depth t)) (no_less (suc (depth t))) k (deep y t e).1

  bare_bare : (s t : Text) → is_array s ≡ false → is_array t ≡ false → array_fits p s t ≡ (text_eq s t || item_fits p s t)
  bare_bare s t i j = fitted_is s t 0 0 true false s t (depth_array s i).0 (depth_array t j).0 refl refl (depth_array s i).1 (depth_array t j).1

  array_bare : (x : ℕ) (s t : Text) → nat_eq x 91 ≡ true → is_array t ≡ false → array_fits p (x ∷ s) t ≡ (nat_lt 0 (suc (depth s)) && is_reference t && not (is_plain p t))
  array_bare x s t i j = fitted_is (x ∷ s) t (suc (depth s)) 0 false (nat_lt 0 (suc (depth s))) (base_of s) t (deep x s i).0 (depth_array t j).0 (suc_zero (depth s)) refl (deep x s i).1 (depth_array t j).1

  array_array : (x y : ℕ) (s t : Text) → nat_eq x 91 ≡ true → nat_eq y 91 ≡ true → text_eq (x ∷ s) (y ∷ t) ≡ text_eq s t → array_fits p (x ∷ s) (y ∷ t) ≡ array_fits p s t
  array_array x y s t i j same = fitted_is (x ∷ s) (y ∷ t) (suc (depth s)) (suc (depth t)) (nat_eq (depth s) (depth t)) (nat_lt (depth t) (depth s)) (base_of s) (base_of t) (deep x s i).0 (deep y t j).0
      (eq_suc (depth s) (depth t)) (lt_suc (depth t) (depth s)) (deep x s i).1 (deep y t j).1 ∙ ap (λ b. fitted (nat_eq (depth s) (depth t)) (nat_lt (depth t) (depth s)) b (base_of s) (base_of t)) same

  both_bare : (s t : Text) → is_array s ≡ false → is_array t ≡ false → (text_eq s t || item_fits p s t) ≡ true → Above s t
  both_bare s t i j e = both (or_cases (text_eq s t) (item_fits p s t) e)
    where
      both : (text_eq s t ≡ true) ⊎ (item_fits p s t ≡ true) → Above s t
      both (inl k) = inl (text_sound s t k)
      both (inr k) = items_above s t i j k

  pub fits_above : (s t : Text) → array_fits p s t ≡ true → Above s t
  fits_above [] [] e = inl refl
  fits_above [] (y ∷ t) e = by (nat_eq y 91) refl
    where
      by : (b : Bool) → nat_eq y 91 ≡ b → Above [] (y ∷ t)
      by true i = absurd (true≢false (sym e ∙ bare_array [] y t refl refl i))
      by false i = both_bare [] (y ∷ t) refl i (sym (bare_bare [] (y ∷ t) refl i) ∙ e)
  fits_above (x ∷ s) [] e = by (nat_eq x 91) refl
    where
      by : (b : Bool) → nat_eq x 91 ≡ b → Above (x ∷ s) []
      by true i = absurd (true≢false (sym (and_right (nat_lt 0 (suc (depth s))) false (and_left (nat_lt 0 (suc (depth s)) && false) (not (is_plain p [])) (sym (array_bare x s [] i refl) ∙ e)))))
      by false i = both_bare (x ∷ s) [] i refl (sym (bare_bare (x ∷ s) [] i refl) ∙ e)
  fits_above (x ∷ s) (y ∷ t) e = by (nat_eq x 91) (nat_eq y 91) refl refl (λ j. fits_above s t j)
    where
      heads : (a b : ℕ) → nat_eq a 91 ≡ true → nat_eq b 91 ≡ true → a ≡ b
      heads a b i j = eqb-true a 91 i ∙ sym (eqb-true b 91 j)

      same_tail : nat_eq x 91 ≡ true → nat_eq y 91 ≡ true → text_eq (x ∷ s) (y ∷ t) ≡ text_eq s t
      same_tail i j = ap (λ b. b && text_eq s t) (eq-eqb x y (heads x y i j))

      inner : nat_eq x 91 ≡ true → nat_eq y 91 ≡ true → Above s t → Above (x ∷ s) (y ∷ t)
      inner i j (inl k) = inl (ap (λ a. a ∷ s) (heads x y i j) ∙ ap (λ us. y ∷ us) k)
      inner i j (inr k) = inr (
        array_reference (x ∷ s) i,
        (
          array_reference (y ∷ t) j,
          λ z h. to_cond (nat_eq y 91) (ArrayFits p f z (y ∷ t)) (is_plain p (y ∷ t) ≡ true → under z (y ∷ t) ≡ true)
              (λ l. arrays z (cond_true (nat_eq x 91) (ArrayFits p f z (x ∷ s)) (is_plain p (x ∷ s) ≡ true → under z (x ∷ s) ≡ true) i h)) (λ l. true_false j l),
        ),
      )
        where
          arrays : (z : Text) → ArrayFits p f z (x ∷ s) → ArrayFits p f z (y ∷ t)
          arrays [] h = absurd h
          arrays (v ∷ z) (a, (b, inl l)) = (a, (j, inr (subst (λ u. is_reference u ≡ true) (sym l) k.0, (k.1.0, k.1.1 z (subst (λ u. Fits u s) (sym l) (fits_self s))))))
          arrays (v ∷ z) (a, (b, inr l)) = (a, (j, inr (l.0, (k.1.0, k.1.1 z l.1.1))))

      by : (a b : Bool) → nat_eq x 91 ≡ a → nat_eq y 91 ≡ b → (array_fits p s t ≡ true → Above s t) → Above (x ∷ s) (y ∷ t)
      by true true i j more = inner i j (more (sym (array_array x y s t i j (same_tail i j)) ∙ e))
      by true false i j more = inr (array_reference (x ∷ s) i, over)
        where
          cut : nat_lt 0 (suc (depth s)) && is_reference (y ∷ t) && not (is_plain p (y ∷ t)) ≡ true
          cut = sym (array_bare x s (y ∷ t) i j) ∙ e

          over : (is_reference (y ∷ t) ≡ true) × ((z : Text) → Fits z (x ∷ s) → Fits z (y ∷ t))
          over = (
            and_right (nat_lt 0 (suc (depth s))) (is_reference (y ∷ t)) (and_left (nat_lt 0 (suc (depth s)) && is_reference (y ∷ t)) (not (is_plain p (y ∷ t))) cut),
            λ z h. to_cond (nat_eq y 91) (ArrayFits p f z (y ∷ t)) (is_plain p (y ∷ t) ≡ true → under z (y ∷ t) ≡ true) (λ l. true_false l j)
                (λ l m. absurd (true≢false (sym (and_right (nat_lt 0 (suc (depth s)) && is_reference (y ∷ t)) (not (is_plain p (y ∷ t))) cut) ∙ ap not m))),
          )
      by false true i j more = absurd (true≢false (sym e ∙ bare_array (x ∷ s) y t (depth_array (x ∷ s) i).0 (depth_array (x ∷ s) i).1 j))
      by false false i j more = both_bare (x ∷ s) (y ∷ t) i j (sym (bare_bare (x ∷ s) (y ∷ t) i j) ∙ e)

  -- what is of the kind of a type is of that of those above it
  pub fits_up : (z s t : Text) → array_fits p s t ≡ true → Fits z s → Fits z t
  fits_up z s t e h = by (fits_above s t e)
    where
      by : Above s t → Fits z t
      by (inl i) = subst (Fits z) i h
      by (inr i) = i.1.1 z h
