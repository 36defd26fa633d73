-- A call weighs less by the method that it is bound to.
use Rattle.std.proofs.Common.{◌≡◌, ◌⊎◌, inl, inr, ℕ, zero, suc, ◌+◌, ◌<◌, ◌≤◌, Bool, true, false, true≢false, nat_eq, List, [], ◌∷◌, length, Option, Some, None, refl, sym, ap, ◌∙◌, subst, arith}
use Rattle.std.specs.Prelude.{◌||◌, cond, filter, not, if◌then◌else◌, slice_get}
use Rattle.std.specs.List.{range_with_len}
use Rattle.lemmas.proofs.Bools.{and_left, and_right, clash, not_true, untrue}
use Rattle.lemmas.proofs.Numbers.{same_number}
use Rattle.program_model.specs.declared.pools.MethodName.{MethodName}
use Rattle.program_model.specs.declared.program.MethodAt.{MethodAt}
use Rattle.program_model.specs.declared.program.Program.{Program}
use Rattle.program_model.specs.Lookups.{class_place}
use Rattle.class_defs.specs.Members.{has_code}
use Rattle.class_defs.specs.Places.{is_under}
use Rattle.hierarchy.specs.Climbing.{In}
use Rattle.hierarchy.specs.Ranks.{IsRanked}
use Rattle.receivers.specs.Receiving.{interface_at}
use Rattle.receivers.proofs.Ranges.{numbers_in}
use Rattle.receivers.proofs.Walks.{place_short, rank_under, under_on, under_self}
use Rattle.devirt.specs.declared.binding.Bound.{Bound}
use Rattle.devirt.specs.declared.binding.Call.{Call}
use Rattle.devirt.specs.Binding.{falls_so, is_lower, kind_for}
use Rattle.devirt.specs.Measure.{bound_of, call_weight, codes_own, count_under, is_coded, is_interface_call, is_interface_place, is_virtual_call, names_code, names_interface, weight_named}
use Rattle.devirt.specs.Rebound.{IsBound}

-- ---- fewer pass a stricter test

count_most : (t : ℕ → Bool) (xs : List ℕ) → length (filter t xs) ≤ length xs
count_most t [] = omega arith
count_most t (x ∷ xs) = by (t x) (count_most t xs)
  where
    by : (b : Bool) → length (filter t xs) ≤ length xs → length (cond b (x ∷ filter t xs) (filter t xs)) ≤ suc (length xs)
    by true h = omega (arith, h)
    by false h = omega (arith, h)

range_long : (a n : ℕ) → length (range_with_len a n) ≡ n
range_long a zero = refl
range_long a (suc n) = ap suc (range_long (a + 1) n)

module _ (t s : ℕ → Bool) where
  abbrev Within : List ℕ → Type 0
  Within xs = (x : ℕ) → In x xs → t x ≡ true → s x ≡ true

  count_within : (xs : List ℕ) → Within xs → length (filter t xs) ≤ length (filter s xs)
  count_within [] h = omega arith
  count_within (x ∷ xs) h = by (t x) (s x) (h x (inl refl)) (count_within xs (λ y i. h y (inr i)))
    where
      by : (b c : Bool) → (b ≡ true → c ≡ true) → length (filter t xs) ≤ length (filter s xs) → length (cond b (x ∷ filter t xs) (filter t xs)) ≤ length (cond c (x ∷ filter s xs) (filter s xs))
      by true true k l = omega (arith, l)
      by true false k l = absurd (true≢false (sym (k refl)))
      by false true k l = omega (arith, l)
      by false false k l = l

  count_fewer : (xs : List ℕ) (d : ℕ) → Within xs → In d xs → t d ≡ false → s d ≡ true → length (filter t xs) < length (filter s xs)
  count_fewer [] d h i e f = absurd i
  count_fewer (x ∷ xs) d h (inl g) e f =
      let l : length (filter t xs) ≤ length (filter s xs) = count_within xs (λ y i. h y (inr i)) in
      by (t x) (s x) (ap t (sym g) ∙ e) (ap s (sym g) ∙ f) l
    where
      by : (b c : Bool) → b ≡ false → c ≡ true → length (filter t xs) ≤ length (filter s xs) → length (cond b (x ∷ filter t xs) (filter t xs)) < length (cond c (x ∷ filter s xs) (filter s xs))
      by false true i j l = omega (arith, l)
      by true c i j l = absurd (true≢false i)
      by false false i j l = absurd (true≢false (sym j))
  count_fewer (x ∷ xs) d h (inr i) e f = by (t x) (s x) (h x (inl refl)) (count_fewer xs d (λ y i. h y (inr i)) i e f)
    where
      by : (b c : Bool) → (b ≡ true → c ≡ true) → length (filter t xs) < length (filter s xs) → length (cond b (x ∷ filter t xs) (filter t xs)) < length (cond c (x ∷ filter s xs) (filter s xs))
      by true true k l = omega (arith, l)
      by true false k l = absurd (true≢false (sym (k refl)))
      by false true k l = omega (arith, l)
      by false false k l = l

-- ---- ranks

module _ (p : Program) (r : IsRanked p) where
  -- classes don't stand under one another
  pub one_way : (c d : ℕ) → nat_eq c d ≡ false → is_under p c d ≡ true → is_under p d c ≡ false
  one_way c d apart e = untrue (is_under p d c) (λ f. both (rank_under p r (length p.classes) c d e) (rank_under p r (length p.classes) d c f))
    where
      apart_not : c ≡ d → ⊥
      apart_not s = clash (nat_eq c d) (ap (nat_eq c) (sym s) ∙ same c) apart
        where
          same : (n : ℕ) → nat_eq n n ≡ true
          same n = same_number n

      both : (c ≡ d) ⊎ (r.rank d < r.rank c) → (d ≡ c) ⊎ (r.rank c < r.rank d) → ⊥
      both (inl s) y = apart_not s
      both (inr l) (inl s) = apart_not (sym s)
      both (inr l) (inr m) = omega (arith, l, m)

  abbrev all : List ℕ
  all = range_with_len 0 (length p.classes)

  count_bound : (o : Option ℕ) → count_under p o ≤ length p.classes
  count_bound None = omega arith
  count_bound (Some c) = let l = count_most (λ d. is_under p d c) all in let m = range_long 0 (length p.classes) in omega (arith, l, m)

  -- fewer stand under a class that stands strictly under another one
  count_lower : (c : ℕ) (o : Option ℕ) → ((d : ℕ) → o ≡ Some d → d < length p.classes) → is_lower p c o ≡ true → count_under p (Some c) < count_under p o
  count_lower c None l e = absurd (true≢false (sym e))
  count_lower c (Some d) l e =
      let under : is_under p c d ≡ true = and_left (is_under p c d) (not (nat_eq c d)) e in
      let apart : nat_eq c d ≡ false = not_true (nat_eq c d) (and_right (is_under p c d) (not (nat_eq c d)) e) in
      let short = l d refl in
      count_fewer (λ x. is_under p x c) (λ x. is_under p x d) all d (λ x i u. under_on p r x c d u under)
      (numbers_in 0 (length p.classes) d (omega arith) (omega (arith, short))) (one_way c d apart under) (under_self p r d)

  -- ---- weights

  module _ (call : Call) (named renamed : MethodName) (at : MethodAt) (b : Bound) (is : IsBound p call named renamed at b) (virtual : is_virtual_call call.kind ≡ true) (entry : slice_get p.methods call.method ≡ Some named) where
    interface_kind : (i : Bool) → (is_interface_call (kind_for i) || i) ≡ i
    interface_kind true = refl
    interface_kind false = refl

    virtual_kind : (i : Bool) → is_virtual_call (kind_for i) ≡ true
    virtual_kind true = refl
    virtual_kind false = refl

    new_code : names_code p renamed ≡ true
    new_code = ap (codes_own p renamed) is.class ∙ (ap (is_coded p) is.own ∙ (ap has_code is.there ∙ is.coded))

    new_interface : names_interface p b.kind renamed ≡ interface_at p at.class
    new_interface = ap (λ k. is_interface_call k || is_interface_place p (class_place p renamed.class)) is.kind
        ∙ (ap (λ o. is_interface_call (kind_for (interface_at p at.class)) || is_interface_place p o) is.class ∙ interface_kind (interface_at p at.class))

    abbrev weight : Bool → Bool → ℕ → ℕ
    weight code face count = (if code then 0 else bound_of p + bound_of p) + (if face then bound_of p else 0) + count

    new_weight : call_weight p b.kind b.method ≡ weight true (interface_at p at.class) (count_under p (Some at.class))
    new_weight = ap (λ t. if t then weight_named p b.kind (slice_get p.methods b.method) else 0) (ap is_virtual_call is.kind ∙ virtual_kind (interface_at p at.class))
        ∙ (ap (weight_named p b.kind) is.entry ∙ ap₃ new_code new_interface (ap (count_under p) is.class))
      where
        ap₃ : {c d : Bool} {f g : Bool} {n m : ℕ} → c ≡ d → f ≡ g → n ≡ m → weight c f n ≡ weight d g m
        ap₃ {c} {d} {f} {g} {n} {m} i j k = ap (λ c. weight c f n) i ∙ (ap (λ f. weight d f n) j ∙ ap (weight d g) k)

    old_weight : call_weight p call.kind call.method ≡ weight (names_code p named) (names_interface p call.kind named) (count_under p (class_place p named.class))
    old_weight = ap (λ t. if t then weight_named p call.kind (slice_get p.methods call.method) else 0) virtual ∙ ap (weight_named p call.kind) entry

    place_least : (d : ℕ) → class_place p named.class ≡ Some d → d < length p.classes
    place_least d e = place_short p named.class d e

    lighter : (code from to : Bool) → (not code || falls_so p from to named at.class) ≡ true
        → weight true to (count_under p (Some at.class)) < weight code from (count_under p (class_place p named.class))
    lighter false from true e = let l = count_bound (Some at.class) in omega (arith, l)
    lighter false from false e = let l = count_bound (Some at.class) in omega (arith, l)
    lighter true true false e = let l = count_bound (Some at.class) in omega (arith, l)
    lighter true false true e = absurd (true≢false (sym e))
    lighter true true true e = let l = count_lower at.class (class_place p named.class) place_least e in omega (arith, l)
    lighter true false false e = let l = count_lower at.class (class_place p named.class) place_least e in omega (arith, l)

    pub falls_by : call_weight p b.kind b.method < call_weight p call.kind call.method
    falls_by = subst (λ n. n < call_weight p call.kind call.method) (sym new_weight)
        (subst (λ n. weight true (interface_at p at.class) (count_under p (Some at.class)) < n) (sym old_weight)
        (lighter (names_code p named) (names_interface p call.kind named) (interface_at p at.class) is.falls))
