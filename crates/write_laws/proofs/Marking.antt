-- What was marked stays marked, and each name of a list is.
use Rattle.std.proofs.Common.{◌≡◌, ◌<◌, ◌≤◌, ◌+◌, ℕ, zero, suc, List, [], ◌∷◌, ◌++◌, length, refl, sym, ap, subst, ◌∙◌, arith, get_or, set, get_or-set_same, get_or-set_other, length-set}
use Rattle.std.specs.Prelude.{Bool, true, false, ◌&&◌, nat_eq, nat_lt, slice_index_or, slice_set}
use Rattle.std.specs.List.{AllByRecursion, flat_map, list_any}
use Rattle.std.proofs.lemmas.Bool.{eqb-true, eqb-false, eq-eqb, or_right, lt-ltb}
use Rattle.dex_pools.specs.declared.used.Named.{Named}
use Rattle.dex_pools.specs.declared.used.Named.TheVariants as named
use Rattle.dex_pools.specs.declared.used.Used.{Used}
use Rattle.dex_pools.specs.Used.{mark_name, marked}
use Rattle.dex_pools.specs.Numbering.{numbers_from}
use Rattle.write_laws.specs.Used.{IsSet, IsUsed}

-- ---- flags

set_now : (flags : List Bool) (n : ℕ) → IsSet (slice_set flags n true) n
set_now flags n lt = get_or-set_same flags n true false (subst (λ l. n < l) (length-set flags n true) lt)

set_stays : (flags : List Bool) (n m : ℕ) → IsSet flags m → IsSet (slice_set flags n true) m
set_stays flags n m h lt = by_test (nat_eq m n) refl
  where
    by_test : (t : Bool) → nat_eq m n ≡ t → slice_index_or (slice_set flags n true) m false ≡ true
    by_test true e = let same : m ≡ n = eqb-true m n e in subst (λ k. slice_index_or (slice_set flags k true) m false ≡ true) same (set_now flags m (subst (λ l. m < l) (length-set flags n true ∙ sym (length-set flags m true)) lt))
    by_test false e = get_or-set_other flags n m true false (eqb-false m n e) ∙ h (subst (λ l. m < l) (length-set flags n true) lt)

-- ---- names

pub one_marked : (u : Used) (n : Named) → IsUsed (mark_name u n) n
one_marked u (named.Text n) = set_now u.strings n
one_marked u (named.Kind n) = set_now u.types n
one_marked u (named.Proto n) = set_now u.protos n
one_marked u (named.Field n) = set_now u.fields n
one_marked u (named.Method n) = set_now u.methods n

pub one_stays : (u : Used) (n m : Named) → IsUsed u m → IsUsed (mark_name u n) m
one_stays u (named.Text n) (named.Text m) h = set_stays u.strings n m h
one_stays u (named.Kind n) (named.Kind m) h = set_stays u.types n m h
one_stays u (named.Proto n) (named.Proto m) h = set_stays u.protos n m h
one_stays u (named.Field n) (named.Field m) h = set_stays u.fields n m h
one_stays u (named.Method n) (named.Method m) h = set_stays u.methods n m h
one_stays u n m h = h

pub stays : (u : Used) (ns : List Named) (m : Named) → IsUsed u m → IsUsed (marked u ns) m
stays u [] m h = h
stays u (n ∷ ns) m h = stays (mark_name u n) ns m (one_stays u n m h)

pub all_marked : (u : Used) (ns : List Named) → AllByRecursion (IsUsed (marked u ns)) ns
all_marked u [] = tt
all_marked u (n ∷ ns) = (stays (mark_name u n) ns n (one_marked u n), all_marked (mark_name u n) ns)

-- ---- all of a list

pub all_left : {X : Type 0} (P : X → Type 0) (xs ys : List X) → AllByRecursion P (xs ++ ys) → AllByRecursion P xs
all_left P [] ys h = tt
all_left P (x ∷ xs) ys h = (h.0, all_left P xs ys h.1)

pub all_right : {X : Type 0} (P : X → Type 0) (xs ys : List X) → AllByRecursion P (xs ++ ys) → AllByRecursion P ys
all_right P [] ys h = h
all_right P (x ∷ xs) ys h = all_right P xs ys h.1

pub all_weaker : {X : Type 0} (P Q : X → Type 0) (xs : List X) → ((x : X) → P x → Q x) → AllByRecursion P xs → AllByRecursion Q xs
all_weaker P Q [] f h = tt
all_weaker P Q (x ∷ xs) f h = (f x h.0, all_weaker P Q xs f h.1)

-- of what is made of each, what is made of one that is there
pub all_at : {X : Type 0} (P : X → Type 0) (f : ℕ → List X) (n : ℕ) (ns : List ℕ) → list_any (nat_eq n) ns ≡ true → AllByRecursion P (flat_map f ns) → AllByRecursion P (f n)
all_at P f n [] e h = absurd cc
all_at P f n (m ∷ ns) e h = by_test (nat_eq n m) refl (λ s. all_at P f n ns s (all_right P (f m) (flat_map f ns) h))
  where
    by_test : (t : Bool) → nat_eq n m ≡ t → (list_any (nat_eq n) ns ≡ true → AllByRecursion P (f n)) → AllByRecursion P (f n)
    by_test true s later = let same : n ≡ m = eqb-true n m s in subst (λ k. AllByRecursion P (f k)) (sym same) (all_left P (f m) (flat_map f ns) h)
    by_test false s later = later (rw s at e)

-- ---- the numbers of flags that are set

pub is_number : (from n : ℕ) (flags : List Bool) → n < length flags → from + length flags ≤ 4294967295 → slice_index_or flags n false ≡ true → list_any (nat_eq (from + n)) (numbers_from from flags) ≡ true
is_number from n [] lt few h = absurd (omega (arith, lt))
is_number from zero (flag ∷ flags) lt few h =
    let small : nat_lt from 4294967295 ≡ true = lt-ltb from 4294967295 (omega (arith, few)) in
    let same : nat_eq (from + 0) from ≡ true = eq-eqb (from + 0) from (omega arith) in
    rw (h, small, same) refl
is_number from (suc n) (flag ∷ flags) lt few h =
    let e : suc from + n ≡ from + suc n = omega arith in
    let there : list_any (nat_eq (from + suc n)) (numbers_from (suc from) flags) ≡ true = subst (λ k. list_any (nat_eq k) (numbers_from (suc from) flags) ≡ true) e (is_number (suc from) n flags (omega (arith, lt)) (omega (arith, few)) h) in
    by_test (flag && nat_lt from 4294967295) refl there
  where
    by_test : (t : Bool) → (flag && nat_lt from 4294967295) ≡ t → list_any (nat_eq (from + suc n)) (numbers_from (suc from) flags) ≡ true → list_any (nat_eq (from + suc n)) (numbers_from from (flag ∷ flags)) ≡ true
    by_test true e later = rw e (or_right (nat_eq (from + suc n) from) _ later)
    by_test false e later = rw e later

pub numbers_few : (from : ℕ) (flags : List Bool) → length (numbers_from from flags) ≤ length flags
numbers_few from [] = omega arith
numbers_few from (flag ∷ flags) = by_test (flag && nat_lt from 4294967295) refl (numbers_few (suc from) flags)
  where
    by_test : (t : Bool) → (flag && nat_lt from 4294967295) ≡ t → length (numbers_from (suc from) flags) ≤ length flags → length (numbers_from from (flag ∷ flags)) ≤ length (flag ∷ flags)
    by_test true e le = rw e (omega (arith, le))
    by_test false e le = rw e (omega (arith, le))
