-- Tables that ascend have no two equal entries.
use Rattle.std.proofs.Common.{◌≡◌, ◌⊎◌, inl, inr, ℕ, List, [], ◌∷◌, ◌++◌, Bool, true, false, refl, sym, ap, subst, ◌∙◌, nat_eq, true≢false, if◌then◌else◌, cond, eqb, arith}
use Rattle.std.specs.Prelude.{◌&&◌, ◌||◌, nat_lt}
use Rattle.std.specs.List.{list_all, list_any}
use Rattle.std.specs.Ordering.{is_lt, is_eq, nat_cmp, ordering_then}
use Rattle.std.specs.declared.cmp.Ordering.{Ordering}
use Rattle.std.specs.declared.cmp.Ordering.TheVariants.{Less, Equal, Greater}
use Rattle.std.specs.Cmp.Lexicographic.{pointwise, slice_cmp, nat_list_cmp_total}
use Rattle.std.proofs.lemmas.Bool.{eqb-true, eq-eqb, le-ltb}
use Rattle.std.proofs.lemmas.List.Folds.{list_all-append}
use Rattle.lemmas.proofs.Bools.{and_both, and_parts, or_cases}
use Rattle.program_model.specs.Distinct.{same_entry, differ_from, all_differ, text_key, type_key, proto_key, field_key, method_key}
use Rattle.program_model.specs.declared.pools.Proto.{Proto}
use Rattle.program_model.specs.declared.pools.FieldName.{FieldName}
use Rattle.program_model.specs.declared.pools.MethodName.{MethodName}
use Rattle.program_model.proofs.Apart.{tied_is_same}
use Rattle.dex_pools.specs.Finds.{Ascends}
use Rattle.dex_pools.specs.Order.{is_less, list_below, three_below, proto_below, field_below, method_below}

-- ---- keys in their order

abbrev pub stands_below : List ℕ → List ℕ → Bool
stands_below a b = is_lt (slice_cmp nat_cmp a b)

is_less_lt : (r : Ordering) → is_less r ≡ true → is_lt r ≡ true
is_less_lt Less e = refl
is_less_lt Equal e = absurd (true≢false (sym e))
is_less_lt Greater e = absurd (true≢false (sym e))

less : (r : Ordering) → is_lt r ≡ true → r ≡ Less
less Less e = refl
less Equal e = absurd (true≢false (sym e))
less Greater e = absurd (true≢false (sym e))

below_both : (a b c : List ℕ) → stands_below a b ≡ true → stands_below b c ≡ true → stands_below a c ≡ true
below_both a b c h k = ap is_lt (nat_list_cmp_total.trans a b c (less _ h) (less _ k))

below_differs : (a b : List ℕ) → stands_below a b ≡ true → pointwise nat_eq a b ≡ false
below_differs a b h = sym (tied_is_same a b) ∙ ap is_eq (less (slice_cmp nat_cmp a b) h)

-- ---- lists that ascend

none_same : {X : Type 0} (key : X → List ℕ) (x : X) (ys : List X) → list_all (λ y. stands_below (key y) (key x)) ys ≡ true → list_any (λ y. same_entry key y x) ys ≡ false
none_same key x [] h = refl
none_same key x (y ∷ ys) h =
    let p = and_parts (stands_below (key y) (key x)) (list_all (λ z. stands_below (key z) (key x)) ys) h in
    ap (λ b. b || list_any (λ z. same_entry key z x) ys) (below_differs (key y) (key x) p.0) ∙ none_same key x ys p.1

further : {X : Type 0} (key : X → List ℕ) (x y : X) (before : List X) → stands_below (key x) (key y) ≡ true → list_all (λ z. stands_below (key z) (key x)) before ≡ true
    → list_all (λ z. stands_below (key z) (key y)) before ≡ true
further key x y [] lt h = refl
further key x y (z ∷ before) lt h =
    let p = and_parts (stands_below (key z) (key x)) (list_all (λ w. stands_below (key w) (key x)) before) h in
    and_both (stands_below (key z) (key y)) (list_all (λ w. stands_below (key w) (key y)) before) (below_both (key z) (key x) (key y) p.0 lt) (further key x y before lt p.1)

one_more : {X : Type 0} (key : X → List ℕ) (x y : X) (before : List X) → stands_below (key x) (key y) ≡ true → list_all (λ z. stands_below (key z) (key x)) before ≡ true
    → list_all (λ z. stands_below (key z) (key y)) (before ++ x ∷ []) ≡ true
one_more key x y before lt h =
    list_all-append (λ z. stands_below (key z) (key y)) before (x ∷ [])
    ∙ and_both (list_all (λ z. stands_below (key z) (key y)) before) (stands_below (key x) (key y) && true) (further key x y before lt h) (and_both (stands_below (key x) (key y)) true lt refl)

-- all of these stand below the first of those
abbrev BelowFirst : {X : Type 0} → (X → List ℕ) → List X → List X → Type 0
BelowFirst key before [] = Unit {0}
BelowFirst key before (x ∷ xs) = list_all (λ z. stands_below (key z) (key x)) before ≡ true

differs : {X : Type 0} (key : X → List ℕ) (below : X → X → Bool) → ((x y : X) → below x y ≡ true → stands_below (key x) (key y) ≡ true) → (before xs : List X)
    → Ascends below xs → BelowFirst key before xs → differ_from key before xs ≡ true
differs key below to before [] a h = refl
differs key below to before (x ∷ []) a h = ap (λ b. if b then false else true) (none_same key x before h)
differs key below to before (x ∷ y ∷ xs) a h =
    ap (λ b. if b then false else differ_from key (before ++ x ∷ []) (y ∷ xs)) (none_same key x before h)
    ∙ differs key below to (before ++ x ∷ []) (y ∷ xs) a.1 (one_more key x y before (to x y a.0) h)

below_first : {X : Type 0} (key : X → List ℕ) (xs : List X) → BelowFirst key [] xs
below_first key [] = tt
below_first key (x ∷ xs) = refl

all_differ_if : {X : Type 0} (key : X → List ℕ) (below : X → X → Bool) → ((x y : X) → below x y ≡ true → stands_below (key x) (key y) ≡ true) → (xs : List X)
    → Ascends below xs → all_differ key xs ≡ true
all_differ_if key below to xs a = differs key below to [] xs a (below_first key xs)

-- ---- the orders of the tables

first_below : (a b : ℕ) (us vs : List ℕ) → nat_lt a b ≡ true → stands_below (a ∷ us) (b ∷ vs) ≡ true
first_below a b us vs h = ap (λ (t : Bool). is_lt (ordering_then (cond t Less (cond (eqb a b) Equal Greater)) (slice_cmp nat_cmp us vs))) h

rest_below : (a b : ℕ) (us vs : List ℕ) → eqb a b ≡ true → stands_below us vs ≡ true → stands_below (a ∷ us) (b ∷ vs) ≡ true
rest_below a b us vs e h = subst (λ n. stands_below (a ∷ us) (n ∷ vs) ≡ true) (eqb-true a b e)
    (ap (λ (t : Bool). is_lt (ordering_then (cond t Less (cond (eqb a a) Equal Greater)) (slice_cmp nat_cmp us vs))) (le-ltb a a (omega arith))
    ∙ ap (λ (t : Bool). is_lt (ordering_then (cond t Equal Greater) (slice_cmp nat_cmp us vs))) (eq-eqb a a refl) ∙ h)

by_first : (a b : ℕ) (us vs : List ℕ) (rest : Bool) → (rest ≡ true → stands_below us vs ≡ true) → (nat_lt a b || (nat_eq a b && rest)) ≡ true → stands_below (a ∷ us) (b ∷ vs) ≡ true
by_first a b us vs rest to h = elim (or_cases (nat_lt a b) (nat_eq a b && rest) h) [
  | inl lt ↦ first_below a b us vs lt
  | inr e ↦ rest_below a b us vs (and_parts (nat_eq a b) rest e).0 (to (and_parts (nat_eq a b) rest e).1)
]

list_stands : (a b : List ℕ) → list_below a b ≡ true → stands_below a b ≡ true
list_stands a b h = is_less_lt (slice_cmp nat_cmp a b) h

three_stands : (a b c x y z : ℕ) → three_below a b c x y z ≡ true → stands_below (a ∷ b ∷ c ∷ []) (x ∷ y ∷ z ∷ []) ≡ true
three_stands a b c x y z h =
    by_first a x (b ∷ c ∷ []) (y ∷ z ∷ []) (nat_lt b y || (nat_eq b y && nat_lt c z)) (λ k. by_first b y (c ∷ []) (z ∷ []) (nat_lt c z) (λ l. first_below c z [] [] l) k) h

pub texts_differ : (xs : List (List ℕ)) → Ascends list_below xs → all_differ text_key xs ≡ true
texts_differ xs a = all_differ_if text_key list_below list_stands xs a

pub types_differ : (xs : List ℕ) → Ascends nat_lt xs → all_differ type_key xs ≡ true
types_differ xs a = all_differ_if type_key nat_lt (λ x y h. first_below x y [] [] h) xs a

pub protos_differ : (xs : List Proto) → Ascends proto_below xs → all_differ proto_key xs ≡ true
protos_differ xs a = all_differ_if proto_key proto_below
    (λ x y h. by_first x.result y.result x.parameters y.parameters (list_below x.parameters y.parameters) (list_stands x.parameters y.parameters) h) xs a

pub fields_differ : (xs : List FieldName) → Ascends field_below xs → all_differ field_key xs ≡ true
fields_differ xs a = all_differ_if field_key field_below (λ x y h. three_stands x.class x.name x.kind y.class y.name y.kind h) xs a

pub methods_differ : (xs : List MethodName) → Ascends method_below xs → all_differ method_key xs ≡ true
methods_differ xs a = all_differ_if method_key method_below (λ x y h. three_stands x.class x.name x.proto y.class y.name y.proto h) xs a
