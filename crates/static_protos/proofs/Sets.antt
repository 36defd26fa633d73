-- Sets of the entries of tables, which are in the order of these.
use Rattle.std.proofs.Common.{◌≡◌, ◌⊎◌, inl, inr, ℕ, zero, suc, ◌+◌, ◌<◌, Bool, true, false, true≢false, nat_eq, List, [], ◌∷◌, ◌++◌, map, length, get_or, take, Option, Some, None, refl, sym, ap, ◌∙◌}
use Rattle.std.specs.Prelude.{◌&&◌, ◌||◌, slice_get, if◌then◌else◌, Vec}
use Rattle.std.specs.List.{list_any}
use Rattle.std.specs.declared.alloc.Global.{Global}
use Rattle.std.specs.Cmp.Lexicographic.{pointwise, nat_list_eq_equiv}
use Rattle.std.proofs.lemmas.List.{take_more}
use Rattle.std.proofs.lemmas.List.Folds.{list_any-append}
use Rattle.std.proofs.lemmas.Option.{slice_get-get_or}
use Rattle.lemmas.proofs.Bools.{or_cases}
use Rattle.lemmas.proofs.Lists.{map_append}
use Rattle.program_model.specs.Distinct.{same_entry, differ_from, all_differ, text_key}
use Rattle.program_model.specs.declared.pools.MethodName.{MethodName}
use Rattle.class_defs.proofs.Positions.{number_of, number_test, same_test}
use Rattle.static_protos.specs.Growing.{is_pair, same_pair}

or_left : (a b : Bool) → (a || b) ≡ false → a ≡ false
or_left true b e = e
or_left false b e = refl

-- ---- an entry is none of those before it

module _ {X : Type 0} (key : X → List ℕ) where
  branch : (b c : Bool) → (if b then false else c) ≡ true → (b ≡ false) × (c ≡ true)
  branch true c h = absurd (true≢false (sym h))
  branch false c h = (refl, h)

  differ_first : (before xs : List X) (i : ℕ) (y : X) → differ_from key before xs ≡ true → slice_get xs i ≡ Some y → list_any (λ b. same_entry key b y) (before ++ take i xs) ≡ false
  differ_first before [] i y h e = cc
  differ_first before (x ∷ xs) zero y h e = ap (λ l. list_any (λ b. same_entry key b y) l) (nothing before) ∙ (ap (λ z. list_any (λ b. same_entry key b z) before) (let s : y ≡ x = cc in s) ∙ (branch _ _ h).0)
    where
      nothing : (l : List X) → l ++ [] ≡ l
      nothing [] = refl
      nothing (z ∷ l) = ap (λ m. z ∷ m) (nothing l)
  differ_first before (x ∷ xs) (suc i) y h e = ap (λ l. list_any (λ b. same_entry key b y) l) (sym (append_one before x (take i xs))) ∙ differ_first (before ++ x ∷ []) xs i y (branch _ _ h).1 e
    where
      append_one : (l : List X) (z : X) (r : List X) → (l ++ z ∷ []) ++ r ≡ l ++ z ∷ r
      append_one [] z r = refl
      append_one (w ∷ l) z r = ap (λ m. w ∷ m) (append_one l z r)

  turned : (y : X) (xs : List X) → list_any (λ b. same_entry key b y) xs ≡ list_any (pointwise nat_eq (key y)) (map key xs)
  turned y [] = refl
  turned y (x ∷ xs) = ap (λ b. b || list_any (λ b. same_entry key b y) xs) (nat_list_eq_equiv.symm (key x) (key y)) ∙ ap (λ b. pointwise nat_eq (key y) (key x) || b) (turned y xs)

  pub is_new : (xs : List X) (i : ℕ) (y : X) → all_differ key xs ≡ true → slice_get xs i ≡ Some y → list_any (pointwise nat_eq (key y)) (map key (take i xs)) ≡ false
  is_new xs i y h e = sym (turned y (take i xs)) ∙ differ_first [] xs i y h e

-- ---- a vector more

abbrev pub units : Vec ℕ Global → List ℕ
units v = v.items

any_units : (x : List ℕ) (vs : List (Vec ℕ Global)) → list_any (λ v. pointwise nat_eq x v.items) vs ≡ list_any (pointwise nat_eq x) (map (λ v. v.items) vs)
any_units x [] = refl
any_units x (v ∷ vs) = ap (λ b. pointwise nat_eq x v.items || b) (any_units x vs)

-- where it is new, it stands behind the others
pub set_more : {X : Type 0} (key : X → List ℕ) (xs : List X) (i : ℕ) (y : X) (old new : List (Vec ℕ Global)) (v : Vec ℕ Global) → i < length xs → y ≡ get_or xs i y → all_differ key xs ≡ true → v.items ≡ key y → map (λ v. v.items) old ≡ map key (take i xs)
    → new ≡ (if list_any (λ w. pointwise nat_eq v.items w.items) old then old else old ++ v ∷ []) → map (λ v. v.items) new ≡ map key (take (i + 1) xs)
set_more {X} key xs i y old new v lt is differ same was e =
    let absent : list_any (λ w. pointwise nat_eq v.items w.items) old ≡ false =
    any_units v.items old ∙ ap (list_any (pointwise nat_eq v.items)) was ∙ ap (λ k. list_any (pointwise nat_eq k) (map key (take i xs))) same ∙ is_new key xs i y differ (slice_get-get_or xs i y lt ∙ ap Some (sym is)) in
    ap (map (λ v. v.items)) (e ∙ ap (λ b. if b then old else old ++ v ∷ []) absent)
    ∙ (map_append (λ (v : Vec ℕ Global). v.items) old (v ∷ [])
    ∙ (ap (λ l. l ++ v.items ∷ []) was
    ∙ (ap (λ k. map key (take i xs) ++ k ∷ []) same
    ∙ (sym (map_append key (take i xs) (y ∷ []))
    ∙ ap (map key) (sym (take_more xs i y lt ∙ ap (λ z. take i xs ++ z ∷ []) (sym is)))))))

map_same : (xs : List (List ℕ)) → map text_key xs ≡ xs
map_same [] = refl
map_same (x ∷ xs) = ap (λ l. x ∷ l) (map_same xs)

pub texts_more : (xs : List (List ℕ)) (i : ℕ) (y : List ℕ) (old new : List (Vec ℕ Global)) (v : Vec ℕ Global) → i < length xs → y ≡ get_or xs i y → all_differ text_key xs ≡ true → v.items ≡ y → map (λ v. v.items) old ≡ take i xs
    → new ≡ (if list_any (λ w. pointwise nat_eq v.items w.items) old then old else old ++ v ∷ []) → map (λ v. v.items) new ≡ take (i + 1) xs
texts_more xs i y old new v lt is differ same was e = set_more text_key xs i y old new v lt is differ same (was ∙ sym (map_same (take i xs))) e ∙ map_same (take (i + 1) xs)

-- ---- names and protos

-- by the number that stands on the other side
pub turned_pair : (name proto : ℕ) (m : MethodName) → same_pair (name, proto) (m.name, m.proto) ≡ is_pair name proto m
turned_pair name proto m = ap (λ b. b && nat_eq proto m.proto) (turned_eq name m.name) ∙ ap (λ b. nat_eq m.name name && b) (turned_eq proto m.proto)
  where
    turned_eq : (a b : ℕ) → nat_eq a b ≡ nat_eq b a
    turned_eq a b = same_test (nat_eq a b) (nat_eq b a) (λ e. number_test b a (sym (number_of a b e))) (λ e. number_test a b (sym (number_of b a e)))

pub names_are : (name proto : ℕ) (ms : List MethodName) → list_any (λ (m : MethodName). same_pair (name, proto) (m.name, m.proto)) ms ≡ list_any (is_pair name proto) ms
names_are name proto [] = refl
names_are name proto (m ∷ ms) = ap (λ b. b || list_any (λ (m : MethodName). same_pair (name, proto) (m.name, m.proto)) ms) (turned_pair name proto m) ∙ ap (λ b. is_pair name proto m || b) (names_are name proto ms)

-- the pairs in a set are those of a list
pub pairs_more : {X P : Type 0} (test : P → Bool) (eq : P → P → Bool) (pair : X → P) (xs : List X) (i : ℕ) (y : X) (old new : List P) → ((a b : P) → eq a b ≡ true → test b ≡ test a) → i < length xs → y ≡ get_or xs i y
    → list_any test old ≡ list_any (λ x. test (pair x)) (take i xs) → new ≡ (if list_any (eq (pair y)) old then old else old ++ pair y ∷ []) → list_any test new ≡ list_any (λ x. test (pair x)) (take (i + 1) xs)
pairs_more {X} {P} test eq pair xs i y old new congr lt is was e = by (list_any (eq (pair y)) old) refl
  where
    goal_end : list_any (λ x. test (pair x)) (take (i + 1) xs) ≡ (list_any (λ x. test (pair x)) (take i xs) || (test (pair y) || false))
    goal_end = ap (list_any (λ x. test (pair x))) (take_more xs i y lt ∙ ap (λ z. take i xs ++ z ∷ []) (sym is)) ∙ list_any-append (λ x. test (pair x)) (take i xs) (y ∷ [])

    -- what is there already adds nothing
    there : (l : List P) → list_any (eq (pair y)) l ≡ true → (list_any test l || (test (pair y) || false)) ≡ list_any test l
    there [] h = absurd (true≢false (sym h))
    there (z ∷ l) h = elim (or_cases (eq (pair y) z) (list_any (eq (pair y)) l) h) [
      | inl f ↦ first (test z) (list_any test l) (test (pair y)) (congr (pair y) z f)
      | inr f ↦ later (test z) (list_any test l) (test (pair y)) (there l f)
    ]
      where
        first : (a b c : Bool) → a ≡ c → ((a || b) || (c || false)) ≡ (a || b)
        first true b c s = refl
        first false true c s = refl
        first false false true s = absurd (true≢false (sym s))
        first false false false s = refl

        later : (a b c : Bool) → (b || (c || false)) ≡ b → ((a || b) || (c || false)) ≡ (a || b)
        later true b c s = refl
        later false b c s = s

    by : (b : Bool) → list_any (eq (pair y)) old ≡ b → list_any test new ≡ list_any (λ x. test (pair x)) (take (i + 1) xs)
    by true f = ap (list_any test) (e ∙ ap (λ b. if b then old else old ++ pair y ∷ []) f) ∙ (sym (there old f) ∙ (ap (λ b. b || (test (pair y) || false)) was ∙ sym goal_end))
    by false f = ap (list_any test) (e ∙ ap (λ b. if b then old else old ++ pair y ∷ []) f) ∙ (list_any-append test old (pair y ∷ []) ∙ (ap (λ b. b || (test (pair y) || false)) was ∙ sym goal_end))
