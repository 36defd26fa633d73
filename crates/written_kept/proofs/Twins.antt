-- Lists of which each element of the one has a twin in the other.
use Rattle.std.proofs.Common.{◌≡◌, ◌≤◌, ◌<◌, ℕ, zero, suc, Bool, true, false, List, [], ◌∷◌, ◌++◌, length, map, refl, sym, ap, ◌∙◌, subst, arith, inl, inr}
use Rattle.std.specs.Prelude.{Option, Some, None, find, is_some, nat_eq, slice_get, ◌||◌, if◌then◌else◌}
use Rattle.std.specs.List.{list_any, AllByRecursion}
use Rattle.std.specs.Option.{option_map}
use Rattle.std.proofs.lemmas.Bool.{eqb-true, eq-eqb, ne_eqb}
use Rattle.std.proofs.lemmas.Option.{slice_get_within}
use Rattle.program_model.specs.declared.program.Program.{Program}
use Rattle.dex_defs.specs.Written.{insert, in_order, one_entry, entries}
use Rattle.removal_law.specs.Left as left
use Rattle.removal_law.proofs.Lists.{clash, found_in}
use Rattle.removal_law.proofs.Outward.{any_here, any_where}
use Rattle.program_laws.proofs.Founds.{is_found}
use Rattle.written_file.proofs.In.{In, in_map, Source, in_source, in_flat, in_got, has_in}
use Rattle.written_file.specs.Behind.{AllBehind}
use Rattle.written_file.proofs.Order.{has_append}
use Rattle.written_file.proofs.Plans.{behind_inside}
use Rattle.written_file.proofs.Sorting.{Differ}
use Rattle.written_file.proofs.Few.{differ_few}

-- ---- what stands in a list

pub stands : {X : Type 0} (x : X) (xs : List X) → In x xs → left.In x xs
stands x [] i = absurd i
stands x (y ∷ ys) (inl e) = subst (λ z. left.In z (y ∷ ys)) e (left.here ys)
stands x (y ∷ ys) (inr i) = left.there y ys (stands x ys i)

is_in : {X : Type 0} (x : X) (xs : List X) → left.In x xs → In x xs
is_in x [] i = elim i [ ]
is_in {X} x (y ∷ ys) i = split x y ys i (is_in x ys)
  where
    split : (x z : X) (zs : List X) → left.In x (z ∷ zs) → (left.In x zs → In x zs) → In x (z ∷ zs)
    split x z zs (left.here ws) on = inl refl
    split x z zs (left.there u ws j) on = inr (on j)

pub record Image {X Y : Type 0} (f : X → Y) (xs : List X) (y : Y) : Type 0 where
  pub x : X
  pub is_in : In x xs
  pub is : f x ≡ y

pub image : {X Y : Type 0} (f : X → Y) (y : Y) (xs : List X) → In y (map f xs) → Image f xs y
image f y [] i = absurd i
image f y (x ∷ xs) (inl e) = record { x = x; is_in = inl refl; is = e }
image f y (x ∷ xs) (inr i) = let r = image f y xs i in record { x = r.x; is_in = inr r.is_in; is = r.is }

inserted : {X : Type 0} (below : X → X → Bool) (x y : X) (ys : List X) → In x (insert below y ys) → In x (y ∷ ys)
inserted below x y [] i = i
inserted {X} below x y (z ∷ ys) i = by_test (below y z) refl i (λ j. inserted below x y ys j)
  where
    on : In x (z ∷ insert below y ys) → (In x (insert below y ys) → In x (y ∷ ys)) → In x (y ∷ (z ∷ ys))
    on (inl e) more = inr (inl e)
    on (inr j) more = past (more j)
      where
        past : In x (y ∷ ys) → In x (y ∷ (z ∷ ys))
        past (inl e) = inl e
        past (inr k) = inr (inr k)

    by_test : (t : Bool) → below y z ≡ t → In x (if below y z then y ∷ (z ∷ ys) else z ∷ insert below y ys) → (In x (insert below y ys) → In x (y ∷ ys)) → In x (y ∷ (z ∷ ys))
    by_test true e j more = rw e at j
    by_test false e j more = on (rw e at j) more

-- order adds nothing
pub in_order_only : {X : Type 0} (below : X → X → Bool) (x : X) (xs : List X) → In x (in_order below xs) → In x xs
in_order_only below x [] i = absurd i
in_order_only {X} below x (y ∷ xs) i = by (inserted below x y (in_order below xs) i) (λ j. in_order_only below x xs j)
  where
    by : In x (y ∷ in_order below xs) → (In x (in_order below xs) → In x xs) → In x (y ∷ xs)
    by (inl e) on = inl e
    by (inr j) on = inr (on j)

-- ---- entries

pub in_entries : {X Y : Type 0} (f : X → Y) (table : List X) (order : List ℕ) (y : Y) → In y (entries f table order) → Image f table y
in_entries {X} f table order y i =
    let s : Source (λ n. one_entry f (slice_get table n)) y order = in_source (λ n. one_entry f (slice_get table n)) y order i in
    by s.x (slice_get table s.x) refl s.has
  where
    by : (n : ℕ) (o : Option X) → slice_get table n ≡ o → In y (one_entry f o) → Image f table y
    by n None e i = absurd i
    by n (Some x) e (inl s) = record { x = x; is_in = in_got table n x e; is = s }
    by n (Some x) e (inr i) = absurd i

pub entries_in : {X Y : Type 0} (f : X → Y) (table : List X) (order : List ℕ) (k : ℕ) (x : X) → slice_get table k ≡ Some x → list_any (nat_eq k) order ≡ true → In (f x) (entries f table order)
entries_in f table order k x e h = in_flat (λ n. one_entry f (slice_get table n)) (f x) k order (has_in k order h) (subst (λ o. In (f x) (one_entry f o)) (sym e) (inl refl))

-- ---- searches

pub record Twin {A : Type 0} (bare : A → A) (xs : List A) (y : A) : Type 0 where
  pub x : A
  pub is_in : In x xs
  pub same : bare y ≡ bare x

module _ {A : Type 0} (bare : A → A) (old new : List A) (to : (b : A) → In b new → Twin bare old b) (from : (a : A) → In a old → Twin bare new a) (test : A → Bool) (blind : (a : A) → test (bare a) ≡ test a) where
  moved : (a b : A) → bare a ≡ bare b → test a ≡ true → test b ≡ true
  moved a b e t = sym (blind b) ∙ ap test (sym e) ∙ blind a ∙ t

  -- what a search finds of two lists, where it finds one thing of the first
  pub find_alike : ((a b : A) → In a old → In b old → test a ≡ true → test b ≡ true → a ≡ b) → option_map bare (find test new) ≡ option_map bare (find test old)
  find_alike one = by (find test new) (find test old) refl refl
    where
      by : (o r : Option A) → find test new ≡ o → find test old ≡ r → option_map bare o ≡ option_map bare r
      by None None d e = refl
      by (Some b) (Some a) d e =
          let y = found_in test new b d in
          let z = found_in test old a e in
          let t = to b (is_in b new y.is_in) in
          ap Some (t.same ∙ ap bare (one t.x a t.is_in (is_in a old z.is_in) (moved b t.x t.same y.passes) z.passes))
      by (Some b) None d e =
          let y = found_in test new b d in
          let t = to b (is_in b new y.is_in) in
          let r = is_found test t.x old (stands t.x old t.is_in) (moved b t.x t.same y.passes) in
          clash false (ap is_some (sym e ∙ r.1)) refl
      by None (Some a) d e =
          let z = found_in test old a e in
          let t = from a (is_in a old z.is_in) in
          let r = is_found test t.x new (stands t.x new t.is_in) (moved a t.x t.same z.passes) in
          clash false (ap is_some (sym d ∙ r.1)) refl

  pub any_alike : list_any test new ≡ list_any test old
  any_alike = by (list_any test new) (list_any test old) refl refl
    where
      by : (o r : Bool) → list_any test new ≡ o → list_any test old ≡ r → o ≡ r
      by true true d e = refl
      by false false d e = refl
      by true false d e =
          let y = any_where test new d in
          let t = to y.0 (is_in y.0 new y.1.0) in
          clash (list_any test old) (any_here test t.x old (stands t.x old t.is_in) (moved y.0 t.x t.same y.1.1)) e
      by false true d e =
          let z = any_where test old e in
          let t = from z.0 (is_in z.0 old z.1.0) in
          clash (list_any test new) (any_here test t.x new (stands t.x new t.is_in) (moved z.0 t.x t.same z.1.1)) d

-- a search that passes finds something, and what is found stands there
pub finds : {A : Type 0} (test : A → Bool) (x : A) (xs : List A) → In x xs → test x ≡ true → find test xs ≡ None → ⊥
finds test x xs i h e = let r = is_found test x xs (stands x xs i) h in clash false (ap is_some (sym e ∙ r.1)) refl

pub record Found {A : Type 0} (test : A → Bool) (xs : List A) (x : A) : Type 0 where
  pub is_in : In x xs
  pub passes : test x ≡ true

pub is_there : {A : Type 0} (test : A → Bool) (xs : List A) (x : A) → find test xs ≡ Some x → Found test xs x
is_there test xs x e = let r = found_in test xs x e in record { is_in = is_in x xs r.is_in; passes = r.passes }

pub any_there : {A : Type 0} (test : A → Bool) (x : A) (xs : List A) → In x xs → test x ≡ true → list_any test xs ≡ true
any_there test x xs i h = any_here test x xs (stands x xs i) h

pub some_there : {A : Type 0} (test : A → Bool) (xs : List A) → list_any test xs ≡ true → (x : A) × Found test xs x
some_there test xs h = let r = any_where test xs h in (r.0, record { is_in = is_in r.0 xs r.1.0; passes = r.1.1 })

-- ---- an order has as many places as there are classes

abbrev has : ℕ → List ℕ → Bool
has k xs = list_any (nat_eq k) xs

abbrev without : ℕ → List ℕ → List ℕ
without k [] = []
without k (x ∷ xs) = if nat_eq k x then without k xs else x ∷ without k xs

without_long : (k : ℕ) (xs : List ℕ) → length (without k xs) ≤ length xs
without_long k [] = omega arith
without_long k (x ∷ xs) = by (nat_eq k x) (without_long k xs)
  where
    by : (t : Bool) → length (without k xs) ≤ length xs → length (if t then without k xs else x ∷ without k xs) ≤ suc (length xs)
    by true h = omega (arith, h)
    by false h = omega (arith, h)

without_less : (k : ℕ) (xs : List ℕ) → has k xs ≡ true → length (without k xs) < length xs
without_less k [] h = clash false h refl
without_less k (x ∷ xs) h = by (nat_eq k x) h (without_long k xs) (without_less k xs)
  where
    by : (t : Bool) → (t || has k xs) ≡ true → length (without k xs) ≤ length xs → (has k xs ≡ true → length (without k xs) < length xs) → length (if t then without k xs else x ∷ without k xs) < suc (length xs)
    by true h le on = omega (arith, le)
    by false h le on = omega (arith, on h)

without_has : (j k : ℕ) (xs : List ℕ) → nat_eq j k ≡ false → has j xs ≡ true → has j (without k xs) ≡ true
without_has j k [] n h = h
without_has j k (x ∷ xs) n h = by (nat_eq k x) refl (nat_eq j x) refl h (without_has j k xs n)
  where
    by : (t : Bool) → nat_eq k x ≡ t → (u : Bool) → nat_eq j x ≡ u → (u || has j xs) ≡ true → (has j xs ≡ true → has j (without k xs) ≡ true) → has j (if t then without k xs else x ∷ without k xs) ≡ true
    by true s true t h on = clash (nat_eq j k) (ap (nat_eq j) (eqb-true k x s) ∙ t) n
    by true s false t h on = on h
    by false s true t h on = ap (λ b. b || has j (without k xs)) t
    by false s false t h on = ap (λ b. b || has j (without k xs)) t ∙ on h

many : (n : ℕ) (xs : List ℕ) → ((k : ℕ) → k < n → has k xs ≡ true) → n ≤ length xs
many zero xs h = omega arith
many (suc n) xs h =
    let less = without_less n xs (h n (omega arith)) in
    let rest = many n (without n xs) (λ k lt. without_has k n xs (ne_eqb k n (λ e. absurd (omega (arith, e, lt)))) (h k (omega (arith, lt)))) in
    omega (arith, less, rest)

module _ (p : Program) where
  later : (before xs : List ℕ) (k : ℕ) → AllBehind p before xs → has k before ≡ true → has k xs ≡ false
  later before [] k h e = refl
  later before (x ∷ xs) k h e = by (nat_eq k x) refl (later (before ++ x ∷ []) xs k h.1 grown)
    where
      grown : has k (before ++ x ∷ []) ≡ true
      grown = has_append k before (x ∷ []) ∙ ap (λ b. b || has k (x ∷ [])) e

      by : (t : Bool) → nat_eq k x ≡ t → has k xs ≡ false → (nat_eq k x || has k xs) ≡ false
      by true s none = clash (has k before) e (subst (λ j. has j before ≡ false) (sym (eqb-true k x s)) h.0.once)
      by false s none = ap (λ b. b || has k xs) s ∙ none

  differs : (before xs : List ℕ) → AllBehind p before xs → Differ xs
  differs before [] h = tt
  differs before (x ∷ xs) h = (later (before ++ x ∷ []) xs x h.1 (has_append x before (x ∷ []) ∙ own (has x before) (nat_eq x x) (eq-eqb x x refl)), differs (before ++ x ∷ []) xs h.1)
    where
      own : (a b : Bool) → b ≡ true → (a || (b || false)) ≡ true
      own true b e = refl
      own false b e = ap (λ c. c || false) e

  pub order_long : (order : List ℕ) → AllBehind p [] order → ((k : ℕ) → k < length p.classes → has k order ≡ true) → length order ≡ length p.classes
  order_long order h every = omega (arith, differ_few order (length p.classes) (differs [] order h) (behind_inside p [] order h), many (length p.classes) order every)
