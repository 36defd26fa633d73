-- What lists contain.
use Rattle.std.proofs.Common.{◌≡◌, ℕ, zero, suc, ◌+◌, ◌<◌, ◌≤◌, ◌⊎◌, inl, inr, Bool, true, false, List, [], ◌∷◌, ◌++◌, length, take, get_or, refl, sym, ap, subst, ◌∙◌, arith, Some, None, Option}
use Rattle.std.specs.Prelude.{cond, ◌&&◌, nat_eq, nat_lt, Contains, slice_get, filter, position}
use Rattle.std.specs.List.{flat_map}
use Rattle.std.proofs.lemmas.List.{take_more, take_all}
use Rattle.std.proofs.lemmas.List.Elements.{Contains-push, Contains-push_cases, Contains-append_left, Contains-append_right, Contains-append_cases}
use Rattle.std.proofs.lemmas.Bool.{lt-ltb}
use Rattle.class_defs.proofs.Positions.{number_test, number_of, position_step}
use Rattle.std.specs.Option.{option_map}

pub none_in : {X : Type 0} (x : X) → Contains [] x → ⊥
none_in x c = let l = c.1 in omega (arith, l)

pub first_in : {X : Type 0} (x : X) (xs : List X) → Contains (x ∷ xs) x
first_in x xs = Contains-append_left (x ∷ []) xs x (Contains-push [] x)

pub later_in : {X : Type 0} (x : X) (xs : List X) (y : X) → Contains xs y → Contains (x ∷ xs) y
later_in x xs y c = Contains-append_right (x ∷ []) xs y c

pub only_in : {X : Type 0} (x y : X) → Contains (x ∷ []) y → x ≡ y
only_in x y c = elim (Contains-push_cases [] x y c) [ inl e ↦ absurd (none_in y e) | inr e ↦ e ]

pub first_or : {X : Type 0} (x : X) (xs : List X) (y : X) → Contains (x ∷ xs) y → (x ≡ y) ⊎ Contains xs y
first_or x xs y c = elim (Contains-append_cases (x ∷ []) xs y c) [ inl e ↦ inl (only_in x y e) | inr e ↦ inr e ]

-- what one of a list brings along is in what all bring along
pub flat_has : {X Y : Type 0} (f : X → List Y) (xs : List X) (x : X) (y : Y) → Contains xs x → Contains (f x) y → Contains (flat_map f xs) y
flat_has f [] x y c d = absurd (none_in x c)
flat_has f (z ∷ zs) x y c d = elim (first_or z zs x c) [
  | inl e ↦ Contains-append_left (f z) (flat_map f zs) y (subst (λ w. Contains (f w) y) (sym e) d)
  | inr e ↦ Contains-append_right (f z) (flat_map f zs) y (flat_has f zs x y e d)
]

-- what all bring along one of them does
pub record FromOne {X Y : Type 0} (f : X → List Y) (xs : List X) (y : Y) : Type 0 where
  pub one : X
  pub is_in : Contains xs one
  pub has : Contains (f one) y

pub flat_from : {X Y : Type 0} (f : X → List Y) (xs : List X) (y : Y) → Contains (flat_map f xs) y → FromOne f xs y
flat_from f [] y c = absurd (none_in y c)
flat_from f (x ∷ xs) y c = elim (Contains-append_cases (f x) (flat_map f xs) y c) [
  | inl e ↦ record { one = x; is_in = first_in x xs; has = e }
  | inr e ↦ let r = flat_from f xs y e in record { one = r.one; is_in = later_in x xs r.one r.is_in; has = r.has }
]

pub filter_from : {X : Type 0} (test : X → Bool) (xs : List X) (y : X) → Contains (filter test xs) y → Contains xs y
filter_from test [] y c = absurd (none_in y c)
filter_from test (x ∷ xs) y c = by (test x) (filter_from test xs y) c
  where
    by : (b : Bool) → (Contains (filter test xs) y → Contains xs y) → Contains (cond b (x ∷ filter test xs) (filter test xs)) y → Contains (x ∷ xs) y
    by true more c = elim (first_or x (filter test xs) y c) [ inl e ↦ subst (Contains (x ∷ xs)) e (first_in x xs) | inr e ↦ later_in x xs y (more e) ]
    by false more c = later_in x xs y (more c)

pub get_in : {X : Type 0} (xs : List X) (i : ℕ) (x : X) → slice_get xs i ≡ Some x → Contains xs x
get_in [] i x e = cc
get_in (y ∷ xs) zero x e = subst (Contains (y ∷ xs)) (let s : y ≡ x = cc in s) (first_in y xs)
get_in (y ∷ xs) (suc i) x e = later_in y xs x (get_in xs i x e)

-- ---- what holds of each of a list

-- one more of a list
pub each_at : {X : Type 0} (P Q : X → Type 0) (xs : List X) (i : ℕ) (d : X) → ((x : X) → Contains (take i xs) x → P x) → ((x : X) → P x → Q x) → i < length xs → Q (get_or xs i d) → (x : X) → Contains (take (i + 1) xs) x → Q x
each_at P Q xs i d so_far weaker lt one x c = elim (Contains-push_cases (take i xs) (get_or xs i d) x (subst (λ l. Contains l x) (take_more xs i d lt) c)) [
  | inl e ↦ weaker x (so_far x e)
  | inr s ↦ subst Q s one
]

pub each_all : {X : Type 0} (P : X → Type 0) (xs : List X) (i : ℕ) → length xs ≤ i → ((x : X) → Contains (take i xs) x → P x) → (x : X) → Contains xs x → P x
each_all P xs i le r x c = r x (subst (λ l. Contains l x) (sym (take_all i xs le)) c)

pub each_none : {X : Type 0} (P : X → Type 0) (xs : List X) (x : X) → Contains (take 0 xs) x → P x
each_none P xs x c = absurd (none_in x c)

-- ---- rows to one of which a number is added

pub row_cases : (k at size item x : ℕ) (row row' : List ℕ) → row' ≡ cond (nat_eq k at && nat_lt k size) (row ++ item ∷ []) row → Contains row' x → Contains row x ⊎ ((k ≡ at) × (item ≡ x))
row_cases k at size item x row row' e c = by (nat_eq k at) (nat_lt k size) refl (subst (λ l. Contains l x) e c)
  where
    by : (a b : Bool) → nat_eq k at ≡ a → Contains (cond (a && b) (row ++ item ∷ []) row) x → Contains row x ⊎ ((k ≡ at) × (item ≡ x))
    by true true s c = elim (Contains-push_cases row item x c) [ inl f ↦ inl f | inr f ↦ inr (number_of k at s, f) ]
    by true false s c = inl c
    by false b s c = inl c

pub row_keeps : (t : Bool) (item x : ℕ) (row row' : List ℕ) → row' ≡ cond t (row ++ item ∷ []) row → Contains row x → Contains row' x
row_keeps true item x row row' e c = subst (λ l. Contains l x) (sym e) (Contains-append_left row (item ∷ []) x c)
row_keeps false item x row row' e c = subst (λ l. Contains l x) (sym e) c

pub row_has : (k size item : ℕ) (row row' : List ℕ) → row' ≡ cond (nat_eq k k && nat_lt k size) (row ++ item ∷ []) row → k < size → Contains row' item
row_has k size item row row' e lt = subst (λ l. Contains l item) (sym (e ∙ ap (λ t. cond (t && nat_lt k size) (row ++ item ∷ []) row) (number_test k k refl) ∙ ap (λ t. cond t (row ++ item ∷ []) row) (less k size lt))) (Contains-push row item)
  where
    less : (a b : ℕ) → a < b → nat_lt a b ≡ true
    less a b lt = lt-ltb a b lt

-- ---- the item of a loop

-- what is known of the item at a place
pub record AtPlace {X : Type 0} (items : List X) (place : ℕ) (item : X) : Type 0 where
  pub more : take (place + 1) items ≡ take place items ++ item ∷ []
  pub got : slice_get items place ≡ Some item
  pub short : place < length items

pub got_item : {X : Type 0} (items : List X) (place : ℕ) (item : X) → place < length items → slice_get items place ≡ Some (get_or items place item)
got_item [] place item lt = absurd (omega (arith, lt))
got_item (x ∷ xs) zero item lt = refl
got_item (x ∷ xs) (suc place) item lt = got_item xs place item (omega (arith, lt))

pub at_place : {X : Type 0} (items slice : List X) (place : ℕ) (item : X) → slice ≡ items → item ≡ get_or slice place item → place < length slice → AtPlace items place item
at_place items slice place item same is lt = subst (λ l. AtPlace l place item) same (record {
  more = take_more slice place item lt ∙ ap (λ x. take place slice ++ x ∷ []) (sym is);
  got = got_item slice place item lt ∙ ap (λ x. Some x) (sym is);
  short = lt;
})

no_place : (o : Option ℕ) → option_map suc o ≡ None → o ≡ None
no_place None e = refl
no_place (Some i) e = cc

-- the first place of which a test is true
pub first_at : {X : Type 0} (t : X → Bool) (xs : List X) (i : ℕ) (x : X) → position t (take i xs) ≡ None → slice_get xs i ≡ Some x → t x ≡ true → position t xs ≡ Some i
first_at t [] i x h e y = cc
first_at t (z ∷ zs) zero x h e y = position_step t z zs ∙ ap (λ b. cond b (Some 0) (option_map suc (position t zs))) (ap t (let s : z ≡ x = cc in s) ∙ y)
first_at t (z ∷ zs) (suc i) x h e y = by_test (t z) refl (sym (position_step t z (take i zs)) ∙ h) (λ g. first_at t zs i x g e y)
  where
    by_test : (b : Bool) → t z ≡ b → cond (t z) (Some 0) (option_map suc (position t (take i zs))) ≡ None → (position t (take i zs) ≡ None → position t zs ≡ Some i) → position t (z ∷ zs) ≡ Some (suc i)
    by_test true f g more = let s : Some 0 ≡ None = sym (ap (λ b. cond b (Some 0) (option_map suc (position t (take i zs)))) f) ∙ g in cc
    by_test false f g more =
        position_step t z zs ∙ ap (λ b. cond b (Some 0) (option_map suc (position t zs))) f
        ∙ ap (option_map suc) (more (no_place (position t (take i zs)) (sym (ap (λ b. cond b (Some 0) (option_map suc (position t (take i zs)))) f) ∙ g)))

pub got_short : {X : Type 0} (xs : List X) (i : ℕ) (x : X) → slice_get xs i ≡ Some x → i < length xs
got_short [] i x e = cc
got_short (y ∷ ys) zero x e = omega arith
got_short (y ∷ ys) (suc i) x e = let h = got_short ys i x e in omega (arith, h)

-- what is below the next number is below this one or it
pub below_or : (a b : ℕ) → a < b + 1 → (a < b) ⊎ (a ≡ b)
below_or zero zero lt = inr refl
below_or zero (suc b) lt = inl (omega arith)
below_or (suc a) zero lt = absurd (omega (arith, lt))
below_or (suc a) (suc b) lt = elim (below_or a b (omega (arith, lt))) [ inl l ↦ inl (omega (arith, l)) | inr e ↦ inr (ap suc e) ]

-- the element that a loop is at is one of the list
pub taken_in : {X : Type 0} (xs : List X) (i : ℕ) (d : X) → i < length xs → Contains xs (get_or xs i d)
taken_in xs i d lt = get_in xs i (get_or xs i d) (got_item xs i d lt)
