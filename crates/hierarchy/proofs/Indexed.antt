-- Members by class and key.
use Rattle.std.proofs.Common.{◌≡◌, ℕ, zero, suc, ◌+◌, ◌<◌, Bool, true, false, nat_eq, List, [], ◌∷◌, ◌++◌, map, take, get_or, length, Option, Some, None, refl, sym, ap, subst, ◌∙◌, arith}
use Rattle.std.proofs.lemmas.List.{take_more, length-take-le, map_more}
use Rattle.std.specs.Prelude.{◌&&◌, cond, slice_get, position}
use Rattle.std.specs.Option.{option_or}
use Rattle.class_defs.proofs.Positions.{number_test, number_of, same_test, position_snoc}
use Rattle.class_defs.proofs.WellFormed.{and_left, and_right}
use Rattle.hierarchy.specs.Membership.{same_pair, one_at, index_of_row, place_in_rows}

or_none : {X : Type 0} (o : Option X) → o ≡ option_or o None
or_none None = refl
or_none (Some x) = refl

or_more : {X : Type 0} (a b c : Option X) → option_or (option_or a b) c ≡ option_or a (option_or b c)
or_more None b c = refl
or_more (Some x) b c = refl

suc_test : (a b : ℕ) → nat_eq (suc a) (suc b) ≡ nat_eq a b
suc_test a b = same_test (nat_eq (suc a) (suc b)) (nat_eq a b)
    (λ h. let e : suc a ≡ suc b = number_of (suc a) (suc b) h in number_test a b (omega arith)) (λ h. let e : a ≡ b = number_of a b h in number_test (suc a) (suc b) (omega arith))

pub apart_test : (a b : ℕ) → (a ≡ b → ⊥) → nat_eq a b ≡ false
apart_test a b h = by_test (nat_eq a b) refl
  where
    by_test : (t : Bool) → nat_eq a b ≡ t → t ≡ false
    by_test false e = refl
    by_test true e = absurd (h (number_of a b e))

-- ---- one member more

pub add_new : (class key place : ℕ) (old new : ℕ → ℕ → Option ℕ) → old class key ≡ None → ((q : ℕ × ℕ) → new q.0 q.1 ≡ cond (same_pair (class, key) q) (Some place) (old q.0 q.1))
    → (c k : ℕ) → new c k ≡ option_or (old c k) (one_at class key place c k)
add_new class key place old new none h c k = h (c, k) ∙ by_test (same_pair (class, key) (c, k)) refl
  where
    by_test : (b : Bool) → same_pair (class, key) (c, k) ≡ b → cond b (Some place) (old c k) ≡ option_or (old c k) (cond b (Some place) None)
    by_test false e = or_none (old c k)
    by_test true e =
        let d : class ≡ c = number_of class c (and_left (nat_eq class c) (nat_eq key k) e) in
        let f : key ≡ k = number_of key k (and_right (nat_eq class c) (nat_eq key k) e) in
        sym (ap (λ o. option_or o (Some place)) (ap (λ x. old x k) (sym d) ∙ ap (λ x. old class x) (sym f) ∙ none))

pub add_old : (class key place there : ℕ) (old : ℕ → ℕ → Option ℕ) → old class key ≡ Some there → (c k : ℕ) → old c k ≡ option_or (old c k) (one_at class key place c k)
add_old class key place there old some c k = by_test (same_pair (class, key) (c, k)) refl
  where
    by_test : (b : Bool) → same_pair (class, key) (c, k) ≡ b → old c k ≡ option_or (old c k) (cond b (Some place) None)
    by_test false e = or_none (old c k)
    by_test true e =
        let d : class ≡ c = number_of class c (and_left (nat_eq class c) (nat_eq key k) e) in
        let f : key ≡ k = number_of key k (and_right (nat_eq class c) (nat_eq key k) e) in
        let here : old c k ≡ Some there = ap (λ x. old x k) (sym d) ∙ ap (λ x. old class x) (sym f) ∙ some in
        here ∙ sym (ap (λ o. option_or o (Some place)) here)

-- ---- one row

row_snoc : (class : ℕ) (row : List ℕ) (key c k : ℕ) → option_or (index_of_row class row c k) (one_at class key (length row) c k) ≡ index_of_row class (row ++ key ∷ []) c k
row_snoc class row key c k = by_test (nat_eq class c)
  where
    by_test : (b : Bool) → option_or (cond b (position (λ x. nat_eq x k) row) None) (cond (b && nat_eq key k) (Some (length row)) None) ≡ cond b (position (λ x. nat_eq x k) (row ++ key ∷ [])) None
    by_test true = sym (position_snoc (λ x. nat_eq x k) row key)
    by_test false = refl

pub row_more : (class key place : ℕ) (row more : List ℕ) (first old new : ℕ → ℕ → Option ℕ) → more ≡ row ++ key ∷ [] → place ≡ length row → ((c k : ℕ) → old c k ≡ option_or (first c k) (index_of_row class row c k))
    → ((c k : ℕ) → new c k ≡ option_or (old c k) (one_at class key place c k)) → (c k : ℕ) → new c k ≡ option_or (first c k) (index_of_row class more c k)
row_more class key place row more first old new is at h g c k =
    g c k ∙ ap (λ o. option_or o (one_at class key place c k)) (h c k) ∙ or_more (first c k) (index_of_row class row c k) (one_at class key place c k)
    ∙ ap (λ n. option_or (first c k) (option_or (index_of_row class row c k) (one_at class key n c k))) at ∙ ap (option_or (first c k)) (row_snoc class row key c k)
    ∙ ap (λ l. option_or (first c k) (index_of_row class l c k)) (sym is)

pub row_none : (class : ℕ) (first : ℕ → ℕ → Option ℕ) (c k : ℕ) → first c k ≡ option_or (first c k) (index_of_row class [] c k)
row_none class first c k = by_test (nat_eq class c)
  where
    by_test : (b : Bool) → first c k ≡ option_or (first c k) (cond b (position (λ x. nat_eq x k) []) None)
    by_test true = or_none (first c k)
    by_test false = or_none (first c k)

-- ---- all rows

-- what is known of the item at a place
pub record AtPlace {X : Type 0} (items : List X) (place : ℕ) (item : X) : Type 0 where
  pub more : take (place + 1) items ≡ take place items ++ item ∷ []
  pub before : place ≡ length (take place items)
  pub got : slice_get items place ≡ Some item
  pub short : place < length items

got_item : {X : Type 0} (items : List X) (place : ℕ) (item : X) → place < length items → slice_get items place ≡ Some (get_or items place item)
got_item [] place item lt = absurd (omega arith)
got_item (x ∷ xs) zero item lt = refl
got_item (x ∷ xs) (suc place) item lt = got_item xs place item (omega arith)

pub at_items : {X : Type 0} (items : List X) (place : ℕ) (item : X) → item ≡ get_or items place item → place < length items → AtPlace items place item
at_items items place item is lt = record {
  more = take_more items place item lt ∙ ap (λ x. take place items ++ x ∷ []) (sym is);
  before = sym (length-take-le place items (omega (arith, lt)));
  got = got_item items place item lt ∙ ap (λ x. Some x) (sym is);
  short = lt;
}

pub at_place : {X : Type 0} (items slice : List X) (place : ℕ) (item : X) → slice ≡ items → item ≡ get_or slice place item → place < length slice → AtPlace items place item
at_place items slice place item same is lt = subst (λ l. AtPlace l place item) same (at_items slice place item is lt)

rows_snoc : (rows : List (List ℕ)) (row : List ℕ) (c k : ℕ) → option_or (place_in_rows rows c k) (index_of_row (length rows) row c k) ≡ place_in_rows (rows ++ row ∷ []) c k
rows_snoc [] row zero k = refl
rows_snoc [] row (suc c) k = ap (λ b. cond b (position (λ x. nat_eq x k) row) None) (apart_test 0 (suc c) (λ e. let z = e in omega arith))
rows_snoc (r ∷ rs) row zero k =
    ap (λ b. option_or (position (λ x. nat_eq x k) r) (cond b (position (λ x. nat_eq x k) row) None)) (apart_test (suc (length rs)) 0 (λ e. let z = e in omega arith))
    ∙ sym (or_none (position (λ x. nat_eq x k) r))
rows_snoc (r ∷ rs) row (suc c) k = ap (λ b. option_or (place_in_rows rs c k) (cond b (position (λ x. nat_eq x k) row) None)) (suc_test (length rs) c) ∙ rows_snoc rs row c k

pub rows_more : (rows more : List (List ℕ)) (row : List ℕ) (class : ℕ) (old new : ℕ → ℕ → Option ℕ) → more ≡ rows ++ row ∷ [] → class ≡ length rows → ((c k : ℕ) → old c k ≡ place_in_rows rows c k)
    → ((c k : ℕ) → new c k ≡ option_or (old c k) (index_of_row class row c k)) → (c k : ℕ) → new c k ≡ place_in_rows more c k
rows_more rows more row class old new is at h g c k =
    g c k ∙ ap (λ o. option_or o (index_of_row class row c k)) (h c k) ∙ ap (λ n. option_or (place_in_rows rows c k) (index_of_row n row c k)) at ∙ rows_snoc rows row c k
    ∙ ap (λ l. place_in_rows l c k) (sym is)

-- one item more in a list of answers
pub mapped_more : {X Y : Type 0} (f : X → Y) (items slice : List X) (place : ℕ) (item : X) (made more : List Y) (answer : Y) → slice ≡ items → item ≡ get_or slice place item → place < length slice → more ≡ made ++ answer ∷ [] → answer ≡ f item → made ≡ map f (take place items)
    → more ≡ map f (take (place + 1) items)
mapped_more f items slice place item made more answer same is lt pushed answered h =
    let lt' : place < length items = subst (λ l. place < length l) same lt in
    let is' : item ≡ get_or items place item = subst (λ l. item ≡ get_or l place item) same is in
    pushed ∙ ap (λ l. l ++ answer ∷ []) h ∙ ap (λ a. map f (take place items) ++ a ∷ []) (answered ∙ ap f is') ∙ sym (map_more f items place item lt')
