-- Members by class and key.
use Rattle.std.proofs.Common.{◌≡◌, ℕ, zero, suc, ◌+◌, ◌<◌, ◌^◌, Bool, true, false, nat_eq, List, [], ◌∷◌, ◌++◌, map, take, get_or, length, Option, Some, None, refl, sym, ap, subst, ◌∙◌, arith}
use Rattle.std.proofs.lemmas.List.{take_more, length-take-le, length-map}
use Rattle.std.specs.Prelude.{◌&&◌, cond, slice_get, position}
use Rattle.std.specs.Option.{option_or}
use Rattle.class_defs.proofs.Positions.{number_test, number_of, same_test, position_snoc}
use Rattle.class_defs.proofs.WellFormed.{and_left, and_right}
use Rattle.program_model.specs.declared.program.Class.{Class}
use Rattle.dalvik_lookups.specs.Declaring.{Key, same_key, same_entry, one_at, index_of_row, place_in_rows, AreFew}

or_none : {X : Type 0} (o : Option X) → o ≡ option_or o None
or_none None = refl
or_none (Some x) = refl

or_more : {X : Type 0} (a b c : Option X) → option_or (option_or a b) c ≡ option_or a (option_or b c)
or_more None b c = refl
or_more (Some x) b c = refl

suc_test : (a b : ℕ) → nat_eq (suc a) (suc b) ≡ nat_eq a b
suc_test a b = same_test (nat_eq (suc a) (suc b)) (nat_eq a b)
    (λ h. let e : suc a ≡ suc b = number_of (suc a) (suc b) h in number_test a b (omega arith)) (λ h. let e : a ≡ b = number_of a b h in number_test (suc a) (suc b) (omega arith))

apart_test : (a b : ℕ) → (a ≡ b → ⊥) → nat_eq a b ≡ false
apart_test a b h = by_test (nat_eq a b) refl
  where
    by_test : (t : Bool) → nat_eq a b ≡ t → t ≡ false
    by_test false e = refl
    by_test true e = absurd (h (number_of a b e))

-- equal keys are one
pub key_of : (a b : Key) → same_key a b ≡ true → a ≡ b
key_of a b e =
    let r = and_right (nat_eq a.0 b.0) (nat_eq a.1.0 b.1.0 && nat_eq a.1.1 b.1.1) e in
    let f : a.0 ≡ b.0 = number_of a.0 b.0 (and_left (nat_eq a.0 b.0) (nat_eq a.1.0 b.1.0 && nat_eq a.1.1 b.1.1) e) in
    let g : a.1.0 ≡ b.1.0 = number_of a.1.0 b.1.0 (and_left (nat_eq a.1.0 b.1.0) (nat_eq a.1.1 b.1.1) r) in
    let h : a.1.1 ≡ b.1.1 = number_of a.1.1 b.1.1 (and_right (nat_eq a.1.0 b.1.0) (nat_eq a.1.1 b.1.1) r) in
    ap (λ (n : ℕ). (n, a.1)) f ∙ ap (λ (n : ℕ). (b.0, (n, a.1.1))) g ∙ ap (λ (n : ℕ). (b.0, (b.1.0, n))) h

-- ---- one member more

pub add_new : (class : ℕ) (key : Key) (place : ℕ) (old new : ℕ → Key → Option ℕ) → old class key ≡ None → ((q : ℕ × Key) → new q.0 q.1 ≡ cond (same_entry (class, key) q) (Some place) (old q.0 q.1))
    → (c : ℕ) (k : Key) → new c k ≡ option_or (old c k) (one_at class key place c k)
add_new class key place old new none h c k = h (c, k) ∙ by_test (same_entry (class, key) (c, k)) refl
  where
    by_test : (b : Bool) → same_entry (class, key) (c, k) ≡ b → cond b (Some place) (old c k) ≡ option_or (old c k) (cond b (Some place) None)
    by_test false e = or_none (old c k)
    by_test true e =
        let d : class ≡ c = number_of class c (and_left (nat_eq class c) (same_key key k) e) in
        let f : key ≡ k = key_of key k (and_right (nat_eq class c) (same_key key k) e) in
        sym (ap (λ o. option_or o (Some place)) (ap (λ x. old x k) (sym d) ∙ ap (λ x. old class x) (sym f) ∙ none))

pub add_old : (class : ℕ) (key : Key) (place there : ℕ) (old : ℕ → Key → Option ℕ) → old class key ≡ Some there → (c : ℕ) (k : Key) → old c k ≡ option_or (old c k) (one_at class key place c k)
add_old class key place there old some c k = by_test (same_entry (class, key) (c, k)) refl
  where
    by_test : (b : Bool) → same_entry (class, key) (c, k) ≡ b → old c k ≡ option_or (old c k) (cond b (Some place) None)
    by_test false e = or_none (old c k)
    by_test true e =
        let d : class ≡ c = number_of class c (and_left (nat_eq class c) (same_key key k) e) in
        let f : key ≡ k = key_of key k (and_right (nat_eq class c) (same_key key k) e) in
        let here : old c k ≡ Some there = ap (λ x. old x k) (sym d) ∙ ap (λ x. old class x) (sym f) ∙ some in
        here ∙ sym (ap (λ o. option_or o (Some place)) here)

-- ---- one row

row_snoc : (class : ℕ) (row : List Key) (key : Key) (c : ℕ) (k : Key) → option_or (index_of_row class row c k) (one_at class key (length row) c k) ≡ index_of_row class (row ++ key ∷ []) c k
row_snoc class row key c k = by_test (nat_eq class c)
  where
    by_test : (b : Bool) → option_or (cond b (position (λ x. same_key x k) row) None) (cond (b && same_key key k) (Some (length row)) None) ≡ cond b (position (λ x. same_key x k) (row ++ key ∷ [])) None
    by_test true = sym (position_snoc (λ x. same_key x k) row key)
    by_test false = refl

pub row_more : (class : ℕ) (key : Key) (place : ℕ) (row more : List Key) (first old new : ℕ → Key → Option ℕ) → more ≡ row ++ key ∷ [] → place ≡ length row → ((c : ℕ) (k : Key) → old c k ≡ option_or (first c k) (index_of_row class row c k))
    → ((c : ℕ) (k : Key) → new c k ≡ option_or (old c k) (one_at class key place c k)) → (c : ℕ) (k : Key) → new c k ≡ option_or (first c k) (index_of_row class more c k)
row_more class key place row more first old new is at h g c k =
    g c k ∙ ap (λ o. option_or o (one_at class key place c k)) (h c k) ∙ or_more (first c k) (index_of_row class row c k) (one_at class key place c k)
    ∙ ap (λ n. option_or (first c k) (option_or (index_of_row class row c k) (one_at class key n c k))) at ∙ ap (option_or (first c k)) (row_snoc class row key c k)
    ∙ ap (λ l. option_or (first c k) (index_of_row class l c k)) (sym is)

pub row_none : (class : ℕ) (first : ℕ → Key → Option ℕ) (c : ℕ) (k : Key) → first c k ≡ option_or (first c k) (index_of_row class [] c k)
row_none class first c k = by_test (nat_eq class c)
  where
    by_test : (b : Bool) → first c k ≡ option_or (first c k) (cond b (position (λ x. same_key x k) []) None)
    by_test true = or_none (first c k)
    by_test false = or_none (first c k)

-- ---- all rows

rows_snoc : (rows : List (List Key)) (row : List Key) (c : ℕ) (k : Key) → option_or (place_in_rows rows c k) (index_of_row (length rows) row c k) ≡ place_in_rows (rows ++ row ∷ []) c k
rows_snoc [] row zero k = refl
rows_snoc [] row (suc c) k = ap (λ b. cond b (position (λ x. same_key x k) row) None) (apart_test 0 (suc c) (λ e. let z = e in omega arith))
rows_snoc (r ∷ rs) row zero k =
    ap (λ b. option_or (position (λ x. same_key x k) r) (cond b (position (λ x. same_key x k) row) None)) (apart_test (suc (length rs)) 0 (λ e. let z = e in omega arith))
    ∙ sym (or_none (position (λ x. same_key x k) r))
rows_snoc (r ∷ rs) row (suc c) k = ap (λ b. option_or (place_in_rows rs c k) (cond b (position (λ x. same_key x k) row) None)) (suc_test (length rs) c) ∙ rows_snoc rs row c k

got_item : {X : Type 0} (items : List X) (place : ℕ) (item : X) → place < length items → slice_get items place ≡ Some (get_or items place item)
got_item [] place item lt = absurd (omega arith)
got_item (x ∷ xs) zero item lt = refl
got_item (x ∷ xs) (suc place) item lt = got_item xs place item (omega arith)

-- what is known of the class at a place
pub record AtPlace (cs : List Class) (place : ℕ) (class : Class) : Type 0 where
  pub more : take (place + 1) cs ≡ take place cs ++ class ∷ []
  pub before : place ≡ length (take place cs)
  pub got : slice_get cs place ≡ Some class
  pub short : place < length cs

pub at_place : (cs slice : List Class) (place : ℕ) (class : Class) → slice ≡ cs → class ≡ get_or slice place class → place < length slice → AtPlace cs place class
at_place cs slice place class same is lt = subst (λ l. AtPlace l place class) same (record {
  more = take_more slice place class lt ∙ ap (λ x. take place slice ++ x ∷ []) (sym is);
  before = sym (length-take-le place slice (omega (arith, lt)));
  got = got_item slice place class lt ∙ ap (λ x. Some x) (sym is);
  short = lt;
})

map_snoc : (f : Class → List Key) (cs : List Class) (c : Class) → map f (cs ++ c ∷ []) ≡ map f cs ++ f c ∷ []
map_snoc f [] c = refl
map_snoc f (d ∷ ds) c = ap (λ l. f d ∷ l) (map_snoc f ds c)

-- the row of one class more
pub class_more : (f : Class → List Key) (cs : List Class) (place word : ℕ) (class : Class) (keys : List Key) (old new : ℕ → Key → Option ℕ) → length cs < 2 ^ 32 → AtPlace cs place class → (place < 2 ^ 32 → word ≡ place) → keys ≡ f class
    → ((c : ℕ) (k : Key) → old c k ≡ place_in_rows (map f (take place cs)) c k) → ((c : ℕ) (k : Key) → new c k ≡ option_or (old c k) (index_of_row word keys c k)) → (c : ℕ) (k : Key) → new c k ≡ place_in_rows (map f (take (place + 1) cs)) c k
class_more f cs place word class keys old new few at is_word is h g c k =
    let n : word ≡ length (map f (take place cs)) = is_word (let s = at.short in omega (arith, s, few)) ∙ at.before ∙ sym (length-map (take place cs) f) in
    g c k ∙ ap (λ o. option_or o (index_of_row word keys c k)) (h c k)
    ∙ ap (λ m. option_or (place_in_rows (map f (take place cs)) c k) (index_of_row m keys c k)) n
    ∙ ap (λ l. option_or (place_in_rows (map f (take place cs)) c k) (index_of_row (length (map f (take place cs))) l c k)) is
    ∙ rows_snoc (map f (take place cs)) (f class) c k
    ∙ ap (λ l. place_in_rows l c k) (sym (ap (map f) at.more ∙ map_snoc f (take place cs) class))

-- a row is as short as the members that it is of
pub row_short : {X : Type 0} (members : Class → List X) (key : X → Key) (cs : List Class) (place : ℕ) (class : Class) (keys : List Key) → AreFew members cs → AtPlace cs place class → keys ≡ map key (members class) → length keys < 2 ^ 32
row_short members key cs place class keys few at is = let n = few.each place class at.got in omega (arith, n, ap length is, length-map (members class) key)
