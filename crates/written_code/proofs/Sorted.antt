-- The lists of handlers are written in the same order, and named by the same offsets.
use Rattle.std.proofs.Common.{◌≡◌, ◌<◌, ◌≤◌, ◌+◌, ◌^◌, inl, inr, ℕ, zero, suc, min, Bool, true, false, List, [], ◌∷◌, ◌++◌, length, map, replicate, Option, Some, None, refl, sym, ap, ◌∙◌, arith, append_assoc, length-append, length-set}
use Rattle.std.specs.Prelude.{slice_get, slice_set, slice_index, nat_lt, nat_le, nat_eq, ◌&&◌, ◌||◌, if◌then◌else◌, sum_by}
use Rattle.std.specs.List.{AllByRecursion, concat, list_any}
use Rattle.std.specs.Cmp.Lexicographic.{bytes_decides}
use Rattle.std.proofs.lemmas.Bool.{cases_lt, cases_eq, le-leb, lt-leb, lt-ltb, le-ltb, eq-eqb, ne_eqb, eqb-true}
use Rattle.std.proofs.lemmas.List.{get_or-set_same, get_or-set_other, length-replicate}
use Rattle.std.proofs.lemmas.List.Sums.{sum_by-cons}
use Rattle.lemmas.proofs.Bools.{clash}
use Rattle.lemmas.proofs.Lists.{got_short}
use Rattle.lemmas.proofs.Options.{some_same}
use Rattle.code_write.specs.Pairs.{Numbered, is_before, insert, in_order}
use Rattle.code_write.specs.Lists.{is_same, with_list, index_of, all_lists, indexes_of, sized, order_of, text_in, list_in, ordered_text, with_places, count_text, counted_text, places_in, place_in, lists_text}
use Rattle.dex_base.specs.Leb.{uleb_text}
use Rattle.dex_defs.specs.LaysOut as kept
use Rattle.dex_defs.specs.LaysOut.{distinct, by_length, begins_from}
use Rattle.dex_defs.specs.CodeTexts.{place_of}
use Rattle.written_file.proofs.Sorting.{order_all, order_sum}

-- ---- the different ones

pub same_lists : (before xs : List (List ℕ)) → all_lists before xs ≡ distinct before xs
same_lists before [] = refl
same_lists before (x ∷ xs) = by (list_any (is_same x) before) (same_lists before xs) (same_lists (before ++ x ∷ []) xs)
  where
    by : (b : Bool) → all_lists before xs ≡ distinct before xs → all_lists (before ++ x ∷ []) xs ≡ distinct (before ++ x ∷ []) xs → all_lists (if b then before else before ++ x ∷ []) xs ≡ (if b then distinct before xs else distinct (before ++ x ∷ []) xs)
    by true e f = e
    by false e f = f

-- ---- by length

-- a text before all that are no shorter
abbrev front : List ℕ → List (List ℕ) → List (List ℕ)
front x [] = x ∷ []
front x (y ∷ ys) = if nat_le (length x) (length y) then x ∷ (y ∷ ys) else y ∷ front x ys

abbrev fronts : List (List ℕ) → List (List ℕ)
fronts [] = []
fronts (x ∷ xs) = front x (fronts xs)

abbrev place : List ℕ → List (List ℕ) → List (List ℕ)
place x ys = kept.insert x ys

front_if : (x y : List ℕ) (b : Bool) (ys zs : List (List ℕ)) → front x (if b then ys else zs) ≡ (if b then front x ys else front x zs)
front_if x y true ys zs = refl
front_if x y false ys zs = refl

place_if : (y : List ℕ) (b : Bool) (ys zs : List (List ℕ)) → place y (if b then ys else zs) ≡ (if b then place y ys else place y zs)
place_if y true ys zs = refl
place_if y false ys zs = refl

front_yes : (x y : List ℕ) (ys : List (List ℕ)) → length x ≤ length y → front x (y ∷ ys) ≡ x ∷ (y ∷ ys)
front_yes x y ys le = ap (λ (b : Bool). if b then x ∷ (y ∷ ys) else y ∷ front x ys) (le-leb (length x) (length y) le)

front_no : (x y : List ℕ) (ys : List (List ℕ)) → length y < length x → front x (y ∷ ys) ≡ y ∷ front x ys
front_no x y ys lt = ap (λ (b : Bool). if b then x ∷ (y ∷ ys) else y ∷ front x ys) (lt-leb (length x) (length y) lt)

place_yes : (x y : List ℕ) (ys : List (List ℕ)) → length x < length y → place x (y ∷ ys) ≡ x ∷ (y ∷ ys)
place_yes x y ys lt = ap (λ (b : Bool). if b then x ∷ (y ∷ ys) else y ∷ place x ys) (lt-ltb (length x) (length y) lt)

place_no : (x y : List ℕ) (ys : List (List ℕ)) → length y ≤ length x → place x (y ∷ ys) ≡ y ∷ place x ys
place_no x y ys le = ap (λ (b : Bool). if b then x ∷ (y ∷ ys) else y ∷ place x ys) (le-ltb (length x) (length y) le)

cons_list : (x : List ℕ) (xs ys : List (List ℕ)) → xs ≡ ys → (x ∷ xs) ≡ (x ∷ ys)
cons_list x xs ys e = ap (λ (l : List (List ℕ)). x ∷ l) e

commute : (x y : List ℕ) (zs : List (List ℕ)) → place y (front x zs) ≡ front x (place y zs)
commute x y [] = elim (cases_lt (length y) (length x)) [
  | inl lt ↦ place_yes y x [] lt ∙ sym (front_no x y [] lt)
  | inr le ↦ place_no y x [] le ∙ sym (front_yes x y [] le)
]
commute x y (z ∷ zs) = elim (cases_lt (length z) (length x)) [
  | inl z_x ↦ elim (cases_lt (length y) (length z)) [
    | inl y_z ↦ ap (λ (l : List (List ℕ)). place y l) (front_no x z zs z_x) ∙ (place_yes y z (front x zs) y_z ∙ sym (ap (λ (l : List (List ℕ)). front x l) (place_yes y z zs y_z) ∙ (front_no x y (z ∷ zs) (omega (arith, y_z, z_x)) ∙ cons_list y (front x (z ∷ zs)) (z ∷ front x zs) (front_no x z zs z_x))))
    | inr z_y ↦ ap (λ (l : List (List ℕ)). place y l) (front_no x z zs z_x) ∙ (place_no y z (front x zs) z_y ∙ (cons_list z (place y (front x zs)) (front x (place y zs)) (commute x y zs) ∙ sym (ap (λ (l : List (List ℕ)). front x l) (place_no y z zs z_y) ∙ front_no x z (place y zs) z_x)))
  ]
  | inr x_z ↦ elim (cases_lt (length y) (length z)) [
    | inl y_z ↦ elim (cases_lt (length y) (length x)) [
      | inl y_x ↦ ap (λ (l : List (List ℕ)). place y l) (front_yes x z zs x_z) ∙ (place_yes y x (z ∷ zs) y_x ∙ sym (ap (λ (l : List (List ℕ)). front x l) (place_yes y z zs y_z) ∙ (front_no x y (z ∷ zs) y_x ∙ cons_list y (front x (z ∷ zs)) (x ∷ (z ∷ zs)) (front_yes x z zs x_z))))
      | inr x_y ↦ ap (λ (l : List (List ℕ)). place y l) (front_yes x z zs x_z) ∙ (place_no y x (z ∷ zs) x_y ∙ (cons_list x (place y (z ∷ zs)) (y ∷ (z ∷ zs)) (place_yes y z zs y_z) ∙ sym (ap (λ (l : List (List ℕ)). front x l) (place_yes y z zs y_z) ∙ front_yes x y (z ∷ zs) x_y)))
    ]
    | inr z_y ↦ ap (λ (l : List (List ℕ)). place y l) (front_yes x z zs x_z) ∙ (place_no y x (z ∷ zs) (omega (arith, x_z, z_y)) ∙ (cons_list x (place y (z ∷ zs)) (z ∷ place y zs) (place_no y z zs z_y) ∙ sym (ap (λ (l : List (List ℕ)). front x l) (place_no y z zs z_y) ∙ front_yes x z (place y zs) x_z)))
  ]
]

by_front : (x : List ℕ) (s ys : List (List ℕ)) → by_length (front x s) ys ≡ front x (by_length s ys)
by_front x s [] = refl
by_front x s (y ∷ ys) = ap (λ (l : List (List ℕ)). by_length l ys) (commute x y s) ∙ by_front x (place y s) ys

pub sorted_fronts : (xs : List (List ℕ)) → by_length [] xs ≡ fronts xs
sorted_fronts [] = refl
sorted_fronts (x ∷ xs) = by_front x [] xs ∙ ap (λ (l : List (List ℕ)). front x l) (sorted_fronts xs)

-- ---- the writer's order

abbrev Known : List (List ℕ) → ℕ → Numbered → Type 0
Known lists i one = (i ≤ one.1) × (one.0 ≡ length (list_in lists one.1))

abbrev texts : List (List ℕ) → List Numbered → List (List ℕ)
texts lists order = map (λ one. list_in lists one.1) order

before_is : (n i : ℕ) (b : Numbered) → i ≤ b.1 → is_before (n, i) b ≡ nat_le n b.0
before_is n i b le = elim (cases_lt n b.0) [
  | inl lt ↦ ap (λ (t : Bool). t || (nat_eq n b.0 && nat_le i b.1)) (lt-ltb n b.0 lt) ∙ sym (le-leb n b.0 (omega (arith, lt)))
  | inr ge ↦ elim (cases_eq n b.0) [
    | inl e ↦ ap (λ (t : Bool). t || (nat_eq n b.0 && nat_le i b.1)) (le-ltb n b.0 ge) ∙ (ap (λ (t : Bool). t && nat_le i b.1) (eq-eqb n b.0 e) ∙ (le-leb i b.1 le ∙ sym (le-leb n b.0 (omega (arith, e)))))
    | inr ne ↦ ap (λ (t : Bool). t || (nat_eq n b.0 && nat_le i b.1)) (le-ltb n b.0 ge) ∙ (ap (λ (t : Bool). t && nat_le i b.1) (ne_eqb n b.0 ne) ∙ sym (lt-leb n b.0 (less b.0 n ge ne)))
  ]
]
  where
    less : (a b : ℕ) → a ≤ b → (b ≡ a → ⊥) → a < b
    less a b le ne = elim (cases_lt a b) [ inl lt ↦ lt | inr ge ↦ absurd (ne (omega (arith, le, ge))) ]

insert_same : (lists : List (List ℕ)) (i : ℕ) (x : List ℕ) (bs : List Numbered) → list_in lists i ≡ x → AllByRecursion (Known lists i) bs → texts lists (insert (length x, i) bs) ≡ front x (texts lists bs)
insert_same lists i x [] is k = ap (λ (l : List ℕ). l ∷ []) is
insert_same lists i x (b ∷ bs) is k = by (is_before (length x, i) b) (before_is (length x) i b k.0.0 ∙ ap (λ (n : ℕ). nat_le (length x) n) k.0.1) (insert_same lists i x bs is k.1)
  where
    by : (t : Bool) → t ≡ nat_le (length x) (length (list_in lists b.1)) → texts lists (insert (length x, i) bs) ≡ front x (texts lists bs) → texts lists (if t then (length x, i) ∷ (b ∷ bs) else b ∷ insert (length x, i) bs) ≡ front x (list_in lists b.1 ∷ texts lists bs)
    by true e rest = ap (λ (l : List ℕ). l ∷ (list_in lists b.1 ∷ texts lists bs)) is ∙ ap (λ (t : Bool). if t then x ∷ (list_in lists b.1 ∷ texts lists bs) else list_in lists b.1 ∷ front x (texts lists bs)) e
    by false e rest = cons_list (list_in lists b.1) (texts lists (insert (length x, i) bs)) (front x (texts lists bs)) rest ∙ ap (λ (t : Bool). if t then x ∷ (list_in lists b.1 ∷ texts lists bs) else list_in lists b.1 ∷ front x (texts lists bs)) e

index_front : {X : Type 0} (before : List X) (x : X) (after : List X) (n : ℕ) → length before ≡ n → slice_get (before ++ (x ∷ after)) n ≡ Some x
index_front [] x after zero e = refl
index_front [] x after (suc n) e = absurd (omega (arith, e))
index_front (b ∷ before) x after zero e = absurd (omega (arith, e))
index_front (b ∷ before) x after (suc n) e = index_front before x after n (omega (arith, e))

known_less : (lists : List (List ℕ)) (i j : ℕ) (bs : List Numbered) → i ≤ j → AllByRecursion (Known lists j) bs → AllByRecursion (Known lists i) bs
known_less lists i j [] le k = tt
known_less lists i j (b ∷ bs) le k = ((omega (arith, le, k.0.0), k.0.1), known_less lists i j bs le k.1)

sized_known : (lists before after : List (List ℕ)) (i : ℕ) → lists ≡ before ++ after → length before ≡ i → AllByRecursion (Known lists i) (sized i after)
sized_known lists before [] i is long = tt
sized_known lists before (x ∷ after) i is long =
    let here : list_in lists i ≡ x = ap text_in (ap (λ (l : List (List ℕ)). slice_get l i) is ∙ index_front before x after i long) in
    let le : i ≤ i = omega arith in
    ((le, ap (λ (l : List ℕ). length l) (sym here)), known_less lists i (suc i) (sized (suc i) after) (omega arith) (sized_known lists (before ++ x ∷ []) after (suc i) (is ∙ sym (append_assoc before (x ∷ []) after)) (length-append before (x ∷ []) ∙ omega (arith, long))))

order_texts : (lists before after : List (List ℕ)) (i : ℕ) → lists ≡ before ++ after → length before ≡ i → texts lists (in_order (sized i after)) ≡ fronts after
unfolding in_order
order_texts lists before [] i is long = refl
order_texts lists before (x ∷ after) i is long =
    let here : list_in lists i ≡ x = ap text_in (ap (λ (l : List (List ℕ)). slice_get l i) is ∙ index_front before x after i long) in
    let next : lists ≡ (before ++ x ∷ []) ++ after = is ∙ sym (append_assoc before (x ∷ []) after) in
    let many : length (before ++ x ∷ []) ≡ suc i = length-append before (x ∷ []) ∙ omega (arith, long) in
    let known : AllByRecursion (Known lists (suc i)) (in_order (sized (suc i) after)) = order_all (Known lists (suc i)) (sized (suc i) after) (sized_known lists (before ++ x ∷ []) after (suc i) next many) in
    insert_same lists i x (in_order (sized (suc i) after)) here (known_less lists i (suc i) (in_order (sized (suc i) after)) (omega arith) known) ∙ ap (λ (l : List (List ℕ)). front x l) (order_texts lists (before ++ x ∷ []) after (suc i) next many)

pub order_sorted : (lists : List (List ℕ)) → texts lists (order_of lists) ≡ by_length [] lists
unfolding order_of
order_sorted lists = order_texts lists [] lists 0 refl refl ∙ sym (sorted_fronts lists)

ordered_concat : (lists : List (List ℕ)) (order : List Numbered) → ordered_text lists order ≡ concat (texts lists order)
ordered_concat lists [] = refl
ordered_concat lists (one ∷ order) = ap (λ (l : List ℕ). list_in lists one.1 ++ l) (ordered_concat lists order)

-- ---- where each stands

abbrev hit : ℕ → Numbered → ℕ
hit k one = if nat_eq one.1 k then 1 else 0

set_long : (places : List ℕ) (k v : ℕ) → length (slice_set places k v) ≡ length places
set_long places k v = length-set places k v

not_hit : (k : ℕ) (one : Numbered) → hit k one ≡ 0 → one.1 ≡ k → ⊥
not_hit k one z e = let h : hit k one ≡ 1 = ap (λ (b : Bool). if b then 1 else 0) (eq-eqb one.1 k e) in omega (arith, z, h)

stays : (lists : List (List ℕ)) (order : List Numbered) (at k : ℕ) (places : List ℕ) → k < length places → sum_by (hit k) order ≡ 0 → slice_index (with_places lists order at places) k ≡ slice_index places k
stays lists [] at k places lt z = refl
stays lists (one ∷ order) at k places lt z =
    let both : hit k one + sum_by (hit k) order ≡ 0 = sym (sum_by-cons (hit k) one order) ∙ z in
    let other : k ≡ one.1 → ⊥ = λ e. not_hit k one (omega (arith, both)) (sym e) in
    stays lists order (at + length (list_in lists one.1)) k (slice_set places one.1 at) (omega (arith, lt, set_long places one.1 at)) (omega (arith, both)) ∙ get_or-set_other places one.1 k at 0 other

abbrev Differs : List (List ℕ) → ℕ → Numbered → Type 0
Differs lists k one = is_same (list_in lists one.1) (list_in lists k) ≡ nat_eq one.1 k

place_found : (lists : List (List ℕ)) (order : List Numbered) (at k : ℕ) (places : List ℕ) → k < length places → sum_by (hit k) order ≡ 1 → AllByRecursion (Differs lists k) order
    → slice_index (with_places lists order at places) k ≡ place_of (texts lists order) (begins_from at (texts lists order)) (list_in lists k)
place_found lists [] at k places lt z d = absurd (none z)
  where
    none : sum_by (hit k) [] ≡ 1 → ⊥
    none e = cc
place_found lists (one ∷ order) at k places lt z d = by (nat_eq one.1 k) refl (λ l y. place_found lists order (at + length (list_in lists one.1)) k (slice_set places one.1 at) l y d.1)
  where
    both : hit k one + sum_by (hit k) order ≡ 1
    both = sym (sum_by-cons (hit k) one order) ∙ z

    next : ℕ
    next = at + length (list_in lists one.1)

    rest : List (List ℕ)
    rest = texts lists order

    by : (b : Bool) → nat_eq one.1 k ≡ b → (k < length (slice_set places one.1 at) → sum_by (hit k) order ≡ 1 → slice_index (with_places lists order (at + length (list_in lists one.1)) (slice_set places one.1 at)) k ≡ place_of (texts lists order) (begins_from (at + length (list_in lists one.1)) (texts lists order)) (list_in lists k))
        → slice_index (with_places lists (one ∷ order) at places) k ≡ place_of (texts lists (one ∷ order)) (begins_from at (texts lists (one ∷ order))) (list_in lists k)
    by true e more =
        let same : one.1 ≡ k = eqb-true one.1 k e in
        let one_hit : hit k one ≡ 1 = ap (λ (b : Bool). if b then 1 else 0) e in
        stays lists order next k (slice_set places one.1 at) (omega (arith, lt, set_long places one.1 at)) (omega (arith, both, one_hit))
        ∙ (ap (λ (j : ℕ). slice_index (slice_set places j at) k) same ∙ (get_or-set_same places k at 0 lt ∙ sym (ap (λ (b : Bool). if b then at else place_of rest (begins_from next rest) (list_in lists k)) (d.0 ∙ e))))
    by false e more =
        let no_hit : hit k one ≡ 0 = ap (λ (b : Bool). if b then 1 else 0) e in
        more (omega (arith, lt, set_long places one.1 at)) (omega (arith, both, no_hit))
        ∙ sym (ap (λ (b : Bool). if b then at else place_of rest (begins_from next rest) (list_in lists k)) (d.0 ∙ e))

sized_none : (k i : ℕ) (xs : List (List ℕ)) → k < i → sum_by (hit k) (sized i xs) ≡ 0
sized_none k i [] lt = refl
sized_none k i (x ∷ xs) lt =
    let nay : hit k (length x, i) ≡ 0 = ap (λ (b : Bool). if b then 1 else 0) (ne_eqb i k (λ e. omega (arith, e, lt))) in
    sum_by-cons (hit k) (length x, i) (sized (suc i) xs) ∙ omega (arith, nay, sized_none k (suc i) xs (omega (arith, lt)))

sized_once : (k i : ℕ) (xs : List (List ℕ)) → i ≤ k → k < i + length xs → sum_by (hit k) (sized i xs) ≡ 1
sized_once k i [] le lt = absurd (omega (arith, le, lt))
sized_once k i (x ∷ xs) le lt = sum_by-cons (hit k) (length x, i) (sized (suc i) xs) ∙ elim (cases_eq i k) [
  | inl e ↦
      let yes : hit k (length x, i) ≡ 1 = ap (λ (b : Bool). if b then 1 else 0) (eq-eqb i k e) in
      omega (arith, yes, sized_none k (suc i) xs (omega (arith, e)))
  | inr ne ↦
      let nay : hit k (length x, i) ≡ 0 = ap (λ (b : Bool). if b then 1 else 0) (ne_eqb i k ne) in
      omega (arith, nay, sized_once k (suc i) xs (more i k le ne) (omega (arith, lt)))
]
  where
    more : (a b : ℕ) → a ≤ b → (a ≡ b → ⊥) → a < b
    more a b le ne = elim (cases_lt a b) [ inl lt ↦ lt | inr ge ↦ absurd (ne (omega (arith, le, ge))) ]

-- no two of the lists are the same
pub record Different (lists : List (List ℕ)) : Type 0 where
  pub one : (i j : ℕ) (x : List ℕ) → slice_get lists i ≡ Some x → slice_get lists j ≡ Some x → i ≡ j

same_is : (a b : List ℕ) → is_same a b ≡ true → a ≡ b
same_is a b h = (bytes_decides a b).0 h

same_self : (a : List ℕ) → is_same a a ≡ true
same_self a = (bytes_decides a a).1 refl

differs_at : (lists : List (List ℕ)) (k : ℕ) (x : List ℕ) (one : Numbered) → Different lists → slice_get lists k ≡ Some x → one.1 < length lists → Differs lists k one
differs_at lists k x one d e inside = by (nat_eq one.1 k) refl
  where
    by : (b : Bool) → nat_eq one.1 k ≡ b → is_same (list_in lists one.1) (list_in lists k) ≡ b
    by true n = ap (λ (j : ℕ). is_same (list_in lists j) (list_in lists k)) (eqb-true one.1 k n) ∙ same_self (list_in lists k)
    by false n = by_same (is_same (list_in lists one.1) (list_in lists k)) refl
      where
        by_same : (b : Bool) → is_same (list_in lists one.1) (list_in lists k) ≡ b → b ≡ false
        by_same false s = refl
        by_same true s = absurd (nay (slice_get lists one.1) refl)
          where
            text : list_in lists one.1 ≡ x
            text = same_is (list_in lists one.1) (list_in lists k) s ∙ ap text_in e

            nay : (o : Option (List ℕ)) → slice_get lists one.1 ≡ o → ⊥
            nay None g = omega (arith, inside, past lists one.1 g)
              where
                past : (ls : List (List ℕ)) (n : ℕ) → slice_get ls n ≡ None → length ls ≤ n
                past [] n g = omega arith
                past (l ∷ ls) zero g = absurd cc
                past (l ∷ ls) (suc n) g = omega (arith, past ls n g)
            nay (Some y) g =
                let same : y ≡ x = sym (ap text_in g) ∙ text in
                let at : one.1 ≡ k = d.one one.1 k x (g ∙ ap Some same) e in
                clash (nat_eq one.1 k) (eq-eqb one.1 k at) n

sized_inside : (i n : ℕ) (xs : List (List ℕ)) → i + length xs ≤ n → AllByRecursion (λ one. one.1 < n) (sized i xs)
sized_inside i n [] le = tt
sized_inside i n (x ∷ xs) le = (omega (arith, le), sized_inside (suc i) n xs (omega (arith, le)))

all_differ : (lists : List (List ℕ)) (k : ℕ) (x : List ℕ) (order : List Numbered) → Different lists → slice_get lists k ≡ Some x → AllByRecursion (λ one. one.1 < length lists) order → AllByRecursion (Differs lists k) order
all_differ lists k x [] d e a = tt
all_differ lists k x (one ∷ order) d e a = (differs_at lists k x one d e a.0, all_differ lists k x order d e a.1)

place_is : (lists : List (List ℕ)) (k : ℕ) (x : List ℕ) → Different lists → slice_get lists k ≡ Some x → slice_index (places_in lists) k ≡ place_of (by_length [] lists) (begins_from (length (count_text lists)) (by_length [] lists)) x
unfolding places_in order_of
place_is lists k x d e =
    let order : List Numbered = in_order (sized 0 lists) in
    let inside : k < length lists = got_short lists k x e in
    let zeros : List ℕ = replicate (length lists) 0 in
    let found = place_found lists order (length (count_text lists)) k zeros (omega (arith, inside, length-replicate {A = ℕ} (length lists) 0)) (order_sum (hit k) (sized 0 lists) ∙ sized_once k 0 lists (omega arith) (omega (arith, inside)))
    (all_differ lists k x order d e (order_all (λ one. one.1 < length lists) (sized 0 lists) (sized_inside 0 (length lists) lists (omega arith)))) in
    found ∙ (ap (λ (l : List (List ℕ)). place_of l (begins_from (length (count_text lists)) l) (list_in lists k)) (order_sorted lists) ∙ ap (λ (t : List ℕ). place_of (by_length [] lists) (begins_from (length (count_text lists)) (by_length [] lists)) t) (ap text_in e))

-- ---- the lists that are collected differ

any_got : (x : List ℕ) (lists : List (List ℕ)) (i : ℕ) → slice_get lists i ≡ Some x → list_any (is_same x) lists ≡ true
any_got x [] i e = absurd cc
any_got x (l ∷ lists) zero e = ap (λ (b : Bool). b || list_any (is_same x) lists) (ap (λ (y : List ℕ). is_same x y) (some_same l x e) ∙ same_self x)
any_got x (l ∷ lists) (suc i) e = or_last (is_same x l) (list_any (is_same x) lists) (any_got x lists i e)
  where
    or_last : (a b : Bool) → b ≡ true → (a || b) ≡ true
    or_last true b h = refl
    or_last false b h = h

-- an entry of a list with one more is one of the list, or the last
data Got (lists : List (List ℕ)) (t x : List ℕ) (i : ℕ) : Type 0 where
  Before : slice_get lists i ≡ Some x → Got lists t x i
  Last : i ≡ length lists → x ≡ t → Got lists t x i

got_more : (lists : List (List ℕ)) (t x : List ℕ) (i : ℕ) → slice_get (lists ++ t ∷ []) i ≡ Some x → Got lists t x i
got_more [] t x zero e = Last refl (sym (some_same t x e))
got_more [] t x (suc i) e = absurd cc
got_more (l ∷ lists) t x zero e = Before e
got_more (l ∷ lists) t x (suc i) e = on (got_more lists t x i e)
  where
    on : Got lists t x i → Got (l ∷ lists) t x (suc i)
    on (Before b) = Before b
    on (Last a b) = Last (ap suc a) b

more_differ : (lists : List (List ℕ)) (t : List ℕ) → Different lists → list_any (is_same t) lists ≡ false → Different (lists ++ t ∷ [])
more_differ lists t d nay = record { one = λ i j x e f. both i j x (got_more lists t x i e) (got_more lists t x j f) }
  where
    both : (i j : ℕ) (x : List ℕ) → Got lists t x i → Got lists t x j → i ≡ j
    both i j x (Before a) (Before b) = d.one i j x a b
    both i j x (Before a) (Last b c) = clash (list_any (is_same t) lists) (any_got t lists i (a ∙ ap Some c)) nay
    both i j x (Last a c) (Before b) = clash (list_any (is_same t) lists) (any_got t lists j (b ∙ ap Some c)) nay
    both i j x (Last a c) (Last b e) = a ∙ sym b

pub lists_differ : (before xs : List (List ℕ)) → Different before → Different (all_lists before xs)
lists_differ before [] d = d
lists_differ before (x ∷ xs) d = by (list_any (is_same x) before) refl (lists_differ before xs) (lists_differ (before ++ x ∷ []) xs)
  where
    by : (b : Bool) → list_any (is_same x) before ≡ b → (Different before → Different (all_lists before xs)) → (Different (before ++ x ∷ []) → Different (all_lists (before ++ x ∷ []) xs)) → Different (all_lists (if b then before else before ++ x ∷ []) xs)
    by true e f g = f d
    by false e f g = g (more_differ before x d e)

pub none_differ : Different []
none_differ = record { one = λ i j x e f. absurd (none i x e) }
  where
    none : (i : ℕ) (x : List ℕ) → slice_get [] i ≡ Some x → ⊥
    none i x e = cc

-- ---- which one each text is

keep_append : (xs ys : List (List ℕ)) (i : ℕ) (x : List ℕ) → slice_get xs i ≡ Some x → slice_get (xs ++ ys) i ≡ Some x
keep_append [] ys i x h = absurd cc
keep_append (y ∷ xs) ys zero x h = h
keep_append (y ∷ xs) ys (suc i) x h = keep_append xs ys i x h

keep_if : (b : Bool) (xs ys : List (List ℕ)) (i : ℕ) (x : List ℕ) → slice_get xs i ≡ Some x → slice_get (if b then xs else xs ++ ys) i ≡ Some x
keep_if true xs ys i x h = h
keep_if false xs ys i x h = keep_append xs ys i x h

keep_all : (ts lists : List (List ℕ)) (i : ℕ) (x : List ℕ) → slice_get lists i ≡ Some x → slice_get (all_lists lists ts) i ≡ Some x
keep_all [] lists i x h = h
keep_all (t ∷ ts) lists i x h = keep_all ts (with_list lists t) i x (keep_if (list_any (is_same t) lists) lists (t ∷ []) i x h)

known_at : (lists : List (List ℕ)) (t : List ℕ) → slice_get (with_list lists t) (index_of lists t) ≡ Some t
known_at [] t = refl
known_at (x ∷ xs) t = by (is_same t x) refl (known_at xs t)
  where
    with_cons : (b : Bool) (ys zs : List (List ℕ)) → (if b then x ∷ ys else x ∷ zs) ≡ x ∷ (if b then ys else zs)
    with_cons true ys zs = refl
    with_cons false ys zs = refl

    by : (b : Bool) → is_same t x ≡ b → slice_get (with_list xs t) (index_of xs t) ≡ Some t → slice_get (with_list (x ∷ xs) t) (index_of (x ∷ xs) t) ≡ Some t
    by true h rest = rw h (ap (λ (l : List ℕ). Some l) (sym (same_is t x h)))
    by false h rest = rw h (
        let next : 1 + index_of xs t ≡ suc (index_of xs t) = omega arith in
        ap (λ (n : ℕ). slice_get (if list_any (is_same t) xs then x ∷ xs else x ∷ (xs ++ t ∷ [])) n) next
        ∙ ap (λ (l : List (List ℕ)). slice_get l (suc (index_of xs t))) (with_cons (list_any (is_same t) xs) xs (xs ++ t ∷ []))
        ∙ rest
        )

-- the offsets of these texts
pub offsets_are : (lists before ts : List (List ℕ)) → lists ≡ all_lists before ts → Different lists
    → map (place_in (places_in lists)) (indexes_of before ts) ≡ map (λ t. place_of (by_length [] lists) (begins_from (length (count_text lists)) (by_length [] lists)) t) ts
offsets_are lists before [] is d = refl
offsets_are lists before (t ∷ ts) is d =
    let got : slice_get lists (index_of before t) ≡ Some t = ap (λ (l : List (List ℕ)). slice_get l (index_of before t)) is ∙ keep_all ts (with_list before t) (index_of before t) t (known_at before t) in
    let rest = offsets_are lists (with_list before t) ts is d in
    ap (λ (n : ℕ). n ∷ map (place_in (places_in lists)) (indexes_of (with_list before t) ts)) (place_is lists (index_of before t) t d got)
    ∙ ap (λ (l : List ℕ). place_of (by_length [] lists) (begins_from (length (count_text lists)) (by_length [] lists)) t ∷ l) rest

-- both ways of writing them
pub lists_same : (ts : List (List ℕ)) → length (distinct [] ts) < 2 ^ 32 → lists_text ts ≡ uleb_text (length (by_length [] (distinct [] ts))) ++ concat (by_length [] (distinct [] ts))
unfolding counted_text
lists_same ts few =
    let lists : List (List ℕ) = all_lists [] ts in
    let are : lists ≡ distinct [] ts = same_lists [] ts in
    let many : length (by_length [] lists) ≡ length lists = omega (arith, sorted_long [] lists) in
    let count : min (length lists) 4294967295 ≡ length (by_length [] lists) = omega (arith, many, few, ap (λ (l : List (List ℕ)). length l) are) in
    ap (λ (n : ℕ). uleb_text n ++ ordered_text lists (order_of lists)) count
    ∙ (ap (λ (l : List ℕ). uleb_text (length (by_length [] lists)) ++ l) (ordered_concat lists (order_of lists) ∙ ap (λ (l : List (List ℕ)). concat l) (order_sorted lists))
    ∙ ap (λ (l : List (List ℕ)). uleb_text (length (by_length [] l)) ++ concat (by_length [] l)) are)
  where
    insert_long : (x : List ℕ) (ys : List (List ℕ)) → length (place x ys) ≡ suc (length ys)
    insert_long x [] = refl
    insert_long x (y ∷ ys) = by (nat_lt (length x) (length y)) (insert_long x ys)
      where
        by : (b : Bool) → length (place x ys) ≡ suc (length ys) → length (if b then x ∷ (y ∷ ys) else y ∷ place x ys) ≡ suc (suc (length ys))
        by true e = refl
        by false e = ap suc e

    sorted_long : (s xs : List (List ℕ)) → length (by_length s xs) ≡ length s + length xs
    sorted_long s [] = let e : length s ≡ length s + 0 = omega arith in e
    sorted_long s (x ∷ xs) = sorted_long (place x s) xs ∙ omega (arith, insert_long x s)
