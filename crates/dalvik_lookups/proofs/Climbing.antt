-- Walks up from a type meet all that stands above it, and nothing else.
use Rattle.std.proofs.Common.{◌≡◌, ℕ, zero, suc, ◌+◌, ◌-◌, ◌<◌, ◌≤◌, ◌⊎◌, inl, inr, Bool, true, false, true≢false, List, [], ◌∷◌, ◌++◌, length, take, get_or, Some, None, refl, sym, ap, subst, ◌∙◌, arith}
use Rattle.std.specs.Prelude.{not, cond, slice_get, slice_index_or, slice_set, count_by, sum_by, Contains, vec_len}
use Rattle.std.proofs.lemmas.List.Sums.{sum_by-set}
use Rattle.std.proofs.lemmas.List.{take_more, take_all}
use Rattle.std.proofs.lemmas.List.Elements.{Contains-push, Contains-push_cases, Contains-append_left, Contains-append_right}
use Rattle.dalvik_lookups.specs.declared.graph.Above.{Above}
use Rattle.dalvik_lookups.specs.declared.marks.Marks.{Marks}
use Rattle.dalvik_lookups.specs.Tables.{row_at}
use Rattle.dalvik_lookups.specs.Walks.{Climbs, is_on, is_met, left, Extends, Grow, IsClean, IsWalking, AllAbove, IsWalked, IsInside}
use Rattle.dalvik_lookups.proofs.Interned.{got_short}
use Rattle.dalvik_lookups.proofs.Inside.{none_in, only_in, first_in, first_or, later_in}

-- ---- marks

set_cases : (l : List Bool) (x c : ℕ) → slice_index_or (slice_set l x true) c false ≡ true → (c ≡ x) ⊎ (slice_index_or l c false ≡ true)
set_cases [] x c e = inr e
set_cases (b ∷ bs) zero zero e = inl refl
set_cases (b ∷ bs) zero (suc c) e = inr e
set_cases (b ∷ bs) (suc x) zero e = inr e
set_cases (b ∷ bs) (suc x) (suc c) e = elim (set_cases bs x c e) [ inl s ↦ inl (ap suc s) | inr f ↦ inr f ]

set_keeps : (l : List Bool) (x c : ℕ) (d : Bool) → slice_index_or l c d ≡ true → slice_index_or (slice_set l x true) c d ≡ true
set_keeps [] x c d e = e
set_keeps (b ∷ bs) zero zero d e = refl
set_keeps (b ∷ bs) zero (suc c) d e = e
set_keeps (b ∷ bs) (suc x) zero d e = e
set_keeps (b ∷ bs) (suc x) (suc c) d e = set_keeps bs x c d e

pub set_reached : (l : List Bool) (x : ℕ) → slice_index_or (slice_set l x true) x true ≡ true
set_reached [] x = refl
set_reached (b ∷ bs) zero = refl
set_reached (b ∷ bs) (suc x) = set_reached bs x

pub reached_past : (l : List Bool) (x : ℕ) → length l ≤ x → slice_index_or l x true ≡ true
reached_past [] x le = refl
reached_past (b ∷ bs) zero le = absurd (omega (arith, le))
reached_past (b ∷ bs) (suc x) le = reached_past bs x (omega (arith, le))

-- below the end of the table what is met is marked
pub on_so : (l : List Bool) (x : ℕ) (d : Bool) → x < length l → slice_index_or l x d ≡ true → slice_index_or l x false ≡ true
on_so [] x d lt e = absurd (omega (arith, lt))
on_so (b ∷ bs) zero d lt e = e
on_so (b ∷ bs) (suc x) d lt e = on_so bs x d (omega (arith, lt)) e

pub met_so : (l : List Bool) (x : ℕ) → slice_index_or l x false ≡ true → slice_index_or l x true ≡ true
met_so [] x e = refl
met_so (b ∷ bs) zero e = e
met_so (b ∷ bs) (suc x) e = met_so bs x e

append_all : (xs ys zs : List ℕ) → (xs ++ ys) ++ zs ≡ xs ++ (ys ++ zs)
append_all [] ys zs = refl
append_all (x ∷ xs) ys zs = ap (λ l. x ∷ l) (append_all xs ys zs)

append_none : (xs : List ℕ) → xs ≡ xs ++ []
append_none [] = refl
append_none (x ∷ xs) = ap (λ l. x ∷ l) (append_none xs)

extends_in : (xs ys : List ℕ) (n : ℕ) → Extends xs ys → Contains xs n → Contains ys n
extends_in xs ys n e c = subst (λ l. Contains l n) (sym e.is) (Contains-append_left xs e.more n c)

pub grow_none : (m : Marks) (ns : List ℕ) → Grow m m ns
grow_none m ns = record { size = refl; less = omega arith; reached = λ n h. h; new = λ n h. inl h; more = record { more = []; is = append_none m.listed.items }; each = λ n c. inl c }

-- the same marks, and the same numbers listed
pub grow_same : (m m' : Marks) (ns : List ℕ) → m'.marks ≡ m.marks → m'.listed.items ≡ m.listed.items → vec_len m'.listed ≡ vec_len m.listed → Grow m m' ns
grow_same m m' ns same items len = record {
  size = ap vec_len same;
  less = (let s : count_by not m'.marks.items ≡ count_by not m.marks.items = ap (λ v. count_by not v.items) same in omega (arith, s, len));
  reached = λ n h. ap (λ v. slice_index_or v.items n true) same ∙ h;
  new = λ n h. inl (sym (ap (λ v. slice_index_or v.items n false) same) ∙ h);
  more = record { more = []; is = items ∙ append_none m.listed.items };
  each = λ n c. inl (subst (λ l. Contains l n) items c);
}

pub grow_set : (m m' : Marks) (x : ℕ) → vec_len m'.marks ≡ vec_len m.marks → left m' ≤ left m → m'.marks.items ≡ slice_set m.marks.items x true → m'.listed.items ≡ m.listed.items ++ x ∷ [] → Grow m m' (x ∷ [])
grow_set m m' x size less e w = record {
  size = size;
  less = less;
  reached = λ n h. ap (λ l. slice_index_or l n true) e ∙ set_keeps m.marks.items x n true h;
  new = λ n h. elim (set_cases m.marks.items x n (sym (ap (λ l. slice_index_or l n false) e) ∙ h)) [
    | inl s ↦ inr (subst (λ l. Contains l n) (sym w) (subst (Contains (m.listed.items ++ x ∷ [])) (sym s) (Contains-push m.listed.items x)))
    | inr f ↦ inl f
  ];
  more = record { more = x ∷ []; is = w };
  each = λ n c. elim (Contains-push_cases m.listed.items x n (subst (λ l. Contains l n) w c)) [ inl d ↦ inl d | inr s ↦ inr (subst (Contains (x ∷ [])) s (first_in x [])) ];
}

-- one mark more leaves one number less
pub set_less : (l : List Bool) (x a b : ℕ) → x < length l → slice_index_or l x false ≡ false → b ≡ a + 1 → count_by not (slice_set l x true) + b ≤ count_by not l + a
set_less l x a b lt off e =
    let s : sum_by (λ y. cond (not y) 1 0) (slice_set l x true) + cond (not (slice_index_or l x false)) 1 0 ≡ sum_by (λ y. cond (not y) 1 0) l + cond (not true) 1 0 = sum_by-set (λ y. cond (not y) 1 0) l x true false lt in
    let t : sum_by (λ y. cond (not y) 1 0) (slice_set l x true) + 1 ≡ sum_by (λ y. cond (not y) 1 0) l + 0 = subst (λ q. sum_by (λ y. cond (not y) 1 0) (slice_set l x true) + cond (not q) 1 0 ≡ sum_by (λ y. cond (not y) 1 0) l + 0) off s in
    omega (arith, t, e)

pub less_left : (x y z i : ℕ) → i < z → x ≤ y + z → x - (i + 1) < (y + z) - i
less_left x y z i lt le = omega (arith, lt, le)

-- one more number of a list
pub grow_more : (a b c : Marks) (xs : List ℕ) (i d : ℕ) → Grow a b (take i xs) → Grow b c (get_or xs i d ∷ []) → i < length xs → Grow a c (take (i + 1) xs)
grow_more a b c xs i d f g lt = record {
  size = g.size ∙ f.size;
  less = (let x = f.less in let y = g.less in omega (arith, x, y));
  reached = λ n h. g.reached n (f.reached n h);
  new = λ n h. elim (g.new n h) [ inl e ↦ elim (f.new n e) [ inl e' ↦ inl e' | inr k ↦ inr (extends_in b.listed.items c.listed.items n g.more k) ] | inr k ↦ inr k ];
  more = record { more = f.more.more ++ g.more.more; is = g.more.is ∙ ap (λ l. l ++ g.more.more) f.more.is ∙ append_all a.listed.items f.more.more g.more.more };
  each = λ n k. elim (g.each n k) [
    | inl e ↦ elim (f.each n e) [ inl h ↦ inl h | inr h ↦ inr (subst (λ l. Contains l n) (sym (take_more xs i d lt)) (Contains-append_left (take i xs) (get_or xs i d ∷ []) n h)) ]
    | inr e ↦ inr (subst (λ l. Contains l n) (sym (take_more xs i d lt)) (Contains-append_right (take i xs) (get_or xs i d ∷ []) n e))
  ];
}

pub grow_all : (a b : Marks) (xs : List ℕ) (i : ℕ) → Grow a b (take i xs) → length xs ≤ i → Grow a b xs
grow_all a b xs i f le = subst (Grow a b) (take_all i xs le) f

part_in : (xs : List ℕ) (i n : ℕ) → Contains (take i xs) n → Contains xs n
part_in xs zero n c = absurd (none_in n c)
part_in [] (suc i) n c = c
part_in (x ∷ xs) (suc i) n c = elim (first_or x (take i xs) n c) [ inl e ↦ subst (Contains (x ∷ xs)) e (first_in x xs) | inr e ↦ later_in x xs n (part_in xs i n e) ]

-- the first numbers of a list are numbers of it
pub grow_part : (a b : Marks) (xs : List ℕ) (i : ℕ) → Grow a b (take i xs) → Grow a b xs
grow_part a b xs i f = record {
  size = f.size;
  less = f.less;
  reached = f.reached;
  new = f.new;
  more = f.more;
  each = λ n c. elim (f.each n c) [ inl e ↦ inl e | inr e ↦ inr (part_in xs i n e) ];
}

pub marked_more : (a b : Marks) (xs : List ℕ) (i d : ℕ) → ((n : ℕ) → is_met a n ≡ true → is_met b n ≡ true) → ((n : ℕ) → Contains (take i xs) n → is_met a n ≡ true) → i < length xs → is_met b (get_or xs i d) ≡ true → (n : ℕ) → Contains (take (i + 1) xs) n → is_met b n ≡ true
marked_more a b xs i d k so_far lt one n c = elim (Contains-push_cases (take i xs) (get_or xs i d) n (subst (λ l. Contains l n) (take_more xs i d lt) c)) [
  | inl e ↦ k n (so_far n e)
  | inr s ↦ subst (λ z. is_met b z ≡ true) s one
]

pub marked_all : (m : Marks) (xs : List ℕ) (i : ℕ) → length xs ≤ i → ((n : ℕ) → Contains (take i xs) n → is_met m n ≡ true) → (n : ℕ) → Contains xs n → is_met m n ≡ true
marked_all m xs i le r n c = r n (subst (λ l. Contains l n) (sym (take_all i xs le)) c)

pub nothing_yet : (m : Marks) (xs : List ℕ) (n : ℕ) → Contains (take 0 xs) n → is_met m n ≡ true
nothing_yet m xs n c = absurd (none_in n c)

-- ---- marks that are taken away

unset_cases : (l : List Bool) (x c : ℕ) → slice_index_or (slice_set l x false) c false ≡ true → (slice_index_or l c false ≡ true) × (c ≡ x → ⊥)
unset_cases [] x c e = absurd (true≢false (sym e))
unset_cases (b ∷ bs) zero zero e = absurd (true≢false (sym e))
unset_cases (b ∷ bs) zero (suc c) e = (e, λ s. omega (arith, s))
unset_cases (b ∷ bs) (suc x) zero e = (e, λ s. omega (arith, s))
unset_cases (b ∷ bs) (suc x) (suc c) e = let r = unset_cases bs x c e in (r.0, λ s. r.1 (omega (arith, s)))

pub unset : (l l' : List Bool) (x c : ℕ) → l' ≡ slice_set l x false → slice_index_or l' c false ≡ true → (slice_index_or l c false ≡ true) × (c ≡ x → ⊥)
unset l l' x c e h = unset_cases l x c (sym (ap (λ k. slice_index_or k c false) e) ∙ h)

-- no mark stands at a number past the table
pub unset_past : (l : List Bool) (x c : ℕ) → length l ≤ x → slice_index_or l c false ≡ true → (slice_index_or l c false ≡ true) × (c ≡ x → ⊥)
unset_past l x c le h = (h, λ s. past l c (subst (λ n. length l ≤ n) (sym s) le) h)
  where
    past : (l : List Bool) (c : ℕ) → length l ≤ c → slice_index_or l c false ≡ true → ⊥
    past [] c le h = true≢false (sym h)
    past (b ∷ bs) zero le h = omega (arith, le)
    past (b ∷ bs) (suc c) le h = past bs c (omega (arith, le)) h

pub unmarked_more : (first a b : List Bool) (xs : List ℕ) (i d : ℕ) → ((n : ℕ) → slice_index_or a n false ≡ true → (slice_index_or first n false ≡ true) × (Contains (take i xs) n → ⊥)) → i < length xs
    → ((n : ℕ) → slice_index_or b n false ≡ true → (slice_index_or a n false ≡ true) × (n ≡ get_or xs i d → ⊥)) → (n : ℕ) → slice_index_or b n false ≡ true → (slice_index_or first n false ≡ true) × (Contains (take (i + 1) xs) n → ⊥)
unmarked_more first a b xs i d so_far lt u n h = let e = u n h in let f = so_far n e.0 in
    (f.0, λ c. elim (Contains-push_cases (take i xs) (get_or xs i d) n (subst (λ l. Contains l n) (take_more xs i d lt) c)) [ inl g ↦ f.1 g | inr s ↦ e.1 (sym s) ])

pub unmarked_all : (first a : List Bool) (xs : List ℕ) (i : ℕ) → length xs ≤ i → ((n : ℕ) → slice_index_or a n false ≡ true → (slice_index_or first n false ≡ true) × (Contains (take i xs) n → ⊥)) → (n : ℕ) → slice_index_or a n false ≡ true → (slice_index_or first n false ≡ true) × (Contains xs n → ⊥)
unmarked_all first a xs i le r n h = let f = r n h in (f.0, λ c. f.1 (subst (λ l. Contains l n) (sym (take_all i xs le)) c))

pub unmarked_none : (first : List Bool) (xs : List ℕ) (n : ℕ) → slice_index_or first n false ≡ true → (slice_index_or first n false ≡ true) × (Contains (take 0 xs) n → ⊥)
unmarked_none first xs n h = (h, λ c. none_in n c)

-- ---- a walk

pub walk_begins : (a : Above) (m : Marks) → ((n : ℕ) → is_on m n ≡ true → Contains m.listed.items n) → IsWalking a m 0
walk_begins a m all = record { marked = all; above = λ n u c i. absurd (none_in n c) }

take_left : (xs ys : List ℕ) (i : ℕ) → i ≤ length xs → take i (xs ++ ys) ≡ take i xs
take_left xs ys zero le = refl
take_left [] ys (suc i) le = absurd (omega (arith, le))
take_left (x ∷ xs) ys (suc i) le = ap (λ l. x ∷ l) (take_left xs ys i (omega (arith, le)))

got_or : (xs : List ℕ) (i k : ℕ) → slice_get xs i ≡ Some k → get_or xs i 0 ≡ k
got_or [] i k e = cc
got_or (x ∷ xs) zero k e = cc
got_or (x ∷ xs) (suc i) k e = got_or xs i k e

-- the first numbers of a list, and the next one, of a list with more behind it
next_of : (xs ys : List ℕ) (i k : ℕ) → slice_get xs i ≡ Some k → Extends xs ys → take (i + 1) ys ≡ take i xs ++ k ∷ []
next_of xs ys i k e f =
    let lt : i < length xs = got_short xs i k e in
    ap (take (i + 1)) f.is ∙ take_left xs f.more (i + 1) (omega (arith, lt)) ∙ take_more xs i 0 lt ∙ ap (λ n. take i xs ++ n ∷ []) (got_or xs i k e)

-- marks that are listed stay so as they grow
pub listed_on : (m m' : Marks) (ns : List ℕ) → Grow m m' ns → ((n : ℕ) → is_on m n ≡ true → Contains m.listed.items n) → (n : ℕ) → is_on m' n ≡ true → Contains m'.listed.items n
listed_on m m' ns g all n h = elim (g.new n h) [ inl f ↦ extends_in m.listed.items m'.listed.items n g.more (all n f) | inr c ↦ c ]

pub walk_on : (a : Above) (m m' : Marks) (i k : ℕ) → IsWalking a m i → slice_get m.listed.items i ≡ Some k → Grow m m' (row_at a k) → ((n : ℕ) → Contains (row_at a k) n → is_met m' n ≡ true) → IsWalking a m' (i + 1)
walk_on a m m' i k w e g met = record {
  marked = listed_on m m' (row_at a k) g w.marked;
  above = λ n u c d. elim (Contains-push_cases (take i m.listed.items) k n (subst (λ l. Contains l n) (next_of m.listed.items m'.listed.items i k e g.more) c)) [
    | inl f ↦ g.reached u (w.above n u f d)
    | inr s ↦ met u (subst (λ z. Contains (row_at a z) u) (sym s) d)
  ];
}

climb_step : (a : Above) (x b c : ℕ) → Climbs a x b → Contains (row_at a b) c → Climbs a x c
climb_step a x b c (Climbs.Itself y) i = Climbs.Through y c c i (Climbs.Itself c)
climb_step a x b c (Climbs.Through y next z j more) i = Climbs.Through y next c j (climb_step a next z c more i)

got_in : (xs : List ℕ) (i k : ℕ) → slice_get xs i ≡ Some k → Contains xs k
got_in xs i k e = (i, got_short xs i k e, at xs i e)
  where
    at : (xs : List ℕ) (i : ℕ) → slice_get xs i ≡ Some k → slice_index_or xs i k ≡ k
    at [] i e = cc
    at (x ∷ xs) zero e = cc
    at (x ∷ xs) (suc i) e = at xs i e

pub from_on : (a : Above) (m m' : Marks) (i k x : ℕ) → AllAbove a x m.listed.items → slice_get m.listed.items i ≡ Some k → Grow m m' (row_at a k) → AllAbove a x m'.listed.items
from_on a m m' i k x all e g n c = elim (g.each n c) [
  | inl f ↦ all n f
  | inr f ↦ climb_step a x k n (all k (got_in m.listed.items i k e)) f
]

pub past_end : (xs : List ℕ) (i : ℕ) → slice_get xs i ≡ None → length xs ≤ i
past_end [] i e = omega arith
past_end (x ∷ xs) zero e = cc
past_end (x ∷ xs) (suc i) e = let h = past_end xs i e in omega (arith, h)

-- what stands above a marked number is marked
closed : (a : Above) (m : Marks) (size : ℕ) → IsInside a size → vec_len m.marks ≡ size → length m.marks.items ≡ size → ((n : ℕ) → is_on m n ≡ true → Contains m.listed.items n) → ((n u : ℕ) → Contains m.listed.items n → Contains (row_at a n) u → is_met m u ≡ true)
    → (x n : ℕ) → Climbs a x n → x < size → is_met m x ≡ true → is_met m n ≡ true
closed a m size inside long long' marked above x n (Climbs.Itself y) lt h = h
closed a m size inside long long' marked above x n (Climbs.Through y next z c more) lt h =
    let on : is_on m y ≡ true = on_so m.marks.items y true (omega (arith, lt, long')) h in
    closed a m size inside long long' marked above next z more (inside.below y next lt c) (above y next (marked y on) c)

pub walk_ends : (a : Above) (m : Marks) (size i x : ℕ) → IsInside a size → vec_len m.marks ≡ size → length m.marks.items ≡ vec_len m.marks → x < size → is_met m x ≡ true → IsWalking a m i → slice_get m.listed.items i ≡ None → AllAbove a x m.listed.items → IsWalked a m x
walk_ends a m size i x inside long ok lt h w e all = record {
  from = λ n f. all n (w.marked n f);
  met = λ n c. closed a m size inside long (ok ∙ long) w.marked (λ k u f d. w.above k u (subst (λ l. Contains l k) (sym (take_all i m.listed.items (past_end m.listed.items i e))) f) d) x n c lt h;
}

-- ---- a walk from a type

-- the type alone is marked
pub begun : (m m' : Marks) (x : ℕ) → IsClean m → Grow m m' (x ∷ []) → (n : ℕ) → is_on m' n ≡ true → Contains m'.listed.items n
begun m m' x clean g n h = elim (g.new n h) [ inl e ↦ absurd (clean.unmarked n e) | inr c ↦ c ]

pub begun_from : (a : Above) (m m' : Marks) (x : ℕ) → IsClean m → Grow m m' (x ∷ []) → AllAbove a x m'.listed.items
begun_from a m m' x clean g n c = elim (g.each n c) [
  | inl e ↦ absurd (none_in n (subst (λ l. Contains l n) clean.idle e))
  | inr e ↦ subst (Climbs a x) (only_in x n e) (Climbs.Itself x)
]
