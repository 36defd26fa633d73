-- The order of sets of classes.
use Rattle.std.specs.Prelude.{◌≡◌, ℕ, zero, suc, Bool, true, false, ◌+◌, ◌-◌, ◌<◌, ◌≤◌, ◌==◌, ◌&&◌, ◌||◌, nat_lt, nat_le, if◌then◌else◌, List, [], ◌∷◌, length, Contains, slice_index, insert, take, drop, Option, None, Some, IfSome, fold, cond, ◌⊎◌, IsTrue, ◌↔◌, refl}
use Rattle.std.specs.List.{list_any, list_all, prefix_len}
use Rattle.std.proofs.Common.{sym, ◌∙◌, arith, inl, inr, ap, subst}
use Rattle.std.proofs.lemmas.Grind.{common_steps}
use Rattle.std.proofs.lemmas.List.{take-append-drop, take_all}
use Rattle.std.proofs.lemmas.List.Edits.{length-insert}
use Rattle.std.proofs.lemmas.List.Sums.{fold-append, fold_more}
use Rattle.lattice_core.specs.Laws.{IsUpper, IsWidened}
use Rattle.domains.specs.Datum.{Within}

-- each class is above the one before it, the first at or above `low`
abbrev pub Ascends : ℕ → List ℕ → Type 0
Ascends low [] = Unit {0}
Ascends low (x ∷ xs) = (low ≤ x) × Ascends (suc x) xs

-- at most eight classes, in order
abbrev pub IsKept : Option (List ℕ) → Type 0
IsKept x = IfSome x (λ xs. (length xs ≤ 8) × Ascends 0 xs)

-- what a set of classes holds of: objects of just these classes of the program, or of any class
abbrev pub set_holds : Option (List ℕ) → Option ℕ → Type 0
set_holds None class = Unit {0}
set_holds (Some xs) (Some class) = Contains xs class
set_holds (Some xs) None = ⊥

abbrev pub is_no_set : Option (List ℕ) → Bool
is_no_set None = false
is_no_set (Some xs) = length xs == 0

abbrev pub has : List ℕ → ℕ → Bool
has xs class = list_any (λ x. x == class) xs

abbrev pub set_leq : Option (List ℕ) → Option (List ℕ) → Bool
set_leq x None = true
set_leq None (Some ys) = false
set_leq (Some xs) (Some ys) = list_all (has ys) xs

-- the list with the class in its place, once
abbrev pub inserted : List ℕ → ℕ → List ℕ
inserted [] class = class ∷ []
inserted (x ∷ xs) class = if nat_lt x class then x ∷ inserted xs class else (if x == class then x ∷ xs else class ∷ (x ∷ xs))

-- the classes of both
abbrev pub merged : List ℕ → List ℕ → List ℕ
merged xs ys = fold inserted xs ys

abbrev pub at_most_eight : List ℕ → Option (List ℕ)
at_most_eight xs = if nat_le (length xs) 8 then Some xs else None

-- the classes of both, or any where these are more than eight
abbrev pub set_joined : Option (List ℕ) → Option (List ℕ) → Option (List ℕ)
set_joined None y = None
set_joined (Some xs) None = None
set_joined (Some xs) (Some ys) = at_most_eight (merged xs ys)

-- how far a set may still rise
abbrev pub set_rank : Option (List ℕ) → ℕ
set_rank None = 0
set_rank (Some xs) = 9 - length xs

pub here : (x : ℕ) (xs : List ℕ) (c : ℕ) → x ≡ c → Contains (x ∷ xs) c
here x xs c e = (zero, omega arith, e)

later : (x : ℕ) (xs : List ℕ) (c : ℕ) → Contains xs c → Contains (x ∷ xs) c
later x xs c h = (suc h.0, let lt : h.0 < length xs = h.1 in omega arith, h.2)

where_in : (x : ℕ) (xs : List ℕ) (c : ℕ) → Contains (x ∷ xs) c → (x ≡ c) ⊎ Contains xs c
where_in x xs c (zero, lt, e) = inl e
where_in x xs c (suc k, lt, e) = inr (k, omega arith, e)

nowhere : (c : ℕ) → Contains [] c → ⊥
nowhere c (k, lt, e) = omega arith

pub no_class : (c : Option ℕ) → set_holds (Some []) c → ⊥
no_class None h = h
no_class (Some c) h = nowhere c h

pub has_is : (xs : List ℕ) (c : ℕ) → IsTrue (has xs c) ↔ Contains xs c
has_is [] c = (λ t. absurd (cc), λ h. absurd (nowhere c h))
has_is (x ∷ xs) c = (
  forth (has_is xs c).0 (x == c) refl,
  λ h. elim (where_in x xs c h) [
    | inl e ↦ grind (arith, common_steps)
    | inr h ↦ let t : has xs c ≡ true = (has_is xs c).1 h in grind (arith, common_steps)
  ],
)
  where
    forth : (IsTrue (has xs c) → Contains xs c) → (b : Bool) → (x == c) ≡ b → (b || has xs c) ≡ true → Contains (x ∷ xs) c
    forth more true e t = here x xs c (grind (arith, common_steps))
    forth more false e t = later x xs c (more t)

set_within_lists : (xs ys : List ℕ) → IsTrue (list_all (has ys) xs) ↔ ((c : ℕ) → Contains xs c → Contains ys c)
set_within_lists [] ys = (λ t c h. absurd (nowhere c h), λ f. refl)
set_within_lists (x ∷ xs) ys = (forth (set_within_lists xs ys).0, back (set_within_lists xs ys).1)
  where
    forth : (IsTrue (list_all (has ys) xs) → (c : ℕ) → Contains xs c → Contains ys c) → IsTrue (has ys x && list_all (has ys) xs) → (c : ℕ) → Contains (x ∷ xs) c → Contains ys c
    forth more t c h = elim (where_in x xs c h) [
      | inl e ↦ let t1 : has ys x ≡ true = grind arith in subst (Contains ys) e ((has_is ys x).0 t1)
      | inr h ↦ let t2 : list_all (has ys) xs ≡ true = grind arith in more t2 c h
    ]

    back : (((c : ℕ) → Contains xs c → Contains ys c) → IsTrue (list_all (has ys) xs)) → ((c : ℕ) → Contains (x ∷ xs) c → Contains ys c) → IsTrue (has ys x && list_all (has ys) xs)
    back more f =
        let t1 : has ys x ≡ true = (has_is ys x).1 (f x (here x xs x refl)) in
        let t2 : list_all (has ys) xs ≡ true = more (λ c h. f c (later x xs c h)) in
        grind arith

pub set_within : (x y : Option (List ℕ)) → IsTrue (set_leq x y) ↔ Within set_holds x y
set_within None None = (λ t c h. tt, λ f. refl)
set_within (Some xs) None = (λ t c h. tt, λ f. refl)
set_within None (Some ys) = (λ t. absurd (cc), λ f. absurd (f None tt))
set_within (Some xs) (Some ys) = (forth, λ f. (set_within_lists xs ys).1 (λ c. f (Some c)))
  where
    forth : IsTrue (list_all (has ys) xs) → Within set_holds (Some xs) (Some ys)
    forth t None h = h
    forth t (Some c) h = (set_within_lists xs ys).0 t c h

-- what insertion does: nothing where the class is there, else one class more
pub inserted_has : (xs : List ℕ) (c : ℕ) → Contains (inserted xs c) c
inserted_has [] c = here c [] c refl
inserted_has (x ∷ xs) c = by_order (nat_lt x c) refl (x == c) refl (inserted_has xs c)
  where
    by_order : (p : Bool) → nat_lt x c ≡ p → (q : Bool) → (x == c) ≡ q → Contains (inserted xs c) c → Contains (if p then x ∷ inserted xs c else (if q then x ∷ xs else c ∷ (x ∷ xs))) c
    by_order true e q k h = later x (inserted xs c) c h
    by_order false e true k h = here x xs c (grind (arith, common_steps))
    by_order false e false k h = here c (x ∷ xs) c refl

pub inserted_keeps : (xs : List ℕ) (c d : ℕ) → Contains xs d → Contains (inserted xs c) d
inserted_keeps [] c d h = absurd (nowhere d h)
inserted_keeps (x ∷ xs) c d h = by_order (nat_lt x c) (x == c) (inserted_keeps xs c d)
  where
    by_order : (p q : Bool) → (Contains xs d → Contains (inserted xs c) d) → Contains (if p then x ∷ inserted xs c else (if q then x ∷ xs else c ∷ (x ∷ xs))) d
    by_order true q more = elim (where_in x xs d h) [ inl e ↦ here x (inserted xs c) d e | inr h ↦ later x (inserted xs c) d (more h) ]
    by_order false true more = h
    by_order false false more = later c (x ∷ xs) d h

pub inserted_ascends : (low : ℕ) (xs : List ℕ) (c : ℕ) → low ≤ c → Ascends low xs → Ascends low (inserted xs c)
inserted_ascends low [] c l h = (l, tt)
inserted_ascends low (x ∷ xs) c l h = by_order (nat_lt x c) refl (x == c) refl (λ lt. inserted_ascends (suc x) xs c lt h.1)
  where
    by_order : (p : Bool) → nat_lt x c ≡ p → (q : Bool) → (x == c) ≡ q → (suc x ≤ c → Ascends (suc x) (inserted xs c)) → Ascends low (if p then x ∷ inserted xs c else (if q then x ∷ xs else c ∷ (x ∷ xs)))
    by_order true e q k more = (h.0, more (grind (arith, common_steps)))
    by_order false e true k more = h
    by_order false e false k more = (l, (grind (arith, common_steps), h.1))

pub inserted_length : (xs : List ℕ) (c : ℕ) → (inserted xs c ≡ xs) ⊎ (length (inserted xs c) ≡ suc (length xs))
inserted_length [] c = inr refl
inserted_length (x ∷ xs) c = by_order (nat_lt x c) (x == c) (inserted_length xs c)
  where
    by_order : (p q : Bool) → (inserted xs c ≡ xs) ⊎ (length (inserted xs c) ≡ suc (length xs))
        → ((if p then x ∷ inserted xs c else (if q then x ∷ xs else c ∷ (x ∷ xs))) ≡ x ∷ xs) ⊎ (length (if p then x ∷ inserted xs c else (if q then x ∷ xs else c ∷ (x ∷ xs))) ≡ suc (suc (length xs)))
    by_order true q (inl e) = inl (ap (λ l. x ∷ l) e)
    by_order true q (inr e) = inr (ap suc e)
    by_order false true r = inl refl
    by_order false false r = inr refl

-- how many classes are below this one
abbrev pub place_in : List ℕ → ℕ → ℕ
place_in xs class = prefix_len (λ x. nat_lt x class) xs

-- a class that stands at its place is not put there again
pub inserted_there : (xs : List ℕ) (c : ℕ) → place_in xs c < length xs → slice_index xs (place_in xs c) ≡ c → inserted xs c ≡ xs
inserted_there [] c lt at = absurd (omega arith)
inserted_there (x ∷ xs) c lt at = by_order (nat_lt x c) refl (x == c) refl lt at (inserted_there xs c)
  where
    by_order : (p : Bool) → nat_lt x c ≡ p → (q : Bool) → (x == c) ≡ q → cond p (1 + place_in xs c) 0 < suc (length xs) → slice_index (x ∷ xs) (cond p (1 + place_in xs c) 0) ≡ c
        → (place_in xs c < length xs → slice_index xs (place_in xs c) ≡ c → inserted xs c ≡ xs)
        → (if p then x ∷ inserted xs c else (if q then x ∷ xs else c ∷ (x ∷ xs))) ≡ x ∷ xs
    by_order true e q k lt at more = let n : 1 + place_in xs c ≡ suc (place_in xs c) = omega arith in ap (λ l. x ∷ l) (more (omega arith) (rw n at at))
    by_order false e true k lt at more = refl
    by_order false e false k lt at more = absurd (grind (arith, common_steps))

-- another is put there
pub inserted_new : (xs : List ℕ) (c : ℕ) → (place_in xs c < length xs → slice_index xs (place_in xs c) ≡ c → ⊥) → inserted xs c ≡ insert xs (place_in xs c) c
inserted_new [] c other = refl
inserted_new (x ∷ xs) c other = by_order (nat_lt x c) refl (x == c) refl other (inserted_new xs c)
  where
    by_order : (p : Bool) → nat_lt x c ≡ p → (q : Bool) → (x == c) ≡ q → (cond p (1 + place_in xs c) 0 < suc (length xs) → slice_index (x ∷ xs) (cond p (1 + place_in xs c) 0) ≡ c → ⊥)
        → ((place_in xs c < length xs → slice_index xs (place_in xs c) ≡ c → ⊥) → inserted xs c ≡ insert xs (place_in xs c) c)
        → (if p then x ∷ inserted xs c else (if q then x ∷ xs else c ∷ (x ∷ xs))) ≡ insert (x ∷ xs) (cond p (1 + place_in xs c) 0) c
    by_order true e q k other more =
        let n : 1 + place_in xs c ≡ suc (place_in xs c) = omega arith in
        rw n (ap (λ l. x ∷ l) (more (λ lt at. other (omega arith) (rw n at))))
    by_order false e true k other more = absurd (other (omega arith) (grind (arith, common_steps)))
    by_order false e false k other more = refl

-- the same at a place that was looked up in a slice of the list
pub kept_at : (xs xs' xs'' : List ℕ) (c p : ℕ) → xs' ≡ xs → xs'' ≡ xs → p ≡ place_in xs' c → (p < length xs'') × (slice_index xs'' p ≡ c) → xs ≡ inserted xs c
kept_at xs xs' xs'' c p e e' ep h =
    let i : p ≡ place_in xs c = ep ∙ ap (λ l. place_in l c) e in
    let lt : place_in xs c < length xs = subst (λ n. n < length xs) i (subst (λ l. p < length l) e' h.0) in
    let at : slice_index xs (place_in xs c) ≡ c = subst (λ n. slice_index xs n ≡ c) i (subst (λ l. slice_index l p ≡ c) e' h.1) in
    sym (inserted_there xs c lt at)

pub put_at : (xs xs' xs'' : List ℕ) (c p : ℕ) → xs' ≡ xs → xs'' ≡ xs → p ≡ place_in xs' c → ((p < length xs'') × (slice_index xs'' p ≡ c) → IsTrue false) → insert xs p c ≡ inserted xs c
put_at xs xs' xs'' c p e e' ep h =
    let i : p ≡ place_in xs c = ep ∙ ap (λ l. place_in l c) e in
    let other : place_in xs c < length xs → slice_index xs (place_in xs c) ≡ c → ⊥ = λ lt at.
    let t : false ≡ true = h (subst (λ l. p < length l) (sym e') (subst (λ n. n < length xs) (sym i) lt), subst (λ l. slice_index l p ≡ c) (sym e') (subst (λ n. slice_index xs n ≡ c) (sym i) at)) in absurd (cc) in
    ap (λ n. insert xs n c) i ∙ sym (inserted_new xs c other)

pub overfull_at : (xs : List ℕ) (c p : ℕ) → insert xs p c ≡ inserted xs c → p ≤ length xs → length xs ≡ 8 → 8 < length (inserted xs c)
overfull_at xs c p e le full = let l : length (insert xs p c) ≡ length xs + 1 = length-insert xs p c le in omega (arith, ap length e)

-- the same of a whole list
pub merged_keeps : (xs ys : List ℕ) (d : ℕ) → Contains xs d ⊎ Contains ys d → Contains (merged xs ys) d
merged_keeps xs [] d h = elim h [ inl h ↦ h | inr h ↦ absurd (nowhere d h) ]
merged_keeps xs (y ∷ ys) d h = merged_keeps (inserted xs y) ys d (elim h [
  | inl h ↦ inl (inserted_keeps xs y d h)
  | inr h ↦ elim (where_in y ys d h) [ inl e ↦ inl (subst (Contains (inserted xs y)) e (inserted_has xs y)) | inr h ↦ inr h ]
])

pub merged_ascends : (xs ys : List ℕ) → Ascends 0 xs → Ascends 0 (merged xs ys)
merged_ascends xs [] h = h
merged_ascends xs (y ∷ ys) h = merged_ascends (inserted xs y) ys (inserted_ascends 0 xs y (omega arith) h)

pub merged_length : (xs ys : List ℕ) → (merged xs ys ≡ xs) ⊎ (length xs < length (merged xs ys))
merged_length xs [] = inl refl
merged_length xs (y ∷ ys) = elim (inserted_length xs y) [
  | inl e ↦ subst (λ l. (merged l ys ≡ xs) ⊎ (length xs < length (merged l ys))) (sym e) (merged_length xs ys)
  | inr e ↦ elim (merged_length (inserted xs y) ys) [ inl k ↦ inr (rw k (omega arith)) | inr k ↦ inr (omega arith) ]
]

-- more classes are no fewer
pub merged_grows : (xs ys : List ℕ) (n : ℕ) → length (merged xs (take n ys)) ≤ length (merged xs ys)
merged_grows xs ys n =
    let e : merged xs ys ≡ merged (merged xs (take n ys)) (drop n ys) = ap (merged xs) (sym (take-append-drop n ys)) ∙ fold-append inserted xs (take n ys) (drop n ys) in
    rw e (elim (merged_length (merged xs (take n ys)) (drop n ys)) [ inl k ↦ rw k (omega arith) | inr k ↦ omega arith ])

-- one more class for which there is no room
pub merged_overflows : (xs ys zs : List ℕ) (i : ℕ) → i < length ys → zs ≡ merged xs (take i ys) → 8 < length (inserted zs (slice_index ys i)) → 8 < length (merged xs ys)
merged_overflows xs ys zs i lt is full =
    let h : 8 < length (inserted (merged xs (take i ys)) (slice_index ys i)) = subst (λ l. 8 < length (inserted l (slice_index ys i))) is full in
    let e : merged xs (take (i + 1) ys) ≡ inserted (merged xs (take i ys)) (slice_index ys i) = fold_more inserted xs ys i 0 lt in
    let l : length (merged xs (take (i + 1) ys)) ≤ length (merged xs ys) = merged_grows xs ys (i + 1) in
    omega (arith, ap length e)

pub too_many : (xs : List ℕ) → 8 < length xs → None ≡ at_most_eight xs
too_many xs h = let e : nat_le (length xs) 8 ≡ false = grind (arith, common_steps) in rw e refl

pub not_too_many : (xs : List ℕ) → length xs ≤ 8 → Some xs ≡ at_most_eight xs
not_too_many xs h = let e : nat_le (length xs) 8 ≡ true = grind (arith, common_steps) in rw e refl

pub whole_merged : (xs ys zs : List ℕ) (i : ℕ) → length ys ≤ i → zs ≡ merged xs (take i ys) → length zs ≤ 8 → Some zs ≡ at_most_eight (merged xs ys)
whole_merged xs ys zs i le is room =
    let e : zs ≡ merged xs ys = is ∙ ap (merged xs) (take_all i ys le) in
    ap Some e ∙ not_too_many (merged xs ys) (subst (λ l. length l ≤ 8) e room)

pub joined_lists : (x y r : Option (List ℕ)) (xs ys : List ℕ) → Some xs ≡ x → Some ys ≡ y → r ≡ at_most_eight (merged xs ys) → r ≡ set_joined x y
joined_lists x y r xs ys ex ey er = er ∙ ap (λ a. set_joined a (Some ys)) ex ∙ ap (set_joined x) ey

-- of what holds of an object the join holds too, and of nothing more than both where neither does
pub objects_either : {P : Type 0} (xs ys : Option (List ℕ)) → ((c : Option ℕ) → set_holds xs c → P) → ((c : Option ℕ) → set_holds ys c → P) → (c : Option ℕ) → set_holds (set_joined xs ys) c → P
objects_either None ys f g c h = f None tt
objects_either (Some xs) None f g c h = g None tt
objects_either (Some []) (Some []) f g c h = absurd (no_class c h)
objects_either (Some []) (Some (y ∷ ys)) f g c h = g (Some y) (here y ys y refl)
objects_either (Some (x ∷ xs)) (Some ys) f g c h = f (Some x) (here x xs x refl)

-- a set that isn't the one of no class holds of an object
pub some_object : {P : Type 0} (xs : Option (List ℕ)) → is_no_set xs ≡ false → ((c : Option ℕ) → set_holds xs c → P) → P
some_object None e f = f None tt
some_object (Some []) e f = absurd (cc)
some_object (Some (x ∷ xs)) e f = f (Some x) (here x xs x refl)

pub no_object : (xs : Option (List ℕ)) (c : Option ℕ) → is_no_set xs ≡ true → set_holds xs c → ⊥
no_object None c e h = cc
no_object (Some []) c e h = no_class c h
no_object (Some (x ∷ xs)) c e h = let z : suc (length xs) ≡ 0 = grind (arith, common_steps) in omega arith

pub set_upper : (x y : Option (List ℕ)) → IsUpper (Within set_holds) x y (set_joined x y)
set_upper None y = record { first = λ c h. h; second = λ c h. tt }
set_upper (Some xs) None = record { first = λ c h. tt; second = λ c h. h }
set_upper (Some xs) (Some ys) = by_room (nat_le (length (merged xs ys)) 8)
  where
    more : (zs : List ℕ) → ((d : ℕ) → Contains zs d → Contains (merged xs ys) d) → Within set_holds (Some zs) (Some (merged xs ys))
    more zs f None h = h
    more zs f (Some c) h = f c h

    by_room : (b : Bool) → IsUpper (Within set_holds) (Some xs) (Some ys) (if b then Some (merged xs ys) else None)
    by_room true = record { first = more xs (λ d h. merged_keeps xs ys d (inl h)); second = more ys (λ d h. merged_keeps xs ys d (inr h)) }
    by_room false = record { first = λ c h. tt; second = λ c h. tt }

pub set_widens : (x y : Option (List ℕ)) → IsKept x → IsWidened (Within set_holds) set_rank false (set_joined x y) x (set_joined x y)
set_widens x y k = record { no_rise = (rank x y k).0; falls = (rank x y k).1; tight = λ e. absurd (cc) }
  where
    rank_lists : (xs ys : List ℕ) → length xs ≤ 8 → (b : Bool) → nat_le (length (merged xs ys)) 8 ≡ b
        → (set_rank (if b then Some (merged xs ys) else None) ≤ 9 - length xs)
        × (Within set_holds (if b then Some (merged xs ys) else None) (Some xs) ⊎ set_rank (if b then Some (merged xs ys) else None) < 9 - length xs)
    rank_lists xs ys l false e = (omega arith, inr (omega arith))
    rank_lists xs ys l true e = elim (merged_length xs ys) [
      | inl m ↦ (rw m (omega arith), inl (subst (λ l. Within set_holds (Some l) (Some xs)) (sym m) (λ c h. h)))
      | inr m ↦ let fits : length (merged xs ys) ≤ 8 = grind (arith, common_steps) in (omega arith, inr (omega arith))
    ]

    rank : (x y : Option (List ℕ)) → IsKept x → (set_rank (set_joined x y) ≤ set_rank x) × (Within set_holds (set_joined x y) x ⊎ set_rank (set_joined x y) < set_rank x)
    rank None y k = (omega arith, inl (λ c h. h))
    rank (Some xs) None k = let l : length xs ≤ 8 = k.0 in (omega arith, inr (omega arith))
    rank (Some xs) (Some ys) k = rank_lists xs ys k.0 (nat_le (length (merged xs ys)) 8) refl

pub set_joined_kept : (x y : Option (List ℕ)) → IsKept x → IsKept (set_joined x y)
set_joined_kept None y k = tt
set_joined_kept (Some xs) None k = tt
set_joined_kept (Some xs) (Some ys) k = by_room (nat_le (length (merged xs ys)) 8) refl
  where
    by_room : (b : Bool) → nat_le (length (merged xs ys)) 8 ≡ b → IsKept (if b then Some (merged xs ys) else None)
    by_room true e = (grind (arith, common_steps), merged_ascends xs ys k.1)
    by_room false e = tt

above_low : (low : ℕ) (xs : List ℕ) (c : ℕ) → Ascends low xs → Contains xs c → low ≤ c
above_low low [] c a h = absurd (nowhere c h)
above_low low (x ∷ xs) c a h = elim (where_in x xs c h) [
  | inl e ↦ let l : low ≤ x = a.0 in omega arith
  | inr h ↦ let l : low ≤ x = a.0 in let m : suc x ≤ c = above_low (suc x) xs c a.1 h in omega arith
]

-- two sets that hold of the same are the same
pub same_lists : (low : ℕ) (xs ys : List ℕ) → Ascends low xs → Ascends low ys → ((c : ℕ) → Contains xs c → Contains ys c) → ((c : ℕ) → Contains ys c → Contains xs c) → xs ≡ ys
same_lists low [] [] a b f g = refl
same_lists low [] (y ∷ ys) a b f g = absurd (nowhere y (g y (here y ys y refl)))
same_lists low (x ∷ xs) [] a b f g = absurd (nowhere x (f x (here x xs x refl)))
same_lists low (x ∷ xs) (y ∷ ys) a b f g =
    let up : y ≤ x = above_low y (y ∷ ys) x (omega arith, b.1) (f x (here x xs x refl)) in
    let down : x ≤ y = above_low x (x ∷ xs) y (omega arith, a.1) (g y (here y ys y refl)) in
    let e : x ≡ y = omega arith in
    let tails : xs ≡ ys = same_lists (suc x) xs ys a.1 (subst (λ n. Ascends (suc n) ys) (sym e) b.1)
    (λ c h. let over : suc x ≤ c = above_low (suc x) xs c a.1 h in elim (where_in y ys c (f c (later x xs c h))) [ inl k ↦ absurd (omega arith) | inr k ↦ k ])
    (λ c h. let over : suc y ≤ c = above_low (suc y) ys c b.1 h in elim (where_in x xs c (g c (later y ys c h))) [ inl k ↦ absurd (omega arith) | inr k ↦ k ]) in
    cc
