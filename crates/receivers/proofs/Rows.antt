-- Rows of the classes that list each type, class by class.
use Rattle.std.proofs.Common.{◌≡◌, ℕ, zero, suc, ◌+◌, ◌<◌, ◌⊎◌, inl, inr, List, [], ◌∷◌, ◌++◌, length, replicate, Some, refl, sym, ap, subst, ◌∙◌, arith}
use Rattle.std.specs.Prelude.{slice_get, slice_set}
use Rattle.lemmas.proofs.Options.{some_same}
use Rattle.program_model.specs.declared.program.Class.{Class}
use Rattle.hierarchy.specs.Climbing.{In}
use Rattle.hierarchy.specs.Tables.{row_of}
use Rattle.hierarchy.specs.Touring.{add_to, add_to_all}
use Rattle.hierarchy.specs.Tables.{row_or_empty}
use Rattle.receivers.specs.Listing.{kinds_above, AreListed}

-- ---- lists

in_left : (u : ℕ) (xs ys : List ℕ) → In u xs → In u (xs ++ ys)
in_left u [] ys i = absurd i
in_left u (x ∷ xs) ys (inl s) = inl s
in_left u (x ∷ xs) ys (inr i) = inr (in_left u xs ys i)

in_right : (u : ℕ) (xs ys : List ℕ) → In u ys → In u (xs ++ ys)
in_right u [] ys i = i
in_right u (x ∷ xs) ys i = inr (in_right u xs ys i)

in_split : (u : ℕ) (xs ys : List ℕ) → In u (xs ++ ys) → In u xs ⊎ In u ys
in_split u [] ys i = inr i
in_split u (x ∷ xs) ys (inl s) = inl (inl s)
in_split u (x ∷ xs) ys (inr i) = elim (in_split u xs ys i) [ inl j ↦ inl (inr j) | inr j ↦ inr j ]

before_or_at : (i n : ℕ) → i < n + 1 → (i < n) ⊎ (i ≡ n)
before_or_at zero zero lt = inr refl
before_or_at zero (suc n) lt = inl (omega arith)
before_or_at (suc i) zero lt = absurd (omega (arith, lt))
before_or_at (suc i) (suc n) lt = elim (before_or_at i n (omega (arith, lt))) [ inl l ↦ inl (omega (arith, l)) | inr e ↦ inr (ap suc e) ]

-- ---- a list that is changed at a place

got_set_here : {X : Type 0} (l : List X) (x : ℕ) (v : X) → x < length l → slice_get (slice_set l x v) x ≡ Some v
got_set_here [] x v lt = absurd (omega (arith, lt))
got_set_here (b ∷ bs) zero v lt = refl
got_set_here (b ∷ bs) (suc x) v lt = got_set_here bs x v (omega (arith, lt))

got_set_other : {X : Type 0} (l : List X) (x c : ℕ) (v : X) → (c ≡ x → ⊥) → slice_get (slice_set l x v) c ≡ slice_get l c
got_set_other [] x c v h = refl
got_set_other (b ∷ bs) zero zero v h = absurd (h refl)
got_set_other (b ∷ bs) zero (suc c) v h = refl
got_set_other (b ∷ bs) (suc x) zero v h = refl
got_set_other (b ∷ bs) (suc x) (suc c) v h = got_set_other bs x c v (λ e. h (ap suc e))

got_set_past : {X : Type 0} (l : List X) (x c : ℕ) (v : X) → (x < length l → ⊥) → slice_get (slice_set l x v) c ≡ slice_get l c
got_set_past [] x c v h = refl
got_set_past (b ∷ bs) zero c v h = absurd (h (omega arith))
got_set_past (b ∷ bs) (suc x) zero v h = refl
got_set_past (b ∷ bs) (suc x) (suc c) v h = got_set_past bs x c v (λ l. h (omega (arith, l)))

set_length : {X : Type 0} (l : List X) (x : ℕ) (v : X) → length (slice_set l x v) ≡ length l
set_length [] x v = refl
set_length (b ∷ bs) zero v = refl
set_length (b ∷ bs) (suc x) v = ap suc (set_length bs x v)

or_same : (a b : ℕ) → (a ≡ b) ⊎ (a ≡ b → ⊥)
or_same zero zero = inl refl
or_same zero (suc b) = inr (λ e. omega (arith, e))
or_same (suc a) zero = inr (λ e. omega (arith, e))
or_same (suc a) (suc b) = elim (or_same a b) [ inl e ↦ inl (ap suc e) | inr h ↦ inr (λ e. h (omega (arith, e))) ]

or_short : (a b : ℕ) → (a < b) ⊎ (a < b → ⊥)
or_short a zero = inr (λ l. omega (arith, l))
or_short zero (suc b) = inl (omega arith)
or_short (suc a) (suc b) = elim (or_short a b) [ inl l ↦ inl (omega (arith, l)) | inr h ↦ inr (λ l. h (omega (arith, l))) ]

-- ---- one number more in one row

added_other : (rows : List (List ℕ)) (u x d : ℕ) → (d ≡ u → ⊥) → row_of (add_to rows u x) d ≡ row_of rows d
added_other rows u x d h = ap row_or_empty (got_set_other rows u d (row_of rows u ++ x ∷ []) h)

added_same : (rows : List (List ℕ)) (u x : ℕ) → u < length rows → row_of (add_to rows u x) u ≡ row_of rows u ++ x ∷ []
added_same rows u x l = ap row_or_empty (got_set_here rows u (row_of rows u ++ x ∷ []) l)

added_past : (rows : List (List ℕ)) (u x d : ℕ) → (u < length rows → ⊥) → row_of (add_to rows u x) d ≡ row_of rows d
added_past rows u x d h = ap row_or_empty (got_set_past rows u d (row_of rows u ++ x ∷ []) h)

in_added : (rows : List (List ℕ)) (u x d c : ℕ) → In c (row_of (add_to rows u x) d) → In c (row_of rows d) ⊎ ((c ≡ x) × (d ≡ u))
in_added rows u x d c i = elim (or_short u (length rows)) [
  | inr past ↦ inl (subst (In c) (added_past rows u x d past) i)
  | inl short ↦ elim (or_same d u) [
    | inr other ↦ inl (subst (In c) (added_other rows u x d other) i)
    | inl same ↦ elim (in_split c (row_of rows u) (x ∷ []) (subst (In c) (ap (row_of (add_to rows u x)) same ∙ added_same rows u x short) i)) [
      | inl j ↦ inl (subst (λ w. In c (row_of rows w)) (sym same) j)
      | inr j ↦ elim j [ inl e ↦ inr (e, same) | inr n ↦ absurd n ]
    ]
  ]
]

added_in : (rows : List (List ℕ)) (u x d c : ℕ) → In c (row_of rows d) → In c (row_of (add_to rows u x) d)
added_in rows u x d c i = elim (or_short u (length rows)) [
  | inr past ↦ subst (In c) (sym (added_past rows u x d past)) i
  | inl short ↦ elim (or_same d u) [
    | inr other ↦ subst (In c) (sym (added_other rows u x d other)) i
    | inl same ↦ subst (In c) (sym (ap (row_of (add_to rows u x)) same ∙ added_same rows u x short))
        (in_left c (row_of rows u) (x ∷ []) (subst (λ w. In c (row_of rows w)) same i))
  ]
]

-- ---- and in several rows

all_length : (rows : List (List ℕ)) (us : List ℕ) (x : ℕ) → length (add_to_all rows us x) ≡ length rows
all_length rows [] x = refl
all_length rows (u ∷ us) x = all_length (add_to rows u x) us x ∙ set_length rows u (row_of rows u ++ x ∷ [])

in_all : (rows : List (List ℕ)) (us : List ℕ) (x d c : ℕ) → In c (row_of (add_to_all rows us x) d) → In c (row_of rows d) ⊎ ((c ≡ x) × In d us)
in_all rows [] x d c i = inl i
in_all rows (u ∷ us) x d c i = elim (in_all (add_to rows u x) us x d c i) [
  | inl j ↦ elim (in_added rows u x d c j) [ inl k ↦ inl k | inr e ↦ inr (e.0, inl e.1) ]
  | inr e ↦ inr (e.0, inr e.1)
]

all_in_rows : (rows : List (List ℕ)) (us : List ℕ) (x d c : ℕ) → In c (row_of rows d) → In c (row_of (add_to_all rows us x) d)
all_in_rows rows [] x d c i = i
all_in_rows rows (u ∷ us) x d c i = all_in_rows (add_to rows u x) us x d c (added_in rows u x d c i)

all_here : (rows : List (List ℕ)) (us : List ℕ) (x d : ℕ) → In d us → d < length rows → In x (row_of (add_to_all rows us x) d)
all_here rows [] x d i l = absurd i
all_here rows (u ∷ us) x d (inl e) l = all_in_rows (add_to rows u x) us x d x (subst (λ w. In x (row_of (add_to rows u x) w)) (sym e)
    (subst (In x) (sym (added_same rows u x (omega (arith, l, e)))) (in_right x (row_of rows u) (x ∷ []) (inl refl))))
all_here rows (u ∷ us) x d (inr i) l = all_here (add_to rows u x) us x d i (omega (arith, l, set_length rows u (row_of rows u ++ x ∷ [])))

-- ---- classes in front of a place

empty_long : (n : ℕ) → let empties : List (List ℕ) = replicate n [] in length empties ≡ n
empty_long zero = refl
empty_long (suc n) = ap suc (empty_long n)

no_entry : (d c n : ℕ) → In c (row_of (replicate n []) d) → ⊥
no_entry d c zero i = i
no_entry zero c (suc n) i = i
no_entry (suc d) c (suc n) i = no_entry d c n i

-- none at first
pub listed_none : (cs : List Class) (kinds : ℕ) (rows : List (List ℕ)) → rows ≡ replicate kinds [] → AreListed cs kinds rows 0
listed_none cs kinds rows e = record {
  size = ap length e ∙ empty_long kinds;
  only = λ kind place i. absurd (no_entry kind place kinds (subst (λ b. In place (row_of b kind)) e i));
  all = λ kind place l s h. absurd (omega (arith, s));
}

-- and one class more
pub listed_more : (cs : List Class) (kinds : ℕ) (rows more : List (List ℕ)) (x : ℕ) (c : Class) → slice_get cs x ≡ Some c → more ≡ add_to_all rows (kinds_above c) x → AreListed cs kinds rows x → AreListed cs kinds more (x + 1)
listed_more cs kinds rows more x c there e b = record {
  size = ap length e ∙ all_length rows (kinds_above c) x ∙ b.size;
  only = λ kind place i. elim (in_all rows (kinds_above c) x kind place (subst (λ w. In place (row_of w kind)) e i)) [
    | inl j ↦ let q = b.only kind place j in let l = q.1 in (q.0, omega (arith, l))
    | inr j ↦ (let same = j.0 in (record { class = c; there = ap (slice_get cs) same ∙ there; lists = j.1 }, omega (arith, same)))
  ];
  all = λ kind place l s h. subst (λ w. In place (row_of w kind)) (sym e) (elim (before_or_at place x s) [
    | inl before ↦ all_in_rows rows (kinds_above c) x kind place (b.all kind place l before h)
    | inr same ↦ subst (λ w. In w (row_of (add_to_all rows (kinds_above c) x) kind)) (sym same)
        (all_here rows (kinds_above c) x kind (subst (λ (k : Class). In kind (kinds_above k)) (some_same h.class c (sym h.there ∙ (ap (slice_get cs) same ∙ there))) h.lists) (let z = b.size in omega (arith, l, z)))
  ]);
}
