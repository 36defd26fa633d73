-- Rows of the classes directly below each class.
use Rattle.std.proofs.Common.{◌≡◌, ℕ, zero, suc, ◌+◌, ◌<◌, ◌⊎◌, inl, inr, List, [], ◌∷◌, ◌++◌, length, replicate, Some, refl, sym, ap, subst, ◌∙◌, arith}
use Rattle.std.specs.Prelude.{slice_get, slice_set}
use Rattle.class_defs.specs.Finding.{beside}
use Rattle.hierarchy.specs.Climbing.{In, ups}
use Rattle.hierarchy.specs.Tables.{row_or_empty, row_of, read_at}
use Rattle.hierarchy.specs.Touring.{add_to, add_to_all, IsBelow}
use Rattle.hierarchy.proofs.Above.{in_left, in_right, in_split}
use Rattle.hierarchy.proofs.Marks.{before_or_at}

-- ---- a list that is changed at a place

pub got_set_here : {X : Type 0} (l : List X) (x : ℕ) (v : X) → x < length l → slice_get (slice_set l x v) x ≡ Some v
got_set_here [] x v lt = absurd (omega (arith, lt))
got_set_here (b ∷ bs) zero v lt = refl
got_set_here (b ∷ bs) (suc x) v lt = got_set_here bs x v (omega (arith, lt))

pub got_set_other : {X : Type 0} (l : List X) (x c : ℕ) (v : X) → (c ≡ x → ⊥) → slice_get (slice_set l x v) c ≡ slice_get l c
got_set_other [] x c v h = refl
got_set_other (b ∷ bs) zero zero v h = absurd (h refl)
got_set_other (b ∷ bs) zero (suc c) v h = refl
got_set_other (b ∷ bs) (suc x) zero v h = refl
got_set_other (b ∷ bs) (suc x) (suc c) v h = got_set_other bs x c v (λ e. h (ap suc e))

pub got_set_past : {X : Type 0} (l : List X) (x c : ℕ) (v : X) → (x < length l → ⊥) → slice_get (slice_set l x v) c ≡ slice_get l c
got_set_past [] x c v h = refl
got_set_past (b ∷ bs) zero c v h = absurd (h (omega arith))
got_set_past (b ∷ bs) (suc x) zero v h = refl
got_set_past (b ∷ bs) (suc x) (suc c) v h = got_set_past bs x c v (λ l. h (omega (arith, l)))

pub set_length : {X : Type 0} (l : List X) (x : ℕ) (v : X) → length (slice_set l x v) ≡ length l
set_length [] x v = refl
set_length (b ∷ bs) zero v = refl
set_length (b ∷ bs) (suc x) v = ap suc (set_length bs x v)

pub or_same : (a b : ℕ) → (a ≡ b) ⊎ (a ≡ b → ⊥)
or_same zero zero = inl refl
or_same zero (suc b) = inr (λ e. omega (arith, e))
or_same (suc a) zero = inr (λ e. omega (arith, e))
or_same (suc a) (suc b) = elim (or_same a b) [ inl e ↦ inl (ap suc e) | inr h ↦ inr (λ e. h (omega (arith, e))) ]

pub or_short : (a b : ℕ) → (a < b) ⊎ (a < b → ⊥)
or_short a zero = inr (λ l. omega (arith, l))
or_short zero (suc b) = inl (omega arith)
or_short (suc a) (suc b) = elim (or_short a b) [ inl l ↦ inl (omega (arith, l)) | inr h ↦ inr (λ l. h (omega (arith, l))) ]

-- ---- one number more in one row

pub added_other : (rows : List (List ℕ)) (u x d : ℕ) → (d ≡ u → ⊥) → row_of (add_to rows u x) d ≡ row_of rows d
added_other rows u x d h = ap row_or_empty (got_set_other rows u d (row_of rows u ++ x ∷ []) h)

pub added_same : (rows : List (List ℕ)) (u x : ℕ) → u < length rows → row_of (add_to rows u x) u ≡ row_of rows u ++ x ∷ []
added_same rows u x l = ap row_or_empty (got_set_here rows u (row_of rows u ++ x ∷ []) l)

added_past : (rows : List (List ℕ)) (u x d : ℕ) → (u < length rows → ⊥) → row_of (add_to rows u x) d ≡ row_of rows d
added_past rows u x d h = ap row_or_empty (got_set_past rows u d (row_of rows u ++ x ∷ []) h)

in_added : (rows : List (List ℕ)) (u x d c : ℕ) → In c (row_of (add_to rows u x) d) → In c (row_of rows d) ⊎ ((c ≡ x) × (d ≡ u))
in_added rows u x d c i = elim (or_short u (length rows)) [
  | inr past ↦ inl (subst (In c) (added_past rows u x d past) i)
  | inl short ↦ elim (or_same d u) [
    | inr other ↦ inl (subst (In c) (added_other rows u x d other) i)
    | inl same ↦ elim (in_split c (row_of rows u) (x ∷ []) (subst (In c) (ap (row_of (add_to rows u x)) same ∙ added_same rows u x short) i)) [
      | inl j ↦ inl (subst (λ w. In c (row_of rows w)) (sym same) j)
      | inr j ↦ elim j [ inl e ↦ inr (e, same) | inr n ↦ absurd n ]
    ]
  ]
]

added_in : (rows : List (List ℕ)) (u x d c : ℕ) → In c (row_of rows d) → In c (row_of (add_to rows u x) d)
added_in rows u x d c i = elim (or_short u (length rows)) [
  | inr past ↦ subst (In c) (sym (added_past rows u x d past)) i
  | inl short ↦ elim (or_same d u) [
    | inr other ↦ subst (In c) (sym (added_other rows u x d other)) i
    | inl same ↦ subst (In c) (sym (ap (row_of (add_to rows u x)) same ∙ added_same rows u x short)) (in_left c (row_of rows u) (x ∷ []) (subst (λ w. In c (row_of rows w)) same i))
  ]
]

-- ---- and in several rows

pub all_length : (rows : List (List ℕ)) (us : List ℕ) (x : ℕ) → length (add_to_all rows us x) ≡ length rows
all_length rows [] x = refl
all_length rows (u ∷ us) x = all_length (add_to rows u x) us x ∙ set_length rows u (row_of rows u ++ x ∷ [])

in_all : (rows : List (List ℕ)) (us : List ℕ) (x d c : ℕ) → In c (row_of (add_to_all rows us x) d) → In c (row_of rows d) ⊎ ((c ≡ x) × In d us)
in_all rows [] x d c i = inl i
in_all rows (u ∷ us) x d c i = elim (in_all (add_to rows u x) us x d c i) [
  | inl j ↦ elim (in_added rows u x d c j) [ inl k ↦ inl k | inr e ↦ inr (e.0, inl e.1) ]
  | inr e ↦ inr (e.0, inr e.1)
]

all_in_rows : (rows : List (List ℕ)) (us : List ℕ) (x d c : ℕ) → In c (row_of rows d) → In c (row_of (add_to_all rows us x) d)
all_in_rows rows [] x d c i = i
all_in_rows rows (u ∷ us) x d c i = all_in_rows (add_to rows u x) us x d c (added_in rows u x d c i)

all_here : (rows : List (List ℕ)) (us : List ℕ) (x d : ℕ) → In d us → d < length rows → In x (row_of (add_to_all rows us x) d)
all_here rows [] x d i l = absurd i
all_here rows (u ∷ us) x d (inl e) l = all_in_rows (add_to rows u x) us x d x
    (subst (λ w. In x (row_of (add_to rows u x) w)) (sym e) (subst (In x) (sym (added_same rows u x (omega (arith, l, e)))) (in_right x (row_of rows u) (x ∷ []) (inl refl))))
all_here rows (u ∷ us) x d (inr i) l = all_here (add_to rows u x) us x d i (omega (arith, l, set_length rows u (row_of rows u ++ x ∷ [])))

-- ---- one class more

pub below_none : (supers : List ℕ) (rows below : List (List ℕ)) → below ≡ replicate (length supers) [] → IsBelow supers rows below 0
below_none supers rows below e = record {
  size = ap length e ∙ empty_length (length supers);
  down = λ d c i. absurd (none d c (length supers) (subst (λ b. In c (row_of b d)) e i));
  up = λ d c l s i. absurd (omega (arith, s));
}
  where
    empties : ℕ → List (List ℕ)
    empties n = replicate n []

    empty_length : (n : ℕ) → length (empties n) ≡ n
    empty_length zero = refl
    empty_length (suc n) = ap suc (empty_length n)

    none : (d c n : ℕ) → In c (row_of (replicate n []) d) → ⊥
    none d c zero i = i
    none zero c (suc n) i = i
    none (suc d) c (suc n) i = none d c n i

swapped : (xs ys : List ℕ) (d : ℕ) → In d (xs ++ ys) → In d (ys ++ xs)
swapped xs ys d i = elim (in_split d xs ys i) [ inl j ↦ in_right d ys xs j | inr j ↦ in_left d ys xs j ]

all_all : (rows : List (List ℕ)) (us vs : List ℕ) (x : ℕ) → add_to_all (add_to_all rows us x) vs x ≡ add_to_all rows (us ++ vs) x
all_all rows [] vs x = refl
all_all rows (u ∷ us) vs x = all_all (add_to rows u x) us vs x

noted : (supers : List ℕ) (rows below more : List (List ℕ)) (x : ℕ) → more ≡ add_to_all below (beside (read_at supers x) ++ row_of rows x) x → IsBelow supers rows below x → IsBelow supers rows more (x + 1)
noted supers rows below more x e b = record {
  size = ap length e ∙ all_length below (beside (read_at supers x) ++ row_of rows x) x ∙ b.size;
  down = λ d c i. elim (in_all below (beside (read_at supers x) ++ row_of rows x) x d c (subst (λ w. In c (row_of w d)) e i)) [
    | inl j ↦ let q = b.down d c j in let l = q.1 in (q.0, omega (arith, l))
    | inr j ↦ (let same = j.0 in (subst (λ w. In d (ups supers rows w)) (sym same) (swapped (beside (read_at supers x)) (row_of rows x) d j.1), omega (arith, same)))
  ];
  up = λ d c l s i. subst (λ w. In c (row_of w d)) (sym e) (elim (before_or_at c x s) [
    | inl before ↦ all_in_rows below (beside (read_at supers x) ++ row_of rows x) x d c (b.up d c l before i)
    | inr same ↦ subst (λ w. In w (row_of (add_to_all below (beside (read_at supers x) ++ row_of rows x) x) d)) (sym same)
        (all_here below (beside (read_at supers x) ++ row_of rows x) x d (swapped (row_of rows x) (beside (read_at supers x)) d (subst (λ w. In d (ups supers rows w)) same i)) (let z = b.size in omega (arith, l, z)))
  ]);
}

pub below_more : (supers : List ℕ) (rows below first more : List (List ℕ)) (x : ℕ) → first ≡ add_to_all below (beside (read_at supers x)) x → more ≡ add_to_all first (row_of rows x) x → IsBelow supers rows below x → IsBelow supers rows more (x + 1)
below_more supers rows below first more x f e b = noted supers rows below more x (e ∙ ap (λ w. add_to_all w (row_of rows x) x) f ∙ all_all below (beside (read_at supers x)) (row_of rows x) x) b
