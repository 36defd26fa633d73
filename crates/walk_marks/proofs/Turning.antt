-- Rows of edges that are turned round.
use Rattle.std.proofs.Common.{◌≡◌, ◌↔◌, ◌⊎◌, inl, inr, ℕ, zero, suc, ◌+◌, ◌<◌, ◌≤◌, List, [], ◌∷◌, ◌++◌, length, slice_index, slice_index_or, set, take, Contains, refl, sym, ap, ◌∙◌, subst, arith, length-set, get_or-set_other, get_or-set_same}
use Rattle.std.proofs.lemmas.Bool.{cases_eq, cases_lt}
use Rattle.std.proofs.lemmas.List.{take_more, take_all, get_or_past}
use Rattle.std.proofs.lemmas.List.Elements.{Contains-append_left, Contains-push, Contains-push_cases}
use Rattle.walk_marks.specs.Walks.{AreTurned, row_of}
use Rattle.walk_marks.specs.Steps.{Adds}
use Rattle.walk_marks.proofs.Marking.{in_row, none_in}

abbrev with_edge : List (List ℕ) → ℕ → ℕ → List ℕ
with_edge rows from to = row_of rows from ++ to ∷ []

adds_set : (rows : List (List ℕ)) (from to : ℕ) → from < length rows → Adds (λ n. n ≡ from) to rows (set rows from (row_of rows from ++ to ∷ []))
adds_set rows from to lt = record {
  long = length-set rows from (with_edge rows from to);
  kept = λ m n c. elim (cases_eq m from) [
    | inl e ↦ subst (λ k. Contains (row_of (set rows from (with_edge rows from to)) k) n) (sym e) (subst (λ l. Contains l n) (sym here) (Contains-append_left (row_of rows from) (to ∷ []) n (subst (λ k. Contains (row_of rows k) n) e c)))
    | inr k ↦ subst (λ l. Contains l n) (sym (get_or-set_other rows from m (with_edge rows from to) [] k)) c
  ];
  added = λ m inside e. subst (λ k. Contains (row_of (set rows from (with_edge rows from to)) k) to) (sym e) (subst (λ l. Contains l to) (sym here) (Contains-push (row_of rows from) to));
  only = λ m n c. elim (cases_eq m from) [
    | inl e ↦ elim (Contains-push_cases (row_of rows from) to n (subst (λ l. Contains l n) here (subst (λ k. Contains (row_of (set rows from (with_edge rows from to)) k) n) e c))) [
      | inl o ↦ inl (subst (λ k. Contains (row_of rows k) n) (sym e) o)
      | inr s ↦ inr (e, sym s)
    ]
    | inr k ↦ inl (subst (λ l. Contains l n) (get_or-set_other rows from m (with_edge rows from to) [] k) c)
  ];
}
  where
    here : row_of (set rows from (with_edge rows from to)) from ≡ (with_edge rows from to)
    here = get_or-set_same rows from (with_edge rows from to) [] lt

pub adds_one : (rows rows' : List (List ℕ)) (from to : ℕ) → from < length rows → rows' ≡ set rows from (row_of rows from ++ to ∷ []) → Adds (λ n. n ≡ from) to rows rows'
adds_one rows rows' from to lt e = rw e (adds_set rows from to lt)

pub adds_none : (to : ℕ) (rows : List (List ℕ)) → Adds (Contains []) to rows rows
adds_none to rows = record { long = refl; kept = λ m n c. c; added = λ m lt c. absurd (none_in [] m refl c); only = λ m n c. inl c }

pub adds_more : (row : List ℕ) (to i : ℕ) (a b c : List (List ℕ)) → i < length row → Adds (Contains (take i row)) to a b → Adds (λ n. n ≡ slice_index row i) to b c → Adds (Contains (take (i + 1) row)) to a c
adds_more row to i a b c lt x y = record {
  long = y.long ∙ x.long;
  kept = λ m n h. y.kept m n (x.kept m n h);
  added = λ m inside h. elim (Contains-push_cases (take i row) (slice_index row i) m (subst (λ l. Contains l m) (take_more row i 0 lt) h)) [
    | inl o ↦ y.kept m to (x.added m inside o)
    | inr e ↦ y.added m (omega (arith, inside, x.long)) (sym e)
  ];
  only = λ m n h. elim (y.only m n h) [
    | inl o ↦ elim (x.only m n o) [ inl p ↦ inl p | inr q ↦ inr (subst (λ l. Contains l m) (sym (take_more row i 0 lt)) (Contains-append_left (take i row) (slice_index row i ∷ []) m q.0), q.1) ]
    | inr q ↦ inr (subst (λ l. Contains l m) (sym (take_more row i 0 lt)) (subst (Contains (take i row ++ slice_index row i ∷ [])) (sym q.0) (Contains-push (take i row) (slice_index row i))), q.1)
  ];
}

pub adds_all : (row : List ℕ) (to i : ℕ) (a b : List (List ℕ)) → length row ≤ i → Adds (Contains (take i row)) to a b → Adds (Contains row) to a b
adds_all row to i a b all x = subst (λ l. Adds (Contains l) to a b) (take_all i row all) x

-- the edges from so many nodes, turned round
pub record Turns (rows : List (List ℕ)) (count : ℕ) (back : List (List ℕ)) (i : ℕ) : Type 0 where
  pub long : length back ≡ count
  pub turns : (n m : ℕ) → m < count → Contains (row_of back m) n ↔ ((n < i) × Contains (row_of rows n) m)

pub turns_none : (rows : List (List ℕ)) (count : ℕ) (back : List (List ℕ)) → length back ≡ count → ((n : ℕ) → row_of back n ≡ []) → Turns rows count back 0
turns_none rows count back long empty = record { long = long; turns = λ n m lt. (λ c. absurd (none_in (row_of back m) n (ap length (empty m)) c), λ h. absurd (omega (arith, h.0))) }

pub turns_more : (rows : List (List ℕ)) (count : ℕ) (back back' : List (List ℕ)) (i : ℕ) → Turns rows count back i → Adds (Contains (row_of rows i)) i back back' → Turns rows count back' (i + 1)
turns_more rows count back back' i t a = record {
  long = a.long ∙ t.long;
  turns = λ n m lt. (
    (λ c. elim (a.only m n c) [
      | inl o ↦ (let h = (t.turns n m lt).0 o in (omega (arith, h.0), h.1))
      | inr s ↦ (omega (arith, s.1), subst (λ k. Contains (row_of rows k) m) (sym s.1) s.0)
    ]),
    (λ h. elim (cases_lt n i) [
      | inl less ↦ a.kept m n ((t.turns n m lt).1 (less, h.1))
      | inr past ↦ (let e : i ≡ n = omega (arith, past, h.0) in subst (λ k. Contains (row_of back' m) k) e (a.added m (omega (arith, lt, t.long)) (subst (λ k. Contains (row_of rows k) m) (sym e) h.1)))
    ]),
  );
}

pub turns_all : (rows : List (List ℕ)) (count : ℕ) (back : List (List ℕ)) (i : ℕ) → length rows ≤ i → Turns rows count back i → AreTurned rows count back
turns_all rows count back i all t = λ n m lt. (λ c. ((t.turns n m lt).0 c).1, λ c. (t.turns n m lt).1 (omega (arith, in_row rows n m c, all), c))
