-- Marks that grow until all is marked to which a walk comes.
use Rattle.std.proofs.Common.{◌≡◌, ◌↔◌, ◌⊎◌, inl, inr, ℕ, zero, suc, ◌+◌, ◌<◌, ◌≤◌, Bool, true, false, not, cond, List, [], ◌∷◌, ◌++◌, length, slice_index, slice_index_or, get_or, set, replicate, take, count_by, Contains, refl, sym, ap, ◌∙◌, subst, arith, length-set, length-append, get_or-set_other, get_or-set_same}
use Rattle.std.specs.List.{sum_by}
use Rattle.std.proofs.lemmas.Bool.{false≢true, cases_eq, cases_lt}
use Rattle.std.proofs.lemmas.List.{take_more, take_all, get_or_past, length-replicate}
use Rattle.std.proofs.lemmas.List.Elements.{Contains-append_left, Contains-get_or, Contains-push, Contains-push_cases}
use Rattle.std.proofs.lemmas.List.Sums.{sum_by-set}
use Rattle.walk_marks.specs.Walks.{Comes, Begins, Goes, is_on, row_of}
use Rattle.walk_marks.specs.Steps.{Marks, Follows, Leads, AreOn}

-- ---- marks and lists

abbrev one : Bool → ℕ
one b = cond (not b) 1 0

pub short : (m : List Bool) (n : ℕ) → is_on m n ≡ true → n < length m
short [] n h = absurd (false≢true h)
short (b ∷ m) zero h = omega arith
short (b ∷ m) (suc n) h = omega (arith, short m n h)

none_on : (k n : ℕ) → is_on (replicate k false) n ≡ false
none_on zero n = refl
none_on (suc k) zero = refl
none_on (suc k) (suc n) = none_on k n

pub none_in : (w : List ℕ) (n : ℕ) → length w ≡ 0 → Contains w n → ⊥
none_in w n e c = omega (arith, c.1)

pub in_row : (rows : List (List ℕ)) (n m : ℕ) → Contains (row_of rows n) m → n < length rows
in_row rows n m c = elim (cases_lt n (length rows)) [
  | inl lt ↦ lt
  | inr past ↦ absurd (none_in (row_of rows n) m (ap length (get_or_past rows n [] past)) c)
]

-- ---- one step after another

pub marks_none : (some : ℕ → Type 0) (m : List Bool) (w : List ℕ) → Marks some m w m w
marks_none some m w = record { long = refl; kept = λ n h. h; more = λ n h. inl h; still = λ n c. c; wait = λ n c. inl c; falls = omega arith }

pub marks_on : (some : ℕ → Type 0) (m m' m'' : List Bool) (w w' w'' : List ℕ) → Marks some m w m' w' → Marks some m' w' m'' w'' → Marks some m w m'' w''
marks_on some m m' m'' w w' w'' a b = record {
  long = b.long ∙ a.long;
  kept = λ n h. b.kept n (a.kept n h);
  more = λ n h. elim (b.more n h) [ inr c ↦ inr c | inl x ↦ elim (a.more n x) [ inl y ↦ inl y | inr c ↦ inr (b.still n c.0, c.1) ] ];
  still = λ n c. b.still n (a.still n c);
  wait = λ n c. elim (b.wait n c) [ inr h ↦ inr h | inl x ↦ elim (a.wait n x) [ inl y ↦ inl y | inr h ↦ inr (b.kept n h) ] ];
  falls = omega (arith, a.falls, b.falls);
}

pub marks_more : (some more : ℕ → Type 0) (m m' : List Bool) (w w' : List ℕ) → ((n : ℕ) → some n → more n) → Marks some m w m' w' → Marks more m w m' w'
marks_more some more m m' w w' h a = record {
  long = a.long;
  kept = a.kept;
  more = λ n on. elim (a.more n on) [ inl x ↦ inl x | inr c ↦ inr (c.0, h n c.1) ];
  still = a.still;
  wait = a.wait;
  falls = a.falls;
}

marks_set : (m : List Bool) (w : List ℕ) (x : ℕ) → x < length m → is_on m x ≡ false → Marks (λ n. n ≡ x) m w (set m x true) (w ++ x ∷ [])
marks_set m w x lt off = record {
  long = length-set m x true;
  kept = λ n h. elim (cases_eq n x) [
    | inl e ↦ subst (λ k. is_on (set m x true) k ≡ true) (sym e) (get_or-set_same m x true false lt)
    | inr k ↦ get_or-set_other m x n true false k ∙ h
  ];
  more = λ n h. elim (cases_eq n x) [
    | inl e ↦ inr (subst (Contains (w ++ x ∷ [])) (sym e) (Contains-push w x), e)
    | inr k ↦ inl (sym (get_or-set_other m x n true false k) ∙ h)
  ];
  still = λ n c. Contains-append_left w (x ∷ []) n c;
  wait = λ n c. elim (Contains-push_cases w x n c) [
    | inl c ↦ inl c
    | inr e ↦ inr (subst (λ k. is_on (set m x true) k ≡ true) e (get_or-set_same m x true false lt))
  ];
  falls =
      (let was : one (get_or m x false) ≡ 1 = ap one off in
      let sums : sum_by one (set m x true) + one (get_or m x false) ≡ sum_by one m + one true = sum_by-set one m x true false lt in
      omega (arith, was, sums, length-append w (x ∷ [])));
}

pub marks_one : (m m' : List Bool) (w w' : List ℕ) (x : ℕ) → x < length m → is_on m x ≡ false → m' ≡ set m x true → w' ≡ w ++ x ∷ [] → Marks (λ n. n ≡ x) m w m' w'
marks_one m m' w w' x lt off e f = rw (e, f) (marks_set m w x lt off)

-- ---- a row

pub row_marks : (row : List ℕ) (lets : ℕ → ℕ → Bool) (from i : ℕ) (m m' m'' : List Bool) (w w' w'' : List ℕ) → i < length row → Marks (Leads row lets from) m w m' w'
    → Marks (λ n. (n ≡ slice_index row i) × (lets from (slice_index row i) ≡ true)) m' w' m'' w'' → Marks (Leads row lets from) m w m'' w''
row_marks row lets from i m m' m'' w w' w'' lt a b = marks_on _ m m' m'' w w' w'' a (marks_more _ (Leads row lets from) m' m'' w' w'' leads b)
  where
    leads : (n : ℕ) → (n ≡ slice_index row i) × (lets from (slice_index row i) ≡ true) → Leads row lets from n
    leads n h = (subst (Contains row) (sym h.0) (Contains-get_or row i 0 lt), subst (λ k. lets from k ≡ true) (sym h.0) h.1)

pub row_follows : (row : List ℕ) (lets : ℕ → ℕ → Bool) (from i : ℕ) (m' m'' : List Bool) (w' w'' : List ℕ) → i < length row → Follows (take i row) lets from m'
    → Marks (λ n. (n ≡ slice_index row i) × (lets from (slice_index row i) ≡ true)) m' w' m'' w'' → (slice_index row i < length m' → lets from (slice_index row i) ≡ true → is_on m'' (slice_index row i) ≡ true)
    → Follows (take (i + 1) row) lets from m''
row_follows row lets from i m' m'' w' w'' lt f b on n lead inside =
    let long : n < length m' = omega (arith, inside, b.long) in
    elim (Contains-push_cases (take i row) (slice_index row i) n (subst (λ l. Contains l n) (take_more row i 0 lt) lead.0)) [
      | inl c ↦ b.kept n (f n (c, lead.1) long)
      | inr e ↦ subst (λ k. is_on m'' k ≡ true) e (on (subst (λ k. k < length m') (sym e) long) (subst (λ k. lets from k ≡ true) (sym e) lead.1))
    ]

pub row_followed : (row : List ℕ) (lets : ℕ → ℕ → Bool) (from i : ℕ) (m : List Bool) → length row ≤ i → Follows (take i row) lets from m → Follows row lets from m
row_followed row lets from i m all f = subst (λ l. Follows l lets from m) (take_all i row all) f

pub none_follows : (lets : ℕ → ℕ → Bool) (from : ℕ) (m : List Bool) → Follows [] lets from m
none_follows lets from m n lead lt = absurd (none_in [] n refl lead.0)

-- ---- the seeds

pub seeds_mark : (seeds : List ℕ) (i : ℕ) (m m' m'' : List Bool) (w w' w'' : List ℕ) → i < length seeds → Marks (Contains seeds) m w m' w' → Marks (λ n. n ≡ slice_index seeds i) m' w' m'' w'' → Marks (Contains seeds) m w m'' w''
seeds_mark seeds i m m' m'' w w' w'' lt a b =
    marks_on _ m m' m'' w w' w'' a (marks_more _ (Contains seeds) m' m'' w' w'' (λ n h. subst (Contains seeds) (sym h) (Contains-get_or seeds i 0 lt)) b)

pub seeds_on : (seeds : List ℕ) (i : ℕ) (m' m'' : List Bool) (w' w'' : List ℕ) → i < length seeds → AreOn (take i seeds) m' → Marks (λ n. n ≡ slice_index seeds i) m' w' m'' w''
    → (slice_index seeds i < length m' → is_on m'' (slice_index seeds i) ≡ true) → AreOn (take (i + 1) seeds) m''
seeds_on seeds i m' m'' w' w'' lt f b on n c inside =
    let long : n < length m' = omega (arith, inside, b.long) in
    elim (Contains-push_cases (take i seeds) (slice_index seeds i) n (subst (λ l. Contains l n) (take_more seeds i 0 lt) c)) [
      | inl c ↦ b.kept n (f n c long)
      | inr e ↦ subst (λ k. is_on m'' k ≡ true) e (on (subst (λ k. k < length m') (sym e) long))
    ]

pub seeds_all : (seeds : List ℕ) (i : ℕ) (m : List Bool) → length seeds ≤ i → AreOn (take i seeds) m → AreOn seeds m
seeds_all seeds i m all f = subst (λ l. AreOn l m) (take_all i seeds all) f

pub seeds_none : (m : List Bool) → AreOn [] m
seeds_none m n c lt = absurd (none_in [] n refl c)

-- ---- the whole graph

pub record Spreads (rows : List (List ℕ)) (lets : ℕ → ℕ → Bool) (seeds : List ℕ) (m : List Bool) (w : List ℕ) : Type 0 where
  pub long : length m ≡ length rows
  pub sound : (n : ℕ) → is_on m n ≡ true → Comes rows lets seeds n
  pub waits : (n : ℕ) → Contains w n → is_on m n ≡ true
  pub done : (n : ℕ) → is_on m n ≡ true → Contains w n ⊎ Follows (row_of rows n) lets n m
  pub seeded : AreOn seeds m

pub spreads_first : (rows : List (List ℕ)) (lets : ℕ → ℕ → Bool) (seeds : List ℕ) (k : ℕ) (m : List Bool) (w : List ℕ) → k ≡ length rows → Marks (Contains seeds) (replicate k false) [] m w → AreOn seeds m → Spreads rows lets seeds m w
spreads_first rows lets seeds k m w size a on = record {
  long = a.long ∙ length-replicate k false ∙ size;
  sound = λ n h. Begins n (fresh n h).1;
  waits = λ n c. elim (a.wait n c) [ inl x ↦ absurd (none_in [] n refl x) | inr h ↦ h ];
  done = λ n h. inl (fresh n h).0;
  seeded = on;
}
  where
    fresh : (n : ℕ) → is_on m n ≡ true → Contains w n × Contains seeds n
    fresh n h = elim (a.more n h) [ inl x ↦ absurd (false≢true (sym (none_on k n) ∙ x)) | inr c ↦ c ]

pub spreads_begin : (rows : List (List ℕ)) (lets : ℕ → ℕ → Bool) (seeds : List ℕ) (k : ℕ) (m' m : List Bool) (w' w : List ℕ) → k ≡ length rows → m' ≡ replicate k false → w' ≡ [] → Marks (Contains seeds) m' w' m w → AreOn seeds m → Spreads rows lets seeds m w
spreads_begin rows lets seeds k m' m w' w size e f a on = spreads_first rows lets seeds k m w size (subst (λ (l : List Bool). Marks (Contains seeds) l [] m w) e (subst (λ (l : List ℕ). Marks (Contains seeds) m' l m w) f a)) on

pub spreads_on : (rows : List (List ℕ)) (lets : ℕ → ℕ → Bool) (seeds : List ℕ) (m m' : List Bool) (w v w' : List ℕ) (x : ℕ) → w ≡ v ++ x ∷ [] → Spreads rows lets seeds m w → Marks (Leads (row_of rows x) lets x) m v m' w'
    → Follows (row_of rows x) lets x m' → Spreads rows lets seeds m' w'
spreads_on rows lets seeds m m' w v w' x popped s a f = record {
  long = a.long ∙ s.long;
  sound = λ n h. elim (a.more n h) [ inl o ↦ s.sound n o | inr c ↦ Goes x n (s.sound x top) c.1.0 c.1.1 ];
  waits = λ n c. elim (a.wait n c) [ inl o ↦ a.kept n (s.waits n (below n o)) | inr h ↦ h ];
  done = λ n h. elim (a.more n h) [ inr c ↦ inl c.0 | inl o ↦ old n (s.done n o) ];
  seeded = λ n c lt. a.kept n (s.seeded n c (omega (arith, lt, a.long)));
}
  where
    below : (n : ℕ) → Contains v n → Contains w n
    below n c = subst (λ l. Contains l n) (sym popped) (Contains-append_left v (x ∷ []) n c)

    top : is_on m x ≡ true
    top = s.waits x (subst (λ l. Contains l x) (sym popped) (Contains-push v x))

    old : (n : ℕ) → Contains w n ⊎ Follows (row_of rows n) lets n m → Contains w' n ⊎ Follows (row_of rows n) lets n m'
    old n (inl c) = elim (Contains-push_cases v x n (subst (λ l. Contains l n) popped c)) [ inl o ↦ inl (a.still n o) | inr e ↦ inr (subst (λ k. Follows (row_of rows k) lets k m') e f) ]
    old n (inr g) = inr (λ k lead lt. a.kept k (g k lead (omega (arith, lt, a.long))))

pub top_inside : (rows : List (List ℕ)) (lets : ℕ → ℕ → Bool) (seeds : List ℕ) (m : List Bool) (w v : List ℕ) (x : ℕ) → w ≡ v ++ x ∷ [] → Spreads rows lets seeds m w → x < length rows
top_inside rows lets seeds m w v x popped s = omega (arith, short m x (s.waits x (subst (λ l. Contains l x) (sym popped) (Contains-push v x))), s.long)

module _ (rows : List (List ℕ)) (lets : ℕ → ℕ → Bool) (seeds : List ℕ) (m : List Bool) (w : List ℕ) (empty : length w ≡ 0) (s : Spreads rows lets seeds m w) where
  all_on : (n : ℕ) → Comes rows lets seeds n → n < length rows → is_on m n ≡ true
  all_on n (Begins k c) lt = s.seeded n c (omega (arith, lt, s.long))
  all_on n (Goes j k from c l) lt = elim (s.done j (all_on j from (in_row rows j n c))) [ inl x ↦ absurd (none_in w j empty x) | inr f ↦ f n (c, l) (omega (arith, lt, s.long)) ]

  pub spreads_end : (n : ℕ) → n < length rows → (is_on m n ≡ true) ↔ Comes rows lets seeds n
  spreads_end n lt = (λ h. s.sound n h, λ c. all_on n c lt)
