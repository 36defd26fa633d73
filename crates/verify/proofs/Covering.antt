-- The regions that cover the positions.
use Rattle.std.proofs.Common.{◌≡◌, ℕ, zero, suc, ◌+◌, ◌<◌, ◌≤◌, Bool, true, false, ◌&&◌, nat_le, nat_lt, min, List, [], ◌∷◌, ◌++◌, set, take, drop, get_or, replicate, length, Option, Some, None, refl, sym, ap, ◌∙◌, subst, ◌⊎◌, inl, inr, arith, get_or-set_other, get_or-set_same}
use Rattle.std.specs.Prelude.{if◌then◌else◌}
use Rattle.std.proofs.Math.ListN.{length-set}
use Rattle.std.proofs.lemmas.Bool.{cases_eq, cases_lt, le-leb, lt-leb, lt-ltb, le-ltb}
use Rattle.std.proofs.lemmas.List.{length-replicate, length-take-le, take_more, take_all, take_at}
use Rattle.program_model.specs.declared.body.Body.{Body}
use Rattle.program_model.specs.declared.body.Region.{Region}
use Rattle.verify.specs.Flow.{greatest, region_of}
use Rattle.verify.specs.Typings.{covers, first_covering, covered, Covers, IsCovering}

-- the positions below this one are noted
abbrev pub covers_to : ℕ → ℕ → Region → Bool
covers_to to n r = nat_le r.first n && nat_lt n to

pub record CoversTo (old new : List (Option ℕ)) (r : Region) (k to : ℕ) : Type 0 where
  pub long : length new ≡ length old
  pub each : (n : ℕ) → n < length old → region_of new n ≡ covered k (region_of old n) (covers_to to n r)

covered_not : (k : ℕ) (o : Option ℕ) → covered k o false ≡ o
covered_not k None = refl
covered_not k (Some r) = refl

and_false : (a : Bool) → (a && false) ≡ false
and_false true = refl
and_false false = refl

to_false : (to n : ℕ) (r : Region) → to ≤ n → covers_to to n r ≡ false
to_false to n r h = ap (λ c. nat_le r.first n && c) (le-ltb n to h) ∙ and_false (nat_le r.first n)

to_before : (to n : ℕ) (r : Region) → n < r.first → covers_to to n r ≡ false
to_before to n r h = ap (λ c. c && nat_lt n to) (lt-leb r.first n h)

to_true : (to n : ℕ) (r : Region) → r.first ≤ n → n < to → covers_to to n r ≡ true
to_true to n r h l = ap (λ c. c && nat_lt n to) (le-leb r.first n h) ∙ lt-ltb n to l

-- nothing is noted before the first
pub covers_none : (old : List (Option ℕ)) (r : Region) (k : ℕ) → CoversTo old old r k r.first
covers_none old r k = record {
  long = refl;
  each = λ n lt. elim (cases_lt n r.first) [
    | inl b ↦ sym (ap (covered k (region_of old n)) (to_before r.first n r b) ∙ covered_not k (region_of old n))
    | inr b ↦ sym (ap (covered k (region_of old n)) (to_false r.first n r b) ∙ covered_not k (region_of old n))
  ];
}

same_cover : (to n : ℕ) (r : Region) → (n ≡ to → ⊥) → covers_to (to + 1) n r ≡ covers_to to n r
same_cover to n r ne = elim (cases_lt n to) [
  | inl b ↦ ap (λ c. nat_le r.first n && c) (lt-ltb n (to + 1) (omega arith) ∙ sym (lt-ltb n to b))
  | inr b ↦ ap (λ c. nat_le r.first n && c) (le-ltb n (to + 1) (omega (arith, ne, b)) ∙ sym (le-ltb n to b))
]

here : (k to : ℕ) (r : Region) (o new : Option ℕ) → r.first ≤ to → (o ≡ None → new ≡ Some k) → ((x : ℕ) → o ≡ Some x → new ≡ o) → new ≡ covered k o (covers_to (to + 1) to r)
here k to r None new le n s = n refl ∙ sym (ap (covered k None) (to_true (to + 1) to r le (omega arith)))
here k to r (Some x) new le n s = s x refl

-- one more position is noted
pub covers_set : (old new : List (Option ℕ)) (r : Region) (k to : ℕ) → r.first ≤ to → to < length old → CoversTo old new r k to → region_of new to ≡ None → CoversTo old (set new to (Some k)) r k (to + 1)
covers_set old new r k to le lt c e = record {
  long = length-set new to (Some k) ∙ c.long;
  each = λ n l. elim (cases_eq n to) [
    | inl q ↦ subst (λ i. region_of (set new to (Some k)) i ≡ covered k (region_of old i) (covers_to (to + 1) i r)) (sym q)
        (here k to r (region_of old to) (region_of (set new to (Some k)) to) le (λ f. get_or-set_same new to (Some k) None (subst (λ i. to < i) (sym c.long) lt)) (λ x f. let g : None ≡ Some x = sym e ∙ was ∙ f in absurd (cc)))
    | inr q ↦ get_or-set_other new to n (Some k) None q ∙ c.each n l ∙ ap (covered k (region_of old n)) (sym (same_cover to n r q))
  ];
}
  where
    was : region_of new to ≡ region_of old to
    was = c.each to lt ∙ ap (covered k (region_of old to)) (to_false to to r (omega arith)) ∙ covered_not k (region_of old to)

pub covers_kept : (old new : List (Option ℕ)) (r : Region) (k to x : ℕ) → r.first ≤ to → to < length old → CoversTo old new r k to → region_of new to ≡ Some x → CoversTo old new r k (to + 1)
covers_kept old new r k to x le lt c e = record {
  long = c.long;
  each = λ n l. elim (cases_eq n to) [
    | inl q ↦ subst (λ i. region_of new i ≡ covered k (region_of old i) (covers_to (to + 1) i r)) (sym q)
        (here k to r (region_of old to) (region_of new to) le (λ f. let g : None ≡ Some x = sym f ∙ sym was ∙ e in absurd (cc)) (λ y f. was))
    | inr q ↦ c.each n l ∙ ap (covered k (region_of old n)) (sym (same_cover to n r q))
  ];
}
  where
    was : region_of new to ≡ region_of old to
    was = c.each to lt ∙ ap (covered k (region_of old to)) (to_false to to r (omega arith)) ∙ covered_not k (region_of old to)

-- past the last position nothing is left to note
pub covers_past : (old new : List (Option ℕ)) (r : Region) (k to : ℕ) → length old ≤ to → to ≤ r.end → CoversTo old new r k to → Covers old new r k
covers_past old new r k to le h c = record {
  long = c.long;
  each = λ n lt. c.each n lt ∙ ap (λ x. covered k (region_of old n) (nat_le r.first n && x)) (lt-ltb n to (omega (arith, lt, le)) ∙ sym (lt-ltb n r.end (omega (arith, lt, le, h))));
}

-- no position is below the end
pub covers_end : (old new : List (Option ℕ)) (r : Region) (k to : ℕ) → r.end ≤ to → (to ≡ r.first) ⊎ (to ≤ r.end) → CoversTo old new r k to → Covers old new r k
covers_end old new r k to le h c = record {
  long = c.long;
  each = λ n lt. c.each n lt ∙ ap (covered k (region_of old n)) (same n);
}
  where
    same : (n : ℕ) → covers_to to n r ≡ covers n r
    same n = elim h [
      | inr b ↦ let e : to ≡ r.end = omega (arith, le, b) in ap (λ x. nat_le r.first n && nat_lt n x) e
      | inl b ↦ elim (cases_lt n r.first) [
        | inl l ↦ to_before to n r l ∙ sym (ap (λ x. x && nat_lt n r.end) (lt-leb r.first n l))
        | inr l ↦ to_false to n r (omega (arith, b, l)) ∙ sym (ap (λ x. nat_le r.first n && x) (le-ltb n r.end (omega (arith, b, l, le))) ∙ and_false (nat_le r.first n))
      ]
    ]

-- ---- all regions

-- the first of these regions that covers each position
pub record Covered (m : ℕ) (rs : List Region) (cs : List (Option ℕ)) : Type 0 where
  pub long : length cs ≡ m
  pub each : (n : ℕ) → n < m → region_of cs n ≡ first_covering n 0 rs

plus_none : (k : ℕ) → k ≡ k + 0
plus_none k = omega arith

sum_one : (k m : ℕ) → k + 1 + m ≡ k + suc m
sum_one k m = omega arith

push_if : (n k : ℕ) (rs : List Region) (r : Region) (c : Bool) → first_covering n (k + 1) (rs ++ r ∷ []) ≡ covered (k + 1 + length rs) (first_covering n (k + 1) rs) (covers n r)
    → (if c then Some k else first_covering n (k + 1) (rs ++ r ∷ [])) ≡ covered (k + suc (length rs)) (if c then Some k else first_covering n (k + 1) rs) (covers n r)
push_if n k rs r true h = refl
push_if n k rs r false h = h ∙ ap (λ x. covered x (first_covering n (k + 1) rs) (covers n r)) (sum_one k (length rs))

covers_push : (n k : ℕ) (rs : List Region) (r : Region) → first_covering n k (rs ++ r ∷ []) ≡ covered (k + length rs) (first_covering n k rs) (covers n r)
covers_push n k [] r = ap (λ x. covered x None (covers n r)) (plus_none k)
covers_push n k (q ∷ rs) r = push_if n k rs r (covers n q) (covers_push n (k + 1) rs r)

none_at : (n k : ℕ) → region_of (replicate n None) k ≡ None
none_at zero k = refl
none_at (suc n) zero = refl
none_at (suc n) (suc k) = none_at n k

pub covered_none : (m : ℕ) (cs : List (Option ℕ)) → cs ≡ replicate m None → Covered m [] cs
covered_none m cs e = record {
  long = ap length e ∙ length-replicate m None;
  each = λ n lt. ap (λ x. region_of x n) e ∙ none_at m n;
}

pub covered_on : (m : ℕ) (rs : List Region) (r : Region) (i p : ℕ) (cs cs' : List (Option ℕ)) → i < length rs → r ≡ get_or rs i r → p ≡ i → Covered m (take i rs) cs → Covers cs cs' r p → Covered m (take (i + 1) rs) cs'
covered_on m rs r i p cs cs' lt e q c h = record {
  long = h.long ∙ c.long;
  each = λ n l. h.each n (subst (λ x. n < x) (sym c.long) l) ∙ ap (λ x. covered p x (covers n r)) (c.each n l) ∙ ap (λ x. covered x (first_covering n 0 (take i rs)) (covers n r)) long ∙ sym (covers_push n 0 (take i rs) r) ∙ ap (first_covering n 0) (sym pushed);
}
  where
    pushed : take (i + 1) rs ≡ take i rs ++ r ∷ []
    pushed = subst (λ x. take (i + 1) rs ≡ take i rs ++ x ∷ []) (sym e) (take_more rs i r lt)

    taken : length (take i rs) ≡ i
    taken = length-take-le i rs (omega (arith, lt))

    long : p ≡ 0 + length (take i rs)
    long = let t = taken in omega (arith, t, q)

-- the list behind its slice
pub covered_behind : (m : ℕ) (rs : List Region) (r : Region) (i p len : ℕ) (cs now new : List (Option ℕ)) → i < length rs → length rs ≤ greatest → r ≡ get_or rs i r → p ≡ min i greatest → now ≡ cs → len ≡ length cs → Covered m (take i rs) cs → Covers now new r p
    → Covered m (take (i + 1) rs) (take len (new ++ drop (length new) cs))
covered_behind m rs r i p len cs now new lt le e q same long c h =
    let h' : Covers cs new r p = subst (λ x. Covers x new r p) same h in
    let n : length new ≡ len = h'.long ∙ sym long in
    let p' : p ≡ i = omega (arith, q, lt, le) in
    subst (Covered m (take (i + 1) rs)) (sym (take_at new (drop (length new) cs) len n)) (covered_on m rs r i p cs new lt e p' c h')

pub covering_end : (b : Body) (i : ℕ) (cs : List (Option ℕ)) → length b.regions ≤ i → Covered (length b.insns) (take i b.regions) cs → IsCovering b cs
covering_end b i cs le c n lt = subst (λ rs. region_of cs n ≡ first_covering n 0 rs) (take_all i b.regions le) (c.each n lt)

pub covering_nothing : (b : Body) (cs : List (Option ℕ)) → length b.regions ≡ 0 → cs ≡ [] → IsCovering b cs
covering_nothing b cs e q n lt = ap (λ x. region_of x n) q ∙ sym (ap (first_covering n 0) (none b.regions e))
  where
    none : (rs : List Region) → length rs ≡ 0 → rs ≡ []
    none [] e = refl
    none (r ∷ rs) e = absurd (omega (arith, e))
