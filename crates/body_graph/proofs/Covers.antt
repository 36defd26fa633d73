-- Which region covers a position.
use Rattle.std.proofs.Common.{◌≡◌, ◌⊎◌, inl, inr, ℕ, zero, suc, ◌+◌, ◌-◌, ◌<◌, ◌≤◌, Bool, true, false, ◌&&◌, if◌then◌else◌, List, [], ◌∷◌, length, slice_index, get_or, drop, refl, sym, ap, ◌∙◌, subst, arith, nat_le, nat_lt, min, replicate, lt-ltb, le-ltb}
use Rattle.std.proofs.lemmas.Bool.{cases_lt, and_left, lt-leb}
use Rattle.std.proofs.lemmas.List.{drop_more, drop_all, get_or-replicate, length-replicate}
use Rattle.program_model.specs.declared.body.Region.{Region}
use Rattle.flow_cfg.specs.Walks.{covers}
use Rattle.body_graph.specs.Graph.{covering}

-- the regions from a place on are looked at
pub record CoversFrom (regions : List Region) (count place : ℕ) (places : List ℕ) : Type 0 where
  pub long : length places ≡ count
  pub each : (n : ℕ) → n < count → slice_index places n ≡ place + covering (drop place regions) n

one_less : (b : Bool) (p k m : ℕ) → p ≡ (p + 1) + m → ⊥
one_less b p k m e = omega arith

covering_next : (regions : List Region) (place n : ℕ) (d : Region) → place < length regions → covering (drop place regions) n ≡ (if covers n (get_or regions place d) then 0 else suc (covering (drop (place + 1) regions) n))
covering_next regions place n d lt = ap (λ rs. covering rs n) (drop_more regions place d lt)

pick : (b : Bool) (place old m : ℕ) → old ≡ (place + 1) + m → (if b then place else old) ≡ place + (if b then 0 else suc m)
pick true place old m e = omega arith
pick false place old m e = omega arith

pub covers_more : (regions : List Region) (count place : ℕ) (old new : List ℕ) (r : Region) → place < length regions → r ≡ get_or regions place r → CoversFrom regions count (place + 1) old → length new ≡ length old
    → ((n : ℕ) → n < length old → slice_index new n ≡ (if covers n r then place else slice_index old n)) → CoversFrom regions count place new
covers_more regions count place old new r lt is c long given = record {
  long = long ∙ c.long;
  each = λ n inside.
      given n (omega (arith, inside, c.long))
      ∙ pick (covers n r) place (slice_index old n) (covering (drop (place + 1) regions) n) (c.each n inside)
      ∙ ap (λ (k : ℕ). place + k) (ap (λ (s : Region). if covers n s then 0 else suc (covering (drop (place + 1) regions) n)) is ∙ sym (covering_next regions place n r lt));
}

pub covers_first : (regions : List Region) (count k : ℕ) (places : List ℕ) → k ≡ length regions → places ≡ replicate count k → CoversFrom regions count k places
covers_first regions count k places e f = record {
  long = ap length f ∙ length-replicate count k;
  each = λ n lt.
      (let here : slice_index places n ≡ k = ap (λ (l : List ℕ). slice_index l n) f ∙ get_or-replicate count n k 0 lt in
      let rest : covering (drop k regions) n ≡ 0 = ap (λ (l : List Region). covering l n) (drop_all k regions (omega (arith, e))) in
      omega (arith, here, rest));
}

pub covers_back : (regions : List Region) (count p : ℕ) (old new : List ℕ) (r : Region) → 0 < p → p ≤ length regions → r ≡ get_or regions (p - 1) r → CoversFrom regions count p old → length new ≡ length old
    → ((n : ℕ) → n < length old → slice_index new n ≡ (if covers n r then p - 1 else slice_index old n)) → CoversFrom regions count (p - 1) new
covers_back regions count p old new r lt le is c long given =
    let e : p ≡ (p - 1) + 1 = omega arith in
    covers_more regions count (p - 1) old new r (omega arith) is (subst (λ (k : ℕ). CoversFrom regions count k old) e c) long given

pub covers_all : (regions : List Region) (count p : ℕ) (places : List ℕ) → p ≤ 0 → CoversFrom regions count p places → (n : ℕ) → n < count → slice_index places n ≡ covering regions n
covers_all regions count p places le c n lt =
    let e : p ≡ 0 = omega arith in
    let d : CoversFrom regions count 0 places = subst (λ (k : ℕ). CoversFrom regions count k places) e c in
    let h : slice_index places n ≡ 0 + covering regions n = d.each n lt in
    omega (arith, h)

-- up to an end that is cut at the length
pub cover_end : (first end len position e n : ℕ) → e ≡ min end len → n < len → (first ≤ e → position ≤ e) → (e < first → position ≡ first) → e ≤ position → (nat_le first n && nat_lt n position) ≡ (nat_le first n && nat_lt n end)
cover_end first end len position e n cut lt up still all = elim (cases_lt n first) [
  | inl less ↦ and_left (nat_le first n) (nat_lt n position) (lt-leb first n less) ∙ sym (and_left (nat_le first n) (nat_lt n end) (lt-leb first n less))
  | inr from ↦ ap (λ (t : Bool). nat_le first n && t) (elim (cases_lt n end) [
    | inl before ↦ lt-ltb n position (omega (arith, cut, lt, before, all)) ∙ sym (lt-ltb n end before)
    | inr past ↦ elim (cases_lt e first) [
      | inl out ↦ le-ltb n position (omega (arith, still out, from)) ∙ sym (le-ltb n end past)
      | inr in' ↦ le-ltb n position (omega (arith, up in', cut, past)) ∙ sym (le-ltb n end past)
    ]
  ])
]
