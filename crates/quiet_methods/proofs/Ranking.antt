-- Ranks as they are given.
use Rattle.std.proofs.Common.{◌≡◌, ◌⊎◌, inl, inr, ℕ, zero, suc, ◌+◌, ◌<◌, ◌≤◌, ◌&&◌, Bool, true, false, not, List, length, get_or, set, replicate, Option, Some, None, is_some, refl, sym, ap, ◌∙◌, subst, arith, rules, length-set, get_or-set_other, get_or-set_same}
use Rattle.std.specs.Prelude.{slice_get, Contains}
use Rattle.std.specs.List.{sum_by, list_all}
use Rattle.std.proofs.lemmas.Bool.{false≢true, cases_eq}
use Rattle.std.proofs.lemmas.List.{length-replicate, get_or_default}
use Rattle.std.proofs.lemmas.List.Sums.{sum_by-cons, sum_by-set, AllPass-from_list_all}
use Rattle.std.proofs.lemmas.List.Elements.{All-contains}
use Rattle.std.proofs.lemmas.Option.{slice_get_within, slice_get-get_or}
use Rattle.quiet_methods.specs.declared.ranks.Node.{Node}
use Rattle.quiet_methods.specs.Settled.{rank_at, has_rank, is_ready, IsLower, IsRank, IsSettled}
use Rattle.quiet_methods.specs.Steps.{blank, AreRanks, IsClosedAt, Turns, Sweeps}

-- ---- one rank more

none_ranked : (o : Option ℕ) (r : ℕ) → o ≡ None → o ≡ Some r → ⊥
none_ranked o r e f = false≢true (ap is_some (sym e ∙ f))

-- a rank that was given stays
stays : (ranks : List (Option ℕ)) (n t s : ℕ) (v : Option ℕ) → rank_at ranks n ≡ None → rank_at ranks t ≡ Some s → rank_at (set ranks n v) t ≡ Some s
stays ranks n t s v free h = elim (cases_eq t n) [
  | inl e ↦ absurd (none_ranked (rank_at ranks t) s (ap (rank_at ranks) e ∙ free) h)
  | inr k ↦ get_or-set_other ranks n t v None k ∙ h
]

lower_stays : (ranks : List (Option ℕ)) (n t r : ℕ) (v : Option ℕ) → rank_at ranks n ≡ None → IsLower ranks r t → IsLower (set ranks n v) r t
lower_stays ranks n t r v free l = record { rank = l.rank; is = stays ranks n t l.rank v free l.is; lower = l.lower }

some_of : (o : Option ℕ) → is_some o ≡ true → (r : ℕ) × (o ≡ Some r)
some_of (Some r) h = (r, refl)
some_of None h = absurd (false≢true h)

both_true : (a b : Bool) → (a && b) ≡ true → (a ≡ true) × (b ≡ true)
both_true true true h = (refl, refl)
both_true true false h = absurd (false≢true h)
both_true false b h = absurd (false≢true h)

all_in : (f : ℕ → Bool) (xs : List ℕ) (x : ℕ) → list_all f xs ≡ true → Contains xs x → f x ≡ true
all_in f xs x h c = All-contains (λ y. f y ≡ true) xs x (AllPass-from_list_all f xs h) c

ready_rank : (nodes : List Node) (ranks : List (Option ℕ)) (next : ℕ) (x : Node) → AreRanks nodes ranks next → is_ready ranks x ≡ true → IsRank ranks x next
ready_rank nodes ranks next x a h =
    let both : (x.may ≡ true) × (list_all (has_rank ranks) x.needs ≡ true) = both_true x.may (list_all (has_rank ranks) x.needs) h in
    record {
      may = both.0;
      needs = λ n c. let r : (r : ℕ) × (rank_at ranks n ≡ Some r) = some_of (rank_at ranks n) (all_in (has_rank ranks) x.needs n both.1 c) in record { rank = r.0; is = r.1; lower = a.below n r.0 r.1 };
    }

rank_stays : (ranks : List (Option ℕ)) (n r : ℕ) (v : Option ℕ) (x : Node) → rank_at ranks n ≡ None → IsRank ranks x r → IsRank (set ranks n v) x r
rank_stays ranks n r v x free i = record { may = i.may; needs = λ t c. lower_stays ranks n t r v free (i.needs t c) }

same_some : (r s : ℕ) → Some r ≡ Some s → r ≡ s
same_some r s h = search rules

pub given : (nodes : List Node) (ranks : List (Option ℕ)) (next n : ℕ) (x : Node) → AreRanks nodes ranks next → slice_get nodes n ≡ Some x → rank_at ranks n ≡ None → is_ready ranks x ≡ true
    → AreRanks nodes (set ranks n (Some next)) (next + 1)
given nodes ranks next n x a there free ready =
    let inside : n < length ranks = omega (arith, slice_get_within nodes n x there, a.long) in
    let new : rank_at (set ranks n (Some next)) n ≡ Some next = get_or-set_same ranks n (Some next) None inside in
    record {
      long = length-set ranks n (Some next) ∙ a.long;
      below = λ m r h. elim (cases_eq m n) [
        | inl e ↦ (let is : next ≡ r = same_some next r (sym new ∙ ap (rank_at (set ranks n (Some next))) (sym e) ∙ h) in omega (arith, is))
        | inr k ↦ (let lt : r < next = a.below m r (sym (get_or-set_other ranks n m (Some next) None k) ∙ h) in omega (arith, lt))
      ];
      sound = λ m r y at h. elim (cases_eq m n) [
        | inl e ↦
            (let is : next ≡ r = same_some next r (sym new ∙ ap (rank_at (set ranks n (Some next))) (sym e) ∙ h) in
            let same : Some y ≡ Some x = sym at ∙ ap (slice_get nodes) e ∙ there in
            let i : IsRank ranks x next = ready_rank nodes ranks next x a ready in
            same_rank ranks n next r x y free is same i)
        | inr k ↦ rank_stays ranks n r (Some next) y free (a.sound m r y at (sym (get_or-set_other ranks n m (Some next) None k) ∙ h))
      ];
      count =
          (let was : blank (get_or ranks n None) ≡ 1 = ap blank free in
          let sums : sum_by blank (set ranks n (Some next)) + blank (get_or ranks n None) ≡ sum_by blank ranks + blank (Some next) = sum_by-set blank ranks n (Some next) None inside in
          omega (arith, was, sums, a.count));
    }
  where
    same_rank : (ranks : List (Option ℕ)) (n next r : ℕ) (x y : Node) → rank_at ranks n ≡ None → next ≡ r → Some y ≡ Some x → IsRank ranks x next → IsRank (set ranks n (Some next)) y r
    same_rank ranks n next r x y free is same i =
        let e : y ≡ x = search rules in
        subst (λ z. IsRank (set ranks n (Some next)) z r) (sym e) (subst (IsRank (set ranks n (Some next)) x) is (rank_stays ranks n next (Some next) x free i))

-- ---- the beginning

none_yet : (k n : ℕ) → rank_at (replicate k None) n ≡ None
none_yet zero n = refl
none_yet (suc k) zero = refl
none_yet (suc k) (suc n) = none_yet k n

all_blank : (k : ℕ) → sum_by blank (replicate k None) ≡ k
all_blank zero = refl
all_blank (suc k) = omega (arith, all_blank k, sum_by-cons blank None (replicate k None))

pub no_ranks : (nodes : List Node) → AreRanks nodes (replicate (length nodes) None) 0
no_ranks nodes = record {
  long = length-replicate (length nodes) None;
  below = λ n r h. absurd (false≢true (ap is_some (sym (none_yet (length nodes) n) ∙ h)));
  sound = λ n r x at h. absurd (false≢true (ap is_some (sym (none_yet (length nodes) n) ∙ h)));
  count = omega (arith, all_blank (length nodes));
}

-- ---- the end

pub settled : (nodes : List Node) (ranks : List (Option ℕ)) (next : ℕ) → AreRanks nodes ranks next → ((n : ℕ) → n < length nodes → IsClosedAt nodes n ranks) → IsSettled nodes ranks
settled nodes ranks next a h = record {
  long = a.long;
  short = λ n r e. omega (arith, a.below n r e, a.count);
  sound = a.sound;
  closed = λ n x at ready. (h n (slice_get_within nodes n x at)).closed x at ready;
}

-- ---- turns

pub turned : (nodes : List Node) (ranks : List (Option ℕ)) (next n : ℕ) (x : Node) → AreRanks nodes ranks next → n < length nodes → x ≡ get_or nodes n x → rank_at ranks n ≡ None → is_ready ranks x ≡ true
    → AreRanks nodes (set ranks n (Some next)) (next + 1)
turned nodes ranks next n x a lt e free ready = given nodes ranks next n x a (slice_get-get_or nodes n x lt ∙ ap Some (sym e)) free ready

pub turns_now : (nodes : List Node) (ranks ranks' : List (Option ℕ)) (next n : ℕ) → Turns nodes n ranks next ranks' (next + 1)
turns_now nodes ranks ranks' next n = record { grows = omega arith; still = λ e. absurd (grown e); closed = λ e. absurd (grown e) }
  where
    grown : next + 1 ≡ next → ⊥
    grown e = omega (arith, e)

closed_by : (nodes : List Node) (ranks : List (Option ℕ)) (n : ℕ) → (is_some (rank_at ranks n) ≡ true) ⊎ ((x : Node) → slice_get nodes n ≡ Some x → is_ready ranks x ≡ false) → IsClosedAt nodes n ranks
closed_by nodes ranks n h = record { closed = λ x at ready. elim h [ inl on ↦ on | inr off ↦ absurd (false≢true (sym (off x at) ∙ ready)) ] }

pub turns_ranked : (nodes : List Node) (ranks : List (Option ℕ)) (next n : ℕ) → is_some (rank_at ranks n) ≡ true → Turns nodes n ranks next ranks next
turns_ranked nodes ranks next n on = record { grows = omega arith; still = λ e. refl; closed = λ e. closed_by nodes ranks n (inl on) }

same_node : (x y : Node) → Some x ≡ Some y → x ≡ y
same_node x y h = search rules

pub turns_unready : (nodes : List Node) (ranks : List (Option ℕ)) (next n : ℕ) (x : Node) → n < length nodes → x ≡ get_or nodes n x → is_ready ranks x ≡ false → Turns nodes n ranks next ranks next
turns_unready nodes ranks next n x lt e off = record {
  grows = omega arith;
  still = λ h. refl;
  closed = λ h. closed_by nodes ranks n (inr (λ y at. ap (is_ready ranks) (same_node y x (sym at ∙ slice_get-get_or nodes n x lt ∙ ap Some (sym e))) ∙ off));
}

pub sweeps_none : (nodes : List Node) (ranks : List (Option ℕ)) (next : ℕ) → Sweeps nodes 0 next ranks next
sweeps_none nodes ranks next = record { grows = omega arith; closed = λ e n lt past. absurd (never n lt past) }
  where
    never : (n : ℕ) → n < length nodes → length nodes ≤ n + 0 → ⊥
    never n lt past = omega (arith, lt, past)

pub sweeps_on : (nodes : List Node) (k place first next next' : ℕ) (ranks ranks' : List (Option ℕ)) → k < length nodes → place + k + 1 ≡ length nodes → Sweeps nodes k first ranks next
    → Turns nodes place ranks next ranks' next' → Sweeps nodes (k + 1) first ranks' next'
sweeps_on nodes k place first next next' ranks ranks' lt at s t = record {
  grows = omega (arith, s.grows, t.grows);
  closed = λ e n inside past.
      let old : next ≡ first = omega (arith, s.grows, t.grows, e) in
      let same : next' ≡ next = omega (arith, s.grows, t.grows, e) in
      elim (cases_eq n place) [
        | inl here ↦ subst (λ m. IsClosedAt nodes m ranks') (sym here) (t.closed same)
        | inr other ↦ subst (IsClosedAt nodes n) (sym (t.still same)) (s.closed old n inside (omega (arith, past, other, at)))
      ];
}

-- ---- what the code reads

none_of : (o : Option ℕ) → is_some o ≡ false → o ≡ None
none_of (Some r) h = absurd (false≢true (sym h))
none_of None h = refl

pub free_at : (ranks : List (Option ℕ)) (n : ℕ) (o : Option ℕ) (b : Bool) → n < length ranks → o ≡ get_or ranks n o → is_some o ≡ not b → b ≡ true → rank_at ranks n ≡ None
free_at ranks n o b lt e h on = get_or_default ranks n None o lt ∙ sym e ∙ none_of o (h ∙ ap not on)

pub ranked_at : (ranks : List (Option ℕ)) (n : ℕ) (o : Option ℕ) (b : Bool) → n < length ranks → o ≡ get_or ranks n o → is_some o ≡ not b → b ≡ false → is_some (rank_at ranks n) ≡ true
ranked_at ranks n o b lt e h off = ap is_some (get_or_default ranks n None o lt ∙ sym e) ∙ h ∙ ap not off

pub ready_of : (ranks rs : List (Option ℕ)) (x : Node) (b v : Bool) → rs ≡ ranks → b ≡ is_ready rs x → b ≡ v → is_ready ranks x ≡ v
ready_of ranks rs x b v e h is = ap (λ l. is_ready l x) (sym e) ∙ sym h ∙ is
