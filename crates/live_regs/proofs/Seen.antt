-- What is marked backwards from the readers of a register is what sees a read of it.
use Rattle.std.proofs.Common.{◌≡◌, ◌↔◌, inl, inr, ℕ, ◌+◌, ◌<◌, ◌≤◌, Bool, true, false, ◌&&◌, List, [], ◌∷◌, ◌++◌, length, take, Option, Some, None, slice_get, slice_index_or, nat_lt, Contains, refl, sym, ap, ◌∙◌, subst, arith, lt-ltb, le-ltb}
use Rattle.std.proofs.lemmas.Bool.{cases_lt, false≢true, and_left, and_right, and_from, not-true, not_from_false, false_from_ne_true}
use Rattle.std.proofs.lemmas.List.{get_or-take, get_or_past, length-take, length_push, get_or_push, get_or_append_left}
use Rattle.insn_set.specs.declared.form.Insn.{Insn}
use Rattle.insn_set.specs.Registers.{writes_of}
use Rattle.program_model.specs.declared.body.Body.{Body}
use Rattle.program_model.specs.declared.body.Region.{Region}
use Rattle.flow_cfg.specs.Walks.{handlers_in}
use Rattle.walk_marks.specs.Walks.{Comes, AreTurned, row_of, is_on}
use Rattle.walk_marks.specs.Walks as comes
use Rattle.body_graph.specs.Walks.{insn_at, onward, caught, IsRead, IsReadAt}
use Rattle.body_graph.specs.Walks as read
use Rattle.body_graph.specs.Graph.{covering, node_row}
use Rattle.body_graph.proofs.Members.{none, get_inside, get_past}
use Rattle.body_graph.proofs.Links.{Edge, On, Throws, Handles, edge_of, edge_to, caught_of, caught_by}
use Rattle.live_regs.specs.Liveness.{reads_at, writes_at, ReadIt, IsBack, AreMarks, sees}

pub back_is : (b : Body) (rows given back : List (List ℕ)) (count : ℕ) → count ≡ length b.insns + length b.regions → ((n : ℕ) → row_of given n ≡ node_row b n) → rows ≡ given → AreTurned rows count back → IsBack b back
back_is b rows given back count long is' same turned n m lt =
    let is : (k : ℕ) → row_of rows k ≡ node_row b k = λ k. ap (λ (l : List (List ℕ)). row_of l k) same ∙ is' k in
    let t = turned n m (omega (arith, lt, long)) in
    ((λ c. subst (λ (l : List ℕ). Contains l m) (is n) (t.0 c)), (λ c. t.1 (subst (λ (l : List ℕ). Contains l m) (sym (is n)) c)))

-- ---- where reads end and begin

reads_last : (b : Body) (r n k : ℕ) → IsReadAt b r n k → reads_at r (insn_at b k) ≡ true
reads_last b r n k (read.Here m i e h) = ap (reads_at r) e ∙ h
reads_last b r n k (read.Onward m l j i e w c rest) = reads_last b r l k rest
reads_last b r n k (read.Caught m l j i e c rest) = reads_last b r l k rest

begins_inside : (b : Body) (r n k : ℕ) → IsReadAt b r n k → n < length b.insns
begins_inside b r n k (read.Here m i e h) = get_inside b.insns n i e
begins_inside b r n k (read.Onward m l j i e w c rest) = get_inside b.insns n i e
begins_inside b r n k (read.Caught m l j i e c rest) = get_inside b.insns n i e

-- where no position reads the register, no mark is needed
pub none_marked : (b : Body) (r : ℕ) (readers : List ℕ) → length readers ≡ 0 → ReadIt b r readers → AreMarks b r []
none_marked b r readers empty reads n = (
  (λ h. absurd (false≢true h)),
  (λ w. let c = (reads w.0).1 (reads_last b r n w.0 w.1) in absurd (omega (arith, c.1, empty))),
)

-- ---- one register

-- a read is seen from a position, and of a region from one of its handlers
record IsSeen (b : Body) (r v : ℕ) : Type 0 where
  position : v < length b.insns → IsRead b r v
  region : (k : ℕ) → v ≡ length b.insns + k → (h : ℕ) × (s : Region) × (slice_get b.regions k ≡ Some s) × Contains (handlers_in s) h × IsRead b r h

module _ (b : Body) (r : ℕ) (back : List (List ℕ)) (readers : List ℕ) (long : length back ≡ length b.insns + length b.regions) (turned : IsBack b back) (reads : ReadIt b r readers) where
  abbrev Marked : ℕ → Type 0
  Marked v = Comes back (λ from to. sees b r from to) readers v

  row_inside : (n m : ℕ) → Contains (row_of back n) m → n < length back
  row_inside n m c = elim (cases_lt n (length back)) [ inl lt ↦ lt | inr past ↦ absurd (none m (subst (λ (l : List ℕ). Contains l m) (get_or_past back n [] past) c)) ]

  unwritten : (n m : ℕ) (i : Insn) → n < length b.insns → insn_at b m ≡ Some i → sees b r n m ≡ true → writes_of i r ≡ false
  unwritten n m i lt e l = false_from_ne_true (writes_of i r) (λ w.
      let both : (nat_lt n (length b.insns) && writes_at r (insn_at b m)) ≡ true = and_from (nat_lt n (length b.insns)) (writes_at r (insn_at b m)) (lt-ltb n (length b.insns) lt) (ap (writes_at r) e ∙ w) in
      false≢true (sym (not-true (nat_lt n (length b.insns) && writes_at r (insn_at b m)) l) ∙ both))

  -- an edge from m to n is followed back
  goes_back : (n m : ℕ) → Edge b m n → sees b r n m ≡ true → IsSeen b r n → IsSeen b r m
  goes_back n m (On i e c lt) l s = record {
    position = λ _. (let w = s.position lt in (w.0, read.Onward m n w.0 i e (unwritten n m i lt e l) c w.1));
    region = λ k at. absurd (omega (arith, at, get_inside b.insns m i e));
  }
  goes_back n m (Throws i k e t same lt at) l s = record {
    position = λ _. (let w = s.region k at in (w.4.0, read.Caught m w.0 w.4.0 i e (caught_by b m w.0 i w.1 t (ap (λ (j : ℕ). slice_get b.regions j) same ∙ w.2) w.3) w.4.1));
    region = λ j at'. absurd (omega (arith, at', get_inside b.insns m i e));
  }
  goes_back n m (Handles k s' at e c lt) l s = record {
    position = λ inside. absurd (omega (arith, at, inside));
    region = λ j at'. (let h : k ≡ j = omega (arith, at, at') in (n, s', subst (λ (q : ℕ). slice_get b.regions q ≡ Some s') h e, c, s.position lt));
  }

  seen : (v : ℕ) → Marked v → IsSeen b r v
  seen v (comes.Begins n c) =
      let h = (reads v).0 c in
      reader (insn_at b v) refl h
    where
      reader : (o : Option Insn) → insn_at b v ≡ o → reads_at r o ≡ true → IsSeen b r v
      reader None e h = absurd (false≢true h)
      reader (Some i) e h = record {
        position = λ _. (v, read.Here v i e h);
        region = λ k at. absurd (omega (arith, at, get_inside b.insns v i e));
      }
  seen v (comes.Goes n m from c l) = goes_back n v (edge_of b v n ((turned v n (omega (arith, row_inside n v c, long))).0 c)) l (seen n from)

  -- ---- what sees a read is marked

  followed : (n m : ℕ) → n < length b.insns + length b.regions → Edge b m n → sees b r n m ≡ true → Marked n → Marked m
  followed n m lt e l from = comes.Goes n m from ((turned m n lt).1 (edge_to b m n e)) l

  sees_by_write : (n m : ℕ) → writes_at r (insn_at b m) ≡ false → sees b r n m ≡ true
  sees_by_write n m w = not_from_false (nat_lt n (length b.insns) && writes_at r (insn_at b m)) (and_right (nat_lt n (length b.insns)) (writes_at r (insn_at b m)) w)

  sees_by_region : (n m : ℕ) → length b.insns ≤ n → sees b r n m ≡ true
  sees_by_region n m past = not_from_false (nat_lt n (length b.insns) && writes_at r (insn_at b m)) (and_left (nat_lt n (length b.insns)) (writes_at r (insn_at b m)) (le-ltb n (length b.insns) past))

  marked_from : (n k : ℕ) → IsReadAt b r n k → Marked n
  marked_from n k (read.Here m i e h) = comes.Begins n ((reads n).1 (ap (reads_at r) e ∙ h))
  marked_from n k (read.Onward m l j i e w c rest) =
      let inside = begins_inside b r l k rest in
      followed l n (omega (arith, inside)) (On i e c inside) (sees_by_write l n (ap (writes_at r) e ∙ w)) (marked_from l k rest)
  marked_from n k (read.Caught m l j i e c rest) =
      let inside = begins_inside b r l k rest in
      let h = caught_of b n l i c in
      let short = get_inside b.regions (covering b.regions n) h.1.0 h.1.1 in
      followed (length b.insns + covering b.regions n) n (omega (arith, short)) (Throws i (covering b.regions n) e h.0 refl short refl) (sees_by_region (length b.insns + covering b.regions n) n (omega arith))
      (followed l (length b.insns + covering b.regions n) (omega (arith, inside)) (Handles (covering b.regions n) h.1.0 refl h.1.1 h.1.2 inside)
      (sees_by_write l (length b.insns + covering b.regions n) (ap (writes_at r) (get_past b.insns (length b.insns + covering b.regions n) (omega arith)))) (marked_from l k rest))

  -- the marks of the positions
  pub seen_marks : (marks cut : List Bool) (count : ℕ) → count ≡ length b.insns → cut ≡ take count marks → length marks ≡ length back → ((n : ℕ) → n < length back → (is_on marks n ≡ true) ↔ Marked n) → AreMarks b r cut
  seen_marks marks cut count size front size' exact n = elim (cases_lt n (length b.insns)) [
    | inl lt ↦ (let same : is_on cut n ≡ is_on marks n = ap (λ (l : List Bool). is_on l n) front ∙ get_or-take count marks n false (omega (arith, lt, size)) in
        let x = exact n (omega (arith, lt, long)) in
        ((λ on. (seen n (x.0 (sym same ∙ on))).position lt), (λ w. same ∙ x.1 (marked_from n w.0 w.1))))
    | inr past ↦ (
      (λ on. absurd (false≢true (sym (get_or_past cut n false (omega (arith, ap length front, length-take count marks, past, size, size', long))) ∙ on))),
      (λ w. absurd (omega (arith, begins_inside b r n w.0 w.1, past))),
    )
  ]

-- ---- all registers

pub record MarksSoFar (b : Body) (marks : List (List Bool)) (upto : ℕ) : Type 0 where
  pub long : length marks ≡ upto
  pub each : (r : ℕ) → r < upto → AreMarks b r (slice_index_or marks r [])

pub marks_none : (b : Body) (marks : List (List Bool)) → marks ≡ [] → MarksSoFar b marks 0
marks_none b marks e = record { long = ap length e; each = λ r lt. absurd (omega (arith, lt)) }

pub marks_more : (b : Body) (marks marks' : List (List Bool)) (upto register : ℕ) (m : List Bool) → MarksSoFar b marks upto → register ≡ upto → AreMarks b register m → marks' ≡ marks ++ m ∷ [] → MarksSoFar b marks' (upto + 1)
marks_more b marks marks' upto register m s e are f = record {
  long = ap length f ∙ length_push marks m ∙ ap (λ (n : ℕ). n + 1) s.long;
  each = λ r lt. subst (λ (l : List (List Bool)). AreMarks b r (slice_index_or l r [])) (sym f) (elim (cases_lt r upto) [
    | inl less ↦ subst (AreMarks b r) (sym (get_or_append_left marks (m ∷ []) [] r (omega (arith, less, s.long)))) (s.each r less)
    | inr past ↦ (let here : upto ≡ r = omega (arith, past, lt) in
        subst (λ (k : ℕ). AreMarks b k (slice_index_or (marks ++ m ∷ []) k [])) here (subst (AreMarks b upto) (sym (get_or_push marks m [] upto s.long)) (subst (λ (k : ℕ). AreMarks b k m) e are)))
  ]);
}
