-- What is marked in the graph of a body is what walks come to.
use Rattle.std.proofs.Common.{◌≡◌, ◌↔◌, ◌⊎◌, inl, inr, ℕ, ◌+◌, ◌<◌, ◌≤◌, Bool, true, false, List, [], ◌∷◌, length, take, Option, Some, slice_get, slice_index_or, Contains, refl, sym, ap, ◌∙◌, subst, arith}
use Rattle.std.proofs.lemmas.List.{get_or-take}
use Rattle.insn_set.specs.declared.form.Insn.{Insn}
use Rattle.insn_set.specs.Flow.{throws}
use Rattle.program_model.specs.declared.body.Body.{Body}
use Rattle.program_model.specs.declared.body.Region.{Region}
use Rattle.flow_cfg.specs.Walks.{successors_of}
use Rattle.walk_marks.specs.Walks.{Comes, row_of, is_on}
use Rattle.walk_marks.specs.Walks as comes
use Rattle.body_graph.specs.Walks.{insn_at, onward, caught, Walk, IsReached}
use Rattle.body_graph.specs.Walks as walk
use Rattle.body_graph.specs.Graph.{covering, node_row}
use Rattle.body_graph.proofs.Members.{none, split, get_inside}
use Rattle.body_graph.proofs.Links.{Edge, On, Throws, Handles, edge_of, edge_to, step_insn, step_on, step_caught, caught_of, caught_by}

-- ---- walks

pub walk_more : (next : ℕ → List ℕ) (a n m : ℕ) → Walk next a n → Contains (next n) m → Walk next a m
walk_more next a n m (walk.Stays k) c = walk.Goes n m m c (walk.Stays m)
walk_more next a n m (walk.Goes k j l step rest) c = walk.Goes a j m step (walk_more next j n m rest c)

starts_inside : (b : Body) (n k : ℕ) → Walk (successors_of b) n k → k < length b.insns → n < length b.insns
starts_inside b n k (walk.Stays j) lt = lt
starts_inside b n k (walk.Goes j m l step rest) lt = get_inside b.insns n (step_insn b n m step).0 (step_insn b n m step).1

-- ---- what is marked is reached

-- a position is reached, and of a region a position from which it is entered
record Arrives (b : Body) (v : ℕ) : Type 0 where
  position : v < length b.insns → IsReached b v
  region : (k : ℕ) → v ≡ length b.insns + k → (n : ℕ) × (i : Insn) × (insn_at b n ≡ Some i) × (throws i ≡ true) × (covering b.regions n ≡ k) × IsReached b n

module _ (b : Body) (rows : List (List ℕ)) (is : (n : ℕ) → row_of rows n ≡ node_row b n) where
  abbrev Marks : ℕ → Type 0
  Marks v = Comes rows (λ from to. true) (0 ∷ []) v

  goes_on : (n m : ℕ) → Edge b n m → Arrives b n → Arrives b m
  goes_on n m (On i e c lt) a = record {
    position = λ _. walk_more (successors_of b) 0 n m (a.position (get_inside b.insns n i e)) (step_on b n m i e c);
    region = λ k at. absurd (omega (arith, at, lt));
  }
  goes_on n m (Throws i k e t same lt at) a = record {
    position = λ inside. absurd (omega (arith, at, inside));
    region = λ j at'. (n, i, e, t, (let h : k ≡ j = omega (arith, at, at') in same ∙ h), a.position (get_inside b.insns n i e));
  }
  goes_on n m (Handles k r at e c lt) a = record {
    position = λ _. (let w = a.region k at in
        walk_more (successors_of b) 0 w.0 m w.5 (step_caught b w.0 m w.1 w.2 (caught_by b w.0 m w.1 r w.3 (ap (λ (j : ℕ). slice_get b.regions j) w.4 ∙ e) c)));
    region = λ j at'. absurd (omega (arith, at', lt));
  }

  arrives : (v : ℕ) → 0 < length b.insns → Marks v → Arrives b v
  arrives v some (comes.Begins n c) =
      let zero_is : 0 ≡ v = elim (split 0 [] v c) [ inl s ↦ s | inr d ↦ absurd (none v d) ] in
      record {
        position = λ _. subst (λ (k : ℕ). IsReached b k) zero_is (walk.Stays 0);
        region = λ k at. absurd (omega (arith, at, some, zero_is));
      }
  arrives v some (comes.Goes n m from c l) = goes_on n v (edge_of b n v (subst (λ (row : List ℕ). Contains row v) (is n) c)) (arrives n some from)

  -- ---- what is reached is marked

  along : (n m : ℕ) → Edge b n m → Marks n → Marks m
  along n m e from = comes.Goes n m from (subst (λ (row : List ℕ). Contains row m) (sym (is n)) (edge_to b n m e)) refl

  step_marks : (n m : ℕ) → Contains (successors_of b n) m → m < length b.insns → Marks n → Marks m
  step_marks n m c lt from = by (step_insn b n m c)
    where
      by : (i : Insn) × (insn_at b n ≡ Some i) × (Contains (onward i n) m ⊎ Contains (caught b i n) m) → Marks m
      by (i, e, inl on) = along n m (On i e on lt) from
      by (i, e, inr thrown) =
          let h = caught_of b n m i thrown in
          let inside = get_inside b.regions (covering b.regions n) h.1.0 h.1.1 in
          along (length b.insns + covering b.regions n) m (Handles (covering b.regions n) h.1.0 refl h.1.1 h.1.2 lt)
          (along n (length b.insns + covering b.regions n) (Throws i (covering b.regions n) e h.0 refl inside refl) from)

  walk_marks : (n k : ℕ) → Walk (successors_of b) n k → k < length b.insns → Marks n → Marks k
  walk_marks n k (walk.Stays j) lt from = from
  walk_marks n k (walk.Goes j m l step rest) lt from = walk_marks m k rest lt (step_marks n m step (starts_inside b m k rest lt) from)

  reached_is : (n : ℕ) → n < length b.insns → Marks n ↔ IsReached b n
  reached_is n lt = (
    (λ h. (arrives n (omega (arith, lt)) h).position lt),
    (λ w. walk_marks 0 n w lt (comes.Begins 0 (0, omega arith, refl))),
  )

  -- the marks of the positions
  pub reached_marks : (marks cut : List Bool) (count : ℕ) → count ≡ length b.insns → cut ≡ take count marks → length b.insns ≤ length rows → ((n : ℕ) → n < length rows → (is_on marks n ≡ true) ↔ Marks n)
      → (n : ℕ) → n < length b.insns → (is_on cut n ≡ true) ↔ IsReached b n
  reached_marks marks cut count size front long exact n lt =
      let same : is_on cut n ≡ is_on marks n = ap (λ (l : List Bool). is_on l n) front ∙ get_or-take count marks n false (omega (arith, lt, size)) in
      let h = exact n (omega (arith, lt, long)) in
      let r = reached_is n lt in
      ((λ on. r.0 (h.0 (sym same ∙ on))), (λ w. same ∙ h.1 (r.1 w)))
