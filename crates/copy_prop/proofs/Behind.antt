-- The reads of a register behind a Move are those that a search finds.
use Rattle.std.proofs.Common.{◌≡◌, ℕ, zero, suc, ◌+◌, ◌<◌, Bool, true, false, List, [], ◌∷◌, ◌++◌, length, get_or, Some, None, Option, refl, sym, ap, ◌∙◌, subst, arith, ◌⊎◌, inl, inr}
use Rattle.std.specs.Prelude.{◌↔◌, ◌||◌, not, nat_eq, slice_get, slice_index_or, Contains}
use Rattle.std.specs.List.{list_any}
use Rattle.std.proofs.lemmas.Bool.{eqb-true, eq-eqb, or_cases, or_left, or_right, not-true, not_from_false}
use Rattle.std.proofs.lemmas.List.Elements.{Contains-append_cases, Contains-append_left, Contains-append_right}
use Rattle.std.proofs.lemmas.List.{get_or_read}
use Rattle.std.proofs.lemmas.Option.{slice_get_within}
use Rattle.insn_set.specs.Registers.{reads_of, writes_of}
use Rattle.insn_set.specs.declared.form.Insn.{Insn}
use Rattle.program_model.specs.declared.body.Body.{Body}
use Rattle.flow_cfg.specs.Walks.{steps_of, successors_of}
use Rattle.walk_marks.specs.Walks.{Comes, Begins, Goes, is_on, row_of}
use Rattle.body_graph.specs.Walks.{insn_at, onward, caught, IsReadAt}
use Rattle.body_graph.specs.Walks as walk
use Rattle.copy_prop.specs.Searches.{AreSteps, AllGood, StandsBehind, caught_from, passes, reads_in, writes_in}
use Rattle.copy_prop.specs.declared.steps.Steps.{Steps}
use Rattle.copy_prop.proofs.Rows.{steps_split, to_step, from_step}
use Rattle.copy_prop.proofs.Reached.{none_in, one_in}

in_more : (x m : ℕ) (xs : List ℕ) → Contains xs m → Contains (x ∷ xs) m
in_more x m xs (k, lt, e) = (suc k, omega (arith, lt), e)

in_first : (x m : ℕ) (xs : List ℕ) → nat_eq m x ≡ true → Contains (x ∷ xs) m
in_first x m xs e = (0, omega arith, sym (eqb-true m x e))

any_in : (m : ℕ) (xs : List ℕ) → list_any (nat_eq m) xs ≡ true → Contains xs m
any_in m [] h = absurd (cc)
any_in m (x ∷ xs) h = elim (or_cases (nat_eq m x) (list_any (nat_eq m) xs) h) [ inl e ↦ in_first x m xs e | inr i ↦ in_more x m xs (any_in m xs i) ]

in_any_at : (m : ℕ) (xs : List ℕ) (k : ℕ) → k < length xs → get_or xs k m ≡ m → list_any (nat_eq m) xs ≡ true
in_any_at m [] k lt e = absurd (omega arith)
in_any_at m (x ∷ xs) zero lt e = or_left (nat_eq m x) (list_any (nat_eq m) xs) (eq-eqb m x (sym e))
in_any_at m (x ∷ xs) (suc k) lt e = or_right (nat_eq m x) (list_any (nat_eq m) xs) (in_any_at m xs k (omega arith) e)

in_any : (m : ℕ) (xs : List ℕ) → Contains xs m → list_any (nat_eq m) xs ≡ true
in_any m xs h = in_any_at m xs h.0 h.1 h.2

has_insn : (b : Body) (n m : ℕ) → Contains (successors_of b n) m → (f : Insn) × (insn_at b n ≡ Some f)
has_insn b n m i = at (slice_get b.insns n) refl i
  where
    at : (o : Option Insn) → slice_get b.insns n ≡ o → Contains (steps_of b.regions n o) m → (f : Insn) × (insn_at b n ≡ Some f)
    at None e i = absurd (none_in m i)
    at (Some f) e i = (f, e)

module _ (b : Body) (s : Steps) (steps : AreSteps b s) (r at : ℕ) where
  backs_at : (n : ℕ) (f : Insn) → insn_at b n ≡ Some f → row_of s.backs.items n ≡ caught b f n
  backs_at n f h = steps.rows.backs_are n (slice_get_within b.insns n f h) ∙ ap (λ o. caught_from b o n) h

  -- ---- what is read is found

  onward_step : (n m : ℕ) (f : Insn) → insn_at b n ≡ Some f → Contains (onward f n) m → Contains (row_of s.rows.items n) m
  onward_step n m f h i = from_step b s.rows.items s.fronts.items s.backs.items steps.rows n m (subst (λ xs. Contains xs m) (sym (steps_split b n f h)) (Contains-append_left (onward f n) (caught b f n) m i))

  caught_step : (n m : ℕ) (f : Insn) → insn_at b n ≡ Some f → Contains (caught b f n) m → Contains (row_of s.rows.items n) m
  caught_step n m f h i = from_step b s.rows.items s.fronts.items s.backs.items steps.rows n m (subst (λ xs. Contains xs m) (sym (steps_split b n f h)) (Contains-append_right (onward f n) (caught b f n) m i))

  onward_passes : (n m : ℕ) (f : Insn) → insn_at b n ≡ Some f → writes_of f r ≡ false → passes b.insns s.backs.items r n m ≡ true
  onward_passes n m f h w = or_left (not (writes_in r (insn_at b n))) (list_any (nat_eq m) (row_of s.backs.items n)) (not_from_false (writes_in r (insn_at b n)) (ap (writes_in r) h ∙ w))

  caught_passes : (n m : ℕ) (f : Insn) → insn_at b n ≡ Some f → Contains (caught b f n) m → passes b.insns s.backs.items r n m ≡ true
  caught_passes n m f h i = or_right (not (writes_in r (insn_at b n))) (list_any (nat_eq m) (row_of s.backs.items n)) (in_any m (row_of s.backs.items n) (subst (λ xs. Contains xs m) (sym (backs_at n f h)) i))

  read_comes : (n k : ℕ) → Comes s.rows.items (passes b.insns s.backs.items r) (row_of s.rows.items at) n → IsReadAt b r n k
      → Comes s.rows.items (passes b.insns s.backs.items r) (row_of s.rows.items at) k × (reads_in r (insn_at b k) ≡ true)
  read_comes n _ c (walk.Here _ f h e) = (c, ap (reads_in r) h ∙ e)
  read_comes n k c (walk.Onward _ m _ f h w i rest) = read_comes m k (Goes n m c (onward_step n m f h i) (onward_passes n m f h w)) rest
  read_comes n k c (walk.Caught _ m _ f h i rest) = read_comes m k (Goes n m c (caught_step n m f h i) (caught_passes n m f h i)) rest

  -- ---- what is found is read

  one_step : (n m k : ℕ) (f : Insn) → insn_at b n ≡ Some f → Contains (successors_of b n) m → passes b.insns s.backs.items r n m ≡ true → IsReadAt b r m k → IsReadAt b r n k
  one_step n m k f h i e rest = elim (or_cases (not (writes_in r (insn_at b n))) (list_any (nat_eq m) (row_of s.backs.items n)) e) [
    | inl t ↦ elim (Contains-append_cases (onward f n) (caught b f n) m (subst (λ xs. Contains xs m) (steps_split b n f h) i)) [
      | inl j ↦ walk.Onward n m k f h (ap (writes_in r) (sym h) ∙ not-true (writes_in r (insn_at b n)) t) j rest
      | inr j ↦ walk.Caught n m k f h j rest
    ]
    | inr t ↦ walk.Caught n m k f h (subst (λ xs. Contains xs m) (backs_at n f h) (any_in m (row_of s.backs.items n) t)) rest
  ]

  comes_read : (n k : ℕ) → Comes s.rows.items (passes b.insns s.backs.items r) (row_of s.rows.items at) n → IsReadAt b r n k → (m : ℕ) × Contains (successors_of b at) m × IsReadAt b r m k
  comes_read n k (Begins _ i) rest = (n, to_step b s.rows.items s.fronts.items s.backs.items steps.rows at n i, rest)
  comes_read n k (Goes m _ c i e) rest =
      let j : Contains (successors_of b m) n = to_step b s.rows.items s.fronts.items s.backs.items steps.rows m n i in
      let f : (f : Insn) × (insn_at b m ≡ Some f) = has_insn b m n j in
      comes_read m k c (one_step m n k f.0 f.1 j e rest)

  reads_here : (k : ℕ) (f : Insn) → insn_at b k ≡ Some f → reads_in r (insn_at b k) ≡ true → IsReadAt b r k k
  reads_here k f h e = walk.Here k f h (ap (reads_in r) (sym h) ∙ e)

  reads_some : (k : ℕ) → reads_in r (insn_at b k) ≡ true → (f : Insn) × (insn_at b k ≡ Some f)
  reads_some k e = of (slice_get b.insns k) refl e
    where
      of : (o : Option Insn) → slice_get b.insns k ≡ o → reads_in r o ≡ true → (f : Insn) × (insn_at b k ≡ Some f)
      of None h e = absurd (cc)
      of (Some f) h e = (f, h)

  module _ (marks good : List Bool) (all : Bool) (exact : (n : ℕ) → n < length b.insns → (is_on marks n ≡ true) ↔ Comes s.rows.items (passes b.insns s.backs.items r) (row_of s.rows.items at) n) (found : (all ≡ true) ↔ AllGood b r marks good (length b.insns)) where
    to_behind : all ≡ true → StandsBehind b at r good
    to_behind e m n f i read h =
        let c : Comes s.rows.items (passes b.insns s.backs.items r) (row_of s.rows.items at) n × (reads_in r (insn_at b n) ≡ true) = read_comes m n (Begins m (from_step b s.rows.items s.fronts.items s.backs.items steps.rows at m i)) read in
        let lt : n < length b.insns = slice_get_within b.insns n f h in
        found.0 e n lt ((exact n lt).1 c.0) c.1

    from_behind : StandsBehind b at r good → all ≡ true
    from_behind stands = found.1 (λ n lt on e.
        let f : (f : Insn) × (insn_at b n ≡ Some f) = reads_some n e in
        let back : (m : ℕ) × Contains (successors_of b at) m × IsReadAt b r m n = comes_read n n ((exact n lt).0 on) (reads_here n f.0 f.1 e) in
        stands back.0 n f.0 back.1 back.2 f.1)

  pub behind_found : (rows backs : List (List ℕ)) (insns : List Insn) (seeds row : List ℕ) (marks shown good : List Bool) (all : Bool) → rows ≡ s.rows.items → backs ≡ s.backs.items → insns ≡ b.insns → at < length b.insns → row ≡ get_or s.rows.items at row → seeds ≡ row
      → shown ≡ marks → ((n : ℕ) → n < length rows → (is_on marks n ≡ true) ↔ Comes rows (passes insns backs r) seeds n) → ((all ≡ true) ↔ AllGood b r shown good (length b.insns)) → (all ≡ true) ↔ StandsBehind b at r good
  behind_found rows backs insns seeds row marks shown good all er eb ei lt is es em exact found = (to_behind marks good all comes found', from_behind marks good all comes found')
    where
      found' : (all ≡ true) ↔ AllGood b r marks good (length b.insns)
      found' = subst (λ xs. (all ≡ true) ↔ AllGood b r xs good (length b.insns)) em found

      begin : seeds ≡ row_of s.rows.items at
      begin = es ∙ get_or_read s.rows.items at row (omega (arith, steps.rows.rows_long)) is []

      comes : (n : ℕ) → n < length b.insns → (is_on marks n ≡ true) ↔ Comes s.rows.items (passes b.insns s.backs.items r) (row_of s.rows.items at) n
      comes n small =
          let i : n < length rows = omega (arith, ap length er, steps.rows.rows_long) in
          subst (λ xs. (is_on marks n ≡ true) ↔ Comes s.rows.items (passes b.insns s.backs.items r) xs n) begin
          (subst (λ xs. (is_on marks n ≡ true) ↔ Comes s.rows.items (passes xs s.backs.items r) seeds n) ei
          (subst (λ xs. (is_on marks n ≡ true) ↔ Comes s.rows.items (passes insns xs r) seeds n) eb
          (subst (λ xs. (is_on marks n ≡ true) ↔ Comes xs (passes insns backs r) seeds n) er (exact n i))))
