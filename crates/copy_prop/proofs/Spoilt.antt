-- The positions at which a copy is spoilt are those that a search finds.
use Rattle.std.proofs.Common.{◌≡◌, ℕ, zero, suc, ◌+◌, ◌<◌, ◌≤◌, Bool, true, false, List, [], ◌∷◌, ◌++◌, length, get_or, Some, None, Option, refl, sym, ap, ◌∙◌, subst, append_assoc, arith, ◌⊎◌, inl, inr}
use Rattle.std.specs.Prelude.{◌↔◌, ◌&&◌, ◌||◌, not, nat_eq, slice_get, Contains}
use Rattle.std.proofs.lemmas.Bool.{true≢false, eqb-true, eq-eqb, and_parts, and_from, or_cases, or_left, or_right, cases_lt, cases_eq, not-true, not_from_false}
use Rattle.std.proofs.lemmas.List.Elements.{Contains-append_cases, Contains-append_left, Contains-append_right}
use Rattle.std.proofs.lemmas.List.{get_or_read}
use Rattle.std.proofs.lemmas.Option.{slice_get_within}
use Rattle.insn_set.specs.Registers.{in_operand, writes_of}
use Rattle.insn_set.specs.Widths.{is_wide_slot}
use Rattle.insn_set.specs.declared.ops.Slot.{Slot}
use Rattle.insn_set.specs.declared.form.Insn.{Insn}
use Rattle.program_model.specs.declared.body.Body.{Body}
use Rattle.flow_cfg.specs.Walks.{successors_of}
use Rattle.walk_marks.specs.Walks.{Comes, Begins, Goes, is_on, row_of}
use Rattle.body_graph.specs.Walks.{insn_at, onward, IsReached}
use Rattle.copy_prop.specs.Stale.{in_copy, in_either, casts, IsSpoilt}
use Rattle.copy_prop.specs.Stale as stale
use Rattle.copy_prop.specs.Searches.{AreRows, AreSteps, AreSpoilt, onward_from, touches, when, spoils, seeds_to}
use Rattle.copy_prop.specs.declared.steps.Steps.{Steps}
use Rattle.copy_prop.specs.declared.copied.Copied.{Copied}
use Rattle.copy_prop.proofs.Rows.{to_step, from_step}
use Rattle.copy_prop.proofs.Reached.{none_in, only_in, one_in}

-- ---- a register of a copy that passes a test

at_test : (p : ℕ → Bool) (r s : ℕ) → nat_eq r s ≡ true → p r ≡ true → p s ≡ true
at_test p r s e h = subst (λ n. p n ≡ true) (eqb-true r s e) h

same_number : (n : ℕ) → nat_eq n n ≡ true
same_number n = eq-eqb n n refl

in_one : (p : ℕ → Bool) (w : Bool) (at r : ℕ) → in_operand w at r ≡ true → p r ≡ true → (p at || (w && p (at + 1))) ≡ true
in_one p false at r i h = or_left (p at) false (at_test p r at i h)
in_one p true at r i h = elim (or_cases (nat_eq r at) (nat_eq r (at + 1)) i) [
  | inl e ↦ or_left (p at) (p (at + 1)) (at_test p r at e h)
  | inr e ↦ or_right (p at) (p (at + 1)) (at_test p r (at + 1) e h)
]

first_in : (w : Bool) (at : ℕ) → in_operand w at at ≡ true
first_in false at = same_number at
first_in true at = or_left (nat_eq at at) (nat_eq at (at + 1)) (same_number at)

second_in : (at : ℕ) → in_operand true at (at + 1) ≡ true
second_in at = or_right (nat_eq (at + 1) at) (nat_eq (at + 1) (at + 1)) (same_number (at + 1))

swap_or : (a b c w : Bool) (d : Bool) → ((a || (w && c)) || (b || (w && d))) ≡ true → ((a || b) || (w && (c || d))) ≡ true
swap_or true b c w d h = refl
swap_or false true c w d h = refl
swap_or false false c false d h = h
swap_or false false true true d h = refl
swap_or false false false true d h = h

pub some_touch : (p : ℕ → Bool) (slot : Slot) (to from r : ℕ) → (in_either slot to from r && p r) ≡ true → touches p slot to from ≡ true
some_touch p slot to from r h =
    let parts : (in_either slot to from r ≡ true) × (p r ≡ true) = and_parts (in_either slot to from r) (p r) h in
    swap_or (p to) (p from) (p (to + 1)) (is_wide_slot slot) (p (from + 1)) (elim (or_cases (in_copy slot to r) (in_copy slot from r) parts.0) [
      | inl i ↦ or_left _ (p from || (is_wide_slot slot && p (from + 1))) (in_one p (is_wide_slot slot) to r i parts.1)
      | inr i ↦ or_right (p to || (is_wide_slot slot && p (to + 1))) _ (in_one p (is_wide_slot slot) from r i parts.1)
    ])

either_left : (p : ℕ → Bool) (slot : Slot) (to from r : ℕ) → in_copy slot to r ≡ true → p r ≡ true → (in_either slot to from r && p r) ≡ true
either_left p slot to from r i h = and_from (in_either slot to from r) (p r) (or_left (in_copy slot to r) (in_copy slot from r) i) h

either_right : (p : ℕ → Bool) (slot : Slot) (to from r : ℕ) → in_copy slot from r ≡ true → p r ≡ true → (in_either slot to from r && p r) ≡ true
either_right p slot to from r i h = and_from (in_either slot to from r) (p r) (or_right (in_copy slot to r) (in_copy slot from r) i) h

pub touch_some : (p : ℕ → Bool) (slot : Slot) (to from : ℕ) → touches p slot to from ≡ true → (r : ℕ) × ((in_either slot to from r && p r) ≡ true)
touch_some p slot to from h = elim (or_cases (p to || p from) (is_wide_slot slot && (p (to + 1) || p (from + 1))) h) [
  | inl first ↦ elim (or_cases (p to) (p from) first) [
    | inl t ↦ (to, either_left p slot to from to (first_in (is_wide_slot slot) to) t)
    | inr t ↦ (from, either_right p slot to from from (first_in (is_wide_slot slot) from) t)
  ]
  | inr second ↦
      let parts : (is_wide_slot slot ≡ true) × ((p (to + 1) || p (from + 1)) ≡ true) = and_parts (is_wide_slot slot) (p (to + 1) || p (from + 1)) second in
      elim (or_cases (p (to + 1)) (p (from + 1)) parts.1) [
        | inl t ↦ (to + 1, either_left p slot to from (to + 1) (subst (λ w. in_operand w to (to + 1) ≡ true) (sym parts.0) (second_in to)) t)
        | inr t ↦ (from + 1, either_right p slot to from (from + 1) (subst (λ w. in_operand w from (from + 1) ≡ true) (sym parts.0) (second_in from)) t)
      ]
]

-- ---- what a search begins with

when_is : (t : Bool) (xs : List ℕ) (m : ℕ) → Contains (when t xs) m → (t ≡ true) × Contains xs m
when_is true xs m i = (refl, i)
when_is false xs m i = absurd (none_in m i)

is_when : (t : Bool) (xs : List ℕ) (m : ℕ) → t ≡ true → Contains xs m → Contains (when t xs) m
is_when t xs m e i = subst (λ v. Contains (when v xs) m) (sym e) i

module _ (b : Body) (s : Steps) (steps : AreSteps b s) (c : Copied) where
  reached_is : (n : ℕ) (f : Insn) → insn_at b n ≡ Some f → is_on s.reached.items n ≡ true → IsReached b n
  reached_is n f h on = (steps.reached n (slice_get_within b.insns n f h)).0 on

  is_reached : (n : ℕ) (f : Insn) → insn_at b n ≡ Some f → IsReached b n → is_on s.reached.items n ≡ true
  is_reached n f h r = (steps.reached n (slice_get_within b.insns n f h)).1 r

  spoils_in : (n m : ℕ) (o : Option Insn) → insn_at b n ≡ o → Contains (spoils b s.reached.items c n o) m → IsSpoilt b c.at c.slot c.to c.from m
  spoils_in n m None h i = absurd (none_in m i)
  spoils_in n m (Some f) h i = elim (Contains-append_cases (when (is_on s.reached.items n && (not (nat_eq n c.at) && touches (writes_of f) c.slot c.to c.from)) (onward f n)) (when (is_on s.reached.items n && touches (casts f) c.slot c.to c.from) (successors_of b n)) m i) [
    | inl j ↦
        let k : ((is_on s.reached.items n && (not (nat_eq n c.at) && touches (writes_of f) c.slot c.to c.from)) ≡ true) × Contains (onward f n) m = when_is _ (onward f n) m j in
        let p : (is_on s.reached.items n ≡ true) × ((not (nat_eq n c.at) && touches (writes_of f) c.slot c.to c.from) ≡ true) = and_parts _ _ k.0 in
        let q : (not (nat_eq n c.at) ≡ true) × (touches (writes_of f) c.slot c.to c.from ≡ true) = and_parts _ _ p.1 in
        let t : (r : ℕ) × ((in_either c.slot c.to c.from r && writes_of f r) ≡ true) = touch_some (writes_of f) c.slot c.to c.from q.1 in
        stale.Written n m t.0 f (not-true (nat_eq n c.at) q.0) (reached_is n f h p.0) h t.1 k.1
    | inr j ↦
        let k : ((is_on s.reached.items n && touches (casts f) c.slot c.to c.from) ≡ true) × Contains (successors_of b n) m = when_is _ (successors_of b n) m j in
        let p : (is_on s.reached.items n ≡ true) × (touches (casts f) c.slot c.to c.from ≡ true) = and_parts _ _ k.0 in
        let t : (r : ℕ) × ((in_either c.slot c.to c.from r && casts f r) ≡ true) = touch_some (casts f) c.slot c.to c.from p.1 in
        stale.Cast n m t.0 f (reached_is n f h p.0) h t.1 k.1
  ]

  seeds_in : (k m : ℕ) → Contains (seeds_to b s.reached.items c k) m → IsSpoilt b c.at c.slot c.to c.from m
  seeds_in zero m i = subst (λ n. IsSpoilt b c.at c.slot c.to c.from n) (only_in m 0 i) stale.Begins
  seeds_in (suc k) m i = elim (Contains-append_cases (seeds_to b s.reached.items c k) (spoils b s.reached.items c k (insn_at b k)) m i) [
    | inl j ↦ seeds_in k m j
    | inr j ↦ spoils_in k m (insn_at b k) refl j
  ]

  entry_in : (k : ℕ) → Contains (seeds_to b s.reached.items c k) 0
  entry_in zero = one_in 0
  entry_in (suc k) = Contains-append_left (seeds_to b s.reached.items c k) (spoils b s.reached.items c k (insn_at b k)) 0 (entry_in k)

  in_seeds : (k n m : ℕ) → n < k → Contains (spoils b s.reached.items c n (insn_at b n)) m → Contains (seeds_to b s.reached.items c k) m
  in_seeds zero n m lt i = absurd (omega arith)
  in_seeds (suc k) n m lt i = at (cases_eq n k) (λ below. in_seeds k n m below i)
    where
      at : (n ≡ k) ⊎ (n ≡ k → ⊥) → (n < k → Contains (seeds_to b s.reached.items c k) m) → Contains (seeds_to b s.reached.items c (suc k)) m
      at (inl e) h = Contains-append_right (seeds_to b s.reached.items c k) (spoils b s.reached.items c k (insn_at b k)) m (subst (λ j. Contains (spoils b s.reached.items c j (insn_at b j)) m) e i)
      at (inr ne) h = Contains-append_left (seeds_to b s.reached.items c k) (spoils b s.reached.items c k (insn_at b k)) m (h (omega arith))

  seed : (n m : ℕ) (f : Insn) → insn_at b n ≡ Some f → Contains (spoils b s.reached.items c n (Some f)) m → Contains (seeds_to b s.reached.items c (length b.insns)) m
  seed n m f h i = in_seeds (length b.insns) n m (slice_get_within b.insns n f h) (subst (λ o. Contains (spoils b s.reached.items c n o) m) (sym h) i)

  to_spoilt : (n : ℕ) → Comes s.rows.items (λ n m. not (nat_eq n c.at)) (seeds_to b s.reached.items c (length b.insns)) n → IsSpoilt b c.at c.slot c.to c.from n
  to_spoilt n (Begins _ i) = seeds_in (length b.insns) n i
  to_spoilt n (Goes m _ w i e) = stale.Stays m n (not-true (nat_eq m c.at) e) (to_spoilt m w) (to_step b s.rows.items s.fronts.items s.backs.items steps.rows m n i)

  from_spoilt : (n : ℕ) → IsSpoilt b c.at c.slot c.to c.from n → Comes s.rows.items (λ n m. not (nat_eq n c.at)) (seeds_to b s.reached.items c (length b.insns)) n
  from_spoilt _ stale.Begins = Begins 0 (entry_in (length b.insns))
  from_spoilt m (stale.Stays n _ e w i) = Goes n m (from_spoilt n w) (from_step b s.rows.items s.fronts.items s.backs.items steps.rows n m i) (not_from_false (nat_eq n c.at) e)
  from_spoilt m (stale.Written n _ r f e reach h t i) = Begins m (seed n m f h (Contains-append_left (when _ (onward f n)) (when _ (successors_of b n)) m
      (is_when _ (onward f n) m (and_from (is_on s.reached.items n) _ (is_reached n f h reach) (and_from (not (nat_eq n c.at)) (touches (writes_of f) c.slot c.to c.from) (not_from_false (nat_eq n c.at) e) (some_touch (writes_of f) c.slot c.to c.from r t))) i)))
  from_spoilt m (stale.Cast n _ r f reach h t i) = Begins m (seed n m f h (Contains-append_right (when _ (onward f n)) (when _ (successors_of b n)) m
      (is_when _ (successors_of b n) m (and_from (is_on s.reached.items n) (touches (casts f) c.slot c.to c.from) (is_reached n f h reach) (some_touch (casts f) c.slot c.to c.from r t)) i)))

  -- what is found behind a position is added in two parts
  pub spoils_added : (n : ℕ) (f : Insn) (x y : Bool) (old mid new front row : List ℕ) → insn_at b n ≡ Some f → x ≡ (is_on s.reached.items n && (not (nat_eq n c.at) && touches (writes_of f) c.slot c.to c.from)) → y ≡ (is_on s.reached.items n && touches (casts f) c.slot c.to c.from)
      → front ≡ get_or s.fronts.items n front → row ≡ get_or s.rows.items n row → mid ≡ old ++ when x front → new ≡ mid ++ when y row → new ≡ old ++ spoils b s.reached.items c n (insn_at b n)
  spoils_added n f x y old mid new front row h ex ey ef er em en =
      let lt : n < length b.insns = slice_get_within b.insns n f h in
      let goes : front ≡ onward f n = get_or_read s.fronts.items n front (omega (arith, steps.rows.fronts_long)) ef [] ∙ steps.rows.fronts_are n lt ∙ ap (λ o. onward_from o n) h in
      let steps_to : row ≡ successors_of b n = get_or_read s.rows.items n row (omega (arith, steps.rows.rows_long)) er [] ∙ steps.rows.rows_are n lt in
      let one : mid ≡ old ++ when (is_on s.reached.items n && (not (nat_eq n c.at) && touches (writes_of f) c.slot c.to c.from)) (onward f n) = em ∙ ap (λ v. old ++ when v front) ex ∙ ap (λ xs. old ++ when (is_on s.reached.items n && (not (nat_eq n c.at) && touches (writes_of f) c.slot c.to c.from)) xs) goes in
      let two : new ≡ mid ++ when (is_on s.reached.items n && touches (casts f) c.slot c.to c.from) (successors_of b n) = en ∙ ap (λ v. mid ++ when v row) ey ∙ ap (λ xs. mid ++ when (is_on s.reached.items n && touches (casts f) c.slot c.to c.from) xs) steps_to in
      two ∙ ap (λ xs. xs ++ when (is_on s.reached.items n && touches (casts f) c.slot c.to c.from) (successors_of b n)) one
      ∙ append_assoc old (when (is_on s.reached.items n && (not (nat_eq n c.at) && touches (writes_of f) c.slot c.to c.from)) (onward f n)) (when (is_on s.reached.items n && touches (casts f) c.slot c.to c.from) (successors_of b n))
      ∙ ap (λ o. old ++ spoils b s.reached.items c n o) (sym h)

  pub spoilt_found : (rows : List (List ℕ)) (seeds : List ℕ) (marks : List Bool) → rows ≡ s.rows.items → seeds ≡ seeds_to b s.reached.items c (length b.insns) → length marks ≡ length rows
      → ((n : ℕ) → n < length rows → (is_on marks n ≡ true) ↔ Comes rows (λ n m. not (nat_eq n c.at)) seeds n) → AreSpoilt b c marks
  spoilt_found rows seeds marks same is long exact = record {
    long = long ∙ ap length same ∙ steps.rows.rows_long;
    are = λ n lt.
        let i : n < length rows = omega (arith, ap length same, steps.rows.rows_long) in
        let t : (is_on marks n ≡ true) ↔ Comes rows (λ n m. not (nat_eq n c.at)) seeds n = exact n i in
        let u : (is_on marks n ≡ true) ↔ Comes s.rows.items (λ n m. not (nat_eq n c.at)) (seeds_to b s.reached.items c (length b.insns)) n =
        subst (λ ys. (is_on marks n ≡ true) ↔ Comes ys (λ n m. not (nat_eq n c.at)) (seeds_to b s.reached.items c (length b.insns)) n) same (subst (λ xs. (is_on marks n ≡ true) ↔ Comes rows (λ n m. not (nat_eq n c.at)) xs n) is t) in
        (λ h. to_spoilt n (u.0 h), λ h. u.1 (from_spoilt n h));
  }
