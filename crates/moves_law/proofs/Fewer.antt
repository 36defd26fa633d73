-- In a body that reads what went through no more Moves nothing went through more.
use Rattle.std.proofs.Common.{◌≡◌, ℕ, suc, ◌+◌, ◌≤◌, Bool, true, false, nat_eq, List, Some, sym, subst, arith}
use Rattle.std.specs.Prelude.{if◌then◌else◌}
use Rattle.insn_set.specs.Registers.{writes_of}
use Rattle.insn_set.specs.declared.ops.Slot.{Slot}
use Rattle.insn_set.specs.declared.ops.Slot.TheVariants as slots
use Rattle.insn_set.specs.declared.form.Insn.{Insn}
use Rattle.insn_set.specs.declared.form.Insn.TheVariants as insn
use Rattle.program_model.specs.declared.body.Body.{Body}
use Rattle.insn_regs.specs.Remade.{remade}
use Rattle.body_graph.specs.Walks.{insn_at}
use Rattle.copy_prop.specs.Stale.{in_copy, instead}
use Rattle.moves_law.specs.Histories.{Step, IsPath, left_by, moves, ReadsNoLater}

-- halves of a wide are moved together
abbrev Together : (ℕ → ℕ) → Insn → Type 0
Together s (insn.Move slots.Wide to from) = s (from + 1) ≡ s from + 1
Together s f = Unit {0}

module _ (s h k : ℕ → ℕ) (less : (x : ℕ) → h x ≤ k x) (fewer : (x : ℕ) → k (s x) ≤ k x) where
  at_most : (x : ℕ) → h (s x) ≤ k x
  at_most x = let a = less (s x) in let b = fewer x in omega (arith, a, b)

  -- what a Move writes
  moved : (slot : Slot) (to from r : ℕ) → Together s (insn.Move slot to from) → h (instead slot to (s from) r) ≤ k (instead slot to from r)
  moved slots.Wide to from r pair = by (nat_eq r to) (nat_eq r (to + 1))
    where
      by : (u v : Bool) → h (if u then s from else if v then s from + 1 else r) ≤ k (if u then from else if v then from + 1 else r)
      by true v = at_most from
      by false true = subst (λ x. h x ≤ k (from + 1)) pair (at_most (from + 1))
      by false false = less r
  moved slots.Word to from r pair = by (nat_eq r to)
    where
      by : (u : Bool) → h (if u then s from else r) ≤ k (if u then from else r)
      by true = at_most from
      by false = less r
  moved slots.Object to from r pair = by (nat_eq r to)
    where
      by : (u : Bool) → h (if u then s from else r) ≤ k (if u then from else r)
      by true = at_most from
      by false = less r

  anew : (v : Bool) (r : ℕ) → (if v then 0 else h r) ≤ (if v then 0 else k r)
  anew true r = omega arith
  anew false r = less r

  once_more : (v : Bool) (x y r : ℕ) → x ≤ y → (if v then suc x else h r) ≤ (if v then suc y else k r)
  once_more true x y r l = omega (arith, l)
  once_more false x y r l = less r

  step : (f : Insn) → Together s f → (r : ℕ) → left_by (Some (remade s (λ r. r) f)) h r ≤ left_by (Some f) k r
  step (insn.Move slot to from) pair r = once_more (in_copy slot to r) (h (instead slot to (s from) r)) (k (instead slot to from r)) r (moved slot to from r pair)
  step insn.Nop pair r = anew (writes_of insn.Nop r) r
  step f pair r = anew (writes_of f r) r

module _ (b d : Body) (reads : ReadsNoLater b d) where
  together : (n : ℕ) (f : Insn) → insn_at b n ≡ Some f → Together (reads.new n) f
  together n (insn.Move slots.Wide to from) e = reads.pairs n to from e
  together n (insn.Move slots.Word to from) e = tt
  together n (insn.Move slots.Object to from) e = tt
  together n insn.Nop e = tt
  together n f e = tt

  pub fewer : (ss : List Step) (n : ℕ) → IsPath b ss n → (r : ℕ) → moves d ss r ≤ moves b ss r
  fewer _ _ IsPath.Begins r = omega arith
  fewer _ _ (IsPath.On ss n m f w e c) r =
      subst (λ o. left_by o (moves d ss) r ≤ left_by (insn_at b n) (moves b ss) r) (sym (reads.insns n f e))
      (subst (λ o. left_by (Some (remade (reads.new n) (λ r. r) f)) (moves d ss) r ≤ left_by o (moves b ss) r) (sym e)
      (step (reads.new n) (moves d ss) (moves b ss) (fewer ss n w) (reads.fewer ss n w) f (together n f e) r))
  fewer _ _ (IsPath.Thrown ss n m f w e c) r = fewer ss n w r
