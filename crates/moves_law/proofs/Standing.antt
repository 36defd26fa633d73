-- A copy that stands went through one Move more than its original.
use Rattle.std.proofs.Common.{◌≡◌, ℕ, suc, ◌+◌, Bool, true, false, true≢false, nat_eq, List, ◌∷◌, Some, None, Contains, refl, sym, ap, ◌∙◌, subst, arith, eqb-true, eq-eqb}
use Rattle.std.specs.Prelude.{◌&&◌, ◌||◌, if◌then◌else◌}
use Rattle.std.proofs.lemmas.Bool.{or_left, or_right}
use Rattle.insn_set.specs.Registers.{in_operand, writes_of}
use Rattle.insn_set.specs.Widths.{is_wide_slot}
use Rattle.insn_set.specs.declared.ops.Slot.{Slot}
use Rattle.insn_set.specs.declared.form.Insn.{Insn}
use Rattle.insn_set.specs.declared.form.Insn.TheVariants as insn
use Rattle.program_model.specs.declared.body.Body.{Body}
use Rattle.flow_cfg.specs.Walks.{successors_of}
use Rattle.body_graph.specs.Walks.{insn_at, caught, Walk, IsReached}
use Rattle.body_graph.proofs.Links.{step_on, step_caught}
use Rattle.copy_prop.specs.Stale.{IsCopy, in_copy, in_either, overlaps, instead, IsSpoilt}
use Rattle.moves_law.specs.Histories.{Step, IsPath, written, left_by, moves}

pub clash : {A : Type 0} (b : Bool) → b ≡ true → b ≡ false → A
clash b e f = absurd (true≢false (sym e ∙ f))

pub untrue : (b : Bool) → (b ≡ true → ⊥) → b ≡ false
untrue true h = absurd (h refl)
untrue false h = refl

both : (a b : Bool) → a ≡ true → b ≡ true → (a && b) ≡ true
both true b e f = f
both false b e f = absurd (true≢false (sym e))

or_false : (x y : Bool) → (x || y) ≡ false → (x ≡ false) × (y ≡ false)
or_false false y e = (refl, e)
or_false true y e = absurd (true≢false e)

pub some_same : {A : Type 0} (x y : A) → Some x ≡ Some y → x ≡ y
some_same x y e = ap (λ o. elim o as (λ o. _) [ Some z ↦ z | None ↦ x ]) e

-- ---- walks

walk_more : (next : ℕ → List ℕ) (n m k : ℕ) → Walk next n m → Contains (next m) k → Walk next n k
walk_more next n m k (Walk.Stays _) c = Walk.Goes n k k c (Walk.Stays k)
walk_more next n m k (Walk.Goes _ j _ i w) c = Walk.Goes n j k i (walk_more next j m k w c)

reached : (b : Body) (ss : List Step) (n : ℕ) → IsPath b ss n → IsReached b n
reached b _ _ IsPath.Begins = Walk.Stays 0
reached b _ _ (IsPath.On ss n m f w e c) = walk_more (successors_of b) 0 n m (reached b ss n w) (step_on b n m f e c)
reached b _ _ (IsPath.Thrown ss n m f w e c) = walk_more (successors_of b) 0 n m (reached b ss n w) (step_caught b n m f e c)

-- ---- registers of a copy

-- two pairs that don't overlap
second_out : (to from : ℕ) → in_operand true to from ≡ false → in_operand true from to ≡ false → in_operand true to (from + 1) ≡ false
second_out to from e f = untrue (in_operand true to (from + 1)) (λ z. by (nat_eq (from + 1) to) refl z)
  where
    by : (v : Bool) → nat_eq (from + 1) to ≡ v → (v || nat_eq (from + 1) (to + 1)) ≡ true → ⊥
    by true i z = clash (in_operand true from to) (or_right (nat_eq to from) (nat_eq to (from + 1)) (eq-eqb to (from + 1) (sym (eqb-true (from + 1) to i)))) f
    by false i z = let u = eqb-true (from + 1) (to + 1) z in clash (in_operand true to from) (or_left (nat_eq from to) (nat_eq from (to + 1)) (eq-eqb from to (omega (arith, u)))) e

pub in_first : (v : Bool) (r : ℕ) → in_operand v r r ≡ true
in_first true r = or_left (nat_eq r r) (nat_eq r (r + 1)) (eq-eqb r r refl)
in_first false r = eq-eqb r r refl

pub in_second : (r : ℕ) → in_operand true r (r + 1) ≡ true
in_second r = or_right (nat_eq (r + 1) r) (nat_eq (r + 1) (r + 1)) (eq-eqb (r + 1) (r + 1) refl)

-- where the original of a register is
record Place (v : Bool) (to from q : ℕ) : Type 0 where
  within : in_operand v from q ≡ true
  without : in_operand v to q ≡ false

place : (v : Bool) (to from r : ℕ) → (in_operand v to from || in_operand v from to) ≡ false → in_operand v to r ≡ true → Place v to from (if nat_eq r to then from else if v && nat_eq r (to + 1) then from + 1 else r)
place v to from r apart i = by v (nat_eq r to) (nat_eq r (to + 1)) refl refl apart i
  where
    by : (v u z : Bool) → nat_eq r to ≡ u → nat_eq r (to + 1) ≡ z → (in_operand v to from || in_operand v from to) ≡ false → in_operand v to r ≡ true
        → Place v to from (if u then from else if v && z then from + 1 else r)
    by v true z j k apart i = record { within = in_first v from; without = (or_false (in_operand v to from) (in_operand v from to) apart).0 }
    by true false true j k apart i =
        let o = or_false (in_operand true to from) (in_operand true from to) apart in
        record { within = in_second from; without = second_out to from o.0 o.1 }
    by true false false j k apart i = clash (nat_eq r (to + 1)) (ap (λ u. u || nat_eq r (to + 1)) (sym j) ∙ i) k
    by false false z j k apart i = clash (nat_eq r to) i j

-- ---- steps

kept_by : (f : Insn) (h : ℕ → ℕ) (r : ℕ) → writes_of f r ≡ false → left_by (Some f) h r ≡ h r
kept_by f h r e = ap (λ v. if v then written f h r else h r) e

moved_by : (slot : Slot) (to from : ℕ) (h : ℕ → ℕ) (r : ℕ) → in_copy slot to r ≡ true → left_by (Some (insn.Move slot to from)) h r ≡ suc (h (instead slot to from r))
moved_by slot to from h r e = ap (λ v. if v then suc (h (instead slot to from r)) else h r) e

module _ (b : Body) (at : ℕ) (slot : Slot) (to from : ℕ) (copy : IsCopy b at slot to from) (apart : overlaps slot to from ≡ false) where
  abbrev Has : List Step → Type 0
  Has ss = (r : ℕ) → in_copy slot to r ≡ true → moves b ss r ≡ suc (moves b ss (instead slot to from r))

  original : (r : ℕ) → in_copy slot to r ≡ true → Place (is_wide_slot slot) to from (instead slot to from r)
  original r i = place (is_wide_slot slot) to from r apart i

  -- past the Move
  passed : (ss : List Step) (n : ℕ) → nat_eq n at ≡ true → Has (record { position = n; thrown = false } ∷ ss)
  passed ss n e r i =
      let here : insn_at b n ≡ Some (insn.Move slot to from) = ap (insn_at b) (eqb-true n at e) ∙ copy in
      ap (λ o. left_by o (moves b ss) r) here
      ∙ moved_by slot to from (moves b ss) r i
      ∙ ap suc (sym (ap (λ o. left_by o (moves b ss) (instead slot to from r)) here ∙ kept_by (insn.Move slot to from) (moves b ss) (instead slot to from r) (original r i).without))

  -- past what writes no register of the copy
  unwritten : (ss : List Step) (n : ℕ) (f : Insn) → insn_at b n ≡ Some f → ((r : ℕ) → in_either slot to from r ≡ true → writes_of f r ≡ false) → Has ss → Has (record { position = n; thrown = false } ∷ ss)
  unwritten ss n f e none h r i =
      let q = instead slot to from r in
      ap (λ o. left_by o (moves b ss) r) e
      ∙ kept_by f (moves b ss) r (none r (or_left (in_copy slot to r) (in_copy slot from r) i))
      ∙ h r i
      ∙ ap suc (sym (ap (λ o. left_by o (moves b ss) q) e ∙ kept_by f (moves b ss) q (none q (or_right (in_copy slot to q) (in_copy slot from q) (original r i).within))))

  nothing : (n m : ℕ) (f : Insn) → f ≡ insn.Move slot to from → Contains (caught b f n) m → ⊥
  nothing n m f e c = let i = subst (λ f. Contains (caught b f n) m) e c in let lt = i.1 in omega (arith, lt)

  pub stands : (ss : List Step) (n : ℕ) → IsPath b ss n → (IsSpoilt b at slot to from n → ⊥) → Has ss
  stands _ _ IsPath.Begins kept = absurd (kept IsSpoilt.Begins)
  stands _ _ (IsPath.On ss n m f w e c) kept = by (nat_eq n at) refl (stands ss n w)
    where
      by : (v : Bool) → nat_eq n at ≡ v → ((IsSpoilt b at slot to from n → ⊥) → Has ss) → Has (record { position = n; thrown = false } ∷ ss)
      by true i more = passed ss n i
      by false i more = unwritten ss n f e
          (λ r z. untrue (writes_of f r) (λ y. kept (IsSpoilt.Written n m r f i (reached b ss n w) e (both (in_either slot to from r) (writes_of f r) z y) c)))
          (more (λ k. kept (IsSpoilt.Stays n m i k (step_on b n m f e c))))
  stands _ _ (IsPath.Thrown ss n m f w e c) kept = by (nat_eq n at) refl (stands ss n w)
    where
      by : (v : Bool) → nat_eq n at ≡ v → ((IsSpoilt b at slot to from n → ⊥) → Has ss) → Has (record { position = n; thrown = true } ∷ ss)
      by true i more = absurd (nothing n m f (some_same f (insn.Move slot to from) (sym e ∙ ap (insn_at b) (eqb-true n at i) ∙ copy)) c)
      by false i more = more (λ k. kept (IsSpoilt.Stays n m i k (step_caught b n m f e c)))
