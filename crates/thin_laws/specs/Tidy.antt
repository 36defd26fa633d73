-- Fates under which a body that keeps the rules of bodies still keeps them.
use Rattle.std.specs.Prelude.{◌≡◌, ℕ, suc, ◌<◌, ◌≤◌, Bool, true, false, List, length, Some, slice_get, Contains}
use Rattle.insn_set.specs.Flow.{goes_on, targets_of}
use Rattle.insn_set.specs.declared.form.Insn.{Insn}
use Rattle.insn_set.specs.declared.ops.Slot.{Slot}
use Rattle.insn_set.specs.declared.form.Insn.TheVariants as insn
use Rattle.program_model.specs.BodyRules.{has_result, leaves, handles_at}
use Rattle.program_model.specs.declared.body.Body.{Body}
use Rattle.program_model.specs.declared.body.Handler.{Handler}
use Rattle.program_model.specs.declared.body.Region.{Region}
use Rattle.pass_defs.specs.Thinned.{Fate, Stays, Goes, stays, place, insn_retargeted}

-- a position that is passed: it goes on to the next one and gives no result, or it is a goto over positions that go
pub data Passes (fs : List Fate) (n : ℕ) : Insn → Type 0 where
  On : (i : Insn) → goes_on i ≡ true → has_result i ≡ false → Passes fs n i
  Over : (t : ℕ) → n < t → place fs t ≡ place fs (suc n) → Passes fs n (insn.Goto t)

-- a region with a handler at a position: some position that it covers is left, and its handlers are marked
pub record Catches (marks : ℕ → Bool) (fs : List Fate) (b : Body) (n : ℕ) : Type 0 where
  pub region : Region
  pub has_region : Contains b.regions region
  pub handles : handles_at n region ≡ true
  pub covered : ℕ
  pub first : region.first ≤ covered
  pub end : covered < region.end
  pub fate : Fate
  pub has_fate : slice_get fs covered ≡ Some fate
  pub is_left : fate ≡ Goes → ⊥
  pub marked : (h : Handler) → Contains region.handlers h → marks h.position ≡ true
  pub rest : (k : ℕ) → region.rest ≡ Some k → marks k ≡ true

-- The marks are closed: the entry has one, and so has each position where a marked one goes on. What is left is marked, and
-- what is marked and doesn't stay is passed.
pub record IsTidy (marks : ℕ → Bool) (fs : List Fate) (b : Body) : Type 0 where
  pub long : length fs ≡ length b.insns
  pub entry : marks 0 ≡ true
  pub next : (n : ℕ) (i : Insn) → marks n ≡ true → slice_get b.insns n ≡ Some i → goes_on i ≡ true → marks (suc n) ≡ true
  pub targets : (n t : ℕ) (i : Insn) → marks n ≡ true → slice_get b.insns n ≡ Some i → Contains (targets_of i) t → marks t ≡ true
  pub left : (n : ℕ) (f : Fate) → slice_get fs n ≡ Some f → (f ≡ Goes → ⊥) → marks n ≡ true
  pub passed : (n : ℕ) (i : Insn) (f : Fate) → marks n ≡ true → slice_get b.insns n ≡ Some i → slice_get fs n ≡ Some f → stays f ≡ false → Passes fs n i
  -- what gives a result that is taken stays
  pub results : (n to : ℕ) (s : Slot) → slice_get fs (suc n) ≡ Some Stays → slice_get b.insns (suc n) ≡ Some (insn.MoveResult s to) → slice_get fs n ≡ Some Stays
  -- no conditional branch is left that goes to itself
  pub leaves : (n : ℕ) (i : Insn) → slice_get fs n ≡ Some Stays → slice_get b.insns n ≡ Some i → leaves (place fs n) (insn_retargeted (place fs) i) ≡ true
  -- each MoveException that stays is a handler of a region that still covers something
  pub caught : (n to : ℕ) → slice_get fs n ≡ Some Stays → slice_get b.insns n ≡ Some (insn.MoveException to) → Catches marks fs b n
