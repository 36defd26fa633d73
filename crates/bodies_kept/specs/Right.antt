-- Wishes whose fates are tidy.
use Rattle.std.specs.Prelude.{◌≡◌, ℕ, zero, suc, ◌<◌, ◌≤◌, Bool, true, false, List, length, Some, slice_get, Contains}
use Rattle.insn_set.specs.Flow.{goes_on, targets_of}
use Rattle.insn_set.specs.declared.form.Insn.{Insn}
use Rattle.insn_set.specs.declared.form.Insn.TheVariants as insn
use Rattle.insn_set.specs.declared.ops.Slot.{Slot}
use Rattle.program_model.specs.BodyRules.{has_result, handles_at}
use Rattle.program_model.specs.declared.body.Body.{Body}
use Rattle.program_model.specs.declared.body.Handler.{Handler}
use Rattle.program_model.specs.declared.body.Region.{Region}
use Rattle.pass_defs.specs.Thinned.{Fate as Meant}
use Rattle.body_edit.specs.Fates.{fates_of}
use Rattle.body_edit.specs.declared.fate.Fate.{Fate}
use Rattle.body_edit.specs.declared.fate.Fate.TheVariants.{Stays}
use Rattle.thin_pass.specs.Wishing.{wish_at, is_to_go, fates_from}

-- the fates that come of the wishes for a body
abbrev pub fates_by : List Fate → Body → List Meant
fates_by ws b = fates_of (fates_from b.insns ws 0 (length b.insns))

-- a position that is lost without harm goes on to the next one and gives no result, or is a goto to the next one
pub data PassesOn (n : ℕ) : Insn → Type 0 where
  On : (i : Insn) → goes_on i ≡ true → has_result i ≡ false → PassesOn n i
  Next : PassesOn n (insn.Goto (suc n))

-- a region with a handler at a position: some position that it covers is not to go, and its handlers are marked
pub record StillCatches (marks : ℕ → Bool) (ws : List Fate) (b : Body) (n : ℕ) : Type 0 where
  pub region : Region
  pub has_region : Contains b.regions region
  pub handles : handles_at n region ≡ true
  pub covered : ℕ
  pub first : region.first ≤ covered
  pub end : covered < region.end
  pub insn : Insn
  pub has_insn : slice_get b.insns covered ≡ Some insn
  pub stays : is_to_go ws covered ≡ false
  pub marked : (h : Handler) → Contains region.handlers h → marks h.position ≡ true
  pub rest : (k : ℕ) → region.rest ≡ Some k → marks k ≡ true

-- The marks are closed: the entry has one, and so has each position where a marked one goes on. What is not to go is marked, and
-- what is marked and not to stay is lost without harm; what gives a result that is taken is to stay, and so is something that is
-- covered by a region of each MoveException that is to stay.
pub record AreRight (marks : ℕ → Bool) (ws : List Fate) (b : Body) : Type 0 where
  pub entry : marks 0 ≡ true
  pub next : (n : ℕ) (i : Insn) → marks n ≡ true → slice_get b.insns n ≡ Some i → goes_on i ≡ true → marks (suc n) ≡ true
  pub targets : (n t : ℕ) (i : Insn) → marks n ≡ true → slice_get b.insns n ≡ Some i → Contains (targets_of i) t → marks t ≡ true
  pub left : (n : ℕ) (i : Insn) → slice_get b.insns n ≡ Some i → is_to_go ws n ≡ false → marks n ≡ true
  pub loses : (n : ℕ) (i : Insn) → marks n ≡ true → slice_get b.insns n ≡ Some i → (wish_at ws n ≡ Stays → ⊥) → PassesOn n i
  pub results : (n to : ℕ) (s : Slot) (i : Insn) → marks (suc n) ≡ true → slice_get b.insns (suc n) ≡ Some (insn.MoveResult s to) → slice_get b.insns n ≡ Some i → wish_at ws n ≡ Stays
  pub caught : (n to : ℕ) → marks n ≡ true → slice_get b.insns n ≡ Some (insn.MoveException to) → wish_at ws n ≡ Stays → StillCatches marks ws b n
