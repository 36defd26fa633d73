-- What moves of results and exceptions stand where they may gives of the rules of a body.
use Rattle.std.proofs.Common.{◌≡◌, ℕ, zero, suc, ◌<◌, ◌-◌, Bool, true, false, cond, List, [], ◌∷◌, length, refl, sym, ap, subst, ◌∙◌, arith}
use Rattle.std.specs.Prelude.{◌||◌, not, nat_eq, nat_lt, replicate, slice_get, Option, Some, None}
use Rattle.std.specs.List.{list_all, list_any}
use Rattle.std.proofs.lemmas.Option.{slice_get_within}
use Rattle.std.proofs.lemmas.Bool.{ltb-true, eq-eqb, ne_eqb}
use Rattle.lemmas.proofs.Bools.{and_left, and_right, clash, not_true}
use Rattle.lemmas.proofs.Lists.{any_at}
use Rattle.lemmas.proofs.Numbers.{same_number}
use Rattle.insn_set.specs.Flow.{targets_of}
use Rattle.insn_set.specs.declared.form.Insn.{Insn}
use Rattle.insn_set.specs.declared.form.Insn.TheVariants.{MoveResult, MoveException}
use Rattle.program_model.specs.Neighbours.{neighbours}
use Rattle.program_model.specs.BodyRules as rule
use Rattle.program_model.specs.RegionRules.{may_begin}
use Rattle.program_model.specs.declared.body.Handler.{Handler}
use Rattle.program_model.specs.declared.body.Region.{Region}
use Rattle.code_read.specs.Checks.{targets_inside}
use Rattle.code_read.specs.Marks.{set_targets, set_regions, is_marked, goes_to, is_target, is_rest, catches_at, is_handler}
use Rattle.code_read.specs.Order as read
use Rattle.code_read.proofs.MarkLaws.{targets_say, handlers_say}
use Rattle.read_laws.proofs.BodyLists.{none_there, each, item_of, all_items, pairs_of}

module _ (insns : List Insn) (regions : List Region) (placed : read.all_placed insns regions ≡ true) where
  abbrev targets : List Bool
  targets = set_targets (replicate (length insns) false) insns

  abbrev handlers : List Bool
  handlers = set_regions (replicate (length insns) false) regions

  -- an instruction at its place
  at_place : (k : ℕ) (i : Insn) → slice_get insns k ≡ Some i → read.stands insns targets handlers true (k, i) ≡ true
  at_place k i e = each (λ p. read.stands insns targets handlers true p) insns placed k i e

  follows_at : (k : ℕ) (i : Insn) → slice_get insns k ≡ Some i → read.may_follow insns k (is_target insns k) i ≡ true
  follows_at k i e = subst (λ (t : Bool). read.may_follow insns k t i ≡ true) (targets_say (length insns) insns k (slice_get_within insns k i e))
      (and_left (read.may_follow insns k (is_marked targets k) i) (read.may_handle (is_marked handlers k) i) (at_place k i e))

  handled_at : (k : ℕ) (i : Insn) → slice_get insns k ≡ Some i → read.may_handle (is_handler regions k) i ≡ true
  handled_at k i e = subst (λ (t : Bool). read.may_handle t i ≡ true) (handlers_say (length insns) regions k (slice_get_within insns k i e))
      (and_right (read.may_follow insns k (is_marked targets k) i) (read.may_handle (is_marked handlers k) i) (at_place k i e))

  -- ---- the first instruction

  begins : (i : Insn) → slice_get insns 0 ≡ Some i → read.may_follow insns 0 (is_target insns 0) i ≡ true → may_begin (Some i) ≡ true
  begins (MoveResult slot to) e h = clash false (and_right (not (is_target insns 0)) false h) refl
  begins i e h = refl

  pub first_begins : (i : Insn) → slice_get insns 0 ≡ Some i → may_begin (slice_get insns 0) ≡ true
  first_begins i e = ap may_begin e ∙ begins i e (follows_at 0 i e)

  -- ---- one instruction behind another

  result_behind : (k : ℕ) → read.result_before insns (suc k) ≡ read.some_result (slice_get insns k)
  result_behind k =
      let n : suc k - 1 ≡ k = omega arith in
      ap (λ (b : Bool). cond b false (read.some_result (slice_get insns (suc k - 1)))) (ne_eqb (suc k) 0 (λ h. omega (arith, h))) ∙ ap (λ (n : ℕ). read.some_result (slice_get insns n)) n

  continues_behind : (k : ℕ) → read.continues_into insns (suc k) ≡ read.some_goes_on (slice_get insns k)
  continues_behind k =
      let n : suc k - 1 ≡ k = omega arith in
      ap (λ (b : Bool). cond b false (read.some_goes_on (slice_get insns (suc k - 1)))) (ne_eqb (suc k) 0 (λ h. omega (arith, h))) ∙ ap (λ (n : ℕ). read.some_goes_on (slice_get insns n)) n

  behind : (k : ℕ) (i j : Insn) → slice_get insns k ≡ Some i → read.may_follow insns (suc k) (is_target insns (suc k)) j ≡ true → rule.may_follow i j ≡ true
  behind k i (MoveResult slot to) e h = ap read.some_result (sym e) ∙ sym (result_behind k) ∙ and_right (not (is_target insns (suc k))) (read.result_before insns (suc k)) h
  behind k i (MoveException to) e h = ap (λ (o : Option Insn). not (read.some_goes_on o)) (sym e) ∙ ap not (sym (continues_behind k)) ∙ and_right (not (is_target insns (suc k))) (not (read.continues_into insns (suc k))) h
  behind k i j e h = refl

  pub all_follow : list_all rule.follows (neighbours insns) ≡ true
  all_follow = pairs_of rule.follows insns (λ k i j d e. behind k i j d (follows_at (suc k) j e))

  -- ---- what branches go to

  no_target : (k : ℕ) (o : Option Insn) → o ≡ slice_get insns k → k < length insns → is_target insns k ≡ true → rule.may_enter o ≡ true
  no_target k None e lt is = absurd (none_there insns k lt e)
  no_target k (Some (MoveResult slot to)) e lt is = clash (is_target insns k) is (not_true (is_target insns k) (and_left (not (is_target insns k)) (read.result_before insns k) (follows_at k (MoveResult slot to) (sym e))))
  no_target k (Some (MoveException to)) e lt is = clash (is_target insns k) is (not_true (is_target insns k) (and_left (not (is_target insns k)) (not (read.continues_into insns k)) (follows_at k (MoveException to) (sym e))))
  no_target k (Some i) e lt is = refl

  -- ---- handlers

  no_handler : (k : ℕ) (o : Option Insn) → o ≡ slice_get insns k → k < length insns → is_handler regions k ≡ true → may_begin o ≡ true
  no_handler k None e lt is = absurd (none_there insns k lt e)
  no_handler k (Some (MoveResult slot to)) e lt is = clash (is_handler regions k) is (not_true (is_handler regions k) (handled_at k (MoveResult slot to) (sym e)))
  no_handler k (Some i) e lt is = refl

  pub handler_begins : (k : ℕ) → k < length insns → is_handler regions k ≡ true → may_begin (slice_get insns k) ≡ true
  handler_begins k lt is = no_handler k (slice_get insns k) refl lt is

  same_rest : (o : Option ℕ) (k : ℕ) → is_rest o k ≡ rule.is_rest k o
  same_rest None k = refl
  same_rest (Some p) k = refl

  same_catch : (k : ℕ) (r : Region) → catches_at k r ≡ rule.handles_at k r
  same_catch k r = ap (λ (b : Bool). list_any (λ (h : Handler). nat_eq h.position k) r.handlers || b) (same_rest r.rest k)

  same_handler : (k : ℕ) (rs : List Region) → is_handler rs k ≡ list_any (rule.handles_at k) rs
  same_handler k [] = refl
  same_handler k (r ∷ rs) = ap (λ (b : Bool). b || is_handler rs k) (same_catch k r) ∙ ap (λ (b : Bool). rule.handles_at k r || b) (same_handler k rs)

  caught : (k : ℕ) (i : Insn) → read.may_handle (is_handler regions k) i ≡ true → rule.is_caught regions k i ≡ true
  caught k (MoveException to) h = sym (same_handler k regions) ∙ h
  caught k i h = refl

  pub all_caught : (k : ℕ) (i : Insn) → slice_get insns k ≡ Some i → rule.is_caught regions k i ≡ true
  all_caught k i e = caught k i (handled_at k i e)

  -- ---- targets

  pub targets_enter : (inside : list_all (targets_inside (length insns)) insns ≡ true) (k : ℕ) (i : Insn) → slice_get insns k ≡ Some i → rule.targets_fit insns i ≡ true
  targets_enter inside k i e = all_items (λ target. rule.may_enter (slice_get insns target)) (targets_of i) (λ j t d.
      no_target t (slice_get insns t) refl (ltb-true t (length insns) (item_of (λ t. nat_lt t (length insns)) (targets_of i) (item_of (targets_inside (length insns)) insns inside k i e) j t d))
      (any_at (goes_to t) insns k i e (any_at (λ u. nat_eq u t) (targets_of i) j t d (same_number t))))
