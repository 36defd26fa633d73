-- The rules of a body, one by one.
use Rattle.std.proofs.Common.{◌≡◌, ℕ, suc, ◌+◌, ◌-◌, ◌<◌, ◌≤◌, Bool, true, true≢false, List, length, refl, sym, ap, ◌∙◌, arith}
use Rattle.std.specs.Prelude.{◌&&◌, not, Option, Some, None, slice_get, Contains, nat_lt, nat_le}
use Rattle.std.specs.List.{list_all, enumerate_from}
use Rattle.lemmas.proofs.Bools.{and_right, clash}
use Rattle.lemmas.proofs.Lists.{all_in, got_short}
use Rattle.insn_set.specs.Flow.{goes_on, targets_of}
use Rattle.insn_set.specs.Spelling.{is_encodable}
use Rattle.insn_set.specs.declared.form.Insn.{Insn}
use Rattle.program_model.specs.Neighbours.{neighbours}
use Rattle.program_model.specs.OperandRules.{registers_fit, numbers_fit}
use Rattle.program_model.specs.RegionRules.{may_begin, handler_fits, rest_fits, catches, region_fits, are_apart, regions_fit}
use Rattle.program_model.specs.BodyRules.{ends, may_follow, follows, may_enter, targets_fit, leaves, is_caught, insn_fits, body_fits}
use Rattle.program_model.specs.Texts.{has_type}
use Rattle.program_model.specs.declared.body.Body.{Body}
use Rattle.program_model.specs.declared.body.Handler.{Handler}
use Rattle.program_model.specs.declared.body.Region.{Region}
use Rattle.program_model.specs.declared.program.Program.{Program}
use Rattle.program_laws.proofs.ChangedLists.{and_left}
use Rattle.thin_laws.proofs.PlacesLeft.{get_none, numbered_at, beside}

none_plus : (n : ℕ) → n ≡ 0 + n
none_plus n = omega arith

at_end : (a n : ℕ) → n < a → a ≤ suc n → a - 1 ≡ n
at_end a n l m = omega arith

module _ (p : Program) (b : Body) (fits : body_fits p b ≡ true) where
  -- ---- the rules of the body

  rules : (list_all follows (neighbours b.insns) && (list_all (insn_fits p b) (enumerate_from 0 b.insns) && regions_fit p b.insns b.regions)) ≡ true
  unfolding body_fits
  rules = and_right (may_begin (slice_get b.insns 0) && ends (slice_get b.insns (length b.insns - 1))) (list_all follows (neighbours b.insns) && (list_all (insn_fits p b) (enumerate_from 0 b.insns) && regions_fit p b.insns b.regions)) fits

  bounds : (may_begin (slice_get b.insns 0) && ends (slice_get b.insns (length b.insns - 1))) ≡ true
  unfolding body_fits
  bounds = and_left (may_begin (slice_get b.insns 0) && ends (slice_get b.insns (length b.insns - 1))) (list_all follows (neighbours b.insns) && (list_all (insn_fits p b) (enumerate_from 0 b.insns) && regions_fit p b.insns b.regions)) fits

  pub first_begins : may_begin (slice_get b.insns 0) ≡ true
  first_begins = and_left (may_begin (slice_get b.insns 0)) (ends (slice_get b.insns (length b.insns - 1))) bounds

  last_ends : ends (slice_get b.insns (length b.insns - 1)) ≡ true
  last_ends = and_right (may_begin (slice_get b.insns 0)) (ends (slice_get b.insns (length b.insns - 1))) bounds

  follow_fits : list_all follows (neighbours b.insns) ≡ true
  follow_fits = and_left (list_all follows (neighbours b.insns)) (list_all (insn_fits p b) (enumerate_from 0 b.insns) && regions_fit p b.insns b.regions) rules

  each_fits : list_all (insn_fits p b) (enumerate_from 0 b.insns) ≡ true
  each_fits = and_left (list_all (insn_fits p b) (enumerate_from 0 b.insns)) (regions_fit p b.insns b.regions)
      (and_right (list_all follows (neighbours b.insns)) (list_all (insn_fits p b) (enumerate_from 0 b.insns) && regions_fit p b.insns b.regions) rules)

  pub all_regions_fit : regions_fit p b.insns b.regions ≡ true
  all_regions_fit = and_right (list_all (insn_fits p b) (enumerate_from 0 b.insns)) (regions_fit p b.insns b.regions)
      (and_right (list_all follows (neighbours b.insns)) (list_all (insn_fits p b) (enumerate_from 0 b.insns) && regions_fit p b.insns b.regions) rules)

  pub follows_at : (n : ℕ) (i j : Insn) → slice_get b.insns n ≡ Some i → slice_get b.insns (suc n) ≡ Some j → may_follow i j ≡ true
  follows_at n i j e d = beside follows b.insns n i j follow_fits e d

  pub fits_at : (n : ℕ) (i : Insn) → slice_get b.insns n ≡ Some i → insn_fits p b (n, i) ≡ true
  fits_at n i e = ap (λ k. insn_fits p b (k, i)) (none_plus n) ∙ numbered_at (insn_fits p b) b.insns 0 n i each_fits e

  pub operands_at : (n : ℕ) (i : Insn) → slice_get b.insns n ≡ Some i → (is_encodable i && (registers_fit i b.registers && numbers_fit i p)) ≡ true
  unfolding insn_fits
  operands_at n i e = and_left (is_encodable i && (registers_fit i b.registers && numbers_fit i p)) (targets_fit b.insns i && (leaves n i && is_caught b.regions n i)) (fits_at n i e)

  pub targets_at : (n : ℕ) (i : Insn) → slice_get b.insns n ≡ Some i → targets_fit b.insns i ≡ true
  unfolding insn_fits
  targets_at n i e = and_left (targets_fit b.insns i) (leaves n i && is_caught b.regions n i)
      (and_right (is_encodable i && (registers_fit i b.registers && numbers_fit i p)) (targets_fit b.insns i && (leaves n i && is_caught b.regions n i)) (fits_at n i e))

  -- a conditional branch leaves its position, and what is caught has a region
  pub leaves_at : (n : ℕ) (i : Insn) → slice_get b.insns n ≡ Some i → leaves n i ≡ true
  unfolding insn_fits
  leaves_at n i e = and_left (leaves n i) (is_caught b.regions n i) (and_right (targets_fit b.insns i) (leaves n i && is_caught b.regions n i)
      (and_right (is_encodable i && (registers_fit i b.registers && numbers_fit i p)) (targets_fit b.insns i && (leaves n i && is_caught b.regions n i)) (fits_at n i e)))

  pub caught_at : (n : ℕ) (i : Insn) → slice_get b.insns n ≡ Some i → is_caught b.regions n i ≡ true
  unfolding insn_fits
  caught_at n i e = and_right (leaves n i) (is_caught b.regions n i) (and_right (targets_fit b.insns i) (leaves n i && is_caught b.regions n i)
      (and_right (is_encodable i && (registers_fit i b.registers && numbers_fit i p)) (targets_fit b.insns i && (leaves n i && is_caught b.regions n i)) (fits_at n i e)))

  -- each region covers some of the positions, and its handlers begin where they may
  each_region : list_all (region_fits p b.insns) b.regions ≡ true
  unfolding regions_fit
  each_region = and_left (list_all (region_fits p b.insns) b.regions) (list_all are_apart (neighbours b.regions)) all_regions_fit

  pub region_at : (r : Region) → Contains b.regions r → region_fits p b.insns r ≡ true
  region_at r c = all_in (region_fits p b.insns) b.regions r c each_region

  pub covers_at : (r : Region) → Contains b.regions r → (nat_lt r.first r.end && nat_le r.end (length b.insns)) ≡ true
  covers_at r c = and_left (nat_lt r.first r.end && nat_le r.end (length b.insns)) (catches r && (list_all (handler_fits p b.insns) r.handlers && rest_fits b.insns r.rest)) (region_at r c)

  inner : (r : Region) → Contains b.regions r → (list_all (handler_fits p b.insns) r.handlers && rest_fits b.insns r.rest) ≡ true
  inner r c = and_right (catches r) (list_all (handler_fits p b.insns) r.handlers && rest_fits b.insns r.rest)
      (and_right (nat_lt r.first r.end && nat_le r.end (length b.insns)) (catches r && (list_all (handler_fits p b.insns) r.handlers && rest_fits b.insns r.rest)) (region_at r c))

  pub rest_of : (r : Region) → Contains b.regions r → rest_fits b.insns r.rest ≡ true
  rest_of r c = and_right (list_all (handler_fits p b.insns) r.handlers) (rest_fits b.insns r.rest) (inner r c)

  pub may_begin_at : (r : Region) → Contains b.regions r → (h : Handler) → Contains r.handlers h → may_begin (slice_get b.insns h.position) ≡ true
  may_begin_at r c h i = and_right (has_type p h.kind) (may_begin (slice_get b.insns h.position))
      (all_in (handler_fits p b.insns) r.handlers h i (and_left (list_all (handler_fits p b.insns) r.handlers) (rest_fits b.insns r.rest) (inner r c)))

  -- ---- one after another

  pub entered : (o : Option Insn) → may_enter o ≡ true → (j : Insn) × ((o ≡ Some j) × (may_enter (Some j) ≡ true))
  entered None e = clash true refl (sym e)
  entered (Some j) e = (j, (refl, e))

  -- what goes on has an instruction behind it
  pub next_there : (n : ℕ) (i : Insn) → slice_get b.insns n ≡ Some i → goes_on i ≡ true → (j : Insn) × ((slice_get b.insns (suc n) ≡ Some j) × (may_follow i j ≡ true))
  next_there n i e g = by (slice_get b.insns (suc n)) refl
    where
      by : (o : Option Insn) → slice_get b.insns (suc n) ≡ o → (j : Insn) × ((o ≡ Some j) × (may_follow i j ≡ true))
      by (Some j) d = (j, (refl, beside follows b.insns n i j follow_fits e d))
      by None d =
          let inside = got_short b.insns n i e in
          let outside = get_none b.insns (suc n) d in
          absurd (true≢false (sym last_ends ∙ ap ends (ap (slice_get b.insns) (at_end (length b.insns) n inside outside) ∙ e) ∙ ap not g))

  pub target_there : (n t : ℕ) (i : Insn) → slice_get b.insns n ≡ Some i → Contains (targets_of i) t → (j : Insn) × ((slice_get b.insns t ≡ Some j) × (may_enter (Some j) ≡ true))
  target_there n t i e m = entered (slice_get b.insns t) (all_in (λ target. may_enter (slice_get b.insns target)) (targets_of i) t m (targets_at n i e))
