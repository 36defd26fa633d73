-- The rules of a body, one by one, of a body that was read.
use Rattle.std.proofs.Common.{◌≡◌, ℕ, ◌<◌, ◌≤◌, ◌-◌, arith, true, false, List, [], ◌∷◌, length, refl, sym, subst}
use Rattle.std.specs.Prelude.{◌&&◌, ◌^◌, slice_get, Option, Some, None, Ok}
use Rattle.std.specs.List.{list_all, enumerate_from}
use Rattle.lemmas.proofs.Bools.{clash}
use Rattle.lemmas.proofs.Lists.{all_more}
use Rattle.insn_set.specs.declared.form.Insn.{Insn}
use Rattle.program_model.specs.Neighbours.{neighbours}
use Rattle.program_model.specs.BodyRules as rule
use Rattle.program_model.specs.RegionRules as region
use Rattle.program_model.specs.declared.body.Body.{Body}
use Rattle.code_read.specs.Checks.{operands_inside, targets_inside}
use Rattle.code_read.specs.Positions.{nowhere}
use Rattle.code_read.specs.Order as read
use Rattle.code_read.specs.declared.sizes.Sizes.{Sizes}
use Rattle.code_read.specs.Sweep.{Places, sweep_of}
use Rattle.program_model.specs.OperandRules.{registers_fit, numbers_fit}
use Rattle.program_model.specs.declared.program.Program.{Program}
use Rattle.read_laws.specs.Tables.{AreWithin}
use Rattle.read_laws.proofs.BodyLists.{all_each, all_items, item_of}
use Rattle.read_laws.proofs.BodyParts.{Parts}
use Rattle.read_laws.proofs.Caught.{all_right}
use Rattle.read_laws.proofs.Fewer.{few_starts}
use Rattle.read_laws.proofs.Leaving.{insn_leaves}
use Rattle.read_laws.proofs.Covering.{regions_fit}
use Rattle.read_laws.proofs.Operands.{are_read, as_many, start_of, operands_fit, each_inside}
use Rattle.read_laws.proofs.Standing.{first_begins, all_follow, targets_enter, all_caught}

-- there is a first instruction where there is a last one
begins : (insns : List Insn) → read.ends (slice_get insns (length insns - 1)) ≡ true → ((i : Insn) → slice_get insns 0 ≡ Some i → region.may_begin (slice_get insns 0) ≡ true) → region.may_begin (slice_get insns 0) ≡ true
begins [] e h = clash false e refl
begins (i ∷ is) e h = h i refl

same_ends : (o : Option Insn) → read.ends o ≡ true → rule.ends o ≡ true
same_ends None e = e
same_ends (Some i) e = e

module _ {tries : List ℕ} {sizes : Sizes} {places : Places} {b : Body} (parts : Parts tries sizes places b) where
  pub body_ends : rule.ends (slice_get b.insns (length b.insns - 1)) ≡ true
  body_ends = same_ends (slice_get b.insns (length b.insns - 1)) parts.last

  pub body_begins : region.may_begin (slice_get b.insns 0) ≡ true
  body_begins = begins b.insns parts.last (first_begins b.insns b.regions parts.placed)

  pub body_follows : list_all rule.follows (neighbours b.insns) ≡ true
  body_follows = all_follow b.insns b.regions parts.placed

  pub body_targets : list_all (rule.targets_fit b.insns) b.insns ≡ true
  body_targets = all_items (rule.targets_fit b.insns) b.insns (targets_enter b.insns b.regions parts.placed parts.inside)

  pub body_catches : list_all (λ (at : ℕ × Insn). rule.is_caught b.regions at.0 at.1) (enumerate_from 0 b.insns) ≡ true
  body_catches = all_each (λ (at : ℕ × Insn). rule.is_caught b.regions at.0 at.1) b.insns (all_caught b.insns b.regions parts.placed)

  pub body_operands : (p : Program) → AreWithin p sizes → list_all (λ (insn : Insn). registers_fit insn b.registers && numbers_fit insn p) b.insns ≡ true
  body_operands p is = subst (λ (n : ℕ). list_all (λ (insn : Insn). registers_fit insn n && numbers_fit insn p) b.insns ≡ true) (sym parts.registers)
      (all_more (operands_inside sizes) (λ (insn : Insn). registers_fit insn sizes.registers && numbers_fit insn p) (operands_fit p sizes is) b.insns (each_inside places sizes b.insns parts.insns))

  pub body_regions : (p : Program) → AreWithin p sizes → region.regions_fit p b.insns b.regions ≡ true
  body_regions p is = regions_fit p sizes is b.insns b.regions places.starts
      (as_many places sizes places.starts b.insns ((are_read places sizes places.starts).found b.insns parts.insns)) parts.placed (all_right tries sizes places b.regions parts.regions)

  leave_all : length b.insns ≤ nowhere → list_all (λ (at : ℕ × Insn). rule.leaves at.0 at.1) (enumerate_from 0 b.insns) ≡ true
  leave_all few = all_each (λ (at : ℕ × Insn). rule.leaves at.0 at.1) b.insns (λ k i e.
      let s = start_of places sizes places.starts b.insns ((are_read places sizes places.starts).found b.insns parts.insns) k i e in
      insn_leaves places s.0 k (length b.insns) i s.1 few s.2 (item_of (targets_inside (length b.insns)) b.insns parts.inside k i e))

  pub body_leaves : (units : List ℕ) → sweep_of units ≡ Ok places → length units < 2 ^ 32 → list_all (λ (at : ℕ × Insn). rule.leaves at.0 at.1) (enumerate_from 0 b.insns) ≡ true
  body_leaves units swept few = leave_all (omega (arith, few, few_starts units places swept, as_many places sizes places.starts b.insns ((are_read places sizes places.starts).found b.insns parts.insns)))
