-- A body that was read is one that a program may have.
use Rattle.std.proofs.Common.{◌≡◌, ℕ, ◌<◌, ◌-◌, true, List, length}
use Rattle.std.specs.Prelude.{◌&&◌, ◌^◌, slice_get, Some, Ok}
use Rattle.std.specs.List.{list_all, enumerate_from}
use Rattle.lemmas.proofs.Bools.{and_both}
use Rattle.insn_set.specs.Spelling.{is_encodable}
use Rattle.insn_set.specs.declared.form.Insn.{Insn}
use Rattle.program_model.specs.Neighbours.{neighbours}
use Rattle.program_model.specs.OperandRules.{registers_fit, numbers_fit}
use Rattle.program_model.specs.RegionRules.{may_begin, regions_fit}
use Rattle.program_model.specs.BodyRules.{ends, follows, targets_fit, leaves, is_caught, insn_fits, body_fits}
use Rattle.program_model.specs.declared.body.Body.{Body}
use Rattle.program_model.specs.declared.program.Program.{Program}
use Rattle.code_read.specs.declared.sizes.Sizes.{Sizes}
use Rattle.code_read.specs.Sweep.{Places, sweep_of}
use Rattle.read_laws.specs.Tables.{AreWithin}
use Rattle.read_laws.proofs.BodyLists.{each, item_of, all_each}
use Rattle.read_laws.proofs.BodyParts.{Parts}
use Rattle.read_laws.proofs.BodyLaws.{body_ends, body_begins, body_follows, body_targets, body_catches, body_operands, body_regions, body_leaves}
use Rattle.read_laws.proofs.FieldBounds.{AreUnits}
use Rattle.read_laws.proofs.SpelledTables.{all_spelled}

pub fits : {tries : List ℕ} {sizes : Sizes} {places : Places} {b : Body} (parts : Parts tries sizes places b) (p : Program) → AreWithin p sizes → (units : List ℕ) → AreUnits units → sweep_of units ≡ Ok places → length units < 2 ^ 32 → body_fits p b ≡ true
unfolding body_fits insn_fits
fits {sizes = sizes} {places = places} {b = b} parts p is units are swept few =
    let spelled : list_all is_encodable b.insns ≡ true = all_spelled units places sizes b.insns are swept parts.payloads parts.insns in
    let one : (k : ℕ) (i : Insn) → slice_get b.insns k ≡ Some i → insn_fits p b (k, i) ≡ true = λ k i e.
    and_both (is_encodable i && (registers_fit i b.registers && numbers_fit i p)) (targets_fit b.insns i && (leaves k i && is_caught b.regions k i))
    (and_both (is_encodable i) (registers_fit i b.registers && numbers_fit i p) (item_of is_encodable b.insns spelled k i e)
    (item_of (λ (insn : Insn). registers_fit insn b.registers && numbers_fit insn p) b.insns (body_operands parts p is) k i e))
    (and_both (targets_fit b.insns i) (leaves k i && is_caught b.regions k i) (item_of (targets_fit b.insns) b.insns (body_targets parts) k i e)
    (and_both (leaves k i) (is_caught b.regions k i) (each (λ (at : ℕ × Insn). leaves at.0 at.1) b.insns (body_leaves parts units swept few) k i e)
    (each (λ (at : ℕ × Insn). is_caught b.regions at.0 at.1) b.insns (body_catches parts) k i e))) in
    and_both (may_begin (slice_get b.insns 0) && ends (slice_get b.insns (length b.insns - 1))) (list_all follows (neighbours b.insns) && (list_all (insn_fits p b) (enumerate_from 0 b.insns) && regions_fit p b.insns b.regions))
    (and_both (may_begin (slice_get b.insns 0)) (ends (slice_get b.insns (length b.insns - 1))) (body_begins parts) (body_ends parts))
    (and_both (list_all follows (neighbours b.insns)) (list_all (insn_fits p b) (enumerate_from 0 b.insns) && regions_fit p b.insns b.regions) (body_follows parts)
    (and_both (list_all (insn_fits p b) (enumerate_from 0 b.insns)) (regions_fit p b.insns b.regions) (all_each (insn_fits p b) b.insns one) (body_regions parts p is)))
