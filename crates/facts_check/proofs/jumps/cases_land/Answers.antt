use Rattle.std.proofs.Common.{◌≡◌, ℕ, ◌≤◌, Option, refl, ◌∙◌, subst, arith, get_or}
use Rattle.std.specs.Prelude.{length, slice_get}
use Rattle.std.specs.Option.{option_copied}
use Rattle.dom_frame.specs.Registers.{Registers}
use Rattle.dom_frame.specs.Steps.{switched}
use Rattle.facts_check.specs.Landing.{LandsIf}
use Rattle.facts_check.proofs.Loops.{one_number, all_of}
use Rattle.facts_check.proofs.jumps.cases_land.Goals as goal

pub loop-place-preserved : goal.loop-place-preserved
loop-place-preserved c =
    let left : option_copied c.as_ref.result ≡ switched c.loop-place.place c.args.insn.now c.args.registers.now = c.as_ref.ensures.value ∙ c.in_ok-left.ensures in
    one_number (λ (i target : ℕ). LandsIf (slice_get c.args.starts.now target) (switched i c.args.insn.now c.args.registers.now)) c.args.targets.now c.loop-place.place
    (subst (λ (o : Option Registers). LandsIf (slice_get c.args.starts.now (get_or c.args.targets.now c.loop-place.place 0)) o) left (c.if-not-lands_if.ensures refl))
    c.loop-place.invariant

pub returns : goal.returns
returns c =
    let long : length c.args.targets.now ≤ c.loop-place.place = omega arith in
    λ e. all_of (λ (i target : ℕ). LandsIf (slice_get c.args.starts.now target) (switched i c.args.insn.now c.args.registers.now)) c.args.targets.now c.loop-place.place long c.loop-place.invariant
