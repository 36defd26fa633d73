use Rattle.std.proofs.Common.{◌≡◌, ℕ, ◌≤◌, refl, ap, arith, get_or}
use Rattle.std.specs.Prelude.{length}
use Rattle.program_model.specs.declared.program.Class.{Class}
use Rattle.facts_check.specs.Tables.{IsStarted}
use Rattle.facts_check.proofs.Loops.{one_item, all_of}
use Rattle.facts_check.proofs.classes.all_classes.Goals as goal

pub loop-place-preserved : goal.loop-place-preserved
loop-place-preserved c =
    let is : c.index-classes-place.result ≡ get_or c.args.known.now.program.now.classes c.loop-place.place c.index-classes-place.result = cc in
    λ known. one_item (λ (i : ℕ) (class : Class). IsStarted c.args.known.now i class) c.args.known.now.program.now.classes c.loop-place.place c.index-classes-place.result is (c.if-not-class_holds.ensures known refl) (c.loop-place.invariant known)

pub returns : goal.returns
returns c =
    let long : length c.args.known.now.program.now.classes ≤ c.loop-place.place = omega (arith, ap length c.as_slice-classes.ensures) in
    λ known e. all_of (λ (i : ℕ) (class : Class). IsStarted c.args.known.now i class) c.args.known.now.program.now.classes c.loop-place.place long (c.loop-place.invariant known)
