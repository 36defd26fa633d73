use Rattle.std.proofs.Common.{rules, get_or, pos}
use Rattle.std.specs.Int.{w32}
use Rattle.std.specs.Int.RustNames.{FitsSigned}
use Rattle.premises.proofs.Reading.{more_at, whole}
use Rattle.premises.proofs.numbers.read_keys.Goals as goal

pub loop-key-preserved : goal.loop-key-preserved
loop-key-preserved c =
    let fits : FitsSigned w32 (get_or c.args.keys.now c.loop-key.key-index (pos 0)) = search rules in
    more_at (FitsSigned w32) c.args.keys.now c.loop-key.key-index (pos 0) c.loop-key-test.true fits c.loop-key.invariant

pub returns : goal.returns
returns c = whole (FitsSigned w32) c.args.keys.now c.loop-key.key-index c.loop-key-test.false c.loop-key.invariant
