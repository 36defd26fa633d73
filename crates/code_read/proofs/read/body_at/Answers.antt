use Rattle.std.proofs.Common.{length, arith}
use Rattle.code_read.proofs.Rises.{few_rise}
use Rattle.code_read.proofs.read.body_at.Goals as goal

pub check_targets-requires : goal.check_targets-requires
check_targets-requires c =
    let few = few_rise (length c.args.places.now.units.now) c.args.places.now.starts.items c.args.places.now.starts_rise in
    omega (arith, few, c.args.places.now.few, c.in_ok-insns.ensures.count)
