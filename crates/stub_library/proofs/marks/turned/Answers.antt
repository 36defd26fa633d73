use Rattle.std.proofs.Common.{arith}
use Rattle.stub_library.proofs.Steps.{whole}
use Rattle.stub_library.proofs.marks.turned.Goals as goal

pub returns : goal.returns
returns c =
    let ok = c.args.marks.ok in
    whole c.args.on c.args.marks.items c.as_mut_slice.result.now c.turn_all.new.marks c.args.numbers.now c.args.marks.len c.as_mut_slice.ensures.value c.turn_all.ensures (omega (arith, ok))
