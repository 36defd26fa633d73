use Rattle.std.proofs.Common.{◌<◌, length, arith}
use Rattle.dex_read.specs.FirstValues.{with_first}
use Rattle.dex_read.proofs.Changes.{changed}
use Rattle.dex_read.proofs.first_values.set_first.Goals as goal

pub returns-then-place-len : goal.returns-then-place-len
returns-then-place-len c =
    let inside : c.args.place < length c.args.fields.now.items = omega (arith, c.if-place-len.true, c.len.ensures) in
    rw c.first_of.ensures (changed (with_first c.args.value) c.args.fields.now.items c.args.place c.index_mut.result.now inside c.index_mut.ensures.value)
