use Rattle.std.proofs.Common.{◌<◌, length, arith}
use Rattle.dex_read.specs.Directory.{with_parameter_marks}
use Rattle.dex_read.proofs.Changes.{changed}
use Rattle.dex_read.proofs.directory.set_parameter_marks.Goals as goal

pub returns-then-place-len : goal.returns-then-place-len
returns-then-place-len c =
    let inside : c.args.place < length c.args.methods.now.items = omega (arith, c.if-place-len.true, c.len.ensures) in
    changed (with_parameter_marks c.args.marks) c.args.methods.now.items c.args.place c.index_mut.result.now inside c.index_mut.ensures.value
