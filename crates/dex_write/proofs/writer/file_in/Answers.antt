use Rattle.std.specs.Prelude.{map}
use Rattle.dex_write.specs.Plans.{plan_in}
use Rattle.dex_write.proofs.Files.{ok_is_written_by}
use Rattle.dex_write.proofs.writer.file_in.Goals as goal

pub returns : goal.returns
returns c = ok_is_written_by c.args.program.now c.args.interner.now c.in_ok-places.places.items (map plan_in c.in_ok-order.order.items) c.file_for.result c.in_ok-places.ensures.is (rw (c.numbers.ensures, c.deref.ensures.value) at c.in_ok-order.ensures.are) (rw c.as_slice.ensures.value at c.file_for.ensures.is) c.file_for.ensures.sealed c.file_for.ensures.few
