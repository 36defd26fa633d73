use Rattle.dex_write.specs.Lists.{lists_in}
use Rattle.dex_write.proofs.ListLemmas.{bytes_step, starts_step}
use Rattle.dex_write.proofs.lists.list_bytes.Goals as goal

pub loop-index-preserved : goal.loop-index-preserved
loop-index-preserved c = record {
  bytes = bytes_step c.args.base (lists_in c.args.known.now.keys) c.loop-index.index c.loop-index.bytes.items c.push_known.new.out.items c.in_ok-push_known.ensures.bytes c.loop-index.invariant.bytes;
  starts = starts_step c.args.base (lists_in c.args.known.now.keys) c.loop-index.index c.loop-index.bytes.items c.push_known.new.out.items c.loop-index.starts.items c.push_known.new.starts.items c.in_ok-push_known.ensures.bytes c.in_ok-push_known.ensures.starts c.loop-index.invariant.starts;
}
