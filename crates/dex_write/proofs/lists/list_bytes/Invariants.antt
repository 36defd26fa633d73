use Rattle.std.proofs.Common.{◌≡◌, ◌++◌, ◌+◌, drop, length}
use Rattle.dex_write.specs.Lists.{lists_in, lists_text, list_starts}
use Rattle.dex_write.proofs.lists.list_bytes.Given as goal

abbrev pub invariant-loop-index : goal.invariant-loop-index
invariant-loop-index l = record {
  bytes : l.bytes.items ++ lists_text (l.base + length l.bytes.items) (drop l.index (lists_in l.known.keys)) ≡ lists_text l.base (lists_in l.known.keys);
  starts : l.starts.items ++ list_starts (l.base + length l.bytes.items) (drop l.index (lists_in l.known.keys)) ≡ list_starts l.base (lists_in l.known.keys);
}
