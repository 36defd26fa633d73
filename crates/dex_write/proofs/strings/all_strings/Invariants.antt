use Rattle.std.proofs.Common.{◌≡◌, ◌++◌, ◌+◌, drop, length}
use Rattle.std.specs.List.{concat}
use Rattle.dex_write.specs.Numbers.{text_offsets}
use Rattle.dex_write.specs.Data.{string_texts}
use Rattle.dex_write.proofs.strings.all_strings.Given as goal

abbrev pub invariant-loop-old : goal.invariant-loop-old
invariant-loop-old l = record {
  bytes : l.bytes.items ++ concat (string_texts l.strings (drop l.old-index l.order)) ≡ concat (string_texts l.strings l.order);
  offsets : l.offsets.items ++ text_offsets (l.base + length l.bytes.items) (string_texts l.strings (drop l.old-index l.order)) ≡ text_offsets l.base (string_texts l.strings l.order);
}
