use Rattle.std.proofs.Common.{◌≡◌, ◌+◌, ◌<◌, ◌^◌, drop}
use Rattle.code_write.specs.Lists.{lists_in}
use Rattle.program_model.specs.Cells.{capped}
use Rattle.inline_calls.specs.Crowded.{bytes_before}
use Rattle.inline_calls.proofs.lists.bytes_before.Given as goal

abbrev pub invariant-loop-index : goal.invariant-loop-index
invariant-loop-index l = record {
  small : l.bytes < 2 ^ 64;
  sum : capped (l.bytes + bytes_before l.longest (drop l.index (lists_in l.known.keys))) ≡ capped (bytes_before 0 (lists_in l.known.keys));
}
