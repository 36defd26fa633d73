use Rattle.std.proofs.Common.{◌≡◌, drop, map}
use Rattle.code_write.specs.Handlers.{handlers_text}
use Rattle.code_write.specs.Lists.{lists_in, all_lists}
use Rattle.inline_calls.specs.Crowded.{different_lists}
use Rattle.inline_calls.proofs.lists.different_lists.Given as goal

abbrev pub invariant-loop-region : goal.invariant-loop-region
invariant-loop-region l = all_lists (lists_in l.known.keys) (map (handlers_text l.numbers l.starts l.end) (drop l.region-index l.regions)) ≡ different_lists l.numbers l.starts l.end l.regions
