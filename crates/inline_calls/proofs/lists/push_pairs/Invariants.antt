use Rattle.std.proofs.Common.{◌≡◌, ◌++◌, take}
use Rattle.std.specs.List.{flat_map}
use Rattle.code_write.specs.Handlers.{pair_text}
use Rattle.inline_calls.proofs.lists.push_pairs.Given as goal

abbrev pub invariant-loop-handler : goal.invariant-loop-handler
invariant-loop-handler l = l.out.items ≡ l.fn.out.items ++ flat_map (pair_text l.types l.starts l.end) (take l.handler-index l.handlers)
