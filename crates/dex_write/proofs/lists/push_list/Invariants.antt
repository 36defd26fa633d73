use Rattle.std.proofs.Common.{◌≡◌, ◌++◌, ◌∷◌, [], take, length, ◌%◌}
use Rattle.std.specs.List.{flat_map}
use Rattle.std.specs.Int.{w16, to_le_bytes}
use Rattle.dex_write.specs.Numbers.{words}
use Rattle.dex_write.proofs.lists.push_list.Given as goal

abbrev pub invariant-loop-kind : goal.invariant-loop-kind
invariant-loop-kind l = l.out.items ≡ l.fn.out.items ++ words (length l.list ∷ []) ++ flat_map (λ kind. to_le_bytes w16 (kind % 65536)) (take l.kind-index l.list)
