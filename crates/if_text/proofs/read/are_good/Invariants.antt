use Rattle.std.proofs.Common.{◌≡◌, length}
use Rattle.std.specs.List.{list_all}
use Rattle.if_text.specs.Wildcards.{is_good_in}
use Rattle.if_text.proofs.read.are_good.Given as goal

abbrev pub invariant-loop-rest : goal.invariant-loop-rest
invariant-loop-rest l = list_all (is_good_in l.fn.slots) l.rest ≡ list_all (is_good_in l.fn.slots) l.fn.parts

abbrev pub decreases-loop-rest : goal.decreases-loop-rest
decreases-loop-rest l = length l.rest
