use Rattle.walk_marks.specs.Walks.{is_on}
use Rattle.squeeze.specs.Skipping.{wish_for}
use Rattle.thin_pass.proofs.Wished.{WishedUpto}
use Rattle.squeeze.proofs.wishing.wishes_by.Given as goal

abbrev pub invariant-loop-position : goal.invariant-loop-position
invariant-loop-position l = WishedUpto (λ n i. wish_for (is_on l.reached n) n i) l.insns l.wishes.items l.position
