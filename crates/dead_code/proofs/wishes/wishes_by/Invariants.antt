use Rattle.walk_marks.specs.Walks.{is_on}
use Rattle.dead_code.specs.Wishes.{wish_for}
use Rattle.thin_pass.proofs.Wished.{WishedUpto}
use Rattle.dead_code.proofs.wishes.wishes_by.Given as goal

abbrev pub invariant-loop-position : goal.invariant-loop-position
invariant-loop-position l = WishedUpto (λ n i. wish_for (is_on l.dead n) (is_on l.firsts n)) l.insns l.wishes.items l.position
