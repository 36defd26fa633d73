use Rattle.domains.specs.Words.{word_within}
use Rattle.domains.proofs.numbers.WordLattice.leq.Goals as goal

pub returns : goal.returns
returns c = rw c.is_within.ensures (word_within c.args.self.now c.args.other.now)
