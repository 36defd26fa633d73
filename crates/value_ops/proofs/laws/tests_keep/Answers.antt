use Rattle.value_ops.proofs.Asked.{words_asked, equal_so, different_so}
use Rattle.value_ops.proofs.laws.tests_keep.Goals as goal

pub returns-clause-words : goal.returns-clause-words
returns-clause-words c = words_asked

pub returns-clause-same : goal.returns-clause-same
returns-clause-same c = equal_so

pub returns-clause-other : goal.returns-clause-other
returns-clause-other c = different_so
