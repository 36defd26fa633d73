use Rattle.value_ops.proofs.Answers.{binary_words, binary_wides, binary_shifts, literal_so}
use Rattle.value_ops.proofs.laws.answers_hold.Goals as goal

pub returns-clause-words : goal.returns-clause-words
returns-clause-words c = binary_words

pub returns-clause-wides : goal.returns-clause-wides
returns-clause-wides c = binary_wides

pub returns-clause-shifts : goal.returns-clause-shifts
returns-clause-shifts c = binary_shifts

pub returns-clause-literals : goal.returns-clause-literals
returns-clause-literals c = literal_so
