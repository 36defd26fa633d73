use Rattle.form_laws.proofs.Lowering.{word_lowers, wide_lowers, nop_lowers, goto_lowers}
use Rattle.form_laws.proofs.fold_law.lowers_law.Goals as goal

pub returns-clause-word : goal.returns-clause-word
returns-clause-word c = λ p c m n a f to value l goes leaves e. word_lowers p c m n a f to value l goes leaves e

pub returns-clause-wide : goal.returns-clause-wide
returns-clause-wide c = λ p c m n a f to value goes leaves. wide_lowers p c m n a f to value goes leaves

pub returns-clause-nop : goal.returns-clause-nop
returns-clause-nop c = λ p c m n a f goes leaves. nop_lowers p c m n a f goes leaves

pub returns-clause-goto : goal.returns-clause-goto
returns-clause-goto c = λ p c m n a f target there leaves. goto_lowers p c m n a f target there leaves
