use Rattle.facts_kept.proofs.Typing.{folded_typed}
use Rattle.facts_kept.proofs.fold_kept.folded_typed_law.Goals as goal

pub returns : goal.returns
returns g = λ p h facts admitted c w r grounded typed x words. folded_typed p h facts w r grounded typed admitted c x words
