use Rattle.std.proofs.Common.{◌∙◌, ap, false}
use Rattle.std.specs.Prelude.{slice_index_or}
use Rattle.hierarchy.proofs.Fives.{key_common}
use Rattle.hierarchy.proofs.build.Hierarchy.is_key_of_object.Goals as goal

pub returns-clause-is : goal.returns-clause-is
returns-clause-is c = λ p name proto is k. c.is_on.ensures ∙ ap (λ l. slice_index_or l c.args.key false) c.as_slice.ensures.value ∙ key_common p c.args.self.now c.args.key name proto is k
