use Rattle.thin_laws.proofs.SqueezedTypes.{squeezed_typing}
use Rattle.thin_laws.proofs.thin_types.squeezed_typing_law.Goals as goal

pub returns : goal.returns
returns c = λ p above k m b t typing marks fs h. squeezed_typing p above k m b t typing marks fs h
