use Rattle.devirt.proofs.Names.{named_so}
use Rattle.devirt.proofs.binding.Binder.named.Goals as goal

pub returns : goal.returns
returns c = λ b. named_so c.args.self.now.finder c.args.method c.named.result b.formed c.named.ensures
