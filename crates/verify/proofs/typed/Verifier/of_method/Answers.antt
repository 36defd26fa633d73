use Rattle.verify.proofs.Bodies.{refused_own}
use Rattle.verify.proofs.typed.Verifier.of_method.Goals as goal

pub returns-in-Some-clause-refused : goal.returns-in-Some-clause-refused
returns-in-Some-clause-refused c = λ s. refused_own c.args.self.now c.args.class.0.now c.args.class.1 c.args.method.now c.in-Some.body c.in-Some.is c.of_body.result (c.of_body.ensures.refused s)
