use Rattle.std.proofs.Common.{refl}
use Rattle.verify.proofs.Bodies.{typed_from, refused_from, finds_from, serves_by}
use Rattle.verify.proofs.typed.Verifier.of_body.Goals as goal

pub returns-clause-typed : goal.returns-clause-typed
returns-clause-typed c = λ s. typed_from c.args.self.now c.args.class.0.now c.args.class.1 c.args.method.now c.args.body.now _
    (record { program = refl; hierarchy = refl; tables = refl; class = refl; kind = refl; superclass = refl; result = c.proto_of-result.ensures.result; begins = c.constructs-constructs.ensures })
    c.constructs-constructs.result c.receiver_of.result c.proto_of-result.result.0.now c.constructs-constructs.ensures c.receiver_of.ensures c.proto_of-result.ensures.parameters
    (finds_from c.args.self.now.program.now c.calls-calls.result.program.now c.args.self.now.hierarchy.now c.calls-calls.result.hierarchy.now c.args.class.1 c.args.body.now.insns c.as_slice.result.now c.in_ok-found.found.items c.as_slice-2.result.now c.calls-calls.ensures.program c.calls-calls.ensures.hierarchy c.as_slice.ensures c.as_slice-2.ensures.value (λ of. c.in_ok-found.ensures.is of (serves_by c.args.self.now.hierarchy.now c.calls-calls.result.hierarchy.now c.args.scratch.now.walk c.calls-calls.ensures.hierarchy s)))
    c.judge.result c.judge.ensures.typed

pub returns-clause-refused : goal.returns-clause-refused
returns-clause-refused c = λ s. refused_from c.args.self.now c.args.class.0.now c.args.class.1 c.args.method.now c.args.body.now _
    (record { program = refl; hierarchy = refl; tables = refl; class = refl; kind = refl; superclass = refl; result = c.proto_of-result.ensures.result; begins = c.constructs-constructs.ensures })
    c.constructs-constructs.result c.receiver_of.result c.proto_of-result.result.0.now c.constructs-constructs.ensures c.receiver_of.ensures c.proto_of-result.ensures.parameters
    (finds_from c.args.self.now.program.now c.calls-calls.result.program.now c.args.self.now.hierarchy.now c.calls-calls.result.hierarchy.now c.args.class.1 c.args.body.now.insns c.as_slice.result.now c.in_ok-found.found.items c.as_slice-2.result.now c.calls-calls.ensures.program c.calls-calls.ensures.hierarchy c.as_slice.ensures c.as_slice-2.ensures.value (λ of. c.in_ok-found.ensures.is of (serves_by c.args.self.now.hierarchy.now c.calls-calls.result.hierarchy.now c.args.scratch.now.walk c.calls-calls.ensures.hierarchy s)))
    c.judge.result c.judge.ensures.refused
