use Rattle.keep_rules.specs.Fits.{signature_of}
use Rattle.keep_rules.proofs.MemberLemmas.{method_what}
use Rattle.keep_rules.proofs.members.method_meant.Goals as goal

pub returns-in-Method : goal.returns-in-Method
returns-in-Method c = λ w is.
    method_what c.in-Method.result c.in-Method.name c.in-Method.arguments c.args.what.now w c.method_spelled.result _ _ (signature_of c.args.program.now c.args.proto.now) c.in-Method.is is c.string_units-units.ensures c.method_spelled.ensures
