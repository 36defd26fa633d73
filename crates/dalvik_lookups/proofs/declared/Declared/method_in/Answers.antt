use Rattle.std.proofs.Common.{◌∙◌}
use Rattle.dalvik_lookups.proofs.Declaring.{method_found, method_nowhere}
use Rattle.dalvik_lookups.proofs.declared.Declared.method_in.Goals as goal

pub returns-in-Some : goal.returns-in-Some
returns-in-Some c = λ p names n w h d x. c.find.ensures ∙ method_found p w names h c.args.self.now d c.args.class c.args.name c.in-Some.spelled n c.args.proto.now x c.in-Some.ensures.found

pub returns-in-None : goal.returns-in-None
returns-in-None c = λ p names n w h d x. method_nowhere p w names h c.args.self.now d c.args.class n c.args.proto.now (c.number.ensures.absent c.in-None.is)
