use Rattle.std.proofs.Common.{◌∙◌}
use Rattle.dalvik_lookups.proofs.Declaring.{field_found}
use Rattle.dalvik_lookups.proofs.declared.Declared.field_in.Goals as goal

pub returns : goal.returns
returns c = λ p names n k w h d x y. c.find.ensures ∙ field_found p w names h c.args.self.now d c.args.class c.args.name c.args.of n k x y
