use Rattle.std.proofs.Common.{◌∙◌, sym}
use Rattle.dalvik_defs.specs.Naming.{named}
use Rattle.dalvik_defs.specs.Under.{class_under}
use Rattle.dalvik_lookups.specs.Views.{type_text}
use Rattle.dalvik_lookups.proofs.Empty.{under_empty}
use Rattle.dalvik_lookups.proofs.lookups.Lookups.item_under.Goals as goal

pub returns-then-is_empty_type-2-clause-answer : goal.returns-then-is_empty_type-2-clause-answer
returns-then-is_empty_type-2-clause-answer c = λ r k l u d.
    sym (under_empty (class_under (named c.args.self.now.program.now) c.args.self.now.framework.now) (type_text c.args.self.now.types c.args.lower) (type_text c.args.self.now.types c.args.upper)
    (sym (c.is_empty_type-2.ensures r.tabled.named.types) ∙ c.if-is_empty_type-2.true))
