use Rattle.std.proofs.Common.{ap, ◌∙◌}
use Rattle.dalvik_lookups.specs.Tables.{kind_in}
use Rattle.dalvik_lookups.proofs.Placed.{class_kind}
use Rattle.dalvik_lookups.proofs.lookups.Lookups.kind_of_class.Goals as goal

pub returns : goal.returns
returns c = λ r k e. class_kind c.args.self.now r c.args.class k c.kind_at.result e (c.kind_at.ensures ∙ ap (λ v. kind_in v c.args.class) c.as_slice.ensures.value)
