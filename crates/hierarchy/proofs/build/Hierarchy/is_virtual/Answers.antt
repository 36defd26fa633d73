use Rattle.std.proofs.Common.{◌∙◌, ap}
use Rattle.hierarchy.specs.Membership.{is_virtual_by}
use Rattle.hierarchy.proofs.Looked.{virtual_is}
use Rattle.hierarchy.proofs.build.Hierarchy.is_virtual.Goals as goal

pub returns : goal.returns
returns c = λ p h. c.is_virtual.ensures ∙ ap (λ l. is_virtual_by l c.args.method.now) c.as_slice.ensures.value ∙ virtual_is p c.args.self.now c.args.method.now h
