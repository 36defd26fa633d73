use Rattle.std.proofs.Common.{subst}
use Rattle.std.specs.Prelude.{OnOk}
use Rattle.if_text.specs.Slots.{Adds}
use Rattle.if_text.proofs.slots.push_line_name.Goals as goal

pub returns-clause-adds : goal.returns-clause-adds
returns-clause-adds c = λ w is. subst (λ n. OnOk c.push_lines.result (Adds c.args.start n c.args.out.now.items c.push_lines.new.out.items)) (c.name_wilds.ensures w is) c.push_lines.ensures.adds
