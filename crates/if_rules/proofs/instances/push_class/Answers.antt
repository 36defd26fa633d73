use Rattle.std.proofs.Common.{◌∙◌, sym}
use Rattle.std.proofs.lemmas.Result.{on_ok_weaker}
use Rattle.if_rules.proofs.Grows.{class_each}
use Rattle.if_rules.proofs.instances.push_class.Goals as goal

pub returns-then-not-uses : goal.returns-then-not-uses
returns-then-not-uses c = λ rs g names.
    on_ok_weaker c.push_each.result (class_each c.args.program.now rs c.args.at.now.rule.now c.args.at.now.number c.args.at.now.class c.args.class.now c.args.out.now.items c.push_each.new.out.items g (sym (c.asks_line-uses.ensures g.rule g.related) ∙ c.if-not-uses.true))
    (c.push_each.ensures rs g (sym (c.asks_line-uses.ensures g.rule g.related) ∙ c.if-not-uses.true))

pub returns : goal.returns
returns c = λ rs g names. c.push_lines.ensures rs g names (sym (c.asks_line-uses.ensures g.rule g.related) ∙ c.if-not-uses.false) (c.lines_of.ensures g.rule g.related)
