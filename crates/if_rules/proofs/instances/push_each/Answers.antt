use Rattle.std.proofs.Common.{ap}
use Rattle.std.proofs.lemmas.Result.{on_ok_weaker}
use Rattle.if_rules.specs.Lists.{lists_of}
use Rattle.if_rules.proofs.Grows.{each_grew}
use Rattle.if_rules.proofs.instances.push_each.Goals as goal

pub returns : goal.returns
returns c = λ rs g uses. on_ok_weaker c.push_instance.result
    (each_grew c.args.program.now rs c.args.at.now.rule.now c.args.at.now.number c.args.at.now.class c.args.class.now (record { name = lists_of c.in_ok-name.name.items; line = lists_of c.new-own.result.items }) c.args.out.now.items c.push_instance.new.out.items g uses
    (c.in_ok-name.ensures g.rule g.related) (ap lists_of c.new-own.ensures.items)) c.push_instance.ensures
