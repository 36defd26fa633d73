use Rattle.std.proofs.lemmas.Result.{on_ok_weaker}
use Rattle.rule_defs.specs.Kept.{lines_of}
use Rattle.if_rules.proofs.Grows.{OnlyLine, class_members, class_none, more_lines, only_line}
use Rattle.if_rules.proofs.instances.push_lines.Goals as goal

pub returns-then-not-one : goal.returns-then-not-one
returns-then-not-one c = λ rs g names uses are. class_none c.args.program.now rs c.args.at.now.rule.now c.args.at.now.number c.args.at.now.class c.args.class.now c.args.out.now.items g uses
    (λ m is. more_lines c.args.lines.now (lines_of g.rule.condition) m c.if-not-one.true are is)

pub returns : goal.returns
returns c = λ rs g names uses are.
    let only : OnlyLine c.index-lines-0.result (lines_of g.rule.condition) = only_line c.args.lines.now c.index-lines-0.result (lines_of g.rule.condition) c.if-not-one.false c.index-lines-0.is are in
    on_ok_weaker c.push_fields.result
    (class_members c.args.program.now rs c.args.at.now.rule.now c.args.at.now.number c.args.at.now.class c.args.class.now c.args.out.now.items c.push_methods.new.out.items c.push_fields.new.out.items g uses
    (c.in_ok-push_methods.ensures rs g only.one names uses only.is only.related)) (c.push_fields.ensures rs g only.one names uses only.is only.related)
