use Rattle.std.proofs.Common.{rules}
use Rattle.script_text.proofs.NameLemmas.{knows_more}
use Rattle.script_text.proofs.script.add_framework_row.Goals as goal

pub returns-clause-knows : goal.returns-clause-knows
returns-clause-knows c = λ _. knows_more c.args.names.now c.add.new.self c.args.play.now.framework.rows c.push.new.self c.args.row c.requires (search rules) c.in_ok-push.ensures.ok
