use Rattle.std.proofs.Common.{rules, inl}
use Rattle.rule_text.proofs.FaultLemmas.{word_by}
use Rattle.rule_text.proofs.parse_file.syntax_fault.Goals as goal

pub returns-in-Some : goal.returns-in-Some
returns-in-Some c = inl (word_by c.args.tokens.now.items.items c.args.at c.in-Some.token.now (search rules) (search rules) c.requires.refused)
