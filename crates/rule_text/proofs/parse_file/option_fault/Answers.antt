use Rattle.std.proofs.Common.{rules, arith, length, ◌≤◌}
use Rattle.rule_text.proofs.HaltLemmas.{option_by}
use Rattle.rule_text.proofs.parse_file.option_fault.Goals as goal

pub returns-in-Some : goal.returns-in-Some
returns-in-Some c = option_by c.args.tokens.now.items.items c.args.at c.in-Some.token.now (search rules) (search rules) c.requires.option

pub syntax_fault-requires-clause-refused : goal.syntax_fault-requires-clause-refused
syntax_fault-requires-clause-refused c =
    let past : length c.args.tokens.now.items.items ≤ c.args.at = search rules in
    let no : ⊥ = omega (arith, c.requires.option.front.inside, past) in
    absurd no
