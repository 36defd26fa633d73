use Rattle.std.proofs.Common.{◌≡◌, true, false, MatchBool, rules}
use Rattle.script_text.proofs.NameLemmas.{name_added}
use Rattle.script_text.proofs.names.TypeNames.add.Goals as goal

pub returns-clause-names : goal.returns-clause-names
returns-clause-names c = λ yes other. name_added (λ k. k.items) c.args.name c.args.self.now.names.keys c.insert.new.self.keys other (rw yes at c.in_ok-added.ensures.keys)
