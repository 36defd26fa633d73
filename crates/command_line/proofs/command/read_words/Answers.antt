use Rattle.std.proofs.Common.{map, string_bytes}
use Rattle.std.proofs.lemmas.Result.{IfOk-weaker}
use Rattle.command_line.proofs.SpellsLemmas.{found, only, none}
use Rattle.command_line.proofs.command.read_words.Goals as goal

pub returns-clause-found : goal.returns-clause-found
returns-clause-found c = IfOk-weaker c.command_of.result _ _ (found (map string_bytes c.args.words.now)) c.command_of.ensures

pub returns-clause-only : goal.returns-clause-only
returns-clause-only c = IfOk-weaker c.command_of.result _ _ (only (map string_bytes c.args.words.now)) c.command_of.ensures

pub returns-clause-none : goal.returns-clause-none
returns-clause-none c = IfOk-weaker c.command_of.result _ _ (none (map string_bytes c.args.words.now)) c.command_of.ensures
