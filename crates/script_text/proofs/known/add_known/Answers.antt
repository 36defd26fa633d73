use Rattle.std.proofs.Common.{rules}
use Rattle.script_text.specs.Named.{has_name}
use Rattle.script_text.proofs.NameLemmas.{name_known}
use Rattle.script_text.proofs.known.add_known.Goals as goal

pub returns : goal.returns
returns c = name_known (has_name c.args.names.now) (has_name c.add.new.self) c.args.known.now c.in_ok-add.field-0 (search rules) (search rules) (search rules)
