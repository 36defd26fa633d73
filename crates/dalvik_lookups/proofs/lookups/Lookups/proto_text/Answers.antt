use Rattle.std.proofs.Common.{◌∙◌, ap, sym}
use Rattle.std.specs.Option.{option_copied}
use Rattle.dalvik_lookups.proofs.Spelled.{spelled_is}
use Rattle.dalvik_lookups.proofs.lookups.Lookups.proto_text.Goals as goal

pub returns-in_ok-text-in-Some-clause-is : goal.returns-in_ok-text-in-Some-clause-is
returns-in_ok-text-in-Some-clause-is c = λ r h. c.in_ok-text-in-Some.ensures ∙ spelled_is c.args.self.now.program.now r.well c.args.method c.in-Some.name.now (sym c.method_name.ensures ∙ ap option_copied c.in-Some.is)
