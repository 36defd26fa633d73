use Rattle.std.proofs.Common.{rules}
use Rattle.std.proofs.Common.{◌∙◌, sym, lit<}
use Rattle.command_line.proofs.NumberLemmas.{parse-is}
use Rattle.command_line.proofs.number.read_number.Goals as goal

-- src/number.rt:7:1
pub returns : goal.returns
returns c = c.ok.ensures.value ∙ parse-is c.args.text.now c.parse.result (sym (c.starts_with.ensures.byte (lit< tt) (lit< tt) (λ w o h. h)) ∙ c.if-starts_with.false) (search rules) c.parse.ensures.value.0
