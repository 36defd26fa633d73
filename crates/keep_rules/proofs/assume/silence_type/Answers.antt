use Rattle.std.proofs.Common.{◌∙◌, ap}
use Rattle.keep_rules.specs.Rows.{row_in}
use Rattle.keep_rules.proofs.SilentLemmas.{type_silenced}
use Rattle.keep_rules.proofs.assume.silence_type.Goals as goal

pub returns : goal.returns
returns c = λ k ready l is. type_silenced c.args.view.now.program.now k c.args.view.now.methods.items c.args.kind c.row_at-numbers.result.now c.args.silent.now.items _ ready.methods l (c.row_at-numbers.ensures ∙ ap (λ r. row_in r c.args.kind) c.as_slice.ensures.value) (c.in_ok-silence_numbers.ensures k ready l is)
