use Rattle.std.specs.Prelude.{string_bytes}
use Rattle.redex_cli.proofs.FinishedLemmas.{finished}
use Rattle.redex_cli.proofs.work.optimise_file.Goals as goal

pub returns-in-Ok-optimise_input-clause-finished : goal.returns-in-Ok-optimise_input-clause-finished
returns-in-Ok-optimise_input-clause-finished g c = finished c.args.inline _ _ c.args.tells.now c.in-Ok-told.panel.answers.items c.in-Ok.input.program c.in-Ok.input.outside c.args.inputs c.len-length.result
    c.in-Ok-optimise_input.optimised.bytes.items (string_bytes c.in-Ok-optimise_input.optimised.summary) c.len-length.ensures c.in-Ok.ensures.program c.in-Ok.ensures.small c.in-Ok.ensures.accepted c.in-Ok.ensures.table
    c.in-Ok-told.ensures.told c.in-Ok-told.ensures.unasked c.in-Ok-optimise_input.ensures
