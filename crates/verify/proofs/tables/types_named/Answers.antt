use Rattle.verify.proofs.Widths.{proto_widths}
use Rattle.verify.proofs.tables.types_named.Goals as goal

pub returns-clause-words : goal.returns-clause-words
returns-clause-words c = proto_widths c.args.program.now c.in_ok-shapes.shapes.items c.as_slice-2.result.now c.as_slice.result.now c.in_ok-words.words.items c.in_ok-shapes.ensures c.as_slice-2.ensures.value c.as_slice.ensures c.in_ok-words.ensures
