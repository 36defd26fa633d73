use Rattle.dex_write.proofs.Files.{ok_is_sealed, ok_is_written}
use Rattle.dex_write.proofs.writer.write_dex.Goals as goal

pub returns-clause-is : goal.returns-clause-is
returns-clause-is c = ok_is_written c.args.program.now c.in_ok-interner.interner c.file_in.result c.in_ok-interner.ensures c.read_numbers.ensures c.file_in.ensures

pub returns-clause-sealed : goal.returns-clause-sealed
returns-clause-sealed c = ok_is_sealed c.args.program.now c.in_ok-interner.interner c.file_in.result c.file_in.ensures
