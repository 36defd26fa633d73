use Rattle.dex_write.proofs.Sealed.{ok_is_sealed}
use Rattle.dex_write.proofs.file.file_of.Goals as goal

pub returns-clause-sealed : goal.returns-clause-sealed
returns-clause-sealed c = ok_is_sealed c.sealed.result c.args.version c.deref.result.now c.sealed.ensures.is c.sealed.ensures.long
