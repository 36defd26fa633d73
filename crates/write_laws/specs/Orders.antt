-- The numbers of used entries, in order, are numbers of their tables.
use Rattle.dex_pools.specs.declared.interner.Interner.{Interner}
use Rattle.program_model.specs.declared.program.Program.{Program}
use Rattle.write_laws.specs.Used.{AllIn}

pub record OrdersIn (p : Program) (i : Interner) : Type 0 where
  pub strings : AllIn p.strings i.order.strings.items
  pub types : AllIn p.types i.order.types.items
  pub protos : AllIn p.protos i.order.protos.items
  pub fields : AllIn p.fields i.order.fields.items
  pub methods : AllIn p.methods i.order.methods.items
