-- The used entries of a program in order, and their new numbers.
use Rattle.std.specs.Prelude.{length}
use Rattle.program_model.specs.declared.program.Program.{Program}
use Rattle.dex_pools.specs.declared.interner.Interner.{Interner}
use Rattle.dex_pools.specs.Numbering.{used_in, string_key, type_key, proto_key, field_key, method_key, IsNumbered}

-- each table has exactly the entries that the program needs, in the order of the format
pub record IsInterned (p : Program) (i : Interner) : Type 0 where
  pub strings : IsNumbered (string_key p.strings) (used_in p).strings (length p.strings) i.order.strings.items i.numbers.strings.items
  pub types : IsNumbered (type_key i.numbers.strings.items p.types) (used_in p).types (length p.types) i.order.types.items i.numbers.types.items
  pub protos : IsNumbered (proto_key i.numbers.types.items p.protos) (used_in p).protos (length p.protos) i.order.protos.items i.numbers.protos.items
  pub fields : IsNumbered (field_key i.numbers.strings.items i.numbers.types.items p.fields) (used_in p).fields (length p.fields) i.order.fields.items i.numbers.fields.items
  pub methods : IsNumbered (method_key i.numbers.strings.items i.numbers.types.items i.numbers.protos.items p.methods) (used_in p).methods (length p.methods) i.order.methods.items i.numbers.methods.items
