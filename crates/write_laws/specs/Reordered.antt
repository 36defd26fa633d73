-- The members of a class that is written are those of the class, in another order.
use Rattle.std.specs.Prelude.{map}
use Rattle.std.specs.List.Sorted.{IsPermutation}
use Rattle.program_model.specs.declared.pass.Renumber.{Renumber}
use Rattle.program_model.specs.declared.program.Class.{Class}
use Rattle.program_model.specs.declared.program.Program.{Program}
use Rattle.dex_defs.specs.Written.{written_field, written_method, written_class}

pub record SameMembers (p : Program) (r : Renumber) (c : Class) : Type 0 where
  pub fields : IsPermutation (map (written_field r) c.fields) (written_class r p c).fields
  pub methods : IsPermutation (map (written_method r) c.methods) (written_class r p c).methods
