-- The members that class data lists, as they are read and as they stand.
use Rattle.std.specs.Prelude.{◌≡◌, ◌<◌, ℕ, List, [], map, Bool, true, false}
use Rattle.std.specs.List.{AllByRecursion}
use Rattle.program_model.specs.declared.program.Program.{Program}
use Rattle.dex_defs.specs.ClassData.{Entry, Lists, IsClassData}
use Rattle.dex_read.specs.declared.class_data.Listed.{Listed}
use Rattle.dex_read.specs.declared.class_data.Members.{Members}
use Rattle.dex_read.specs.declared.members.Owner.{Owner}
use Rattle.dex_read.specs.Ascending.{AllAscend}
use Rattle.dex_read.specs.ClassData.{field_suits, method_suits}
use Rattle.dex_read.specs.Tables.{sizes_in}

abbrev pub entry_of : Listed → Entry
entry_of e = record { number = e.number; flags = e.flags.0; code = e.code }

abbrev pub lists_of : Members → Lists
lists_of m = record { statics = map entry_of m.statics; instances = map entry_of m.instances; directs = map entry_of m.directs; virtuals = map entry_of m.virtuals }

-- a field, and a method, of this class that belongs to its list and isn't in the list before
abbrev pub FieldSuits : Program → Owner → Bool → List Listed → Listed → Type 0
FieldSuits p owner static earlier e = (e.number < (sizes_in p).fields) × (field_suits p owner.kind static earlier e ≡ true)

abbrev pub MethodSuits : Program → Owner → Bool → List Listed → Listed → Type 0
MethodSuits p owner direct earlier e = (e.number < (sizes_in p).methods) × (method_suits p owner.kind direct earlier e ≡ true)

-- the class data at this place, whose members are those of the class
pub record AreMembers (bytes : List ℕ) (p : Program) (owner : Owner) (at : ℕ) (m : Members) : Type 0 where
  pub stop : ℕ
  pub data_is : IsClassData bytes at (lists_of m) stop
  pub statics : AllByRecursion (FieldSuits p owner true []) m.statics
  pub instances : AllByRecursion (FieldSuits p owner false m.statics) m.instances
  pub directs : AllByRecursion (MethodSuits p owner true []) m.directs
  pub virtuals : AllByRecursion (MethodSuits p owner false m.directs) m.virtuals
  pub ascend : AllAscend m
