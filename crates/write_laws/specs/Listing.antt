-- The members of the classes that are written, in lists.
use Rattle.std.specs.Prelude.{ℕ, List, [], ◌∷◌, map, take, drop}
use Rattle.program_model.specs.declared.pass.Renumber.{Renumber}
use Rattle.program_model.specs.declared.program.Class.{Class}
use Rattle.dex_pools.specs.Written.{renumbered}
use Rattle.dex_write.specs.declared.tables.ClassOffsets.{ClassOffsets}
use Rattle.dex_write.specs.Numbers.{at_place}
use Rattle.dex_write.specs.Tables.{source_word}
use Rattle.dex_write.specs.declared.ordered.MethodPart.{MethodPart}
use Rattle.dex_write.specs.Plans.{Plan, Numbered, field_flags, method_flags}
use Rattle.dex_write.specs.Codes.{code_offset, code_behind, codes_behind}
use Rattle.dex_defs.specs.ClassData.{Entry, Lists}
use Rattle.dex_defs.specs.ClassDefs.{Def}

-- a field, and methods whose code comes behind a place
abbrev pub field_entry : Class → Numbered → Entry
field_entry c f = record { number = f.0; flags = field_flags c f.1; code = 0 }

abbrev pub method_entry : Class → ℕ → MethodPart → Entry
method_entry c at m = record { number = m.number; flags = method_flags c m.place; code = code_offset at m }

abbrev pub method_entries : Class → ℕ → List MethodPart → List Entry
method_entries c at [] = []
method_entries c at (m ∷ ms) = method_entry c at m ∷ method_entries c (code_behind at m) ms

-- the lists of a plan whose code comes behind a place, and those of plans, one behind another
abbrev pub lists_in : Plan → ℕ → Lists
lists_in p at = record {
  statics = map (field_entry p.class) (take p.statics p.fields);
  instances = map (field_entry p.class) (drop p.statics p.fields);
  directs = method_entries p.class at (take p.directs p.methods);
  virtuals = method_entries p.class (codes_behind at (take p.directs p.methods)) (drop p.directs p.methods);
}

abbrev pub all_lists_in : ℕ → List Plan → List Lists
all_lists_in at [] = []
all_lists_in at (p ∷ ps) = lists_in p at ∷ all_lists_in (codes_behind at p.methods) ps

-- the numbers of a class that is written
abbrev pub def_of : Renumber → Class → ClassOffsets → ℕ → Def
def_of r c offsets place = record {
  name = renumbered r.types.items c.name;
  flags = c.flags.0;
  superclass = renumbered r.types.items c.superclass;
  interfaces = at_place offsets.interfaces place;
  source = source_word r c.source;
  annotations = at_place offsets.directories place;
  data_at = at_place offsets.data place;
  values = at_place offsets.firsts place;
}
