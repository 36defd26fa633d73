-- Which programs list interfaces alone as interfaces, by number (Dalvik executable format, "class_def_item").
use Rattle.std.specs.Prelude.{◌≡◌, ℕ, Bool, true, Option, Some, None, slice_get, Contains}
use Rattle.std.specs.List.{list_all}
use Rattle.program_model.specs.declared.program.Class.{Class}
use Rattle.program_model.specs.declared.program.Program.{Program}
use Rattle.program_model.specs.Lookups.{class_place}
use Rattle.class_defs.specs.Members.{is_interface}
use Rattle.class_defs.specs.Places.{interface_places}

-- no class of the program stands at a place, or an interface
abbrev pub is_interface_at : Program → Option ℕ → Bool
is_interface_at p None = true
is_interface_at p (Some u) = is_interface (slice_get p.classes u)

abbrev pub is_listable : Program → ℕ → Bool
is_listable p kind = is_interface_at p (class_place p kind)

abbrev pub is_plain_class : Program → Class → Bool
is_plain_class p k = list_all (is_listable p) k.interfaces

abbrev pub lists_plainly : Program → Bool
lists_plainly p = list_all (is_plain_class p) p.classes

-- what stands in a list of interfaces is no other class
pub record ListsPlainly (p : Program) : Type 0 where
  pub listed : (c u : ℕ) → Contains (interface_places p c) u → is_interface (slice_get p.classes u) ≡ true
