-- What interfaces stand on, as it is looked for behind the reading of all classes (Dalvik executable format, "class_def_item"; this
-- project's profile).
use Rattle.std.specs.Prelude.{◌≡◌, ℕ, suc, List, [], ◌∷◌, Bool, false, not, ◌&&◌, ◌||◌, slice_index_or, Result, Ok, Err, if◌then◌else◌}
use Rattle.std.specs.List.{list_all, list_any}
use Rattle.program_model.specs.InterfaceRules.{is_plain_class, defines_so, stands_free}
use Rattle.program_model.specs.declared.program.Class.{Class}
use Rattle.program_model.specs.declared.program.Program.{Program}
use Rattle.dex_read.specs.declared.fault.DexFault.{DexFault}
use Rattle.dex_read.specs.declared.fault.DexFault.TheVariants.{Root}

-- the first class that does not stand as it has to, from this place on
abbrev pub each_stands : (Class → Bool) → ℕ → List Class → Result (Unit {0}) DexFault
each_stands stands place [] = Ok tt
each_stands stands place (c ∷ cs) = if stands c then each_stands stands (suc place) cs else Err (Root place)

-- no interface of the program has a superclass or an interface that is a class of the program and no interface
unfoldable pub standing_at : Program → Result (Unit {0}) DexFault
standing_at p = each_stands (stands_free p) 0 p.classes

-- ---- by a table of the types that are defined

abbrev pub is_marked : List Bool → ℕ → Bool
is_marked marks kind = slice_index_or marks kind false

-- the types that some classes define, but for interfaces, are marked, and no others
pub record MarksPlain (classes : List Class) (marks : List Bool) : Type 0 where
  pub each : (kind : ℕ) → is_marked marks kind ≡ list_any (defines_so kind) classes

abbrev pub stands_by : List Bool → Class → Bool
stands_by marks class = is_plain_class class || (not (is_marked marks class.superclass) && list_all (λ kind. not (is_marked marks kind)) class.interfaces)
