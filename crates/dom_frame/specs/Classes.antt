-- What a step reads of a program: which class a type names, and which classes are under it.
use Rattle.std.specs.Prelude.{◌≡◌, ℕ, Bool, true, false, ◌&&◌, nat_lt, List, length, filter, Option, Some, None, slice_get, option_and_then}
use Rattle.std.specs.Option.{option_map}
use Rattle.program_model.specs.declared.program.Program.{Program}
use Rattle.program_model.specs.Lookups.{class_place}
use Rattle.class_defs.specs.Places.{is_under}
use Rattle.hierarchy.specs.Shapes.{IsResolved}
use Rattle.domains.specs.Values.{Parts}
use Rattle.domains.specs.Reducing.{reduced}
use Rattle.dom_frame.specs.declared.classes.Classes.{Classes}

-- the place that a table has for a type
abbrev pub place_in : List (Option ℕ) → ℕ → Option ℕ
place_in places kind = option_and_then (λ o. o) (slice_get places kind)

-- the tables are those of the program
pub record AreClasses (p : Program) (classes : Classes) : Type 0 where
  pub places : (kind : ℕ) → place_in classes.places.now kind ≡ class_place p kind
  pub count : classes.count ≡ length p.classes
  pub hierarchy : IsResolved p classes.hierarchy.now

-- a class of the program stands under another
abbrev pub stands_under : Program → ℕ → ℕ → Bool
stands_under p upper class = nat_lt class (length p.classes) && is_under p class upper

-- an object that was cast to a type: of a class under it where the program defines it
abbrev pub cast_under : Program → Option ℕ → Parts → Parts
cast_under p (Some upper) x = reduced (record x { classes = option_map (filter (stands_under p upper)) x.classes })
cast_under p None x = x

abbrev pub cast_value : Program → ℕ → Parts → Parts
cast_value p kind x = cast_under p (class_place p kind) x
