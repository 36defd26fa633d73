-- What stands directly above a type, by numbers: how the rows of types are made.
use Rattle.std.specs.Prelude.{◌≡◌, ℕ, Bool, false, List, [], ◌∷◌, map, Option, Some, None, is_none, nat_eq, cond, slice_get, slice_set, slice_index_or, Vec}
use Rattle.std.specs.declared.alloc.Global.{Global}
use Rattle.program_model.specs.declared.program.Class.{Class}
use Rattle.program_model.specs.declared.program.Program.{Program}
use Rattle.dalvik_defs.specs.Names.{Text}
use Rattle.dalvik_defs.specs.declared.tables.FrameworkType.{FrameworkType}
use Rattle.dalvik_lookups.specs.declared.types.Kind.{Kind}
use Rattle.dalvik_lookups.specs.declared.graph.Rows.{Rows}
use Rattle.dalvik_lookups.specs.declared.lookups.Names.{Names}
use Rattle.dalvik_lookups.specs.Tables.{kind_in, place_of, row_in}

-- ---- first places

abbrev pub is_empty_at : List (Option ℕ) → ℕ → Bool
is_empty_at places n = elim (slice_get places n) [ Some o ↦ is_none o | None ↦ false ]

-- a place that is set where none was
abbrev pub set_empty : List (Option ℕ) → ℕ → ℕ → List (Option ℕ)
set_empty places n place = cond (is_empty_at places n) (slice_set places n (Some place)) places

-- ---- rows of the framework

-- the rows of numbers are those of some rows
pub record HaveRows (ts : List Text) (rows : Rows) (fs : List FrameworkType) : Type 0 where
  pub own : map (slice_get ts) rows.own.items ≡ map (λ f. Some f.name) fs
  pub above : map (map (slice_get ts)) (map (λ v. v.items) rows.above.items) ≡ map (λ f. map (λ x. Some x) (f.superclass ∷ f.interfaces)) fs

-- a program class that a row names counts as Object
abbrev pub outer_number : List ℕ → ℕ → ℕ
outer_number places n = elim (place_of (slice_index_or places n 4294967295)) [ Some c ↦ 0 | None ↦ n ]

abbrev pub above_row : List ℕ → List (Vec ℕ Global) → Option ℕ → List ℕ
above_row places rows (Some i) = map (outer_number places) (row_in rows i)
above_row places rows None = 0 ∷ []

abbrev pub above_outside : List ℕ → List (Vec ℕ Global) → List (Option ℕ) → ℕ → List ℕ
above_outside places rows placed n = cond (nat_eq n 0) [] (above_row places rows (slice_index_or placed n None))

-- ---- what a class lists

abbrev pub numbers_listed : List Kind → Class → List ℕ
numbers_listed kinds c = map (λ k. (kind_in kinds k).base) (c.superclass ∷ c.interfaces)

abbrev pub above_class : Program → List Kind → ℕ → List ℕ
above_class p kinds place = elim (slice_get p.classes place) [ Some c ↦ numbers_listed kinds c | None ↦ [] ]

-- the row of a type
abbrev pub above_numbers : Program → Names → Rows → List (Option ℕ) → ℕ → List ℕ
above_numbers p names rows placed n = elim (place_of (slice_index_or names.class_of.items n 4294967295)) [
  | Some c ↦ above_class p names.kinds.items c
  | None ↦ above_outside names.class_of.items rows.above.items placed n
]
