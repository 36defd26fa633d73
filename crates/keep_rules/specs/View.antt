-- The tables of a view, and what a program and its hierarchy have to be for what rules keep.
use Rattle.std.specs.Prelude.{◌≡◌, ◌<◌, ℕ, zero, suc, Bool, true, false, ◌||◌, ◌&&◌, List, [], ◌∷◌, Option, Some, None, Vec, length, nat_eq, slice_get, cond}
use Rattle.std.specs.List.{list_any}
use Rattle.std.specs.HashMap.{HashMap, get_by}
use Rattle.std.proofs.Common.{Bor}
use Rattle.std.specs.declared.alloc.Global.{Global}
use Rattle.program_model.specs.declared.program.Program.{Program}
use Rattle.program_model.specs.ProgramRules.{is_well_formed}
use Rattle.dalvik_defs.specs.Names.{text_eq}
use Rattle.dalvik_defs.specs.Naming.{type_at}
use Rattle.hierarchy.specs.Shapes.{IsOf}
use Rattle.keep_rules.specs.Table.{has}
use Rattle.keep_rules.specs.Rows.{row_in}
use Rattle.keep_rules.specs.declared.view.View.{View}

-- ---- rows of numbers

-- so many rows, which have just the numbers that pass the test
pub record AreRows (test : ℕ → ℕ → Bool) (count : ℕ) (rows : List (Vec ℕ Global)) : Type 0 where
  pub size : length rows ≡ count
  pub are : (k n : ℕ) → k < count → has (row_in rows k) n ≡ test k n

-- empty rows
pub record AreEmpty (count : ℕ) (rows : List (Vec ℕ Global)) : Type 0 where
  pub size : length rows ≡ count
  pub none : (k : ℕ) → row_in rows k ≡ []

-- the row of one number has one more
pub record AddsTo (k n : ℕ) (old new : List (Vec ℕ Global)) : Type 0 where
  pub size : length new ≡ length old
  pub are : (j m : ℕ) → j < length old → has (row_in new j) m ≡ (has (row_in old j) m || (nat_eq j k && nat_eq m n))

-- the rows of some numbers have
pub record AddsEach (ks : List ℕ) (n : ℕ) (old new : List (Vec ℕ Global)) : Type 0 where
  pub size : length new ≡ length old
  pub are : (j m : ℕ) → j < length old → has (row_in new j) m ≡ (has (row_in old j) m || (list_any (nat_eq j) ks && nat_eq m n))

-- whether the class at a place names a type as its superclass or as an interface
abbrev pub is_below : Program → ℕ → ℕ → Bool
is_below p kind place = elim (slice_get p.classes place) [ Some c ↦ list_any (nat_eq kind) (c.superclass ∷ c.interfaces) | None ↦ false ]

-- whether the method with a number is one of a type
abbrev pub is_method_of : Program → ℕ → ℕ → Bool
is_method_of p kind n = elim (slice_get p.methods n) [ Some m ↦ nat_eq kind m.class | None ↦ false ]

-- ---- types by their descriptors

abbrev pub kind_of : {S : Type 0} → HashMap (Bor (List ℕ)) ℕ S → List ℕ → Option ℕ
kind_of m t = get_by (λ u. text_eq t u.now) m

-- the last of so many types that has this descriptor
abbrev pub last_type : Program → List ℕ → ℕ → Option ℕ
last_type p t zero = None
last_type p t (suc n) = cond (text_eq (type_at p n) t) (Some n) (last_type p t n)

pub record IsTypes {S : Type 0} (p : Program) (types : HashMap (Bor (List ℕ)) ℕ S) : Type 0 where
  pub sound : (t : List ℕ) (k : ℕ) → kind_of types t ≡ Some k → (k < length p.types) × (type_at p k ≡ t)
  pub whole : (k : ℕ) → k < length p.types → kind_of types (type_at p k) ≡ Some k

-- ---- a view

-- the program is well-formed, the hierarchy and the tables are its own
pub record IsReady (v : View) : Type 0 where
  pub formed : is_well_formed v.program.now ≡ true
  pub of : IsOf v.program.now v.hierarchy.now
  pub types : IsTypes v.program.now v.types
  pub below : AreRows (is_below v.program.now) (length v.program.now.types) v.below.items
  pub methods : AreRows (is_method_of v.program.now) (length v.program.now.types) v.methods.items
