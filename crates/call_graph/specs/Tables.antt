-- What the tables of a search hold (this project's profile: ProGuard manual, "Keep Options").
use Rattle.std.specs.Prelude.{◌≡◌, ◌<◌, ◌^◌, ℕ, Bool, false, List, [], ◌∷◌, flat_map, length, Option, Some, None, nat_eq, cond, slice_get, slice_index_or}
use Rattle.std.specs.List.{list_any}
use Rattle.program_model.specs.declared.pools.FieldName.{FieldName}
use Rattle.program_model.specs.declared.pools.MethodName.{MethodName}
use Rattle.program_model.specs.declared.pass.ClassIf.{ClassIf}
use Rattle.program_model.specs.declared.pass.Outside.{Outside}
use Rattle.program_model.specs.declared.program.Program.{Program}
use Rattle.call_graph.specs.declared.tables.Tables.{Tables}
use Rattle.call_graph.specs.Bases.{bases_of, object_number}
use Rattle.call_graph.specs.Lists.{row_of}

-- ---- what is kept where a class is live

abbrev pub field_in : ℕ → ℕ → Option FieldName → List ℕ
field_in kind number None = []
field_in kind number (Some f) = cond (nat_eq kind f.class) (number ∷ []) []

abbrev pub method_in : ℕ → ℕ → Option MethodName → List ℕ
method_in kind number None = []
method_in kind number (Some m) = cond (nat_eq kind m.class) (number ∷ []) []

-- the number, where it is that of a field of the type
abbrev pub field_if : Program → ℕ → ℕ → List ℕ
field_if p kind number = field_in kind number (slice_get p.fields number)

abbrev pub method_if : Program → ℕ → ℕ → List ℕ
method_if p kind number = method_in kind number (slice_get p.methods number)

abbrev pub class_if : ℕ → ClassIf → List ℕ
class_if kind one = cond (nat_eq kind one.owner) (one.class ∷ []) []

-- the members of a class that are kept where it is live, and the classes that are kept then
abbrev pub fields_if : Program → Outside → ℕ → List ℕ
fields_if p o kind = flat_map (field_if p kind) o.fields_if

abbrev pub methods_if : Program → Outside → ℕ → List ℕ
methods_if p o kind = flat_map (method_if p kind) o.methods_if

abbrev pub classes_if : Outside → ℕ → List ℕ
classes_if o kind = flat_map (class_if kind) o.classes_if

-- ---- the tables

-- each row of a table is a list, as far as there are types
abbrev pub AreRows : Program → (ℕ → List ℕ) → (ℕ → List ℕ) → Type 0
AreRows p rows lists = (kind : ℕ) → kind < length p.types → rows kind ≡ lists kind

-- marks stand on these numbers
abbrev pub AreMarked : List ℕ → List Bool → Type 0
AreMarked numbers marks = (n : ℕ) → n < length marks → slice_index_or marks n false ≡ list_any (nat_eq n) numbers

pub record AreTables (p : Program) (o : Outside) (t : Tables) : Type 0 where
  pub bases : t.bases.items ≡ bases_of p
  pub fields : AreRows p (row_of t.fields_if) (fields_if p o)
  pub methods : AreRows p (row_of t.methods_if) (methods_if p o)
  pub classes : AreRows p (row_of t.classes_if) (classes_if o)
  pub shut : AreMarked o.shut t.shut.items
  pub shut_long : length t.shut.items ≡ length p.methods
  pub object : length p.types < 2 ^ 32 → t.object ≡ object_number p
