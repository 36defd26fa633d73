-- An answer is the table of the rules: by number what the table says of the name that the number has.
use Rattle.std.specs.Prelude.{◌≡◌, ℕ, ◌<◌, Bool, true, ◌&&◌, List, [], length, nat_eq}
use Rattle.std.specs.List.{list_any}
use Rattle.program_model.specs.declared.program.Program.{Program}
use Rattle.program_model.specs.declared.pass.Outside.{Outside}
use Rattle.program_model.specs.declared.pass.ClassIf.{ClassIf}
use Rattle.rule_text.specs.Rules.{Entry}
use Rattle.dalvik_defs.specs.Naming.{type_at, field_at, method_at, named}
use Rattle.rule_defs.specs.Kept.{Table, table_of}
use Rattle.keep_rules.specs.Outside.{IsWithin}

abbrev pub has : List ℕ → ℕ → Bool
has numbers n = list_any (nat_eq n) numbers

abbrev pub has_pair : List ClassIf → ℕ → ℕ → Bool
has_pair pairs class owner = list_any (λ pair. nat_eq class pair.class && nat_eq owner pair.owner) pairs

-- whether some class defines the member with a number
abbrev pub defines_method : Program → ℕ → Bool
defines_method p n = list_any (λ c. list_any (λ m. nat_eq n m.name) c.methods) p.classes

abbrev pub defines_field : Program → ℕ → Bool
defines_field p n = list_any (λ c. list_any (λ f. nat_eq n f.name) c.fields) p.classes

abbrev pub defines_type : Program → ℕ → Bool
defines_type p n = list_any (λ c. nat_eq n c.name) p.classes

-- The members that are kept are the program's own: each number is one of a field or a method that some class defines.
pub record OwnMembers (p : Program) (o : Outside) : Type 0 where
  pub methods : (n : ℕ) → has o.methods n ≡ true → defines_method p n ≡ true
  pub fields : (n : ℕ) → has o.fields n ≡ true → defines_field p n ≡ true
  pub methods_if : (n : ℕ) → has o.methods_if n ≡ true → defines_method p n ≡ true
  pub fields_if : (n : ℕ) → has o.fields_if n ≡ true → defines_field p n ≡ true

-- The same of the classes, and of the owners of those that are kept on a condition.
pub record OwnClasses (p : Program) (o : Outside) : Type 0 where
  pub classes : (n : ℕ) → has o.classes n ≡ true → defines_type p n ≡ true
  pub classes_if : (n k : ℕ) → has_pair o.classes_if n k ≡ true → (defines_type p n ≡ true) × (defines_type p k ≡ true)

-- each entry of the program's tables is kept, kept on a condition or silent where the table says so of its name
pub record AgreesWith (p : Program) (t : Table) (o : Outside) : Type 0 where
  pub classes : (n : ℕ) → n < length p.types → has o.classes n ≡ t.classes (type_at p n)
  pub methods : (n : ℕ) → n < length p.methods → has o.methods n ≡ t.methods (method_at p n)
  pub fields : (n : ℕ) → n < length p.fields → has o.fields n ≡ t.fields (field_at p n)
  pub methods_if : (n : ℕ) → n < length p.methods → has o.methods_if n ≡ t.methods_if (method_at p n)
  pub fields_if : (n : ℕ) → n < length p.fields → has o.fields_if n ≡ t.fields_if (field_at p n)
  pub classes_if : (n k : ℕ) → n < length p.types → k < length p.types → has_pair o.classes_if n k ≡ t.classes_if (type_at p n) (type_at p k)
  pub silent : (n : ℕ) → n < length p.methods → has o.silent n ≡ t.silent (method_at p n)
  pub shrink : o.shrink ≡ t.shrink
  pub optimise : o.optimise ≡ t.optimise

-- The table of these rules: numbers of the program's tables, ascending and once each; nothing is shut.
pub record IsTable (p : Program) (entries : List Entry) (o : Outside) : Type 0 where
  pub within : IsWithin p o
  pub agrees : AgreesWith p (table_of (named p) entries) o
  pub members : OwnMembers p o
  pub kinds : OwnClasses p o
  pub shut : o.shut ≡ []
