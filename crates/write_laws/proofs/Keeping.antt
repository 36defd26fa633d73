-- What each class and each of its members names stays, since a program uses all that its classes name.
use Rattle.std.proofs.Common.{◌≡◌, ℕ, List, [], ◌∷◌, ◌++◌, refl, sym, ap, subst, map, Option}
use Rattle.std.specs.Prelude.{Some, None}
use Rattle.std.specs.Option.{option_map}
use Rattle.std.specs.List.{AllByRecursion, flat_map}
use Rattle.dex_pools.specs.declared.interner.Interner.{Interner}
use Rattle.dex_pools.specs.Interned.{IsInterned}
use Rattle.dex_pools.specs.declared.used.Named.{Named}
use Rattle.dex_pools.specs.Used.{kind_names, source_names, first_names, marks_names, code_names, value_names, field_names, method_names, class_names}
use Rattle.dex_pools.specs.Numbering.{used_in}
use Rattle.program_model.specs.declared.program.Field.{Field}
use Rattle.program_model.specs.declared.program.Method.{Method}
use Rattle.program_model.specs.declared.program.Class.{Class}
use Rattle.program_model.specs.declared.program.Program.{Program}
use Rattle.program_model.specs.declared.value.EncValue.{EncValue, EncValue-F, roll-EncValue}
use Rattle.program_model.specs.declared.value.Element.{Element}
use Rattle.program_model.specs.declared.value.Note.{Note}
use Rattle.dalvik_defs.specs.Names.{Text}
use Rattle.dalvik_defs.specs.Naming.{text_at, type_at, value_of}
use Rattle.dex_defs.specs.Written.{new_string, new_type, new_value, written_by}
use Rattle.write_laws.specs.Used.{IsUsed, IsShort}
use Rattle.write_laws.specs.Carried.{KeepsTexts}
use Rattle.write_laws.specs.Members.{IsPlain, KeepsField, KeepsMethod, KeepsClass}
use Rattle.write_laws.proofs.Marking.{all_left, all_right}
use Rattle.write_laws.proofs.Closed.{names_used}
use Rattle.write_laws.proofs.Carried.{texts_kept}
use Rattle.write_laws.proofs.Bodies.{each_kept, code_kept}
use Rattle.write_laws.proofs.Values.{plain_kept}

-- what holds of each whose names are as they should be
each_holds : {X : Type 0} (P : Named → Type 0) (names : X → List Named) (Q : X → Type 0) → ((x : X) → AllByRecursion P (names x) → Q x) → (xs : List X) → AllByRecursion P (flat_map names xs) → AllByRecursion Q xs
each_holds P names Q one [] all = tt
each_holds P names Q one (x ∷ xs) all = (one x (all_left P (names x) (flat_map names xs) all), each_holds P names Q one xs (all_right P (names x) (flat_map names xs) all))

module _ (p : Program) (i : Interner) (q : Program) (keeps : KeepsTexts p i q) where
  abbrev AllUsed : List Named → Type 0
  AllUsed ns = AllByRecursion (IsUsed (used_in p)) ns

  source_kept : (o : Option ℕ) → AllUsed (source_names o) → option_map (text_at q) (option_map (new_string i.numbers) o) ≡ option_map (text_at p) o
  source_kept None h = refl
  source_kept (Some n) h = ap (λ (t : Text). Some t) (keeps.strings n h.0)

  first_kept : (o : Option EncValue) (x : EncValue-F EncValue Element Note) → o ≡ Some (roll-EncValue x) → IsPlain x → AllUsed (first_names o) → option_map (value_of q) (option_map (new_value i.numbers) o) ≡ option_map (value_of p) o
  first_kept None x e g h = refl
  first_kept (Some v) x e g h =
      let is : v ≡ roll-EncValue x = same_some v (roll-EncValue x) e in
      ap (λ w. Some w) (subst (λ w. AllUsed (value_names w) → value_of q (new_value i.numbers w) ≡ value_of p w) (sym is) (plain_kept p i q keeps x g) h)
    where
      same_some : (a b : EncValue) → Some a ≡ Some b → a ≡ b
      same_some a b s = cc

  field_kept : (f : Field) → AllUsed (field_names f) → KeepsField p i q f
  unfolding field_names
  field_kept f h = record {
    name = keeps.fields f.name h.0;
    first = λ x e g. first_kept f.first x e g (all_left (IsUsed (used_in p)) (first_names f.first) (marks_names f.marks) h.1);
  }

  method_kept : (m : Method) → AllUsed (method_names m) → KeepsMethod p i q m
  unfolding method_names
  method_kept m h = record {
    name = keeps.methods m.name h.0;
    code = code_kept p i q keeps m.body (all_right (IsUsed (used_in p)) (flat_map marks_names m.parameter_marks) (code_names m.body) (all_right (IsUsed (used_in p)) (marks_names m.marks) (flat_map marks_names m.parameter_marks ++ code_names m.body) h.1));
  }

  kind_kept : (n : ℕ) → AllUsed (kind_names n) → type_at q (new_type i.numbers n) ≡ type_at p n
  kind_kept n h = keeps.types n h.0

  class_kept : (c : Class) → AllUsed (class_names c) → KeepsClass p i q c
  unfolding class_names
  class_kept c h =
      let methods : List Named = flat_map method_names c.methods in
      let fields : List Named = flat_map field_names c.fields in
      let marks : List Named = marks_names c.marks in
      let source : List Named = source_names c.source in
      let kinds : List Named = flat_map kind_names c.interfaces in
      let a = all_right (IsUsed (used_in p)) kinds (source ++ (marks ++ (fields ++ methods))) h.1.1 in
      let b = all_right (IsUsed (used_in p)) source (marks ++ (fields ++ methods)) a in
      let d = all_right (IsUsed (used_in p)) marks (fields ++ methods) b in
      record {
        name = keeps.types c.name h.0;
        superclass = keeps.types c.superclass h.1.0;
        interfaces = each_kept (IsUsed (used_in p)) kind_names (new_type i.numbers) (type_at q) (type_at p) kind_kept c.interfaces (all_left (IsUsed (used_in p)) kinds (source ++ (marks ++ (fields ++ methods))) h.1.1);
        source = source_kept c.source (all_left (IsUsed (used_in p)) source (marks ++ (fields ++ methods)) a);
        fields = each_holds (IsUsed (used_in p)) field_names (KeepsField p i q) field_kept c.fields (all_left (IsUsed (used_in p)) fields methods d);
        methods = each_holds (IsUsed (used_in p)) method_names (KeepsMethod p i q) method_kept c.methods (all_right (IsUsed (used_in p)) fields methods d);
      }

pub classes_kept : (p : Program) (i : Interner) → IsShort p → IsInterned p i → AllByRecursion (KeepsClass p i (written_by i p)) p.classes
classes_kept p i few h = each_holds (IsUsed (used_in p)) class_names (KeepsClass p i (written_by i p)) (class_kept p i (written_by i p) (texts_kept p i few h)) p.classes (names_used p)
