-- The members of a written class are those that its class data lists.
use Rattle.std.proofs.Common.{◌≡◌, ℕ, Bool, List, [], ◌∷◌, map, refl, sym, ap, subst, ◌∙◌, Option, Some, None, All}
use Rattle.std.specs.Prelude.{slice_get}
use Rattle.std.specs.Option.{option_map}
use Rattle.std.specs.List.{AllByRecursion}
use Rattle.std.proofs.lemmas.List.Elements.{All-nil, All-cons}
use Rattle.lemmas.proofs.Lists.{get_map}
use Rattle.program_model.specs.declared.pass.Renumber.{Renumber}
use Rattle.program_model.specs.declared.program.Field.{Field}
use Rattle.program_model.specs.declared.program.Method.{Method}
use Rattle.program_model.specs.declared.program.Class.{Class}
use Rattle.program_model.specs.declared.program.Program.{Program}
use Rattle.program_model.specs.MemberRules.{is_static, is_direct}
use Rattle.dex_pools.specs.declared.scalar.TableSizes.{TableSizes}
use Rattle.dex_write.specs.declared.ordered.MethodPart.{MethodPart}
use Rattle.dex_write.specs.Plans.{Numbered, spot_of, flags_in, method_flags_in, marks_in, method_marks_in, parameters_in, field_marks, method_marks, parameter_marks}
use Rattle.dex_write.specs.Codes.{code_behind}
use Rattle.dex_defs.specs.Annotations.{Directory, offset_for, AreMarksOf, AreParameterMarksOf}
use Rattle.dex_defs.specs.Arranged.{Both}
use Rattle.dex_defs.specs.ClassDefs.{AreFields, AreMethods, HasCode}
use Rattle.dex_defs.specs.Written.{new_method, new_marks, written_field, written_method}
use Rattle.write_laws.specs.Listing.{field_entry, method_entries}
use Rattle.written_file.proofs.Grouped.{Spot}
use Rattle.written_file.proofs.Members.{field_or, field_at, method_or, method_at}
use Rattle.written_code.proofs.Apart.{IsNewSet}

-- ---- fields

field_flags_are : (r : Renumber) (o : Option Field) → (field_or (option_map (written_field r) o)).flags.0 ≡ flags_in o
field_flags_are r None = refl
field_flags_are r (Some f) = refl

field_marks_are : (r : Renumber) (o : Option Field) → new_marks r (marks_in o) ≡ (field_or (option_map (written_field r) o)).marks
field_marks_are r None = refl
field_marks_are r (Some f) = refl

pub fields_are : (bytes : List ℕ) (sizes : TableSizes) (r : Renumber) (d : Directory) (c : Class) (wanted : Bool) (fs : List Numbered) → AllByRecursion (Spot (λ f. f.name) (λ f. is_static f.flags) (map (written_field r) c.fields) wanted) fs
    → Both (IsNewSet bytes sizes r) (map (λ e. offset_for e.number d.fields) (map (field_entry c) fs)) (map (λ f. field_marks c f.1) fs) → AreFields bytes sizes d (map (field_entry c) fs) (map (λ x. field_at r c x.1) fs)
fields_are bytes sizes r d c wanted [] spots sets = tt
fields_are bytes sizes r d c wanted (f ∷ fs) spots sets =
    let got : slice_get (map (written_field r) c.fields) f.1 ≡ option_map (written_field r) (slice_get c.fields f.1) = get_map (written_field r) c.fields f.1 in (
      record {
        number = ap (λ (o : Option Field). (field_or o).name) spots.0.is ∙ sym spots.0.number;
        flags = ap (λ (o : Option Field). (field_or o).flags.0) got ∙ field_flags_are r (slice_get c.fields f.1);
        marks = subst (λ l. AreMarksOf bytes sizes (offset_for f.0 d.fields) l) (field_marks_are r (slice_get c.fields f.1) ∙ sym (ap (λ (o : Option Field). (field_or o).marks) got)) sets.0;
      },
      fields_are bytes sizes r d c wanted fs spots.1 sets.1,
    )

pub fields_grouped : (r : Renumber) (c : Class) (wanted : Bool) (fs : List Numbered) → AllByRecursion (Spot (λ f. f.name) (λ f. is_static f.flags) (map (written_field r) c.fields) wanted) fs → All (λ f. is_static f.flags ≡ wanted) (map (λ x. field_at r c x.1) fs)
fields_grouped r c wanted [] spots = All-nil (λ f. is_static f.flags ≡ wanted)
fields_grouped r c wanted (f ∷ fs) spots = All-cons (λ f. is_static f.flags ≡ wanted) (field_at r c f.1) (map (λ x. field_at r c x.1) fs) (ap (λ (o : Option Field). is_static (field_or o).flags) spots.0.is ∙ spots.0.group) (fields_grouped r c wanted fs spots.1)

-- ---- methods

method_flags_are : (o : Option Method) → (method_or o).flags.0 ≡ method_flags_in o
method_flags_are None = refl
method_flags_are (Some m) = refl

method_marks_are : (r : Renumber) (o : Option Method) → new_marks r (method_marks_in o) ≡ (written_method r (method_or o)).marks
method_marks_are r None = refl
method_marks_are r (Some m) = refl

parameters_are : (r : Renumber) (o : Option Method) → map (new_marks r) (parameters_in o) ≡ (written_method r (method_or o)).parameter_marks
parameters_are r None = refl
parameters_are r (Some m) = refl

pub methods_are : (bytes : List ℕ) (sizes : TableSizes) (types : ℕ) (r : Renumber) (p : Program) (d : Directory) (c : Class) (wanted : Bool) (at : ℕ) (ms : List MethodPart) → AllByRecursion (λ m. Spot (λ x. new_method r x.name) (λ x. is_direct p x) c.methods wanted (spot_of m)) ms
    → Both (IsNewSet bytes sizes r) (map (λ e. offset_for e.number d.methods) (method_entries c at ms)) (map (λ m. method_marks c m.place) ms)
    → Both (λ offset marks. AreParameterMarksOf bytes sizes offset (map (new_marks r) marks)) (map (λ e. offset_for e.number d.parameters) (method_entries c at ms)) (map (λ m. parameter_marks c m.place) ms)
    → Both (λ e m. HasCode bytes types e.code m.body m.lines) (method_entries c at ms) (map (λ m. written_method r (method_at c m.place)) ms)
    → AreMethods bytes sizes types d (method_entries c at ms) (map (λ m. written_method r (method_at c m.place)) ms)
methods_are bytes sizes types r p d c wanted at [] spots sets lists codes = tt
methods_are bytes sizes types r p d c wanted at (m ∷ ms) spots sets lists codes =
    let o : Option Method = slice_get c.methods m.place in (
      record {
        number = ap (λ (x : Option Method). new_method r (method_or x).name) spots.0.is ∙ sym spots.0.number;
        flags = method_flags_are o;
        marks = subst (λ l. AreMarksOf bytes sizes (offset_for m.number d.methods) l) (method_marks_are r o) sets.0;
        parameter_marks = subst (λ l. AreParameterMarksOf bytes sizes (offset_for m.number d.parameters) l) (parameters_are r o) lists.0;
        code = codes.0;
      },
      methods_are bytes sizes types r p d c wanted (code_behind at m) ms spots.1 sets.1 lists.1 codes.1,
    )

pub methods_grouped : (r : Renumber) (p q : Program) (c : Class) (wanted : Bool) (ms : List MethodPart) → AllByRecursion (λ m. Spot (λ x. new_method r x.name) (λ x. is_direct p x) c.methods wanted (spot_of m)) ms → AllByRecursion (λ m. is_direct q (written_method r (method_at c m.place)) ≡ is_direct p (method_at c m.place)) ms
    → All (λ m. is_direct q m ≡ wanted) (map (λ m. written_method r (method_at c m.place)) ms)
methods_grouped r p q c wanted [] spots same = All-nil (λ m. is_direct q m ≡ wanted)
methods_grouped r p q c wanted (m ∷ ms) spots same =
    All-cons (λ m. is_direct q m ≡ wanted) (written_method r (method_at c m.place)) (map (λ m. written_method r (method_at c m.place)) ms)
    (same.0 ∙ (ap (λ (o : Option Method). is_direct p (method_or o)) spots.0.is ∙ spots.0.group)) (methods_grouped r p q c wanted ms spots.1 same.1)
