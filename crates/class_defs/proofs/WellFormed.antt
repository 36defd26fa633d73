-- What a well-formed program's tables and classes hold.
use Rattle.std.proofs.Common.{◌≡◌, ℕ, zero, suc, ◌<◌, ◌^◌, Bool, true, false, true≢false, nat_eq, List, [], ◌∷◌, length, Option, Some, None, refl, sym, ap, ◌∙◌, ltb-true}
use Rattle.std.specs.Prelude.{◌&&◌, not, slice_get, nat_lt, nat_le, is_ok}
use Rattle.std.specs.List.{list_all}
use Rattle.program_model.specs.declared.pools.FieldName.{FieldName}
use Rattle.program_model.specs.declared.pools.MethodName.{MethodName}
use Rattle.program_model.specs.declared.program.Field.{Field}
use Rattle.program_model.specs.declared.program.Method.{Method}
use Rattle.program_model.specs.declared.program.Class.{Class}
use Rattle.program_model.specs.declared.program.Program.{Program}
use Rattle.program_model.specs.Neighbours.{neighbours}
use Rattle.program_model.specs.Texts.{has_type, is_class, letter_of, type_text}
use Rattle.program_model.specs.ValueRules.{marks_fit}
use Rattle.program_model.specs.Distinct.{text_key, type_key, proto_key, field_key, method_key, own_field_key, own_method_key, all_differ}
use Rattle.program_model.specs.TableRules.{type_fits, proto_fits, field_id_fits, method_id_fits, entries_fit, entries_differ, tables_are_short, texts_are_short, tables_fit}
use Rattle.program_model.specs.MemberRules.{is_class_type, is_object, types_of_class_fit, source_fits, fields_fit, methods_fit, class_fits, field_fits, method_fits, is_class_number, class_of_field, class_of_method, first_value_fits, code_fits, fields_in_order, methods_in_order}
use Rattle.program_model.specs.ProgramRules.{is_well_formed}
use Rattle.program_model.proofs.Formed.{formed}
use Rattle.class_defs.proofs.Positions.{both, number_of}

-- ---- tests

pub and_left : (a b : Bool) → (a && b) ≡ true → a ≡ true
and_left true b e = refl
and_left false b e = e

pub and_right : (a b : Bool) → (a && b) ≡ true → b ≡ true
and_right true b e = e
and_right false b e = absurd (true≢false (sym e))

-- what is true of all entries is true of each
pub all_at : {X : Type 0} (t : X → Bool) (xs : List X) (i : ℕ) (x : X) → list_all t xs ≡ true → slice_get xs i ≡ Some x → t x ≡ true
all_at t [] i x h e = cc
all_at t (y ∷ ys) zero x h e = ap t (let s : x ≡ y = cc in s) ∙ and_left (t y) (list_all t ys) h
all_at t (y ∷ ys) (suc i) x h e = all_at t ys i x (and_right (t y) (list_all t ys) h) e

-- ---- the tables of a program

pub record Sound (p : Program) : Type 0 where
  pub strings : all_differ text_key p.strings ≡ true
  pub types : all_differ type_key p.types ≡ true
  pub protos : all_differ proto_key p.protos ≡ true
  pub fields : all_differ field_key p.fields ≡ true
  pub methods : all_differ method_key p.methods ≡ true
  pub types_fit : list_all (type_fits p) p.types ≡ true
  pub protos_fit : list_all (proto_fits p) p.protos ≡ true
  pub fields_fit : list_all (field_id_fits p) p.fields ≡ true
  pub methods_fit : list_all (method_id_fits p) p.methods ≡ true
  pub classes_fit : list_all (class_fits p) p.classes ≡ true

strings_of : (a b c d e : Bool) → ((a && b) && (c && (d && e))) ≡ true → (a ≡ true) × ((b ≡ true) × ((c ≡ true) × ((d ≡ true) × (e ≡ true))))
strings_of a b c d e h =
    let l = and_left (a && b) (c && (d && e)) h in
    let r = and_right (a && b) (c && (d && e)) h in
    let s = and_right c (d && e) r in
    (and_left a b l, (and_right a b l, (and_left c (d && e) r, (and_left d e s, and_right d e s))))

four_of : (a b c d : Bool) → (a && (b && (c && d))) ≡ true → (a ≡ true) × ((b ≡ true) × ((c ≡ true) × (d ≡ true)))
four_of a b c d h =
    let r = and_right a (b && (c && d)) h in
    let s = and_right b (c && d) r in
    (and_left a (b && (c && d)) h, (and_left b (c && d) r, (and_left c d s, and_right c d s)))

differ_of : (p : Program) → entries_differ p ≡ true → (all_differ text_key p.strings ≡ true) × ((all_differ type_key p.types ≡ true) × ((all_differ proto_key p.protos ≡ true)
    × ((all_differ field_key p.fields ≡ true) × (all_differ method_key p.methods ≡ true))))
unfolding entries_differ
differ_of p h = strings_of (all_differ text_key p.strings) (all_differ type_key p.types) (all_differ proto_key p.protos) (all_differ field_key p.fields) (all_differ method_key p.methods) h

fit_of : (p : Program) → entries_fit p ≡ true → (list_all (type_fits p) p.types ≡ true) × ((list_all (proto_fits p) p.protos ≡ true)
    × ((list_all (field_id_fits p) p.fields ≡ true) × (list_all (method_id_fits p) p.methods ≡ true)))
unfolding entries_fit
fit_of p h = four_of (list_all (type_fits p) p.types) (list_all (proto_fits p) p.protos) (list_all (field_id_fits p) p.fields) (list_all (method_id_fits p) p.methods) h

tables_of : (p : Program) → tables_fit p ≡ true → (entries_fit p ≡ true) × (entries_differ p ≡ true)
unfolding tables_fit
tables_of p h =
    let r = and_right (tables_are_short p && texts_are_short p) (entries_fit p && entries_differ p) h in
    (and_left (entries_fit p) (entries_differ p) r, and_right (entries_fit p) (entries_differ p) r)

parts_of : (p : Program) → is_well_formed p ≡ true → (tables_fit p ≡ true) × (list_all (class_fits p) p.classes ≡ true)
parts_of p h =
    let f = formed p h in
    (f.tables, f.classes)

pub sound : (p : Program) → is_well_formed p ≡ true → Sound p
sound p h =
    let parts = parts_of p h in
    let tables = tables_of p parts.0 in
    let fit = fit_of p tables.0 in
    let differ = differ_of p tables.1 in
    record {
      strings = differ.0;
      types = differ.1.0;
      protos = differ.1.1.0;
      fields = differ.1.1.1.0;
      methods = differ.1.1.1.1;
      types_fit = fit.0;
      protos_fit = fit.1.0;
      fields_fit = fit.1.1.0;
      methods_fit = fit.1.1.1;
      classes_fit = parts.1;
    }

-- a test of numbers below a bound
pub below : (a b : ℕ) → nat_lt a b ≡ true → a < b
below a b h = ltb-true a b h

pub record FieldFits (p : Program) (class : ℕ) (f : Field) : Type 0 where
  pub entry : FieldName
  pub is : slice_get p.fields f.name ≡ Some entry
  pub owner : entry.class ≡ class

pub record MethodFits (p : Program) (class : ℕ) (m : Method) : Type 0 where
  pub entry : MethodName
  pub is : slice_get p.methods m.name ≡ Some entry
  pub owner : entry.class ≡ class

pub record ClassFits (p : Program) (c : Class) : Type 0 where
  pub name : c.name < length p.types
  pub superclass : c.superclass < length p.types
  pub interfaces : list_all (has_type p) c.interfaces ≡ true
  pub fields : (i : ℕ) (f : Field) → slice_get c.fields i ≡ Some f → FieldFits p c.name f
  pub methods : (i : ℕ) (m : Method) → slice_get c.methods i ≡ Some m → MethodFits p c.name m

field_entry : (p : Program) (class : ℕ) (f : Field) (o : Option FieldName) → slice_get p.fields f.name ≡ o → is_class_number (class_of_field o) class ≡ true → FieldFits p class f
field_entry p class f None e h = absurd (true≢false (sym h))
field_entry p class f (Some q) e h = record { entry = q; is = e; owner = number_of q.class class h }

method_entry : (p : Program) (class : ℕ) (m : Method) (o : Option MethodName) → slice_get p.methods m.name ≡ o → is_class_number (class_of_method o) class ≡ true → MethodFits p class m
method_entry p class m None e h = absurd (true≢false (sym h))
method_entry p class m (Some q) e h = record { entry = q; is = e; owner = number_of q.class class h }

field_of_fit : (p : Program) (class : ℕ) (f : Field) → field_fits p class f ≡ true → FieldFits p class f
unfolding field_fits
field_of_fit p class f h = field_entry p class f (slice_get p.fields f.name) refl
    (and_left (is_class_number (class_of_field (slice_get p.fields f.name)) class) (first_value_fits p f.flags f.name f.first && marks_fit p f.marks) h)

method_of_fit : (p : Program) (class : ℕ) (m : Method) → method_fits p class m ≡ true → MethodFits p class m
unfolding method_fits
method_of_fit p class m h = method_entry p class m (slice_get p.methods m.name) refl
    (and_left (is_class_number (class_of_method (slice_get p.methods m.name)) class) (code_fits p m m.body)
    (and_left (is_class_number (class_of_method (slice_get p.methods m.name)) class && code_fits p m m.body) (marks_fit p m.marks && list_all (marks_fit p) m.parameter_marks) h))

all_fields : (p : Program) (class : ℕ) (fs : List Field) → fields_fit p class fs ≡ true → list_all (field_fits p class) fs ≡ true
unfolding fields_fit
all_fields p class fs h = and_left (list_all (field_fits p class) fs) (list_all fields_in_order (neighbours fs) && all_differ own_field_key fs) h

all_methods : (p : Program) (class : ℕ) (ms : List Method) → methods_fit p class ms ≡ true → list_all (method_fits p class) ms ≡ true
unfolding methods_fit
all_methods p class ms h = and_left (list_all (method_fits p class) ms) (list_all (methods_in_order p) (neighbours ms) && all_differ own_method_key ms) h

class_type : (p : Program) (kind : ℕ) → is_class_type p kind ≡ true → kind < length p.types
class_type p kind h = below kind (length p.types) (and_left (has_type p kind) (is_class (letter_of p kind)) h)

types_in : (p : Program) (ks : List ℕ) → list_all (is_class_type p) ks ≡ true → list_all (has_type p) ks ≡ true
types_in p [] h = refl
types_in p (k ∷ ks) h = both (has_type p k) (list_all (has_type p) ks)
    (and_left (has_type p k) (is_class (letter_of p k)) (and_left (is_class_type p k) (list_all (is_class_type p) ks) h))
    (types_in p ks (and_right (is_class_type p k) (list_all (is_class_type p) ks) h))

types_of : (p : Program) (c : Class) → types_of_class_fit p c ≡ true → (c.name < length p.types) × ((c.superclass < length p.types) × (list_all (has_type p) c.interfaces ≡ true))
unfolding types_of_class_fit
types_of p c h =
    let one = and_left (is_class_type p c.name && not (is_object (type_text p c.name))) (is_class_type p c.superclass && list_all (is_class_type p) c.interfaces) h in
    let two = and_right (is_class_type p c.name && not (is_object (type_text p c.name))) (is_class_type p c.superclass && list_all (is_class_type p) c.interfaces) h in (
      class_type p c.name (and_left (is_class_type p c.name) (not (is_object (type_text p c.name))) one),
      (
        class_type p c.superclass (and_left (is_class_type p c.superclass) (list_all (is_class_type p) c.interfaces) two),
        types_in p c.interfaces (and_right (is_class_type p c.superclass) (list_all (is_class_type p) c.interfaces) two),
      ),
    )

class_of_fit : (p : Program) (c : Class) → class_fits p c ≡ true → ClassFits p c
unfolding class_fits
class_of_fit p c h =
    let one = and_left (types_of_class_fit p c && (source_fits p c.source && marks_fit p c.marks)) (fields_fit p c.name c.fields && methods_fit p c.name c.methods) h in
    let two = and_right (types_of_class_fit p c && (source_fits p c.source && marks_fit p c.marks)) (fields_fit p c.name c.fields && methods_fit p c.name c.methods) h in
    let types = types_of p c (and_left (types_of_class_fit p c) (source_fits p c.source && marks_fit p c.marks) one) in
    record {
      name = types.0;
      superclass = types.1.0;
      interfaces = types.1.1;
      fields = λ i f e. field_of_fit p c.name f (all_at (field_fits p c.name) c.fields i f (all_fields p c.name c.fields (and_left (fields_fit p c.name c.fields) (methods_fit p c.name c.methods) two)) e);
      methods = λ i m e. method_of_fit p c.name m (all_at (method_fits p c.name) c.methods i m (all_methods p c.name c.methods (and_right (fields_fit p c.name c.fields) (methods_fit p c.name c.methods) two)) e);
    }

short_of : (p : Program) → tables_are_short p ≡ true → length p.classes < 2 ^ 32
unfolding tables_are_short
short_of p h = ltb-true (length p.classes) (2 ^ 32) (and_right (nat_lt (length p.strings) (2 ^ 32)) (nat_lt (length p.classes) (2 ^ 32))
    (and_left (nat_lt (length p.strings) (2 ^ 32) && nat_lt (length p.classes) (2 ^ 32)) ((nat_le (length p.types) 65535 && nat_le (length p.protos) 65535) && (nat_le (length p.fields) 65536 && nat_le (length p.methods) 65536)) h))

whole_of : (p : Program) → tables_fit p ≡ true → tables_are_short p ≡ true
unfolding tables_fit
whole_of p h = and_left (tables_are_short p) (texts_are_short p) (and_left (tables_are_short p && texts_are_short p) (entries_fit p && entries_differ p) h)

-- how many classes there are
pub few_classes : (p : Program) → is_well_formed p ≡ true → length p.classes < 2 ^ 32
few_classes p h = short_of p (whole_of p (parts_of p h).0)

-- what a class of the program has
pub class_parts : (p : Program) (s : Sound p) (i : ℕ) (c : Class) → slice_get p.classes i ≡ Some c → ClassFits p c
class_parts p s i c e = class_of_fit p c (all_at (class_fits p) p.classes i c s.classes_fit e)
