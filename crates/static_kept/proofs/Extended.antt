-- What entries that are appended to the tables leave of the rules: texts, annotations, first values and fields.
use Rattle.std.proofs.Common.{◌≡◌, ℕ, zero, suc, Bool, true, List, [], ◌++◌, length, Option, Some, None, refl, ap, ◌∙◌, arith, lt-ltb}
use std.Path.{fun_ext}
use Rattle.std.specs.Prelude.{◌&&◌, not, is_ok, nat_lt, slice_get, slice_index_or, if◌then◌else◌}
use Rattle.std.specs.List.{list_all}
use Rattle.lemmas.proofs.Bools.{and_left, and_right, and_both}
use Rattle.lemmas.proofs.Lists.{all_at, all_more}
use Rattle.dex_base.specs.Descriptor.{descriptor_of}
use Rattle.program_model.specs.declared.flags.Flags.{Flags}
use Rattle.program_model.specs.declared.pools.FieldName.{FieldName}
use Rattle.program_model.specs.declared.pools.Proto.{Proto}
use Rattle.program_model.specs.declared.program.Class.{Class}
use Rattle.program_model.specs.declared.program.Field.{Field}
use Rattle.program_model.specs.declared.program.Program.{Program}
use Rattle.program_model.specs.declared.value.EncValue.{EncValue, EncValue-F, out-EncValue}
use Rattle.program_model.specs.declared.value.EncValue.TheOpen as layer
use Rattle.program_model.specs.declared.value.Element.{Element}
use Rattle.program_model.specs.declared.value.Mark.{Mark}
use Rattle.program_model.specs.declared.value.Note.{Note, out-Note}
use Rattle.program_model.specs.Distinct.{own_field_key, all_differ}
use Rattle.program_model.specs.MemberRules.{class_of_field, field_fits, field_letter, fields_fit, fields_in_order, first_value_fits, is_class_number, is_class_type, is_object, is_static, source_fits, types_of_class_fit, words_of}
use Rattle.program_model.specs.Neighbours.{neighbours}
use Rattle.program_model.specs.ProgramRules.{is_well_formed}
use Rattle.program_model.specs.TableRules.{type_fits}
use Rattle.program_model.specs.Texts.{first_unit, has_field, has_method, has_proto, has_string, has_type, is_class, is_wide, letter_of, string_text, text_or_none, type_text}
use Rattle.program_model.specs.ValueRules.{element_fits, first_fits, layer_fits, mark_fits, marks_fit, named_in_order, names_fit, note_fits, typed_in_order, value_fits}
use Rattle.class_defs.proofs.WellFormed.{below, sound}
use Rattle.static_protos.proofs.Behind.{stays}
use Rattle.static_kept.proofs.Lists.{index_first, long_first}

-- A program whose tables have more entries behind those that they had, and as many methods.
pub record Extends (p q : Program) : Type 0 where
  pub texts : List (List ℕ)
  pub strings : q.strings ≡ p.strings ++ texts
  pub new : List Proto
  pub protos : q.protos ≡ p.protos ++ new
  pub types : q.types ≡ p.types
  pub fields : q.fields ≡ p.fields
  pub methods : length q.methods ≡ length p.methods

module _ (p q : Program) (wf : is_well_formed p ≡ true) (e : Extends p q) where
  -- ---- numbers

  pub string_kept : (n : ℕ) → has_string p n ≡ true → has_string q n ≡ true
  string_kept n h =
      let a = below n (length p.strings) h in
      let b = long_first p.strings e.texts in
      let c = ap length e.strings in
      lt-ltb n (length q.strings) (omega (arith, a, b, c))

  pub type_same : (n : ℕ) → has_type q n ≡ has_type p n
  type_same n = ap (λ ts. nat_lt n (length ts)) e.types

  pub field_same : (n : ℕ) → has_field q n ≡ has_field p n
  field_same n = ap (λ fs. nat_lt n (length fs)) e.fields

  pub method_same : (n : ℕ) → has_method q n ≡ has_method p n
  method_same n = ap (λ l. nat_lt n l) e.methods

  pub proto_kept : (n : ℕ) → has_proto p n ≡ true → has_proto q n ≡ true
  proto_kept n h =
      let a = below n (length p.protos) h in
      let b = long_first p.protos e.new in
      let c = ap length e.protos in
      lt-ltb n (length q.protos) (omega (arith, a, b, c))

  pub proto_there : (n : ℕ) (x : Proto) → slice_get p.protos n ≡ Some x → slice_get q.protos n ≡ Some x
  proto_there n x h = ap (λ xs. slice_get xs n) e.protos ∙ stays p.protos e.new n x h

  -- ---- texts

  pub string_same : (n : ℕ) → has_string p n ≡ true → string_text q n ≡ string_text p n
  string_same n h = ap (λ xs. slice_index_or xs n []) e.strings ∙ index_first p.strings e.texts n (below n (length p.strings) h)

  pub text_same : (k : ℕ) → type_text q k ≡ type_text p k
  unfolding type_text
  text_same k = ap (λ ts. text_or_none q (slice_get ts k)) e.types ∙ by (slice_get p.types k) refl
    where
      by : (o : Option ℕ) → slice_get p.types k ≡ o → text_or_none q o ≡ text_or_none p o
      by None f = refl
      by (Some n) f = string_same n (and_left (has_string p n) (is_ok (descriptor_of (string_text p n))) (all_at (type_fits p) p.types k n (sound p wf).types_fit f))

  pub letter_same : (k : ℕ) → letter_of q k ≡ letter_of p k
  unfolding letter_of
  letter_same k = ap first_unit (text_same k)

  pub words_same : (k : ℕ) → words_of q k ≡ words_of p k
  words_same k = ap (λ l. if is_wide l then 2 else 1) (letter_same k)

  pub kind_same : (k : ℕ) → is_class_type q k ≡ is_class_type p k
  kind_same k = ap (λ b. b && is_class (letter_of q k)) (type_same k) ∙ ap (λ l. has_type p k && is_class l) (letter_same k)

  pub types_same : (c : Class) → types_of_class_fit q c ≡ types_of_class_fit p c
  unfolding types_of_class_fit
  types_same c =
      ap (λ t. (t c.name && not (is_object (type_text q c.name))) && (t c.superclass && list_all t c.interfaces)) (fun_ext kind_same)
      ∙ ap (λ t. (is_class_type p c.name && not (is_object t)) && (is_class_type p c.superclass && list_all (is_class_type p) c.interfaces)) (text_same c.name)

  pub source_kept : (o : Option ℕ) → source_fits p o ≡ true → source_fits q o ≡ true
  source_kept None h = refl
  source_kept (Some n) h = string_kept n h

  -- ---- values

  note_kept : (inner outer : EncValue → Bool) → ((v : EncValue) → inner v ≡ true → outer v ≡ true) → (n : Note) → note_fits inner p n ≡ true → note_fits outer q n ≡ true
  note_kept inner outer more n h =
      let a = has_type p (out-Note n).class in
      let b = list_all (element_fits inner p) (out-Note n).elements in
      let c = list_all named_in_order (neighbours (out-Note n).elements) in
      let rest = and_right a (b && c) h in
      and_both (has_type q (out-Note n).class) (list_all (element_fits outer q) (out-Note n).elements && c)
      (type_same (out-Note n).class ∙ and_left a (b && c) h)
      (and_both (list_all (element_fits outer q) (out-Note n).elements) c (all_more (element_fits inner p) (element_fits outer q) element_kept (out-Note n).elements (and_left b c rest)) (and_right b c rest))
    where
      element_kept : (x : Element) → element_fits inner p x ≡ true → element_fits outer q x ≡ true
      element_kept x g = and_both (has_string q x.name) (outer x.value) (string_kept x.name (and_left (has_string p x.name) (inner x.value) g)) (more x.value (and_right (has_string p x.name) (inner x.value) g))

  names_kept : (inner outer : EncValue → Bool) → ((v : EncValue) → inner v ≡ true → outer v ≡ true) → (v : EncValue-F EncValue Element Note) → names_fit inner p v ≡ true → names_fit outer q v ≡ true
  names_kept inner outer more (layer.Byte x) h = refl
  names_kept inner outer more (layer.Short x) h = refl
  names_kept inner outer more (layer.Char x) h = refl
  names_kept inner outer more (layer.Int x) h = refl
  names_kept inner outer more (layer.Long x) h = refl
  names_kept inner outer more (layer.Float x) h = refl
  names_kept inner outer more (layer.Double x) h = refl
  names_kept inner outer more (layer.Str n) h = string_kept n h
  names_kept inner outer more (layer.Class n) h = type_same n ∙ h
  names_kept inner outer more (layer.Field n) h = field_same n ∙ h
  names_kept inner outer more (layer.Method n) h = method_same n ∙ h
  names_kept inner outer more (layer.Enum n) h = field_same n ∙ h
  names_kept inner outer more (layer.Array values) h = all_more inner outer more values h
  names_kept inner outer more (layer.Annotation note) h = note_kept inner outer more note h
  names_kept inner outer more layer.Null h = refl
  names_kept inner outer more (layer.Bool b) h = refl

  value_kept : (depth : ℕ) (v : EncValue) → value_fits depth p v ≡ true → value_fits depth q v ≡ true
  value_kept zero v h = h
  value_kept (suc depth) v h = names_kept (value_fits depth p) (value_fits depth q) (value_kept depth) (out-EncValue v) h

  nested_kept : (depth : ℕ) (n : Note) → note_fits (value_fits depth p) p n ≡ true → note_fits (value_fits depth q) q n ≡ true
  nested_kept depth n h = note_kept (value_fits depth p) (value_fits depth q) (value_kept depth) n h

  mark_kept : (m : Mark) → mark_fits p m ≡ true → mark_fits q m ≡ true
  unfolding mark_fits
  mark_kept m h = nested_kept 64 m.note h

  pub marks_kept : (ms : List Mark) → marks_fit p ms ≡ true → marks_fit q ms ≡ true
  unfolding marks_fit
  marks_kept ms h =
      let a = list_all (mark_fits p) ms in
      let b = list_all typed_in_order (neighbours ms) in
      and_both (list_all (mark_fits q) ms) b (all_more (mark_fits p) (mark_fits q) mark_kept ms (and_left a b h)) (and_right a b h)

  layer_kept : (letter : ℕ) (v : EncValue-F EncValue Element Note) → layer_fits p letter v ≡ true → layer_fits q letter v ≡ true
  layer_kept letter (layer.Byte x) h = h
  layer_kept letter (layer.Short x) h = h
  layer_kept letter (layer.Char x) h = h
  layer_kept letter (layer.Int x) h = h
  layer_kept letter (layer.Long x) h = h
  layer_kept letter (layer.Float x) h = h
  layer_kept letter (layer.Double x) h = h
  layer_kept letter (layer.Str n) h = and_both _ (has_string q n) (and_left _ (has_string p n) h) (string_kept n (and_right _ (has_string p n) h))
  layer_kept letter (layer.Class n) h = and_both _ (has_type q n) (and_left _ (has_type p n) h) (type_same n ∙ and_right _ (has_type p n) h)
  layer_kept letter (layer.Field n) h = h
  layer_kept letter (layer.Method n) h = h
  layer_kept letter (layer.Enum n) h = h
  layer_kept letter (layer.Array values) h = h
  layer_kept letter (layer.Annotation note) h = h
  layer_kept letter layer.Null h = h
  layer_kept letter (layer.Bool b) h = h

  -- ---- fields

  letter_there : (n : ℕ) → field_letter q (slice_get q.fields n) ≡ field_letter p (slice_get p.fields n)
  letter_there n = ap (λ fs. field_letter q (slice_get fs n)) e.fields ∙ by (slice_get p.fields n)
    where
      by : (o : Option FieldName) → field_letter q o ≡ field_letter p o
      by None = refl
      by (Some x) = letter_same x.kind

  first_kept : (flags : Flags) (n : ℕ) (o : Option EncValue) → first_value_fits p flags n o ≡ true → first_value_fits q flags n o ≡ true
  first_kept flags n None h = refl
  first_kept flags n (Some v) h =
      let a = is_static flags in
      let b = first_fits p (field_letter p (slice_get p.fields n)) v in
      and_both a (first_fits q (field_letter q (slice_get q.fields n)) v) (and_left a b h)
      (ap (λ l. first_fits q l v) (letter_there n) ∙ layer_kept (field_letter p (slice_get p.fields n)) (out-EncValue v) (and_right a b h))

  field_kept : (class : ℕ) (f : Field) → field_fits p class f ≡ true → field_fits q class f ≡ true
  unfolding field_fits
  field_kept class f h =
      let a = is_class_number (class_of_field (slice_get p.fields f.name)) class in
      let b = first_value_fits p f.flags f.name f.first in
      let c = marks_fit p f.marks in
      let rest = and_right a (b && c) h in
      and_both (is_class_number (class_of_field (slice_get q.fields f.name)) class) (first_value_fits q f.flags f.name f.first && marks_fit q f.marks)
      (ap (λ fs. is_class_number (class_of_field (slice_get fs f.name)) class) e.fields ∙ and_left a (b && c) h)
      (and_both (first_value_fits q f.flags f.name f.first) (marks_fit q f.marks) (first_kept f.flags f.name f.first (and_left b c rest)) (marks_kept f.marks (and_right b c rest)))

  pub fields_kept : (class : ℕ) (fs : List Field) → fields_fit p class fs ≡ true → fields_fit q class fs ≡ true
  unfolding fields_fit
  fields_kept class fs h =
      let a = list_all (field_fits p class) fs in
      let b = list_all fields_in_order (neighbours fs) && all_differ own_field_key fs in
      and_both (list_all (field_fits q class) fs) b (all_more (field_fits p class) (field_fits q class) (field_kept class) fs (and_left a b h)) (and_right a b h)
