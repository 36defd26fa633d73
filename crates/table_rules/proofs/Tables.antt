-- What a well-formed program has to be depends on its tables alone, but for the list of its classes.
use Rattle.std.proofs.Common.{◌≡◌, ℕ, zero, suc, ◌+◌, ◌-◌, ◌≤◌, ◌<◌, ◌^◌, List, [], ◌∷◌, length, refl, ap, ◌∙◌, arith, ltb-true, lt-ltb}
use std.Path.{fun_ext}
use Rattle.std.specs.Prelude.{Bool, true, not, ◌&&◌, ◌||◌, ◌==◌, if◌then◌else◌, Option, Some, None, nat_eq, nat_lt, nat_le, slice_get, sum_by}
use Rattle.std.specs.List.{list_all, enumerate_from, zip}
use Rattle.std.proofs.lemmas.Bool.{and_parts, and_from}
use Rattle.insn_set.specs.Spelling.{is_encodable}
use Rattle.insn_set.specs.declared.form.Insn.{Insn}
use Rattle.insn_set.specs.declared.form.Insn.TheVariants as insn
use Rattle.program_model.specs.declared.flags.Flags.{Flags}
use Rattle.program_model.specs.declared.pools.Proto.{Proto}
use Rattle.program_model.specs.declared.pools.FieldName.{FieldName}
use Rattle.program_model.specs.declared.pools.MethodName.{MethodName}
use Rattle.program_model.specs.declared.program.Field.{Field}
use Rattle.program_model.specs.declared.program.Method.{Method}
use Rattle.program_model.specs.declared.program.Class.{Class}
use Rattle.program_model.specs.declared.program.Program.{Program}
use Rattle.program_model.specs.declared.body.Body.{Body}
use Rattle.program_model.specs.declared.body.Region.{Region}
use Rattle.program_model.specs.declared.value.EncValue.{EncValue, EncValue-F, out-EncValue}
use Rattle.program_model.specs.declared.value.EncValue.TheOpen as layer
use Rattle.program_model.specs.declared.value.Note.{Note}
use Rattle.program_model.specs.declared.value.Element.{Element}
use Rattle.program_model.specs.declared.value.Mark.{Mark}
use Rattle.program_model.specs.Neighbours.{neighbours}
use Rattle.program_model.specs.Distinct.{own_field_key, own_method_key, all_differ}
use Rattle.program_model.specs.Texts.{has_string, has_type, string_text, text_or_none, type_text, first_unit, letter_of, is_class, is_void, is_wide}
use Rattle.program_model.specs.ValueRules.{names_fit, note_fits, value_fits, mark_fits, marks_fit, typed_in_order, layer_fits, first_fits}
use Rattle.program_model.specs.OperandRules.{registers_fit, numbers_fit}
use Rattle.program_model.specs.RegionRules.{may_begin, regions_fit}
use Rattle.program_model.specs.BodyRules.{ends, follows, targets_fit, leaves, is_caught, insn_fits, body_fits}
use Rattle.program_model.specs.LineRules.{lines_fit}
use Rattle.program_model.specs.TableRules.{type_fits, stands_for, stands_for_parameter, is_shorty, proto_fits, field_id_fits, method_id_fits, entries_fit, entries_differ, tables_are_short, texts_are_short, tables_fit}
use Rattle.program_model.specs.MemberRules.{is_class_number, class_of_field, class_of_method, field_letter, first_value_fits, is_static, is_private, field_fits, fields_in_order, fields_fit, name_of_method, is_direct, in_groups, words_of, receiver_words, proto_of, takes_words, frame_fits, lacks_code, code_fits, method_fits, methods_in_order, methods_fit, is_class_type, is_object, types_of_class_fit, source_fits, class_fits}

module _ (p : Program) (cs : List Class) where
  abbrev q : Program
  q = record p { classes = cs }

  -- ---- texts

  some_text : (o : Option ℕ) → text_or_none q o ≡ text_or_none p o
  some_text None = refl
  some_text (Some n) = refl

  text_same : (k : ℕ) → type_text q k ≡ type_text p k
  unfolding type_text
  text_same k = some_text (slice_get p.types k)

  letter_same : (k : ℕ) → letter_of q k ≡ letter_of p k
  unfolding letter_of
  letter_same k = ap first_unit (text_same k)

  -- ---- tables

  parameter_same : (pair : ℕ × ℕ) → stands_for_parameter q pair ≡ stands_for_parameter p pair
  parameter_same pair = ap (λ l. stands_for pair.0 l && not (is_void l)) (letter_same pair.1)

  shorty_same : (us : List ℕ) (r : ℕ) (ks : List ℕ) → is_shorty q us r ks ≡ is_shorty p us r ks
  shorty_same [] r ks = refl
  shorty_same (u ∷ us) r ks =
      ap (λ l. stands_for u l && (nat_eq (length us) (length ks) && list_all (stands_for_parameter q) (zip us ks))) (letter_same r)
      ∙ ap (λ f. stands_for u (letter_of p r) && (nat_eq (length us) (length ks) && list_all f (zip us ks))) (fun_ext parameter_same)

  proto_same : (x : Proto) → proto_fits q x ≡ proto_fits p x
  proto_same x = ap (λ b. (has_string p x.shorty && has_type p x.result) && (list_all (has_type p) x.parameters && b)) (shorty_same (string_text p x.shorty) x.result x.parameters)

  field_id_same : (x : FieldName) → field_id_fits q x ≡ field_id_fits p x
  field_id_same x = ap (λ l. (has_type p x.class && has_type p x.kind) && (has_string p x.name && not (is_void l))) (letter_same x.kind)

  entries_same : entries_fit q ≡ entries_fit p
  unfolding entries_fit
  entries_same =
      ap (λ f. list_all (type_fits p) p.types && (list_all f p.protos && (list_all (field_id_fits q) p.fields && list_all (method_id_fits p) p.methods))) (fun_ext proto_same)
      ∙ ap (λ f. list_all (type_fits p) p.types && (list_all (proto_fits p) p.protos && (list_all f p.fields && list_all (method_id_fits p) p.methods))) (fun_ext field_id_same)

  differ_same : entries_differ q ≡ entries_differ p
  unfolding entries_differ
  differ_same = refl

  texts_same : texts_are_short q ≡ texts_are_short p
  unfolding texts_are_short
  texts_same = refl

  short_kept : length cs ≤ length p.classes → tables_are_short p ≡ true → tables_are_short q ≡ true
  unfolding tables_are_short
  short_kept le h =
      let all = and_parts (nat_lt (length p.strings) (2 ^ 32) && nat_lt (length p.classes) (2 ^ 32)) ((nat_le (length p.types) 65535 && nat_le (length p.protos) 65535) && (nat_le (length p.fields) 65536 && nat_le (length p.methods) 65536)) h in
      let two = and_parts (nat_lt (length p.strings) (2 ^ 32)) (nat_lt (length p.classes) (2 ^ 32)) all.0 in
      let few : length p.classes < 2 ^ 32 = ltb-true (length p.classes) (2 ^ 32) two.1 in
      and_from _ _ (and_from _ _ two.0 (lt-ltb (length cs) (2 ^ 32) (omega (arith, few, le)))) all.1

  -- the tables with fewer classes
  pub tables_kept : length cs ≤ length p.classes → tables_fit p ≡ true → tables_fit q ≡ true
  unfolding tables_fit
  tables_kept le h =
      let all = and_parts (tables_are_short p && texts_are_short p) (entries_fit p && entries_differ p) h in
      let short = and_parts (tables_are_short p) (texts_are_short p) all.0 in
      let entries = and_parts (entries_fit p) (entries_differ p) all.1 in
      and_from _ _ (and_from _ _ (short_kept le short.0) (texts_same ∙ short.1)) (and_from _ _ (entries_same ∙ entries.0) (differ_same ∙ entries.1))

  -- ---- values

  names_same : (inner : EncValue → Bool) (v : EncValue-F EncValue Element Note) → names_fit inner q v ≡ names_fit inner p v
  names_same inner (layer.Byte x) = refl
  names_same inner (layer.Short x) = refl
  names_same inner (layer.Char x) = refl
  names_same inner (layer.Int x) = refl
  names_same inner (layer.Long x) = refl
  names_same inner (layer.Float x) = refl
  names_same inner (layer.Double x) = refl
  names_same inner (layer.Str n) = refl
  names_same inner (layer.Class n) = refl
  names_same inner (layer.Field n) = refl
  names_same inner (layer.Method n) = refl
  names_same inner (layer.Enum n) = refl
  names_same inner (layer.Array values) = refl
  names_same inner (layer.Annotation note) = refl
  names_same inner layer.Null = refl
  names_same inner (layer.Bool b) = refl

  value_same : (depth : ℕ) (v : EncValue) → value_fits depth q v ≡ value_fits depth p v
  value_same zero v = refl
  value_same (suc depth) v = ap (λ inner. names_fit inner q (out-EncValue v)) (fun_ext (value_same depth)) ∙ names_same (value_fits depth p) (out-EncValue v)

  note_same : (depth : ℕ) (n : Note) → note_fits (value_fits depth q) q n ≡ note_fits (value_fits depth p) p n
  note_same depth n = ap (λ inner. note_fits inner p n) (fun_ext (value_same depth))

  mark_same : (m : Mark) → mark_fits q m ≡ mark_fits p m
  unfolding mark_fits
  mark_same m = note_same 64 m.note

  marks_same : (ms : List Mark) → marks_fit q ms ≡ marks_fit p ms
  unfolding marks_fit
  marks_same ms = ap (λ f. list_all f ms && list_all typed_in_order (neighbours ms)) (fun_ext mark_same)

  layer_same : (letter : ℕ) (v : EncValue-F EncValue Element Note) → layer_fits q letter v ≡ layer_fits p letter v
  layer_same letter (layer.Byte x) = refl
  layer_same letter (layer.Short x) = refl
  layer_same letter (layer.Char x) = refl
  layer_same letter (layer.Int x) = refl
  layer_same letter (layer.Long x) = refl
  layer_same letter (layer.Float x) = refl
  layer_same letter (layer.Double x) = refl
  layer_same letter (layer.Str n) = refl
  layer_same letter (layer.Class n) = refl
  layer_same letter (layer.Field n) = refl
  layer_same letter (layer.Method n) = refl
  layer_same letter (layer.Enum n) = refl
  layer_same letter (layer.Array values) = refl
  layer_same letter (layer.Annotation note) = refl
  layer_same letter layer.Null = refl
  layer_same letter (layer.Bool b) = refl

  -- ---- fields

  field_letter_same : (o : Option FieldName) → field_letter q o ≡ field_letter p o
  field_letter_same None = refl
  field_letter_same (Some x) = letter_same x.kind

  first_same : (flags : Flags) (n : ℕ) (v : Option EncValue) → first_value_fits q flags n v ≡ first_value_fits p flags n v
  first_same flags n None = refl
  first_same flags n (Some v) =
      ap (λ l. is_static flags && first_fits q l v) (field_letter_same (slice_get p.fields n))
      ∙ ap (λ b. is_static flags && b) (layer_same (field_letter p (slice_get p.fields n)) (out-EncValue v))

  field_same : (class : ℕ) (f : Field) → field_fits q class f ≡ field_fits p class f
  unfolding field_fits
  field_same class f =
      ap (λ b. is_class_number (class_of_field (slice_get p.fields f.name)) class && (b && marks_fit q f.marks)) (first_same f.flags f.name f.first)
      ∙ ap (λ b. is_class_number (class_of_field (slice_get p.fields f.name)) class && (first_value_fits p f.flags f.name f.first && b)) (marks_same f.marks)

  fields_same : (class : ℕ) (fs : List Field) → fields_fit q class fs ≡ fields_fit p class fs
  unfolding fields_fit
  fields_same class fs = ap (λ t. list_all t fs && (list_all fields_in_order (neighbours fs) && all_differ own_field_key fs)) (fun_ext (field_same class))

  -- ---- code

  numbers_same : (x : Insn) → numbers_fit x q ≡ numbers_fit x p
  unfolding numbers_fit
  numbers_same insn.Nop = refl
  numbers_same (insn.Move slot to from) = refl
  numbers_same (insn.MoveResult slot to) = refl
  numbers_same (insn.MoveException to) = refl
  numbers_same insn.ReturnVoid = refl
  numbers_same (insn.Return slot from) = refl
  numbers_same (insn.Const to value) = refl
  numbers_same (insn.ConstWide to value) = refl
  numbers_same (insn.ConstString to string) = refl
  numbers_same (insn.ConstClass to kind) = refl
  numbers_same (insn.MonitorEnter on) = refl
  numbers_same (insn.MonitorExit on) = refl
  numbers_same (insn.CheckCast on kind) = refl
  numbers_same (insn.InstanceOf to from kind) = refl
  numbers_same (insn.ArrayLength to from) = refl
  numbers_same (insn.NewInstance to kind) = refl
  numbers_same (insn.NewArray to size kind) = refl
  numbers_same (insn.FilledNewArray kind args) = refl
  numbers_same (insn.FillArray on width items) = refl
  numbers_same (insn.Throw on) = refl
  numbers_same (insn.Goto target) = refl
  numbers_same (insn.PackedSwitch on first targets) = refl
  numbers_same (insn.SparseSwitch on keys targets) = refl
  numbers_same (insn.Cmp op to a b) = refl
  numbers_same (insn.If test a b target) = refl
  numbers_same (insn.IfZero test a target) = refl
  numbers_same (insn.ArrayGet item to array index) = refl
  numbers_same (insn.ArrayPut item from array index) = refl
  numbers_same (insn.InstanceGet item to on field) = refl
  numbers_same (insn.InstancePut item from on field) = refl
  numbers_same (insn.StaticGet item to field) = refl
  numbers_same (insn.StaticPut item from field) = refl
  numbers_same (insn.Invoke kind method args) = refl
  numbers_same (insn.Unary op to from) = refl
  numbers_same (insn.Binary op to a b) = refl
  numbers_same (insn.Literal op to a value) = refl

  insn_same : (b : Body) (at : ℕ × Insn) → insn_fits q b at ≡ insn_fits p b at
  unfolding insn_fits
  insn_same b at = ap (λ n. (is_encodable at.1 && (registers_fit at.1 b.registers && n)) && (targets_fit b.insns at.1 && (leaves at.0 at.1 && is_caught b.regions at.0 at.1))) (numbers_same at.1)

  regions_same : (is : List Insn) (rs : List Region) → regions_fit q is rs ≡ regions_fit p is rs
  unfolding regions_fit
  regions_same is rs = refl

  body_same : (b : Body) → body_fits q b ≡ body_fits p b
  unfolding body_fits
  body_same b =
      ap (λ t. (may_begin (slice_get b.insns 0) && ends (slice_get b.insns (length b.insns - 1))) && (list_all follows (neighbours b.insns) && (list_all t (enumerate_from 0 b.insns) && regions_fit q b.insns b.regions))) (fun_ext (insn_same b))
      ∙ ap (λ r. (may_begin (slice_get b.insns 0) && ends (slice_get b.insns (length b.insns - 1))) && (list_all follows (neighbours b.insns) && (list_all (insn_fits p b) (enumerate_from 0 b.insns) && r))) (regions_same b.insns b.regions)

  words_same : (k : ℕ) → words_of q k ≡ words_of p k
  words_same k = ap (λ l. if is_wide l then 2 else 1) (letter_same k)

  takes_same : (flags : Flags) (o : Option Proto) (n : ℕ) → takes_words q flags o n ≡ takes_words p flags o n
  takes_same flags None n = refl
  takes_same flags (Some x) n = ap (λ f. nat_eq n (receiver_words flags + sum_by f x.parameters)) (fun_ext words_same)

  frame_same : (m : Method) (b : Body) → frame_fits q m b ≡ frame_fits p m b
  unfolding frame_fits
  frame_same m b = ap (λ t. t && nat_le b.ins b.registers) (takes_same m.flags (proto_of p m.name) b.ins)

  code_same : (m : Method) (o : Option Body) → code_fits q m o ≡ code_fits p m o
  code_same m None = refl
  code_same m (Some b) =
      ap (λ f. not (lacks_code m.flags) && (f && (body_fits q b && lines_fit (length b.insns) m.lines))) (frame_same m b)
      ∙ ap (λ f. not (lacks_code m.flags) && (frame_fits p m b && (f && lines_fit (length b.insns) m.lines))) (body_same b)

  -- ---- methods

  method_same : (class : ℕ) (m : Method) → method_fits q class m ≡ method_fits p class m
  unfolding method_fits
  method_same class m =
      ap (λ c. (is_class_number (class_of_method (slice_get p.methods m.name)) class && c) && (marks_fit q m.marks && list_all (marks_fit q) m.parameter_marks)) (code_same m m.body)
      ∙ ap (λ t. (is_class_number (class_of_method (slice_get p.methods m.name)) class && code_fits p m m.body) && (t m.marks && list_all t m.parameter_marks)) (fun_ext marks_same)

  name_same : (o : Option MethodName) → name_of_method q o ≡ name_of_method p o
  name_same None = refl
  name_same (Some x) = refl

  direct_same : (m : Method) → is_direct q m ≡ is_direct p m
  unfolding is_direct
  direct_same m = ap (λ t. (is_static m.flags || is_private m.flags) || first_unit t == 60) (name_same (slice_get p.methods m.name))

  order_same : (pair : Method × Method) → methods_in_order q pair ≡ methods_in_order p pair
  order_same pair = ap (λ t. in_groups (t pair.0) (t pair.1) (nat_lt pair.0.name pair.1.name)) (fun_ext direct_same)

  methods_same : (class : ℕ) (ms : List Method) → methods_fit q class ms ≡ methods_fit p class ms
  unfolding methods_fit
  methods_same class ms =
      ap (λ t. list_all t ms && (list_all (methods_in_order q) (neighbours ms) && all_differ own_method_key ms)) (fun_ext (method_same class))
      ∙ ap (λ t. list_all (method_fits p class) ms && (list_all t (neighbours ms) && all_differ own_method_key ms)) (fun_ext order_same)

  -- ---- classes

  kind_same : (k : ℕ) → is_class_type q k ≡ is_class_type p k
  kind_same k = ap (λ l. has_type p k && is_class l) (letter_same k)

  types_same : (c : Class) → types_of_class_fit q c ≡ types_of_class_fit p c
  unfolding types_of_class_fit
  types_same c =
      ap (λ t. (t c.name && not (is_object (type_text q c.name))) && (t c.superclass && list_all t c.interfaces)) (fun_ext kind_same)
      ∙ ap (λ t. (is_class_type p c.name && not (is_object t)) && (is_class_type p c.superclass && list_all (is_class_type p) c.interfaces)) (text_same c.name)

  source_same : (o : Option ℕ) → source_fits q o ≡ source_fits p o
  source_same None = refl
  source_same (Some n) = refl

  -- what a class has to be
  pub class_same : (c : Class) → class_fits q c ≡ class_fits p c
  unfolding class_fits
  class_same c =
      ap (λ t. (t && (source_fits q c.source && marks_fit q c.marks)) && (fields_fit q c.name c.fields && methods_fit q c.name c.methods)) (types_same c)
      ∙ ap (λ t. (types_of_class_fit p c && (t && marks_fit q c.marks)) && (fields_fit q c.name c.fields && methods_fit q c.name c.methods)) (source_same c.source)
      ∙ ap (λ t. (types_of_class_fit p c && (source_fits p c.source && t)) && (fields_fit q c.name c.fields && methods_fit q c.name c.methods)) (marks_same c.marks)
      ∙ ap (λ t. (types_of_class_fit p c && (source_fits p c.source && marks_fit p c.marks)) && (t && methods_fit q c.name c.methods)) (fields_same c.name c.fields)
      ∙ ap (λ t. (types_of_class_fit p c && (source_fits p c.source && marks_fit p c.marks)) && (fields_fit p c.name c.fields && t)) (methods_same c.name c.methods)
