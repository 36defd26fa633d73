-- Of a well-formed program in memory the numbers of texts, values and code are values of their types, and 32 bits count its lists.
use Rattle.std.proofs.Common.{◌≡◌, ◌<◌, ◌≤◌, ◌+◌, ◌^◌, ℕ, zero, suc, List, [], ◌∷◌, length, refl, arith}
use Rattle.std.specs.Prelude.{true, ◌&&◌, sum_by, slice_get, Option, Some, None}
use Rattle.std.specs.List.{list_all, AllByRecursion}
use Rattle.std.proofs.lemmas.Bool.{and_parts}
use Rattle.std.proofs.lemmas.List.Sums.{sum_by-cons}
use Rattle.program_model.specs.declared.value.EncValue.{EncValue, EncValue-F, out-EncValue}
use Rattle.program_model.specs.declared.value.EncValue.TheOpen as layer
use Rattle.program_model.specs.declared.value.Element.{Element}
use Rattle.program_model.specs.declared.value.Note.{Note, out-Note}
use Rattle.program_model.specs.declared.value.Mark.{Mark}
use Rattle.program_model.specs.declared.program.Field.{Field}
use Rattle.program_model.specs.declared.program.Method.{Method}
use Rattle.program_model.specs.declared.program.Class.{Class}
use Rattle.program_model.specs.declared.program.Program.{Program}
use Rattle.program_model.specs.ProgramRules.{is_well_formed}
use Rattle.program_model.specs.Items.{element_items, note_items, value_items, mark_items, marks_items, field_items, method_items, class_items, items_of}
use Rattle.program_model.specs.MemberRules.{field_letter, is_static, class_of_field, is_class_number, first_value_fits, field_fits, class_fits}
use Rattle.program_model.specs.ValueRules.{layer_fits, marks_fit}
use Rattle.widths.specs.Code.{WideCode}
use Rattle.widths.specs.Values.{NoteInWidth, LayerInWidth, ValueInWidth, FirstInWidth, MarkInWidth, MarksInWidth}
use Rattle.widths.specs.Widths.{FieldInWidth, MethodInWidth, ClassInWidth, IsInWidth}
use Rattle.written_file.specs.Widths.{MarksFit, FieldFits, MethodFits, ClassFits, HasWidths}
use Rattle.written_file.proofs.Fit.{FitsClass, Parts, parts_of, class_parts}
use Rattle.written_file.specs.Wide.{IsWideNote, IsWideLayer, IsWide, IsWideMark, AreWide, IsWideFirst, WideField, WideMethod, WideClass, HasWideValues}
use Rattle.written_code.specs.Widths.{HasWideCode}

all_as : {X : Type 0} (P Q : X → Type 0) → ((x : X) → P x → Q x) → (xs : List X) → AllByRecursion P xs → AllByRecursion Q xs
all_as P Q f [] a = tt
all_as P Q f (x ∷ xs) a = (f x a.0, all_as P Q f xs a.1)

-- ---- widths

marks_widths : (ms : List Mark) → MarksInWidth ms → MarksFit ms
marks_widths ms a = all_as MarkInWidth (λ m. m.visibility < 2 ^ 8) (λ m h. h.visibility) ms a

class_widths : (c : Class) → ClassInWidth c → ClassFits c
class_widths c h = record {
  flags = h.flags;
  marks = marks_widths c.marks h.marks;
  fields = all_as FieldInWidth FieldFits (λ f x. record { flags = x.flags; marks = marks_widths f.marks x.marks }) c.fields h.fields;
  methods = all_as MethodInWidth MethodFits (λ m x. record { flags = x.flags; marks = marks_widths m.marks x.marks; parameter_marks = all_as MarksInWidth MarksFit marks_widths m.parameter_marks x.parameter_marks }) c.methods h.methods;
}

pub has_widths : (p : Program) → IsInWidth p → HasWidths p
has_widths p h = record { strings = h.strings; classes = all_as ClassInWidth ClassFits class_widths p.classes h.classes }

-- ---- code

pub has_wide_code : (p : Program) → IsInWidth p → HasWideCode p
has_wide_code p h = all_as ClassInWidth (λ c. AllByRecursion (λ m. WideCode m.body) c.methods) (λ c x. all_as MethodInWidth (λ m. WideCode m.body) (λ m y. y.code) c.methods x.methods) p.classes h.classes

-- ---- values

-- what holds of each of some, where so many items are counted in them
each_few : {X : Type 0} (items : X → ℕ) (P Q : X → Type 0) → ((x : X) → items x < 2 ^ 32 → P x → Q x) → (xs : List X) → sum_by items xs < 2 ^ 32 → AllByRecursion P xs → AllByRecursion Q xs
each_few items P Q f [] few a = tt
each_few items P Q f (x ∷ xs) few a =
    let sum : sum_by items (x ∷ xs) ≡ items x + sum_by items xs = sum_by-cons items x xs in
    (f x (omega (arith, few, sum)) a.0, each_few items P Q f xs (omega (arith, few, sum)) a.1)

module _ (items : EncValue → ℕ) (P Q : EncValue → Type 0) (step : (v : EncValue) → items v < 2 ^ 32 → P v → Q v) where
  wide_note : (n : Note) → note_items items n < 2 ^ 32 → NoteInWidth P n → IsWideNote Q n
  wide_note n few h = (omega (arith, few), each_few (element_items items) (λ e. P e.value) (λ e. Q e.value) (λ e. step e.value) (out-Note n).elements (omega (arith, few)) h)

  wide_values : (vs : List EncValue) → length vs + sum_by items vs < 2 ^ 32 → AllByRecursion P vs → (length vs < 2 ^ 32) × AllByRecursion Q vs
  wide_values vs few h = (omega (arith, few), each_few items P Q step vs (omega (arith, few)) h)

wide_layer : (depth : ℕ) → ((v : EncValue) → value_items depth v < 2 ^ 32 → ValueInWidth depth v → IsWide depth v) → (v : EncValue) (x : EncValue-F EncValue Element Note) → out-EncValue v ≡ x → value_items (suc depth) v < 2 ^ 32 → LayerInWidth (ValueInWidth depth) x → IsWideLayer (IsWide depth) x
wide_layer depth step v (layer.Byte z) e few h = h
wide_layer depth step v (layer.Short z) e few h = h
wide_layer depth step v (layer.Char n) e few h = h
wide_layer depth step v (layer.Int z) e few h = h
wide_layer depth step v (layer.Long z) e few h = h
wide_layer depth step v (layer.Float n) e few h = h
wide_layer depth step v (layer.Double n) e few h = h
wide_layer depth step v (layer.Str n) e few h = tt
wide_layer depth step v (layer.Class n) e few h = tt
wide_layer depth step v (layer.Field n) e few h = tt
wide_layer depth step v (layer.Method n) e few h = tt
wide_layer depth step v (layer.Enum n) e few h = tt
wide_layer depth step v (layer.Array vs) e few h = wide_values (value_items depth) (ValueInWidth depth) (IsWide depth) step vs (rw e at few) h
wide_layer depth step v (layer.Annotation n) e few h = wide_note (value_items depth) (ValueInWidth depth) (IsWide depth) step n (rw e at few) h
wide_layer depth step v layer.Null e few h = tt
wide_layer depth step v (layer.Bool b) e few h = tt

wide_value : (depth : ℕ) (v : EncValue) → value_items depth v < 2 ^ 32 → ValueInWidth depth v → IsWide depth v
wide_value zero v few h = tt
wide_value (suc depth) v few h = wide_layer depth (wide_value depth) v (out-EncValue v) refl few h

wide_mark : (m : Mark) → mark_items m < 2 ^ 32 → MarkInWidth m → IsWideMark m
unfolding mark_items
wide_mark m few h = wide_note (value_items 64) (ValueInWidth 64) (IsWide 64) (wide_value 64) m.note few h.note

wide_marks : (ms : List Mark) → marks_items ms < 2 ^ 32 → MarksInWidth ms → AreWide ms
wide_marks ms few h = each_few mark_items MarkInWidth IsWideMark wide_mark ms (omega (arith, few)) h

-- a first value is plain
plain_layer : (p : Program) (letter : ℕ) (x : EncValue-F EncValue Element Note) → layer_fits p letter x ≡ true → LayerInWidth (ValueInWidth 0) x → IsWideLayer (IsWide 0) x
plain_layer p letter (layer.Byte z) f h = h
plain_layer p letter (layer.Short z) f h = h
plain_layer p letter (layer.Char n) f h = h
plain_layer p letter (layer.Int z) f h = h
plain_layer p letter (layer.Long z) f h = h
plain_layer p letter (layer.Float n) f h = h
plain_layer p letter (layer.Double n) f h = h
plain_layer p letter (layer.Str n) f h = tt
plain_layer p letter (layer.Class n) f h = tt
plain_layer p letter (layer.Field n) f h = tt
plain_layer p letter (layer.Method n) f h = tt
plain_layer p letter (layer.Enum n) f h = tt
plain_layer p letter (layer.Array vs) f h = absurd cc
plain_layer p letter (layer.Annotation n) f h = absurd cc
plain_layer p letter layer.Null f h = tt
plain_layer p letter (layer.Bool b) f h = tt

wide_first : (p : Program) (class : ℕ) (f : Field) → field_fits p class f ≡ true → FirstInWidth f.first → IsWideFirst f.first
unfolding field_fits
wide_first p class f fits h = by f.first ((and_parts (first_value_fits p f.flags f.name f.first) (marks_fit p f.marks) (and_parts (is_class_number (class_of_field (slice_get p.fields f.name)) class) (first_value_fits p f.flags f.name f.first && marks_fit p f.marks) fits).1).0) h
  where
    by : (o : Option EncValue) → first_value_fits p f.flags f.name o ≡ true → FirstInWidth o → IsWideFirst o
    by None e x = tt
    by (Some v) e x = plain_layer p (field_letter p (slice_get p.fields f.name)) (out-EncValue v) (and_parts (is_static f.flags) (layer_fits p (field_letter p (slice_get p.fields f.name)) (out-EncValue v)) e).1 x

wide_fields : (p : Program) (class : ℕ) (fs : List Field) → list_all (field_fits p class) fs ≡ true → sum_by field_items fs < 2 ^ 32 → AllByRecursion FieldInWidth fs → AllByRecursion WideField fs
wide_fields p class [] fits few h = tt
wide_fields p class (f ∷ fs) fits few h =
    let sum : sum_by field_items (f ∷ fs) ≡ field_items f + sum_by field_items fs = sum_by-cons field_items f fs in
    let both = and_parts (field_fits p class f) (list_all (field_fits p class) fs) fits in
    (record { first = wide_first p class f both.0 h.0.first; marks = wide_marks f.marks (omega (arith, few, sum)) h.0.marks }, wide_fields p class fs both.1 (omega (arith, few, sum)) h.1)

wide_method : (m : Method) → method_items m < 2 ^ 32 → MethodInWidth m → WideMethod m
wide_method m few h = record {
  marks = wide_marks m.marks (omega (arith, few)) h.marks;
  parameter_marks = each_few marks_items MarksInWidth AreWide wide_marks m.parameter_marks (omega (arith, few)) h.parameter_marks;
}

wide_class : (p : Program) (c : Class) → FitsClass p c → class_items c < 2 ^ 32 → ClassInWidth c → WideClass c
unfolding class_items
wide_class p c fits few h = record {
  marks = wide_marks c.marks (omega (arith, few)) h.marks;
  fields = wide_fields p c.name c.fields fits.fields (omega (arith, few)) h.fields;
  methods = each_few method_items MethodInWidth WideMethod wide_method c.methods (omega (arith, few)) h.methods;
}

wide_classes : (p : Program) (cs : List Class) → list_all (class_fits p) cs ≡ true → sum_by class_items cs < 2 ^ 32 → AllByRecursion ClassInWidth cs → AllByRecursion WideClass cs
wide_classes p [] fits few h = tt
wide_classes p (c ∷ cs) fits few h =
    let sum : sum_by class_items (c ∷ cs) ≡ class_items c + sum_by class_items cs = sum_by-cons class_items c cs in
    let both = and_parts (class_fits p c) (list_all (class_fits p) cs) fits in
    (wide_class p c (class_parts p c both.0) (omega (arith, few, sum)) h.0, wide_classes p cs both.1 (omega (arith, few, sum)) h.1)

few_in_classes : (p : Program) → items_of p ≤ 16777216 → sum_by class_items p.classes < 2 ^ 32
unfolding items_of
few_in_classes p le = omega (arith, le)

pub has_wide_values : (p : Program) → is_well_formed p ≡ true → IsInWidth p → HasWideValues p
has_wide_values p formed h = let parts : Parts p = parts_of p formed in wide_classes p p.classes parts.classes (few_in_classes p parts.items) h.classes
