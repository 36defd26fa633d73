-- What a number names depends on the tables alone, and not on the classes.
use Rattle.std.proofs.Common.{◌≡◌, List, refl, ap, ◌∙◌}
use std.Path.{fun_ext}
use Rattle.std.specs.Prelude.{map}
use Rattle.std.specs.Option.{option_map}
use Rattle.insn_set.specs.declared.form.Insn.{Insn}
use Rattle.insn_set.specs.declared.form.Insn.TheVariants as insn
use Rattle.program_model.specs.declared.program.Field.{Field}
use Rattle.program_model.specs.declared.program.Method.{Method}
use Rattle.program_model.specs.declared.program.Class.{Class}
use Rattle.program_model.specs.declared.program.Program.{Program}
use Rattle.program_model.specs.declared.body.Body.{Body}
use Rattle.program_model.specs.declared.value.EncValue.{EncValue, EncValue-F, fold-EncValue}
use Rattle.program_model.specs.declared.value.EncValue.TheOpen as layer
use Rattle.program_model.specs.declared.value.Note.{Note, fold-Note}
use Rattle.program_model.specs.declared.value.Mark.{Mark}
use Rattle.dalvik_defs.specs.Naming.{form_of, value_layer, element_layer, note_layer, value_of, note_of, mark_of, body_of, region_of, named_field, named_method, named_class}
use Rattle.dalvik_defs.specs.declared.encoded.NamedValue.{NamedValue}
use Rattle.dalvik_defs.specs.declared.encoded.NamedNote.{NamedNote}
use Rattle.dalvik_defs.specs.declared.encoded.NamedElement.{NamedElement}

module _ (p : Program) (cs : List Class) where
  abbrev q : Program
  q = record p { classes = cs }

  forms_same : (x : Insn) → form_of q x ≡ form_of p x
  forms_same insn.Nop = refl
  forms_same (insn.Move slot to from) = refl
  forms_same (insn.MoveResult slot to) = refl
  forms_same (insn.MoveException to) = refl
  forms_same insn.ReturnVoid = refl
  forms_same (insn.Return slot from) = refl
  forms_same (insn.Const to value) = refl
  forms_same (insn.ConstWide to value) = refl
  forms_same (insn.ConstString to string) = refl
  forms_same (insn.ConstClass to kind) = refl
  forms_same (insn.MonitorEnter on) = refl
  forms_same (insn.MonitorExit on) = refl
  forms_same (insn.CheckCast on kind) = refl
  forms_same (insn.InstanceOf to from kind) = refl
  forms_same (insn.ArrayLength to from) = refl
  forms_same (insn.NewInstance to kind) = refl
  forms_same (insn.NewArray to size kind) = refl
  forms_same (insn.FilledNewArray kind args) = refl
  forms_same (insn.FillArray on width items) = refl
  forms_same (insn.Throw on) = refl
  forms_same (insn.Goto target) = refl
  forms_same (insn.PackedSwitch on first targets) = refl
  forms_same (insn.SparseSwitch on keys targets) = refl
  forms_same (insn.Cmp op to a b) = refl
  forms_same (insn.If test a b target) = refl
  forms_same (insn.IfZero test a target) = refl
  forms_same (insn.ArrayGet item to array index) = refl
  forms_same (insn.ArrayPut item from array index) = refl
  forms_same (insn.InstanceGet item to on field) = refl
  forms_same (insn.InstancePut item from on field) = refl
  forms_same (insn.StaticGet item to field) = refl
  forms_same (insn.StaticPut item from field) = refl
  forms_same (insn.Invoke kind method args) = refl
  forms_same (insn.Unary op to from) = refl
  forms_same (insn.Binary op to a b) = refl
  forms_same (insn.Literal op to a value) = refl

  values_same : (x : EncValue-F NamedValue NamedElement NamedNote) → value_layer q x ≡ value_layer p x
  values_same (layer.Byte x) = refl
  values_same (layer.Short x) = refl
  values_same (layer.Char x) = refl
  values_same (layer.Int x) = refl
  values_same (layer.Long x) = refl
  values_same (layer.Float x) = refl
  values_same (layer.Double x) = refl
  values_same (layer.Str n) = refl
  values_same (layer.Class n) = refl
  values_same (layer.Field n) = refl
  values_same (layer.Method n) = refl
  values_same (layer.Enum n) = refl
  values_same (layer.Array values) = refl
  values_same (layer.Annotation note) = refl
  values_same layer.Null = refl
  values_same (layer.Bool b) = refl

  value_same : (v : EncValue) → value_of q v ≡ value_of p v
  value_same v = ap (λ f. fold-EncValue NamedValue NamedElement NamedNote f (element_layer p) (note_layer p) v) (fun_ext values_same)

  note_same : (n : Note) → note_of q n ≡ note_of p n
  note_same n = ap (λ f. fold-Note NamedValue NamedElement NamedNote f (element_layer p) (note_layer p) n) (fun_ext values_same)

  mark_same : (m : Mark) → mark_of q m ≡ mark_of p m
  mark_same m = ap (λ n. record { visibility = m.visibility; note = n }) (note_same m.note)

  body_same : (b : Body) → body_of q b ≡ body_of p b
  body_same b = ap (λ f. record { registers = b.registers; ins = b.ins; forms = map f b.insns; regions = map (region_of p) b.regions }) (fun_ext forms_same)

  pub field_same : (f : Field) → named_field q f ≡ named_field p f
  field_same f = ap (λ v. record (named_field p f) { first = option_map v f.first; marks = map (mark_of q) f.marks }) (fun_ext value_same)
      ∙ ap (λ m. record (named_field p f) { marks = map m f.marks }) (fun_ext mark_same)

  pub method_same : (m : Method) → named_method q m ≡ named_method p m
  method_same m = ap (λ x. record (named_method p m) { marks = map x m.marks; parameter_marks = map (map x) m.parameter_marks; body = option_map (body_of q) m.body }) (fun_ext mark_same)
      ∙ ap (λ b. record (named_method p m) { body = option_map b m.body }) (fun_ext body_same)

  pub class_same : (c : Class) → named_class q c ≡ named_class p c
  class_same c = ap (λ x. record (named_class p c) { marks = map x c.marks; fields = map (named_field q) c.fields; methods = map (named_method q) c.methods }) (fun_ext mark_same)
      ∙ ap (λ f. record (named_class p c) { fields = map f c.fields; methods = map (named_method q) c.methods }) (fun_ext field_same)
      ∙ ap (λ m. record (named_class p c) { methods = map m c.methods }) (fun_ext method_same)
