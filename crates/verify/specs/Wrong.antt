-- Positions that are wrong whatever the registers hold, by numbers (this project's profile).
use Rattle.std.specs.Prelude.{ℕ, ◌+◌, Bool, true, false, ◌&&◌, ◌||◌, not, nat_eq, length, Option, Some, None, slice_get, option_and_then, if◌then◌else◌}
use Rattle.insn_set.specs.declared.form.Insn.{Insn}
use Rattle.insn_set.specs.declared.form.Insn.TheVariants as insn
use Rattle.insn_set.specs.declared.ops.Slot.{Slot}
use Rattle.insn_set.specs.declared.ops.Slot.TheVariants as slot
use Rattle.insn_set.specs.declared.ops.Item.{Item}
use Rattle.insn_set.specs.declared.ops.Item.TheVariants as item
use Rattle.insn_set.specs.declared.ops.InvokeKind.{InvokeKind}
use Rattle.insn_set.specs.declared.ops.InvokeKind.TheVariants as call
use Rattle.hierarchy.specs.Tables.{answer}
use Rattle.program_model.specs.declared.value.EncValue.{EncValue, EncValue-F, out-EncValue}
use Rattle.program_model.specs.declared.value.EncValue.TheOpen as value
use Rattle.program_model.specs.declared.value.Element.{Element}
use Rattle.program_model.specs.declared.value.Note.{Note}
use Rattle.program_model.specs.declared.program.Class.{Class}
use Rattle.verify.specs.declared.calls.Search.{Search}
use Rattle.verify.specs.declared.calls.Search.TheVariants as search
use Rattle.verify.specs.declared.setting.Setting.{Setting}
use Rattle.verify.specs.declared.shapes.Shape.{Shape}
use Rattle.verify.specs.declared.shapes.Shape.TheVariants as shape
use Rattle.verify.specs.Kinds.{is_initialised}
use Rattle.verify.specs.Shapes.{is_void, is_word, is_wide, is_reference, is_array, is_plain}
use Rattle.verify.specs.Types.{shape_of, proto_words, is_constructor}
use Rattle.verify.specs.Fits.{is_fillable}
use Rattle.program_model.specs.MemberRules.{has_flag}
use Rattle.program_model.specs.Lookups.{method_at}
use Rattle.program_model.specs.declared.program.Field.{Field}
use Rattle.program_model.specs.declared.program.Method.{Method}
use Rattle.verify.specs.Names.{field_kind}
use Rattle.verify.specs.Frames.{Kinds}
use Rattle.verify.specs.Reads.{found_at}

abbrev pub differ : Bool → Option Bool → Bool
differ true (Some b) = not b
differ false (Some b) = b
differ static None = false

abbrev pub is_static_in : Option Field → Option Bool
is_static_in (Some f) = Some (has_flag f.flags 8)
is_static_in None = None

-- whether the field at a place of a class is static
abbrev pub static_at : Setting → ℕ → ℕ → Option Bool
static_at s c n = option_and_then (λ k. is_static_in (slice_get k.fields n)) (slice_get s.program.now.classes c)

-- whether the field to which a name resolves is static
abbrev pub static_field : Setting → ℕ → Option Bool
static_field s f = option_and_then (λ at. static_at s at.0 at.1) (answer (slice_get s.hierarchy.now.targets.fields.items f))

-- a text or a type
abbrev pub is_layer_text_or_type : EncValue-F EncValue Element Note → Bool
is_layer_text_or_type (value.Str n) = true
is_layer_text_or_type (value.Class n) = true
is_layer_text_or_type v = false

abbrev pub is_text_or_type : EncValue → Bool
is_text_or_type v = is_layer_text_or_type (out-EncValue v)

abbrev pub is_first_text_or_type : Option EncValue → Bool
is_first_text_or_type (Some v) = is_text_or_type v
is_first_text_or_type None = false

abbrev pub begins_in : Option Field → Bool
begins_in (Some f) = is_first_text_or_type f.first
begins_in None = false

-- whether the field at a place of a class has a text or a type first
abbrev pub begins_at : Setting → ℕ → ℕ → Bool
begins_at s c n = elim (slice_get s.program.now.classes c) [ Some k ↦ begins_in (slice_get k.fields n) | None ↦ false ]

-- whether the field to which a name resolves has
abbrev pub begins_as_text_or_type : Setting → ℕ → Bool
begins_as_text_or_type s f = elim (answer (slice_get s.hierarchy.now.targets.fields.items f)) [ Some at ↦ begins_at s at.0 at.1 | None ↦ false ]

abbrev pub is_static_of : Option Method → Option Bool
is_static_of (Some m) = Some (has_flag m.flags 8)
is_static_of None = None

-- whether the method to which a name resolves is static
abbrev pub static_method : Setting → ℕ → Option Bool
static_method s m = option_and_then (λ at. is_static_of (method_at s.program.now at)) (answer (slice_get s.hierarchy.now.targets.methods.items m))

-- a form of an item for a type of another width
abbrev pub wrong_item : Item → Shape → Bool
wrong_item item.Wide h = not (is_wide h)
wrong_item item.Object h = not (is_reference h)
wrong_item i h = is_wide h || is_reference h

abbrev pub wrong_access : Setting → Bool → Item → ℕ → Bool
wrong_access s static i f = wrong_item i (shape_of s.tables.now (field_kind s.program.now f)) || differ static (static_field s f)

-- a get of a field that has a text or a type first, and whose type is an array type or a program class that is no interface
abbrev pub wrong_first : Setting → ℕ → Bool
wrong_first s f =
    (is_array (shape_of s.tables.now (field_kind s.program.now f)) || is_plain (shape_of s.tables.now (field_kind s.program.now f)))
    && begins_as_text_or_type s f

abbrev pub is_static_call : InvokeKind → Bool
is_static_call call.Static = true
is_static_call k = false

abbrev pub finds_static : Search → Bool
finds_static (search.Finds class static) = static
finds_static search.Nothing = false

abbrev pub wrong_super : Setting → ℕ → InvokeKind → ℕ → Bool
wrong_super s n call.Super m = is_constructor s.tables.now m || finds_static (found_at s n)
wrong_super s n k m = false

abbrev pub parameter_words : Setting → ℕ → ℕ
parameter_words s m = elim (slice_get s.program.now.methods m) [ Some n ↦ proto_words s.tables.now n.proto | None ↦ 0 ]

abbrev pub passed_words : Setting → InvokeKind → ℕ → ℕ
passed_words s k m = parameter_words s m + (if is_static_call k then 0 else 1)

abbrev pub wrong_call : Setting → ℕ → InvokeKind → ℕ → ℕ → Bool
wrong_call s n k m words = differ (is_static_call k) (static_method s m) || wrong_super s n k m || not (nat_eq words (passed_words s k m))

abbrev pub is_unmade : Option Class → Bool
is_unmade (Some c) = has_flag c.flags 1024 || has_flag c.flags 512
is_unmade None = false

-- no class type, or an abstract program class or an interface
abbrev pub wrong_instance : Setting → Shape → Bool
wrong_instance s (shape.Class (Some c) plain) = is_unmade (slice_get s.program.now.classes c)
wrong_instance s (shape.Class None plain) = false
wrong_instance s h = true

abbrev pub wrong_result : Slot → Shape → Bool
wrong_result slot.Word h = not (is_word h)
wrong_result slot.Wide h = not (is_wide h)
wrong_result slot.Object h = not (is_reference h)

-- a constructor's return before another constructor was called on its receiver
abbrev pub ends_early : Setting → Kinds → Bool
ends_early s a = s.constructs && not (is_initialised a.receiver)

abbrev pub is_wrong : Setting → ℕ → Kinds → Insn → Bool
is_wrong s n a insn.ReturnVoid = not (is_void (shape_of s.tables.now s.result)) || ends_early s a
is_wrong s n a (insn.Return slot from) = wrong_result slot (shape_of s.tables.now s.result) || ends_early s a
is_wrong s n a (insn.NewInstance to type) = wrong_instance s (shape_of s.tables.now type)
is_wrong s n a (insn.NewArray to size type) = not (is_array (shape_of s.tables.now type))
is_wrong s n a (insn.FilledNewArray type args) = not (is_fillable s.tables.now type)
is_wrong s n a (insn.InstanceGet i to on field) = wrong_access s false i field
is_wrong s n a (insn.InstancePut i from on field) = wrong_access s false i field
is_wrong s n a (insn.StaticGet i to field) = wrong_access s true i field || wrong_first s field
is_wrong s n a (insn.StaticPut i from field) = wrong_access s true i field
is_wrong s n a (insn.Invoke k method args) = wrong_call s n k method (length args)
is_wrong s n a i = false
