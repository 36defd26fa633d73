-- What fields hold (Dalvik executable format, "encoded_value").
use Rattle.std.specs.Prelude.{◌≡◌, ℕ, Bool, true, false, Option, Some, None, cond, slice_get, Contains}
use Rattle.std.specs.Int.{w32, w64, cast_unsigned}
use Rattle.insn_set.specs.declared.ops.Item.{Item}
use Rattle.insn_set.specs.declared.form.Insn.{Insn}
use Rattle.insn_set.specs.declared.form.Insn.TheVariants as insn
use Rattle.program_model.specs.declared.value.EncValue.{EncValue, EncValue-F, out-EncValue}
use Rattle.program_model.specs.declared.value.EncValue.TheOpen as layer
use Rattle.program_model.specs.declared.value.Note.{Note}
use Rattle.program_model.specs.declared.value.Element.{Element}
use Rattle.program_model.specs.declared.program.Field.{Field}
use Rattle.program_model.specs.declared.program.MethodAt.{MethodAt}
use Rattle.program_model.specs.declared.program.Program.{Program}
use Rattle.program_model.specs.declared.pass.Outside.{Outside}
use Rattle.program_model.specs.MemberRules.{is_static, field_letter}
use Rattle.program_model.specs.Texts.{is_wide}
use Rattle.domains.specs.Values.{Parts, any_value, constant_value, wide_value}
use Rattle.value_ops.specs.Left.{any_object}
use Rattle.value_ops.specs.Numbers.{stored_value}
use Rattle.dom_frame.specs.Registers.{value_at}
use Rattle.facts.specs.declared.facts.Facts.{Facts}
use Rattle.closed_facts.specs.Tables.{IsBelow, At, field_at}
use Rattle.closed_facts.specs.Found.{field_in, own_number}

-- zero, false or null, by the type of the field that a number names
abbrev pub zero_parts : Program → ℕ → Parts
zero_parts p field = cond (is_wide (field_letter p (slice_get p.fields field))) (wide_value 0) (constant_value 0)

abbrev pub truth_parts : Bool → Parts
truth_parts true = constant_value 1
truth_parts false = constant_value 0

-- a first value; those that fit no field are 0
abbrev pub layer_parts : EncValue-F EncValue Element Note → Parts
layer_parts (layer.Byte z) = constant_value (cast_unsigned w32 z)
layer_parts (layer.Short z) = constant_value (cast_unsigned w32 z)
layer_parts (layer.Char n) = constant_value n
layer_parts (layer.Int z) = constant_value (cast_unsigned w32 z)
layer_parts (layer.Long z) = wide_value (cast_unsigned w64 z)
layer_parts (layer.Float n) = constant_value n
layer_parts (layer.Double n) = wide_value n
layer_parts (layer.Str n) = any_object
layer_parts (layer.Class n) = any_object
layer_parts (layer.Bool b) = truth_parts b
layer_parts v = constant_value 0

abbrev pub first_parts : Program → Field → Option EncValue → Parts
first_parts p f None = zero_parts p f.name
first_parts p f (Some v) = layer_parts (out-EncValue v)

-- what a field holds before it is written: a static one its first value, that of an object zero or null
abbrev pub begun_parts : Program → Field → Parts
begun_parts p f = cond (is_static f.flags) (first_parts p f f.first) (zero_parts p f.name)

-- the instruction puts a register into the field that a number names
pub data Puts (item : Item) (from field : ℕ) : Insn → Type 0 where
  Instance : (on : ℕ) → Puts item from field (insn.InstancePut item from on field)
  Static : Puts item from field (insn.StaticPut item from field)

-- A field holds what it begins with, anything where the framework may write it, and what reached positions put into it.
pub record HoldsFields (p : Program) (outside : Outside) (t : Facts) : Type 0 where
  pub firsts : (at : ℕ × ℕ) (f : Field) → field_in p at ≡ Some f → IsBelow (begun_parts p f) (field_at t f.name)
  pub opened : (at : ℕ × ℕ) (f : Field) → field_in p at ≡ Some f → Contains outside.fields f.name → IsBelow any_value (field_at t f.name)
  pub puts : (at : MethodAt) (n from field own : ℕ) (item : Item) (here : At p t at n) → Puts item from field here.insn → own_number p field ≡ Some own
      → IsBelow (stored_value item (value_at here.registers from)) (field_at t own)
