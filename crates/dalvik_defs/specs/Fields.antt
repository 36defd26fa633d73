-- What fields hold (Dalvik executable format, "encoded_value"; this project's profile).
use Rattle.std.specs.Prelude.{Bool, Option, Some, None}
use Rattle.std.specs.Int.{w32, w64, cast_unsigned}
use Rattle.dalvik_defs.specs.Face.{Place}
use Rattle.dalvik_defs.specs.ActPlain.{truth}
use Rattle.dalvik_defs.specs.State.{World, Value, Word, Low, Literal, Class, Thing, Instance, Items, zero_of, put_thing, put_field}
use Rattle.dalvik_defs.specs.declared.names.FieldKey.{FieldKey}
use Rattle.dalvik_defs.specs.declared.encoded.NamedValue.{NamedValue, NamedValue-F, fold-NamedValue}
use Rattle.dalvik_defs.specs.declared.encoded.NamedValue.TheOpen as layer

-- a first value; those that fit no field are 0
abbrev pub first_layer : NamedValue-F Value Value Value → Value
first_layer (layer.Byte z) = Word (cast_unsigned w32 z)
first_layer (layer.Short z) = Word (cast_unsigned w32 z)
first_layer (layer.Char n) = Word n
first_layer (layer.Int z) = Word (cast_unsigned w32 z)
first_layer (layer.Long z) = Low (cast_unsigned w64 z)
first_layer (layer.Float n) = Word n
first_layer (layer.Double n) = Low n
first_layer (layer.Str t) = Literal t
first_layer (layer.Class t) = Class t
first_layer (layer.Bool b) = truth b
first_layer v = Word 0

abbrev pub first_value : NamedValue → Value
first_value v = fold-NamedValue Value Value Value first_layer (λ e. Word 0) (λ n. Word 0) v

-- the declared first value, or zero or null
abbrev pub first_of : FieldKey → Place → Value
first_of k place = elim place.first [ Some v ↦ first_value v | None ↦ zero_of k.kind ]

abbrev pub key_at : FieldKey → Place → FieldKey
key_at k place = record k { class = place.class }

abbrev pub written_or : Option Value → Value → Value
written_or (Some v) z = v
written_or None z = z

abbrev pub static_value : World → FieldKey → Place → Value
static_value w k place = written_or (w.statics (key_at k place)) (first_of k place)

-- the value in an object; another thing has no fields
abbrev pub instance_value : FieldKey → Place → Option Thing → Option Value
instance_value k place (Some (Instance c fields)) = Some (written_or (fields (key_at k place)) (zero_of k.kind))
instance_value k place (Some (Items kind vs)) = None
instance_value k place None = None

abbrev pub with_static : World → FieldKey → Value → World
with_static w k v = record w { statics = put_field k v w.statics }

-- an object with a field written
abbrev pub with_instance : World → FieldKey → Value → Value → Option Thing → Option World
with_instance w k on v (Some (Instance c fields)) = Some (put_thing w on (Instance c (put_field k v fields)))
with_instance w k on v (Some (Items kind vs)) = None
with_instance w k on v None = None
