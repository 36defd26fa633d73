-- The id tables and the class_defs (Dalvik executable format, "string_id_item" to "class_def_item").
use Rattle.std.specs.Prelude.{ℕ, suc, ◌+◌, ◌*◌, ◌%◌, List, [], ◌∷◌, ◌++◌, map, Option, Some, None, slice_get}
use Rattle.std.specs.List.{flat_map}
use Rattle.dex_pools.specs.declared.interner.Interner.{Interner}
use Rattle.dex_pools.specs.Written.{renumbered}
use Rattle.program_model.specs.declared.pass.Renumber.{Renumber}
use Rattle.program_model.specs.declared.pools.Proto.{Proto}
use Rattle.program_model.specs.declared.pools.FieldName.{FieldName}
use Rattle.program_model.specs.declared.pools.MethodName.{MethodName}
use Rattle.program_model.specs.declared.program.Class.{Class}
use Rattle.program_model.specs.declared.program.Program.{Program}
use Rattle.dex_write.specs.declared.tables.ClassOffsets.{ClassOffsets}
use Rattle.dex_write.specs.Numbers.{at_place}
use Rattle.dex_write.specs.Plans.{Plan}

-- two numbers of 16 bits as one of 32
abbrev pub pair : ℕ → ℕ → ℕ
pair low high = low % 65536 + high % 65536 * 65536

-- the texts of types
abbrev pub type_words : List ℕ → List ℕ → List ℕ → List ℕ
type_words strings types order = map (λ old. renumbered strings (at_place types old)) order

abbrev pub proto_row : Renumber → Option Proto → ℕ → List ℕ
proto_row r None offset = 0 ∷ 0 ∷ 0 ∷ []
proto_row r (Some proto) offset = renumbered r.strings.items proto.shorty ∷ renumbered r.types.items proto.result ∷ offset ∷ []

-- the first of these protos has this place
abbrev pub proto_words : Renumber → List Proto → List ℕ → ℕ → List ℕ → List ℕ
proto_words r protos offsets place [] = []
proto_words r protos offsets place (old ∷ order) = proto_row r (slice_get protos old) (at_place offsets place) ++ proto_words r protos offsets (suc place) order

abbrev pub field_row : Renumber → Option FieldName → List ℕ
field_row r None = 0 ∷ 0 ∷ []
field_row r (Some field) = pair (renumbered r.types.items field.class) (renumbered r.types.items field.kind) ∷ renumbered r.strings.items field.name ∷ []

abbrev pub field_words : Renumber → List FieldName → List ℕ → List ℕ
field_words r fields order = flat_map (λ old. field_row r (slice_get fields old)) order

abbrev pub method_row : Renumber → Option MethodName → List ℕ
method_row r None = 0 ∷ 0 ∷ []
method_row r (Some method) = pair (renumbered r.types.items method.class) (renumbered r.protos.items method.proto) ∷ renumbered r.strings.items method.name ∷ []

abbrev pub method_words : Renumber → List MethodName → List ℕ → List ℕ
method_words r methods order = flat_map (λ old. method_row r (slice_get methods old)) order

abbrev pub source_word : Renumber → Option ℕ → ℕ
source_word r None = 4294967295
source_word r (Some string) = renumbered r.strings.items string

abbrev pub class_row : Renumber → Class → ClassOffsets → ℕ → List ℕ
class_row r c offsets place = renumbered r.types.items c.name ∷ c.flags.0 ∷ renumbered r.types.items c.superclass
    ∷ at_place offsets.interfaces place ∷ source_word r c.source ∷ at_place offsets.directories place
    ∷ at_place offsets.data place ∷ at_place offsets.firsts place ∷ []

abbrev pub class_words : Renumber → ClassOffsets → ℕ → List Plan → List ℕ
class_words r offsets place [] = []
class_words r offsets place (plan ∷ plans) = class_row r plan.class offsets place ++ class_words r offsets (suc place) plans

-- the tables behind the strings' offsets
unfoldable pub table_words : Program → Interner → List Plan → List ℕ → List ℕ → ClassOffsets → List ℕ
table_words p i plans strings parameters offsets = strings
    ++ (type_words i.numbers.strings.items p.types i.order.types.items
    ++ (proto_words i.numbers p.protos parameters 0 i.order.protos.items
    ++ (field_words i.numbers p.fields i.order.fields.items
    ++ (method_words i.numbers p.methods i.order.methods.items
    ++ class_words i.numbers offsets 0 plans))))
