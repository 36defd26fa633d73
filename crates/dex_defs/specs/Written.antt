-- The program that is written for a program: its used entries alone, renumbered in order, members in the order of the new numbers,
-- and each class behind those of its superclass and interfaces. Its code has the new numbers, so for a writer it is this program,
-- and not the one that it was made of, that has to lay out (LaysOut).
use Rattle.std.specs.Prelude.{◌≡◌, ℕ, zero, suc, List, [], ◌∷◌, ◌++◌, length, map, nat_lt, nat_eq, Bool, Option, Some, None, slice_get, if◌then◌else◌}
use Rattle.std.specs.List.{flat_map, list_any}
use Rattle.std.specs.Option.{option_map}
use Rattle.insn_set.specs.declared.form.Insn.{Insn}
use Rattle.insn_set.specs.declared.form.Insn.TheVariants as insn
use Rattle.program_model.specs.Lookups.{class_place}
use Rattle.program_model.specs.MemberRules.{is_static, is_direct, in_groups}
use Rattle.program_model.specs.declared.pass.Renumber.{Renumber}
use Rattle.program_model.specs.declared.pools.Proto.{Proto}
use Rattle.program_model.specs.declared.pools.FieldName.{FieldName}
use Rattle.program_model.specs.declared.pools.MethodName.{MethodName}
use Rattle.program_model.specs.declared.body.Handler.{Handler}
use Rattle.program_model.specs.declared.body.Region.{Region}
use Rattle.program_model.specs.declared.body.Body.{Body}
use Rattle.program_model.specs.declared.program.Field.{Field}
use Rattle.program_model.specs.declared.program.Method.{Method}
use Rattle.program_model.specs.declared.program.Class.{Class}
use Rattle.program_model.specs.declared.program.Program.{Program}
use Rattle.program_model.specs.declared.value.EncValue.{EncValue, EncValue-F, fold-EncValue}
use Rattle.program_model.specs.declared.value.EncValue.TheOpen as layer
use Rattle.program_model.specs.declared.value.EncValue.TheVariants as value
use Rattle.program_model.specs.declared.value.Note.{Note, Note-F, fold-Note, roll-Note}
use Rattle.program_model.specs.declared.value.Element.{Element, Element-F}
use Rattle.program_model.specs.declared.value.Mark.{Mark}
use Rattle.dex_pools.specs.declared.interner.Interner.{Interner}
use Rattle.dex_pools.specs.Interned.{IsInterned}
use Rattle.dex_pools.specs.Marks.{mark_below}
use Rattle.dex_pools.specs.Value.{element_below}
use Rattle.dex_pools.specs.Written.{renumbered}

-- ---- new numbers

abbrev pub new_string : Renumber → ℕ → ℕ
new_string r n = renumbered r.strings.items n

abbrev pub new_type : Renumber → ℕ → ℕ
new_type r n = renumbered r.types.items n

abbrev pub new_proto : Renumber → ℕ → ℕ
new_proto r n = renumbered r.protos.items n

abbrev pub new_field : Renumber → ℕ → ℕ
new_field r n = renumbered r.fields.items n

abbrev pub new_method : Renumber → ℕ → ℕ
new_method r n = renumbered r.methods.items n

-- ---- lists in order

abbrev pub insert : {X : Type 0} → (X → X → Bool) → X → List X → List X
insert below x [] = x ∷ []
insert below x (y ∷ ys) = if below x y then x ∷ (y ∷ ys) else y ∷ insert below x ys

abbrev pub in_order : {X : Type 0} → (X → X → Bool) → List X → List X
in_order below [] = []
in_order below (x ∷ xs) = insert below x (in_order below xs)

-- ---- values, annotations, code

abbrev pub new_layer : Renumber → EncValue-F EncValue Element Note → EncValue
new_layer r (layer.Byte x) = value.Byte x
new_layer r (layer.Short x) = value.Short x
new_layer r (layer.Char x) = value.Char x
new_layer r (layer.Int x) = value.Int x
new_layer r (layer.Long x) = value.Long x
new_layer r (layer.Float x) = value.Float x
new_layer r (layer.Double x) = value.Double x
new_layer r (layer.Str n) = value.Str (new_string r n)
new_layer r (layer.Class n) = value.Class (new_type r n)
new_layer r (layer.Field n) = value.Field (new_field r n)
new_layer r (layer.Method n) = value.Method (new_method r n)
new_layer r (layer.Enum n) = value.Enum (new_field r n)
new_layer r (layer.Array values) = value.Array values
new_layer r (layer.Annotation note) = value.Annotation note
new_layer r layer.Null = value.Null
new_layer r (layer.Bool b) = value.Bool b

abbrev pub new_element : Renumber → Element-F EncValue Element Note → Element
new_element r e = record { name = new_string r e.name; value = e.value }

abbrev pub new_note : Renumber → Note-F EncValue Element Note → Note
new_note r n = roll-Note (record { class = new_type r n.class; elements = in_order element_below n.elements })

abbrev pub new_value : Renumber → EncValue → EncValue
new_value r v = fold-EncValue EncValue Element Note (new_layer r) (new_element r) (new_note r) v

abbrev pub new_mark : Renumber → Mark → Mark
new_mark r m = record { visibility = m.visibility; note = fold-Note EncValue Element Note (new_layer r) (new_element r) (new_note r) m.note }

abbrev pub new_marks : Renumber → List Mark → List Mark
new_marks r marks = in_order mark_below (map (new_mark r) marks)

abbrev pub new_insn : Renumber → Insn → Insn
new_insn r (insn.ConstString to string) = insn.ConstString to (new_string r string)
new_insn r (insn.ConstClass to kind) = insn.ConstClass to (new_type r kind)
new_insn r (insn.CheckCast on kind) = insn.CheckCast on (new_type r kind)
new_insn r (insn.InstanceOf to from kind) = insn.InstanceOf to from (new_type r kind)
new_insn r (insn.NewInstance to kind) = insn.NewInstance to (new_type r kind)
new_insn r (insn.NewArray to size kind) = insn.NewArray to size (new_type r kind)
new_insn r (insn.FilledNewArray kind args) = insn.FilledNewArray (new_type r kind) args
new_insn r (insn.InstanceGet item to on field) = insn.InstanceGet item to on (new_field r field)
new_insn r (insn.InstancePut item from on field) = insn.InstancePut item from on (new_field r field)
new_insn r (insn.StaticGet item to field) = insn.StaticGet item to (new_field r field)
new_insn r (insn.StaticPut item from field) = insn.StaticPut item from (new_field r field)
new_insn r (insn.Invoke kind method args) = insn.Invoke kind (new_method r method) args
new_insn r i = i

abbrev pub new_handler : Renumber → Handler → Handler
new_handler r h = record { kind = new_type r h.kind; position = h.position }

abbrev pub new_region : Renumber → Region → Region
new_region r region = record { first = region.first; end = region.end; handlers = map (new_handler r) region.handlers; rest = region.rest }

abbrev pub new_body : Renumber → Body → Body
new_body r b = record { registers = b.registers; ins = b.ins; insns = map (new_insn r) b.insns; regions = map (new_region r) b.regions }

-- ---- members and classes

abbrev pub written_field : Renumber → Field → Field
written_field r f = record { name = new_field r f.name; flags = f.flags; first = option_map (new_value r) f.first; marks = new_marks r f.marks }

abbrev pub written_method : Renumber → Method → Method
written_method r m = record {
  name = new_method r m.name;
  flags = m.flags;
  marks = new_marks r m.marks;
  parameter_marks = map (new_marks r) m.parameter_marks;
  body = option_map (new_body r) m.body;
  lines = m.lines;
}

-- static fields before instance fields, direct methods before virtual ones, each group by number
abbrev pub field_below : Field → Field → Bool
field_below f g = in_groups (is_static f.flags) (is_static g.flags) (nat_lt f.name g.name)

abbrev pub method_below : Renumber → Program → Method → Method → Bool
method_below r p m n = in_groups (is_direct p m) (is_direct p n) (nat_lt (new_method r m.name) (new_method r n.name))

abbrev pub written_class : Renumber → Program → Class → Class
written_class r p c = record {
  name = new_type r c.name;
  flags = c.flags;
  superclass = new_type r c.superclass;
  interfaces = map (new_type r) c.interfaces;
  source = option_map (new_string r) c.source;
  marks = new_marks r c.marks;
  fields = in_order field_below (map (written_field r) c.fields);
  methods = map (written_method r) (in_order (method_below r p) c.methods);
}

-- ---- the order of the classes, by their places

abbrev pub place_list : Option ℕ → List ℕ
place_list None = []
place_list (Some place) = place ∷ []

-- the program classes among a class's superclass and interfaces
abbrev pub above_class : Program → Option Class → List ℕ
above_class p None = []
above_class p (Some c) = flat_map (λ kind. place_list (class_place p kind)) (c.superclass ∷ c.interfaces)

abbrev pub one_by_one : (List ℕ → ℕ → List ℕ) → List ℕ → List ℕ → List ℕ
one_by_one write done [] = done
one_by_one write done (c ∷ cs) = one_by_one write (write done c) cs

-- a class behind those above it that aren't written yet; the first number bounds how far the walk goes up
abbrev pub write_class : ℕ → Program → List ℕ → ℕ → List ℕ
write_class zero p done c = done
write_class (suc n) p done c = if list_any (nat_eq c) done then done
    else one_by_one (write_class n p) done (above_class p (slice_get p.classes c)) ++ c ∷ []

abbrev pub places_below : ℕ → ℕ → List ℕ
places_below from zero = []
places_below from (suc n) = from ∷ places_below (suc from) n

-- the classes keep their order, each directly behind those above it that weren't written yet
abbrev pub class_order : Program → List ℕ
class_order p = one_by_one (write_class (suc (length p.classes)) p) [] (places_below 0 (length p.classes))

-- ---- tables and the whole

abbrev pub one_entry : {X Y : Type 0} → (X → Y) → Option X → List Y
one_entry f None = []
one_entry f (Some x) = f x ∷ []

-- the entries of a table with these numbers
abbrev pub entries : {X Y : Type 0} → (X → Y) → List X → List ℕ → List Y
entries f table numbers = flat_map (λ n. one_entry f (slice_get table n)) numbers

abbrev pub written_proto : Renumber → Proto → Proto
written_proto r q = record { shorty = new_string r q.shorty; result = new_type r q.result; parameters = map (new_type r) q.parameters }

abbrev pub written_field_name : Renumber → FieldName → FieldName
written_field_name r f = record { class = new_type r f.class; kind = new_type r f.kind; name = new_string r f.name }

abbrev pub written_method_name : Renumber → MethodName → MethodName
written_method_name r m = record { class = new_type r m.class; proto = new_proto r m.proto; name = new_string r m.name }

abbrev pub written_by : Interner → Program → Program
written_by i p = record {
  strings = entries (λ text. text) p.strings i.order.strings.items;
  types = entries (new_string i.numbers) p.types i.order.types.items;
  protos = entries (written_proto i.numbers) p.protos i.order.protos.items;
  fields = entries (written_field_name i.numbers) p.fields i.order.fields.items;
  methods = entries (written_method_name i.numbers) p.methods i.order.methods.items;
  classes = entries (written_class i.numbers p) p.classes (class_order p);
  version = p.version;
}

-- The used entries in order give the numbers; a well-formed program has just one such order. What a writer asks of p is LaysOut q.
pub record IsWritten (p q : Program) : Type 0 where
  pub interner : Interner
  pub used : IsInterned p interner
  pub is : q ≡ written_by interner p
