-- What a form asks of the registers that it reads (Dalvik bytecode, "Summary of bytecode set"; this project's profile).
use Rattle.std.specs.Prelude.{ℕ, ◌+◌, Bool, true, false, ◌&&◌, ◌||◌, not, if◌then◌else◌, nat_eq, List, [], ◌∷◌, ◌++◌, map, drop, Some, None, codes}
use Rattle.std.specs.List.{list_any, list_all}
use Rattle.insn_set.specs.declared.ops.Slot.{Slot}
use Rattle.insn_set.specs.declared.ops.Slot.TheVariants as slot
use Rattle.insn_set.specs.declared.ops.Item.{Item}
use Rattle.insn_set.specs.declared.ops.Item.TheVariants as item
use Rattle.insn_set.specs.declared.ops.Test.{Test}
use Rattle.insn_set.specs.declared.ops.Test.TheVariants as test
use Rattle.insn_set.specs.declared.ops.InvokeKind.{InvokeKind}
use Rattle.insn_set.specs.declared.ops.InvokeKind.TheVariants as call
use Rattle.insn_set.specs.Widths.{compares_wide, unary_reads_wide, binary_is_wide, second_is_wide}
use Rattle.dalvik_defs.specs.Names.{Text, text_eq, is_wide, item_of}
use Rattle.dalvik_defs.specs.Find.{Search, Finds, finds_super, finds_field}
use Rattle.dalvik_defs.specs.Items.{item_of_type}
use Rattle.dalvik_defs.specs.declared.names.MethodKey.{MethodKey}
use Rattle.dalvik_defs.specs.declared.names.FieldKey.{FieldKey}
use Rattle.dalvik_defs.specs.declared.forms.Form.{Form}
use Rattle.dalvik_defs.specs.declared.forms.Form.TheVariants as form
use Rattle.dalvik_defs.specs.declared.program.NamedMethod.{NamedMethod}
use Rattle.dalvik_defs.specs.declared.program.NamedClass.{NamedClass}
use Rattle.dalvik_defs.specs.declared.program.NamedProgram.{NamedProgram}
use Rattle.pass_defs.specs.Kinds.{Kind, Undefined, Zero, Word, Low, High, Null, Array, Fresh, FreshThis, kind_eq, is_number, is_initialised, fits, fits_holder}
use Rattle.pass_defs.specs.Registers.{Kinds, kind_at}

pub data Demand : Type 0 where
  -- a move reads all but undefined values and halves
  Moved : Demand
  Number : Demand
  -- the low half, with the high half in the next register
  Pair : Demand
  -- the register behind another one
  Behind : (register : ℕ) → Demand
  Initialised : Demand
  -- a number or an initialised reference
  Either : Demand
  Fits : (type : Text) → Demand
  -- the receiver of a get of a field of a class
  Receiver : (class : Text) → Demand
  -- the receiver of a put, which may be the receiver of a constructor where its class defines the field
  Holder : (field : FieldKey) → Demand
  -- the receiver of a constructor of a class
  Constructed : (class : Text) → Demand
  -- null or an array: any, one with such items, one whose primitive items have so many bytes
  AnArray : Demand
  ArrayOf : (item : Item) → Demand
  Filled : (width : ℕ) → Demand

-- ---- when a demand is met

abbrev pub is_moved : Kind → Bool
is_moved Undefined = false
is_moved Low = false
is_moved High = false
is_moved k = true

abbrev pub item_eq : Item → Item → Bool
item_eq item.Plain item.Plain = true
item_eq item.Wide item.Wide = true
item_eq item.Object item.Object = true
item_eq item.Boolean item.Boolean = true
item_eq item.Byte item.Byte = true
item_eq item.Char item.Char = true
item_eq item.Short item.Short = true
item_eq a b = false

abbrev pub is_array_where : (Text → Bool) → Kind → Bool
is_array_where of Zero = true
is_array_where of Null = true
is_array_where of (Array t) = of (item_of t)
is_array_where of k = false

-- whether an item is primitive and has so many bytes
abbrev pub has_width : ℕ → Item → Bool
has_width n item.Plain = nat_eq n 4
has_width n item.Wide = nat_eq n 8
has_width n item.Object = false
has_width n item.Boolean = nat_eq n 1
has_width n item.Byte = nat_eq n 1
has_width n item.Char = nat_eq n 2
has_width n item.Short = nat_eq n 2

abbrev pub defines_field : NamedProgram → NamedClass → FieldKey → Bool
defines_field p c k = elim (finds_field p k) [ Some f ↦ text_eq f.0 c.name | None ↦ false ]

abbrev pub holds_field : NamedProgram → NamedClass → FieldKey → Kind → Bool
holds_field p c k FreshThis = defines_field p c k
holds_field p c k kind = fits_holder p kind k.class

-- an object that was made of the class, or the receiver of a constructor of the class or of one whose superclass it is
abbrev pub is_constructed : NamedClass → Text → Kind → Bool
is_constructed c t (Fresh s n) = text_eq s t
is_constructed c t FreshThis = text_eq c.name t || text_eq c.superclass t
is_constructed c t k = false

abbrev pub meets : NamedProgram → NamedClass → List Kind → ℕ → Demand → Bool
meets p c ks r Moved = is_moved (kind_at ks r)
meets p c ks r Number = is_number (kind_at ks r)
meets p c ks r Pair = kind_eq (kind_at ks r) Low && kind_eq (kind_at ks (r + 1)) High
meets p c ks r (Behind q) = nat_eq r (q + 1)
meets p c ks r Initialised = is_initialised (kind_at ks r)
meets p c ks r Either = is_number (kind_at ks r) || is_initialised (kind_at ks r)
meets p c ks r (Fits t) = fits p (kind_at ks r) t
meets p c ks r (Receiver t) = fits_holder p (kind_at ks r) t
meets p c ks r (Holder k) = holds_field p c k (kind_at ks r)
meets p c ks r (Constructed t) = is_constructed c t (kind_at ks r)
meets p c ks r AnArray = is_array_where (λ t. true) (kind_at ks r)
meets p c ks r (ArrayOf i) = is_array_where (λ t. item_eq (item_of_type t) i) (kind_at ks r)
meets p c ks r (Filled n) = is_array_where (λ t. has_width n (item_of_type t)) (kind_at ks r)

-- ---- what the forms ask

abbrev pub wide_or : Bool → Demand → Demand
wide_or wide d = elim wide [ true ↦ Pair | false ↦ d ]

abbrev pub number_or_pair : Bool → Demand
number_or_pair wide = wide_or wide Number

-- a value of a type
abbrev pub of_type : Text → Demand
of_type t = wide_or (is_wide t) (Fits t)

abbrev pub slot_demand : Slot → Demand
slot_demand slot.Wide = Pair
slot_demand s = Moved

abbrev pub is_equality : Test → Bool
is_equality test.Eq = true
is_equality test.Ne = true
is_equality t = false

-- the second operand is of the sort of the first, which may be both
abbrev pub like : Kind → Demand
like Zero = Either
like Word = Number
like k = Initialised

abbrev pub tested : Bool → Demand
tested equality = elim equality [ true ↦ Either | false ↦ Number ]

abbrev pub second_tested : Bool → Kind → Demand
second_tested equality k = elim equality [ true ↦ like k | false ↦ Number ]

-- what is put into an array
abbrev pub put_item : Item → Demand
put_item item.Wide = Pair
put_item item.Object = Initialised
put_item i = Number

abbrev pub is_constructor_name : Text → Bool
is_constructor_name n = text_eq n (codes "<init>")

-- a wide argument has two registers, the second one behind the first
abbrev pub passed_wide : ℕ → List ℕ → List (ℕ × Demand)
passed_wide r [] = (r, Pair) ∷ []
passed_wide r (s ∷ rs) = (r, Pair) ∷ (s, Behind r) ∷ []

-- arguments by the types of what is passed
abbrev pub passed : List Text → List ℕ → List (ℕ × Demand)
passed [] rs = []
passed (t ∷ ts) [] = []
passed (t ∷ ts) (r ∷ rs) = elim (is_wide t) [ true ↦ passed_wide r rs ++ passed ts (drop 1 rs) | false ↦ (r, Fits t) ∷ passed ts rs ]

abbrev pub found_class : Search → List Text
found_class (Finds g) = g.key.class ∷ []
found_class s = []

-- A receiver fits the class that the call names; for a super call also that of the method that it finds.
abbrev pub receiver_demands : NamedProgram → NamedClass → InvokeKind → MethodKey → List Demand
receiver_demands p c call.Super k = Fits k.class ∷ map Fits (found_class (finds_super p c.name k))
receiver_demands p c kind k = (if is_constructor_name k.name then Constructed k.class else Fits k.class) ∷ []

abbrev pub call_demands : NamedProgram → NamedClass → InvokeKind → MethodKey → List ℕ → List (ℕ × Demand)
call_demands p c call.Static k rs = passed k.signature.parameters rs
call_demands p c kind k [] = []
call_demands p c kind k (r ∷ rs) = map (λ d. (r, d)) (receiver_demands p c kind k) ++ passed k.signature.parameters rs

abbrev pub demands : NamedProgram → NamedClass → NamedMethod → List Kind → Form → List (ℕ × Demand)
demands p c m ks (form.Move slot to from) = (from, slot_demand slot) ∷ []
demands p c m ks (form.Return slot from) = (from, of_type m.signature.result) ∷ []
demands p c m ks (form.MonitorEnter on) = (on, Initialised) ∷ []
demands p c m ks (form.MonitorExit on) = (on, Initialised) ∷ []
demands p c m ks (form.CheckCast on kind) = (on, Initialised) ∷ []
demands p c m ks (form.InstanceOf to from kind) = (from, Initialised) ∷ []
demands p c m ks (form.ArrayLength to from) = (from, AnArray) ∷ []
demands p c m ks (form.NewArray to size kind) = (size, Number) ∷ []
demands p c m ks (form.FilledNewArray kind args) = map (λ r. (r, Fits (item_of kind))) args
demands p c m ks (form.FillArray on width items) = (on, Filled width) ∷ []
demands p c m ks (form.Throw on) = (on, Initialised) ∷ []
demands p c m ks (form.PackedSwitch on first targets) = (on, Number) ∷ []
demands p c m ks (form.SparseSwitch on keys targets) = (on, Number) ∷ []
demands p c m ks (form.Cmp op to a b) = (a, number_or_pair (compares_wide op)) ∷ (b, number_or_pair (compares_wide op)) ∷ []
demands p c m ks (form.If test a b target) = (a, tested (is_equality test)) ∷ (b, second_tested (is_equality test) (kind_at ks a)) ∷ []
demands p c m ks (form.IfZero test a target) = (a, tested (is_equality test)) ∷ []
demands p c m ks (form.ArrayGet item to array index) = (array, ArrayOf item) ∷ (index, Number) ∷ []
demands p c m ks (form.ArrayPut item from array index) = (from, put_item item) ∷ (array, ArrayOf item) ∷ (index, Number) ∷ []
demands p c m ks (form.InstanceGet item to on field) = (on, Receiver field.class) ∷ []
demands p c m ks (form.InstancePut item from on field) = (from, of_type field.kind) ∷ (on, Holder field) ∷ []
demands p c m ks (form.StaticPut item from field) = (from, of_type field.kind) ∷ []
demands p c m ks (form.Invoke kind method args) = call_demands p c kind method args
demands p c m ks (form.Unary op to from) = (from, number_or_pair (unary_reads_wide op)) ∷ []
demands p c m ks (form.Binary op to a b) = (a, number_or_pair (binary_is_wide op)) ∷ (b, number_or_pair (second_is_wide op)) ∷ []
demands p c m ks (form.Literal op to a value) = (a, Number) ∷ []
demands p c m ks f = []

-- the place of the last result, or that of the caught object
abbrev pub result_fits : Slot → Kind → Bool
result_fits slot.Word k = is_number k
result_fits slot.Wide k = kind_eq k Low
result_fits slot.Object k = is_initialised k

abbrev pub place_allowed : Kinds → Form → Bool
place_allowed a (form.MoveResult slot to) = result_fits slot a.result
place_allowed a (form.MoveException to) = is_initialised a.caught
place_allowed a f = true

-- every read is allowed
abbrev pub is_allowed : NamedProgram → NamedClass → NamedMethod → Kinds → Form → Bool
is_allowed p c m a f = place_allowed a f && list_all (λ d. meets p c a.registers d.0 d.1) (demands p c m a.registers f)

-- the read of a register isn't; for a place this is the register that the form writes
abbrev pub place_register : Form → ℕ → Bool
place_register (form.MoveResult slot to) r = nat_eq to r
place_register (form.MoveException to) r = nat_eq to r
place_register f r = false

abbrev pub is_refused : NamedProgram → NamedClass → NamedMethod → Kinds → Form → ℕ → Bool
is_refused p c m a f r =
    (not (place_allowed a f) && place_register f r)
    || list_any (λ d. nat_eq d.0 r && not (meets p c a.registers d.0 d.1)) (demands p c m a.registers f)
