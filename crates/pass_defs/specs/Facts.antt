-- What is known of a program's runs: tables of values, and when a table is closed (this project's profile). The same
-- rules serve every set of values.
use Rattle.std.specs.Prelude.{◌≡◌, ℕ, zero, suc, ◌+◌, ◌-◌, ◌<◌, ℤ, pos, Bool, true, false, ◌&&◌, ◌||◌, not, if◌then◌else◌, nat_eq, List, [], ◌∷◌, ◌++◌, map, Option, Some, None, is_some, slice_get, Contains}
use Rattle.std.specs.Int.{w32, w64, cast_unsigned}
use Rattle.std.specs.List.{list_any}
use Rattle.std.specs.Ordering.{int_eq}
use Rattle.insn_set.specs.declared.ops.Slot.{Slot}
use Rattle.insn_set.specs.declared.ops.Slot.TheVariants as slot
use Rattle.insn_set.specs.declared.ops.Item.{Item}
use Rattle.insn_set.specs.declared.ops.Test.{Test}
use Rattle.insn_set.specs.declared.ops.CmpOp.{CmpOp}
use Rattle.insn_set.specs.declared.ops.UnaryOp.{UnaryOp}
use Rattle.insn_set.specs.declared.ops.BinaryOp.{BinaryOp}
use Rattle.insn_set.specs.declared.ops.LiteralOp.{LiteralOp}
use Rattle.insn_set.specs.declared.ops.InvokeKind.{InvokeKind}
use Rattle.insn_set.specs.declared.ops.InvokeKind.TheVariants as call
use Rattle.insn_set.specs.Widths.{is_wide_item, unary_writes_wide, binary_is_wide}
use Rattle.insn_set.specs.Flow.{divides, divides_by_literal}
use Rattle.dalvik_defs.specs.Names.{Text, text_eq, method_eq, is_reference, is_common, initialiser_name, signature_eq, void}
use Rattle.dalvik_defs.specs.Flags.{is_static, is_native}
use Rattle.dalvik_defs.specs.Under.{class_named, is_own_under, is_outward}
use Rattle.dalvik_defs.specs.Find.{Found, Search, Finds, finds_at, finds_field, finds_statically, method_in, defined_method, defined_field, is_virtual_method}
use Rattle.dalvik_defs.specs.Initialised.{initialiser_of, initialised_first}
use Rattle.dalvik_defs.specs.Face.{bodies_of, place_of}
use Rattle.dalvik_defs.specs.Outer.{Outer}
use Rattle.dalvik_defs.specs.ActPlain.{switch_target, packed_target}
use Rattle.dalvik_defs.specs.Arith.{signed}
use Rattle.dalvik_defs.specs.Fields.{first_of}
use Rattle.dalvik_defs.specs.Silence.{key_in}
use Rattle.dalvik_defs.specs.State.{zero_of}
use Rattle.dalvik_defs.specs.declared.state.Value.{Value}
use Rattle.dalvik_defs.specs.declared.state.Value.TheVariants.{Word, Low}
use Rattle.dalvik_defs.specs.declared.names.MethodKey.{MethodKey}
use Rattle.dalvik_defs.specs.declared.names.FieldKey.{FieldKey}
use Rattle.dalvik_defs.specs.declared.forms.Form.{Form}
use Rattle.dalvik_defs.specs.declared.forms.Form.TheVariants as form
use Rattle.dalvik_defs.specs.declared.program.NamedBody.{NamedBody}
use Rattle.dalvik_defs.specs.declared.program.NamedField.{NamedField}
use Rattle.dalvik_defs.specs.declared.program.NamedMethod.{NamedMethod}
use Rattle.dalvik_defs.specs.declared.program.NamedClass.{NamedClass}
use Rattle.dalvik_defs.specs.declared.program.NamedProgram.{NamedProgram}
use Rattle.pass_defs.specs.Demands.{is_constructor_name}
use Rattle.pass_defs.specs.Walks.{form_at, onward, caught}
use Rattle.pass_defs.specs.Calls.{may_find}
use Rattle.pass_defs.specs.Leaves.{may_leave}
use Rattle.pass_defs.specs.Live.{IsMade, unconditional, is_concrete}

-- a set of values: its order, its constants, and what the operations make of them
pub record Values (V : Type 0) : Type 1 where
  pub below : V → V → Type 0
  pub joined : V → V → V
  pub bottom : V
  pub any : V
  pub word : ℕ → V
  pub wide : ℕ → V
  pub unary : UnaryOp → V → V
  pub binary : BinaryOp → V → V → V
  pub literal : LiteralOp → V → ℤ → V
  pub compared : CmpOp → V → V → V
  -- what a field keeps
  pub stored : Item → V → V
  -- the only outcome of a test, the only word, and whether it is surely 0
  pub outcome : Test → V → V → Option Bool
  pub only : V → Option ℕ
  pub is_zero : V → Bool

-- For each method with code a value for each parameter word and for the result, and for each position that is reached
-- one for each register; and a value for each field of the program.
pub record Facts (V : Type 0) : Type 0 where
  pub parameters : MethodKey → ℕ → V
  pub results : MethodKey → V
  pub registers : MethodKey → ℕ → Option (ℕ → V)
  pub fields : FieldKey → V

-- a field by the class that defines it
abbrev pub own_key : FieldKey → Text × NamedField → FieldKey
own_key k f = record k { class = f.0 }

abbrev pub is_initialiser_key : MethodKey → Bool
is_initialiser_key k = text_eq k.name initialiser_name && signature_eq k.signature void

-- the form in front of a position
abbrev pub form_before : NamedBody → ℕ → Option Form
form_before b zero = None
form_before b (suc n) = form_at b n

-- ---- classes that are initialised

-- a class is initialised for another: itself, or one that comes first for it or for one of these
pub data Initialises (p : NamedProgram) : Text → Text → Type 0 where
  Itself : (t : Text) → Initialises p t t
  First : (t u v : Text) → Contains (initialised_first p t) u → Initialises p u v → Initialises p t v

abbrev pub static_class : Search → List Text
static_class (Finds g) = elim (is_static g.flags) [ true ↦ g.key.class ∷ [] | false ↦ [] ]
static_class s = []

abbrev pub field_class : NamedProgram → FieldKey → List Text
field_class p k = elim (finds_field p k) [ Some f ↦ f.0 ∷ [] | None ↦ [] ]

-- the class that a form needs
abbrev pub needs : NamedProgram → Form → List Text
needs p (form.NewInstance to kind) = kind ∷ []
needs p (form.StaticGet item to field) = field_class p field
needs p (form.StaticPut item from field) = field_class p field
needs p (form.Invoke call.Static k args) = static_class (finds_statically p k)
needs p f = []

-- a static method that the framework may enter
pub record IsEnteredStatic (p : NamedProgram) (o : Outer) (k : MethodKey) : Type 0 where
  pub method : NamedMethod
  pub defined : defined_method p k ≡ Some method
  pub static : is_static method.flags ≡ true
  pub coded : is_some method.body ≡ true
  pub plain : is_initialiser_key k ≡ false
  pub kept : o.methods k ≡ true

abbrev pub finds_itself : MethodKey → Search → Bool
finds_itself k (Finds g) = method_eq g.key k
finds_itself k s = false

abbrev pub is_called_back : NamedProgram → Outer → Text → MethodKey → NamedMethod → Bool
is_called_back p o t k m =
    is_virtual_method m && not (o.shut k) && finds_itself k (finds_at p t k) && (is_outward p t || is_common k.name k.signature)

-- whether a class, or one above it, has a kept virtual method of a name and signature
abbrev pub keeps_virtual : Outer → MethodKey → NamedClass → Bool
keeps_virtual o k c = o.methods (record k { class = c.name }) && elim (method_in c k.name k.signature) [ Some m ↦ is_virtual_method m | None ↦ false ]

-- The framework that calls a kept virtual method runs what the receiver's class finds for it.
abbrev pub answers_kept : NamedProgram → Outer → Text → MethodKey → NamedMethod → Bool
answers_kept p o t k m =
    is_virtual_method m && finds_itself k (finds_at p t k) && list_any (λ c. is_own_under p t c.name && keeps_virtual o k c) p.classes

-- a method that it may enter on an object of a made class
pub record IsEnteredOn (p : NamedProgram) (o : Outer) (k : MethodKey) : Type 0 where
  pub method : NamedMethod
  pub receiver : Text
  pub defined : defined_method p k ≡ Some method
  pub held : is_static method.flags ≡ false
  pub coded : is_some method.body ≡ true
  pub made : IsMade p o unconditional receiver
  pub under : is_own_under p receiver k.class ≡ true
  pub opened : (o.methods k || answers_kept p o receiver k method || is_called_back p o receiver k method) ≡ true

-- a class that it may make: it is kept, or has a kept constructor
abbrev pub keeps_constructor : NamedProgram → Outer → Text → Bool
keeps_constructor p o t = elim (class_named p t) [ Some c ↦ list_any (λ m. is_constructor_name m.name && o.methods (key_in c m)) c.methods | None ↦ false ]

abbrev pub may_be_made : NamedProgram → Outer → Text → Bool
may_be_made p o t = (o.classes t || keeps_constructor p o t) && is_concrete p t

-- what a field holds before it is written: a static one its first value, that of an object zero or null
abbrev pub begun_with : FieldKey → NamedField → Value
begun_with k f = elim (is_static f.flags) [ true ↦ first_of k (place_of k.class f) | false ↦ zero_of k.kind ]

module _ {V : Type 0} (values : Values V) where
  -- ---- what a form leaves

  abbrev pub put : (ℕ → V) → ℕ → V → ℕ → V
  put a to v r = if nat_eq r to then v else a r

  -- the low register of a wide stands for it
  abbrev pub put_wide : (ℕ → V) → ℕ → V → ℕ → V
  put_wide a to v = put (put a to v) (to + 1) values.any

  abbrev pub put_sized : Bool → (ℕ → V) → ℕ → V → ℕ → V
  put_sized wide a to v = if wide then put_wide a to v else put a to v

  abbrev pub moved : Slot → (ℕ → V) → ℕ → ℕ → ℕ → V
  moved slot.Wide a to from = put (put a to (a from)) (to + 1) (a (from + 1))
  moved s a to from = put a to (a from)

  abbrev pub is_wide_slot : Slot → Bool
  is_wide_slot slot.Wide = true
  is_wide_slot s = false

  abbrev pub all_joined : List V → V
  all_joined [] = values.bottom
  all_joined (v ∷ vs) = values.joined v (all_joined vs)

  -- the join of the results of what a call may find
  abbrev pub call_result : NamedProgram → Facts V → Text → Option Form → V
  call_result p t class (Some (form.Invoke kind k args)) =
      if may_leave p class kind k then values.any else all_joined (map (λ g. t.results g.key) (may_find p class kind k))
  call_result p t class f = values.any

  abbrev pub field_value : NamedProgram → Facts V → FieldKey → V
  field_value p t k = elim (finds_field p k) [ Some f ↦ t.fields (own_key k f) | None ↦ values.any ]

  -- the registers after a form; `before` is the form in front of it
  abbrev pub after : NamedProgram → Facts V → Text → Option Form → Form → (ℕ → V) → ℕ → V
  after p t class before (form.Move slot to from) a = moved slot a to from
  after p t class before (form.MoveResult slot to) a = put_sized (is_wide_slot slot) a to (call_result p t class before)
  after p t class before (form.MoveException to) a = put a to values.any
  after p t class before (form.Const to value) a = put a to (values.word (cast_unsigned w32 value))
  after p t class before (form.ConstWide to value) a = put_wide a to (values.wide (cast_unsigned w64 value))
  after p t class before (form.ConstString to text) a = put a to values.any
  after p t class before (form.ConstClass to kind) a = put a to values.any
  after p t class before (form.InstanceOf to from kind) a = put a to values.any
  after p t class before (form.ArrayLength to from) a = put a to values.any
  after p t class before (form.NewInstance to kind) a = put a to values.any
  after p t class before (form.NewArray to size kind) a = put a to values.any
  after p t class before (form.Cmp op to x y) a = put a to (values.compared op (a x) (a y))
  after p t class before (form.ArrayGet item to array index) a = put_sized (is_wide_item item) a to values.any
  after p t class before (form.InstanceGet item to on field) a = put_sized (is_wide_item item) a to (field_value p t field)
  after p t class before (form.StaticGet item to field) a = put_sized (is_wide_item item) a to (field_value p t field)
  after p t class before (form.Unary op to from) a = put_sized (unary_writes_wide op) a to (values.unary op (a from))
  after p t class before (form.Binary op to x y) a = put_sized (binary_is_wide op) a to (values.binary op (a x) (a y))
  after p t class before (form.Literal op to x value) a = put a to (values.literal op (a x) value)
  after p t class before f a = a

  -- ---- where a form goes on

  abbrev pub branches : Option Bool → ℕ → ℕ → List ℕ
  branches (Some true) n target = target ∷ []
  branches (Some false) n target = (n + 1) ∷ []
  branches None n target = (n + 1) ∷ target ∷ []

  abbrev pub chosen : Option ℕ → ℕ → List ℕ
  chosen (Some target) n = target ∷ []
  chosen None n = (n + 1) ∷ []

  abbrev pub packed : Option ℕ → ℤ → List ℕ → ℕ → List ℕ
  packed (Some w) first targets n = chosen (packed_target w first targets) n
  packed None first targets n = (n + 1) ∷ targets

  abbrev pub sparse : Option ℕ → List ℤ → List ℕ → ℕ → List ℕ
  sparse (Some w) keys targets n = chosen (switch_target (signed false w) keys targets) n
  sparse None keys targets n = (n + 1) ∷ targets

  -- a division by what is surely 0 doesn't go on
  abbrev pub unless : Bool → ℕ → List ℕ
  unless stops n = if stops then [] else (n + 1) ∷ []

  abbrev pub nexts : Form → ℕ → (ℕ → V) → List ℕ
  nexts (form.If test x y target) n a = branches (values.outcome test (a x) (a y)) n target
  nexts (form.IfZero test x target) n a = branches (values.outcome test (a x) (values.word 0)) n target
  nexts (form.PackedSwitch on first targets) n a = packed (values.only (a on)) first targets n
  nexts (form.SparseSwitch on keys targets) n a = sparse (values.only (a on)) keys targets n
  nexts (form.Binary op to x y) n a = unless (divides op && values.is_zero (a y)) n
  nexts (form.Literal op to x value) n a = unless (divides_by_literal op && int_eq value (pos 0)) n
  nexts f n a = onward f n

  -- all edges that a reached position takes
  abbrev pub taken : NamedBody → Form → ℕ → (ℕ → V) → List ℕ
  taken b f n a = nexts f n a ++ caught b f n

  -- ---- closed tables

  abbrev pub Arrives : (ℕ → V) → Option (ℕ → V) → Type 0
  Arrives a None = ⊥
  Arrives a (Some b) = (r : ℕ) → values.below (a r) (b r)

  -- a position of a method that is reached, with its form and its registers
  pub record At (p : NamedProgram) (t : Facts V) (k : MethodKey) (n : ℕ) : Type 0 where
    pub body : NamedBody
    pub form : Form
    pub registers : ℕ → V
    pub has_body : bodies_of p k ≡ Some body
    pub has_form : form_at body n ≡ Some form
    pub reached : t.registers k n ≡ Some registers

  pub data IsNeeded (p : NamedProgram) (o : Outer) (t : Facts V) : Text → Type 0 where
    AtPosition : (k : MethodKey) (n : ℕ) (u : Text) (at : At p t k n) → Contains (needs p at.form) u → IsNeeded p o t u
    Makes : (u : Text) → may_be_made p o u ≡ true → IsNeeded p o t u
    Enters : (k : MethodKey) → IsEnteredStatic p o k → IsNeeded p o t k.class

  -- the entry of a method is reached, and with any arguments
  abbrev pub IsEntered : Facts V → MethodKey → Type 0
  IsEntered t k = is_some (t.registers k 0) ≡ true

  pub record IsOpen (t : Facts V) (k : MethodKey) : Type 0 where
    pub entered : IsEntered t k
    pub parameters : (i : ℕ) → values.below values.any (t.parameters k i)

  -- What the framework enters, and the initialisers of all classes that are initialised.
  pub record OpensEntries (p : NamedProgram) (o : Outer) (t : Facts V) : Type 0 where
    pub statics : (k : MethodKey) → IsEnteredStatic p o k → IsOpen t k
    pub methods : (k : MethodKey) → IsEnteredOn p o k → IsOpen t k
    pub initialisers : (u v : Text) (i : MethodKey) → IsNeeded p o t u → Initialises p u v → initialiser_of p v ≡ Some i → IsEntered t i

  -- At a reached entry the arguments are at or above the parameters, and all other registers are anything.
  pub record BeginsAt (t : Facts V) (k : MethodKey) (b : NamedBody) (a : ℕ → V) : Type 0 where
    pub arguments : (i : ℕ) → i < b.ins → values.below (t.parameters k i) (a (b.registers - b.ins + i))
    pub others : (r : ℕ) → r < b.registers - b.ins → values.below values.any (a r)

  abbrev pub Begins : NamedProgram → Facts V → Type 0
  Begins p t = (k : MethodKey) (b : NamedBody) (a : ℕ → V) → bodies_of p k ≡ Some b → t.registers k 0 ≡ Some a → BeginsAt t k b a

  -- a value that is known before a run
  abbrev pub first_fact : Value → V
  first_fact (Word n) = values.word n
  first_fact (Low n) = values.wide n
  first_fact v = values.any

  -- the form puts a register into a field
  pub data Puts (item : Item) (from : ℕ) (k : FieldKey) : Form → Type 0 where
    Instance : (on : ℕ) → Puts item from k (form.InstancePut item from on k)
    Static : Puts item from k (form.StaticPut item from k)

  -- a field that the framework may write, or that may hold a text or a class from the beginning
  abbrev pub is_open_field : Outer → FieldKey → NamedField → Bool
  is_open_field o k f = o.fields k || (is_reference k.kind && is_some f.first)

  pub record HoldsFields (p : NamedProgram) (o : Outer) (t : Facts V) : Type 0 where
    pub firsts : (k : FieldKey) (f : NamedField) → defined_field p k ≡ Some f → values.below (first_fact (begun_with k f)) (t.fields k)
    pub opened : (k : FieldKey) (f : NamedField) → defined_field p k ≡ Some f → is_open_field o k f ≡ true → values.below values.any (t.fields k)
    pub puts : (m : MethodKey) (n from : ℕ) (item : Item) (k : FieldKey) (f : Text × NamedField) (at : At p t m n) → Puts item from k at.form → finds_field p k ≡ Some f →
        values.below (values.stored item (at.registers from)) (t.fields (own_key k f))

  -- What a reached position leaves goes to each next position, and what was before it to each handler.
  pub record Flows (p : NamedProgram) (t : Facts V) : Type 0 where
    pub onward : (k : MethodKey) (n q : ℕ) (at : At p t k n) → Contains (nexts at.form n at.registers) q →
        Arrives (after p t k.class (form_before at.body n) at.form at.registers) (t.registers k q)
    pub thrown : (k : MethodKey) (n q : ℕ) (at : At p t k n) → Contains (caught at.body at.form n) q → Arrives at.registers (t.registers k q)

  -- Arguments flow into the parameters of every method that a call may find, and its entry is reached where it has code.
  pub record Calls (p : NamedProgram) (t : Facts V) : Type 0 where
    pub passes : (k m : MethodKey) (n i r : ℕ) (kind : InvokeKind) (args : List ℕ) (g : Found) (at : At p t k n) → at.form ≡ form.Invoke kind m args →
        Contains (may_find p k.class kind m) g → slice_get args i ≡ Some r → values.below (at.registers r) (t.parameters g.key i)
    pub enters : (k m : MethodKey) (n : ℕ) (kind : InvokeKind) (args : List ℕ) (g : Found) (at : At p t k n) → at.form ≡ form.Invoke kind m args →
        Contains (may_find p k.class kind m) g → g.coded ≡ true → IsEntered t g.key

  pub record Answers (p : NamedProgram) (t : Facts V) : Type 0 where
    pub returns : (k : MethodKey) (n from : ℕ) (s : Slot) (at : At p t k n) → at.form ≡ form.Return s from → values.below (at.registers from) (t.results k)
    pub natives : (k : MethodKey) (m : NamedMethod) → defined_method p k ≡ Some m → is_native m.flags ≡ true → values.below values.any (t.results k)

  pub record IsClosed (p : NamedProgram) (o : Outer) (t : Facts V) : Type 0 where
    pub entries : OpensEntries p o t
    pub begins : Begins p t
    pub fields : HoldsFields p o t
    pub flows : Flows p t
    pub calls : Calls p t
    pub answers : Answers p t
