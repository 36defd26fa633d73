-- When a table of facts is closed, for any analysis: what a reached position leaves arrives wherever it goes on, what a call
-- passes and gives arrives at each method that it may call by the facts, and fields hold what is put into them.
use Rattle.std.specs.Prelude.{◌≡◌, ℕ, suc, ◌+◌, ◌-◌, ◌<◌, ◌%◌, ◌^◌, ℤ, Bool, true, false, ◌⊎◌, if◌then◌else◌, nat_eq, List, [], ◌∷◌, ◌++◌, Option, Some, None, is_some, slice_get, Contains}
use Rattle.std.specs.Int.{w32, w64, cast_unsigned}
use Rattle.std.specs.Option.{option_map}
use Rattle.insn_set.specs.declared.ops.Slot.{Slot}
use Rattle.insn_set.specs.declared.ops.Slot.TheVariants as slot
use Rattle.insn_set.specs.declared.ops.Item.{Item}
use Rattle.insn_set.specs.declared.ops.InvokeKind.{InvokeKind}
use Rattle.insn_set.specs.declared.ops.InvokeKind.TheVariants as call
use Rattle.insn_set.specs.Widths.{is_wide_item, unary_writes_wide, binary_is_wide}
use Rattle.dalvik_defs.specs.Names.{Text}
use Rattle.dalvik_defs.specs.Under.{defines}
use Rattle.dalvik_defs.specs.Find.{Found, Search, Nothing, Clash, Finds, interface_named, finds_at, finds_super, finds_field, finds_statically, defined_field}
use Rattle.dalvik_defs.specs.Initialised.{initialiser_of}
use Rattle.dalvik_defs.specs.Face.{bodies_of}
use Rattle.dalvik_defs.specs.Outer.{Outer}
use Rattle.dalvik_defs.specs.Arith.{signed}
use Rattle.dalvik_defs.specs.State.{is_null}
use Rattle.dalvik_defs.specs.declared.state.Value.{Value}
use Rattle.dalvik_defs.specs.declared.state.Value.TheVariants.{Word, Low, Literal, Class}
use Rattle.dalvik_defs.specs.declared.names.MethodKey.{MethodKey}
use Rattle.dalvik_defs.specs.declared.names.FieldKey.{FieldKey}
use Rattle.dalvik_defs.specs.declared.forms.Form.{Form}
use Rattle.dalvik_defs.specs.declared.forms.Form.TheVariants as form
use Rattle.dalvik_defs.specs.declared.program.NamedBody.{NamedBody}
use Rattle.dalvik_defs.specs.declared.program.NamedField.{NamedField}
use Rattle.dalvik_defs.specs.declared.program.NamedProgram.{NamedProgram}
use Rattle.pass_defs.specs.Walks.{form_at, caught}
use Rattle.pass_defs.specs.Calls.{is_within}
use Rattle.pass_defs.specs.Live.{IsMade, unconditional}
use Rattle.pass_defs.specs.Facts.{Facts, own_key, Initialises, needs, IsEnteredStatic, IsEnteredOn, may_be_made, begun_with}
use Rattle.pass_defs.specs.Typed.{receiver_register}
use Rattle.pass_defs.specs.Analysis.{Analysis}

-- the key of the nth target of a packed switch, as a signed word
abbrev pub packed_key : ℤ → ℕ → ℤ
packed_key first n = signed false ((cast_unsigned w32 first + n) % 2 ^ 32)

abbrev pub packed_keys : ℤ → ℕ → List ℕ → List ℤ
packed_keys first n [] = []
packed_keys first n (t ∷ ts) = packed_key first n ∷ packed_keys first (suc n) ts

-- the form puts a register into a field
pub data Puts (item : Item) (from : ℕ) (k : FieldKey) : Form → Type 0 where
  Instance : (on : ℕ) → Puts item from k (form.InstancePut item from on k)
  Static : Puts item from k (form.StaticPut item from k)

-- a call that finds by its name alone
abbrev pub IsBound : InvokeKind → Type 0
IsBound call.Virtual = ⊥
IsBound call.Interface = ⊥
IsBound kind = Unit {0}

module _ {V : Type 0} (a : Analysis V) where
  abbrev pub Registers : Type 0
  Registers = ℕ → V

  abbrev pub put : ℕ → V → Registers → Registers
  put to v x r = if nat_eq r to then v else x r

  -- the low register of a wide stands for it
  abbrev pub put_wide : ℕ → V → Registers → Registers
  put_wide to v x = put (to + 1) a.any (put to v x)

  abbrev pub put_sized : Bool → ℕ → V → Registers → Registers
  put_sized wide to v x = if wide then put_wide to v x else put to v x

  abbrev pub is_wide_slot : Slot → Bool
  is_wide_slot slot.Wide = true
  is_wide_slot s = false

  abbrev pub moved : Slot → ℕ → ℕ → Registers → Registers
  moved slot.Wide to from x = put (to + 1) (x (from + 1)) (put to (x from) x)
  moved s to from x = put to (x from) x

  -- a register with what an operation answers for it, where it answers
  abbrev pub refined : ℕ → Option V → Registers → Option Registers
  refined r o x = option_map (λ v. put r v x) o

  abbrev pub refined_both : ℕ → ℕ → Option (V × V) → Registers → Option Registers
  refined_both r s o x = option_map (λ v. put s v.1 (put r v.0 x)) o

  -- and then a register that is written
  abbrev pub then_put : Bool → ℕ → V → Option Registers → Option Registers
  then_put wide to v o = option_map (put_sized wide to v) o

  abbrev pub field_value : NamedProgram → Facts V → FieldKey → V
  field_value p t k = elim (finds_field p k) [ Some f ↦ t.fields (own_key k f) | None ↦ a.outer k.kind ]

  -- a call that has come back was made on an object
  abbrev pub called : InvokeKind → List ℕ → Registers → Option Registers
  called call.Static args x = Some x
  called kind args x = refined (receiver_register args) (a.held (x (receiver_register args))) x

  -- The registers behind a form that goes on at the next position; what a MoveResult takes is said by `Results`, and
  -- branches by `arms`.
  abbrev pub after : NamedProgram → Facts V → Form → Registers → Option Registers
  after p t (form.Move slot to from) x = Some (moved slot to from x)
  after p t (form.MoveResult slot to) x = None
  after p t (form.MoveException to) x = Some (put to a.caught x)
  after p t form.ReturnVoid x = None
  after p t (form.Return slot from) x = None
  after p t (form.Const to value) x = Some (put to (a.known (Word (cast_unsigned w32 value))) x)
  after p t (form.ConstWide to value) x = Some (put_wide to (a.known (Low (cast_unsigned w64 value))) x)
  after p t (form.ConstString to text) x = Some (put to (a.known (Literal text)) x)
  after p t (form.ConstClass to kind) x = Some (put to (a.known (Class kind)) x)
  after p t (form.MonitorEnter on) x = refined on (a.held (x on)) x
  after p t (form.MonitorExit on) x = refined on (a.held (x on)) x
  after p t (form.CheckCast on kind) x = refined on (a.cast kind (x on)) x
  after p t (form.InstanceOf to from kind) x = Some (put to a.truth x)
  after p t (form.ArrayLength to from) x = then_put false to a.length (refined from (a.held (x from)) x)
  after p t (form.NewInstance to kind) x = Some (put to (a.made kind) x)
  after p t (form.NewArray to size kind) x = Some (put to (a.made kind) x)
  after p t (form.FillArray on width items) x = refined on (a.held (x on)) x
  after p t (form.Throw on) x = None
  after p t (form.Goto target) x = None
  after p t (form.PackedSwitch on first targets) x = None
  after p t (form.SparseSwitch on keys targets) x = None
  after p t (form.Cmp op to r s) x = Some (put to (a.compared op (x r) (x s)) x)
  after p t (form.If test r s target) x = None
  after p t (form.IfZero test r target) x = None
  after p t (form.ArrayGet item to array index) x = then_put (is_wide_item item) to (a.item item) (refined array (a.held (x array)) x)
  after p t (form.ArrayPut item from array index) x = refined array (a.held (x array)) x
  after p t (form.InstanceGet item to on field) x = then_put (is_wide_item item) to (field_value p t field) (refined on (a.held (x on)) x)
  after p t (form.InstancePut item from on field) x = refined on (a.held (x on)) x
  after p t (form.StaticGet item to field) x = Some (put_sized (is_wide_item item) to (field_value p t field) x)
  after p t (form.Invoke kind method args) x = called kind args x
  after p t (form.Unary op to from) x = Some (put_sized (unary_writes_wide op) to (a.unary op (x from)) x)
  after p t (form.Binary op to r s) x = option_map (λ v. put_sized (binary_is_wide op) to v x) (a.binary op (x r) (x s))
  after p t (form.Literal op to r value) x = option_map (λ v. put to v x) (a.literal op (x r) value)
  after p t f x = Some x

  -- ---- branches

  abbrev pub arm : ℕ → Option Registers → List (ℕ × Registers)
  arm q None = []
  arm q (Some x) = (q, x) ∷ []

  abbrev pub cases : ℕ → List ℤ → List ℕ → Registers → List (ℕ × Registers)
  cases on [] ts x = []
  cases on (k ∷ ks) [] x = []
  cases on (k ∷ ks) (t ∷ ts) x = arm t (refined on (a.keyed k (x on)) x) ++ cases on ks ts x

  -- the keys that have targets
  abbrev pub keys_of : List ℤ → List ℕ → List ℤ
  keys_of [] ts = []
  keys_of (k ∷ ks) [] = []
  keys_of (k ∷ ks) (t ∷ ts) = k ∷ keys_of ks ts

  abbrev pub switched : ℕ → List ℤ → List ℕ → ℕ → Registers → List (ℕ × Registers)
  switched on keys targets n x = arm (n + 1) (refined on (a.unkeyed (keys_of keys targets) (x on)) x) ++ cases on keys targets x

  -- where a form goes on, and with what
  abbrev pub edges : NamedProgram → Facts V → ℕ → Form → Registers → List (ℕ × Registers)
  edges p t n (form.Goto target) x = (target, x) ∷ []
  edges p t n (form.PackedSwitch on first targets) x = switched on (packed_keys first 0 targets) targets n x
  edges p t n (form.SparseSwitch on keys targets) x = switched on keys targets n x
  edges p t n (form.If test r s target) x = arm (n + 1) (refined_both r s (a.tested false test (x r) (x s)) x) ++ arm target (refined_both r s (a.tested true test (x r) (x s)) x)
  edges p t n (form.IfZero test r target) x =
      arm (n + 1) (refined r (option_map (λ v. v.0) (a.tested false test (x r) (a.known (Word 0)))) x) ++ arm target (refined r (option_map (λ v. v.0) (a.tested true test (x r) (a.known (Word 0)))) x)
  edges p t n f x = arm (n + 1) (after p t f x)

  -- ---- tables

  abbrev pub Arrives : Registers → Option Registers → Type 0
  Arrives x None = ⊥
  Arrives x (Some y) = (r : ℕ) → a.below (x r) (y r)

  -- a position of a method that is reached, with its form and its registers
  pub record At (p : NamedProgram) (t : Facts V) (k : MethodKey) (n : ℕ) : Type 0 where
    pub body : NamedBody
    pub form : Form
    pub registers : Registers
    pub has_body : bodies_of p k ≡ Some body
    pub has_form : form_at body n ≡ Some form
    pub reached : t.registers k n ≡ Some registers

  -- the value may be an object of a type
  pub record MayBe (v : V) (t : Text) : Type 0 where
    pub object : Value
    pub there : is_null object ≡ false
    pub held : a.holds v t object

  -- A call in a method of a class may enter a method, on registers: the one that it finds by its name, or what an object of
  -- a made class finds that its receiver may be.
  pub data MayCall (p : NamedProgram) (o : Outer) (class : Text) (x : Registers) (args : List ℕ) : InvokeKind → MethodKey → Found → Type 0 where
    Statically : (k : MethodKey) (g : Found) → finds_statically p k ≡ Finds g → MayCall p o class x args call.Static k g
    Directly : (k : MethodKey) (g : Found) → finds_statically p k ≡ Finds g → MayCall p o class x args call.Direct k g
    Above : (k : MethodKey) (g : Found) → finds_super p class k ≡ Finds g → MayCall p o class x args call.Super k g
    Virtually : (k : MethodKey) (g : Found) (t : Text) → MayBe (x (receiver_register args)) t → IsMade p o unconditional t → is_within p t k.class ≡ true → finds_at p t k ≡ Finds g → MayCall p o class x args call.Virtual k g
    ByInterface : (k : MethodKey) (g : Found) (t : Text) → MayBe (x (receiver_register args)) t → IsMade p o unconditional t → is_within p t k.class ≡ true → finds_at p t k ≡ Finds g → MayCall p o class x args call.Interface k g

  -- nothing is found, or a method without code; where two methods clash the call throws, and stays
  abbrev pub FindsNoCode : Search → Type 0
  FindsNoCode Nothing = Unit {0}
  FindsNoCode Clash = ⊥
  FindsNoCode (Finds g) = g.coded ≡ false

  -- the receiver may be an object of a made class under the one that is named, which finds no code
  pub record MayFindNoCode (p : NamedProgram) (o : Outer) (v : V) (k : MethodKey) : Type 0 where
    pub class : Text
    pub may_be : MayBe v class
    pub made : IsMade p o unconditional class
    pub within : is_within p class k.class ≡ true
    pub bare : FindsNoCode (finds_at p class k)

  -- It may leave the program: by what it finds; on an object, where what it names is the framework's or an interface, which a
  -- receiver needn't have, or where its receiver may find no code.
  abbrev pub MayLeave : NamedProgram → Outer → Text → Registers → List ℕ → InvokeKind → MethodKey → Type 0
  MayLeave p o class x args call.Static k = FindsNoCode (finds_statically p k)
  MayLeave p o class x args call.Direct k = FindsNoCode (finds_statically p k)
  MayLeave p o class x args call.Super k = FindsNoCode (finds_super p class k)
  MayLeave p o class x args call.Virtual k = (defines p k.class ≡ false) ⊎ (is_some (interface_named p k.class) ≡ true) ⊎ MayFindNoCode p o (x (receiver_register args)) k
  MayLeave p o class x args call.Interface k = Unit {0}

  -- what the place of the last result may hold behind a form that was reached
  pub data Results (p : NamedProgram) (o : Outer) (t : Facts V) (k : MethodKey) (x : Registers) : Form → V → Type 0 where
    Given : (kind : InvokeKind) (m : MethodKey) (args : List ℕ) (g : Found) → MayCall p o k.class x args kind m g → Results p o t k x (form.Invoke kind m args) (t.results g.key)
    Left : (kind : InvokeKind) (m : MethodKey) (args : List ℕ) → MayLeave p o k.class x args kind m → Results p o t k x (form.Invoke kind m args) (a.outer m.signature.result)
    Filled : (kind : Text) (args : List ℕ) → Results p o t k x (form.FilledNewArray kind args) (a.made kind)

  -- ---- closed

  pub data IsNeeded (p : NamedProgram) (o : Outer) (t : Facts V) : Text → Type 0 where
    AtPosition : (k : MethodKey) (n : ℕ) (u : Text) (at : At p t k n) → Contains (needs p at.form) u → IsNeeded p o t u
    Makes : (u : Text) → may_be_made p o u ≡ true → IsNeeded p o t u
    Enters : (k : MethodKey) → IsEnteredStatic p o k → IsNeeded p o t k.class

  abbrev pub IsEntered : Facts V → MethodKey → Type 0
  IsEntered t k = is_some (t.registers k 0) ≡ true

  pub record IsOpen (t : Facts V) (k : MethodKey) : Type 0 where
    pub entered : IsEntered t k
    pub parameters : (i : ℕ) → a.below a.any (t.parameters k i)

  pub record OpensEntries (p : NamedProgram) (o : Outer) (t : Facts V) : Type 0 where
    pub statics : (k : MethodKey) → IsEnteredStatic p o k → IsOpen t k
    pub methods : (k : MethodKey) → IsEnteredOn p o k → IsOpen t k
    pub initialisers : (u v : Text) (i : MethodKey) → IsNeeded p o t u → Initialises p u v → initialiser_of p v ≡ Some i → IsEntered t i

  pub record BeginsAt (t : Facts V) (k : MethodKey) (b : NamedBody) (x : Registers) : Type 0 where
    pub arguments : (i : ℕ) → i < b.ins → a.below (t.parameters k i) (x (b.registers - b.ins + i))
    pub others : (r : ℕ) → r < b.registers - b.ins → a.below a.any (x r)

  pub record HoldsFields (p : NamedProgram) (o : Outer) (t : Facts V) : Type 0 where
    pub firsts : (k : FieldKey) (f : NamedField) → defined_field p k ≡ Some f → a.below (a.known (begun_with k f)) (t.fields k)
    pub opened : (k : FieldKey) (f : NamedField) → defined_field p k ≡ Some f → o.fields k ≡ true → a.below a.any (t.fields k)
    pub puts : (m : MethodKey) (n from : ℕ) (item : Item) (k : FieldKey) (f : Text × NamedField) (at : At p t m n) → Puts item from k at.form → finds_field p k ≡ Some f
        → a.below (a.stored item (at.registers from)) (t.fields (own_key k f))

  pub record Flows (p : NamedProgram) (o : Outer) (t : Facts V) : Type 0 where
    pub onward : (k : MethodKey) (n : ℕ) (q : ℕ × Registers) (at : At p t k n) → Contains (edges p t n at.form at.registers) q → Arrives q.1 (t.registers k q.0)
    pub taken : (k : MethodKey) (n to : ℕ) (s : Slot) (v : V) (at : At p t k n) (taker : At p t k (n + 1)) → taker.form ≡ form.MoveResult s to → Results p o t k at.registers at.form v
        → Arrives (put_sized (is_wide_slot s) to v taker.registers) (t.registers k (n + 2))
    pub thrown : (k : MethodKey) (n q : ℕ) (at : At p t k n) → Contains (caught at.body at.form n) q → Arrives at.registers (t.registers k q)

  pub record Calls (p : NamedProgram) (o : Outer) (t : Facts V) : Type 0 where
    -- each argument but a receiver by which the method is found, which only holds of the objects that find it
    pub passes : (k m : MethodKey) (n i r : ℕ) (kind : InvokeKind) (args : List ℕ) (g : Found) (at : At p t k n) → at.form ≡ form.Invoke kind m args
        → MayCall p o k.class at.registers args kind m g → slice_get args i ≡ Some r → (i ≡ 0 → IsBound kind) → a.below (at.registers r) (t.parameters g.key i)
    pub receives : (k m : MethodKey) (n : ℕ) (kind : InvokeKind) (args : List ℕ) (g : Found) (u : Text) (v : Value) (at : At p t k n) → at.form ≡ form.Invoke kind m args
        → (IsBound kind → ⊥) → a.holds (at.registers (receiver_register args)) u v → is_null v ≡ false → finds_at p u m ≡ Finds g → MayCall p o k.class at.registers args kind m g → a.holds (t.parameters g.key 0) u v
    pub enters : (k m : MethodKey) (n : ℕ) (kind : InvokeKind) (args : List ℕ) (g : Found) (at : At p t k n) → at.form ≡ form.Invoke kind m args
        → MayCall p o k.class at.registers args kind m g → g.coded ≡ true → IsEntered t g.key

  pub record IsClosed (p : NamedProgram) (o : Outer) (t : Facts V) : Type 0 where
    pub entries : OpensEntries p o t
    pub begins : (k : MethodKey) (b : NamedBody) (x : Registers) → bodies_of p k ≡ Some b → t.registers k 0 ≡ Some x → BeginsAt t k b x
    pub fields : HoldsFields p o t
    pub flows : Flows p o t
    pub calls : Calls p o t
    pub returns : (k : MethodKey) (n from : ℕ) (s : Slot) (at : At p t k n) → at.form ≡ form.Return s from → a.below (at.registers from) (t.results k)
