-- That the kinds of a typing hold of the states of a run, as an invariant.
use Rattle.std.specs.Prelude.{◌≡◌, ℕ, Bool, true, false, ◌&&◌, ◌⊎◌, if◌then◌else◌, nat_eq, List, [], ◌∷◌, Option, Some, None, is_some, slice_get, Contains}
use Rattle.insn_set.specs.declared.ops.InvokeKind.{InvokeKind}
use Rattle.dalvik_defs.specs.Names.{Text, is_void, is_wide, is_reference, is_array, is_class_type}
use Rattle.dalvik_defs.specs.Silence.{key_in}
use Rattle.dalvik_defs.specs.Face.{face_of, bodies_of}
use Rattle.dalvik_defs.specs.Outer.{Outer}
use Rattle.dalvik_defs.specs.Shown.{fit_move}
use Rattle.dalvik_defs.specs.State.{World, Thing, Instance, Items, kind_of, word_of}
use Rattle.dalvik_defs.specs.declared.state.Value.{Value}
use Rattle.dalvik_defs.specs.declared.state.Value.TheVariants.{Word, Low, High, Object, Literal, Class}
use Rattle.dalvik_defs.specs.declared.state.Frame.{Frame}
use Rattle.dalvik_defs.specs.declared.names.MethodKey.{MethodKey}
use Rattle.dalvik_defs.specs.declared.names.FieldKey.{FieldKey}
use Rattle.dalvik_defs.specs.declared.forms.Form.{Form}
use Rattle.dalvik_defs.specs.declared.forms.Form.TheVariants as form
use Rattle.dalvik_defs.specs.declared.program.NamedBody.{NamedBody}
use Rattle.dalvik_defs.specs.declared.program.NamedClass.{NamedClass}
use Rattle.dalvik_defs.specs.declared.program.NamedMethod.{NamedMethod}
use Rattle.dalvik_defs.specs.declared.program.NamedProgram.{NamedProgram}
use Rattle.dalvik_defs.specs.declared.tables.Framework.{Framework}
use Rattle.pass_defs.specs.Bare.{may_throw}
use Rattle.pass_defs.specs.Walks.{form_at}
use Rattle.pass_defs.specs.Kinds.{Kind}
use Rattle.pass_defs.specs.Kinds as kind
use Rattle.pass_defs.specs.Registers.{Kinds}
use Rattle.pass_defs.specs.Typed.{Table, state_at, IsTyping}
use Rattle.run_laws.specs.Fine.{IsThere}
use Rattle.run_laws.specs.Holds.{Each}
use Rattle.run_laws.specs.Invariant.{Above, Callee, Begun, Owing, Invariant, Grows}

-- a reference that isn't null, to what there is
abbrev pub IsObject : World → Value → Type 0
IsObject w (Object n) = is_some (slice_get w.heap n) ≡ true
IsObject w (Literal t) = Unit {0}
IsObject w (Class t) = Unit {0}
IsObject w v = ⊥

-- how items of an array are held: a type of no value counts as a word
abbrev pub item_kind : NamedProgram → Text → Kind
item_kind p t = if is_wide t then kind.Low else if is_reference t then kind.kind_of_reference p t else kind.Word

-- whether the first of some kinds is the high half of a wide
abbrev pub begins_high : List Kind → Bool
begins_high [] = false
begins_high (k ∷ ks) = kind.kind_eq k kind.High

abbrev pub first_number : List Value → ℕ
first_number [] = 0
first_number (v ∷ vs) = word_of v

-- where a low half of a wide stands in front of a high one, they are halves of one number
abbrev pub AreHalves : Kind → Value → List Kind → List Value → Type 0
AreHalves k v ks vs = (kind.kind_eq k kind.Low && begins_high ks) ≡ true → word_of v ≡ first_number vs

module _ (p : NamedProgram) (f : Framework) where
  abbrev pub under : Text → Text → Bool
  under = (face_of p f).under

  -- null, or an object that is under a type
  abbrev pub IsUnder : World → Value → Text → Type 0
  IsUnder w v t = (v ≡ Word 0) ⊎ (IsObject w v × (under (kind_of w v) t ≡ true))

  abbrev pub Cond : Bool → Type 0 → Type 0 → Type 0
  Cond true a b = a
  Cond false a b = b

  -- An array type is of the kind of another: their items are equal, or are references of which the same holds; where the
  -- other items are of a plain class, these are under it. An array of any references is of the kind of one of interfaces.
  abbrev pub ArrayFits : Text → Text → Type 0
  ArrayFits (x ∷ z) (y ∷ t) = (nat_eq x 91 ≡ true) × ((nat_eq y 91 ≡ true) × ((z ≡ t) ⊎ ((is_reference z ≡ true) × ((is_reference t ≡ true) × Cond (is_array t) (ArrayFits z t) (kind.is_plain p t ≡ true → under z t ≡ true)))))
  ArrayFits z t = ⊥

  abbrev pub RefFits : Text → Text → Type 0
  RefFits z t = Cond (is_array t) (ArrayFits z t) (kind.is_plain p t ≡ true → under z t ≡ true)

  -- null, or an array of the kind of an array type
  abbrev pub IsArrayOf : World → Value → Text → Type 0
  IsArrayOf w v t = (v ≡ Word 0) ⊎ (IsObject w v × ArrayFits (kind_of w v) t)

  -- what a kind holds of, in a method of a class
  abbrev pub KindHolds : Text → World → Kind → Value → Type 0
  KindHolds c w kind.Undefined v = IsThere w v
  KindHolds c w kind.Zero v = v ≡ Word 0
  KindHolds c w kind.Word v = (n : ℕ) × (v ≡ Word n)
  KindHolds c w kind.Low v = (n : ℕ) × (v ≡ Low n)
  KindHolds c w kind.High v = (n : ℕ) × (v ≡ High n)
  KindHolds c w kind.Null v = v ≡ Word 0
  KindHolds c w (kind.Class t) v = IsUnder w v t
  KindHolds c w (kind.Array t) v = IsArrayOf w v t
  KindHolds c w kind.Reference v = (v ≡ Word 0) ⊎ IsObject w v
  KindHolds c w (kind.Fresh t n) v = IsObject w v × ((kind_of w v ≡ t) × (is_class_type t ≡ true))
  KindHolds c w kind.FreshThis v = IsObject w v × (under (kind_of w v) c ≡ true)

  -- a value of a type, where one place holds a whole wide, in a method of any class
  abbrev pub ValueOf : World → Text → Value → Type 0
  ValueOf w t v = (c : Text) → KindHolds c w (kind.kind_of p t) v

  abbrev pub ItemOf : World → Text → Value → Type 0
  ItemOf w t v = (c : Text) → KindHolds c w (item_kind p t) v

  abbrev pub MaybeOf : World → Text → Option Value → Type 0
  MaybeOf w t None = is_void t ≡ true
  MaybeOf w t (Some v) = ValueOf w t v

  -- kinds hold of values, one by one, and the two halves of a wide are of one number
  abbrev pub AllHold : Text → World → List Kind → List Value → Type 0
  AllHold c w [] [] = Unit {0}
  AllHold c w (k ∷ ks) (v ∷ vs) = KindHolds c w k v × AllHold c w ks vs × AreHalves k v ks vs
  AllHold c w ks vs = ⊥

  -- The caught object is there. Only a form that wants an initialised reference reads it, so its kind is asked for where it
  -- is one of those: then something was caught, which isn't null.
  pub record CaughtHolds (c : Text) (w : World) (k : Kind) (v : Value) : Type 0 where
    pub there : IsThere w v
    pub object : kind.is_initialised k ≡ true → IsObject w v
    pub held : kind.is_initialised k ≡ true → KindHolds c w k v

  -- the kinds of a position hold of a frame
  pub record StateHolds (c : Text) (w : World) (a : Kinds) (g : Frame) : Type 0 where
    pub registers : AllHold c w a.registers g.registers
    pub result : KindHolds c w a.result g.result
    pub caught : CaughtHolds c w a.caught g.caught

  -- the frame's method has a body with a typing
  pub record TypedMethod (k : MethodKey) : Type 0 where
    pub class : NamedClass
    pub method : NamedMethod
    pub body : NamedBody
    pub class_in : Contains p.classes class
    pub method_in : Contains class.methods method
    pub is_key : k ≡ key_in class method
    pub has_body : bodies_of p k ≡ Some body
    pub table : Table
    pub typing : IsTyping p class method body table

  -- the frame's position has a state in a typing of its body, whose kinds hold
  pub record TypedFrame (w : World) (g : Frame) : Type 0 where
    pub key : MethodKey
    pub of : g.method ≡ key
    pub in_method : TypedMethod key
    pub kinds : Kinds
    pub state : state_at in_method.table g.position ≡ Some kinds
    pub holds : StateHolds in_method.class.name w kinds g

  -- what a form waits for
  abbrev pub Asked : Form → Text → Type 0
  Asked (form.Invoke kind m args) t = m.signature.result ≡ t
  Asked (form.InstanceGet item to on field) t = field.kind ≡ t
  Asked (form.StaticGet item to field) t = field.kind ≡ t
  Asked x t = ⊥

  abbrev pub AskedOf : Form → Above → Type 0
  AskedOf x (Callee k) = (kind : InvokeKind) × ((m : MethodKey) × ((args : List ℕ) × ((x ≡ form.Invoke kind m args) × (m.signature ≡ k.signature))))
  AskedOf x (Begun t) = Unit {0}
  AskedOf x (Owing t) = Asked x t

  pub record TypedWaiting (w : World) (a : Above) (g : Frame) : Type 0 where
    pub frame : TypedFrame w g
    pub form : Form
    pub has_form : form_at frame.in_method.body g.position ≡ Some form
    pub asks : AskedOf form a
    pub throws : may_throw form ≡ true

  -- an object is of a class, its fields and the items of an array are of their types
  abbrev pub TypedThing : World → Thing → Type 0
  TypedThing w (Instance c fields) = (is_class_type c ≡ true) × ((k : FieldKey) (v : Value) → fields k ≡ Some v → ValueOf w k.kind v)
  TypedThing w (Items t vs) = Each (ItemOf w t) vs

  pub record TypedWorld (w : World) : Type 0 where
    pub statics : (k : FieldKey) (v : Value) → w.statics k ≡ Some v → ValueOf w k.kind v
    pub things : Each (TypedThing w) w.heap
    pub exposed : Each (λ e. IsObject w (Object e.number)) w.exposed

  abbrev pub typed_states : Outer → Invariant
  typed_states o = record {
    outside = λ w c. TypedWorld w;
    top = λ w c g. TypedFrame w g;
    waits = TypedWaiting;
    result = λ w k v. MaybeOf w k.signature.result v;
    thrown = IsObject;
    class = λ t. Unit {0};
    move = λ x. fit_move p o x ≡ true;
    later = Grows;
    ended = ⊥;
  }
