-- The state of the machine (Dalvik bytecode, "General Design"; this project's profile).
use Rattle.std.specs.Prelude.{ℕ, ◌+◌, Bool, true, false, List, [], ◌∷◌, ◌++◌, length, Option, Some, None, nat_eq, slice_get, slice_set}
use Rattle.dalvik_defs.specs.Names.{Text, text_eq, field_eq, is_wide, array_of, string_type, class_type}
use Rattle.dalvik_defs.specs.declared.names.FieldKey.{FieldKey}
use Rattle.dalvik_defs.specs.declared.script.Move.{Move}
use Rattle.dalvik_defs.specs.declared.events.Event.{Event}
pub use Rattle.dalvik_defs.specs.declared.state.Value.{Value}
pub use Rattle.dalvik_defs.specs.declared.state.Value.TheVariants.{Word, Low, High, Object, Literal, Class}
pub use Rattle.dalvik_defs.specs.declared.state.Frame.{Frame}
pub use Rattle.dalvik_defs.specs.declared.state.Waiting.{Waiting}
pub use Rattle.dalvik_defs.specs.declared.state.Waiting.TheVariants.{Method, Initialiser, Ending, Outside}

-- an object with the fields that were written, or an array with its items
pub data Thing : Type 0 where
  Instance : (class : Text) (fields : FieldKey → Option Value) → Thing
  Items : (kind : Text) (items : List Value) → Thing

-- an object that was exposed, and whether it has been printed
pub record Exposed : Type 0 where
  pub number : ℕ
  pub printed : Bool

-- Things by their numbers, how often each object, text and class is locked, the static fields that were written, and
-- what was exposed.
pub record World : Type 0 where
  pub heap : List Thing
  pub locks : Value → ℕ
  pub statics : FieldKey → Option Value
  pub exposed : List Exposed

pub data Status : Type 0 where
  New : Status
  Running : Status
  Done : Status
  Failed : Status

abbrev pub Classes : Type 0
Classes = Text → Status

-- the stack has its top first
pub data State : Type 0 where
  On : (world : World) (classes : Classes) (stack : List Waiting) (script : List Move) → State
  Ended : State

-- a step's end, and what it shows
abbrev pub Next : Type 0
Next = State × Option Event

abbrev pub quiet : State → Next
quiet s = (s, None)

-- no objects, zero or first values in the fields, all classes new, and one framework frame
abbrev pub opening_world : World
opening_world = record { heap = []; locks = λ v. 0; statics = λ k. None; exposed = [] }

abbrev pub opening : List Move → State
opening script = On opening_world (λ t. New) (Outside None None ∷ []) script

-- ---- values

abbrev pub word_of : Value → ℕ
word_of (Word n) = n
word_of (Low n) = n
word_of (High n) = n
word_of (Object n) = 0
word_of (Literal t) = 0
word_of (Class t) = 0

abbrev pub is_null : Value → Bool
is_null (Word n) = nat_eq n 0
is_null v = false

abbrev pub same_value : Value → Value → Bool
same_value (Word m) (Word n) = nat_eq m n
same_value (Low m) (Low n) = nat_eq m n
same_value (High m) (High n) = nat_eq m n
same_value (Object m) (Object n) = nat_eq m n
same_value (Literal s) (Literal t) = text_eq s t
same_value (Class s) (Class t) = text_eq s t
same_value a b = false

-- what a field or an item of a type is before it is written
abbrev pub zero_of : Text → Value
zero_of t = elim (is_wide t) [ true ↦ Low 0 | false ↦ Word 0 ]

-- ---- the heap

abbrev pub thing_at : World → Value → Option Thing
thing_at w (Object n) = slice_get w.heap n
thing_at w v = None

abbrev pub put_thing : World → Value → Thing → World
put_thing w (Object n) t = record w { heap = slice_set w.heap n t }
put_thing w v t = w

-- the number of the next object, and the world with it
abbrev pub next_object : World → Value
next_object w = Object (length w.heap)

abbrev pub with_thing : World → Thing → World
with_thing w t = record w { heap = w.heap ++ t ∷ [] }

abbrev pub fresh : Text → Thing
fresh class = Instance class (λ k. None)

abbrev pub kind_of_thing : Thing → Text
kind_of_thing (Instance c fields) = c
kind_of_thing (Items k items) = array_of k

-- the class of an object, a text or a class
abbrev pub kind_of : World → Value → Text
kind_of w (Object n) = elim (slice_get w.heap n) [ Some t ↦ kind_of_thing t | None ↦ [] ]
kind_of w (Literal t) = string_type
kind_of w (Class t) = class_type
kind_of w v = []

-- ---- tables of values

abbrev pub put_field : FieldKey → Value → (FieldKey → Option Value) → FieldKey → Option Value
put_field k v fields x = elim (field_eq x k) [ true ↦ Some v | false ↦ fields x ]

abbrev pub put_status : Text → Status → Classes → Classes
put_status t s classes u = elim (text_eq u t) [ true ↦ s | false ↦ classes u ]

abbrev pub put_lock : Value → ℕ → (Value → ℕ) → Value → ℕ
put_lock v n locks x = elim (same_value x v) [ true ↦ n | false ↦ locks x ]
