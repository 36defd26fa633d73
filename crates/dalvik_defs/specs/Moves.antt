-- What the framework's moves do. A move that isn't legal, or the want of one, ends the run. A move that needs a class
-- waits with the framework's frame that makes it until the class is initialised, and is made again then. Meanwhile the
-- moves behind it answer what the initialiser asks (this project's profile).
use Rattle.std.specs.Prelude.{ℕ, true, false, ◌&&◌, List, [], ◌∷◌, length, Option, Some, None, slice_get, slice_set, nat_lt}
use Rattle.dalvik_defs.specs.Names.{Text}
use Rattle.dalvik_defs.specs.Flags.{is_static}
use Rattle.dalvik_defs.specs.Known.{no_class}
use Rattle.dalvik_defs.specs.Items.{stored, item_of_type}
use Rattle.dalvik_defs.specs.Find.{Found}
use Rattle.dalvik_defs.specs.Face.{Bodies, Place}
use Rattle.dalvik_defs.specs.State.{World, Classes, Value, Word, Thing, Instance, Items, Waiting, Outside, On, Ended, Next, quiet, thing_at, put_thing, with_thing, next_object, fresh}
use Rattle.dalvik_defs.specs.Fields.{static_value, instance_value, with_static, with_instance}
use Rattle.dalvik_defs.specs.Show.{show}
use Rattle.dalvik_defs.specs.Outcome.{Need, Ready, Fresh, Broken, need_of}
use Rattle.dalvik_defs.specs.Stack.{enters, gives, unwinds, throws_new, starts}
use Rattle.dalvik_defs.specs.Happens.{Setting}
use Rattle.dalvik_defs.specs.Gives.{gets, gets_all, spread, fits, may_throw}
use Rattle.dalvik_defs.specs.Legal.{may_enter, may_make, may_answer, on_fits, is_exposed}
use Rattle.dalvik_defs.specs.declared.names.FieldKey.{FieldKey}
use Rattle.dalvik_defs.specs.declared.script.Given.{Given}
use Rattle.dalvik_defs.specs.declared.script.Move.{Move}
use Rattle.dalvik_defs.specs.declared.script.Move.TheVariants as move
use Rattle.dalvik_defs.specs.declared.events.Event.TheVariants as event

-- A move that needs a class: `stack` has the framework on top, `waiting` the same framework with the move that waits.
abbrev pub needs : Setting → Bodies → Need → World → Classes → Text → List Waiting → List Waiting → List Move → Next → Next
needs s find Ready w classes c waiting stack rest now = now
needs s find Fresh w classes c waiting stack rest now = quiet (starts s.face find w classes c waiting rest)
needs s find Broken w classes c waiting stack rest now = throws_new s.face find w classes no_class stack rest

-- ---- entering, making

abbrev pub entered : Setting → Bodies → World → Classes → Found → List Value → List Waiting → List Waiting → List Move → World → Next
entered s find w classes f vs waiting stack rest w' = elim (is_static f.flags) [
  | true ↦ needs s find (need_of s.face classes f.key.class) w classes f.key.class waiting stack rest (quiet (enters find w' classes f.key (spread vs) stack rest))
  | false ↦ quiet (enters find w' classes f.key (spread vs) stack rest)
]

abbrev pub enter : Setting → Bodies → World → Classes → Option Found → List Given → List Waiting → List Waiting → List Move → Next
enter s find w classes None gs waiting stack rest = quiet Ended
enter s find w classes (Some f) gs waiting stack rest = let a = gets_all w gs in elim (may_enter s.face s.outer w a.0 f gs a.1) [
  | true ↦ entered s find w classes f a.1 waiting stack rest a.0
  | false ↦ quiet Ended
]

abbrev pub made : World → Classes → Text → List Waiting → List Move → Next
made w classes c stack rest = let a = show (with_thing w (fresh c)) c (next_object w) in (On a.0 classes stack rest, Some (event.Make a.1))

abbrev pub make : Setting → Bodies → World → Classes → Text → List Waiting → List Waiting → List Move → Next
make s find w classes c waiting stack rest = elim (may_make s.face s.outer c) [
  | true ↦ needs s find (need_of s.face classes c) w classes c waiting stack rest (made w classes c stack rest)
  | false ↦ quiet Ended
]

-- ---- answering: the innermost open call or field read goes on below

abbrev pub got : World → Option Given → World × Option Value
got w None = (w, None)
got w (Some g) = let a = gets w g in (a.0, Some a.1)

abbrev pub answers : Setting → Bodies → World → Classes → Option Text → Option Given → List Waiting → List Move → Next
answers s find w classes None g below rest = quiet Ended
answers s find w classes (Some kind) g below rest = let a = got w g in elim (may_answer s.face s.outer w kind g) [
  | true ↦ gives find kind a.0 classes a.1 below rest
  | false ↦ quiet Ended
]

abbrev pub throws : Setting → Bodies → World → Classes → Option Text → Given → List Waiting → List Move → Next
throws s find w classes None g below rest = quiet Ended
throws s find w classes (Some kind) g below rest = let a = gets w g in elim (may_throw s.face s.outer w a.0 g a.1) [
  | true ↦ unwinds s.face find a.0 classes a.1 below rest
  | false ↦ quiet Ended
]

-- ---- fields and arrays: the framework stays on top, and reads are answered

abbrev pub shows_value : World → Classes → Text → Option Value → List Waiting → List Move → Next
shows_value w classes kind (Some v) stack rest = let a = show w kind v in (On a.0 classes stack rest, Some (event.Answer a.1))
shows_value w classes kind None stack rest = quiet Ended

abbrev pub goes : Option World → Classes → List Waiting → List Move → Next
goes (Some w) classes stack rest = quiet (On w classes stack rest)
goes None classes stack rest = quiet Ended

abbrev pub field_value : World → FieldKey → Place → Option Value → Option Value
field_value w k place None = Some (static_value w k place)
field_value w k place (Some on) = instance_value k place (thing_at w on)

abbrev pub with_field : World → FieldKey → Option Value → Value → Option World
with_field w k None v = Some (with_static w k v)
with_field w k (Some on) v = with_instance w k on v (thing_at w on)

abbrev pub reads : Setting → World → Classes → FieldKey → Option Place → Option Given → List Waiting → List Move → Next
reads s w classes k None on stack rest = quiet Ended
reads s w classes k (Some place) on stack rest = let a = got w on in elim (s.outer.fields k && on_fits s.face s.outer w a.0 k place on a.1) [
  | true ↦ shows_value a.0 classes k.kind (field_value a.0 k place a.1) stack rest
  | false ↦ quiet Ended
]

abbrev pub writes : Setting → World → Classes → FieldKey → Option Place → Option Given → Given → List Waiting → List Move → Next
writes s w classes k None on g stack rest = quiet Ended
writes s w classes k (Some place) on g stack rest = let a = got w on in let b = gets a.0 g in
    elim (s.outer.fields k && on_fits s.face s.outer w a.0 k place on a.1 && fits s.face s.outer a.0 b.0 g b.1 k.kind) [
      | true ↦ goes (with_field b.0 k a.1 (stored (item_of_type k.kind) b.1)) classes stack rest
      | false ↦ quiet Ended
    ]

abbrev pub reads_item : World → Classes → Option Thing → ℕ → List Waiting → List Move → Next
reads_item w classes (Some (Items kind vs)) n stack rest = shows_value w classes kind (slice_get vs n) stack rest
reads_item w classes (Some (Instance c fields)) n stack rest = quiet Ended
reads_item w classes None n stack rest = quiet Ended

abbrev pub array_get : World → Classes → Given → ℕ → List Waiting → List Move → Next
array_get w classes g n stack rest = elim (is_exposed w g) [
  | true ↦ reads_item w classes (thing_at w (gets w g).1) n stack rest
  | false ↦ quiet Ended
]

abbrev pub with_item : World → Value → Text → List Value → ℕ → Value → Option World
with_item w on kind vs n v = elim (nat_lt n (length vs)) [
  | true ↦ Some (put_thing w on (Items kind (slice_set vs n (stored (item_of_type kind) v))))
  | false ↦ None
]

abbrev pub writes_item : Setting → World → Classes → Value → Option Thing → ℕ → Given → List Waiting → List Move → Next
writes_item s w classes on (Some (Items kind vs)) n g stack rest = let a = gets w g in elim (fits s.face s.outer w a.0 g a.1 kind) [
  | true ↦ goes (with_item a.0 on kind vs n a.1) classes stack rest
  | false ↦ quiet Ended
]
writes_item s w classes on (Some (Instance c fields)) n g stack rest = quiet Ended
writes_item s w classes on None n g stack rest = quiet Ended

abbrev pub array_put : Setting → World → Classes → Given → ℕ → Given → List Waiting → List Move → Next
array_put s w classes on n g stack rest = elim (is_exposed w on) [
  | true ↦ writes_item s w classes (gets w on).1 (thing_at w (gets w on).1) n g stack rest
  | false ↦ quiet Ended
]

abbrev pub measures_thing : World → Classes → Option Thing → List Waiting → List Move → Next
measures_thing w classes (Some (Items kind vs)) stack rest = shows_value w classes (73 ∷ []) (Some (Word (length vs))) stack rest
measures_thing w classes (Some (Instance c fields)) stack rest = quiet Ended
measures_thing w classes None stack rest = quiet Ended

abbrev pub array_length : World → Classes → Given → List Waiting → List Move → Next
array_length w classes g stack rest = elim (is_exposed w g) [
  | true ↦ measures_thing w classes (thing_at w (gets w g).1) stack rest
  | false ↦ quiet Ended
]

-- ---- a move

abbrev pub key_of : Text → Text → Text → FieldKey
key_of c n k = record { class = c; name = n; kind = k }

-- `owes` is what the framework's frame on top owes, `below` the stack below it, `rest` the script behind the move
abbrev pub moves : Setting → Bodies → World → Classes → Option Text → Move → List Waiting → List Move → Next
moves s find w classes owes (move.Enter c n q gs) below rest =
    enter s find w classes (s.face.declared c n q) gs (Outside owes (Some (move.Enter c n q gs)) ∷ below) (Outside owes None ∷ below) rest
moves s find w classes owes (move.Make c) below rest = make s find w classes c (Outside owes (Some (move.Make c)) ∷ below) (Outside owes None ∷ below) rest
moves s find w classes owes (move.Return g) below rest = answers s find w classes owes g below rest
moves s find w classes owes (move.Throw g) below rest = throws s find w classes owes g below rest
moves s find w classes owes (move.Get c n k on) below rest = reads s w classes (key_of c n k) (s.face.own_field (key_of c n k)) on (Outside owes None ∷ below) rest
moves s find w classes owes (move.Put c n k on g) below rest = writes s w classes (key_of c n k) (s.face.own_field (key_of c n k)) on g (Outside owes None ∷ below) rest
moves s find w classes owes (move.ArrayGet g n) below rest = array_get w classes g n (Outside owes None ∷ below) rest
moves s find w classes owes (move.ArrayPut on n g) below rest = array_put s w classes on n g (Outside owes None ∷ below) rest
moves s find w classes owes (move.ArrayLength g) below rest = array_length w classes g (Outside owes None ∷ below) rest

-- the move that waits with the framework's frame, else the next one of the script
abbrev pub framework_turn : Setting → Bodies → World → Classes → Option Text → Option Move → List Waiting → List Move → Next
framework_turn s find w classes owes (Some m) below script = moves s find w classes owes m below script
framework_turn s find w classes owes None below [] = quiet Ended
framework_turn s find w classes owes None below (m ∷ rest) = moves s find w classes owes m below rest
