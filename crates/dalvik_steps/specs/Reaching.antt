-- What is read, written, made, locked and called, by numbers and by names.
use Rattle.std.specs.HashMap.{PutsEntry, spare}
use Rattle.std.specs.List.Sorted.{IsPermutation}
use Rattle.std.specs.Map.{lookup}
use Rattle.std.specs.Prelude.{ℕ, ◌≡◌, ◌≤◌, ◌<◌, ◌+◌, ◌^◌, ◌&&◌, ◌⊎◌, cond, nat_eq, ◌++◌, ◌∷◌, [], Bool, true, false, List, length, Option, Some, None, slice_get}
use Rattle.program_model.specs.declared.program.Program.{Program}
use Rattle.program_model.specs.declared.value.EncValue.{EncValue, EncValue-F, out-EncValue}
use Rattle.program_model.specs.declared.value.EncValue.TheOpen as layer
use Rattle.program_model.specs.declared.value.Element.{Element}
use Rattle.program_model.specs.declared.value.Note.{Note}
use Rattle.dalvik_lookups.specs.Declaring.{declared_field}
use Rattle.dalvik_lookups.specs.Facing.{place_at}
use Rattle.dalvik_lookups.specs.Tables.{IsRight}
use Rattle.dalvik_lookups.specs.Views.{type_text}
use Rattle.dalvik_lookups.specs.declared.lookups.Lookups.{Lookups}
use Rattle.dalvik_lookups.specs.declared.types.Kind.{Kind}
use Rattle.dalvik_defs.specs.Face.{Place}
use Rattle.dalvik_defs.specs.Names.{Text}
use Rattle.dalvik_defs.specs.Naming.{field_at}
use Rattle.dalvik_defs.specs.Fields.{first_value}
use Rattle.dalvik_defs.specs.Outcome.{with_lock}
use Rattle.dalvik_defs.specs.Show.{show}
use Rattle.dalvik_defs.specs.State.{World as NamedWorld, fresh, kind_of, next_object, with_thing, zero_of}
use Rattle.dalvik_defs.specs.declared.state.Value.{Value}
use Rattle.dalvik_defs.specs.declared.events.Event.{Event}
use Rattle.dalvik_defs.specs.declared.events.Event.TheVariants as event
use Rattle.dalvik_defs.specs.declared.events.Shown.{Shown}
use Rattle.dalvik_defs.specs.declared.encoded.NamedValue.{NamedValue}
use Rattle.dalvik_defs.specs.declared.names.FieldKey.{FieldKey}
use Rattle.dalvik_state.specs.declared.datum.Datum.{Datum}
use Rattle.dalvik_state.specs.declared.datum.Datum.TheVariants as datum
use Rattle.dalvik_state.specs.declared.frame.Frame.{Frame}
use Rattle.dalvik_state.specs.declared.state.State.{State}
use Rattle.dalvik_state.specs.declared.state.Waiting.TheVariants as waiting
use Rattle.dalvik_state.specs.declared.world.World.{World}
use Rattle.dalvik_state.specs.Frames.{same_in}
use Rattle.dalvik_state.specs.States.{top_frame, IsRunning, IsSound, KeepsRest}
use Rattle.dalvik_state.specs.Views.{is_at, IsFine, Names, names_in, value_of, world_of}
use Rattle.dalvik_state.specs.Worlds.{shape_at, spots_of, Array, Plain, Shape, Spot}
use Rattle.dalvik_steps.specs.declared.fields.FieldTexts.{FieldTexts}
use Rattle.dalvik_steps.specs.declared.fields.Reading.{Reading}
use Rattle.dalvik_steps.specs.declared.fields.Writing.{Writing}

-- ---- fields

-- the numbers of a first value stand in the tables
abbrev pub NamesThere : Program → EncValue-F EncValue Element Note → Type 0
NamesThere p (layer.Str n) = n < length p.strings
NamesThere p (layer.Class n) = n < length p.types
NamesThere p v = Unit {0}

pub record IsFirst (p : Program) (v : EncValue) : Type 0 where
  pub there : NamesThere p (out-EncValue v)

-- the field that a class defines at a place is the one of this name and type that was found
pub record IsFieldOf (l : Lookups) (k : FieldKey) (at : Place) (class index : ℕ) : Type 0 where
  pub declared : declared_field l.program.now at.class k.name k.kind ≡ Some (class, index)
  pub place : place_at l.program.now (class, index) ≡ Some at

-- fields were written: the world is this one by names, and all else stays
pub record Rewrites (l : Lookups) (old new : World) (w : NamedWorld) : Type 0 where
  pub named : world_of (names_in l) new ≡ w
  pub sound : IsSound l new
  pub heap : new.heap ≡ old.heap
  pub locks : new.locks ≡ old.locks
  pub exposed : new.exposed ≡ old.exposed

-- a field of an object was written, or there is no such object, and nothing has changed
abbrev pub IsPut : Lookups → World → World → Bool → Option NamedWorld → Type 0
IsPut l old new true (Some w) = Rewrites l old new w
IsPut l old new false None = new ≡ old
IsPut l old new b o = ⊥

-- no field was written
pub record IsUnwritten (old new : World) : Type 0 where
  pub fields : new.fields.entries ≡ old.fields.entries
  pub heap : new.heap ≡ old.heap
  pub statics : new.statics ≡ old.statics
  pub locks : new.locks ≡ old.locks
  pub exposed : new.exposed ≡ old.exposed

-- there is room for one field more that is written
pub record HasFieldRoom (w : World) : Type 0 where
  pub room : 0 < spare w.fields

-- nothing was written, but the fields may stand in another order
pub record IsShuffled (old new : World) : Type 0 where
  pub entries : IsPermutation old.fields.entries new.fields.entries
  pub fields : (number slot : ℕ) → lookup (is_at number slot) new.fields.entries ≡ lookup (is_at number slot) old.fields.entries
  pub heap : spots_of new ≡ spots_of old
  pub statics : new.statics.items ≡ old.statics.items
  pub locks : new.locks ≡ old.locks
  pub exposed : new.exposed.items ≡ old.exposed.items

-- the texts of a field number
pub record AreTextsOf (p : Program) (field : ℕ) (t : FieldTexts) : Type 0 where
  pub class : t.class ≡ (field_at p field).class
  pub name : t.name ≡ (field_at p field).name
  pub kind : t.kind ≡ (field_at p field).kind

-- a value that may be none
abbrev pub FineMaybe : Names → ℕ → Option Datum → Type 0
FineMaybe n size None = Unit {0}
FineMaybe n size (Some d) = IsFine n size d

-- a field number of the table, on a value that is fine
pub record IsReading (l : Lookups) (s : State) (r : Reading) : Type 0 where
  pub field : r.field < length l.program.now.fields
  pub on : FineMaybe (names_in l) (length (spots_of s.world)) r.on

pub record IsWriting (l : Lookups) (s : State) (w : Writing) : Type 0 where
  pub field : w.field < length l.program.now.fields
  pub on : FineMaybe (names_in l) (length (spots_of s.world)) w.on
  pub value : IsFine (names_in l) (length (spots_of s.world)) w.value

-- ---- what changes in a step

-- only the world has changed: it is this one by names, and a run keeps it
pub record Turns (l : Lookups) (steps : ℕ) (old new : State) (w : NamedWorld) : Type 0 where
  pub named : world_of (names_in l) new.world ≡ w
  pub sound : IsSound l new.world
  pub more : length (spots_of old.world) ≤ length (spots_of new.world)
  pub held : (i : ℕ) (e : Datum × ℕ) → slice_get new.world.locks.entries i ≡ Some e → e.1 ≤ steps + 1
  pub stack : new.stack.items ≡ old.stack.items
  pub statuses : new.statuses ≡ old.statuses
  pub next : new.next ≡ old.next
  pub ended : new.ended ≡ old.ended

-- the framework is asked for a value of a type
pub record IsAsked (old new : State) (kind : Kind) : Type 0 where
  pub stack : new.stack.items ≡ old.stack.items ++ waiting.Outside (Some kind) None ∷ []
  pub rest : KeepsRest old new

-- nothing but room was taken
pub record SameItems (old new : World) : Type 0 where
  pub heap : spots_of new ≡ spots_of old
  pub fields : new.fields.entries ≡ old.fields.entries
  pub statics : new.statics.items ≡ old.statics.items
  pub locks : new.locks.entries ≡ old.locks.entries
  pub exposed : new.exposed.items ≡ old.exposed.items

pub record IsReserved (old new : State) : Type 0 where
  pub world : SameItems old.world new.world
  pub stack : new.stack.items ≡ old.stack.items
  pub statuses : new.statuses ≡ old.statuses
  pub next : new.next ≡ old.next
  pub ended : new.ended ≡ old.ended

-- a run whose frame on top is this one, before its next step
pub record IsStep (l : Lookups) (steps : ℕ) (s : State) (f : Frame) : Type 0 where
  pub right : IsRight l
  pub state : IsRunning l steps s
  pub early : steps < 2 ^ 32
  pub on : s.ended ≡ false
  pub top : top_frame s.stack.items ≡ Some f

-- a declared first value, whose numbers stand in the tables
abbrev pub FirstThere : Program → Option EncValue → Type 0
FirstThere p None = Unit {0}
FirstThere p (Some v) = IsFirst p v

abbrev pub first_or_zero : Option NamedValue → Text → Value
first_or_zero (Some v) kind = first_value v
first_or_zero None kind = zero_of kind

-- the number of an object, which has fields
abbrev pub plain_number : ℕ → Option Shape → Option ℕ
plain_number n (Some (Plain kind)) = Some n
plain_number n (Some (Array kind items)) = None
plain_number n None = None

abbrev pub object_in : List Spot → Datum → Option ℕ
object_in spots (datum.Object n) = plain_number n (shape_at spots (datum.Object n))
object_in spots d = None

-- a field of an object holds this, and all else stays
pub record PutsField (old new : World) (number slot : ℕ) (d : Datum) : Type 0 where
  pub puts : (m s : ℕ) → lookup (is_at m s) new.fields.entries ≡ cond (nat_eq number m && nat_eq slot s) (Some d) (lookup (is_at m s) old.fields.entries)
  pub before : Option Datum
  pub entry : PutsEntry (λ x y. nat_eq x.0 y.0 && nat_eq x.1 y.1) old.fields new.fields (number, slot) d before
  pub heap : new.heap ≡ old.heap
  pub statics : new.statics ≡ old.statics
  pub locks : new.locks ≡ old.locks
  pub exposed : new.exposed ≡ old.exposed

-- ---- monitors

-- a key of a table of counts
abbrev pub HasKey : List (Datum × ℕ) → Datum → Type 0
HasKey es k = (i : ℕ) × ((c : ℕ) × (slice_get es i ≡ Some (k, c)))

abbrev pub HasCount : List (Datum × ℕ) → ℕ → Type 0
HasCount es c = (i : ℕ) × ((k : Datum) × (slice_get es i ≡ Some (k, c)))

-- a value is locked so often, and all else stays
pub record PutsLock (old new : World) (d : Datum) (count : ℕ) : Type 0 where
  pub puts : (q : Datum) → lookup (λ (k : Datum). same_in k q) new.locks.entries ≡ cond (same_in q d) (Some count) (lookup (λ (k : Datum). same_in k q) old.locks.entries)
  pub keys : (i : ℕ) (e : Datum × ℕ) → slice_get new.locks.entries i ≡ Some e → (e.0 ≡ d) ⊎ HasKey old.locks.entries e.0
  pub counts : (i : ℕ) (e : Datum × ℕ) → slice_get new.locks.entries i ≡ Some e → (e.1 ≡ count) ⊎ HasCount old.locks.entries e.1
  pub heap : new.heap ≡ old.heap
  pub fields : new.fields ≡ old.fields
  pub statics : new.statics ≡ old.statics
  pub exposed : new.exposed ≡ old.exposed

-- the value was locked so often, and shown
pub record IsLockShown (l : Lookups) (old new : World) (d : Datum) (count : ℕ) (s : Shown) : Type 0 where
  pub shown : s ≡ (show (world_of (names_in l) old) (kind_of (world_of (names_in l) old) (value_of (names_in l) d)) (value_of (names_in l) d)).1
  pub named : world_of (names_in l) new ≡ with_lock (show (world_of (names_in l) old) (kind_of (world_of (names_in l) old) (value_of (names_in l) d)) (value_of (names_in l) d)).0 (value_of (names_in l) d) count
  pub sound : IsSound l new
  pub size : length (spots_of new) ≡ length (spots_of old)
  pub counts : (i : ℕ) (e : Datum × ℕ) → slice_get new.locks.entries i ≡ Some e → (e.1 ≡ count) ⊎ HasCount old.locks.entries e.1

-- ---- new objects

-- an object was made, and shown
pub record IsMadeIn (l : Lookups) (old new : World) (kind : Kind) (d : Datum) (s : Shown) : Type 0 where
  pub reference : d ≡ datum.Object (length (spots_of old))
  pub shown : show (with_thing (world_of (names_in l) old) (fresh (type_text l.types kind))) (type_text l.types kind) (next_object (world_of (names_in l) old)) ≡ (world_of (names_in l) new, s)
  pub sound : IsSound l new
  pub size : length (spots_of new) ≡ length (spots_of old) + 1
  pub locks : new.locks.entries ≡ old.locks.entries

pub record IsMade (l : Lookups) (old new : State) (kind : Kind) (d : Datum) (e : Event) : Type 0 where
  pub shown : Shown
  pub is : e ≡ event.Make shown
  pub made : IsMadeIn l old.world new.world kind d shown
  pub stack : new.stack.items ≡ old.stack.items
  pub statuses : new.statuses ≡ old.statuses
  pub next : new.next ≡ old.next
  pub ended : new.ended ≡ old.ended
