-- What a move of the framework begins with, and what has been taken for it.
use Rattle.std.specs.Prelude.{ℕ, Bool, ◌≡◌, ◌<◌, ◌^◌, true, false, List, [], ◌∷◌, ◌+◌, drop, length, map, min, slice_get, Option, Some, None}
use Rattle.std.specs.Option.{option_and_then}
use Rattle.program_model.specs.declared.pass.Outside.{Outside}
use Rattle.program_model.specs.declared.program.Field.{Field}
use Rattle.program_model.specs.declared.program.Method.{Method}
use Rattle.program_model.specs.declared.program.MethodAt.{MethodAt}
use Rattle.program_model.specs.Lookups as look
use Rattle.name_bridge.specs.Named.{found_at}
use Rattle.dalvik_defs.specs.Find.{Found}
use Rattle.dalvik_defs.specs.Face.{Place}
use Rattle.dalvik_defs.specs.Gives.{gets, gets_all, may_give}
use Rattle.dalvik_defs.specs.Naming.{field_at}
use Rattle.dalvik_defs.specs.Outer.{outer_of}
use Rattle.dalvik_defs.specs.declared.names.FieldKey.{FieldKey}
use Rattle.dalvik_defs.specs.declared.script.Given.{Given}
use Rattle.dalvik_defs.specs.declared.script.Move.{Move}
use Rattle.dalvik_defs.specs.declared.state.Waiting.{Waiting}
use Rattle.dalvik_defs.specs.declared.state.Waiting.TheVariants.{Outside as InFramework}
use Rattle.dalvik_lookups.specs.Facing.{place_at, run_face}
use Rattle.dalvik_lookups.specs.Playing.{IsGift}
use Rattle.dalvik_lookups.specs.Views.{type_text, IsKind}
use Rattle.dalvik_lookups.specs.declared.lookups.Lookups.{Lookups}
use Rattle.dalvik_lookups.specs.declared.memo.Memo.{Memo}
use Rattle.dalvik_lookups.specs.declared.plays.FieldAt.{FieldAt}
use Rattle.dalvik_lookups.specs.declared.plays.Gift.{Gift}
use Rattle.dalvik_lookups.specs.declared.plays.Gift.TheVariants as gift
use Rattle.dalvik_lookups.specs.declared.plays.Play.{Play}
use Rattle.dalvik_lookups.specs.declared.plays.Play.TheVariants as play
use Rattle.dalvik_lookups.specs.declared.types.Kind.{Kind}
use Rattle.dalvik_state.specs.declared.datum.Datum.{Datum}
use Rattle.dalvik_state.specs.declared.datum.Datum.TheVariants as datum
use Rattle.dalvik_state.specs.declared.gifts.Gifts.{Gifts}
use Rattle.dalvik_state.specs.declared.gifts.Taken.{Taken}
use Rattle.dalvik_state.specs.declared.state.State.{State}
use Rattle.dalvik_state.specs.declared.state.Waiting.TheVariants as waiting
use Rattle.dalvik_state.specs.declared.world.World.{World as OwnWorld}
use Rattle.dalvik_state.specs.Drafts.{given_world}
use Rattle.dalvik_state.specs.Giving.{AreTakenFrom, IsFieldAt, IsGiven, IsGivenFine}
use Rattle.dalvik_state.specs.Runs.{script_in, stack_in, IsReach, IsRun}
use Rattle.dalvik_state.specs.States.{pending_top}
use Rattle.dalvik_state.specs.Views.{names_in, value_of, world_of}
use Rattle.dalvik_state.specs.Worlds.{Shape, Plain, Array}
use Rattle.dalvik_steps.specs.Backs.{last_of}
use Rattle.dalvik_steps.specs.Reaching.{IsFieldOf}
use Rattle.dalvik_moves.specs.declared.entering.Values.{Values}

-- A move of a run: it waits with the framework's frame, which is on top and owes this, and these moves of the script are
-- left.
pub record IsMoving (l : Lookups) (o : Outside) (m : Memo) (script : List Move) (steps : ℕ) (s : State) (owes : Option Kind) (first : Move) (rest : List Move) : Type 0 where
  pub run : IsRun l m steps s
  pub reach : IsReach l o
  pub place : ℕ
  pub top : last_of s.stack.items ≡ Some (waiting.Outside owes (Some place))
  pub waits : slice_get script place ≡ Some first
  pub left : script_in script s ≡ rest

-- The next move of the script before it is taken: none waits with the framework's frame, whatever its place is.
pub record IsTaking (l : Lookups) (o : Outside) (m : Memo) (script : List Move) (steps : ℕ) (s : State) (owes : Option Kind) (pending : Option ℕ) (first : Move) (rest : List Move) : Type 0 where
  pub run : IsRun l m steps s
  pub reach : IsReach l o
  pub top : last_of s.stack.items ≡ Some (waiting.Outside owes pending)
  pub next : slice_get script s.next ≡ Some first
  pub left : drop (s.next + 1) script ≡ rest
  pub short : length script < 2 ^ 64

-- the framework's frame on top waits with this move, or with none
abbrev pub waits_with : Option Move → List Waiting → List Waiting
waits_with m (InFramework owes pending ∷ below) = InFramework owes m ∷ below
waits_with m stack = stack

-- the stack of a move that is done
abbrev pub freed_in : Lookups → List Move → State → List Waiting
freed_in l script s = waits_with None (stack_in l script s)

-- The framework's frame on top waits with the move at this place of the script, or with none, and this one comes next.
pub record IsTurned (pending : Option ℕ) (at : ℕ) (old new : State) : Type 0 where
  pub world : new.world ≡ old.world
  pub statuses : new.statuses ≡ old.statuses
  pub stack : new.stack.items ≡ pending_top pending old.stack.items
  pub next : new.next ≡ at
  pub ended : new.ended ≡ old.ended

-- the move is done
abbrev pub IsDone : State → State → Type 0
IsDone old new = IsTurned None old.next old new

-- the play at a place of the script
abbrev pub play_of : List Play → Option ℕ → Option Play
play_of plays pending = option_and_then (λ (place : ℕ). slice_get plays place) pending

-- ---- what is taken

-- the first value of a move, and the objects of the move are those that it needs
pub record IsFirstTaken (l : Lookups) (o : Outside) (w : OwnWorld) (all : Gifts) (g : Given) (t : Gift × Taken) : Type 0 where
  pub gift : IsGift l.types l.texts g t.0
  pub got : gets (world_of (names_in l) w) g ≡ (given_world (names_in l) w all, value_of (names_in l) t.1.datum)
  pub allowed : t.1.allowed ≡ may_give (run_face l) (outer_of l.program.now o) (world_of (names_in l) w) g
  pub given : IsGiven l w all
  pub fine : IsGivenFine l w all t.1.datum

-- no object
pub record IsNothingTaken (l : Lookups) (w : OwnWorld) (all : Gifts) : Type 0 where
  pub same : given_world (names_in l) w all ≡ world_of (names_in l) w
  pub given : IsGiven l w all

abbrev pub FirstMaybe : Lookups → Outside → OwnWorld → Gifts → Option Given → Option (Gift × Taken) → Type 0
FirstMaybe l o w all None None = IsNothingTaken l w all
FirstMaybe l o w all (Some g) (Some t) = IsFirstTaken l o w all g t
FirstMaybe l o w all g t = ⊥

-- the values that were taken
abbrev pub datums_of : List (Gift × Taken) → List Datum
datums_of ts = map (λ (t : Gift × Taken). t.1.datum) ts

-- their registers: a wide takes two
abbrev pub spread_in : List Datum → List Datum
spread_in [] = []
spread_in (datum.Low n ∷ ds) = datum.Low n ∷ datum.High n ∷ spread_in ds
spread_in (d ∷ ds) = d ∷ spread_in ds

-- the values of a move, taken from left to right
pub record AreAllTaken (l : Lookups) (o : Outside) (w : OwnWorld) (gs : List Given) (v : Values) : Type 0 where
  pub got : gets_all (world_of (names_in l) w) gs ≡ (given_world (names_in l) w v.gifts, map (λ (t : Gift × Taken). value_of (names_in l) t.1.datum) v.taken.items)
  pub taken : AreTakenFrom l o w (world_of (names_in l) w) v.gifts gs v.taken.items
  pub given : IsGiven l w v.gifts

-- ---- members

-- a method that a class defines, by its place and by name
pub record IsMember (l : Lookups) (at : MethodAt) (own : Method) (f : Found) : Type 0 where
  pub there : look.method_at l.program.now at ≡ Some own
  pub found : found_at l.program.now at ≡ Some f

abbrev pub MemberMaybe : Lookups → Option Found → Option (MethodAt × Method) → Type 0
MemberMaybe l None None = Unit {0}
MemberMaybe l (Some f) (Some m) = IsMember l m.0 m.1 f
MemberMaybe l f m = ⊥

-- a field that is kept
pub record IsKeptField (l : Lookups) (o : Outside) (k : FieldKey) (at : FieldAt) (field : Field) : Type 0 where
  pub kept : (outer_of l.program.now o).fields k ≡ true
  pub place : Place
  pub own : (run_face l).own_field k ≡ Some place
  pub stands : place_at l.program.now (at.class, at.place) ≡ Some place
  pub within : IsFieldAt l.program.now at field
  pub named : field_at l.program.now field.name ≡ k
  pub of : IsFieldOf l k place at.class at.place
  pub kind : IsKind l.types at.kind
  pub text : type_text l.types at.kind ≡ k.kind

-- where there is none, the class doesn't define it, or it isn't kept
abbrev pub KeptMaybe : Lookups → Outside → FieldKey → Option (FieldAt × Field) → Type 0
KeptMaybe l o k None = (place : Place) → (run_face l).own_field k ≡ Some place → (outer_of l.program.now o).fields k ≡ false
KeptMaybe l o k (Some x) = IsKeptField l o k x.0 x.1

-- ---- arrays

-- a move on an array
abbrev pub touches_array : Play → Bool
touches_array (play.ArrayGet on place) = true
touches_array (play.ArrayPut on place value) = true
touches_array (play.ArrayLength on) = true
touches_array other = false

-- the exposed object that a value names by its place, null for another value
abbrev pub exposed_in : OwnWorld → Gift → Datum
exposed_in w (gift.Exposed n) = elim (slice_get w.exposed.items n) [ Some e ↦ datum.Object e.number | None ↦ datum.Word 0 ]
exposed_in w g = datum.Word 0

-- the item type of an array, and its item at a place
abbrev pub item_in : ℕ → Option Shape → Option (Kind × Option Datum)
item_in place (Some (Array kind items)) = Some (kind, slice_get items place)
item_in place (Some (Plain kind)) = None
item_in place None = None

-- the length of an array
abbrev pub length_in : Option Shape → Option Datum
length_in (Some (Array kind items)) = Some (datum.Word (min (length items) 4294967295))
length_in (Some (Plain kind)) = None
length_in None = None
