-- The way of a thrown object down the stack, by the entries of the stack by numbers, and what there is room for.
use Rattle.std.specs.Prelude.{ℕ, ◌≡◌, ◌+◌, ◌-◌, ◌<◌, ◌&&◌, Bool, true, false, List, [], ◌∷◌, ◌++◌, length, reverse, Option, Some, None, nat_le, nat_lt, slice_get}
use Rattle.dalvik_lookups.specs.declared.lookups.Lookups.{Lookups}
use Rattle.dalvik_lookups.specs.Facing.{run_face}
use Rattle.program_model.specs.declared.body.Handler.{Handler}
use Rattle.program_model.specs.declared.body.Region.{Region}
use Rattle.dalvik_lookups.specs.Views.{name_at, IsKind}
use Rattle.dalvik_lookups.specs.declared.types.Kind.{Kind}
use Rattle.dalvik_defs.specs.Known.{initialiser_error}
use Rattle.dalvik_defs.specs.Names.{Text, error_type, throwable_type}
use Rattle.dalvik_defs.specs.Naming.{body_of}
use Rattle.dalvik_defs.specs.Stack.{handler_at}
use Rattle.dalvik_defs.specs.State.{World, fresh, kind_of, next_object, with_thing}
use Rattle.dalvik_defs.specs.declared.state.Value.{Value}
use Rattle.dalvik_defs.specs.declared.state.Value.TheVariants.{Object}
use Rattle.dalvik_state.specs.declared.datum.Datum.{Datum}
use Rattle.dalvik_state.specs.declared.frame.Frame.{Frame}
use Rattle.dalvik_state.specs.declared.gifts.Gifts.{Gifts}
use Rattle.dalvik_state.specs.declared.state.Waiting.{Waiting}
use Rattle.dalvik_state.specs.declared.state.Waiting.TheVariants as waiting
use Rattle.dalvik_state.specs.declared.world.World.{World as OwnWorld}
use Rattle.dalvik_state.specs.Drafts.{given_world, kind_text, IsDraft, IsLater}
use Rattle.dalvik_state.specs.Giving.{IsGivenFine}
use Rattle.dalvik_state.specs.States.{HasRoom, HasSpace}
use Rattle.dalvik_state.specs.Views.{names_in, value_of}
use Rattle.dalvik_steps.specs.declared.throwing.Exhibit.{Exhibit}
use Rattle.dalvik_steps.specs.declared.throwing.Exhibit.TheVariants as exhibit
use Rattle.dalvik_steps.specs.declared.throwing.Flight.{Flight}
use Rattle.dalvik_steps.specs.declared.throwing.Course.{Course}
use Rattle.dalvik_steps.specs.declared.throwing.Flying.{Flying}
use Rattle.dalvik_steps.specs.declared.throwing.Met.{Met}
use Rattle.dalvik_steps.specs.declared.throwing.Met.TheVariants as met
use Rattle.dalvik_steps.specs.declared.throwing.Landing.{Landing}
use Rattle.dalvik_steps.specs.declared.throwing.Landing.TheVariants as landing
use Rattle.dalvik_steps.specs.declared.throwing.Thrown.{Thrown}
use Rattle.dalvik_steps.specs.declared.throwing.Thrown.TheVariants as thrown

-- the position at which a frame goes on with what is thrown
abbrev pub lands_at : Lookups → World → Value → Frame → Option ℕ
lands_at l w v f = handler_at ((run_face l).under (kind_of w v)) f.position (body_of l.program.now f.body.now)

-- it lands in the frame at a place, or else the other holds
abbrev pub LandsOr : ℕ → List ℕ → Landing → Option ℕ → Type 0 → Type 0
LandsOr place wraps to (Some at) otherwise = (wraps ≡ []) × (to ≡ landing.Handler place at)
LandsOr place wraps to None otherwise = otherwise

abbrev pub IfUnder : Bool → Type 0 → Type 0 → Type 0
IfUnder true under otherwise = under
IfUnder false under otherwise = otherwise

-- an object that stands on the heap, and is of a type
pub record IsNewOf (w : World) (v : Value) (text : Text) : Type 0 where
  pub number : ℕ
  pub is : v ≡ Object number
  pub there : number < length w.heap
  pub kind : text ≡ kind_of w v

-- what the framework is to be shown of it
abbrev pub Exhibits : World → Value → Exhibit → Type 0
Exhibits w v (exhibit.Old draft) = IsDraft w throwable_type v draft
Exhibits w v (exhibit.New kind) = IsNewOf w v kind

-- it lands at the framework at a place
abbrev pub Reaches : World → Value → ℕ → Landing → Type 0
Reaches w v place to = (shown : Exhibit) × ((to ≡ landing.Framework place shown) × Exhibits w v shown)

-- The way of what is thrown from the top of a stack, whose top is first: the places at which it is replaced by a new
-- object, from the top down, and where it lands.
abbrev pub Flies : Lookups → World → Value → List Waiting → List ℕ → Landing → Type 0
Flies l w v [] wraps to = (wraps ≡ []) × (to ≡ landing.Nowhere)
Flies l w v (waiting.Method f ∷ rest) wraps to = LandsOr (length rest) wraps to (lands_at l w v f) (Flies l w v rest wraps to)
Flies l w v (waiting.Initialiser class above next ∷ rest) wraps to = Flies l w v rest wraps to
Flies l w v (waiting.Ending class ∷ rest) wraps to = IfUnder ((run_face l).under (kind_of w v) error_type) (Flies l w v rest wraps to)
    ((more : List ℕ) × ((wraps ≡ length rest ∷ more) × Flies l (with_thing w (fresh initialiser_error)) (next_object w) rest more to))
Flies l w v (waiting.Outside owes pending ∷ rest) wraps to = (wraps ≡ []) × Reaches w v (length rest) to

-- what is thrown, and the world with it
abbrev pub thrown_world : Lookups → World → Thrown → World
thrown_world l w (thrown.Value d) = w
thrown_world l w (thrown.New class) = with_thing w (fresh (name_at l.types class))

abbrev pub thrown_value : Lookups → World → Thrown → Value
thrown_value l w (thrown.Value d) = value_of (names_in l) d
thrown_value l w (thrown.New class) = next_object w

-- the way of what is thrown in a world, from the top of this stack, whose top is last
pub record IsFlight (l : Lookups) (w : World) (stack : List Waiting) (t : Thrown) (f : Flight) : Type 0 where
  pub thrown : f.thrown ≡ t
  pub flies : Flies l (thrown_world l w t) (thrown_value l w t) (reverse stack) f.wraps.items f.landing

-- there is room for what is thrown, for all that replaces it, and for so many objects beside
pub record HasFlightRoom (w : OwnWorld) (given : ℕ) (f : Flight) : Type 0 where
  pub space : HasSpace w (given + (length f.wraps.items + 1))
  pub room : HasRoom w (given + (length f.wraps.items + 1))

-- a value that there is with the objects of a move, or a new object of a type that the machine knows
abbrev pub IsThrownWith : Lookups → OwnWorld → Gifts → Thrown → Type 0
IsThrownWith l w g (thrown.Value d) = IsGivenFine l w g d
IsThrownWith l w g (thrown.New class) = class < 20

-- ---- handlers

-- a region covers a position
abbrev pub covers_in : ℕ → Region → Bool
covers_in at r = nat_le r.first at && nat_lt at r.end

-- the types of the handlers stand in the program's table
pub record AreHandlers (l : Lookups) (r : Region) : Type 0 where
  pub at : (i : ℕ) (h : Handler) → slice_get r.handlers i ≡ Some h → h.kind < length l.program.now.types

-- a type that may be none
abbrev pub IsKindMaybe : Lookups → Option Kind → Type 0
IsKindMaybe l None = Unit {0}
IsKindMaybe l (Some k) = IsKind l.types k

-- ---- what flies

-- by the value, or an object that isn't made yet
abbrev pub FliesAs : Lookups → OwnWorld → Gifts → World → Value → Option Datum → Type 0
FliesAs l base g w v (Some d) = (v ≡ value_of (names_in l) d) × IsGivenFine l base g d
FliesAs l base g w v None = IsNewOf w v (kind_of w v)

-- a value with its type in a world that comes after one with the objects of a move
pub record IsFlying (l : Lookups) (base : OwnWorld) (g : Gifts) (w : World) (v : Value) (f : Flying) : Type 0 where
  pub value : FliesAs l base g w v f.datum
  pub kind : kind_text l f.kind ≡ kind_of w v
  pub known : IsKindMaybe l f.kind
  pub later : IsLater (given_world (names_in l) base g) w

-- what it meets at the entry of a stack at a place: it passes, is replaced by a new object, or lands
abbrev pub Meets : Lookups → World → Value → Waiting → ℕ → Met → Type 0
Meets l w v x place met.Passes = (rest : List Waiting) (wraps : List ℕ) (to : Landing) → length rest ≡ place → Flies l w v rest wraps to → Flies l w v (x ∷ rest) wraps to
Meets l w v x place met.Wrapped = (rest : List Waiting) (more : List ℕ) (to : Landing) → length rest ≡ place → Flies l (with_thing w (fresh initialiser_error)) (next_object w) rest more to → Flies l w v (x ∷ rest) (place ∷ more) to
Meets l w v x place (met.Lands to) = (rest : List Waiting) → length rest ≡ place → Flies l w v (x ∷ rest) [] to

-- what flies has come from the top of a stack to what is left of it, and was replaced on its way as noted
pub record IsCourse (l : Lookups) (base : OwnWorld) (g : Gifts) (w : World) (v : Value) (all rest : List Waiting) (c : Course) : Type 0 where
  pub world : World
  pub value : Value
  pub flying : IsFlying l base g world value c.flying
  pub on : (more : List ℕ) (to : Landing) → Flies l world value rest more to → Flies l w v all (c.wraps.items ++ more) to

-- it goes on from what is left, or lands
abbrev pub GoesPast : Lookups → OwnWorld → Gifts → World → Value → List Waiting → List Waiting → Course → Option Landing → Type 0
GoesPast l base g w v all rest c None = IsCourse l base g w v all rest c
GoesPast l base g w v all rest c (Some to) = Flies l w v all c.wraps.items to
