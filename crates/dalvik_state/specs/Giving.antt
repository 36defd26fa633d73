-- The values that the framework gives in one move, and which moves are legal.
use Rattle.std.specs.Prelude.{ℕ, ◌≡◌, ◌≤◌, ◌+◌, ◌&&◌, ◌||◌, not, is_none, nat_eq, nat_lt, Bool, true, false, List, [], ◌∷◌, ◌++◌, length, map, slice_get, Option, Some, None}
use Rattle.std.specs.List.{list_any}
use Rattle.program_model.specs.declared.pass.Outside.{Outside}
use Rattle.program_model.specs.declared.pools.MethodName.{MethodName}
use Rattle.program_model.specs.declared.pools.Proto.{Proto}
use Rattle.program_model.specs.declared.program.Class.{Class}
use Rattle.program_model.specs.declared.program.Field.{Field}
use Rattle.program_model.specs.declared.program.MethodAt.{MethodAt}
use Rattle.program_model.specs.declared.program.Program.{Program}
use Rattle.dalvik_lookups.specs.Facing.{run_face}
use Rattle.dalvik_lookups.specs.Playing.{IsGift}
use Rattle.dalvik_lookups.specs.Reached.{has_descriptor}
use Rattle.dalvik_lookups.specs.Tables.{place_named}
use Rattle.dalvik_lookups.specs.declared.lookups.Lookups.{Lookups}
use Rattle.dalvik_lookups.specs.declared.finds.Search.{Search}
use Rattle.dalvik_lookups.specs.declared.finds.Search.TheVariants as find
use Rattle.dalvik_lookups.specs.declared.plays.FieldAt.{FieldAt}
use Rattle.dalvik_lookups.specs.declared.plays.Gift.{Gift}
use Rattle.dalvik_defs.specs.Gives.{gets, may_give}
use Rattle.dalvik_defs.specs.Names.{Text, is_array}
use Rattle.dalvik_defs.specs.Outer.{outer_of}
use Rattle.dalvik_defs.specs.State.{World}
use Rattle.dalvik_defs.specs.declared.script.Given.{Given}
use Rattle.dalvik_state.specs.declared.datum.Datum.{Datum}
use Rattle.dalvik_state.specs.declared.datum.Datum.TheVariants as datum
use Rattle.dalvik_state.specs.declared.gifts.Gifts.{Gifts}
use Rattle.dalvik_state.specs.declared.gifts.Taken.{Taken}
use Rattle.dalvik_state.specs.declared.world.World.{World as OwnWorld}
use Rattle.dalvik_state.specs.Drafts.{gift_spots, given_world}
use Rattle.dalvik_state.specs.States.{AreKinds, IsSound}
use Rattle.dalvik_state.specs.Views.{AreFineSpots, IsFine, names_in, value_of, world_of}
use Rattle.dalvik_state.specs.Worlds.{IsShort, new_spot, spots_of}

-- the objects that a move gives: of types of the tables, arrays short and with no references in them
pub record IsGiven (l : Lookups) (w : OwnWorld) (g : Gifts) : Type 0 where
  pub sound : IsSound l w
  pub kinds : AreKinds l (gift_spots w g)
  pub short : IsShort (gift_spots w g)
  pub fine : AreFineSpots (names_in l) 0 (map new_spot g.things.items)

-- a value refers to what is there, with the objects of the move
abbrev pub IsGivenFine : Lookups → OwnWorld → Gifts → Datum → Type 0
IsGivenFine l w g d = IsFine (names_in l) (length (gift_spots w g)) d

-- what stands at a place among the objects of a move, which are so many, behind so many on the heap
abbrev pub own_taken : ℕ → ℕ → ℕ → Taken
own_taken size count place = elim (nat_lt place count) [ true ↦ record { datum = datum.Object (size + place); allowed = true } | false ↦ record { datum = datum.Word 0; allowed = false } ]

-- a class is kept, or the program doesn't define it
abbrev pub kept_or_free : Lookups → Outside → Text → Bool
kept_or_free l o t = (not (is_array t) && list_any (has_descriptor l.program.now t) o.classes) || is_none (place_named l.program.now t)

-- a value is taken, after those that were taken before
pub record Takes (l : Lookups) (o : Outside) (w : OwnWorld) (old new : Gifts) (what : Given) (t : Taken) : Type 0 where
  pub got : gets (given_world (names_in l) w old) what ≡ (given_world (names_in l) w new, value_of (names_in l) t.datum)
  pub allowed : t.allowed ≡ may_give (run_face l) (outer_of l.program.now o) (given_world (names_in l) w old) what
  pub given : IsGiven l w new
  pub fine : IsGivenFine l w new t.datum
  pub more : length old.things.items ≤ length new.things.items

-- a value that may be none
abbrev pub TakesMaybe : Lookups → Outside → OwnWorld → Gifts → Gifts → Option Given → Option Taken → Type 0
TakesMaybe l o w old new None None = new ≡ old
TakesMaybe l o w old new (Some given) (Some t) = Takes l o w old new given t
TakesMaybe l o w old new given t = ⊥

-- a value that was taken in this world, and the objects of all of them
pub record IsTakenFrom (l : Lookups) (o : Outside) (w : OwnWorld) (before : World) (all : Gifts) (g : Given) (t : Gift × Taken) : Type 0 where
  pub gift : IsGift l.types l.texts g t.0
  pub allowed : t.1.allowed ≡ may_give (run_face l) (outer_of l.program.now o) before g
  pub value : value_of (names_in l) t.1.datum ≡ (gets before g).1
  pub fine : IsGivenFine l w all t.1.datum

-- values that were taken from left to right, beginning in this world, and the objects of all of them
abbrev pub AreTakenFrom : Lookups → Outside → OwnWorld → World → Gifts → List Given → List (Gift × Taken) → Type 0
AreTakenFrom l o w before all [] [] = Unit {0}
AreTakenFrom l o w before all (g ∷ gs) (t ∷ ts) = IsTakenFrom l o w before all g t × AreTakenFrom l o w (gets before g).0 all gs ts
AreTakenFrom l o w before all gs ts = ⊥

-- the objects are given: the world is the one with them
pub record AreGiven (l : Lookups) (g : Gifts) (old new : OwnWorld) : Type 0 where
  pub world : world_of (names_in l) new ≡ given_world (names_in l) old g
  pub spots : length (spots_of new) ≡ length (gift_spots old g)
  pub sound : IsSound l new
  pub locks : new.locks ≡ old.locks

-- an object that a move on a field names, taken first
pub record IsOnTaken (l : Lookups) (o : Outside) (w : OwnWorld) (before : World) (all : Gifts) (g : Given) (t : Taken) : Type 0 where
  pub allowed : t.allowed ≡ may_give (run_face l) (outer_of l.program.now o) before g
  pub fine : IsGivenFine l w all t.datum

abbrev pub OnTaken : Lookups → Outside → OwnWorld → World → Gifts → Option Given → Option Taken → Type 0
OnTaken l o w before all None None = Unit {0}
OnTaken l o w before all (Some g) (Some t) = IsOnTaken l o w before all g t
OnTaken l o w before all g t = ⊥

-- a field that a class defines at a place
pub record IsFieldAt (p : Program) (at : FieldAt) (f : Field) : Type 0 where
  pub class : Class
  pub within : slice_get p.classes at.class ≡ Some class
  pub is : slice_get class.fields at.place ≡ Some f

-- the type numbers of what a call passes, the receiver's first unless it is static
abbrev pub receiver_numbers : Bool → ℕ → List ℕ
receiver_numbers true class = []
receiver_numbers false class = class ∷ []

abbrev pub passed_numbers : Bool → MethodName → Proto → List ℕ
passed_numbers static m q = receiver_numbers static m.class ++ q.parameters

-- whether a search finds the method at a place
abbrev pub finds_at : MethodAt → Search → Bool
finds_at at (find.Finds one) = nat_eq one.class at.class && nat_eq one.place at.place
finds_at at search = false
