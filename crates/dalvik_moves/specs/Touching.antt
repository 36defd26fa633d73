-- What a move on a field or an array has taken, and the room that it needs.
use Rattle.std.specs.Prelude.{◌≡◌, Bool, true, false, length, Option, Some, None}
use Rattle.std.specs.Option.{option_map}
use Rattle.program_model.specs.declared.pass.Outside.{Outside}
use Rattle.dalvik_defs.specs.Moves.{got}
use Rattle.dalvik_defs.specs.declared.script.Given.{Given}
use Rattle.dalvik_lookups.specs.declared.lookups.Lookups.{Lookups}
use Rattle.dalvik_lookups.specs.declared.plays.Gift.{Gift}
use Rattle.dalvik_lookups.specs.declared.plays.Gift.TheVariants as gift
use Rattle.dalvik_lookups.specs.declared.types.Kind.{Kind}
use Rattle.dalvik_state.specs.declared.datum.Datum.{Datum}
use Rattle.dalvik_state.specs.declared.gifts.Gifts.{Gifts}
use Rattle.dalvik_state.specs.declared.gifts.Taken.{Taken}
use Rattle.dalvik_state.specs.declared.world.World.{World as OwnWorld}
use Rattle.dalvik_state.specs.Drafts.{given_world}
use Rattle.dalvik_state.specs.Giving.{IsGiven, OnTaken}
use Rattle.dalvik_state.specs.States.{HasRoom, HasSpace}
use Rattle.dalvik_state.specs.Views.{names_in, value_of, world_of}
use Rattle.dalvik_steps.specs.Reaching.{HasFieldRoom}

-- an object that a move on a field names was taken, and the objects of the move are those that it needs
pub record IsGot (l : Lookups) (o : Outside) (w : OwnWorld) (g : Option Given) (all : Gifts) (t : Option Taken) : Type 0 where
  pub got : got (world_of (names_in l) w) g ≡ (given_world (names_in l) w all, option_map (λ (x : Taken). value_of (names_in l) x.datum) t)
  pub on : OnTaken l o w (world_of (names_in l) w) all g t
  pub given : IsGiven l w all

-- a new object of a class
abbrev pub is_new : Option Gift → Bool
is_new (Some (gift.New kind)) = true
is_new other = false

-- there is room for the objects of a move, and for a field that is written
pub record HasRoomFor (w : OwnWorld) (g : Gifts) : Type 0 where
  pub room : HasRoom w (length g.things.items)
  pub space : HasSpace w (length g.things.items)
  pub field : HasFieldRoom w

-- the item type of an array that has an item there
abbrev pub kind_there : Option (Kind × Option Datum) → Option Kind
kind_there (Some (kind, Some d)) = Some kind
kind_there other = None
