-- Values that a step may show.
use Rattle.std.proofs.Common.{◌≡◌, ℕ, List, [], length, ap, refl, sym, subst, ◌∙◌}
use Rattle.std.specs.Prelude.{Option, Some, None}
use Rattle.std.specs.Option.{option_map}
use Rattle.dalvik_lookups.specs.Views.{AreTypes}
use Rattle.dalvik_lookups.specs.declared.lookups.Lookups.{Lookups}
use Rattle.dalvik_defs.specs.Names.{Text}
use Rattle.dalvik_defs.specs.State.{World as NamedWorld}
use Rattle.dalvik_defs.specs.declared.state.Value.{Value}
use Rattle.dalvik_state.specs.declared.datum.Datum.{Datum}
use Rattle.dalvik_state.specs.declared.gifts.Gifts.{Gifts}
use Rattle.dalvik_state.specs.declared.shows.Draft.{Draft}
use Rattle.dalvik_state.specs.declared.world.World.{World}
use Rattle.dalvik_state.specs.Drafts.{gift_spots, given_world, AreDrafts, AreDrawn, IsDraft, IsDrawn}
use Rattle.dalvik_state.specs.States.{AreKinds, IsSound}
use Rattle.dalvik_state.specs.Views.{names_in, value_of, world_of, IsFine}
use Rattle.dalvik_state.specs.Worlds.{spots_of, Spot}
use Rattle.dalvik_steps.specs.Reaching.{FineMaybe}
use Rattle.dalvik_steps.proofs.Searching.{none_given, none_spots}

module _ (l : Lookups) (types : AreTypes l.types) (w : World) (sound : IsSound l w) (g : Gifts) (none : g.things.items ≡ []) where
  pub drawn_one : (d : Datum) → IsFine (names_in l) (length (spots_of w)) d → IsDrawn l w g d
  drawn_one d f = record {
    types = types;
    sound = sound;
    kinds = subst (AreKinds l) (sym (none_spots w g none)) sound.kinds;
    fine = subst (λ (ss : List Spot). IsFine (names_in l) (length ss) d) (sym (none_spots w g none)) f;
  }

  pub drawn_maybe : (o : Option Datum) → FineMaybe (names_in l) (length (spots_of w)) o → AreDrawn l w g o
  drawn_maybe None f = record { drawn = tt }
  drawn_maybe (Some d) f = record { drawn = drawn_one d f }

-- with no objects of a move a draft is one in the world
pub draft_here : (l : Lookups) (w : World) (g : Gifts) (t k : Text) (v : Value) (d : Draft) → g.things.items ≡ [] → t ≡ k → IsDraft (given_world (names_in l) w g) t v d → IsDraft (world_of (names_in l) w) k v d
draft_here l w g t k v d none same h = subst (λ (x : Text). IsDraft (world_of (names_in l) w) x v d) same (subst (λ (u : NamedWorld). IsDraft u t v d) (none_given (names_in l) w g none) h)

pub drafts_here : (l : Lookups) (w : World) (g : Gifts) (t k : Text) (v : Option Value) (d : Option Draft) → g.things.items ≡ [] → t ≡ k → AreDrafts (given_world (names_in l) w g) t v d → AreDrafts (world_of (names_in l) w) k v d
drafts_here l w g t k v d none same h = subst (λ (x : Text). AreDrafts (world_of (names_in l) w) x v d) same (subst (λ (u : NamedWorld). AreDrafts u t v d) (none_given (names_in l) w g none) h)
