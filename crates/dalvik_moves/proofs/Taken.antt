-- What is taken for a move: the first value, and none.
use Rattle.std.proofs.Common.{◌≡◌, List, [], ◌++◌, map, ap, sym, subst, ◌∙◌, append-nil}
use Rattle.std.specs.Prelude.{Option, Some, None}
use Rattle.program_model.specs.declared.pass.Outside.{Outside}
use Rattle.dalvik_defs.specs.Gives.{gets, may_give}
use Rattle.dalvik_defs.specs.Outer.{outer_of}
use Rattle.dalvik_defs.specs.State.{World}
use Rattle.dalvik_defs.specs.declared.script.Given.{Given}
use Rattle.dalvik_lookups.specs.Facing.{run_face}
use Rattle.dalvik_lookups.specs.Playing.{AreBoth, IsGift}
use Rattle.dalvik_lookups.specs.declared.lookups.Lookups.{Lookups}
use Rattle.dalvik_lookups.specs.declared.plays.Gift.{Gift}
use Rattle.dalvik_state.specs.declared.gifts.Gifts.{Gifts}
use Rattle.dalvik_state.specs.declared.gifts.Taken.{Taken}
use Rattle.dalvik_state.specs.declared.world.Thing.{Thing as OwnThing}
use Rattle.dalvik_state.specs.declared.world.World.{World as OwnWorld}
use Rattle.dalvik_state.specs.Drafts.{give_all, gift_spots, given_things, given_world}
use Rattle.dalvik_state.specs.Giving.{IsGiven, Takes, TakesMaybe}
use Rattle.dalvik_state.specs.States.{AreKinds, IsSound}
use Rattle.dalvik_state.specs.Views.{names_in, world_of, AreFineSpots}
use Rattle.dalvik_state.specs.Worlds.{IsShort, new_spot, spots_of}
use Rattle.dalvik_moves.specs.Moving.{FirstMaybe, IsFirstTaken, IsNothingTaken}

-- ---- nothing has been taken

pub nothing_given : (l : Lookups) (w : OwnWorld) (g : Gifts) → g.things.items ≡ [] → given_world (names_in l) w g ≡ world_of (names_in l) w
nothing_given l w g e = ap (λ (ts : List OwnThing). give_all (world_of (names_in l) w) (given_things (names_in l) ts)) e

pub nothing_spots : (w : OwnWorld) (g : Gifts) → g.things.items ≡ [] → gift_spots w g ≡ spots_of w
nothing_spots w g e = ap (λ (ts : List OwnThing). spots_of w ++ map new_spot ts) e ∙ append-nil (spots_of w)

pub none_given : (l : Lookups) (w : OwnWorld) (g : Gifts) → IsSound l w → g.things.items ≡ [] → IsGiven l w g
none_given l w g s e = record {
  sound = s;
  kinds = subst (AreKinds l) (sym (nothing_spots w g e)) s.kinds;
  short = subst IsShort (sym (nothing_spots w g e)) s.short;
  fine = subst (λ (ts : List OwnThing). AreFineSpots (names_in l) 0 (map new_spot ts)) (sym e) (record { at = λ i x h. absurd (cc) });
}

-- ---- the first value

pub first_taken : (l : Lookups) (o : Outside) (w : OwnWorld) (old new : Gifts) (g : Given) (gift : Gift) (t : Taken) → old.things.items ≡ [] → IsGift l.types l.texts g gift → Takes l o w old new g t → IsFirstTaken l o w new g (gift, t)
first_taken l o w old new g gift t none is h = record {
  gift = is;
  got = ap (λ (v : World). gets v g) (sym (nothing_given l w old none)) ∙ h.got;
  allowed = h.allowed ∙ ap (λ (v : World). may_give (run_face l) (outer_of l.program.now o) v g) (nothing_given l w old none);
  given = h.given;
  fine = h.fine;
}

pub none_taken : (l : Lookups) (w : OwnWorld) (old new : Gifts) → old.things.items ≡ [] → IsGiven l w old → new ≡ old → IsNothingTaken l w new
none_taken l w old new none given e = record {
  same = ap (λ (g : Gifts). given_world (names_in l) w g) e ∙ nothing_given l w old none;
  given = subst (IsGiven l w) (sym e) given;
}

-- a value that may be none, beside what was taken of it
pub beside_both : (l : Lookups) (o : Outside) (w : OwnWorld) (old new : Gifts) (g : Option Given) (a : Option Gift) (b : Option Taken) (gift : Gift) (t : Taken) → a ≡ Some gift → b ≡ Some t → old.things.items ≡ [] → AreBoth (IsGift l.types l.texts) g a → TakesMaybe l o w old new g b → FirstMaybe l o w new g (Some (gift, t))
beside_both l o w old new None a b gift t ea eb none is h = absurd (subst (AreBoth (IsGift l.types l.texts) None) ea is)
beside_both l o w old new (Some g) a b gift t ea eb none is h = first_taken l o w old new g gift t none (subst (AreBoth (IsGift l.types l.texts) (Some g)) ea is) (subst (TakesMaybe l o w old new (Some g)) eb h)

pub beside_none : (l : Lookups) (o : Outside) (w : OwnWorld) (old new : Gifts) (g : Option Given) (a : Option Gift) (b : Option Taken) → a ≡ None → old.things.items ≡ [] → IsGiven l w old → AreBoth (IsGift l.types l.texts) g a → TakesMaybe l o w old new g b → FirstMaybe l o w new g None
beside_none l o w old new None a None ea none given is h = none_taken l w old new none given h
beside_none l o w old new None a (Some t) ea none given is h = absurd h
beside_none l o w old new (Some g) a b ea none given is h = absurd (subst (AreBoth (IsGift l.types l.texts) (Some g)) ea is)

pub beside_lone : (l : Lookups) (o : Outside) (w : OwnWorld) (old new : Gifts) (g : Option Given) (a : Option Gift) (b : Option Taken) → b ≡ None → old.things.items ≡ [] → IsGiven l w old → AreBoth (IsGift l.types l.texts) g a → TakesMaybe l o w old new g b → FirstMaybe l o w new g None
beside_lone l o w old new None a b eb none given is h = none_taken l w old new none given (subst (TakesMaybe l o w old new None) eb h)
beside_lone l o w old new (Some g) a b eb none given is h = absurd (subst (TakesMaybe l o w old new (Some g)) eb h)
