use Rattle.std.proofs.Common.{sym, subst}
use Rattle.std.specs.Prelude.{Option, None}
use Rattle.dalvik_defs.specs.Names.{Text}
use Rattle.dalvik_state.specs.Drafts.{again, IsObject, IsShown}
use Rattle.dalvik_state.specs.Views.{names_in, world_of}
use Rattle.dalvik_state.specs.Worlds.{place_at, spots_of}
use Rattle.dalvik_state.proofs.Showing.{again_shown, object_known, object_value}
use Rattle.dalvik_state.proofs.shows.show_object.Goals as goal

pub returns-in-Some-clause-shown : goal.returns-in-Some-clause-shown
returns-in-Some-clause-shown c = λ l declared v s room o. c.show_typed.ensures.shown l declared v s room (subst (λ (t : Option Text). IsObject (world_of (names_in l) c.args.world.now) v c.args.number t) c.in-Some.is o)

pub returns-in-None-clause-shown : goal.returns-in-None-clause-shown
returns-in-None-clause-shown c = λ l declared v s room o.
    let w = c.args.world.now in
    let x = c.args.number in
    let known : IsObject (world_of (names_in l) w) v x None = subst (λ (t : Option Text). IsObject (world_of (names_in l) w) v x t) c.in-None.is o in
    subst (IsShown l declared v w w) (sym c.show_again.ensures) (object_value l declared v x None w w (again (place_at (spots_of w) x)) known (again_shown l declared x w s (object_known l v x w s known)))
