use Rattle.std.proofs.Common.{sym, subst, ◌∙◌}
use Rattle.std.specs.Prelude.{Some}
use Rattle.dalvik_state.specs.Drafts.{first_place, IsShown}
use Rattle.dalvik_state.specs.Worlds.{place_at, spots_of}
use Rattle.dalvik_defs.specs.declared.events.Shown.TheVariants.{First}
use Rattle.dalvik_state.proofs.Showing.{first_shown, object_low, object_value}
use Rattle.dalvik_state.proofs.shows.show_typed.Goals as goal

pub returns-else-is_printed-clause-shown : goal.returns-else-is_printed-clause-shown
returns-else-is_printed-clause-shown c = λ l declared v s room o.
    let w = c.args.world.now in
    let x = c.args.number in
    let new = c.show_first.new.world in
    let t = c.args.kind in
    subst (IsShown l declared v w new) (sym c.show_first.ensures.shown) (object_value l declared v x (Some t) w new (First (first_place w.exposed.items (place_at (spots_of w) x)) t) o
    (first_shown l declared t x w new s (object_low l v x (Some t) w o) (sym c.is_printed.ensures ∙ c.if-is_printed.false) o.typed (c.show_first.ensures.world room)))
