use Rattle.std.proofs.Common.{sym, subst}
use Rattle.dalvik_state.specs.Drafts.{AreAllShown}
use Rattle.dalvik_state.proofs.shows.Drafts.show.Goals as goal

pub returns : goal.returns
returns c = λ l kinds values s room a. subst (AreAllShown l kinds values c.args.world.now c.show_each.new.world) (sym c.of_vec.ensures) (c.show_each.ensures l kinds values s room a.room a.empty a.drafts)
