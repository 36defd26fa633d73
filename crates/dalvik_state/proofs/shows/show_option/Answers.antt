use Rattle.std.proofs.Common.{subst}
use Rattle.dalvik_state.specs.Drafts.{AreDrafts}
use Rattle.dalvik_state.specs.Views.{names_in, world_of}
use Rattle.dalvik_state.proofs.Showing.{option_shown}
use Rattle.dalvik_state.proofs.shows.show_option.Goals as goal

pub returns-in-Some-clause-shown : goal.returns-in-Some-clause-shown
returns-in-Some-clause-shown c = λ l kind v s room a. option_shown l kind v c.args.world.now c.show.new.world c.in-Some.draft c.show.result (subst (AreDrafts (world_of (names_in l) c.args.world.now) kind v) c.in-Some.is a) (λ u d. c.show.ensures.shown l kind u s room d)
