use Rattle.std.proofs.Common.{subst}
use Rattle.dalvik_state.specs.Drafts.{IsDraft}
use Rattle.dalvik_state.specs.Views.{names_in, world_of}
use Rattle.dalvik_state.proofs.shows.show.Goals as goal

pub returns-in-Object-clause-shown : goal.returns-in-Object-clause-shown
returns-in-Object-clause-shown c = λ l kind v s room d. c.show_object.ensures.shown l kind v s room (subst (IsDraft (world_of (names_in l) c.args.world.now) kind v) c.in-Object.is d).drafts
