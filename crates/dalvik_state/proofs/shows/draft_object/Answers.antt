use Rattle.std.proofs.Common.{sym, ◌∙◌}
use Rattle.dalvik_state.proofs.Showing.{object_printed, object_typed}
use Rattle.dalvik_state.proofs.shows.draft_object.Goals as goal

pub returns-then-is_printed : goal.returns-then-is_printed
returns-then-is_printed c = λ kind d. object_printed c.args.tables.now.lookups c.args.world.now c.args.gifts.now c.args.number kind d (sym c.is_printed.ensures ∙ c.if-is_printed.true)

pub returns : goal.returns
returns c = λ kind d. object_typed c.args.tables.now.lookups c.args.world.now c.args.gifts.now c.args.number kind c.in_ok-kind.kind d c.in_ok-kind.ensures
