use Rattle.std.proofs.Common.{subst}
use Rattle.keep_rules.specs.View.{AddsEach}
use Rattle.keep_rules.proofs.ViewLemmas.{each_first}
use Rattle.keep_rules.proofs.tables.add_below.Goals as goal

pub returns : goal.returns
returns c = each_first c.args.class.now.superclass c.args.class.now.interfaces c.args.place c.args.below.now.items c.add_to.new.lists.items c.add_to_each.new.lists.items c.in_ok-add_to.ensures (subst (λ ks. AddsEach ks c.args.place c.add_to.new.lists.items c.add_to_each.new.lists.items) c.as_slice.ensures c.in_ok-add_to_each.ensures)
