use Rattle.std.proofs.Common.{ap, ◌∙◌, Some}
use Rattle.dex_write.specs.Lists.{lists_in}
use Rattle.dex_write.proofs.ListLemmas.{lists_with_key, index_of_key, not_empty}
use Rattle.dex_write.proofs.lists.know.Goals as goal

pub returns-clause-lists : goal.returns-clause-lists
returns-clause-lists c = ap lists_in c.in_ok-index.ensures.keys ∙ lists_with_key c.args.known.now.keys c.args.list (not_empty c.args.list.items (rw c.as_slice.ensures.value at c.if-is_empty.ensures))

pub returns-clause-index : goal.returns-clause-index
returns-clause-index c = ap (λ n. Some n) c.in_ok-index.ensures.index ∙ index_of_key c.args.known.now.keys c.args.list (not_empty c.args.list.items (rw c.as_slice.ensures.value at c.if-is_empty.ensures))
