use Rattle.std.proofs.Common.{ap, ◌∙◌}
use Rattle.code_write.specs.Lists.{lists_in}
use Rattle.code_write.proofs.Known.{lists_with_key}
use Rattle.inline_calls.proofs.lists.note_list.Goals as goal

pub returns : goal.returns
returns c = ap lists_in c.in_ok-_index.ensures.keys ∙ lists_with_key c.args.known.now.keys c.args.list
