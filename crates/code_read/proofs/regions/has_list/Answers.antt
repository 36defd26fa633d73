use Rattle.std.proofs.Common.{◌∙◌}
use Rattle.code_read.proofs.Rises.{search_in}
use Rattle.code_read.proofs.regions.has_list.Goals as goal

pub returns : goal.returns
returns c =
    let p = rw c.as_slice.ensures.value at c.binary_search.ensures.position in
    c.is_ok.ensures.value ∙ search_in 65536 c.args.lists.now.offsets.items c.args.offset c.binary_search.result c.args.lists.now.rise p
    ∙ c.args.lists.now.same c.args.offset c.requires
