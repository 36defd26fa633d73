use Rattle.std.proofs.Common.{◌≡◌, is_some, ◌∙◌, rules}
use Rattle.if_text.proofs.Halts.{keep_found}
use Rattle.if_text.proofs.tokens.is_keep.Goals as goal

pub returns : goal.returns
returns c =
    let is : c.is_some.result ≡ is_some c.keep_kind.result = search rules in
    is ∙ keep_found c.args.word.now c.keep_kind.result c.keep_kind.ensures
