use Rattle.std.proofs.Common.{◌∙◌, ap}
use Rattle.dalvik_lookups.specs.Tables.{search_of}
use Rattle.dalvik_state.specs.Giving.{finds_at}
use Rattle.dalvik_moves.proofs.Admitted.{initialiser_named, member}
use Rattle.dalvik_moves.proofs.entering.is_initialiser.Goals as goal

pub returns : goal.returns
returns c = λ own f r m.
    let l = c.args.tables.now.lookups in
    let at = c.args.at in
    c.is_at.ensures ∙ ap (λ o. finds_at at (search_of o)) (c.initialiser.ensures r) ∙ initialiser_named l r at own f (member l r at own f m)
