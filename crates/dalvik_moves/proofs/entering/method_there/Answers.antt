use Rattle.std.proofs.Common.{◌∙◌, ap, sym}
use Rattle.std.specs.Option.{option_copied}
use Rattle.dalvik_moves.proofs.Framed.{member_found, member_lacks}
use Rattle.dalvik_moves.proofs.entering.method_there.Goals as goal

pub returns-in-Some : goal.returns-in-Some
returns-in-Some c = λ a e.
    let l = c.args.tables.now.lookups in
    member_found l a c.args.at c.in-Some.method.now e (sym c.method.ensures ∙ ap option_copied c.in-Some.is)

pub returns-in-None : goal.returns-in-None
returns-in-None c = λ a e.
    let l = c.args.tables.now.lookups in
    member_lacks l a c.args.at e (sym c.method.ensures ∙ ap option_copied c.in-None.is)
