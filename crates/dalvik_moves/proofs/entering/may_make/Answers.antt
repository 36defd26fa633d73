use Rattle.std.proofs.Common.{◌∙◌, sym}
use Rattle.dalvik_moves.proofs.Created.{makes_concrete, makes_none}
use Rattle.dalvik_moves.proofs.entering.may_make.Goals as goal

pub returns-then-not-is_constructed : goal.returns-then-not-is_constructed
returns-then-not-is_constructed c = λ o t r reach there.
    let l = c.args.tables.now.lookups in
    makes_none l r o c.args.class t there (sym c.if-not-is_constructed.true ∙ c.is_constructed.ensures o t r reach there)

pub returns : goal.returns
returns c = λ o t r reach there.
    let l = c.args.tables.now.lookups in
    makes_concrete l r o c.args.class t there c.is_concrete.result (sym c.if-not-is_constructed.false ∙ c.is_constructed.ensures o t r reach there) (c.is_concrete.ensures t r there)
