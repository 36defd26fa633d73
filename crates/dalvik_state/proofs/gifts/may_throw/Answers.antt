use Rattle.std.proofs.Common.{sym, ◌∙◌}
use Rattle.dalvik_defs.specs.Outer.{outer_of}
use Rattle.dalvik_state.specs.Drafts.{given_world}
use Rattle.dalvik_state.specs.Views.{names_in, value_of}
use Rattle.dalvik_state.proofs.Fitting.{kind_stands, not_thrown, thrown}
use Rattle.dalvik_state.proofs.Results.{if_ok}
use Rattle.dalvik_state.proofs.gifts.may_throw.Goals as goal

pub returns-in_err-fit-clause-kept : goal.returns-in_err-fit-clause-kept
returns-in_err-fit-clause-kept c = λ r k g. c.fits.ensures.kept r k g (kind_stands c.args.tables.now.lookups c.plain-kind.result c.plain-kind.ensures r.tabled.named.types)

pub returns-else-fit-clause-kept : goal.returns-else-fit-clause-kept
returns-else-fit-clause-kept c = λ r k g. c.fits.ensures.kept r k g (kind_stands c.args.tables.now.lookups c.plain-kind.result c.plain-kind.ensures r.tabled.named.types)

pub returns-then-fit-clause-kept : goal.returns-then-fit-clause-kept
returns-then-fit-clause-kept c = λ r k g.
    let i = kind_stands c.args.tables.now.lookups c.plain-kind.result c.plain-kind.ensures r.tabled.named.types in
    c.is_on.ensures.kept r (c.fits.ensures.kept r k g i) g i

pub returns-then-fit-clause-is : goal.returns-then-fit-clause-is
returns-then-fit-clause-is c = λ o before g r k gi fine gift allowed.
    let l = c.args.tables.now.lookups in
    let i = kind_stands l c.plain-kind.result c.plain-kind.ensures r.tabled.named.types in
    if_ok c.is_on.result _ _ (c.is_on.ensures.is r (c.fits.ensures.kept r k gi i) gi fine i)
    (λ b e. thrown l c.plain-kind.result c.plain-kind.ensures r.tabled.named.types (outer_of l.program.now o) before (given_world (names_in l) c.args.world.now c.args.gifts.now) g (value_of (names_in l) c.args.given.1.datum) b
    (sym c.if-fit.true ∙ c.in_ok-fit.ensures.is o before g r k gi fine gift allowed i) e)

pub returns-else-fit-clause-is : goal.returns-else-fit-clause-is
returns-else-fit-clause-is c = λ o before g r k gi fine gift allowed.
    let l = c.args.tables.now.lookups in
    let i = kind_stands l c.plain-kind.result c.plain-kind.ensures r.tabled.named.types in
    not_thrown l c.plain-kind.result c.plain-kind.ensures r.tabled.named.types (outer_of l.program.now o) before (given_world (names_in l) c.args.world.now c.args.gifts.now) g (value_of (names_in l) c.args.given.1.datum)
    (sym c.if-fit.false ∙ c.in_ok-fit.ensures.is o before g r k gi fine gift allowed i)
