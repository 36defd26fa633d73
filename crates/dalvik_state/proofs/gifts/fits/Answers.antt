use Rattle.std.proofs.Common.{◌∙◌}
use Rattle.dalvik_defs.specs.Outer.{outer_of}
use Rattle.dalvik_lookups.specs.Views.{type_text}
use Rattle.dalvik_state.specs.Drafts.{given_world}
use Rattle.dalvik_state.specs.Views.{names_in, value_of}
use Rattle.dalvik_state.proofs.Fitting.{is_allowed, not_allowed}
use Rattle.dalvik_state.proofs.Results.{if_ok}
use Rattle.dalvik_state.proofs.gifts.fits.Goals as goal

pub returns-then-allowed-clause-is : goal.returns-then-allowed-clause-is
returns-then-allowed-clause-is c = λ o before g r kept gi fine gift allowed i.
    let l = c.args.tables.now.lookups in
    if_ok c.value_fits.result _ _ (c.value_fits.ensures.is g r kept gi fine gift i)
    (λ b e. e ∙ is_allowed l (outer_of l.program.now o) before (given_world (names_in l) c.args.world.now c.args.gifts.now) g (value_of (names_in l) c.args.given.1.datum) (type_text l.types c.args.kind) c.args.given.1.allowed allowed c.if-allowed.true)

pub returns-else-allowed-clause-is : goal.returns-else-allowed-clause-is
returns-else-allowed-clause-is c = λ o before g r kept gi fine gift allowed i.
    let l = c.args.tables.now.lookups in
    not_allowed l (outer_of l.program.now o) before (given_world (names_in l) c.args.world.now c.args.gifts.now) g (value_of (names_in l) c.args.given.1.datum) (type_text l.types c.args.kind) c.args.given.1.allowed allowed c.if-allowed.false
