use Rattle.std.proofs.Common.{sym, ◌∙◌}
use Rattle.dalvik_lookups.specs.Views.{type_text}
use Rattle.dalvik_state.specs.Drafts.{given_world}
use Rattle.dalvik_state.specs.Views.{names_in, value_of}
use Rattle.dalvik_state.proofs.Fitting.{other_fits, under_fits}
use Rattle.dalvik_state.proofs.Results.{if_ok}
use Rattle.dalvik_state.proofs.gifts.reference_fits.Goals as goal

pub returns-then-is_strict-clause-is : goal.returns-then-is_strict-clause-is
returns-then-is_strict-clause-is c = λ r k g f i.
    let l = c.args.tables.now.lookups in
    if_ok c.is_on.result _ _ (c.is_on.ensures.is r k g f i)
    (λ b e. e ∙ under_fits l (given_world (names_in l) c.args.world.now c.args.gifts.now) (value_of (names_in l) c.args.datum) (type_text l.types c.args.kind) (sym (c.if-is_strict.ensures r i)))

pub returns-else-is_strict-clause-is : goal.returns-else-is_strict-clause-is
returns-else-is_strict-clause-is c = λ r k g f i.
    let l = c.args.tables.now.lookups in
    c.is_reference.ensures r.tabled.named.types
    ∙ other_fits l (given_world (names_in l) c.args.world.now c.args.gifts.now) (value_of (names_in l) c.args.datum) (type_text l.types c.args.kind) (sym (c.if-is_strict.ensures r i))
