use Rattle.std.proofs.Common.{◌∙◌}
use Rattle.dalvik_lookups.specs.Views.{type_text}
use Rattle.dalvik_state.specs.Views.{names_in, world_of}
use Rattle.dalvik_moves.proofs.Answered.{answer_none, answer_some}
use Rattle.dalvik_moves.proofs.answering.may_answer.Goals as goal

pub returns-in-None-clause-is : goal.returns-in-None-clause-is
returns-in-None-clause-is c = λ o g r k i h.
    let l = c.args.tables.now.lookups in
    c.is_void.ensures r.tabled.named.types ∙ answer_none l o c.args.state.now.world c.args.gifts.now g c.args.answer (type_text l.types c.args.kind) c.in-None.is h

pub returns-in-Some-clause-is : goal.returns-in-Some-clause-is
returns-in-Some-clause-is c = λ o g r k i h.
    let l = c.args.tables.now.lookups in
    let w = c.args.state.now.world in
    answer_some l o w c.args.gifts.now g c.args.answer c.in-Some.given (type_text l.types c.args.kind) c.fits.result c.in-Some.is h
    (λ x t. c.fits.ensures.is o (world_of (names_in l) w) x r k t.given t.fine t.gift t.allowed i)
