use Rattle.std.proofs.Common.{ap, sym, ◌∙◌}
use Rattle.dalvik_lookups.specs.Views.{type_text}
use Rattle.dalvik_state.specs.Drafts.{gift_spots, given_world, kind_text}
use Rattle.dalvik_state.specs.Views.{names_in}
use Rattle.dalvik_state.proofs.Gifted.{kind_named, kind_there, on_none, on_some}
use Rattle.dalvik_state.proofs.Results.{if_ok}
use Rattle.dalvik_state.proofs.gifts.Gifts.is_on.Goals as goal

pub returns-in-Some-clause-kept : goal.returns-in-Some-clause-kept
returns-in-Some-clause-kept c = λ r k g i.
    c.is_under.ensures.kept r k (kind_there c.args.tables.now.lookups (gift_spots c.args.world.now c.args.self.now) c.args.datum c.in-Some.own r.tabled.named.types g.kinds (sym c.in-Some.ensures)) i

pub returns-in-Some-clause-is : goal.returns-in-Some-clause-is
returns-in-Some-clause-is c = λ r k g f i.
    let l = c.args.tables.now.lookups in
    let spots = gift_spots c.args.world.now c.args.self.now in
    let own = sym c.in-Some.ensures in
    if_ok c.is_under.result _ _ (c.is_under.ensures.answer r k (kind_there l spots c.args.datum c.in-Some.own r.tabled.named.types g.kinds own) i)
    (λ b e. e ∙ on_some l (given_world (names_in l) c.args.world.now c.args.self.now) spots c.args.datum c.in-Some.own (type_text l.types c.args.kind) own
    (kind_named l c.args.world.now c.args.self.now c.args.datum r.tabled.named.types g.kinds ∙ ap (kind_text l) own))

pub returns-in-None-clause-is : goal.returns-in-None-clause-is
returns-in-None-clause-is c = λ r k g f i.
    let l = c.args.tables.now.lookups in
    on_none l (given_world (names_in l) c.args.world.now c.args.self.now) (gift_spots c.args.world.now c.args.self.now) c.args.datum (type_text l.types c.args.kind) f (sym c.in-None.ensures)
