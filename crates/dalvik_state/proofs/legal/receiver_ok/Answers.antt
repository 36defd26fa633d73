use Rattle.std.proofs.Common.{ap, refl, sym, true, false, ◌∙◌}
use Rattle.dalvik_defs.specs.Legal.{may_reach}
use Rattle.dalvik_defs.specs.Outer.{outer_of}
use Rattle.dalvik_defs.specs.State.{kind_of}
use Rattle.dalvik_lookups.specs.Facing.{run_face}
use Rattle.dalvik_lookups.specs.Views.{type_text}
use Rattle.dalvik_state.specs.Drafts.{gift_spots, given_world, kind_text}
use Rattle.dalvik_state.specs.Views.{names_in, value_of}
use Rattle.dalvik_state.proofs.Gifted.{kind_named, kind_there, on_none, on_some}
use Rattle.dalvik_state.proofs.Judging.{found_class, method_there, placed, receiver_named}
use Rattle.dalvik_state.proofs.Results.{if_ok}
use Rattle.dalvik_state.proofs.legal.receiver_ok.Goals as goal

pub returns-in-None-clause-is : goal.returns-in-None-clause-is
returns-in-None-clause-is c = λ o f vs r reach k g fine at e.
    let l = c.args.tables.now.lookups in
    let w = given_world (names_in l) c.args.world.now c.args.gifts.now in
    let v = value_of (names_in l) c.args.receiver in
    receiver_named l r o w v vs f false (may_reach (run_face l) (outer_of l.program.now o) (kind_of w v) f)
    (on_none l w (gift_spots c.args.world.now c.args.gifts.now) c.args.receiver f.key.class fine (sym c.in-None.ensures)) refl

pub returns-in_err-under-clause-kept : goal.returns-in_err-under-clause-kept
returns-in_err-under-clause-kept c = λ o r reach k g at.
    let l = c.args.tables.now.lookups in
    let q = placed l r c.args.found.0 c.args.found.1.now at in
    c.is_under.ensures.kept r k (kind_there l (gift_spots c.args.world.now c.args.gifts.now) c.args.receiver c.in-Some.own r.tabled.named.types g.kinds (sym c.in-Some.ensures)) (c.kind_of_class-class.ensures r q.class q.is_class).kind

pub returns-else-under-clause-kept : goal.returns-else-under-clause-kept
returns-else-under-clause-kept c = λ o r reach k g at.
    let l = c.args.tables.now.lookups in
    let q = placed l r c.args.found.0 c.args.found.1.now at in
    c.is_under.ensures.kept r k (kind_there l (gift_spots c.args.world.now c.args.gifts.now) c.args.receiver c.in-Some.own r.tabled.named.types g.kinds (sym c.in-Some.ensures)) (c.kind_of_class-class.ensures r q.class q.is_class).kind

pub returns-then-under-clause-kept : goal.returns-then-under-clause-kept
returns-then-under-clause-kept c = λ o r reach k g at.
    let l = c.args.tables.now.lookups in
    let q = placed l r c.args.found.0 c.args.found.1.now at in
    let own = kind_there l (gift_spots c.args.world.now c.args.gifts.now) c.args.receiver c.in-Some.own r.tabled.named.types g.kinds (sym c.in-Some.ensures) in
    c.may_reach.ensures.kept o r reach (c.is_under.ensures.kept r k own (c.kind_of_class-class.ensures r q.class q.is_class).kind) own at

pub returns-else-under-clause-is : goal.returns-else-under-clause-is
returns-else-under-clause-is c = λ o f vs r reach k g fine at e.
    let l = c.args.tables.now.lookups in
    let w = given_world (names_in l) c.args.world.now c.args.gifts.now in
    let v = value_of (names_in l) c.args.receiver in
    let spots = gift_spots c.args.world.now c.args.gifts.now in
    let h = method_there l r c.args.found.0 f c.args.found.1.now e at in
    let is = sym c.in-Some.ensures in
    let own = kind_there l spots c.args.receiver c.in-Some.own r.tabled.named.types g.kinds is in
    let class = c.kind_of_class-class.ensures r h.class h.is_class in
    let text = kind_named l c.args.world.now c.args.gifts.now c.args.receiver r.tabled.named.types g.kinds ∙ ap (kind_text l) is in
    receiver_named l r o w v vs f false (may_reach (run_face l) (outer_of l.program.now o) (kind_of w v) f)
    (sym c.if-under.false ∙ c.in_ok-under.ensures.answer r k own class.kind ∙ ap (λ t. (run_face l).under (type_text l.types c.in-Some.own) t) (class.text ∙ found_class l r c.args.found.0 c.args.found.1.now f h)
    ∙ on_some l w spots c.args.receiver c.in-Some.own f.key.class is text) refl

pub returns-then-under-clause-is : goal.returns-then-under-clause-is
returns-then-under-clause-is c = λ o f vs r reach k g fine at e.
    let l = c.args.tables.now.lookups in
    let w = given_world (names_in l) c.args.world.now c.args.gifts.now in
    let v = value_of (names_in l) c.args.receiver in
    let spots = gift_spots c.args.world.now c.args.gifts.now in
    let h = method_there l r c.args.found.0 f c.args.found.1.now e at in
    let is = sym c.in-Some.ensures in
    let own = kind_there l spots c.args.receiver c.in-Some.own r.tabled.named.types g.kinds is in
    let class = c.kind_of_class-class.ensures r h.class h.is_class in
    let text = kind_named l c.args.world.now c.args.gifts.now c.args.receiver r.tabled.named.types g.kinds ∙ ap (kind_text l) is in
    if_ok c.may_reach.result _ _ (c.may_reach.ensures.is o f r reach (c.is_under.ensures.kept r k own class.kind) own at e)
    (λ b q. receiver_named l r o w v vs f true b
    (sym c.if-under.true ∙ c.in_ok-under.ensures.answer r k own class.kind ∙ ap (λ t. (run_face l).under (type_text l.types c.in-Some.own) t) (class.text ∙ found_class l r c.args.found.0 c.args.found.1.now f h)
    ∙ on_some l w spots c.args.receiver c.in-Some.own f.key.class is text)
    (q ∙ ap (λ t. may_reach (run_face l) (outer_of l.program.now o) t f) (sym text)))
