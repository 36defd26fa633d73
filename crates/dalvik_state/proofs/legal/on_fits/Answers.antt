use Rattle.std.proofs.Common.{ap, refl, sym, subst, Option, false, ◌≡◌, ◌∙◌}
use Rattle.std.specs.Prelude.{◌&&◌}
use Rattle.std.specs.Option.{option_map}
use Rattle.dalvik_defs.specs.Gives.{is_on}
use Rattle.dalvik_defs.specs.Legal.{on_fits}
use Rattle.dalvik_defs.specs.Naming.{field_at}
use Rattle.dalvik_defs.specs.Outer.{outer_of}
use Rattle.dalvik_lookups.specs.Facing.{run_face}
use Rattle.dalvik_state.specs.declared.gifts.Taken.{Taken}
use Rattle.dalvik_state.specs.Drafts.{given_world}
use Rattle.dalvik_state.specs.Giving.{OnTaken}
use Rattle.dalvik_state.specs.Views.{names_in, value_of}
use Rattle.dalvik_state.proofs.Judging.{field_class, field_static, on_fine, on_none, on_some}
use Rattle.dalvik_state.proofs.Results.{if_ok}
use Rattle.dalvik_state.proofs.legal.on_fits.Goals as goal

pub returns-in-None-clause-is : goal.returns-in-None-clause-is
returns-in-None-clause-is c = λ o before g place r k gi on at e.
    let l = c.args.tables.now.lookups in
    let w = c.args.world.now in
    let all = c.args.gifts.now in
    let key = field_at l.program.now c.args.at.1.now.name in
    subst (λ (x : Option Taken). c.has-is_static.result ≡ on_fits (run_face l) (outer_of l.program.now o) before (given_world (names_in l) w all) key place g (option_map (λ t. value_of (names_in l) t.datum) x)) (sym c.in-None.is)
    (on_none l r o w before all key place g c.has-is_static.result (subst (OnTaken l o w before all g) c.in-None.is on) (c.has-is_static.ensures ∙ field_static l r c.args.at.0 c.args.at.1.now place at e))

pub returns-then-not-is_open-clause-is : goal.returns-then-not-is_open-clause-is
returns-then-not-is_open-clause-is c = λ o before g place r k gi on at e.
    let l = c.args.tables.now.lookups in
    let w = c.args.world.now in
    let all = c.args.gifts.now in
    let key = field_at l.program.now c.args.at.1.now.name in
    let t = c.in-Some.taken in
    let v = value_of (names_in l) t.datum in
    let last = is_on (run_face l) (given_world (names_in l) w all) v key.class in
    subst (λ (x : Option Taken). false ≡ on_fits (run_face l) (outer_of l.program.now o) before (given_world (names_in l) w all) key place g (option_map (λ t. value_of (names_in l) t.datum) x)) (sym c.in-Some.is)
    (ap (λ b. b && last) c.if-not-is_open.ensures
    ∙ on_some l r o w before all key place g t c.has-is_static.result last (subst (OnTaken l o w before all g) c.in-Some.is on) (c.has-is_static.ensures ∙ field_static l r c.args.at.0 c.args.at.1.now place at e) refl)

pub returns-else-not-is_open-clause-kept : goal.returns-else-not-is_open-clause-kept
returns-else-not-is_open-clause-kept c = λ r k g at. c.is_on.ensures.kept r k g (c.kind_of_class-kind.ensures r at.class at.within).kind

pub returns-else-not-is_open-clause-is : goal.returns-else-not-is_open-clause-is
returns-else-not-is_open-clause-is c = λ o before g place r k gi on at e.
    let l = c.args.tables.now.lookups in
    let w = c.args.world.now in
    let all = c.args.gifts.now in
    let key = field_at l.program.now c.args.at.1.now.name in
    let t = c.in-Some.taken in
    let v = value_of (names_in l) t.datum in
    let own = c.kind_of_class-kind.ensures r at.class at.within in
    let here = subst (OnTaken l o w before all g) c.in-Some.is on in
    if_ok c.is_on.result _ _ (c.is_on.ensures.is r k gi (on_fine l r o w before all key place g t here) own.kind)
    (λ b q. subst (λ (x : Option Taken). b ≡ on_fits (run_face l) (outer_of l.program.now o) before (given_world (names_in l) w all) key place g (option_map (λ t. value_of (names_in l) t.datum) x)) (sym c.in-Some.is)
    (ap (λ x. x && b) c.if-not-is_open.ensures
    ∙ on_some l r o w before all key place g t c.has-is_static.result b here (c.has-is_static.ensures ∙ field_static l r c.args.at.0 c.args.at.1.now place at e)
    (q ∙ ap (is_on (run_face l) (given_world (names_in l) w all) v) (own.text ∙ field_class l r c.args.at.0 c.args.at.1.now at))))
