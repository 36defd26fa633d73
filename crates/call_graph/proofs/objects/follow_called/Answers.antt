use Rattle.std.proofs.Common.{refl, sym, ap, ◌∙◌, ◌≡◌, Some}
use Rattle.program_model.specs.declared.pools.MethodName.{MethodName}
use Rattle.call_graph.proofs.Noting.{call_one}
use Rattle.call_graph.proofs.Reaching.{called_reached}
use Rattle.call_graph.proofs.objects.follow_called.Goals as goal

some_same : (x y : MethodName) → Some x ≡ Some y → x ≡ y
some_same x y e = cc

pub returns-in_ok-add_on_all-in-Some-clause-notes : goal.returns-in_ok-add_on_all-in-Some-clause-notes
returns-in_ok-add_on_all-in-Some-clause-notes c = λ is are.
    call_one c.args.at.now.program.now c.args.notes.now _ c.in-Some.name.now.class c.args.number c.args.out.now.items c.add_on_all.new.out.items c.row.result.now (record { rows = c.in_ok-add-in-Some.ensures.rows }) c.in_ok-add-in-Some.ensures.size
    refl refl (c.in_ok-add_on_all-in-Some.ensures.ready are.walk) c.in_ok-add_on_all-in-Some.ensures.stays c.row.ensures (c.in_ok-add_on_all-in-Some.ensures.adds is are.walk) are
    (λ q e. ap (λ m. m.class) (some_same q c.in-Some.name.now (sym e ∙ sym c.in-Some.ensures)))

pub returns-in_ok-add_on_all-in-Some-clause-reached : goal.returns-in_ok-add_on_all-in-Some-clause-reached
returns-in_ok-add_on_all-in-Some-clause-reached c = λ o t is are called notes facts.
    called_reached c.args.at.now.program.now o t c.args.notes.now _ c.in-Some.name.now.class c.args.number c.in-Some.name.now c.args.out.now.items c.add_on_all.new.out.items c.row.result.now (record { rows = c.in_ok-add-in-Some.ensures.rows })
    refl c.row.ensures (c.in_ok-add_on_all-in-Some.ensures.adds is are.walk) (sym c.in-Some.ensures) refl called notes facts
