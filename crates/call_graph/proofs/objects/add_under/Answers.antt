use Rattle.std.proofs.Common.{refl}
use Rattle.call_graph.proofs.Noting.{under_one}
use Rattle.call_graph.proofs.Reaching.{under_reached}
use Rattle.call_graph.proofs.objects.add_under.Goals as goal

pub returns-clause-notes : goal.returns-clause-notes
returns-clause-notes c = λ is are.
    under_one c.args.at.now.program.now c.args.notes.now _ c.args.kind c.args.class c.args.out.now.items c.add_all_called.new.out.items c.row.result.now (record { rows = c.in_ok-add.ensures.rows }) c.in_ok-add.ensures.size
    refl refl (c.in_ok-add_all_called.ensures.ready are.walk) c.in_ok-add_all_called.ensures.stays c.row.ensures (c.in_ok-add_all_called.ensures.adds is are.walk) are

pub returns-clause-reached : goal.returns-clause-reached
returns-clause-reached c = λ o t is are under notes facts.
    under_reached c.args.at.now.program.now o t c.args.notes.now _ c.args.kind c.args.class c.args.out.now.items c.add_all_called.new.out.items c.row.result.now (record { rows = c.in_ok-add.ensures.rows })
    refl c.row.ensures (c.in_ok-add_all_called.ensures.adds is are.walk) under notes facts
