use Rattle.dalvik_steps.proofs.Born.{shown_goes}
use Rattle.dalvik_steps.proofs.objects.makes_outer.Goals as goal

pub returns-clause-ok : goal.returns-clause-ok
returns-clause-ok c = λ o floats script steps f h fine.
    shown_goes c.args.tables.now.lookups o floats script steps f c.args.state.now h c.makes_shown.new.state c.go_on_with.new.self c.args.kind c.args.to c.in_ok-reference.reference c.in_ok-reference.event (c.in_ok-reference.ensures.made h.state.world fine) c.go_on_with.ensures.stack c.go_on_with.ensures.rest
