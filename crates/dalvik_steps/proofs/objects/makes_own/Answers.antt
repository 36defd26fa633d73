use Rattle.std.proofs.Common.{refl}
use Rattle.dalvik_steps.proofs.Born.{made_goes}
use Rattle.dalvik_steps.proofs.Nexts.{err_of}
use Rattle.dalvik_steps.proofs.Reserved.{items_heap, reserved_world}
use Rattle.dalvik_steps.proofs.objects.makes_own.Goals as goal

pub returns-clause-ok : goal.returns-clause-ok
returns-clause-ok c = λ l o floats script steps f h fine.
    made_goes l o floats script steps f c.args.state.now h (record c.args.state.now { world = c.add.new.self }) c.go_on_with.new.self c.add.new.self c.args.kind c.args.to c.in_ok-reference.reference c.in_ok-reference.ensures.heap fine c.in_ok-reference.ensures.datum refl c.go_on_with.ensures.stack c.go_on_with.ensures.rest

pub returns-in_err-reference-clause-err : goal.returns-in_err-reference-clause-err
returns-in_err-reference-clause-err c = err_of _ _ (reserved_world c.args.state.now c.add.new.self (items_heap c.args.state.now.world c.add.new.self c.in_err-reference.ensures.err))
