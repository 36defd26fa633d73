use Rattle.std.proofs.Common.{arith, refl}
use Rattle.walk_marks.specs.Walks.{is_on}
use Rattle.compact.proofs.Naming.{named_none, named_step, named_all}
use Rattle.compact.proofs.used.names_of.Goals as goal

pub loop-register-init : goal.loop-register-init
loop-register-init c = named_none _ c.new-names.result.items c.new-names.ensures.items

pub loop-register-preserved : goal.loop-register-preserved
loop-register-preserved c = named_step (is_on c.args.used.now) c.loop-register.register c.loop-register.register c.loop-register.names.items c.add_if.new.names.items refl c.loop-register.invariant c.in_ok-add_if.ensures

pub returns : goal.returns
returns c = named_all c.args.used.now c.loop-register.register c.loop-register.names.items (omega arith) c.loop-register.invariant
