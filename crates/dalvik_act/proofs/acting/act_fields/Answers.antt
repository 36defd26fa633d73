use Rattle.std.proofs.Common.{subst}
use Rattle.dalvik_act.specs.Acted.{Fits}
use Rattle.dalvik_act.proofs.Bodies.{got_field, got_static}
use Rattle.dalvik_act.proofs.Safe.{held_fine}
use Rattle.dalvik_act.proofs.acting.act_fields.Goals as goal

pub returns-in-InstanceGet-clause-fine : goal.returns-in-InstanceGet-clause-fine
returns-in-InstanceGet-clause-fine c = λ l size fits k.
    let asked = c.in-InstanceGet in
    c.unless_null.ensures.fine l size (λ e. record {
      field = got_field l.program.now asked.item asked.to asked.on asked.field (subst (Fits l.program.now) asked.is fits);
      on = record { fine = held_fine l size c.args.frame.now asked.on c.get-object.result k c.get-object.ensures; there = e };
    })

pub returns-in-StaticGet-clause-fine : goal.returns-in-StaticGet-clause-fine
returns-in-StaticGet-clause-fine c = λ l size fits k. let asked = c.in-StaticGet in record { field = got_static l.program.now asked.item asked.to asked.field (subst (Fits l.program.now) asked.is fits); on = tt }
