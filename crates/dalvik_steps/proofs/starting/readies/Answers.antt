use Rattle.std.proofs.Common.{◌∙◌, ◌<◌, arith, refl, sym, subst}
use Rattle.dalvik_defs.specs.Known.{no_class}
use Rattle.dalvik_defs.specs.Names.{Text}
use Rattle.dalvik_defs.specs.Stack.{throws_new}
use Rattle.dalvik_lookups.specs.Facing.{run_face}
use Rattle.dalvik_lookups.proofs.Descriptors.{known_at}
use Rattle.dalvik_state.specs.Runs.{bodies_in, classes_in, script_in, stack_in, world_in, IsNext}
use Rattle.dalvik_steps.proofs.Started.{class_broken, class_fresh, class_ready}
use Rattle.dalvik_steps.proofs.starting.readies.Goals as goal

pub returns-in_err-event-in-Broken-clause-kept : goal.returns-in_err-event-in-Broken-clause-kept
returns-in_err-event-in-Broken-clause-kept c = λ steps run low. let known : 17 < 20 = omega arith in c.throws.ensures.kept steps run known

pub returns-in-Ready-clause-readied : goal.returns-in-Ready-clause-readied
returns-in-Ready-clause-readied c = λ steps script run low.
    record { need = class_ready c.args.tables.now.lookups run.right c.args.state.now c.args.class low (sym c.need_of.ensures ∙ c.in-Ready.is); same = refl }

pub returns-in_ok-starts-in-Fresh-clause-readied : goal.returns-in_ok-starts-in-Fresh-clause-readied
returns-in_ok-starts-in-Fresh-clause-readied c = λ steps script run low.
    record { need = class_fresh c.args.tables.now.lookups run.right c.args.state.now c.args.class low (sym c.need_of.ensures ∙ c.in-Fresh.is); left = c.in_ok-starts-in-Fresh.ensures.ok steps script run low }

pub returns-in_ok-event-in-Broken-clause-readied : goal.returns-in_ok-event-in-Broken-clause-readied
returns-in_ok-event-in-Broken-clause-readied c = λ steps script run low.
    let l = c.args.tables.now.lookups in
    let old = c.args.state.now in
    let known : 17 < 20 = omega arith in
    record {
      need = class_broken l run.right old c.args.class low (sym c.need_of.ensures ∙ c.in-Broken.is);
      next = subst (λ (t : Text). IsNext l steps script c.throws.new.memo c.throws.new.state c.in_ok-event-in-Broken.event (throws_new (run_face l) (bodies_in l) (world_in l old) (classes_in l old) t (stack_in l script old) (script_in script old)))
          (known_at l.types run.right.tabled.named.types 17 no_class refl) (c.in_ok-event-in-Broken.ensures.ok steps script run known);
    }

pub returns-in_ok-event-in-Broken-clause-kept : goal.returns-in_ok-event-in-Broken-clause-kept
returns-in_ok-event-in-Broken-clause-kept c = λ steps run low. let known : 17 < 20 = omega arith in c.throws.ensures.kept steps run known
