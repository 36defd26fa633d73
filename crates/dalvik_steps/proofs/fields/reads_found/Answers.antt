use Rattle.std.proofs.Common.{subst, sym}
use Rattle.std.specs.Prelude.{IfOk, None, Option, Some}
use Rattle.std.specs.Option.{option_map}
use Rattle.dalvik_defs.specs.Face.{Place}
use Rattle.dalvik_defs.specs.Naming.{field_at}
use Rattle.dalvik_defs.specs.Outcome.{reads, reads_instance, reads_static, Outcome}
use Rattle.dalvik_defs.specs.declared.events.Event.{Event}
use Rattle.dalvik_lookups.specs.Facing.{run_face}
use Rattle.dalvik_state.specs.Runs.{comes_of, need_in, world_in, IsEvent, IsNext}
use Rattle.dalvik_state.specs.Views.{frame_of, names_in, value_of}
use Rattle.dalvik_state.specs.declared.datum.Datum.{Datum}
use Rattle.dalvik_steps.proofs.Reserved.{step_of, undone_run}
use Rattle.dalvik_steps.proofs.fields.reads_found.Goals as goal

pub returns-in-None-clause-ok : goal.returns-in-None-clause-ok
returns-in-None-clause-ok c = λ o floats script steps f place run top h fo found.
    let l = c.args.tables.now.lookups in
    let n = names_in l in
    subst (λ (x : Option Datum). IfOk c.reads_static.result (λ (e : Option Event). IsNext l steps script c.reads_static.new.memo c.reads_static.new.state e (comes_of l o floats script c.args.state.now f (reads (run_face l) (need_in l c.args.state.now) c.args.reading.item c.args.reading.to (field_at l.program.now c.args.reading.field) (option_map (value_of n) x) (world_in l c.args.state.now) (frame_of n f))))) (sym c.in-None.is)
    (subst (λ (x : Option Place). IfOk c.reads_static.result (λ (e : Option Event). IsNext l steps script c.reads_static.new.memo c.reads_static.new.state e (comes_of l o floats script c.args.state.now f (reads_static (need_in l c.args.state.now) c.args.reading.item c.args.reading.to (field_at l.program.now c.args.reading.field) (world_in l c.args.state.now) (frame_of n f) x)))) (sym found)
    (c.reads_static.ensures.ok o floats script steps f place run top h fo))

pub returns-in-Some-clause-ok : goal.returns-in-Some-clause-ok
returns-in-Some-clause-ok c = λ o floats script steps f place run top h fo found.
    let l = c.args.tables.now.lookups in
    let n = names_in l in
    record {
      event = subst (λ (x : Option Datum). IsEvent l steps script c.reads_instance.new.state None (comes_of l o floats script c.args.state.now f (reads (run_face l) (need_in l c.args.state.now) c.args.reading.item c.args.reading.to (field_at l.program.now c.args.reading.field) (option_map (value_of n) x) (world_in l c.args.state.now) (frame_of n f)))) (sym c.in-Some.is)
          (subst (λ (x : Option Place). IsEvent l steps script c.reads_instance.new.state None (comes_of l o floats script c.args.state.now f (reads_instance c.args.reading.item c.args.reading.to (field_at l.program.now c.args.reading.field) (value_of n c.in-Some.on) (world_in l c.args.state.now) (frame_of n f) x))) (sym found) (c.reads_instance.ensures o floats script steps f place (step_of l c.args.memo.now steps c.args.state.now f run top) h.field fo));
      kept = run.kept;
    }

pub returns-in-None-clause-err : goal.returns-in-None-clause-err
returns-in-None-clause-err c = λ steps f place run top fo. c.reads_static.ensures.err steps place run fo
