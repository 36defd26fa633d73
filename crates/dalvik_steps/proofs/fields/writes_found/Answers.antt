use Rattle.std.proofs.Common.{subst, sym}
use Rattle.std.specs.Prelude.{IfOk, None, Option, Some}
use Rattle.std.specs.Option.{option_map}
use Rattle.dalvik_defs.specs.Face.{Place}
use Rattle.dalvik_defs.specs.Naming.{field_at}
use Rattle.dalvik_defs.specs.Outcome.{writes, writes_instance, writes_static, Outcome}
use Rattle.dalvik_defs.specs.declared.events.Event.{Event}
use Rattle.dalvik_lookups.specs.Facing.{run_face}
use Rattle.dalvik_state.specs.Runs.{comes_of, need_in, world_in, IsEvent, IsNext}
use Rattle.dalvik_state.specs.Views.{frame_of, names_in, value_of}
use Rattle.dalvik_state.specs.declared.datum.Datum.{Datum}
use Rattle.dalvik_steps.proofs.Nexts.{err_of}
use Rattle.dalvik_steps.proofs.Reserved.{step_of, undone_run}
use Rattle.dalvik_steps.proofs.fields.writes_found.Goals as goal

pub returns-in-None-clause-ok : goal.returns-in-None-clause-ok
returns-in-None-clause-ok c = λ o floats script steps f place run top h fo found.
    let l = c.args.tables.now.lookups in
    let n = names_in l in
    subst (λ (x : Option Datum). IfOk c.writes_static.result (λ (e : Option Event). IsNext l steps script c.writes_static.new.memo c.writes_static.new.state e (comes_of l o floats script c.args.state.now f (writes (run_face l) (need_in l c.args.state.now) (field_at l.program.now c.args.writing.field) (option_map (value_of n) x) (value_of n c.args.writing.value) (world_in l c.args.state.now) (frame_of n f))))) (sym c.in-None.is)
    (subst (λ (x : Option Place). IfOk c.writes_static.result (λ (e : Option Event). IsNext l steps script c.writes_static.new.memo c.writes_static.new.state e (comes_of l o floats script c.args.state.now f (writes_static (need_in l c.args.state.now) (field_at l.program.now c.args.writing.field) (value_of n c.args.writing.value) (world_in l c.args.state.now) (frame_of n f) x)))) (sym found)
    (c.writes_static.ensures.ok o floats script steps f place run top h fo))

pub returns-in_ok-writes_instance-in-Some-clause-ok : goal.returns-in_ok-writes_instance-in-Some-clause-ok
returns-in_ok-writes_instance-in-Some-clause-ok c = λ o floats script steps f place run top h fo found.
    let l = c.args.tables.now.lookups in
    let n = names_in l in
    record {
      event = subst (λ (x : Option Datum). IsEvent l steps script c.writes_instance.new.state None (comes_of l o floats script c.args.state.now f (writes (run_face l) (need_in l c.args.state.now) (field_at l.program.now c.args.writing.field) (option_map (value_of n) x) (value_of n c.args.writing.value) (world_in l c.args.state.now) (frame_of n f)))) (sym c.in-Some.is)
          (subst (λ (x : Option Place). IsEvent l steps script c.writes_instance.new.state None (comes_of l o floats script c.args.state.now f (writes_instance (field_at l.program.now c.args.writing.field) (value_of n c.in-Some.on) (value_of n c.args.writing.value) (world_in l c.args.state.now) (frame_of n f) x))) (sym found) (c.in_ok-writes_instance-in-Some.ensures.ok o floats script steps f place (step_of l c.args.memo.now steps c.args.state.now f run top) h fo));
      kept = run.kept;
    }

pub returns-in-None-clause-err : goal.returns-in-None-clause-err
returns-in-None-clause-err c = λ steps f place run top fo. c.writes_static.ensures.err steps place run fo

pub returns-in_err-writes_instance-in-Some-clause-err : goal.returns-in_err-writes_instance-in-Some-clause-err
returns-in_err-writes_instance-in-Some-clause-err c = λ steps f place run top fo. err_of _ _ (undone_run c.args.tables.now.lookups c.args.memo.now steps c.args.state.now c.writes_instance.new.state c.in_err-writes_instance-in-Some.ensures.err run)
