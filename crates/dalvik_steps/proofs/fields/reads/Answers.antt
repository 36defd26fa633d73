use Rattle.std.proofs.Common.{subst, sym}
use Rattle.std.specs.Prelude.{IfOk, None, Option, Some}
use Rattle.std.specs.Option.{option_map}
use Rattle.dalvik_defs.specs.Face.{Place}
use Rattle.dalvik_defs.specs.Naming.{field_at}
use Rattle.dalvik_defs.specs.Outcome.{reads, reads_instance, reads_static, Outcome}
use Rattle.dalvik_defs.specs.declared.events.Event.{Event}
use Rattle.dalvik_lookups.specs.Facing.{run_face}
use Rattle.dalvik_state.specs.Runs.{comes_of, need_in, world_in, IsEvent, IsNext}
use Rattle.dalvik_state.specs.Views.{frame_of, names_in, value_of}
use Rattle.dalvik_state.specs.declared.datum.Datum.{Datum}
use Rattle.dalvik_steps.proofs.Reserved.{step_of, undone_run}
use Rattle.dalvik_steps.proofs.Resolving.{field_found, field_unfound}
use Rattle.dalvik_steps.proofs.FieldReads.{reads_unfound}
use Rattle.dalvik_steps.proofs.Nexts.{next_of, undone_of}
use Rattle.dalvik_steps.proofs.fields.reads.Goals as goal

pub returns-in-None-clause-ok : goal.returns-in-None-clause-ok
returns-in-None-clause-ok c = λ o floats script steps f run top h.
    let l = c.args.tables.now.lookups in
    let n = names_in l in
    let none = field_unfound l run.right c.args.reading.field h.field (sym (c.in-None.ensures run.right)) in
    subst (λ (x : Outcome). IfOk c.reads_out.result (λ (e : Option Event). IsNext l steps script c.args.memo.now c.reads_out.new.state e (comes_of l o floats script c.args.state.now f x))) (sym (reads_unfound (run_face l) (need_in l c.args.state.now) c.args.reading.item c.args.reading.to (field_at l.program.now c.args.reading.field) (option_map (value_of n) c.args.reading.on) (world_in l c.args.state.now) (frame_of n f) none))
    (next_of l steps script c.args.memo.now c.reads_out.new.state _ c.reads_out.result run.kept (c.reads_out.ensures.ok o floats script steps f (step_of l c.args.memo.now steps c.args.state.now f run top) h))

pub returns-in-None-clause-err : goal.returns-in-None-clause-err
returns-in-None-clause-err c = λ steps f run top h. undone_of c.args.tables.now.lookups c.args.memo.now steps c.args.state.now c.reads_out.new.state c.reads_out.result run c.reads_out.ensures.err

pub returns-in-Some-clause-ok : goal.returns-in-Some-clause-ok
returns-in-Some-clause-ok c = λ o floats script steps f run top h.
    let l = c.args.tables.now.lookups in
    let found = field_found l run.right c.args.reading.field c.in-Some.at.0 c.in-Some.at.1 h.field (sym (c.in-Some.ensures run.right)) in
    c.reads_found.ensures.ok o floats script steps f found.place run top h found.of found.found

pub returns-in-Some-clause-err : goal.returns-in-Some-clause-err
returns-in-Some-clause-err c = λ steps f run top h.
    let l = c.args.tables.now.lookups in
    let found = field_found l run.right c.args.reading.field c.in-Some.at.0 c.in-Some.at.1 h.field (sym (c.in-Some.ensures run.right)) in
    c.reads_found.ensures.err steps f found.place run top found.of
