use Rattle.std.proofs.Common.{ap, subst, sym, ◌∙◌}
use Rattle.std.specs.Prelude.{None, Option, Some}
use Rattle.dalvik_defs.specs.Naming.{field_at}
use Rattle.dalvik_defs.specs.declared.state.Value.{Value}
use Rattle.dalvik_state.specs.Runs.{comes_of, need_in, world_in, IsEvent}
use Rattle.dalvik_state.specs.Views.{frame_of, names_in, value_of}
use Rattle.dalvik_state.specs.declared.state.State.{State}
use Rattle.dalvik_steps.specs.Entries.{IsReadied}
use Rattle.dalvik_steps.specs.Reaching.{IsStep}
use Rattle.dalvik_steps.proofs.FirstReads.{place_class, place_low}
use Rattle.dalvik_steps.proofs.Nexts.{err_of}
use Rattle.dalvik_steps.proofs.Outcomes.{failed_next, ready_next, started_next}
use Rattle.dalvik_steps.proofs.Reserved.{step_of}
use Rattle.dalvik_defs.specs.Effect.{next}
use Rattle.dalvik_defs.specs.Fields.{key_at, with_static}
use Rattle.dalvik_defs.specs.Outcome.{Stays}
use Rattle.dalvik_steps.specs.Reaching.{IsWriting}
use Rattle.dalvik_steps.proofs.fields.writes_static.Goals as goal

pub returns-in-Ready-clause-ok : goal.returns-in-Ready-clause-ok
returns-in-Ready-clause-ok c = λ o floats script steps f place run top h fo.
    let l = c.args.tables.now.lookups in
    let n = names_in l in
    let k = field_at l.program.now c.args.writing.field in
    let low = place_low l k place c.args.at.0 c.args.at.1 fo in
    let ready = subst (IsReadied l steps script c.readies.new.memo c.args.state.now c.readies.new.state c.args.at.0) c.in-Ready.is (c.in_ok-readies.ensures.readied steps script run low) in
    let need = ap (need_in l c.args.state.now) (sym (place_class l k place c.args.at.0 c.args.at.1 fo)) ∙ ready.need in
    let step = subst (λ (s : State). IsStep l steps s f) (sym ready.same) (step_of l c.args.memo.now steps c.args.state.now f run top) in
    let writing = subst (λ (s : State). IsWriting l s c.args.writing) (sym ready.same) h in
    let ev = c.writes_ready.ensures o floats script steps f place step writing fo in
    let there = subst (λ (s : State). IsEvent l steps script c.writes_ready.new.state None (comes_of l o floats script s f (Stays (with_static (world_in l s) (key_at k place) (value_of n c.args.writing.value)) (next (frame_of n f)) None))) ready.same ev in
    ready_next l o floats script steps c.args.state.now f top c.readies.new.memo _ None (need_in l c.args.state.now place.class) place.class (Stays (with_static (world_in l c.args.state.now) (key_at k place) (value_of n c.args.writing.value)) (next (frame_of n f)) None) need (record { event = there; kept = c.readies.ensures.kept steps run low })

pub returns-in-Started-clause-ok : goal.returns-in-Started-clause-ok
returns-in-Started-clause-ok c = λ o floats script steps f place run top h fo.
    let l = c.args.tables.now.lookups in
    let n = names_in l in
    let k = field_at l.program.now c.args.writing.field in
    let low = place_low l k place c.args.at.0 c.args.at.1 fo in
    let started = subst (IsReadied l steps script c.readies.new.memo c.args.state.now c.readies.new.state c.args.at.0) c.in-Started.is (c.in_ok-readies.ensures.readied steps script run low) in
    started_next l o floats script steps c.args.state.now f top c.readies.new.memo c.readies.new.state c.args.at.0 place.class (Stays (with_static (world_in l c.args.state.now) (key_at k place) (value_of n c.args.writing.value)) (next (frame_of n f)) None) (place_class l k place c.args.at.0 c.args.at.1 fo) started (c.readies.ensures.kept steps run low)

pub returns-in-Failed-clause-ok : goal.returns-in-Failed-clause-ok
returns-in-Failed-clause-ok c = λ o floats script steps f place run top h fo.
    let l = c.args.tables.now.lookups in
    let n = names_in l in
    let k = field_at l.program.now c.args.writing.field in
    let low = place_low l k place c.args.at.0 c.args.at.1 fo in
    let failed = subst (IsReadied l steps script c.readies.new.memo c.args.state.now c.readies.new.state c.args.at.0) c.in-Failed.is (c.in_ok-readies.ensures.readied steps script run low) in
    failed_next l o floats script steps c.args.state.now f top c.readies.new.memo c.readies.new.state c.args.at.0 place.class (Stays (with_static (world_in l c.args.state.now) (key_at k place) (value_of n c.args.writing.value)) (next (frame_of n f)) None) c.in-Failed.event (place_class l k place c.args.at.0 c.args.at.1 fo) failed

pub returns-in_err-readies-clause-err : goal.returns-in_err-readies-clause-err
returns-in_err-readies-clause-err c = λ steps place run fo.
    let l = c.args.tables.now.lookups in
    let k = field_at l.program.now c.args.writing.field in
    err_of _ _ (c.in_err-readies.ensures.err steps run (place_low l k place c.args.at.0 c.args.at.1 fo))
