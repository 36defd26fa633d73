use Rattle.std.proofs.Common.{ap, subst, sym, ◌∙◌}
use Rattle.std.specs.Prelude.{None, Option, Some}
use Rattle.dalvik_defs.specs.Naming.{field_at}
use Rattle.dalvik_defs.specs.declared.state.Value.{Value}
use Rattle.dalvik_state.specs.Runs.{comes_of, need_in, world_in, IsEvent}
use Rattle.dalvik_state.specs.Views.{frame_of, names_in, value_of}
use Rattle.dalvik_state.specs.declared.state.State.{State}
use Rattle.dalvik_steps.specs.Entries.{IsReadied}
use Rattle.dalvik_steps.specs.Reaching.{IsStep}
use Rattle.dalvik_steps.proofs.FirstReads.{place_class, place_low}
use Rattle.dalvik_steps.proofs.Nexts.{err_of}
use Rattle.dalvik_steps.proofs.Outcomes.{failed_next, ready_next, started_next}
use Rattle.dalvik_steps.proofs.Reserved.{step_of}
use Rattle.dalvik_defs.specs.Fields.{static_value}
use Rattle.dalvik_defs.specs.Outcome.{reads_value}
use Rattle.dalvik_steps.proofs.fields.reads_static.Goals as goal

pub returns-in-Ready-clause-ok : goal.returns-in-Ready-clause-ok
returns-in-Ready-clause-ok c = λ o floats script steps f place run top h fo.
    let l = c.args.tables.now.lookups in
    let n = names_in l in
    let k = field_at l.program.now c.args.reading.field in
    let low = place_low l k place c.args.at.0 c.args.at.1 fo in
    let ready = subst (IsReadied l steps script c.readies.new.memo c.args.state.now c.readies.new.state c.args.at.0) c.in-Ready.is (c.in_ok-readies.ensures.readied steps script run low) in
    let need = ap (need_in l c.args.state.now) (sym (place_class l k place c.args.at.0 c.args.at.1 fo)) ∙ ready.need in
    let step = subst (λ (s : State). IsStep l steps s f) (sym ready.same) (step_of l c.args.memo.now steps c.args.state.now f run top) in
    let text = c.field_kind-kind.ensures.named run.right h.field in
    let ev = c.reads_value.ensures l o floats script steps f step (c.static_value-datum.ensures.fine k place run.right step.state.world fo) in
    let named = subst (λ (v : Value). IsEvent l steps script c.reads_value.new.state None (comes_of l o floats script c.readies.new.state f (reads_value c.args.reading.item c.args.reading.to (Some v) (world_in l c.readies.new.state) (frame_of n f)))) (c.static_value-datum.ensures.named k place run.right fo text) ev in
    let there = subst (λ (s : State). IsEvent l steps script c.reads_value.new.state None (comes_of l o floats script s f (reads_value c.args.reading.item c.args.reading.to (Some (static_value (world_in l s) k place)) (world_in l s) (frame_of n f)))) ready.same named in
    ready_next l o floats script steps c.args.state.now f top c.readies.new.memo _ None (need_in l c.args.state.now place.class) place.class (reads_value c.args.reading.item c.args.reading.to (Some (static_value (world_in l c.args.state.now) k place)) (world_in l c.args.state.now) (frame_of n f)) need (record { event = there; kept = c.readies.ensures.kept steps run low })

pub returns-in-Started-clause-ok : goal.returns-in-Started-clause-ok
returns-in-Started-clause-ok c = λ o floats script steps f place run top h fo.
    let l = c.args.tables.now.lookups in
    let n = names_in l in
    let k = field_at l.program.now c.args.reading.field in
    let low = place_low l k place c.args.at.0 c.args.at.1 fo in
    let started = subst (IsReadied l steps script c.readies.new.memo c.args.state.now c.readies.new.state c.args.at.0) c.in-Started.is (c.in_ok-readies.ensures.readied steps script run low) in
    started_next l o floats script steps c.args.state.now f top c.readies.new.memo c.readies.new.state c.args.at.0 place.class (reads_value c.args.reading.item c.args.reading.to (Some (static_value (world_in l c.args.state.now) k place)) (world_in l c.args.state.now) (frame_of n f)) (place_class l k place c.args.at.0 c.args.at.1 fo) started (c.readies.ensures.kept steps run low)

pub returns-in-Failed-clause-ok : goal.returns-in-Failed-clause-ok
returns-in-Failed-clause-ok c = λ o floats script steps f place run top h fo.
    let l = c.args.tables.now.lookups in
    let n = names_in l in
    let k = field_at l.program.now c.args.reading.field in
    let low = place_low l k place c.args.at.0 c.args.at.1 fo in
    let failed = subst (IsReadied l steps script c.readies.new.memo c.args.state.now c.readies.new.state c.args.at.0) c.in-Failed.is (c.in_ok-readies.ensures.readied steps script run low) in
    failed_next l o floats script steps c.args.state.now f top c.readies.new.memo c.readies.new.state c.args.at.0 place.class (reads_value c.args.reading.item c.args.reading.to (Some (static_value (world_in l c.args.state.now) k place)) (world_in l c.args.state.now) (frame_of n f)) c.in-Failed.event (place_class l k place c.args.at.0 c.args.at.1 fo) failed

pub returns-in_err-readies-clause-err : goal.returns-in_err-readies-clause-err
returns-in_err-readies-clause-err c = λ steps place run fo.
    let l = c.args.tables.now.lookups in
    let k = field_at l.program.now c.args.reading.field in
    err_of _ _ (c.in_err-readies.ensures.err steps run (place_low l k place c.args.at.0 c.args.at.1 fo))
