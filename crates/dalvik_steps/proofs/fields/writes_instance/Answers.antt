use Rattle.std.proofs.Common.{refl, subst, sym}
use Rattle.std.specs.Prelude.{Bool, None, Option}
use Rattle.dalvik_defs.specs.Fields.{key_at, with_instance}
use Rattle.dalvik_defs.specs.Naming.{field_at}
use Rattle.dalvik_defs.specs.State.{thing_at}
use Rattle.dalvik_defs.specs.Outcome.{written}
use Rattle.dalvik_state.specs.Runs.{comes_of, world_in, IsEvent}
use Rattle.dalvik_state.specs.declared.state.State.{State}
use Rattle.dalvik_state.specs.Views.{frame_of, names_in, value_of}
use Rattle.dalvik_steps.specs.Reaching.{IsPut}
use Rattle.dalvik_steps.proofs.Telling.{put_false, put_true}
use Rattle.dalvik_steps.proofs.fields.writes_instance.Goals as goal

pub returns-then-branch-clause-ok : goal.returns-then-branch-clause-ok
returns-then-branch-clause-ok c = λ o floats script steps f place h w fo.
    let l = c.args.tables.now.lookups in
    let n = names_in l in
    let k = field_at l.program.now c.args.writing.field in
    let named = with_instance (world_in l c.args.state.now) (key_at k place) (value_of n c.args.on) (value_of n c.args.writing.value) (thing_at (world_in l c.args.state.now) (value_of n c.args.on)) in
    let put = subst (λ (b : Bool). IsPut l c.args.state.now.world c.put_instance.new.world b named) c.if-branch.true (c.in_ok-put_instance.ensures.put l k place c.args.at.0 c.args.at.1 h.right h.state.world fo (c.slot-slot.ensures h.right) w.value) in
    put_true l o floats script steps f c.args.state.now h (record c.args.state.now { world = c.put_instance.new.world }) c.go_on.new.self c.put_instance.new.world named put refl c.go_on.ensures.stack c.go_on.ensures.rest

pub returns-else-branch-clause-ok : goal.returns-else-branch-clause-ok
returns-else-branch-clause-ok c = λ o floats script steps f place h w fo.
    let l = c.args.tables.now.lookups in
    let n = names_in l in
    let k = field_at l.program.now c.args.writing.field in
    let named = with_instance (world_in l c.args.state.now) (key_at k place) (value_of n c.args.on) (value_of n c.args.writing.value) (thing_at (world_in l c.args.state.now) (value_of n c.args.on)) in
    let put = subst (λ (b : Bool). IsPut l c.args.state.now.world c.put_instance.new.world b named) c.if-branch.false (c.in_ok-put_instance.ensures.put l k place c.args.at.0 c.args.at.1 h.right h.state.world fo (c.slot-slot.ensures h.right) w.value) in
    subst (λ (s : State). IsEvent l steps script s None (comes_of l o floats script c.args.state.now f (written named (frame_of n f)))) (sym c.end.ensures)
    (put_false l o floats script steps f c.args.state.now h (record c.args.state.now { world = c.put_instance.new.world }) c.put_instance.new.world named put)
