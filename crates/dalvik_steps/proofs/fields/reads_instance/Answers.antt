use Rattle.std.proofs.Common.{subst}
use Rattle.std.specs.Prelude.{Option, None}
use Rattle.dalvik_defs.specs.Naming.{field_at}
use Rattle.dalvik_defs.specs.Outcome.{reads_value}
use Rattle.dalvik_defs.specs.declared.state.Value.{Value}
use Rattle.dalvik_state.specs.Runs.{comes_of, world_in, IsEvent}
use Rattle.dalvik_state.specs.Views.{frame_of, names_in}
use Rattle.dalvik_steps.proofs.fields.reads_instance.Goals as goal

pub returns : goal.returns
returns c = λ o floats script steps f place h low fo.
    let l = c.args.tables.now.lookups in
    let k = field_at l.program.now c.args.reading.field in
    subst (λ (v : Option Value). IsEvent l steps script c.reads_value.new.state None (comes_of l o floats script c.args.state.now f (reads_value c.args.reading.item c.args.reading.to v (world_in l c.args.state.now) (frame_of (names_in l) f))))
    (c.instance_value-value.ensures.named k place c.args.at.0 c.args.at.1 h.right fo (c.slot-slot.ensures h.right) (c.field_kind-kind.ensures.named h.right low))
    (c.reads_value.ensures l o floats script steps f h (c.instance_value-value.ensures.fine h.right h.state.world))
