use Rattle.std.proofs.Common.{refl}
use Rattle.dalvik_defs.specs.Fields.{key_at, with_static}
use Rattle.dalvik_defs.specs.Naming.{field_at}
use Rattle.dalvik_state.specs.Runs.{world_in}
use Rattle.dalvik_state.specs.Views.{names_in, value_of}
use Rattle.dalvik_steps.proofs.Telling.{goes_written}
use Rattle.dalvik_steps.proofs.fields.writes_ready.Goals as goal

pub returns : goal.returns
returns c = λ o floats script steps f place h w fo.
    let l = c.args.tables.now.lookups in
    let k = field_at l.program.now c.args.writing.field in
    goes_written l o floats script steps f c.args.state.now h (record c.args.state.now { world = c.put_static.new.world }) c.go_on.new.self c.put_static.new.world (with_static (world_in l c.args.state.now) (key_at k place) (value_of (names_in l) c.args.writing.value))
    (c.put_static.ensures k place h.right h.state.world fo w.value) refl c.go_on.ensures.stack c.go_on.ensures.rest
