use Rattle.std.proofs.Common.{arith, ap, refl, sym, ◌∙◌}
use Rattle.dalvik_defs.specs.Naming.{field_at}
use Rattle.dalvik_defs.specs.declared.events.Event.TheVariants as event
use Rattle.dalvik_steps.proofs.Telling.{draft_after, wrote_field}
use Rattle.dalvik_steps.proofs.fields.shows_written.Goals as goal

pub returns : goal.returns
returns c = λ l o floats script steps f field holder v h room texts on value.
    let k = field_at l.program.now field in
    let old = c.args.state.now.world in
    let mid = c.show_option-on.new.world in
    let shown = c.show_option-on.ensures.shown l k.class holder h.state.world (let r = room.room in record { room = omega (arith, r) }) on in
    let after = c.show-value.ensures.shown l k.kind v shown.sound (c.show_option-on.ensures.room 1 room) (draft_after l k.class k.kind holder v c.args.value old mid c.show_option-on.result shown value) in
    wrote_field l o floats script steps f c.args.state.now h (record c.args.state.now { world = c.show-value.new.world }) c.go_on.new.self mid c.show-value.new.world k holder v c.show_option-on.result c.show-value.result (event.Put c.args.texts.class c.args.texts.name c.args.texts.kind c.show_option-on.result c.show-value.result) shown after refl
    c.go_on.ensures.stack c.go_on.ensures.rest (λ i. event.Put (texts.class i) (texts.name i) (texts.kind i) c.show_option-on.result c.show-value.result)
