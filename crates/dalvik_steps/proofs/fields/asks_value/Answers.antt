use Rattle.std.proofs.Common.{ap, refl, sym, ◌∙◌}
use Rattle.dalvik_defs.specs.Naming.{field_at}
use Rattle.dalvik_defs.specs.declared.events.Event.TheVariants as event
use Rattle.dalvik_state.specs.States.{HasPlaces}
use Rattle.dalvik_steps.proofs.Telling.{asked_field}
use Rattle.dalvik_steps.proofs.fields.asks_value.Goals as goal

pub returns : goal.returns
returns c = λ l o floats script steps f field on h room places texts drafts text fine.
    let k = field_at l.program.now field in
    let shown = c.show_option-on.ensures.shown l k.class on h.state.world room drafts in
    asked_field l o floats script steps f c.args.state.now h c.asks.new.state c.show_option-on.new.world field k on c.show_option-on.result (event.Get c.args.texts.class c.args.texts.name c.args.texts.kind c.show_option-on.result) c.args.kind shown text fine (c.asks.ensures (record { places = places.places }))
    (λ i. event.Get (texts.class i) (texts.name i) (texts.kind i) c.show_option-on.result)
