use Rattle.std.proofs.Common.{refl}
use Rattle.dalvik_defs.specs.Naming.{method_at}
use Rattle.dalvik_defs.specs.Outcome.{passed_types}
use Rattle.dalvik_defs.specs.declared.events.Event.TheVariants as event
use Rattle.dalvik_steps.proofs.CallShown.{asked_call}
use Rattle.dalvik_steps.proofs.calling.shows_call.Goals as goal

pub returns : goal.returns
returns c = λ l o floats script steps f values h room places texts drafts text fine.
    let k = method_at l.program.now c.args.call.method in
    let shown = c.show-values.ensures l (passed_types c.args.call.is_static k) values h.state.world room drafts in
    asked_call l o floats script steps f c.args.state.now h c.asks.new.state c.show-values.new.world c.args.call.kind c.args.call.is_static k values c.show-values.result (event.Call c.args.call.kind c.args.texts.class c.args.texts.name c.args.texts.proto c.show-values.result) c.args.owes shown text fine (c.asks.ensures (record { places = places.places }))
    (λ i. event.Call c.args.call.kind (texts.class i) (texts.name i) (texts.proto i) c.show-values.result)
