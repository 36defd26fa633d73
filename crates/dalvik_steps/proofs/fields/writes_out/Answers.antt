use Rattle.std.proofs.Common.{subst, sym}
use Rattle.std.specs.Option.{option_map}
use Rattle.dalvik_defs.specs.Naming.{field_at}
use Rattle.dalvik_defs.specs.State.{Next, World as NamedWorld}
use Rattle.dalvik_state.specs.Drafts.{AreDrafts, IsDraft}
use Rattle.dalvik_state.specs.Runs.{IsEvent}
use Rattle.dalvik_state.specs.Views.{frame_of, names_in, value_of}
use Rattle.dalvik_steps.proofs.Reserved.{items_named, reserved_comes, reserved_step}
use Rattle.dalvik_defs.specs.Outcome.{writes_out}
use Rattle.dalvik_steps.proofs.fields.writes_out.Goals as goal

pub returns-clause-ok : goal.returns-clause-ok
returns-clause-ok c = λ o floats script steps f h r.
    let l = c.args.tables.now.lookups in
    let n = names_in l in
    let k = field_at l.program.now c.args.writing.field in
    let on = option_map (value_of n) c.args.writing.on in
    let v = value_of n c.args.writing.value in
    let mid = c.reserve.new.state in
    let same = c.in_ok-reserve.ensures.same in
    subst (λ (x : Next). IsEvent l steps script c.shows_written.new.state c.shows_written.result x) (reserved_comes l o floats script c.args.state.now mid f same (λ (w : NamedWorld). writes_out k on v w (frame_of n f)))
    (c.shows_written.ensures l o floats script steps f c.args.writing.field on v (reserved_step l steps c.args.state.now mid f same h) c.in_ok-reserve.ensures.room (c.in_ok-texts.ensures h.right r.field)
    (subst (λ (w : NamedWorld). AreDrafts w k.class on c.in_ok-on.on) (sym (items_named n c.args.state.now.world mid.world same.world)) (c.in_ok-on.ensures h.right h.state.world r.field r.on))
    (subst (λ (w : NamedWorld). IsDraft w k.kind v c.in_ok-value.value) (sym (items_named n c.args.state.now.world mid.world same.world)) (c.in_ok-value.ensures h.right h.state.world r.field r.value)))
