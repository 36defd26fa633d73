use Rattle.std.proofs.Common.{subst, sym}
use Rattle.dalvik_defs.specs.Naming.{method_at}
use Rattle.dalvik_defs.specs.Outcome.{calls_out, passed_types}
use Rattle.dalvik_defs.specs.State.{Next, World as NamedWorld}
use Rattle.dalvik_state.specs.Drafts.{AreDraftsOf}
use Rattle.dalvik_state.specs.Runs.{IsEvent}
use Rattle.dalvik_state.specs.States.{HasRoom}
use Rattle.dalvik_state.specs.Views.{names_in, values_of}
use Rattle.dalvik_steps.proofs.Reserved.{items_named, reserved_comes, reserved_step}
use Rattle.dalvik_steps.proofs.calling.calls_out.Goals as goal

pub returns-clause-ok : goal.returns-clause-ok
returns-clause-ok c = λ o floats script steps f h low fine.
    let l = c.args.tables.now.lookups in
    let n = names_in l in
    let k = method_at l.program.now c.args.call.method in
    let vs = values_of n c.args.values.now in
    let mid = c.reserve.new.state in
    let same = c.in_ok-reserve.ensures.same in
    subst (λ (x : Next). IsEvent l steps script c.shows_call.new.state c.shows_call.result x) (reserved_comes l o floats script c.args.state.now mid f same (calls_out c.args.call.kind c.args.call.is_static k vs))
    (c.shows_call.ensures l o floats script steps f vs (reserved_step l steps c.args.state.now mid f same h) (subst (HasRoom mid.world) c.len.ensures c.in_ok-reserve.ensures.room) c.in_ok-reserve.ensures.places (c.in_ok-texts.ensures h.right low)
    (subst (λ (w : NamedWorld). AreDraftsOf w (passed_types c.args.call.is_static k) vs c.in_ok-drafts.drafts) (sym (items_named n c.args.state.now.world mid.world same.world)) (c.in_ok-drafts.ensures h.right h.state.world low fine))
    (c.result_kind.ensures.named h.right low) (c.result_kind.ensures.fine h.right low))
