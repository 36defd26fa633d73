use Rattle.std.proofs.Common.{◌+◌, List, arith, sym, subst}
use Rattle.dalvik_state.specs.declared.shows.Draft.{Draft}
use Rattle.dalvik_state.proofs.Showing.{drafting_begins, drafting_ends, drafting_goes_on, drafting_stops, got_is, got_or, AreDrafting}
use Rattle.dalvik_state.proofs.shows.draft_all.Goals.{else-loop-kind-test, then-loop-kind-test+in-None}
use Rattle.dalvik_state.proofs.shows.draft_all.Goals as goal

pub loop-kind-init : goal.loop-kind-init
loop-kind-init c = subst (AreDrafting c.args.tables.now.lookups c.args.world.now c.args.kinds.now c.args.values.now 0 0) (sym c.new-drafts.ensures.items) (drafting_begins c.args.tables.now.lookups c.args.world.now c.args.kinds.now c.args.values.now)

pub loop-kind-preserved : goal.loop-kind-preserved
loop-kind-preserved c =
    let l = c.args.tables.now.lookups in
    let kinds = c.args.kinds.now in
    let values = c.args.values.now in
    let look = c.in-Some.ensures.lookup in
    subst (AreDrafting l c.args.world.now kinds values (c.loop-kind.kind-index + 1) c.saturating_add-at.result) (sym {A = List Draft} c.in_ok-push.ensures.items)
    (drafting_goes_on l c.args.world.now c.new-none.result kinds values c.loop-kind.kind-index c.loop-kind.at c.saturating_add-at.result c.width.result 18446744073709551615 c.loop-kind.drafts.items _ c.in-Some.datum.now c.in_ok-drafted.field-0
    c.loop-kind.invariant c.new-none.ensures (got_or kinds c.loop-kind.kind-index _ c.loop-kind-test.true) (got_is values c.loop-kind.at c.in-Some.datum.now look.1 look.3.0) c.in_ok-drafted.ensures c.width.ensures c.saturating_add-at.ensures (omega arith))

pub returns : goal.returns
returns c = λ a.
    let l = c.args.tables.now.lookups in
    elim c.loop-kind-test.branch [
      | else-loop-kind-test w ↦ drafting_ends l c.args.world.now c.args.kinds.now c.args.values.now c.loop-kind.kind-index c.loop-kind.at c.loop-kind.drafts.items c.loop-kind.invariant w.loop-kind-test.false a
      | then-loop-kind-test+in-None w ↦ drafting_stops l c.args.world.now c.args.kinds.now c.args.values.now c.loop-kind.kind-index c.loop-kind.at c.loop-kind.drafts.items c.loop-kind.invariant w.in-None.ensures.lookup.3 a
    ]
