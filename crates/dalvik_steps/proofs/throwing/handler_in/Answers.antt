use Rattle.std.proofs.Common.{◌∙◌, ap, get_or, sym}
use Rattle.dalvik_defs.specs.Naming.{type_at}
use Rattle.dalvik_lookups.specs.Facing.{run_face}
use Rattle.dalvik_lookups.specs.Tables.{IsRight}
use Rattle.dalvik_lookups.specs.Views.{IsType}
use Rattle.dalvik_state.specs.Drafts.{kind_text}
use Rattle.dalvik_steps.specs.Flights.{AreHandlers}
use Rattle.dalvik_steps.proofs.Handlers.{handler_found, handler_past, handler_type, item_same}
use Rattle.dalvik_steps.proofs.throwing.handler_in.Goals as goal

pub returns-in_err-is_kind_under-clause-kept : goal.returns-in_err-is_kind_under-clause-kept
returns-in_err-is_kind_under-clause-kept c = λ r k m h.
    let xs = c.as_slice-handler-items.result.now in
    let i = c.loop-handler.handler-index in
    let x = get_or xs i (record { kind = 0; position = 0 }) in
    let same = item_same xs i (record { kind = 0; position = 0 }) c.loop-handler-test.true in
    let own = handler_type c.args.tables.now.lookups r c.args.region.now xs i x c.kind-own.result h c.as_slice-handler-items.ensures c.loop-handler-test.true same c.kind-own.ensures.is in
    c.is_kind_under.ensures.kept r (c.loop-handler.invariant.kept r k m h) m own.kind

pub returns-then-branch-clause-kept : goal.returns-then-branch-clause-kept
returns-then-branch-clause-kept c = λ r k m h.
    let xs = c.as_slice-handler-items.result.now in
    let i = c.loop-handler.handler-index in
    let x = get_or xs i (record { kind = 0; position = 0 }) in
    let same = item_same xs i (record { kind = 0; position = 0 }) c.loop-handler-test.true in
    let own = handler_type c.args.tables.now.lookups r c.args.region.now xs i x c.kind-own.result h c.as_slice-handler-items.ensures c.loop-handler-test.true same c.kind-own.ensures.is in
    c.is_kind_under.ensures.kept r (c.loop-handler.invariant.kept r k m h) m own.kind

pub returns-then-branch-clause-is : goal.returns-then-branch-clause-is
returns-then-branch-clause-is c = λ r k m h.
    let l = c.args.tables.now.lookups in
    let xs = c.as_slice-handler-items.result.now in
    let i = c.loop-handler.handler-index in
    let x = get_or xs i (record { kind = 0; position = 0 }) in
    let same = item_same xs i (record { kind = 0; position = 0 }) c.loop-handler-test.true in
    let above = (run_face l).under (kind_text l c.args.kind) in
    let own = handler_type l r c.args.region.now xs i x c.kind-own.result h c.as_slice-handler-items.ensures c.loop-handler-test.true same c.kind-own.ensures.is in
    let test = sym (c.in_ok-is_kind_under.ensures.is r (c.loop-handler.invariant.kept r k m h) m own.kind ∙ ap above own.text) ∙ c.if-branch.true in
    handler_found l.program.now above c.args.region.now xs i x c.as_slice-handler-items.ensures c.loop-handler-test.true same test (c.loop-handler.invariant.same r k m h)

pub loop-handler-preserved : goal.loop-handler-preserved
loop-handler-preserved c =
    let l = c.args.tables.now.lookups in
    let xs = c.as_slice-handler-items.result.now in
    let i = c.loop-handler.handler-index in
    let x = get_or xs i (record { kind = 0; position = 0 }) in
    let same = item_same xs i (record { kind = 0; position = 0 }) c.loop-handler-test.true in
    let above = (run_face l).under (kind_text l c.args.kind) in
    let own : IsRight l → AreHandlers l c.args.region.now → IsType l.types c.kind-own.result (type_at l.program.now x.kind) =
    λ r h. handler_type l r c.args.region.now xs i x c.kind-own.result h c.as_slice-handler-items.ensures c.loop-handler-test.true same c.kind-own.ensures.is in
    record {
      kept = λ r k m h. c.is_kind_under.ensures.kept r (c.loop-handler.invariant.kept r k m h) m (own r h).kind;
      same = λ r k m h.
          let test = sym (c.in_ok-is_kind_under.ensures.is r (c.loop-handler.invariant.kept r k m h) m (own r h).kind ∙ ap above (own r h).text) ∙ c.if-branch.false in
          handler_past l.program.now above c.args.region.now xs i x c.as_slice-handler-items.ensures c.loop-handler-test.true same test ∙ c.loop-handler.invariant.same r k m h;
    }
