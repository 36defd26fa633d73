use Rattle.std.proofs.Common.{◌≡◌, ◌∙◌, ap, false, length, refl, subst, sym, true}
use Rattle.std.specs.Prelude.{not, slice_index_or, slice_set}
use Rattle.std.specs.Vec.{with_items}
use Rattle.std.proofs.lemmas.List.{with_items_is}
use Rattle.insn_set.specs.declared.ops.InvokeKind.TheVariants as call
use Rattle.loose_methods.specs.declared.calls.Marks.{Marks}
use Rattle.loose_methods.specs.Loose.{concerns}
use Rattle.loose_methods.specs.Marking.{is_on}
use Rattle.loose_methods.specs.Sifting.{HasCandidates, Keeps, allows_so}
use Rattle.loose_methods.proofs.Marks.{set_long}
use Rattle.loose_methods.proofs.Sifts.{interface_allows, sifts_interface, sifts_none, sifts_same}
use Rattle.loose_methods.proofs.calls.Sifter.judge_interface.Goals as goal

pub returns-then-is_on : goal.returns-then-is_on
returns-then-is_on c = λ o j e s.
    let p = c.args.self.now.judged.program.now in
    let asked = c.args.call.now in
    let q = c.args.name.now in
    let on : is_on c.args.marks.now.interface_calls.items asked.called ≡ true = ap (λ xs. slice_index_or xs asked.called false) (sym c.deref.ensures.value) ∙ (sym c.is_on.ensures ∙ c.if-is_on.true) in
    sifts_none p o (allows_so p asked.caller call.Interface asked.called q asked.safe) c.args.marks.now s (λ n m. sym (interface_allows p asked.caller asked.called q asked.safe n) ∙ ap not (s.interfaces n asked.called q e on m))

pub returns : goal.returns
returns c = λ o j e s.
    let p = c.args.self.now.judged.program.now in
    let asked = c.args.call.now in
    let called = asked.called in
    let q = c.args.name.now in
    let old = c.args.marks.now in
    let kept : Keeps (λ n. not (concerns p n 0 call.Interface called q)) c.deref_mut.result.now c.bar_concerned.new.loose = c.in_ok-bar_concerned.ensures o j e (subst (HasCandidates p o) (sym c.deref_mut.ensures.value) s.candidates) in
    let loose : (with_items old.loose c.bar_concerned.new.loose).items ≡ c.bar_concerned.new.loose = with_items_is old.loose c.bar_concerned.new.loose (kept.long ∙ c.deref_mut.ensures.len) in
    let turned : (with_items old.interface_calls c.turn.new.marks).items ≡ slice_set old.interface_calls.items called true =
    with_items_is old.interface_calls c.turn.new.marks (ap length c.turn.ensures ∙ (set_long true c.deref_mut-2.result.now called ∙ c.deref_mut-2.ensures.len)) ∙ (c.turn.ensures ∙ ap (λ xs. slice_set xs called true) c.deref_mut-2.ensures.value) in
    let new : Marks = record { loose = with_items old.loose c.bar_concerned.new.loose; virtual_calls = old.virtual_calls; interface_calls = with_items old.interface_calls c.turn.new.marks } in
    sifts_same p o (λ n. not (concerns p n 0 call.Interface called q)) (allows_so p asked.caller call.Interface called q asked.safe) old new
    (sifts_interface p o called q old new e s
    (subst (λ l. Keeps (λ n. not (concerns p n 0 call.Interface called q)) old.loose.items l) (sym loose) (subst (λ l. Keeps (λ n. not (concerns p n 0 call.Interface called q)) l c.bar_concerned.new.loose) c.deref_mut.ensures.value kept)) turned refl)
    (λ n m. interface_allows p asked.caller called q asked.safe n)
