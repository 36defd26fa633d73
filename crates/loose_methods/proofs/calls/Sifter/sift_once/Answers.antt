use Rattle.std.proofs.Common.{◌≡◌, ◌∙◌, ap, false, length, refl, subst, sym, true}
use Rattle.std.specs.Prelude.{slice_index_or, slice_set}
use Rattle.std.specs.Vec.{with_items}
use Rattle.std.proofs.lemmas.List.{with_items_is}
use Rattle.loose_methods.specs.declared.calls.Marks.{Marks}
use Rattle.loose_methods.specs.Marking.{is_on}
use Rattle.loose_methods.specs.Sifting.{HasCandidates, Keeps, is_clear}
use Rattle.loose_methods.proofs.Marks.{set_long}
use Rattle.loose_methods.proofs.Sifts.{sifts_none, sifts_virtual}
use Rattle.loose_methods.proofs.calls.Sifter.sift_once.Goals as goal

pub returns-then-is_on : goal.returns-then-is_on
returns-then-is_on c = λ o j e s.
    let p = c.args.self.now.judged.program.now in
    let on : is_on c.args.marks.now.virtual_calls.items c.args.called ≡ true = ap (λ xs. slice_index_or xs c.args.called false) (sym c.deref.ensures.value) ∙ (sym c.is_on.ensures ∙ c.if-is_on.true) in
    sifts_none p o (λ n. is_clear p n c.args.called c.args.name.now) c.args.marks.now s (λ n m. s.virtuals n c.args.called c.args.name.now e on m)

pub returns : goal.returns
returns c = λ o j e s.
    let p = c.args.self.now.judged.program.now in
    let called = c.args.called in
    let q = c.args.name.now in
    let old = c.args.marks.now in
    let kept : Keeps (λ n. is_clear p n called q) c.deref_mut.result.now c.sift_virtual.new.loose = c.in_ok-sift_virtual.ensures o j e (subst (HasCandidates p o) (sym c.deref_mut.ensures.value) s.candidates) in
    let loose : (with_items old.loose c.sift_virtual.new.loose).items ≡ c.sift_virtual.new.loose = with_items_is old.loose c.sift_virtual.new.loose (kept.long ∙ c.deref_mut.ensures.len) in
    let turned : (with_items old.virtual_calls c.turn.new.marks).items ≡ slice_set old.virtual_calls.items called true =
    with_items_is old.virtual_calls c.turn.new.marks (ap length c.turn.ensures ∙ (set_long true c.deref_mut-2.result.now called ∙ c.deref_mut-2.ensures.len)) ∙ (c.turn.ensures ∙ ap (λ xs. slice_set xs called true) c.deref_mut-2.ensures.value) in
    let new : Marks = record { loose = with_items old.loose c.sift_virtual.new.loose; virtual_calls = with_items old.virtual_calls c.turn.new.marks; interface_calls = old.interface_calls } in
    sifts_virtual p o called q old new e s
    (subst (λ l. Keeps (λ n. is_clear p n called q) old.loose.items l) (sym loose) (subst (λ l. Keeps (λ n. is_clear p n called q) l c.sift_virtual.new.loose) c.deref_mut.ensures.value kept)) turned refl
