use Rattle.std.proofs.Common.{◌≡◌, ◌∙◌, ℕ, inl, inr, [], Some, refl, sym, subst, arith}
use Rattle.std.specs.Prelude.{Contains}
use Rattle.call_graph.specs.declared.notes.Notes.{Notes}
use Rattle.call_graph.specs.Above.{HasAbove}
use Rattle.call_graph.specs.Objects.{AreNotes, NotesGrow, NotesUnder}
use Rattle.call_graph.proofs.Contained.{none_in}
use Rattle.call_graph.proofs.Noting.{grow_same, grow_then, walked_notes}
use Rattle.call_graph.specs.Above.{AllFrom}
use Rattle.call_graph.specs.Least.{CallsOn, BothReached}
use Rattle.call_graph.proofs.Reaching.{back_reached, notes_same, reached_after}
use Rattle.call_graph.proofs.objects.add_made.Goals as goal

some_same : (x y : ℕ) → Some x ≡ Some y → x ≡ y
some_same x y e = cc

pub returns-clause-notes : goal.returns-clause-notes
returns-clause-notes c = λ is fits are has place.
    let mid : Notes = record c.args.notes.now { kinds = c.climb.new.marks } in
    let are_mid : AreNotes c.args.at.now.program.now mid = walked_notes c.args.at.now.program.now c.args.notes.now mid refl refl c.in_ok-above.ensures.size (c.in_ok-above.ensures.clean is are.kinds) refl are in
    let under : NotesUnder c.args.at.now.program.now mid c.add_under_all.new.notes c.args.made.1 c.as_slice.result.now c.args.out.now.items c.add_under_all.new.out.items = c.in_ok-add_under_all.ensures.notes is are_mid in
    let first : NotesGrow c.args.at.now.program.now c.args.notes.now c.add_under_all.new.notes c.add_under_all.new.out.items =
    grow_then c.args.at.now.program.now c.args.notes.now mid c.add_under_all.new.notes [] c.add_under_all.new.out.items (grow_same c.args.at.now.program.now c.args.notes.now mid [] (record { called = refl; made = refl })) (λ y i. absurd (none_in y i)) under.grow in
    let above : HasAbove c.args.at.now.program.now c.args.made.0 c.in_ok-above.above.items = c.in_ok-above.ensures.above is are.kinds_size are.kinds in
    record {
      grow = grow_then c.args.at.now.program.now c.args.notes.now c.add_under_all.new.notes c.add_under_all.new.notes c.add_under_all.new.out.items c.add_callbacks.new.out.items first c.in_ok-add_callbacks.ensures.stays.has
          (grow_same c.args.at.now.program.now c.add_under_all.new.notes c.add_under_all.new.notes c.add_callbacks.new.out.items (record { called = refl; made = refl }));
      are = under.are;
      noted = λ class u e over lt.
          let same : c.args.made.1 ≡ class = some_same c.args.made.1 class (sym place ∙ e) in
          let listed : Contains c.in_ok-above.above.items u = elim over [
            | inl climbs ↦ above u climbs lt
            | inr o ↦ subst (Contains c.in_ok-above.above.items) (sym o) (c.in_ok-above.ensures.object is are.kinds (let z = are.kinds_size in omega (arith, lt, o, z)))
          ] in
          subst (Contains _) same (under.noted u (subst (λ l. Contains l u) (sym c.as_slice.ensures.value) listed) lt);
      called_back = λ y b. c.in_ok-add_callbacks.ensures.called_back is fits has c.args.made.0 y place (subst (HasAbove c.args.at.now.program.now c.args.made.0) (sym c.as_slice-2.ensures.value) above) b;
    }

pub returns-clause-reached : goal.returns-clause-reached
returns-clause-reached c = λ o is formed are common place made notes facts.
    let p = c.args.at.now.program.now in
    let t = c.args.tables.now in
    let mid : Notes = record c.args.notes.now { kinds = c.climb.new.marks } in
    let are_mid : AreNotes p mid = walked_notes p c.args.notes.now mid refl refl c.in_ok-above.ensures.size (c.in_ok-above.ensures.clean is are.kinds) refl are in
    let from : AllFrom p t.object c.args.made.0 c.in_ok-above.above.items = c.in_ok-above.ensures.from is are.kinds_size are.kinds in
    let over = λ (u : ℕ) (i : Contains c.as_slice.result.now u). (from u (subst (λ l. Contains l u) c.as_slice.ensures.value i)).0 in
    let over2 = λ (u : ℕ) (i : Contains c.as_slice-2.result.now u). (from u (subst (λ l. Contains l u) c.as_slice-2.ensures.value i)).0 in
    let under : BothReached p o t c.add_under_all.new.notes c.add_under_all.new.out.items = c.in_ok-add_under_all.ensures.reached o t is are_mid
    (λ u i. record { below = c.args.made.0; place = place; from = over u i; made = made })
    (notes_same p o t c.args.notes.now mid (record { called = refl; made = refl }) notes) facts in
    record {
      notes = under.notes;
      facts = reached_after p o t (CallsOn p t.object t.shut.items c.args.made.1 c.as_slice-2.result.now) c.add_under_all.new.out.items c.add_callbacks.new.out.items
          (λ y f. back_reached p o t c.args.made.0 c.args.made.1 c.as_slice-2.result.now y made place over2 f) under.facts (c.in_ok-add_callbacks.ensures.only is formed common);
    }
