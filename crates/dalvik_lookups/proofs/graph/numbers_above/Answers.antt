use Rattle.std.proofs.Common.{ap, sym, subst, ◌∙◌, ◌∷◌, ◌++◌, [], Some}
use Rattle.dalvik_lookups.specs.Tables.{Stand}
use Rattle.dalvik_lookups.specs.Views.{names_of}
use Rattle.dalvik_lookups.proofs.Making.{types_same, types_on, types_whole}
use Rattle.dalvik_lookups.proofs.Standing.{stand_one, stand_push, more_of, all_of}
use Rattle.dalvik_lookups.proofs.graph.numbers_above.Goals as goal

pub loop-interface-init : goal.loop-interface-init
loop-interface-init c = record {
  grows = λ h. types_same c.add_whole.new.self h;
  stand = λ h. subst (λ ns. Stand (names_of c.add_whole.new.self) ns (c.args.row.now.superclass ∷ [])) (sym (c.in_ok-push.ensures.items ∙ ap (λ ns. ns ++ c.in_ok-add_whole.field-0 ∷ []) c.new-above.ensures.items))
      (stand_one (names_of c.add_whole.new.self) c.in_ok-add_whole.field-0 c.args.row.now.superclass ((c.in_ok-add_whole.ensures.added h.kept).there ∙ ap (λ u. Some u) c.units.ensures));
}

pub loop-interface-preserved : goal.loop-interface-preserved
loop-interface-preserved c = record {
  grows = λ h. let g = c.loop-interface.invariant.grows h in types_whole _ _ _ _ _ g (c.in_ok-add_whole-2.ensures.added g.are.kept);
  stand = λ h.
      let m = types_whole _ _ _ _ _ (types_same c.args.types.now h) (c.in_ok-add_whole.ensures.added h.kept) in
      let a = c.in_ok-add_whole-2.ensures.added (c.loop-interface.invariant.grows m.are).are.kept in
      subst (λ xs. Stand (names_of c.add_whole-in-loop-interface.new.self) c.push-in-loop-interface.new.self.items (c.args.row.now.superclass ∷ xs))
      (sym (more_of c.as_slice-interface-items.result.now c.args.row.now.interfaces c.loop-interface.interface-index c.interface-item.result c.as_slice-interface-items.ensures c.loop-interface-test.true c.interface-item.is))
      (stand_push (names_of c.loop-interface.types) (names_of c.add_whole-in-loop-interface.new.self) c.loop-interface.above.items c.push-in-loop-interface.new.self.items _ c.in_ok-add_whole-2.field-0 c.interface-item.result
      a.stays (c.loop-interface.invariant.stand h) (a.there ∙ ap (λ u. Some u) c.units-in-loop-interface.ensures) c.in_ok-push-2.ensures.items);
}

pub returns-clause-grows : goal.returns-clause-grows
returns-clause-grows c = λ h. let m = types_whole _ _ _ _ _ (types_same c.args.types.now h) (c.in_ok-add_whole.ensures.added h.kept) in types_on _ _ _ m (c.loop-interface.invariant.grows m.are)

pub returns-clause-stand : goal.returns-clause-stand
returns-clause-stand c = λ h. subst (λ xs. Stand (names_of c.loop-interface.types) c.loop-interface.above.items (c.args.row.now.superclass ∷ xs)) (all_of c.as_slice-interface-items.result.now c.args.row.now.interfaces c.loop-interface.interface-index c.as_slice-interface-items.ensures c.loop-interface-test.false) (c.loop-interface.invariant.stand h)
