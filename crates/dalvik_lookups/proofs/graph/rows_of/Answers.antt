use Rattle.std.proofs.Common.{ap, sym, subst, ◌∙◌, ◌++◌, take, Some}
use Rattle.dalvik_defs.specs.Known.{known_rows}
use Rattle.dalvik_lookups.specs.Views.{names_of}
use Rattle.dalvik_lookups.specs.Rows.{HaveRows}
use Rattle.dalvik_lookups.proofs.Interned.{stays_on}
use Rattle.dalvik_lookups.proofs.Making.{types_same, types_on, types_whole}
use Rattle.dalvik_lookups.proofs.Standing.{rows_push, more_of, all_of}
use Rattle.dalvik_lookups.proofs.graph.rows_of.Goals as goal

pub loop-row-init : goal.loop-row-init
loop-row-init c = record { grows = λ h. types_same c.args.types.now h; made = λ h. c.in_ok-rows.ensures c.args.types.now h }

pub loop-row-preserved : goal.loop-row-preserved
loop-row-preserved c = record {
  grows = λ h. let g = c.loop-row.invariant.grows h in let m = types_whole _ _ _ _ _ g (c.in_ok-number.ensures.added g.are.kept) in types_on _ _ _ m (c.in_ok-above.ensures.grows m.are);
  made = λ h.
      let g = c.loop-row.invariant.grows h in
      let a = c.in_ok-number.ensures.added g.are.kept in
      let m = types_whole _ _ _ _ _ g a in
      let n = c.in_ok-above.ensures.grows m.are in
      subst (λ fs. HaveRows (names_of c.numbers_above.new.types) (record { own = c.push.new.self; above = c.push-in-loop-row.new.self }) (known_rows ++ fs))
      (sym (more_of c.as_slice-row-items.result.now c.args.framework.now.rows c.loop-row.row-index c.row-item.result c.as_slice-row-items.ensures c.loop-row-test.true c.row-item.is))
      (rows_push (names_of c.loop-row.types) (names_of c.numbers_above.new.types) c.loop-row.rows (record { own = c.push.new.self; above = c.push-in-loop-row.new.self }) (known_rows ++ take c.loop-row.row-index c.args.framework.now.rows) c.row-item.result c.in_ok-number.number c.in_ok-above.above
      (stays_on _ _ _ a.stays n.stays) (c.loop-row.invariant.made h) (n.stays.stays c.in_ok-number.number c.row-item.result.name (a.there ∙ ap (λ u. Some u) c.units.ensures)) (c.in_ok-above.ensures.stand m.are) c.in_ok-push.ensures.items c.in_ok-push-2.ensures.items);
}

pub returns-clause-rows : goal.returns-clause-rows
returns-clause-rows c = λ h. subst (λ fs. HaveRows (names_of c.loop-row.types) c.loop-row.rows (known_rows ++ fs)) (all_of c.as_slice-row-items.result.now c.args.framework.now.rows c.loop-row.row-index c.as_slice-row-items.ensures c.loop-row-test.false) (c.loop-row.invariant.made h)
