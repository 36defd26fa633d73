use Rattle.std.proofs.Common.{ℕ, List, Contains, ◌∙◌, subst}
use Rattle.std.proofs.lemmas.List.{get_or_default}
use Rattle.walk_marks.specs.Steps.{Adds}
use Rattle.walk_marks.proofs.Turning.{turns_none, turns_more, turns_all}
use Rattle.walk_marks.proofs.turn.turned.Goals as goal

pub loop-to-init : goal.loop-to-init
loop-to-init c = turns_none c.args.rows.now c.args.count c.in_ok-back.back.items c.in_ok-back.ensures.long c.in_ok-back.ensures.empty

pub loop-to-preserved : goal.loop-to-preserved
loop-to-preserved c = turns_more c.args.rows.now c.args.count c.loop-to.back.items c.add_edges.new.rows.items c.loop-to.to c.loop-to.invariant
    (subst (λ (l : List ℕ). Adds (Contains l) c.loop-to.to c.loop-to.back.items c.add_edges.new.rows.items) (c.as_slice.ensures ∙ c.index-rows-to.is ∙ get_or_default _ _ _ _ c.loop-to-test.true) c.in_ok-add_edges.ensures)

pub returns : goal.returns
returns c = record { long = c.loop-to.invariant.long; turned = turns_all c.args.rows.now c.args.count c.loop-to.back.items c.loop-to.to c.loop-to-test.false c.loop-to.invariant }
