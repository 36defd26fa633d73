use Rattle.std.proofs.Common.{◌∙◌, Bool, List, ℕ, ap, subst}
use Rattle.std.specs.List.{flat_map}
use Rattle.call_graph.specs.Above.{has_outer}
use Rattle.call_targets.specs.Adding.{Adds}
use Rattle.call_targets.specs.Noting.{kind_notes}
use Rattle.call_targets.proofs.Following.{class_by}
use Rattle.call_targets.proofs.made.follow_class.Goals as goal

pub returns-clause-open_walks : goal.returns-clause-open_walks
returns-clause-open_walks c = λ is ready. record {
  classes = c.in_ok-follow_kinds.ensures.ready ready.classes;
  kinds = c.in_ok-kinds.ensures.clean is ready.kinds;
  long = c.in_ok-kinds.ensures.size ∙ ready.long;
}

pub returns-clause-adds : goal.returns-clause-adds
returns-clause-adds c = λ is object ready.
    let p = c.args.at.now.program.now in
    let t = c.args.tables.now in
    let place = c.args.class.0 in
    let kind = c.args.class.1 in
    let kinds : List ℕ = c.in_ok-kinds.kinds.items in
    let outer : Bool = c.has_outer.result in
    class_by p t place kind outer kinds object (c.in_ok-kinds.ensures.above is ready.long ready.kinds) (c.in_ok-kinds.ensures.from is ready.long ready.kinds)
    (c.has_outer.ensures is ∙ ap (has_outer p t.object) c.as_slice.ensures.value) c.args.targets.now c.follow_kinds.new.targets
    (subst (λ (l : List ℕ). Adds (flat_map (kind_notes p t.named t.kept place outer) l) c.args.targets.now c.follow_kinds.new.targets) c.as_slice-2.ensures.value (c.in_ok-follow_kinds.ensures.adds is ready.classes))
