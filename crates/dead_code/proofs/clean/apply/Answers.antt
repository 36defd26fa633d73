use Rattle.dead_code.proofs.Left.{none_left}
use Rattle.dead_code.proofs.Quieted.{resolved_thinned, resolved_none}
use Rattle.walk_marks.specs.Walks.{is_on}
use Rattle.dead_code.proofs.clean.apply.Goals as goal

pub returns-clause-cleaned : goal.returns-clause-cleaned
returns-clause-cleaned c = record {
  quiet = c.in_ok-quiet.quiet.items;
  are = c.in_ok-quiet.ensures;
  thinned = c.in_ok-changed.ensures.thinned;
  none_left = none_left (is_on c.in_ok-quiet.quiet.items) c.args.admitted.now.methods.items c.args.program c.in_ok-changed.changed c.in_ok-changed.ensures.thinned;
}

pub returns-clause-resolved : goal.returns-clause-resolved
returns-clause-resolved c = λ r. resolved_thinned c.args.program c.args.hierarchy.now c.in_ok-quiet.quiet.items c.args.admitted.now.methods.items c.in_ok-changed.changed r c.in_ok-quiet.ensures c.in_ok-changed.ensures.thinned

pub returns-clause-none_left : goal.returns-clause-none_left
returns-clause-none_left c = λ r. resolved_none c.args.program c.args.hierarchy.now c.in_ok-quiet.quiet.items c.args.admitted.now.methods.items c.in_ok-changed.changed r c.in_ok-quiet.ensures c.in_ok-changed.ensures.thinned
