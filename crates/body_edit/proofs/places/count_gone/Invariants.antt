use Rattle.std.proofs.Common.{◌≡◌, ◌≤◌, ◌++◌, drop}
use Rattle.body_edit.specs.Fates.{fates_of}
use Rattle.body_edit.specs.Places.{gone_from, total_from}
use Rattle.body_edit.proofs.places.count_gone.Given as goal

abbrev pub invariant-loop-fate : goal.invariant-loop-fate
invariant-loop-fate l = record {
  gone : l.gone.items ++ gone_from l.total (fates_of (drop l.fate-index l.fates)) ≡ gone_from 0 (fates_of l.fates);
  total : total_from l.total (fates_of (drop l.fate-index l.fates)) ≡ total_from 0 (fates_of l.fates);
  small : l.total ≤ l.fate-index;
}
