use Rattle.std.proofs.Common.{◌≡◌, false, take, drop}
use Rattle.std.specs.List.{list_any}
use Rattle.std.specs.Option.{option_copied}
use Rattle.program_model.specs.Distinct.{is_behind, differ_from, all_differ}
use Rattle.program_model.proofs.distinct.all_differ.Given as goal

abbrev pub invariant-loop-place : goal.invariant-loop-place
invariant-loop-place g l = record {
  same : differ_from g.T.Entry.key (take l.place l.items) (drop l.place l.items) ≡ all_differ g.T.Entry.key l.items;
  bound : list_any (is_behind g.T.Entry.key (option_copied l.greatest)) (take l.place l.items) ≡ false;
}
