use Rattle.std.proofs.Common.{◌≡◌, drop, length}
use Rattle.std.specs.Prelude.{IsTrue}
use Rattle.std.specs.List.{list_all}
use Rattle.code_read.specs.Checks.{operands_inside}
use Rattle.code_read.specs.Decoded.{insns_from}
use Rattle.code_read.specs.Seen.{seen}
use Rattle.code_read.proofs.Reading.{ReadsInsns}
use Rattle.code_read.proofs.decode.insns_at.Given as goal

abbrev pub invariant-loop-start : goal.invariant-loop-start
invariant-loop-start l = record {
  reads : ReadsInsns (seen l.places) l.sizes l.insns.items (drop l.start-index l.starts) (insns_from (seen l.places) l.sizes l.starts);
  count : length l.insns.items ≡ l.start-index;
  inside : IsTrue (list_all (operands_inside l.sizes) l.insns.items);
}
