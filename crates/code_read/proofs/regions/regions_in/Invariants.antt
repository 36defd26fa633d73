use Rattle.std.proofs.Common.{◌≡◌, ◌-◌, length}
use Rattle.std.specs.Prelude.{IsTrue}
use Rattle.std.specs.List.{list_all}
use Rattle.code_read.specs.Regions.{region_inside, are_apart, regions_from}
use Rattle.code_read.specs.Seen.{seen}
use Rattle.code_read.proofs.Apart.{last_end}
use Rattle.code_read.proofs.Reading.{ReadsRegions}
use Rattle.code_read.proofs.regions.regions_in.Given as goal

abbrev pub invariant-loop-place : goal.invariant-loop-place
invariant-loop-place l = record {
  reads : ReadsRegions l.lists.tries.now l.lists.bytes.now l.types (seen l.places) (l.lists.count - l.place) l.place l.from l.left l.regions.items
      (regions_from l.lists.tries.now l.lists.bytes.now l.types (seen l.places) l.lists.count 0 0 l.items);
  inside : IsTrue (list_all (region_inside l.types (length l.places.starts.items)) l.regions.items);
  apart : IsTrue (are_apart 0 l.regions.items);
  last : last_end 0 l.regions.items ≡ l.from;
}
