use Rattle.std.proofs.Common.{◌≡◌, ◌+◌, ◌*◌, ℕ, vec_len}
use Rattle.dex_base.specs.Reading.{each}
use Rattle.dex_pools.proofs.Loop.{ReadsEach}
use Rattle.dex_read.specs.Word.{half_at}
use Rattle.dex_read.proofs.code.units_of.Given as goal

abbrev pub invariant-loop-i : goal.invariant-loop-i
invariant-loop-i l = record {
  reads : ReadsEach (λ (i : ℕ). half_at l.bytes (l.at + 2 * i)) l.units.items l.count l.i (each (λ (i : ℕ). half_at l.bytes (l.at + 2 * i)) 0 l.count);
  count : vec_len l.units ≡ l.i;
}
