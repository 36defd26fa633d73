-- A value whose type may have its argument is read by its type.
use Rattle.std.proofs.Common.{◌≡◌, ℕ, ◌/◌, ◌%◌, List, true, Result, Ok, refl}
use Rattle.program_model.specs.declared.value.EncValue.{EncValue}
use Rattle.dex_pools.specs.declared.fault.PoolFault.{PoolFault}
use Rattle.dex_pools.specs.declared.scalar.TableSizes.{TableSizes}
use Rattle.dex_pools.specs.Value.{byte_at, is_within, most_argument, of_kind, value_in}

pub by_kind : (inner : ℕ × ℕ → Result (EncValue × (ℕ × ℕ)) PoolFault) (bytes : List ℕ) (sizes : TableSizes) (s : ℕ × ℕ) (tag : ℕ)
    → byte_at bytes s.0 ≡ Ok tag → is_within (tag / 32) (most_argument (tag % 32)) ≡ true → value_in inner bytes sizes s ≡ of_kind inner bytes sizes s (tag % 32) (tag / 32)
unfolding value_in
by_kind inner bytes sizes s tag e h = rw (e, h) refl
