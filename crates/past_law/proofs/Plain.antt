-- Readings of tables and values none of whose faults is that of a limit.
use Rattle.std.proofs.Common.{◌≡◌, ℕ, zero, suc, ◌+◌, Bool, true, false, cond, ltb, List, [], ◌∷◌, take, drop, Some, None, Result, Ok, Err, refl, ◌∙◌}
use Rattle.std.specs.Prelude.{slice_index, Option}
use Rattle.std.specs.Int.{w32}
use Rattle.dex_base.specs.Reading.{raise, each}
use Rattle.dex_base.specs.Leb.{uleb_at}
use Rattle.dex_base.specs.Word.{u16_at, u32_at}
use Rattle.dex_base.specs.declared.fault.BaseFault.{BaseFault}
use Rattle.dex_base.specs.declared.fault.BaseFault.TheVariants as base
use Rattle.program_model.specs.declared.limits.LimitFault.{LimitFault}
use Rattle.dex_pools.specs.declared.fault.PoolFault.{PoolFault}
use Rattle.dex_pools.specs.declared.fault.PoolFault.TheVariants as pool
use Rattle.dex_pools.specs.declared.fault.Table.{Table}
use Rattle.dex_pools.specs.declared.scalar.TableSizes.{TableSizes}
use Rattle.dex_pools.specs.Fault.{of_base}
use Rattle.dex_pools.specs.Items.{count_at}
use Rattle.dex_pools.specs.Order.{ascends_from, ascends_in}
use Rattle.dex_pools.specs.Value.{byte_at, few_at, number_index_at, zero_extended, numeric, size_for, naming, named_at, scalar_at}
use Rattle.dex_pools.specs.Word.{index_at, half_index_at}
use Rattle.dex_read.specs.declared.fault.DexFault.TheVariants as dex
use Rattle.dex_read.specs.Faults as faults
use Rattle.dex_read.specs.Header.{need_at}
use Rattle.refused_law.proofs.Failing.{sound, fails_with, unless, fails_next, fails_lifted, fails_more}
use Rattle.past_law.proofs.Taking.{limit_of_pool, limit_of_dex, same_limit, Plain}

-- ---- in the words of tables

base_plain : (e : BaseFault) → limit_of_pool (of_base e) ≡ None
base_plain base.NoMemory = refl
base_plain (base.Short at) = refl
base_plain (base.LongLeb at) = refl
base_plain (base.BadText at) = refl
base_plain (base.BadDescriptor at) = refl

-- numbers and texts
pub plain_base : {Y : Type 0} (read : Result Y BaseFault) → Plain limit_of_pool (raise of_base read)
plain_base (Ok x) = sound x
plain_base (Err e) = fails_with (of_base e) (base_plain e)

pub plain_byte : (bytes : List ℕ) (at : ℕ) → Plain limit_of_pool (byte_at bytes at)
unfolding byte_at
plain_byte bytes at = unless (pool.Short at) (λ _. refl) (λ _. sound (slice_index bytes at))

pub plain_few : (bytes : List ℕ) (at count : ℕ) → Plain limit_of_pool (few_at bytes at count)
unfolding few_at
plain_few bytes at count = unless (pool.Short at) (λ _. refl) (λ _. sound (take count (drop (at + 1) bytes)))

pub plain_index : (bytes : List ℕ) (at size : ℕ) → Plain limit_of_pool (index_at bytes at size)
unfolding index_at
plain_index bytes at size = fails_next (plain_base (u32_at bytes at)) (λ n _. unless (pool.Index at n size) (λ _. refl) (λ _. sound n))

pub plain_half_index : (bytes : List ℕ) (at size : ℕ) → Plain limit_of_pool (half_index_at bytes at size)
unfolding half_index_at
plain_half_index bytes at size = fails_next (plain_base (u16_at bytes at)) (λ n _. unless (pool.Index at n size) (λ _. refl) (λ _. sound n))

pub plain_number_index : (bytes : List ℕ) (at size : ℕ) → Plain limit_of_pool (number_index_at bytes at size)
unfolding number_index_at
plain_number_index bytes at size = fails_next (plain_base (uleb_at bytes at)) (λ n _. unless (pool.Index at n.0 size) (λ _. refl) (λ _. sound n))

pub plain_count : (bytes : List ℕ) (at width : ℕ) → Plain limit_of_pool (count_at bytes at width)
unfolding count_at
plain_count bytes at width = fails_next (plain_base (u32_at bytes at)) (λ count _. unless (pool.Short at) (λ _. refl) (λ _. sound count))

plain_naming : (sizes : TableSizes) (at kind n : ℕ) → Plain limit_of_pool (named_at sizes at kind n)
plain_naming sizes at kind n = unless (pool.Index at n (size_for sizes kind)) (λ _. refl) (λ _. sound (naming kind n))

pub plain_or : {Y F : Type 0} (limit : F → Option LimitFault) (b : Bool) (v : Y) (more : Result Y F) → Plain limit more → Plain limit (cond b (Ok v) more)
plain_or limit true v more h = sound v
plain_or limit false v more h = h

pub plain_scalar : (bytes : List ℕ) (sizes : TableSizes) (at kind count : ℕ) → Plain limit_of_pool (scalar_at bytes sizes at kind count)
unfolding scalar_at
plain_scalar bytes sizes at kind count = fails_next (plain_few bytes at count) (λ few _. plain_or limit_of_pool (ltb kind 23) (numeric kind few) (named_at sizes at kind (zero_extended w32 few)) (plain_naming sizes at kind (zero_extended w32 few)))

ascends_on : {X : Type 0} (below : X → X → Bool) (table : Table) (place : ℕ) (before : X) (xs : List X) → Plain limit_of_pool (ascends_from below table (Some before) place xs)
ascends_on below table place before [] = sound tt
ascends_on below table place before (x ∷ xs) = unless (pool.Order table place) (λ _. refl) (λ _. ascends_on below table (suc place) x xs)

pub plain_ascending : {X : Type 0} (below : X → X → Bool) (table : Table) (xs : List X) → Plain limit_of_pool (ascends_in below table xs)
plain_ascending below table [] = sound tt
plain_ascending below table (x ∷ xs) = ascends_on below table 1 x xs

pub plain_each : {X F : Type 0} (limit : F → Option LimitFault) (f : ℕ → Result X F) → ((i : ℕ) → Plain limit (f i)) → (from n : ℕ) → Plain limit (each f from n)
plain_each limit f h from zero = sound []
plain_each limit f h from (suc n) = fails_next (h from) (λ x _. fails_next (plain_each limit f h (suc from) n) (λ xs _. sound (x ∷ xs)))

-- ---- in the words of the file

dex_base_plain : (e : BaseFault) → limit_of_dex (faults.of_base e) ≡ None
dex_base_plain base.NoMemory = refl
dex_base_plain (base.Short at) = refl
dex_base_plain (base.LongLeb at) = refl
dex_base_plain (base.BadText at) = refl
dex_base_plain (base.BadDescriptor at) = refl

pub plain_dex_base : {Y : Type 0} (read : Result Y BaseFault) → Plain limit_of_dex (raise faults.of_base read)
plain_dex_base (Ok x) = sound x
plain_dex_base (Err e) = fails_with (faults.of_base e) (dex_base_plain e)

pub plain_raised : {Y : Type 0} {read : Result Y PoolFault} → Plain limit_of_pool read → Plain limit_of_dex (raise faults.of_pool read)
plain_raised d = fails_lifted faults.of_pool (fails_more (λ e h. same_limit e ∙ h) d)

pub plain_need : (bytes : List ℕ) (at count : ℕ) → Plain limit_of_dex (need_at bytes at count)
unfolding need_at
plain_need bytes at count = unless (dex.Short at) (λ _. refl) (λ _. sound tt)
