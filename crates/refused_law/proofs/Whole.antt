-- A fault of the header and the tables that is answered stands there.
use Rattle.std.proofs.Common.{◌≤◌, ℕ, List, length}
use Rattle.program_model.specs.declared.program.Version.{Version}
use Rattle.dex_pools.specs.declared.fault.PoolFault.{PoolFault}
use Rattle.dex_pools.specs.declared.fault.PoolFault.TheVariants as pool
use Rattle.dex_pools.specs.PoolTables.{pools_at}
use Rattle.dex_pools.proofs.Fields.{finds_extents}
use Rattle.dex_read.specs.Faults.{of_pool}
use Rattle.dex_read.specs.File.{tables_with, tables_at, head_at}
use Rattle.refused_law.specs.Just.{IsJustPool, IsJust}
use Rattle.refused_law.proofs.Failing.{Fails, sound, fails_next, fails_lifted, fails_more}
use Rattle.refused_law.proofs.Headers.{fails_header, header_whole}
use Rattle.refused_law.proofs.Tables.{fails_extents, fails_strings, strings_are, fails_types, types_are}
use Rattle.refused_law.proofs.Ids.{fails_protos, fails_fields, fails_methods}

pub just_pool : (bytes : List ℕ) (e : PoolFault) → IsJustPool bytes e → IsJust bytes (of_pool e)
just_pool bytes pool.NoMemory h = h
just_pool bytes (pool.Short at) h = h
just_pool bytes (pool.LongLeb at) h = h
just_pool bytes (pool.BadText at) h = h
just_pool bytes (pool.BadDescriptor at) h = h
just_pool bytes (pool.Index at value size) h = h
just_pool bytes (pool.Order table place) h = h
just_pool bytes (pool.BadValue at) h = h
just_pool bytes (pool.Deep at) h = h
just_pool bytes (pool.Shorty at) h = h
just_pool bytes (pool.Limit limit) h = h

pub fails_pools : (bytes : List ℕ) (left : ℕ) → 112 ≤ length bytes → Fails (IsJustPool bytes) (pools_at bytes left)
unfolding pools_at
fails_pools bytes left whole =
    fails_next (fails_extents bytes whole) (λ t h0. let stand = (finds_extents bytes).found t h0 in
    fails_next (fails_strings bytes t stand) (λ strings h1. let are = strings_are bytes t stand strings h1 in
    fails_next (fails_types bytes t stand strings are) (λ types h2. let are_types = types_are bytes t stand strings are types h2 in
    fails_next (fails_protos bytes t stand strings are types are_types left) (λ protos _.
    fails_next (fails_fields bytes t stand strings are types are_types) (λ fields _.
    fails_next (fails_methods bytes t stand strings are types are_types) (λ methods _.
    sound (record { strings = strings; types = types; protos = protos.0; fields = fields; methods = methods }, protos.1)))))))

fails_tables : (bytes : List ℕ) (version : Version) → 112 ≤ length bytes → Fails (IsJust bytes) (tables_at bytes version)
unfolding tables_at
fails_tables bytes version whole = fails_next (fails_lifted of_pool (fails_more (just_pool bytes) (fails_pools bytes 16777216 whole))) (λ pools _. sound (tables_with version pools.0, pools.1))

pub fails_head : (bytes : List ℕ) → Fails (IsJust bytes) (head_at bytes)
unfolding head_at
fails_head bytes = fails_next (fails_header bytes) (λ version h. fails_tables bytes version (header_whole bytes version h))
