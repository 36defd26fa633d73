-- The strings that are read ascend.
use Rattle.std.proofs.Common.{◌≡◌, ℕ, List, Ok, sym, subst}
use Rattle.dex_pools.specs.Finds.{Ascends}
use Rattle.dex_pools.specs.Order.{list_below}
use Rattle.program_model.specs.declared.program.Program.{Program}
use Rattle.dex_read.specs.File.{program_at}
use Rattle.read_laws.proofs.Told.{IsRead, is_read}

pub strings_rise : (bytes : List ℕ) (p : Program) → program_at bytes ≡ Ok p → Ascends list_below p.strings
strings_rise bytes p h =
    let r : IsRead bytes p = is_read bytes p h in
    subst (λ (q : Program). Ascends list_below q.strings) (sym r.is) (subst (λ (t : Program). Ascends list_below t.strings) (sym r.made) r.spells.strings_ascend)
