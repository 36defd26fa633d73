-- Programs whose new numbers need no more room.
use Rattle.std.specs.Prelude.{◌⊎◌, ◌≤◌, length, map}
use Rattle.program_model.specs.declared.program.Program.{Program}
use Rattle.dex_pools.specs.Finds.{Ascends}
use Rattle.dex_pools.specs.Numbering.{string_key}
use Rattle.dex_pools.specs.Order.{list_below}

-- The strings ascend, or 16 bits number them; and so do the texts of the types.
pub record TextsAscend (p : Program) : Type 0 where
  pub strings : Ascends list_below p.strings ⊎ (length p.strings ≤ 65536)
  pub types : Ascends list_below (map (string_key p.strings) p.types)
