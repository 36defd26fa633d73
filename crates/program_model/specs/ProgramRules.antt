-- Programs that a file can spell.
use Rattle.std.specs.Prelude.{Bool, ◌&&◌, nat_le}
use Rattle.std.specs.List.{list_all}
use Rattle.program_model.specs.Cells.{cells_of}
use Rattle.program_model.specs.Items.{items_of}
use Rattle.program_model.specs.TableRules.{tables_fit}
use Rattle.program_model.specs.MemberRules.{class_fits}
use Rattle.program_model.specs.InterfaceRules.{interfaces_stand_free}
use Rattle.program_model.specs.declared.program.Program.{Program}

-- A program is well-formed, its class graph apart, where its tables, each of its classes and what they hold are what a file can
-- spell, its cells and items keep their limits, and no interface stands on a class that is none.
unfoldable pub is_well_formed : Program → Bool
is_well_formed p = tables_fit p && ((nat_le (cells_of p) 67108864 && (nat_le (items_of p) 16777216 && interfaces_stand_free p)) && list_all (class_fits p) p.classes)
