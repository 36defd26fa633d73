-- Programs whose fields keep their order by new numbers: then no value stands further behind in a class's list of first values.
use Rattle.std.specs.Prelude.{◌<◌, ℕ, length, nat_lt, take}
use Rattle.std.specs.List.{AllByRecursion}
use Rattle.dex_pools.specs.declared.interner.Interner.{Interner}
use Rattle.dex_pools.specs.declared.used.Named.TheVariants as named
use Rattle.dex_pools.specs.Finds.{Ascends}
use Rattle.dex_pools.specs.Numbering.{used_in}
use Rattle.dex_pools.specs.Order.{list_below, field_below}
use Rattle.program_model.specs.declared.program.Program.{Program}
use Rattle.dex_defs.specs.Written.{new_field}
use Rattle.write_laws.specs.Used.{IsUsed}

-- new numbers of used fields rise with the old ones
pub record FieldsRise (p : Program) (i : Interner) : Type 0 where
  pub rise : (m n : ℕ) → IsUsed (used_in p) (named.Field m) → IsUsed (used_in p) (named.Field n) → m < n → n < length p.fields → new_field i.numbers m < new_field i.numbers n

-- The fields of a program in the order of the format, as those of a file are, also where further strings stand behind the file's: so many
-- first strings ascend, the types, by their strings, and the fields do, and they name just these strings.
pub record FieldsAscend (p : Program) : Type 0 where
  pub strings : ℕ
  pub ascend : Ascends list_below (take strings p.strings)
  pub types : Ascends nat_lt p.types
  pub fields : Ascends field_below p.fields
  pub of_types : AllByRecursion (λ s. s < strings) p.types
  pub of_fields : AllByRecursion (λ f. f.name < strings) p.fields
