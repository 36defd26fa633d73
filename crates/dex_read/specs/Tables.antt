-- The sizes of a program's tables, and its types by their first letters.
use Rattle.std.specs.Prelude.{ℕ, List, length, min, map}
use Rattle.program_model.specs.Texts.{first_unit, string_text}
use Rattle.program_model.specs.declared.program.Program.{Program}
use Rattle.dex_pools.specs.declared.scalar.TableSizes.{TableSizes}

-- how many entries the tables have that values and code may name, as numbers of 32 bits
abbrev pub sizes_in : Program → TableSizes
sizes_in p = record {
  strings = min (length p.strings) 4294967295;
  types = min (length p.types) 4294967295;
  fields = min (length p.fields) 4294967295;
  methods = min (length p.methods) 4294967295;
}

-- the letters that the types' descriptors begin with
abbrev pub letters_in : Program → List ℕ
letters_in p = map (λ string. first_unit (string_text p string)) p.types
