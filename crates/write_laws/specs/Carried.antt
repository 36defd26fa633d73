-- What an old number names in a program, its new one names in the written program.
use Rattle.std.specs.Prelude.{◌≡◌, ◌<◌, ℕ, length}
use Rattle.dex_pools.specs.declared.interner.Interner.{Interner}
use Rattle.dex_pools.specs.declared.used.Named.{Named}
use Rattle.dex_pools.specs.declared.used.Named.TheVariants as named
use Rattle.dex_pools.specs.Numbering.{used_in}
use Rattle.program_model.specs.declared.pass.Renumber.{Renumber}
use Rattle.program_model.specs.declared.program.Program.{Program}
use Rattle.dalvik_defs.specs.Naming.{text_at, type_at, signature_at, field_at, method_at}
use Rattle.dex_defs.specs.Written.{new_string, new_type, new_proto, new_field, new_method}
use Rattle.write_laws.specs.Used.{IsUsed}

-- each entry that the program uses has the text in q, by its new number, that it has in p
pub record KeepsTexts (p : Program) (i : Interner) (q : Program) : Type 0 where
  pub strings : (n : ℕ) → IsUsed (used_in p) (named.Text n) → text_at q (new_string i.numbers n) ≡ text_at p n
  pub types : (n : ℕ) → IsUsed (used_in p) (named.Kind n) → type_at q (new_type i.numbers n) ≡ type_at p n
  pub protos : (n : ℕ) → IsUsed (used_in p) (named.Proto n) → signature_at q (new_proto i.numbers n) ≡ signature_at p n
  pub fields : (n : ℕ) → IsUsed (used_in p) (named.Field n) → field_at q (new_field i.numbers n) ≡ field_at p n
  pub methods : (n : ℕ) → IsUsed (used_in p) (named.Method n) → method_at q (new_method i.numbers n) ≡ method_at p n

-- the tables have an entry of this number
abbrev pub HasEntry : Program → Named → Type 0
HasEntry p (named.Text n) = n < length p.strings
HasEntry p (named.Kind n) = n < length p.types
HasEntry p (named.Proto n) = n < length p.protos
HasEntry p (named.Field n) = n < length p.fields
HasEntry p (named.Method n) = n < length p.methods

-- a name by its new number
abbrev pub renamed : Renumber → Named → Named
renamed r (named.Text n) = named.Text (new_string r n)
renamed r (named.Kind n) = named.Kind (new_type r n)
renamed r (named.Proto n) = named.Proto (new_proto r n)
renamed r (named.Field n) = named.Field (new_field r n)
renamed r (named.Method n) = named.Method (new_method r n)
