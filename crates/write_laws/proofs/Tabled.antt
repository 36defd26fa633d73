-- The tables of the written program fit, where their texts do.
use Rattle.std.proofs.Common.{◌≡◌, ◌<◌, ◌≤◌, ◌^◌, ℕ, List, [], ◌∷◌, length, arith, ltb-true}
use Rattle.std.specs.Prelude.{Bool, true, ◌&&◌, nat_lt, nat_le, slice_index}
use Rattle.std.specs.List.{AllByRecursion}
use Rattle.std.proofs.lemmas.Bool.{and_parts, leb-true}
use Rattle.dex_base.specs.declared.descriptor.Descriptor.{Descriptor}
use Rattle.dex_base.specs.Grammar.{IsDescriptor}
use Rattle.dex_pools.specs.declared.interner.Interner.{Interner}
use Rattle.dex_pools.specs.Interned.{IsInterned}
use Rattle.dex_pools.specs.Tables.{text_of, letters_of, spells_shorty}
use Rattle.program_model.specs.TableRules.{tables_are_short, entries_fit, entries_differ}
use Rattle.program_model.specs.declared.pools.Proto.{Proto}
use Rattle.program_model.specs.declared.pools.FieldName.{FieldName}
use Rattle.program_model.specs.declared.pools.MethodName.{MethodName}
use Rattle.program_model.specs.declared.program.Program.{Program}
use Rattle.dex_defs.specs.Written.{written_by}
use Rattle.write_laws.specs.Used.{IsShort}
use Rattle.write_laws.specs.Owning.{OwnsProto, OwnsField, OwnsMethod, OwnsAll, IsNoLonger}
use Rattle.write_laws.specs.Ascending.{AllAscend}
use Rattle.write_laws.proofs.Owning.{owned, no_longer}
use Rattle.write_laws.proofs.Rising.{all_ascend}
use Rattle.write_laws.specs.Fits.{FitsType, FitsField, FitsMethod, FitsProto, TextsFit, TablesFit}

-- how short the tables of a well-formed program are
pub record AreShort (p : Program) : Type 0 where
  pub strings : length p.strings < 2 ^ 32
  pub types : length p.types ≤ 65535
  pub protos : length p.protos ≤ 65535
  pub fields : length p.fields ≤ 65536
  pub methods : length p.methods ≤ 65536

pub short_of : (p : Program) → tables_are_short p ≡ true → AreShort p
unfolding tables_are_short
short_of p h =
    let a = and_parts (nat_lt (length p.strings) (2 ^ 32) && nat_lt (length p.classes) (2 ^ 32)) ((nat_le (length p.types) 65535 && nat_le (length p.protos) 65535) && (nat_le (length p.fields) 65536 && nat_le (length p.methods) 65536)) h in
    let b = and_parts (nat_lt (length p.strings) (2 ^ 32)) (nat_lt (length p.classes) (2 ^ 32)) a.0 in
    let c = and_parts (nat_le (length p.types) 65535 && nat_le (length p.protos) 65535) (nat_le (length p.fields) 65536 && nat_le (length p.methods) 65536) a.1 in
    let d = and_parts (nat_le (length p.types) 65535) (nat_le (length p.protos) 65535) c.0 in
    let e = and_parts (nat_le (length p.fields) 65536) (nat_le (length p.methods) 65536) c.1 in
    record {
      strings = ltb-true (length p.strings) (2 ^ 32) b.0;
      types = leb-true (length p.types) 65535 d.0;
      protos = leb-true (length p.protos) 65535 d.1;
      fields = leb-true (length p.fields) 65536 e.0;
      methods = leb-true (length p.methods) 65536 e.1;
    }

pub is_short : (p : Program) → AreShort p → IsShort p
is_short p s = record { strings = s.strings; types = omega (arith, s.types); protos = omega (arith, s.protos); fields = omega (arith, s.fields); methods = omega (arith, s.methods) }

-- ---- entry by entry

types_fit : (strings : List (List ℕ)) (ns : List ℕ) → length strings < 2 ^ 32 → AllByRecursion (λ n. n < length strings) ns → AllByRecursion (λ n. (kind : Descriptor) × IsDescriptor (text_of strings n) kind) ns → AllByRecursion (FitsType strings) ns
types_fit strings [] few own texts = tt
types_fit strings (n ∷ ns) few own texts = (record { below = own.0; few = omega (arith, own.0, few); kind = texts.0.0; describes = texts.0.1 }, types_fit strings ns few own.1 texts.1)

protos_fit : (q : Program) (xs : List Proto) → AllByRecursion (OwnsProto q) xs → AllByRecursion (λ x. length x.parameters < 2 ^ 32) xs → AllByRecursion (λ x. spells_shorty (letters_of q.strings q.types) (text_of q.strings x.shorty) x.result x.parameters ≡ true) xs → AllByRecursion (FitsProto q.strings (length q.types) (letters_of q.strings q.types)) xs
protos_fit q [] own lists shorties = tt
protos_fit q (x ∷ xs) own lists shorties = (record { shorty = own.0.shorty; result = own.0.result; parameters = record { short = lists.0; fit = own.0.parameters }; spelled = shorties.0 }, protos_fit q xs own.1 lists.1 shorties.1)

fields_fit : (q : Program) (xs : List FieldName) → AllByRecursion (OwnsField q) xs → AllByRecursion (λ f. slice_index (letters_of q.strings q.types) f.kind ≡ 86 → ⊥) xs → AllByRecursion (FitsField (length q.strings) (length q.types) (letters_of q.strings q.types)) xs
fields_fit q [] own some = tt
fields_fit q (x ∷ xs) own some = (record { class = own.0.class; kind = own.0.kind; name = own.0.name; some = some.0 }, fields_fit q xs own.1 some.1)

methods_fit : (q : Program) (xs : List MethodName) → AllByRecursion (OwnsMethod q) xs → AllByRecursion (FitsMethod (length q.strings) (length q.types) (length q.protos)) xs
methods_fit q [] own = tt
methods_fit q (x ∷ xs) own = (record { class = own.0.class; proto = own.0.proto; name = own.0.name }, methods_fit q xs own.1)

-- ---- the whole

pub tables_are_fit : (p : Program) (i : Interner) → tables_are_short p ≡ true → entries_fit p ≡ true → entries_differ p ≡ true → IsInterned p i → TextsFit (written_by i p) → TablesFit (written_by i p)
tables_are_fit p i short fit differ h texts =
    let q : Program = written_by i p in
    let few : AreShort p = short_of p short in
    let own : OwnsAll q = owned p i (is_short p few) h fit in
    let order : AllAscend q = all_ascend p i (is_short p few) h fit differ in
    let no : IsNoLonger q p = no_longer p i h in
    let few_strings : length q.strings < 2 ^ 32 = omega (arith, no.strings, few.strings) in
    record {
      strings = texts.strings;
      few_strings = few_strings;
      strings_ascend = order.strings;
      units = texts.units;
      types = types_fit q.strings q.types few_strings own.types texts.types;
      few_types = omega (arith, no.types, few.types);
      types_ascend = order.types;
      protos = protos_fit q q.protos own.protos texts.lists texts.shorties;
      few_protos = omega (arith, no.protos, few.protos);
      protos_ascend = order.protos;
      items = texts.items;
      fields = fields_fit q q.fields own.fields texts.fields;
      fields_ascend = order.fields;
      methods = methods_fit q q.methods own.methods;
      methods_ascend = order.methods;
    }
