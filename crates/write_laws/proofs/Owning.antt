-- The entries of a written program name entries of its own.
use Rattle.std.proofs.Common.{◌≡◌, ◌<◌, ◌≤◌, ◌+◌, ◌^◌, ℕ, zero, suc, List, [], ◌∷◌, ◌++◌, length, map, refl, sym, subst, ◌∙◌, arith, ltb-true}
use Rattle.std.specs.Prelude.{Bool, true, false, ◌&&◌, nat_lt, slice_get, slice_index_or, Option, Some, None}
use Rattle.std.specs.List.{AllByRecursion, list_all}
use Rattle.std.proofs.lemmas.Bool.{and_parts}
use Rattle.std.proofs.lemmas.List.Sorted.{All-permutation}
use Rattle.std.proofs.lemmas.List.Elements.{All-from_recursion, recursion_from_All}
use Rattle.lemmas.proofs.Lists.{all_at}
use Rattle.dex_pools.specs.declared.interner.Interner.{Interner}
use Rattle.dex_pools.specs.Interned.{IsInterned}
use Rattle.dex_pools.specs.Numbering.{numbers_from, numbers_of, used_in, string_key, type_key, proto_key, field_key, method_key, IsNumbered}
use Rattle.dex_pools.specs.declared.used.Named.TheVariants as named
use Rattle.dex_pools.specs.declared.used.Used.{Used}
use Rattle.program_model.specs.Texts.{has_string, has_type, has_proto, string_text}
use Rattle.program_model.specs.TableRules.{type_fits, proto_fits, is_shorty, field_id_fits, method_id_fits, entries_fit}
use Rattle.program_model.specs.declared.pools.Proto.{Proto}
use Rattle.program_model.specs.declared.pools.FieldName.{FieldName}
use Rattle.program_model.specs.declared.pools.MethodName.{MethodName}
use Rattle.program_model.specs.declared.program.Program.{Program}
use Rattle.dex_defs.specs.Written.{entries, new_string, new_type, new_proto, new_field, new_method, written_proto, written_field_name, written_method_name, written_by}
use Rattle.write_laws.specs.Used.{IsSet, IsUsed, UsesProto, UsesField, UsesMethod, IsClosed, IsShort}
use Rattle.write_laws.specs.Orders.{OrdersIn}
use Rattle.write_laws.specs.Owning.{OwnsProto, OwnsField, OwnsMethod, OwnsAll, IsNoLonger}
use Rattle.write_laws.proofs.NamesOrdering.{AsMany, used_marked, orders_in}
use Rattle.write_laws.proofs.Closed.{used_closed}
use Rattle.write_laws.proofs.Carried.{entries_long, order_few}
use Rattle.write_laws.proofs.Ranges.{ranges_kept}

-- ---- the entries in order are used

-- a number of a flag that is set, behind the first one's
record IsFlagged (from : ℕ) (flags : List Bool) (k : ℕ) : Type 0 where
  at : ℕ
  is : k ≡ from + at
  set : slice_index_or flags at false ≡ true

later : (from : ℕ) (flag : Bool) (flags : List Bool) (ns : List ℕ) → AllByRecursion (IsFlagged (suc from) flags) ns → AllByRecursion (IsFlagged from (flag ∷ flags)) ns
later from flag flags [] h = tt
later from flag flags (n ∷ ns) h = (record { at = suc h.0.at; is = omega (arith, h.0.is); set = h.0.set }, later from flag flags ns h.1)

flagged : (from : ℕ) (flags : List Bool) → AllByRecursion (IsFlagged from flags) (numbers_from from flags)
flagged from [] = tt
flagged from (flag ∷ flags) = by_test (flag && nat_lt from 4294967295) refl (later from flag flags (numbers_from (suc from) flags) (flagged (suc from) flags))
  where
    by_test : (t : Bool) → (flag && nat_lt from 4294967295) ≡ t → AllByRecursion (IsFlagged from (flag ∷ flags)) (numbers_from (suc from) flags) → AllByRecursion (IsFlagged from (flag ∷ flags)) (numbers_from from (flag ∷ flags))
    by_test true e rest = rw e (record { at = 0; is = omega arith; set = (and_parts flag (nat_lt from 4294967295) e).0 }, rest)
    by_test false e rest = rw e rest

all_set : (flags : List Bool) (ns : List ℕ) → AllByRecursion (IsFlagged 0 flags) ns → AllByRecursion (IsSet flags) ns
all_set flags [] h = tt
all_set flags (n ∷ ns) h =
    let same : h.0.at ≡ n = omega (arith, h.0.is) in
    let now : slice_index_or flags n false ≡ true = subst (λ k. slice_index_or flags k false ≡ true) same h.0.set in
    (λ lt. now, all_set flags ns h.1)

pub order_set : (flags : List Bool) (key : ℕ → List ℕ) (count : ℕ) (order numbers : List ℕ) → IsNumbered key flags count order numbers → AllByRecursion (IsSet flags) order
unfolding numbers_of
order_set flags key count order numbers h =
    all_set flags order (recursion_from_All (IsFlagged 0 flags) order (All-permutation (IsFlagged 0 flags) (numbers_from 0 flags) order h.in_order.same (All-from_recursion (IsFlagged 0 flags) (numbers_from 0 flags) (flagged 0 flags))))

-- ---- what holds of entries

-- what holds of each entry that is used holds of those in order
all_entries : {X Y : Type 0} (f : X → Y) (table : List X) (Q : Y → Type 0) (P : ℕ → Type 0) (order : List ℕ) → ((n : ℕ) (x : X) → slice_get table n ≡ Some x → P n → Q (f x)) → AllByRecursion P order → AllByRecursion Q (entries f table order)
all_entries f table Q P [] each h = tt
all_entries {X = X} f table Q P (n ∷ ns) each h = by_entry (slice_get table n) refl (all_entries f table Q P ns each h.1)
  where
    by_entry : (o : Option X) → slice_get table n ≡ o → AllByRecursion Q (entries f table ns) → AllByRecursion Q (entries f table (n ∷ ns))
    by_entry None e rest = rw e rest
    by_entry (Some x) e rest = rw e (each n x e h.0, rest)

module _ (p : Program) (i : Interner) (few : IsShort p) (h : IsInterned p i) (fit : entries_fit p ≡ true) where
  abbrev q : Program
  q = written_by i p

  abbrev u : Used
  u = used_in p

  closed : IsClosed p (used_in p)
  closed = used_closed p few

  -- each part of the rule
  record Parts : Type 0 where
    types : list_all (type_fits p) p.types ≡ true
    protos : list_all (proto_fits p) p.protos ≡ true
    fields : list_all (field_id_fits p) p.fields ≡ true
    methods : list_all (method_id_fits p) p.methods ≡ true

  parts : Parts
  unfolding entries_fit
  parts =
      let a = and_parts (list_all (type_fits p) p.types) (list_all (proto_fits p) p.protos && (list_all (field_id_fits p) p.fields && list_all (method_id_fits p) p.methods)) fit in
      let b = and_parts (list_all (proto_fits p) p.protos) (list_all (field_id_fits p) p.fields && list_all (method_id_fits p) p.methods) a.1 in
      let c = and_parts (list_all (field_id_fits p) p.fields) (list_all (method_id_fits p) p.methods) b.1 in
      record { types = a.0; protos = b.0; fields = c.0; methods = c.1 }

  string_in : (n : ℕ) → IsUsed u (named.Text n) → has_string p n ≡ true → new_string i.numbers n < length q.strings
  string_in n used t = ranges_kept p i few h (named.Text n) used (ltb-true n (length p.strings) t)

  type_in : (n : ℕ) → IsUsed u (named.Kind n) → has_type p n ≡ true → new_type i.numbers n < length q.types
  type_in n used t = ranges_kept p i few h (named.Kind n) used (ltb-true n (length p.types) t)

  types_in : (ns : List ℕ) → AllByRecursion (λ n. IsUsed u (named.Kind n)) ns → list_all (has_type p) ns ≡ true → AllByRecursion (λ n. n < length q.types) (map (new_type i.numbers) ns)
  types_in [] used t = tt
  types_in (n ∷ ns) used t = let both = and_parts (has_type p n) (list_all (has_type p) ns) t in (type_in n used.0 both.0, types_in ns used.1 both.1)

  own_type : (n string : ℕ) → slice_get p.types n ≡ Some string → IsUsed u (named.Kind n) → new_string i.numbers string < length q.strings
  own_type n string e used =
      let t = and_parts (has_string p string) _ (all_at (type_fits p) p.types n string parts.types e) in
      string_in string (closed.types n string e used) t.0

  own_proto : (n : ℕ) (x : Proto) → slice_get p.protos n ≡ Some x → IsUsed u (named.Proto n) → OwnsProto q (written_proto i.numbers x)
  own_proto n x e used =
      let t = and_parts (has_string p x.shorty && has_type p x.result) (list_all (has_type p) x.parameters && is_shorty p (string_text p x.shorty) x.result x.parameters) (all_at (proto_fits p) p.protos n x parts.protos e) in
      let a = and_parts (has_string p x.shorty) (has_type p x.result) t.0 in
      let b = and_parts (list_all (has_type p) x.parameters) (is_shorty p (string_text p x.shorty) x.result x.parameters) t.1 in
      let uses : UsesProto u x = closed.protos n x e used in
      record { shorty = string_in x.shorty uses.shorty a.0; result = type_in x.result uses.result a.1; parameters = types_in x.parameters uses.parameters b.0 }

  own_field : (n : ℕ) (x : FieldName) → slice_get p.fields n ≡ Some x → IsUsed u (named.Field n) → OwnsField q (written_field_name i.numbers x)
  own_field n x e used =
      let t = and_parts (has_type p x.class && has_type p x.kind) _ (all_at (field_id_fits p) p.fields n x parts.fields e) in
      let a = and_parts (has_type p x.class) (has_type p x.kind) t.0 in
      let b = and_parts (has_string p x.name) _ t.1 in
      let uses : UsesField u x = closed.fields n x e used in
      record { class = type_in x.class uses.class a.0; kind = type_in x.kind uses.kind a.1; name = string_in x.name uses.name b.0 }

  own_method : (n : ℕ) (x : MethodName) → slice_get p.methods n ≡ Some x → IsUsed u (named.Method n) → OwnsMethod q (written_method_name i.numbers x)
  own_method n x e used =
      let t = and_parts (has_type p x.class) (has_proto p x.proto && has_string p x.name) (all_at (method_id_fits p) p.methods n x parts.methods e) in
      let a = and_parts (has_proto p x.proto) (has_string p x.name) t.1 in
      let uses : UsesMethod u x = closed.methods n x e used in
      record {
        class = type_in x.class uses.class t.0;
        proto = ranges_kept p i few h (named.Proto x.proto) uses.proto (ltb-true x.proto (length p.protos) a.0);
        name = string_in x.name uses.name a.1;
      }

  pub all_owned : OwnsAll q
  all_owned = record {
    types = all_entries (new_string i.numbers) p.types (λ n. n < length q.strings) (IsSet u.types) i.order.types.items own_type (order_set u.types (type_key i.numbers.strings.items p.types) (length p.types) i.order.types.items i.numbers.types.items h.types);
    protos = all_entries (written_proto i.numbers) p.protos (OwnsProto q) (IsSet u.protos) i.order.protos.items own_proto (order_set u.protos (proto_key i.numbers.types.items p.protos) (length p.protos) i.order.protos.items i.numbers.protos.items h.protos);
    fields = all_entries (written_field_name i.numbers) p.fields (OwnsField q) (IsSet u.fields) i.order.fields.items own_field (order_set u.fields (field_key i.numbers.strings.items i.numbers.types.items p.fields) (length p.fields) i.order.fields.items i.numbers.fields.items h.fields);
    methods = all_entries (written_method_name i.numbers) p.methods (OwnsMethod q) (IsSet u.methods) i.order.methods.items own_method (order_set u.methods (method_key i.numbers.strings.items i.numbers.types.items i.numbers.protos.items p.methods) (length p.methods) i.order.methods.items i.numbers.methods.items h.methods);
  }

pub owned : (p : Program) (i : Interner) → IsShort p → IsInterned p i → entries_fit p ≡ true → OwnsAll (written_by i p)
owned p i few h fit = all_owned p i few h fit

-- ---- how long the tables are

pub no_longer : (p : Program) (i : Interner) → IsInterned p i → IsNoLonger (written_by i p) p
no_longer p i h =
    let fit : OrdersIn p i = orders_in p i h in
    let many : AsMany p (used_in p) = used_marked p in
    record {
      strings = omega (arith, entries_long (λ text. text) p.strings i.order.strings.items fit.strings, order_few (used_in p).strings (string_key p.strings) (length p.strings) i.order.strings.items i.numbers.strings.items h.strings, many.strings);
      types = omega (arith, entries_long (new_string i.numbers) p.types i.order.types.items fit.types, order_few (used_in p).types (type_key i.numbers.strings.items p.types) (length p.types) i.order.types.items i.numbers.types.items h.types, many.types);
      protos = omega (arith, entries_long (written_proto i.numbers) p.protos i.order.protos.items fit.protos, order_few (used_in p).protos (proto_key i.numbers.types.items p.protos) (length p.protos) i.order.protos.items i.numbers.protos.items h.protos, many.protos);
      fields = omega (arith, entries_long (written_field_name i.numbers) p.fields i.order.fields.items fit.fields, order_few (used_in p).fields (field_key i.numbers.strings.items i.numbers.types.items p.fields) (length p.fields) i.order.fields.items i.numbers.fields.items h.fields, many.fields);
      methods = omega (arith, entries_long (written_method_name i.numbers) p.methods i.order.methods.items fit.methods, order_few (used_in p).methods (method_key i.numbers.strings.items i.numbers.types.items i.numbers.protos.items p.methods) (length p.methods) i.order.methods.items i.numbers.methods.items h.methods, many.methods);
    }
