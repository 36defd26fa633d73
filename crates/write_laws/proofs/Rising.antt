-- Every table that is written ascends, since no two entries of a table are the same.
use Rattle.std.proofs.Common.{◌≡◌, ◌<◌, ◌^◌, ℕ, List, [], ◌∷◌, length, map, refl, sym, ap, subst, ◌∙◌, ltb-true}
use Rattle.std.specs.Prelude.{Bool, true, false, cond, ◌&&◌, ◌||◌, ◌==◌, nat_lt, slice_get, Some}
use Rattle.std.specs.List.{AllByRecursion, list_all}
use Rattle.std.specs.Ordering.{nat_cmp, ordering_then}
use Rattle.std.specs.Cmp.Lexicographic.{slice_cmp}
use Rattle.std.specs.declared.cmp.Ordering.{Ordering}
use Rattle.std.specs.declared.cmp.Ordering.TheVariants.{Less, Equal, Greater}
use Rattle.std.proofs.lemmas.Bool.{and_parts}
use Rattle.std.proofs.lemmas.Option.{get_or_from_slice_get}
use Rattle.lemmas.proofs.Lists.{all_at}
use Rattle.dex_pools.specs.declared.interner.Interner.{Interner}
use Rattle.dex_pools.specs.Finds.{Ascends}
use Rattle.dex_pools.specs.Interned.{IsInterned}
use Rattle.dex_pools.specs.Numbering.{used_in, string_key, type_key, proto_numbers, proto_key, field_numbers, field_key, method_numbers, method_key}
use Rattle.dex_pools.specs.Order.{is_less, list_below, three_below, proto_below, field_below, method_below}
use Rattle.dex_pools.specs.Written.{renumbered}
use Rattle.dex_pools.specs.declared.used.Named.TheVariants as named
use Rattle.dex_pools.specs.declared.used.Used.{Used}
use Rattle.program_model.specs.Distinct as distinct
use Rattle.program_model.specs.Distinct.{all_differ}
use Rattle.program_model.specs.Texts.{has_string, has_type, has_proto, string_text}
use Rattle.program_model.specs.TableRules.{type_fits, proto_fits, is_shorty, field_id_fits, method_id_fits, entries_fit, entries_differ}
use Rattle.program_model.specs.declared.pools.Proto.{Proto}
use Rattle.program_model.specs.declared.pools.FieldName.{FieldName}
use Rattle.program_model.specs.declared.pools.MethodName.{MethodName}
use Rattle.program_model.specs.declared.program.Program.{Program}
use Rattle.dex_defs.specs.Written.{new_string, new_type, new_proto, written_proto, written_field_name, written_method_name, written_by}
use Rattle.write_laws.specs.Used.{IsSet, IsUsed, UsesProto, UsesField, UsesMethod, IsClosed, IsShort}
use Rattle.write_laws.specs.Orders.{OrdersIn}
use Rattle.write_laws.specs.Ascending.{AllAscend}
use Rattle.write_laws.proofs.NamesOrdering.{AsMany, used_marked, orders_in}
use Rattle.write_laws.proofs.Closed.{used_closed}
use Rattle.write_laws.proofs.Carried.{Stands, entry}
use Rattle.write_laws.proofs.Owning.{order_set}
use Rattle.write_laws.proofs.Ascending.{Uses, both_in, one_number, one_place, once, ascending, strings_ascend}

-- ---- one number before another, or the same and the rest before the rest

less_is : (p e : Bool) (o : Ordering) → is_less (ordering_then (cond p Less (cond e Equal Greater)) o) ≡ true → (p || (e && is_less o)) ≡ true
less_is true e o h = refl
less_is false true o h = h
less_is false false o h = h

only : (p e : Bool) → (p || (e && false)) ≡ true → p ≡ true
only true e h = refl
only false true h = h
only false false h = h

deepen : (p e x y : Bool) → (x ≡ true → y ≡ true) → (p || (e && x)) ≡ true → (p || (e && y)) ≡ true
deepen true e x y f h = refl
deepen false true x y f h = f h
deepen false false x y f h = h

one_below : (a b : ℕ) → is_less (slice_cmp nat_cmp (a ∷ []) (b ∷ [])) ≡ true → nat_lt a b ≡ true
one_below a b h = only (nat_lt a b) (a == b) (less_is (nat_lt a b) (a == b) Equal h)

three_are : (a b c x y z : ℕ) → is_less (slice_cmp nat_cmp (a ∷ b ∷ c ∷ []) (x ∷ y ∷ z ∷ [])) ≡ true → three_below a b c x y z ≡ true
three_are a b c x y z h =
    deepen (nat_lt a x) (a == x) (is_less (slice_cmp nat_cmp (b ∷ c ∷ []) (y ∷ z ∷ []))) (nat_lt b y || (b == y && nat_lt c z))
    (λ g. deepen (nat_lt b y) (b == y) (is_less (slice_cmp nat_cmp (c ∷ []) (z ∷ []))) (nat_lt c z) (one_below c z) (less_is (nat_lt b y) (b == y) (slice_cmp nat_cmp (c ∷ []) (z ∷ [])) g))
    (less_is (nat_lt a x) (a == x) (slice_cmp nat_cmp (b ∷ c ∷ []) (y ∷ z ∷ [])) h)

-- ---- lists that are the same

first_same : (a b : ℕ) (xs ys : List ℕ) → a ∷ xs ≡ b ∷ ys → a ≡ b
first_same a b xs ys e = cc

rest_same : (a b : ℕ) (xs ys : List ℕ) → a ∷ xs ≡ b ∷ ys → xs ≡ ys
rest_same a b xs ys e = cc

-- ---- the rules of the tables

pub record Fits (p : Program) : Type 0 where
  pub types : list_all (type_fits p) p.types ≡ true
  pub protos : list_all (proto_fits p) p.protos ≡ true
  pub fields : list_all (field_id_fits p) p.fields ≡ true
  pub methods : list_all (method_id_fits p) p.methods ≡ true

fits_of : (p : Program) → entries_fit p ≡ true → Fits p
unfolding entries_fit
fits_of p fit =
    let a = and_parts (list_all (type_fits p) p.types) (list_all (proto_fits p) p.protos && (list_all (field_id_fits p) p.fields && list_all (method_id_fits p) p.methods)) fit in
    let b = and_parts (list_all (proto_fits p) p.protos) (list_all (field_id_fits p) p.fields && list_all (method_id_fits p) p.methods) a.1 in
    let c = and_parts (list_all (field_id_fits p) p.fields) (list_all (method_id_fits p) p.methods) b.1 in
    record { types = a.0; protos = b.0; fields = c.0; methods = c.1 }

pub record Differ (p : Program) : Type 0 where
  pub strings : all_differ distinct.text_key p.strings ≡ true
  pub types : all_differ distinct.type_key p.types ≡ true
  pub protos : all_differ distinct.proto_key p.protos ≡ true
  pub fields : all_differ distinct.field_key p.fields ≡ true
  pub methods : all_differ distinct.method_key p.methods ≡ true

differ_of : (p : Program) → entries_differ p ≡ true → Differ p
unfolding entries_differ
differ_of p h =
    let a = and_parts (all_differ distinct.text_key p.strings && all_differ distinct.type_key p.types) (all_differ distinct.proto_key p.protos && (all_differ distinct.field_key p.fields && all_differ distinct.method_key p.methods)) h in
    let b = and_parts (all_differ distinct.text_key p.strings) (all_differ distinct.type_key p.types) a.0 in
    let c = and_parts (all_differ distinct.proto_key p.protos) (all_differ distinct.field_key p.fields && all_differ distinct.method_key p.methods) a.1 in
    let d = and_parts (all_differ distinct.field_key p.fields) (all_differ distinct.method_key p.methods) c.1 in
    record { strings = b.0; types = b.1; protos = c.0; fields = d.0; methods = d.1 }

module _ (p : Program) (i : Interner) (few : IsShort p) (h : IsInterned p i) (fit : Fits p) (differ : Differ p) where
  abbrev u : Used
  u = used_in p

  closed : IsClosed p (used_in p)
  closed = used_closed p few

  many : AsMany p (used_in p)
  many = used_marked p

  orders : OrdersIn p i
  orders = orders_in p i h

  abbrev UsesText : ℕ → Type 0
  UsesText n = Uses u.strings (length p.strings) n

  abbrev UsesKind : ℕ → Type 0
  UsesKind n = Uses u.types (length p.types) n

  text_there : (n : ℕ) → IsUsed u (named.Text n) → has_string p n ≡ true → UsesText n
  text_there n used t = (ltb-true n (length p.strings) t, used)

  kind_there : (n : ℕ) → IsUsed u (named.Kind n) → has_type p n ≡ true → UsesKind n
  kind_there n used t = (ltb-true n (length p.types) t, used)

  one_text : (a b : ℕ) → UsesText a → UsesText b → new_string i.numbers a ≡ new_string i.numbers b → a ≡ b
  one_text a b x y e = one_number u.strings (string_key p.strings) (length p.strings) i.order.strings.items i.numbers.strings.items h.strings many.strings few.strings a b x y e

  one_kind : (a b : ℕ) → UsesKind a → UsesKind b → new_type i.numbers a ≡ new_type i.numbers b → a ≡ b
  one_kind a b x y e = one_number u.types (type_key i.numbers.strings.items p.types) (length p.types) i.order.types.items i.numbers.types.items h.types many.types few.types a b x y e

  one_proto : (a b : ℕ) → Uses u.protos (length p.protos) a → Uses u.protos (length p.protos) b → new_proto i.numbers a ≡ new_proto i.numbers b → a ≡ b
  one_proto a b x y e = one_number u.protos (proto_key i.numbers.types.items p.protos) (length p.protos) i.order.protos.items i.numbers.protos.items h.protos many.protos few.protos a b x y e

  -- ---- types

  type_text_there : (n s : ℕ) → slice_get p.types n ≡ Some s → IsSet u.types n → UsesText s
  type_text_there n s e used = text_there s (closed.types n s e used) (and_parts (has_string p s) _ (all_at (type_fits p) p.types n s fit.types e)).0

  type_is : (n s : ℕ) → slice_get p.types n ≡ Some s → type_key i.numbers.strings.items p.types n ≡ new_string i.numbers s ∷ []
  type_is n s e = ap (λ k. renumbered i.numbers.strings.items k ∷ []) (get_or_from_slice_get p.types n s 4294967295 e)

  types_apart : (n m : ℕ) → UsesKind n → UsesKind m → type_key i.numbers.strings.items p.types n ≡ type_key i.numbers.strings.items p.types m → n ≡ m
  types_apart n m a b e =
      let x : Stands p.types n = entry p.types n a.0 in
      let y : Stands p.types m = entry p.types m b.0 in
      let same : new_string i.numbers x.x ∷ [] ≡ new_string i.numbers y.x ∷ [] = sym (type_is n x.x x.is) ∙ e ∙ type_is m y.x y.is in
      let text : x.x ≡ y.x = one_text x.x y.x (type_text_there n x.x x.is a.1) (type_text_there m y.x y.is b.1) (first_same (new_string i.numbers x.x) (new_string i.numbers y.x) [] [] same) in
      one_place distinct.type_key [] p.types n m x.x y.x differ.types x.is y.is (ap distinct.type_key text)

  types_ordered : (n m x y : ℕ) → slice_get p.types n ≡ Some x → slice_get p.types m ≡ Some y → is_less (slice_cmp nat_cmp (type_key i.numbers.strings.items p.types n) (type_key i.numbers.strings.items p.types m)) ≡ true → nat_lt (new_string i.numbers x) (new_string i.numbers y) ≡ true
  types_ordered n m x y e f less = one_below (new_string i.numbers x) (new_string i.numbers y) (subst (λ l. is_less (slice_cmp nat_cmp l (new_string i.numbers y ∷ [])) ≡ true) (type_is n x e) (subst (λ l. is_less (slice_cmp nat_cmp (type_key i.numbers.strings.items p.types n) l) ≡ true) (type_is m y f) less))

  types_ascend : Ascends nat_lt (written_by i p).types
  types_ascend =
      let set = order_set u.types (type_key i.numbers.strings.items p.types) (length p.types) i.order.types.items i.numbers.types.items h.types in
      ascending (new_string i.numbers) p.types (type_key i.numbers.strings.items p.types) nat_lt UsesKind types_apart types_ordered i.order.types.items h.types.in_order.ascends (once u.types (type_key i.numbers.strings.items p.types) (length p.types) i.order.types.items i.numbers.types.items h.types) orders.types (both_in u.types (length p.types) i.order.types.items orders.types set)

  -- ---- protos

  kinds_there : (ns : List ℕ) → AllByRecursion (λ n. IsUsed u (named.Kind n)) ns → list_all (has_type p) ns ≡ true → AllByRecursion UsesKind ns
  kinds_there [] used t = tt
  kinds_there (n ∷ ns) used t = let both = and_parts (has_type p n) (list_all (has_type p) ns) t in (kind_there n used.0 both.0, kinds_there ns used.1 both.1)

  kinds_same : (ns ms : List ℕ) → AllByRecursion UsesKind ns → AllByRecursion UsesKind ms → map (new_type i.numbers) ns ≡ map (new_type i.numbers) ms → ns ≡ ms
  kinds_same [] [] a b e = refl
  kinds_same [] (m ∷ ms) a b e = absurd cc
  kinds_same (n ∷ ns) [] a b e = absurd cc
  kinds_same (n ∷ ns) (m ∷ ms) a b e =
      let one : n ≡ m = one_kind n m a.0 b.0 (first_same (new_type i.numbers n) (new_type i.numbers m) (map (new_type i.numbers) ns) (map (new_type i.numbers) ms) e) in
      let others : ns ≡ ms = kinds_same ns ms a.1 b.1 (rest_same (new_type i.numbers n) (new_type i.numbers m) (map (new_type i.numbers) ns) (map (new_type i.numbers) ms) e) in
      ap (λ k. k ∷ ns) one ∙ ap (λ (l : List ℕ). m ∷ l) others

  record ProtoThere (x : Proto) : Type 0 where
    result : UsesKind x.result
    parameters : AllByRecursion UsesKind x.parameters

  proto_there : (n : ℕ) (x : Proto) → slice_get p.protos n ≡ Some x → IsSet u.protos n → ProtoThere x
  proto_there n x e used =
      let t = and_parts (has_string p x.shorty && has_type p x.result) (list_all (has_type p) x.parameters && is_shorty p (string_text p x.shorty) x.result x.parameters) (all_at (proto_fits p) p.protos n x fit.protos e) in
      let a = and_parts (has_string p x.shorty) (has_type p x.result) t.0 in
      let b = and_parts (list_all (has_type p) x.parameters) (is_shorty p (string_text p x.shorty) x.result x.parameters) t.1 in
      let uses : UsesProto u x = closed.protos n x e used in
      record { result = kind_there x.result uses.result a.1; parameters = kinds_there x.parameters uses.parameters b.0 }

  proto_is : (n : ℕ) (x : Proto) → slice_get p.protos n ≡ Some x → proto_key i.numbers.types.items p.protos n ≡ new_type i.numbers x.result ∷ map (new_type i.numbers) x.parameters
  proto_is n x e = ap (proto_numbers i.numbers.types.items) e

  protos_apart : (n m : ℕ) → Uses u.protos (length p.protos) n → Uses u.protos (length p.protos) m → proto_key i.numbers.types.items p.protos n ≡ proto_key i.numbers.types.items p.protos m → n ≡ m
  protos_apart n m a b e =
      let s : Stands p.protos n = entry p.protos n a.0 in
      let t : Stands p.protos m = entry p.protos m b.0 in
      let x : ProtoThere s.x = proto_there n s.x s.is a.1 in
      let y : ProtoThere t.x = proto_there m t.x t.is b.1 in
      let same : new_type i.numbers s.x.result ∷ map (new_type i.numbers) s.x.parameters ≡ new_type i.numbers t.x.result ∷ map (new_type i.numbers) t.x.parameters = sym (proto_is n s.x s.is) ∙ e ∙ proto_is m t.x t.is in
      let result : s.x.result ≡ t.x.result = one_kind s.x.result t.x.result x.result y.result (first_same _ _ _ _ same) in
      let parameters : s.x.parameters ≡ t.x.parameters = kinds_same s.x.parameters t.x.parameters x.parameters y.parameters (rest_same _ _ _ _ same) in
      one_place distinct.proto_key [] p.protos n m s.x t.x differ.protos s.is t.is (ap (λ k. k ∷ s.x.parameters) result ∙ ap (λ (l : List ℕ). t.x.result ∷ l) parameters)

  protos_ordered : (n m : ℕ) (x y : Proto) → slice_get p.protos n ≡ Some x → slice_get p.protos m ≡ Some y → is_less (slice_cmp nat_cmp (proto_key i.numbers.types.items p.protos n) (proto_key i.numbers.types.items p.protos m)) ≡ true → proto_below (written_proto i.numbers x) (written_proto i.numbers y) ≡ true
  protos_ordered n m x y e f less =
      let a : List ℕ = map (new_type i.numbers) x.parameters in
      let b : List ℕ = map (new_type i.numbers) y.parameters in
      let lists : is_less (slice_cmp nat_cmp (new_type i.numbers x.result ∷ a) (new_type i.numbers y.result ∷ b)) ≡ true = subst (λ l. is_less (slice_cmp nat_cmp l (new_type i.numbers y.result ∷ b)) ≡ true) (proto_is n x e) (subst (λ l. is_less (slice_cmp nat_cmp (proto_key i.numbers.types.items p.protos n) l) ≡ true) (proto_is m y f) less) in
      less_is (nat_lt (new_type i.numbers x.result) (new_type i.numbers y.result)) (new_type i.numbers x.result == new_type i.numbers y.result) (slice_cmp nat_cmp a b) lists

  protos_ascend : Ascends proto_below (written_by i p).protos
  protos_ascend =
      let set = order_set u.protos (proto_key i.numbers.types.items p.protos) (length p.protos) i.order.protos.items i.numbers.protos.items h.protos in
      ascending (written_proto i.numbers) p.protos (proto_key i.numbers.types.items p.protos) proto_below (Uses u.protos (length p.protos)) protos_apart protos_ordered i.order.protos.items h.protos.in_order.ascends (once u.protos (proto_key i.numbers.types.items p.protos) (length p.protos) i.order.protos.items i.numbers.protos.items h.protos) orders.protos (both_in u.protos (length p.protos) i.order.protos.items orders.protos set)

  -- ---- fields

  abbrev key_of_field : ℕ → List ℕ
  key_of_field n = field_key i.numbers.strings.items i.numbers.types.items p.fields n

  abbrev numbers_of_field : FieldName → List ℕ
  numbers_of_field x = new_type i.numbers x.class ∷ (new_string i.numbers x.name ∷ (new_type i.numbers x.kind ∷ []))

  record FieldThere (x : FieldName) : Type 0 where
    class : UsesKind x.class
    kind : UsesKind x.kind
    name : UsesText x.name

  field_there : (n : ℕ) (x : FieldName) → slice_get p.fields n ≡ Some x → IsSet u.fields n → FieldThere x
  field_there n x e used =
      let t = and_parts (has_type p x.class && has_type p x.kind) _ (all_at (field_id_fits p) p.fields n x fit.fields e) in
      let a = and_parts (has_type p x.class) (has_type p x.kind) t.0 in
      let b = and_parts (has_string p x.name) _ t.1 in
      let uses : UsesField u x = closed.fields n x e used in
      record { class = kind_there x.class uses.class a.0; kind = kind_there x.kind uses.kind a.1; name = text_there x.name uses.name b.0 }

  field_is : (n : ℕ) (x : FieldName) → slice_get p.fields n ≡ Some x → key_of_field n ≡ numbers_of_field x
  field_is n x e = ap (field_numbers i.numbers.strings.items i.numbers.types.items) e

  fields_apart : (n m : ℕ) → Uses u.fields (length p.fields) n → Uses u.fields (length p.fields) m → key_of_field n ≡ key_of_field m → n ≡ m
  fields_apart n m a b e =
      let s : Stands p.fields n = entry p.fields n a.0 in
      let t : Stands p.fields m = entry p.fields m b.0 in
      let x : FieldThere s.x = field_there n s.x s.is a.1 in
      let y : FieldThere t.x = field_there m t.x t.is b.1 in
      let same : numbers_of_field s.x ≡ numbers_of_field t.x = sym (field_is n s.x s.is) ∙ e ∙ field_is m t.x t.is in
      let later : new_string i.numbers s.x.name ∷ (new_type i.numbers s.x.kind ∷ []) ≡ new_string i.numbers t.x.name ∷ (new_type i.numbers t.x.kind ∷ []) = rest_same _ _ _ _ same in
      let last : new_type i.numbers s.x.kind ∷ [] ≡ new_type i.numbers t.x.kind ∷ [] = rest_same _ _ _ _ later in
      let class : s.x.class ≡ t.x.class = one_kind s.x.class t.x.class x.class y.class (first_same _ _ _ _ same) in
      let name : s.x.name ≡ t.x.name = one_text s.x.name t.x.name x.name y.name (first_same _ _ _ _ later) in
      let kind : s.x.kind ≡ t.x.kind = one_kind s.x.kind t.x.kind x.kind y.kind (first_same _ _ _ _ last) in
      one_place distinct.field_key [] p.fields n m s.x t.x differ.fields s.is t.is (ap (λ k. k ∷ (s.x.name ∷ (s.x.kind ∷ []))) class ∙ (ap (λ k. t.x.class ∷ (k ∷ (s.x.kind ∷ []))) name ∙ ap (λ k. t.x.class ∷ (t.x.name ∷ (k ∷ []))) kind))

  fields_ordered : (n m : ℕ) (x y : FieldName) → slice_get p.fields n ≡ Some x → slice_get p.fields m ≡ Some y → is_less (slice_cmp nat_cmp (key_of_field n) (key_of_field m)) ≡ true → field_below (written_field_name i.numbers x) (written_field_name i.numbers y) ≡ true
  fields_ordered n m x y e f less =
      three_are (new_type i.numbers x.class) (new_string i.numbers x.name) (new_type i.numbers x.kind) (new_type i.numbers y.class) (new_string i.numbers y.name) (new_type i.numbers y.kind)
      (subst (λ l. is_less (slice_cmp nat_cmp l (numbers_of_field y)) ≡ true) (field_is n x e) (subst (λ l. is_less (slice_cmp nat_cmp (key_of_field n) l) ≡ true) (field_is m y f) less))

  fields_ascend : Ascends field_below (written_by i p).fields
  fields_ascend =
      let set = order_set u.fields (field_key i.numbers.strings.items i.numbers.types.items p.fields) (length p.fields) i.order.fields.items i.numbers.fields.items h.fields in
      ascending (written_field_name i.numbers) p.fields (field_key i.numbers.strings.items i.numbers.types.items p.fields) field_below (Uses u.fields (length p.fields)) fields_apart fields_ordered i.order.fields.items h.fields.in_order.ascends (once u.fields (field_key i.numbers.strings.items i.numbers.types.items p.fields) (length p.fields) i.order.fields.items i.numbers.fields.items h.fields) orders.fields (both_in u.fields (length p.fields) i.order.fields.items orders.fields set)

  -- ---- methods

  abbrev key_of_method : ℕ → List ℕ
  key_of_method n = method_key i.numbers.strings.items i.numbers.types.items i.numbers.protos.items p.methods n

  abbrev numbers_of_method : MethodName → List ℕ
  numbers_of_method x = new_type i.numbers x.class ∷ (new_string i.numbers x.name ∷ (new_proto i.numbers x.proto ∷ []))

  record MethodThere (x : MethodName) : Type 0 where
    class : UsesKind x.class
    proto : Uses u.protos (length p.protos) x.proto
    name : UsesText x.name

  method_there : (n : ℕ) (x : MethodName) → slice_get p.methods n ≡ Some x → IsSet u.methods n → MethodThere x
  method_there n x e used =
      let t = and_parts (has_type p x.class) (has_proto p x.proto && has_string p x.name) (all_at (method_id_fits p) p.methods n x fit.methods e) in
      let a = and_parts (has_proto p x.proto) (has_string p x.name) t.1 in
      let uses : UsesMethod u x = closed.methods n x e used in
      record { class = kind_there x.class uses.class t.0; proto = (ltb-true x.proto (length p.protos) a.0, uses.proto); name = text_there x.name uses.name a.1 }

  method_is : (n : ℕ) (x : MethodName) → slice_get p.methods n ≡ Some x → key_of_method n ≡ numbers_of_method x
  method_is n x e = ap (method_numbers i.numbers.strings.items i.numbers.types.items i.numbers.protos.items) e

  methods_apart : (n m : ℕ) → Uses u.methods (length p.methods) n → Uses u.methods (length p.methods) m → key_of_method n ≡ key_of_method m → n ≡ m
  methods_apart n m a b e =
      let s : Stands p.methods n = entry p.methods n a.0 in
      let t : Stands p.methods m = entry p.methods m b.0 in
      let x : MethodThere s.x = method_there n s.x s.is a.1 in
      let y : MethodThere t.x = method_there m t.x t.is b.1 in
      let same : numbers_of_method s.x ≡ numbers_of_method t.x = sym (method_is n s.x s.is) ∙ e ∙ method_is m t.x t.is in
      let later : new_string i.numbers s.x.name ∷ (new_proto i.numbers s.x.proto ∷ []) ≡ new_string i.numbers t.x.name ∷ (new_proto i.numbers t.x.proto ∷ []) = rest_same _ _ _ _ same in
      let last : new_proto i.numbers s.x.proto ∷ [] ≡ new_proto i.numbers t.x.proto ∷ [] = rest_same _ _ _ _ later in
      let class : s.x.class ≡ t.x.class = one_kind s.x.class t.x.class x.class y.class (first_same _ _ _ _ same) in
      let name : s.x.name ≡ t.x.name = one_text s.x.name t.x.name x.name y.name (first_same _ _ _ _ later) in
      let proto : s.x.proto ≡ t.x.proto = one_proto s.x.proto t.x.proto x.proto y.proto (first_same _ _ _ _ last) in
      one_place distinct.method_key [] p.methods n m s.x t.x differ.methods s.is t.is (ap (λ k. k ∷ (s.x.name ∷ (s.x.proto ∷ []))) class ∙ (ap (λ k. t.x.class ∷ (k ∷ (s.x.proto ∷ []))) name ∙ ap (λ k. t.x.class ∷ (t.x.name ∷ (k ∷ []))) proto))

  methods_ordered : (n m : ℕ) (x y : MethodName) → slice_get p.methods n ≡ Some x → slice_get p.methods m ≡ Some y → is_less (slice_cmp nat_cmp (key_of_method n) (key_of_method m)) ≡ true → method_below (written_method_name i.numbers x) (written_method_name i.numbers y) ≡ true
  methods_ordered n m x y e f less =
      three_are (new_type i.numbers x.class) (new_string i.numbers x.name) (new_proto i.numbers x.proto) (new_type i.numbers y.class) (new_string i.numbers y.name) (new_proto i.numbers y.proto)
      (subst (λ l. is_less (slice_cmp nat_cmp l (numbers_of_method y)) ≡ true) (method_is n x e) (subst (λ l. is_less (slice_cmp nat_cmp (key_of_method n) l) ≡ true) (method_is m y f) less))

  methods_ascend : Ascends method_below (written_by i p).methods
  methods_ascend =
      let set = order_set u.methods (method_key i.numbers.strings.items i.numbers.types.items i.numbers.protos.items p.methods) (length p.methods) i.order.methods.items i.numbers.methods.items h.methods in
      ascending (written_method_name i.numbers) p.methods (method_key i.numbers.strings.items i.numbers.types.items i.numbers.protos.items p.methods) method_below (Uses u.methods (length p.methods)) methods_apart methods_ordered i.order.methods.items h.methods.in_order.ascends (once u.methods (method_key i.numbers.strings.items i.numbers.types.items i.numbers.protos.items p.methods) (length p.methods) i.order.methods.items i.numbers.methods.items h.methods) orders.methods (both_in u.methods (length p.methods) i.order.methods.items orders.methods set)

  pub tables_ascend : AllAscend (written_by i p)
  tables_ascend = record { strings = strings_ascend p i h differ.strings; types = types_ascend; protos = protos_ascend; fields = fields_ascend; methods = methods_ascend }

pub all_ascend : (p : Program) (i : Interner) → IsShort p → IsInterned p i → entries_fit p ≡ true → entries_differ p ≡ true → AllAscend (written_by i p)
all_ascend p i few h fit differ = tables_ascend p i few h (fits_of p fit) (differ_of p differ)
