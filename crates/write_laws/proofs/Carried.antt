-- The written program has each used entry at its new number.
use Rattle.std.proofs.Common.{◌≡◌, ◌<◌, ◌≤◌, ◌+◌, inl, inr, ◌^◌, ℕ, zero, suc, List, [], ◌∷◌, length, refl, sym, ap, subst, ◌∙◌, arith, map, get_or}
use Rattle.std.specs.Prelude.{Bool, true, nat_eq, slice_get, slice_index_or, replicate, Option, Some, None}
use Rattle.std.specs.Option.{option_map}
use Rattle.std.specs.List.{AllByRecursion, list_any}
use Rattle.std.proofs.lemmas.List.{get_or_past, length-replicate}
use Rattle.std.proofs.lemmas.List.Sorted.{list_any-IsPermutation, length_permutation}
use Rattle.std.proofs.lemmas.Option.{slice_get-get_or, slice_get_past, slice_get_cases}
use Rattle.lemmas.proofs.Options.{some_same}
use Rattle.dex_pools.specs.declared.interner.Interner.{Interner}
use Rattle.dex_pools.specs.declared.used.Named.TheVariants as named
use Rattle.dex_pools.specs.declared.used.Used.{Used}
use Rattle.dex_pools.specs.Written.{renumbered}
use Rattle.dex_pools.specs.Interned.{IsInterned}
use Rattle.dex_pools.specs.Numbering.{numbers_from, numbers_of, places_of, used_in, string_key, type_key, proto_key, field_key, method_key, IsNumbered}
use Rattle.program_model.specs.declared.pools.Proto.{Proto}
use Rattle.program_model.specs.declared.pools.FieldName.{FieldName}
use Rattle.program_model.specs.declared.pools.MethodName.{MethodName}
use Rattle.program_model.specs.declared.program.Program.{Program}
use Rattle.dalvik_defs.specs.Names.{Text}
use Rattle.dalvik_defs.specs.declared.names.Signature.{Signature}
use Rattle.dalvik_defs.specs.declared.names.MethodKey.{MethodKey}
use Rattle.dalvik_defs.specs.declared.names.FieldKey.{FieldKey}
use Rattle.dalvik_defs.specs.Naming.{text_at, type_at, signature_at, field_at, method_at}
use Rattle.dex_defs.specs.Written.{entries, new_string, new_type, new_proto, new_field, new_method, written_proto, written_field_name, written_method_name, written_by}
use Rattle.write_laws.specs.Used.{IsSet, IsUsed, UsesProto, UsesField, UsesMethod, IsClosed, IsShort, AllIn}
use Rattle.write_laws.specs.Orders.{OrdersIn}
use Rattle.write_laws.specs.Carried.{KeepsTexts}
use Rattle.write_laws.proofs.Placed.{HasPlace, placed, places_long}
use Rattle.write_laws.proofs.Marking.{is_number, numbers_few}
use Rattle.write_laws.proofs.NamesOrdering.{AsMany, used_marked, orders_in}
use Rattle.write_laws.proofs.Closed.{used_closed}

-- ---- the entries in order

-- an entry of a table in range
pub record Stands {X : Type 0} (table : List X) (n : ℕ) : Type 0 where
  pub x : X
  pub is : slice_get table n ≡ Some x

pub entry : {X : Type 0} (table : List X) (n : ℕ) → n < length table → Stands table n
entry [] n lt = absurd (omega (arith, lt))
entry (x ∷ xs) n lt = record { x = get_or (x ∷ xs) n x; is = slice_get-get_or (x ∷ xs) n x lt }

pub entries_at : {X Y : Type 0} (f : X → Y) (table : List X) (order : List ℕ) (k n : ℕ) → AllIn table order → slice_get order k ≡ Some n → slice_get (entries f table order) k ≡ option_map f (slice_get table n)
entries_at f table [] k n fit e = absurd cc
entries_at f table (m ∷ ms) zero n fit e =
    let same : m ≡ n = some_same m n e in
    let s : Stands table m = entry table m fit.0 in
    subst (λ j. slice_get (entries f table (m ∷ ms)) zero ≡ option_map f (slice_get table j)) same (rw s.is refl)
entries_at f table (m ∷ ms) (suc k) n fit e = let s : Stands table m = entry table m fit.0 in rw s.is (entries_at f table ms k n fit.1 e)

pub entries_long : {X Y : Type 0} (f : X → Y) (table : List X) (order : List ℕ) → AllIn table order → length (entries f table order) ≡ length order
entries_long f table [] fit = refl
entries_long f table (m ∷ ms) fit = let s : Stands table m = entry table m fit.0 in rw s.is (ap suc (entries_long f table ms fit.1))

-- ---- one table

-- where a used entry stands in order, and that this is its new number
pub record IsAt (order : List ℕ) (n new : ℕ) : Type 0 where
  pub stands : slice_get order new ≡ Some n

pub used_at : (flags : List Bool) (key : ℕ → List ℕ) (count : ℕ) (order numbers : List ℕ) → IsNumbered key flags count order numbers → length flags ≡ count → count < 2 ^ 32 → (n : ℕ) → n < count → IsSet flags n → IsAt order n (renumbered numbers n)
unfolding places_of numbers_of
used_at flags key count order numbers h many few n lt set =
    let same : 0 + n ≡ n = omega arith in
    let any : list_any (nat_eq n) (numbers_from 0 flags) ≡ true = subst (λ k. list_any (nat_eq k) (numbers_from 0 flags) ≡ true) same (is_number 0 n flags (omega (arith, lt, many)) (omega (arith, few, many)) (set (omega (arith, lt, many)))) in
    let ordered : list_any (nat_eq n) order ≡ true = sym (list_any-IsPermutation (nat_eq n) (numbers_from 0 flags) order h.in_order.same) ∙ any in
    let inside : n < length (replicate count 4294967295) = omega (arith, lt, length-replicate {A = ℕ} count 4294967295) in
    let got : HasPlace 0 order n (renumbered numbers n) = subst (λ l. HasPlace 0 order n (slice_index_or l n 4294967295)) (sym h.placed) (placed 0 (replicate count 4294967295) order n 4294967295 inside ordered) in
    let is : got.at ≡ renumbered numbers n = omega (arith, got.is) in
    record { stands = subst (λ k. slice_get order k ≡ Some n) is got.stands }

numbers_long : (flags : List Bool) (key : ℕ → List ℕ) (count : ℕ) (order numbers : List ℕ) → IsNumbered key flags count order numbers → length numbers ≡ count
unfolding places_of
numbers_long flags key count order numbers h = ap length h.placed ∙ places_long 0 (replicate count 4294967295) order ∙ length-replicate {A = ℕ} count 4294967295

pub order_few : (flags : List Bool) (key : ℕ → List ℕ) (count : ℕ) (order numbers : List ℕ) → IsNumbered key flags count order numbers → length order ≤ length flags
unfolding numbers_of
order_few flags key count order numbers h = omega (arith, length_permutation (numbers_from 0 flags) order h.in_order.same, numbers_few 0 flags)

-- what an entry that is used names by its old number, its new one names among the entries in order
pub carried : {X Y : Type 0} (f : X → Y) (table : List X) (flags : List Bool) (key : ℕ → List ℕ) (order numbers : List ℕ) → IsNumbered key flags (length table) order numbers → AllIn table order → length flags ≡ length table → length table < 2 ^ 32 → (n : ℕ) → IsSet flags n → slice_get (entries f table order) (renumbered numbers n) ≡ option_map f (slice_get table n)
carried {X} f table flags key order numbers h fit many few n set = elim (slice_get_cases table n).1 [ inl s ↦ inside s | inr s ↦ past s ]
  where
    inside : (x : X) × (n < length table) × (slice_get table n ≡ Some x) × (get_or table n x ≡ x) → slice_get (entries f table order) (renumbered numbers n) ≡ option_map f (slice_get table n)
    inside s = entries_at f table order (renumbered numbers n) n fit (used_at flags key (length table) order numbers h many few n s.1 set).stands

    past : (length table ≤ n) × (slice_get table n ≡ None) → slice_get (entries f table order) (renumbered numbers n) ≡ option_map f (slice_get table n)
    past s =
        let none : renumbered numbers n ≡ 4294967295 = get_or_past numbers n 4294967295 (omega (arith, s.0, numbers_long flags key (length table) order numbers h)) in
        let beyond : slice_get (entries f table order) 4294967295 ≡ None = slice_get_past (entries f table order) 4294967295 (omega (arith, entries_long f table order fit, order_few flags key (length table) order numbers h, many, few)) in
        rw (none, beyond, s.1) refl

-- ---- the five tables

abbrev text_in : Option Text → Text
text_in o = elim o [ Some t ↦ t | None ↦ [] ]

same_text : (o : Option Text) → text_in (option_map (λ t. t) o) ≡ text_in o
same_text None = refl
same_text (Some t) = refl

abbrev signature : List Text → Text → Signature
signature ps r = record { parameters = ps; result = r }

abbrev field_key_of : Text → Text → Text → FieldKey
field_key_of c n k = record { class = c; name = n; kind = k }

abbrev method_key_of : Text → Text → Signature → MethodKey
method_key_of c n s = record { class = c; name = n; signature = s }

-- what an entry of each table names
abbrev type_in : Program → Option ℕ → Text
type_in o x = elim x [ Some t ↦ text_at o t | None ↦ [] ]

abbrev signature_in : Program → Option Proto → Signature
signature_in o x = elim x [ Some q ↦ signature (map (type_at o) q.parameters) (type_at o q.result) | None ↦ signature [] [] ]

abbrev field_in : Program → Option FieldName → FieldKey
field_in o x = elim x [ Some f ↦ field_key_of (type_at o f.class) (text_at o f.name) (type_at o f.kind) | None ↦ field_key_of [] [] [] ]

abbrev method_in : Program → Option MethodName → MethodKey
method_in o x = elim x [ Some m ↦ method_key_of (type_at o m.class) (text_at o m.name) (signature_at o m.proto) | None ↦ method_key_of [] [] (signature [] []) ]

module _ (p : Program) (i : Interner) (few : IsShort p) (h : IsInterned p i) where
  abbrev q : Program
  q = written_by i p

  abbrev u : Used
  u = used_in p

  fit : OrdersIn p i
  fit = orders_in p i h

  many : AsMany p (used_in p)
  many = used_marked p

  closed : IsClosed p (used_in p)
  closed = used_closed p few

  pub string_kept : (n : ℕ) → IsUsed u (named.Text n) → text_at q (new_string i.numbers n) ≡ text_at p n
  string_kept n used = ap text_in (carried (λ text. text) p.strings u.strings (string_key p.strings) i.order.strings.items i.numbers.strings.items h.strings fit.strings many.strings few.strings n used) ∙ same_text (slice_get p.strings n)

  pub type_kept : (n : ℕ) → IsUsed u (named.Kind n) → type_at q (new_type i.numbers n) ≡ type_at p n
  type_kept n used = by_entry (slice_get p.types n) refl
    where
      there : slice_get q.types (new_type i.numbers n) ≡ option_map (new_string i.numbers) (slice_get p.types n)
      there = carried (new_string i.numbers) p.types u.types (type_key i.numbers.strings.items p.types) i.order.types.items i.numbers.types.items h.types fit.types many.types few.types n used

      by_entry : (o : Option ℕ) → slice_get p.types n ≡ o → type_at q (new_type i.numbers n) ≡ type_at p n
      by_entry None e = ap (type_in q) (there ∙ ap (option_map (new_string i.numbers)) e) ∙ sym (ap (type_in p) e)
      by_entry (Some s) e = ap (type_in q) (there ∙ ap (option_map (new_string i.numbers)) e) ∙ (string_kept s (closed.types n s e used) ∙ sym (ap (type_in p) e))

  pub types_kept : (ns : List ℕ) → AllByRecursion (λ n. IsUsed u (named.Kind n)) ns → map (type_at q) (map (new_type i.numbers) ns) ≡ map (type_at p) ns
  types_kept [] all = refl
  types_kept (n ∷ ns) all = ap (λ (t : Text). t ∷ map (type_at q) (map (new_type i.numbers) ns)) (type_kept n all.0) ∙ ap (λ (ts : List Text). type_at p n ∷ ts) (types_kept ns all.1)

  pub proto_kept : (n : ℕ) → IsUsed u (named.Proto n) → signature_at q (new_proto i.numbers n) ≡ signature_at p n
  proto_kept n used = by_entry (slice_get p.protos n) refl
    where
      there : slice_get q.protos (new_proto i.numbers n) ≡ option_map (written_proto i.numbers) (slice_get p.protos n)
      there = carried (written_proto i.numbers) p.protos u.protos (proto_key i.numbers.types.items p.protos) i.order.protos.items i.numbers.protos.items h.protos fit.protos many.protos few.protos n used

      by_entry : (o : Option Proto) → slice_get p.protos n ≡ o → signature_at q (new_proto i.numbers n) ≡ signature_at p n
      by_entry None e = ap (signature_in q) (there ∙ ap (option_map (written_proto i.numbers)) e) ∙ sym (ap (signature_in p) e)
      by_entry (Some x) e =
          let uses : UsesProto u x = closed.protos n x e used in
          ap (signature_in q) (there ∙ ap (option_map (written_proto i.numbers)) e) ∙ ((ap (λ ts. signature ts (type_at q (new_type i.numbers x.result))) (types_kept x.parameters uses.parameters) ∙ ap (signature (map (type_at p) x.parameters)) (type_kept x.result uses.result)) ∙ sym (ap (signature_in p) e))

  pub field_kept : (n : ℕ) → IsUsed u (named.Field n) → field_at q (new_field i.numbers n) ≡ field_at p n
  field_kept n used = by_entry (slice_get p.fields n) refl
    where
      there : slice_get q.fields (new_field i.numbers n) ≡ option_map (written_field_name i.numbers) (slice_get p.fields n)
      there = carried (written_field_name i.numbers) p.fields u.fields (field_key i.numbers.strings.items i.numbers.types.items p.fields) i.order.fields.items i.numbers.fields.items h.fields fit.fields many.fields few.fields n used

      by_entry : (o : Option FieldName) → slice_get p.fields n ≡ o → field_at q (new_field i.numbers n) ≡ field_at p n
      by_entry None e = ap (field_in q) (there ∙ ap (option_map (written_field_name i.numbers)) e) ∙ sym (ap (field_in p) e)
      by_entry (Some x) e =
          let uses : UsesField u x = closed.fields n x e used in
          ap (field_in q) (there ∙ ap (option_map (written_field_name i.numbers)) e) ∙ ((ap (λ c. field_key_of c (text_at q (new_string i.numbers x.name)) (type_at q (new_type i.numbers x.kind))) (type_kept x.class uses.class) ∙ ap (λ t. field_key_of (type_at p x.class) t (type_at q (new_type i.numbers x.kind))) (string_kept x.name uses.name) ∙ ap (field_key_of (type_at p x.class) (text_at p x.name)) (type_kept x.kind uses.kind)) ∙ sym (ap (field_in p) e))

  pub method_kept : (n : ℕ) → IsUsed u (named.Method n) → method_at q (new_method i.numbers n) ≡ method_at p n
  method_kept n used = by_entry (slice_get p.methods n) refl
    where
      there : slice_get q.methods (new_method i.numbers n) ≡ option_map (written_method_name i.numbers) (slice_get p.methods n)
      there = carried (written_method_name i.numbers) p.methods u.methods (method_key i.numbers.strings.items i.numbers.types.items i.numbers.protos.items p.methods) i.order.methods.items i.numbers.methods.items h.methods fit.methods many.methods few.methods n used

      by_entry : (o : Option MethodName) → slice_get p.methods n ≡ o → method_at q (new_method i.numbers n) ≡ method_at p n
      by_entry None e = ap (method_in q) (there ∙ ap (option_map (written_method_name i.numbers)) e) ∙ sym (ap (method_in p) e)
      by_entry (Some x) e =
          let uses : UsesMethod u x = closed.methods n x e used in
          ap (method_in q) (there ∙ ap (option_map (written_method_name i.numbers)) e) ∙ ((ap (λ c. method_key_of c (text_at q (new_string i.numbers x.name)) (signature_at q (new_proto i.numbers x.proto))) (type_kept x.class uses.class) ∙ ap (λ t. method_key_of (type_at p x.class) t (signature_at q (new_proto i.numbers x.proto))) (string_kept x.name uses.name) ∙ ap (method_key_of (type_at p x.class) (text_at p x.name)) (proto_kept x.proto uses.proto)) ∙ sym (ap (method_in p) e))

  pub texts_kept_in : KeepsTexts p i (written_by i p)
  texts_kept_in = record { strings = string_kept; types = type_kept; protos = proto_kept; fields = field_kept; methods = method_kept }

pub texts_kept : (p : Program) (i : Interner) → IsShort p → IsInterned p i → KeepsTexts p i (written_by i p)
texts_kept p i few h = texts_kept_in p i few h
