-- What a program names by its numbers, the written program names by the new ones.
use Rattle.std.proofs.Common.{◌≡◌, ℕ, true, List, [], length, refl, sym, ap, ◌∙◌, Option, Some, None, ltb-true, lt-ltb, unwrap_or}
use Rattle.std.specs.Prelude.{slice_get}
use Rattle.std.specs.Option.{option_map}
use Rattle.std.proofs.lemmas.Option.{unwrap_or-slice_get}
use Rattle.dex_pools.specs.declared.interner.Interner.{Interner}
use Rattle.dex_pools.specs.declared.used.Named.{Named}
use Rattle.dex_pools.specs.declared.used.Named.TheVariants as named
use Rattle.dex_pools.specs.Interned.{IsInterned}
use Rattle.dex_pools.specs.Numbering.{used_in, string_key, type_key, proto_key, field_key, method_key}
use Rattle.program_model.specs.declared.pass.Renumber.{Renumber}
use Rattle.program_model.specs.declared.program.Program.{Program}
use Rattle.program_model.specs.Texts.{has_string, has_type, has_proto, has_field, has_method, string_text, text_or_none, type_text, first_unit, letter_of}
use Rattle.dex_defs.specs.Written.{new_string, new_type, new_proto, new_field, new_method, written_proto, written_field_name, written_method_name, written_by}
use Rattle.write_laws.specs.Used.{IsUsed, IsShort, IsClosed}
use Rattle.write_laws.specs.Orders.{OrdersIn}
use Rattle.write_laws.proofs.NamesOrdering.{AsMany, used_marked, orders_in}
use Rattle.write_laws.proofs.Closed.{used_closed}
use Rattle.write_laws.proofs.Carried.{carried}
use Rattle.write_laws.proofs.Ranges.{ranges_kept}
use Rattle.write_laws.proofs.Ascending.{one_number}

module _ (p : Program) (i : Interner) (few : IsShort p) (h : IsInterned p i) where
  abbrev q : Program
  q = written_by i p

  abbrev r : Renumber
  r = i.numbers

  abbrev pub Has : Named → Type 0
  Has n = IsUsed (used_in p) n

  many : AsMany p (used_in p)
  many = used_marked p

  orders : OrdersIn p i
  orders = orders_in p i h

  closed : IsClosed p (used_in p)
  closed = used_closed p few

  -- ---- entries

  pub string_got : (n : ℕ) → Has (named.Text n) → slice_get (written_by i p).strings (new_string i.numbers n) ≡ option_map (λ t. t) (slice_get p.strings n)
  string_got n u = carried (λ text. text) p.strings (used_in p).strings (string_key p.strings) i.order.strings.items r.strings.items h.strings orders.strings many.strings few.strings n u

  pub type_got : (n : ℕ) → Has (named.Kind n) → slice_get (written_by i p).types (new_type i.numbers n) ≡ option_map (new_string i.numbers) (slice_get p.types n)
  type_got n u = carried (new_string r) p.types (used_in p).types (type_key r.strings.items p.types) i.order.types.items r.types.items h.types orders.types many.types few.types n u

  pub proto_got : (n : ℕ) → Has (named.Proto n) → slice_get (written_by i p).protos (new_proto i.numbers n) ≡ option_map (written_proto i.numbers) (slice_get p.protos n)
  proto_got n u = carried (written_proto r) p.protos (used_in p).protos (proto_key r.types.items p.protos) i.order.protos.items r.protos.items h.protos orders.protos many.protos few.protos n u

  pub field_got : (n : ℕ) → Has (named.Field n) → slice_get (written_by i p).fields (new_field i.numbers n) ≡ option_map (written_field_name i.numbers) (slice_get p.fields n)
  field_got n u = carried (written_field_name r) p.fields (used_in p).fields (field_key r.strings.items r.types.items p.fields) i.order.fields.items r.fields.items h.fields orders.fields many.fields few.fields n u

  pub method_got : (n : ℕ) → Has (named.Method n) → slice_get (written_by i p).methods (new_method i.numbers n) ≡ option_map (written_method_name i.numbers) (slice_get p.methods n)
  method_got n u = carried (written_method_name r) p.methods (used_in p).methods (method_key r.strings.items r.types.items r.protos.items p.methods) i.order.methods.items r.methods.items h.methods orders.methods many.methods few.methods n u

  -- ---- numbers of the tables

  pub string_kept : (n : ℕ) → Has (named.Text n) → has_string p n ≡ true → has_string (written_by i p) (new_string i.numbers n) ≡ true
  string_kept n u t = lt-ltb (new_string r n) (length q.strings) (ranges_kept p i few h (named.Text n) u (ltb-true n (length p.strings) t))

  pub type_kept : (n : ℕ) → Has (named.Kind n) → has_type p n ≡ true → has_type (written_by i p) (new_type i.numbers n) ≡ true
  type_kept n u t = lt-ltb (new_type r n) (length q.types) (ranges_kept p i few h (named.Kind n) u (ltb-true n (length p.types) t))

  pub proto_kept : (n : ℕ) → Has (named.Proto n) → has_proto p n ≡ true → has_proto (written_by i p) (new_proto i.numbers n) ≡ true
  proto_kept n u t = lt-ltb (new_proto r n) (length q.protos) (ranges_kept p i few h (named.Proto n) u (ltb-true n (length p.protos) t))

  pub field_kept : (n : ℕ) → Has (named.Field n) → has_field p n ≡ true → has_field (written_by i p) (new_field i.numbers n) ≡ true
  field_kept n u t = lt-ltb (new_field r n) (length q.fields) (ranges_kept p i few h (named.Field n) u (ltb-true n (length p.fields) t))

  pub method_kept : (n : ℕ) → Has (named.Method n) → has_method p n ≡ true → has_method (written_by i p) (new_method i.numbers n) ≡ true
  method_kept n u t = lt-ltb (new_method r n) (length q.methods) (ranges_kept p i few h (named.Method n) u (ltb-true n (length p.methods) t))

  -- ---- used numbers with one new number are one

  pub one_text : (a b : ℕ) → Has (named.Text a) → Has (named.Text b) → has_string p a ≡ true → has_string p b ≡ true → new_string i.numbers a ≡ new_string i.numbers b → a ≡ b
  one_text a b u v s t e = one_number (used_in p).strings (string_key p.strings) (length p.strings) i.order.strings.items r.strings.items h.strings many.strings few.strings a b (ltb-true a (length p.strings) s, u) (ltb-true b (length p.strings) t, v) e

  pub one_kind : (a b : ℕ) → Has (named.Kind a) → Has (named.Kind b) → has_type p a ≡ true → has_type p b ≡ true → new_type i.numbers a ≡ new_type i.numbers b → a ≡ b
  one_kind a b u v s t e = one_number (used_in p).types (type_key r.strings.items p.types) (length p.types) i.order.types.items r.types.items h.types many.types few.types a b (ltb-true a (length p.types) s, u) (ltb-true b (length p.types) t, v) e

  pub one_field : (a b : ℕ) → Has (named.Field a) → Has (named.Field b) → has_field p a ≡ true → has_field p b ≡ true → new_field i.numbers a ≡ new_field i.numbers b → a ≡ b
  one_field a b u v s t e = one_number (used_in p).fields (field_key r.strings.items r.types.items p.fields) (length p.fields) i.order.fields.items r.fields.items h.fields many.fields few.fields a b (ltb-true a (length p.fields) s, u) (ltb-true b (length p.fields) t, v) e

  pub one_method : (a b : ℕ) → Has (named.Method a) → Has (named.Method b) → has_method p a ≡ true → has_method p b ≡ true → new_method i.numbers a ≡ new_method i.numbers b → a ≡ b
  one_method a b u v s t e = one_number (used_in p).methods (method_key r.strings.items r.types.items r.protos.items p.methods) (length p.methods) i.order.methods.items r.methods.items h.methods many.methods few.methods a b (ltb-true a (length p.methods) s, u) (ltb-true b (length p.methods) t, v) e

  -- ---- texts

  same_option : (o : Option (List ℕ)) → unwrap_or (option_map (λ t. t) o) [] ≡ unwrap_or o []
  same_option None = refl
  same_option (Some t) = refl

  pub string_same : (n : ℕ) → Has (named.Text n) → string_text (written_by i p) (new_string i.numbers n) ≡ string_text p n
  string_same n u =
      sym (unwrap_or-slice_get q.strings (new_string r n) [])
      ∙ ap (λ (o : Option (List ℕ)). unwrap_or o []) (string_got n u)
      ∙ same_option (slice_get p.strings n)
      ∙ unwrap_or-slice_get p.strings n []

  pub type_same : (k : ℕ) → Has (named.Kind k) → type_text (written_by i p) (new_type i.numbers k) ≡ type_text p k
  unfolding type_text
  type_same k u = by (slice_get p.types k) refl
    where
      by : (o : Option ℕ) → slice_get p.types k ≡ o → text_or_none q (slice_get q.types (new_type r k)) ≡ text_or_none p (slice_get p.types k)
      by None e = ap (text_or_none q) (type_got k u ∙ ap (option_map (new_string r)) e) ∙ sym (ap (text_or_none p) e)
      by (Some s) e = ap (text_or_none q) (type_got k u ∙ ap (option_map (new_string r)) e) ∙ (string_same s (closed.types k s e u) ∙ sym (ap (text_or_none p) e))

  pub letter_same : (k : ℕ) → Has (named.Kind k) → letter_of (written_by i p) (new_type i.numbers k) ≡ letter_of p k
  unfolding letter_of
  letter_same k u = ap first_unit (type_same k u)
