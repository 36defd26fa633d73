-- The tables of the written program are such as a file can spell.
use Rattle.std.proofs.Common.{◌≡◌, ◌<◌, ◌≤◌, ◌^◌, ℕ, true, not, List, [], ◌∷◌, length, map, refl, ap, ap₂, ◌∙◌, arith, lt-ltb, ltb-true}
use Rattle.std.specs.Prelude.{◌&&◌, is_ok, nat_eq, nat_lt, nat_le, sum_by}
use Rattle.std.specs.List.{AllByRecursion, list_all, zip}
use Rattle.std.proofs.lemmas.Bool.{le-leb, leb-true}
use Rattle.lemmas.proofs.Bools.{and_left, and_right, and_both}
use Rattle.lemmas.proofs.Lists.{all_at, map_long}
use Rattle.dex_base.specs.Descriptor.{descriptor_of}
use Rattle.dex_pools.specs.declared.interner.Interner.{Interner}
use Rattle.dex_pools.specs.declared.used.Named.TheVariants as named
use Rattle.dex_pools.specs.Interned.{IsInterned}
use Rattle.dex_pools.specs.Numbering.{used_in, string_key, type_key, proto_key, field_key, method_key}
use Rattle.program_model.specs.Distinct.{all_differ, text_key, type_key as type_keys, proto_key as proto_keys, field_key as field_keys, method_key as method_keys}
use Rattle.program_model.specs.TableRules.{entries_differ, entries_fit, field_id_fits, is_shorty, method_id_fits, proto_fits, stands_for, stands_for_parameter, tables_are_short, tables_fit, texts_are_short, type_fits}
use Rattle.program_model.specs.Texts.{has_proto, has_string, has_type, is_void, letter_of, string_text}
use Rattle.program_model.specs.declared.pass.Renumber.{Renumber}
use Rattle.program_model.specs.declared.pools.FieldName.{FieldName}
use Rattle.program_model.specs.declared.pools.MethodName.{MethodName}
use Rattle.program_model.specs.declared.pools.Proto.{Proto}
use Rattle.program_model.specs.declared.program.Program.{Program}
use Rattle.dex_defs.specs.Written.{new_string, new_type, new_proto, written_proto, written_field_name, written_method_name, written_by}
use Rattle.write_laws.specs.Used.{IsSet, IsUsed, UsesProto, UsesField, UsesMethod, IsShort, IsClosed}
use Rattle.write_laws.specs.Owning.{IsNoLonger}
use Rattle.write_laws.specs.Ascending.{AllAscend}
use Rattle.write_laws.proofs.Closed.{used_closed}
use Rattle.write_laws.proofs.Owning.{order_set, no_longer}
use Rattle.write_laws.proofs.Ascending.{once}
use Rattle.write_laws.proofs.Rising.{all_ascend}
use Rattle.read_laws.proofs.Differing.{texts_differ, types_differ, protos_differ, fields_differ, methods_differ}
use Rattle.written_file.proofs.In.{all_in}
use Rattle.written_kept.proofs.Kept.{Has, string_kept, type_kept, proto_kept, string_same, letter_same}
use Rattle.written_kept.proofs.Lists.{entries_all, entries_most}

record Short (p : Program) : Type 0 where
  strings : nat_lt (length p.strings) (2 ^ 32) ≡ true
  classes : nat_lt (length p.classes) (2 ^ 32) ≡ true
  types : nat_le (length p.types) 65535 ≡ true
  protos : nat_le (length p.protos) 65535 ≡ true
  fields : nat_le (length p.fields) 65536 ≡ true
  methods : nat_le (length p.methods) 65536 ≡ true

short_of : (p : Program) → tables_are_short p ≡ true → Short p
unfolding tables_are_short
short_of p h =
    let a = nat_lt (length p.strings) (2 ^ 32) in
    let b = nat_lt (length p.classes) (2 ^ 32) in
    let c = nat_le (length p.types) 65535 in
    let d = nat_le (length p.protos) 65535 in
    let f = nat_le (length p.fields) 65536 in
    let m = nat_le (length p.methods) 65536 in
    let l = and_left (a && b) ((c && d) && (f && m)) h in
    let r = and_right (a && b) ((c && d) && (f && m)) h in
    let x = and_left (c && d) (f && m) r in
    let y = and_right (c && d) (f && m) r in
    record { strings = and_left a b l; classes = and_right a b l; types = and_left c d x; protos = and_right c d x; fields = and_left f m y; methods = and_right f m y }

all_short : (q : Program) → Short q → tables_are_short q ≡ true
unfolding tables_are_short
all_short q s =
    let a = nat_lt (length q.strings) (2 ^ 32) in
    let b = nat_lt (length q.classes) (2 ^ 32) in
    let c = nat_le (length q.types) 65535 in
    let d = nat_le (length q.protos) 65535 in
    let f = nat_le (length q.fields) 65536 in
    let m = nat_le (length q.methods) 65536 in
    and_both (a && b) ((c && d) && (f && m)) (and_both a b s.strings s.classes) (and_both (c && d) (f && m) (and_both c d s.types s.protos) (and_both f m s.fields s.methods))

less_short : (m n k : ℕ) → m ≤ n → nat_lt n k ≡ true → nat_lt m k ≡ true
less_short m n k le h = let lt : n < k = ltb-true n k h in lt-ltb m k (omega (arith, le, lt))

less_most : (m n k : ℕ) → m ≤ n → nat_le n k ≡ true → nat_le m k ≡ true
less_most m n k le h = let other : n ≤ k = leb-true n k h in le-leb m k (omega (arith, le, other))

short_texts : (p : Program) → texts_are_short p ≡ true → sum_by length p.strings ≤ 16777216
unfolding texts_are_short
short_texts p h = leb-true (sum_by length p.strings) 16777216 h

few_texts : (q : Program) → sum_by length q.strings ≤ 16777216 → texts_are_short q ≡ true
unfolding texts_are_short
few_texts q h = le-leb (sum_by length q.strings) 16777216 h

record Parts (p : Program) : Type 0 where
  short : tables_are_short p ≡ true
  texts : texts_are_short p ≡ true
  entries : entries_fit p ≡ true
  differ : entries_differ p ≡ true

parts_of : (p : Program) → tables_fit p ≡ true → Parts p
unfolding tables_fit
parts_of p h =
    let a = and_left (tables_are_short p && texts_are_short p) (entries_fit p && entries_differ p) h in
    let b = and_right (tables_are_short p && texts_are_short p) (entries_fit p && entries_differ p) h in
    record { short = and_left (tables_are_short p) (texts_are_short p) a; texts = and_right (tables_are_short p) (texts_are_short p) a; entries = and_left (entries_fit p) (entries_differ p) b; differ = and_right (entries_fit p) (entries_differ p) b }

all_parts : (q : Program) → Parts q → tables_fit q ≡ true
unfolding tables_fit
all_parts q s = and_both (tables_are_short q && texts_are_short q) (entries_fit q && entries_differ q) (and_both (tables_are_short q) (texts_are_short q) s.short s.texts) (and_both (entries_fit q) (entries_differ q) s.entries s.differ)

record Fits (p : Program) : Type 0 where
  types : list_all (type_fits p) p.types ≡ true
  protos : list_all (proto_fits p) p.protos ≡ true
  fields : list_all (field_id_fits p) p.fields ≡ true
  methods : list_all (method_id_fits p) p.methods ≡ true

fits_of : (p : Program) → entries_fit p ≡ true → Fits p
unfolding entries_fit
fits_of p h =
    let a = list_all (type_fits p) p.types in
    let b = list_all (proto_fits p) p.protos in
    let c = list_all (field_id_fits p) p.fields in
    let d = list_all (method_id_fits p) p.methods in
    let r = and_right a (b && (c && d)) h in
    let s = and_right b (c && d) r in
    record { types = and_left a (b && (c && d)) h; protos = and_left b (c && d) r; fields = and_left c d s; methods = and_right c d s }

all_fit : (q : Program) → Fits q → entries_fit q ≡ true
unfolding entries_fit
all_fit q s =
    let a = list_all (type_fits q) q.types in
    let b = list_all (proto_fits q) q.protos in
    let c = list_all (field_id_fits q) q.fields in
    let d = list_all (method_id_fits q) q.methods in
    and_both a (b && (c && d)) s.types (and_both b (c && d) s.protos (and_both c d s.fields s.methods))

all_apart : (q : Program) → AllAscend q → entries_differ q ≡ true
unfolding entries_differ
all_apart q a =
    and_both (all_differ text_key q.strings && all_differ type_keys q.types) (all_differ proto_keys q.protos && (all_differ field_keys q.fields && all_differ method_keys q.methods))
    (and_both (all_differ text_key q.strings) (all_differ type_keys q.types) (texts_differ q.strings a.strings) (types_differ q.types a.types))
    (and_both (all_differ proto_keys q.protos) (all_differ field_keys q.fields && all_differ method_keys q.methods) (protos_differ q.protos a.protos)
    (and_both (all_differ field_keys q.fields) (all_differ method_keys q.methods) (fields_differ q.fields a.fields) (methods_differ q.methods a.methods)))

module _ (p : Program) (i : Interner) (few : IsShort p) (h : IsInterned p i) where
  abbrev q : Program
  q = written_by i p

  abbrev r : Renumber
  r = i.numbers

  closed : IsClosed p (used_in p)
  closed = used_closed p few

  -- ---- entries

  type_now : (s : ℕ) → Has p i few h (named.Text s) → type_fits p s ≡ true → type_fits q (new_string r s) ≡ true
  type_now s u t =
      let a = and_left (has_string p s) (is_ok (descriptor_of (string_text p s))) t in
      and_both (has_string q (new_string r s)) (is_ok (descriptor_of (string_text q (new_string r s)))) (string_kept p i few h s u a) (ap (λ t. is_ok (descriptor_of t)) (string_same p i few h s u) ∙ and_right (has_string p s) (is_ok (descriptor_of (string_text p s))) t)

  pub types_now : (ks : List ℕ) → AllByRecursion (λ n. IsUsed (used_in p) (named.Kind n)) ks → list_all (has_type p) ks ≡ true → list_all (has_type (written_by i p)) (map (new_type i.numbers) ks) ≡ true
  types_now [] u t = refl
  types_now (k ∷ ks) u t =
      and_both (has_type q (new_type r k)) (list_all (has_type q) (map (new_type r) ks)) (type_kept p i few h k u.0 (and_left (has_type p k) (list_all (has_type p) ks) t)) (types_now ks u.1 (and_right (has_type p k) (list_all (has_type p) ks) t))

  parameters_same : (us ks : List ℕ) → AllByRecursion (λ n. IsUsed (used_in p) (named.Kind n)) ks → list_all (stands_for_parameter q) (zip us (map (new_type r) ks)) ≡ list_all (stands_for_parameter p) (zip us ks)
  parameters_same [] ks u = refl
  parameters_same (x ∷ us) [] u = refl
  parameters_same (x ∷ us) (k ∷ ks) u = ap₂ (λ a b. a && b) (ap (λ l. stands_for x l && not (is_void l)) (letter_same p i few h k u.0)) (parameters_same us ks u.1)

  shorty_same : (us : List ℕ) (k : ℕ) (ks : List ℕ) → Has p i few h (named.Kind k) → AllByRecursion (λ n. IsUsed (used_in p) (named.Kind n)) ks → is_shorty q us (new_type r k) (map (new_type r) ks) ≡ is_shorty p us k ks
  shorty_same [] k ks u v = refl
  shorty_same (x ∷ us) k ks u v =
      ap (λ l. stands_for x l && (nat_eq (length us) (length (map (new_type r) ks)) && list_all (stands_for_parameter q) (zip us (map (new_type r) ks)))) (letter_same p i few h k u)
      ∙ ap (λ n. stands_for x (letter_of p k) && (nat_eq (length us) n && list_all (stands_for_parameter q) (zip us (map (new_type r) ks)))) (map_long (new_type r) ks)
      ∙ ap (λ b. stands_for x (letter_of p k) && (nat_eq (length us) (length ks) && b)) (parameters_same us ks v)

  proto_now : (x : Proto) → UsesProto (used_in p) x → proto_fits p x ≡ true → proto_fits q (written_proto r x) ≡ true
  proto_now x u t =
      let a = has_string p x.shorty in
      let b = has_type p x.result in
      let c = list_all (has_type p) x.parameters in
      let d = is_shorty p (string_text p x.shorty) x.result x.parameters in
      let left = and_left (a && b) (c && d) t in
      let right = and_right (a && b) (c && d) t in
      let ks = map (new_type r) x.parameters in
      and_both (has_string q (new_string r x.shorty) && has_type q (new_type r x.result)) (list_all (has_type q) ks && is_shorty q (string_text q (new_string r x.shorty)) (new_type r x.result) ks)
      (and_both (has_string q (new_string r x.shorty)) (has_type q (new_type r x.result)) (string_kept p i few h x.shorty u.shorty (and_left a b left)) (type_kept p i few h x.result u.result (and_right a b left)))
      (and_both (list_all (has_type q) ks) (is_shorty q (string_text q (new_string r x.shorty)) (new_type r x.result) ks) (types_now x.parameters u.parameters (and_left c d right))
      (ap (λ t. is_shorty q t (new_type r x.result) ks) (string_same p i few h x.shorty u.shorty) ∙ shorty_same (string_text p x.shorty) x.result x.parameters u.result u.parameters ∙ and_right c d right))

  field_now : (x : FieldName) → UsesField (used_in p) x → field_id_fits p x ≡ true → field_id_fits q (written_field_name r x) ≡ true
  field_now x u t =
      let a = has_type p x.class in
      let b = has_type p x.kind in
      let c = has_string p x.name in
      let d = not (is_void (letter_of p x.kind)) in
      let left = and_left (a && b) (c && d) t in
      let right = and_right (a && b) (c && d) t in
      and_both (has_type q (new_type r x.class) && has_type q (new_type r x.kind)) (has_string q (new_string r x.name) && not (is_void (letter_of q (new_type r x.kind))))
      (and_both (has_type q (new_type r x.class)) (has_type q (new_type r x.kind)) (type_kept p i few h x.class u.class (and_left a b left)) (type_kept p i few h x.kind u.kind (and_right a b left)))
      (and_both (has_string q (new_string r x.name)) (not (is_void (letter_of q (new_type r x.kind)))) (string_kept p i few h x.name u.name (and_left c d right)) (ap (λ l. not (is_void l)) (letter_same p i few h x.kind u.kind) ∙ and_right c d right))

  method_now : (x : MethodName) → UsesMethod (used_in p) x → method_id_fits p x ≡ true → method_id_fits q (written_method_name r x) ≡ true
  method_now x u t =
      let a = has_type p x.class in
      let b = has_proto p x.proto in
      let c = has_string p x.name in
      let right = and_right a (b && c) t in
      and_both (has_type q (new_type r x.class)) (has_proto q (new_proto r x.proto) && has_string q (new_string r x.name)) (type_kept p i few h x.class u.class (and_left a (b && c) t))
      (and_both (has_proto q (new_proto r x.proto)) (has_string q (new_string r x.name)) (proto_kept p i few h x.proto u.proto (and_left b c right)) (string_kept p i few h x.name u.name (and_right b c right)))

  entries_now : Fits p → Fits q
  entries_now f = record {
    types = entries_all (new_string r) (type_fits q) p.types i.order.types.items (λ n x j e.
        let set : IsSet (used_in p).types n = all_in (IsSet (used_in p).types) n i.order.types.items (order_set (used_in p).types (type_key r.strings.items p.types) (length p.types) i.order.types.items r.types.items h.types) j in
        type_now x (closed.types n x e set) (all_at (type_fits p) p.types n x f.types e));
    protos = entries_all (written_proto r) (proto_fits q) p.protos i.order.protos.items (λ n x j e.
        let set : IsSet (used_in p).protos n = all_in (IsSet (used_in p).protos) n i.order.protos.items (order_set (used_in p).protos (proto_key r.types.items p.protos) (length p.protos) i.order.protos.items r.protos.items h.protos) j in
        proto_now x (closed.protos n x e set) (all_at (proto_fits p) p.protos n x f.protos e));
    fields = entries_all (written_field_name r) (field_id_fits q) p.fields i.order.fields.items (λ n x j e.
        let set : IsSet (used_in p).fields n = all_in (IsSet (used_in p).fields) n i.order.fields.items (order_set (used_in p).fields (field_key r.strings.items r.types.items p.fields) (length p.fields) i.order.fields.items r.fields.items h.fields) j in
        field_now x (closed.fields n x e set) (all_at (field_id_fits p) p.fields n x f.fields e));
    methods = entries_all (written_method_name r) (method_id_fits q) p.methods i.order.methods.items (λ n x j e.
        let set : IsSet (used_in p).methods n = all_in (IsSet (used_in p).methods) n i.order.methods.items (order_set (used_in p).methods (method_key r.strings.items r.types.items r.protos.items p.methods) (length p.methods) i.order.methods.items r.methods.items h.methods) j in
        method_now x (closed.methods n x e set) (all_at (method_id_fits p) p.methods n x f.methods e));
  }

  -- ---- limits

  short_now : length q.classes ≤ length p.classes → Short p → Short q
  short_now le s =
      let l : IsNoLonger q p = no_longer p i h in
      record {
        strings = less_short (length q.strings) (length p.strings) (2 ^ 32) l.strings s.strings;
        classes = less_short (length q.classes) (length p.classes) (2 ^ 32) le s.classes;
        types = less_most (length q.types) (length p.types) 65535 l.types s.types;
        protos = less_most (length q.protos) (length p.protos) 65535 l.protos s.protos;
        fields = less_most (length q.fields) (length p.fields) 65536 l.fields s.fields;
        methods = less_most (length q.methods) (length p.methods) 65536 l.methods s.methods;
      }

  texts_now : texts_are_short p ≡ true → texts_are_short q ≡ true
  texts_now t = few_texts q (omega (arith, short_texts p t, entries_most (λ text. text) length p.strings i.order.strings.items (once (used_in p).strings (string_key p.strings) (length p.strings) i.order.strings.items r.strings.items h.strings)))

  -- the tables of the written program, where it has no more classes
  pub tables_now : length (written_by i p).classes ≤ length p.classes → tables_fit p ≡ true → tables_fit (written_by i p) ≡ true
  tables_now le t =
      let s : Parts p = parts_of p t in
      all_parts q (record { short = all_short q (short_now le (short_of p s.short)); texts = texts_now s.texts; entries = all_fit q (entries_now (fits_of p s.entries)); differ = all_apart q (all_ascend p i few h s.entries s.differ) })
