-- The tables that come are such as files can spell.
use Rattle.std.proofs.Common.{◌≡◌, ℕ, ◌<◌, ◌≤◌, ◌^◌, true, List, [], ◌∷◌, length, Option, Some, None, refl, sym, ap, ◌∙◌, subst, arith, lt-ltb}
use Rattle.std.specs.Prelude.{◌&&◌, not, is_ok, nat_le, nat_lt, slice_get, sum_by}
use Rattle.std.specs.List.{list_all}
use Rattle.std.proofs.lemmas.Bool.{le-leb}
use Rattle.lemmas.proofs.Bools.{and_left, and_right, and_both}
use Rattle.lemmas.proofs.Lists.{all_at, all_more, got_short}
use Rattle.lemmas.proofs.Options.{before_map, some_same}
use Rattle.dex_base.specs.Descriptor.{descriptor_of}
use Rattle.program_model.specs.Distinct.{all_differ, field_key, method_key, proto_key, text_key, type_key}
use Rattle.program_model.specs.ProgramRules.{is_well_formed}
use Rattle.program_model.specs.TableRules.{entries_differ, entries_fit, field_id_fits, method_id_fits, proto_fits, tables_are_short, tables_fit, texts_are_short, type_fits}
use Rattle.program_model.specs.Texts.{has_proto, has_string, has_type, is_void, letter_of, string_text}
use Rattle.program_model.specs.declared.pools.FieldName.{FieldName}
use Rattle.program_model.specs.declared.pools.MethodName.{MethodName}
use Rattle.program_model.specs.declared.pools.Proto.{Proto}
use Rattle.program_model.specs.declared.program.Program.{Program}
use Rattle.program_model.proofs.Formed.{formed}
use Rattle.class_defs.proofs.WellFormed.{sound}
use Rattle.static_protos.specs.Growing.{AreSound}
use Rattle.static_protos.specs.Tables.{Tables}
use Rattle.loose_methods.proofs.Differ.{same_number}
use Rattle.staticise.specs.Loosened.{given_at, name_with}
use Rattle.static_kept.proofs.Extended.{Extends, letter_same, proto_kept, string_kept, string_same, type_same}
use Rattle.static_kept.proofs.Lists.{all_each, differ_each}
use Rattle.static_kept.proofs.Plans.{IsPlan, class_same, name_same}
use Rattle.static_kept.proofs.Protos.{AreOfTypes, proto_formed}

-- ---- parts of rules

record Short (p : Program) : Type 0 where
  classes : nat_lt (length p.classes) (2 ^ 32) ≡ true
  types : nat_le (length p.types) 65535 ≡ true
  fields : nat_le (length p.fields) 65536 ≡ true
  methods : nat_le (length p.methods) 65536 ≡ true

whole_of : (p : Program) → tables_fit p ≡ true → tables_are_short p ≡ true
unfolding tables_fit
whole_of p h = and_left (tables_are_short p) (texts_are_short p) (and_left (tables_are_short p && texts_are_short p) (entries_fit p && entries_differ p) h)

short_of : (p : Program) → tables_are_short p ≡ true → Short p
unfolding tables_are_short
short_of p h =
    let a = nat_lt (length p.strings) (2 ^ 32) in
    let b = nat_lt (length p.classes) (2 ^ 32) in
    let c = nat_le (length p.types) 65535 in
    let d = nat_le (length p.protos) 65535 in
    let f = nat_le (length p.fields) 65536 in
    let m = nat_le (length p.methods) 65536 in
    let l = and_left (a && b) ((c && d) && (f && m)) h in
    let r = and_right (a && b) ((c && d) && (f && m)) h in
    let x = and_left (c && d) (f && m) r in
    let y = and_right (c && d) (f && m) r in
    record { classes = and_right a b l; types = and_left c d x; fields = and_left f m y; methods = and_right f m y }

all_short : (q : Program) → length q.strings < 2 ^ 32 → length q.protos ≤ 65535 → Short q → tables_are_short q ≡ true
unfolding tables_are_short
all_short q strings protos s =
    let a = nat_lt (length q.strings) (2 ^ 32) in
    let b = nat_lt (length q.classes) (2 ^ 32) in
    let c = nat_le (length q.types) 65535 in
    let d = nat_le (length q.protos) 65535 in
    let f = nat_le (length q.fields) 65536 in
    let m = nat_le (length q.methods) 65536 in
    and_both (a && b) ((c && d) && (f && m)) (and_both a b (lt-ltb (length q.strings) (2 ^ 32) strings) s.classes)
    (and_both (c && d) (f && m) (and_both c d s.types (le-leb (length q.protos) 65535 protos)) (and_both f m s.fields s.methods))

few_texts : (q : Program) → sum_by length q.strings ≤ 16777216 → texts_are_short q ≡ true
unfolding texts_are_short
few_texts q h = le-leb (sum_by length q.strings) 16777216 h

all_tables : (q : Program) → tables_are_short q ≡ true → texts_are_short q ≡ true → entries_fit q ≡ true → entries_differ q ≡ true → tables_fit q ≡ true
unfolding tables_fit
all_tables q a b c d = and_both (tables_are_short q && texts_are_short q) (entries_fit q && entries_differ q) (and_both (tables_are_short q) (texts_are_short q) a b) (and_both (entries_fit q) (entries_differ q) c d)

all_entries : (q : Program) → list_all (type_fits q) q.types ≡ true → list_all (proto_fits q) q.protos ≡ true → list_all (field_id_fits q) q.fields ≡ true → list_all (method_id_fits q) q.methods ≡ true → entries_fit q ≡ true
unfolding entries_fit
all_entries q a b c d =
    and_both (list_all (type_fits q) q.types) (list_all (proto_fits q) q.protos && (list_all (field_id_fits q) q.fields && list_all (method_id_fits q) q.methods)) a
    (and_both (list_all (proto_fits q) q.protos) (list_all (field_id_fits q) q.fields && list_all (method_id_fits q) q.methods) b (and_both (list_all (field_id_fits q) q.fields) (list_all (method_id_fits q) q.methods) c d))

all_apart : (q : Program) → all_differ text_key q.strings ≡ true → all_differ type_key q.types ≡ true → all_differ proto_key q.protos ≡ true → all_differ field_key q.fields ≡ true → all_differ method_key q.methods ≡ true → entries_differ q ≡ true
unfolding entries_differ
all_apart q a b c d f =
    and_both (all_differ text_key q.strings && all_differ type_key q.types) (all_differ proto_key q.protos && (all_differ field_key q.fields && all_differ method_key q.methods)) (and_both (all_differ text_key q.strings) (all_differ type_key q.types) a b)
    (and_both (all_differ proto_key q.protos) (all_differ field_key q.fields && all_differ method_key q.methods) c (and_both (all_differ field_key q.fields) (all_differ method_key q.methods) d f))

module _ (p q : Program) (wf : is_well_formed p ≡ true) (given : List (Option ℕ)) (plan : IsPlan p q given) where
  abbrev e : Extends p q
  e = plan.extends

  -- ---- entries

  type_kept : (s : ℕ) → type_fits p s ≡ true → type_fits q s ≡ true
  type_kept s h =
      let a = and_left (has_string p s) (is_ok (descriptor_of (string_text p s))) h in
      and_both (has_string q s) (is_ok (descriptor_of (string_text q s))) (string_kept p q wf e s a) (ap (λ t. is_ok (descriptor_of t)) (string_same p q wf e s a) ∙ and_right (has_string p s) (is_ok (descriptor_of (string_text p s))) h)

  field_id_kept : (x : FieldName) → field_id_fits p x ≡ true → field_id_fits q x ≡ true
  field_id_kept x h =
      let a = has_type p x.class in
      let b = has_type p x.kind in
      let c = has_string p x.name in
      let d = not (is_void (letter_of p x.kind)) in
      let l = and_left (a && b) (c && d) h in
      let r = and_right (a && b) (c && d) h in
      and_both (has_type q x.class && has_type q x.kind) (has_string q x.name && not (is_void (letter_of q x.kind)))
      (and_both (has_type q x.class) (has_type q x.kind) (type_same p q wf e x.class ∙ and_left a b l) (type_same p q wf e x.kind ∙ and_right a b l))
      (and_both (has_string q x.name) (not (is_void (letter_of q x.kind))) (string_kept p q wf e x.name (and_left c d r)) (ap (λ u. not (is_void u)) (letter_same p q wf e x.kind) ∙ and_right c d r))

  -- a number with its new proto, if it has one
  name_kept : (n : ℕ) (x : MethodName) (o : Option ℕ) → given_at given n ≡ o → method_id_fits p x ≡ true → method_id_fits q (name_with x o) ≡ true
  name_kept n x o f h =
      let a = has_type p x.class in
      let b = has_proto p x.proto in
      let c = has_string p x.name in
      let r = and_right a (b && c) h in
      by o f (type_same p q wf e x.class ∙ and_left a (b && c) h) (and_left b c r) (string_kept p q wf e x.name (and_right b c r))
    where
      by : (o : Option ℕ) → given_at given n ≡ o → has_type q x.class ≡ true → has_proto p x.proto ≡ true → has_string q x.name ≡ true → method_id_fits q (name_with x o) ≡ true
      by None f class proto name = and_both (has_type q x.class) (has_proto q x.proto && has_string q x.name) class (and_both (has_proto q x.proto) (has_string q x.name) (proto_kept p q wf e x.proto proto) name)
      by (Some v) f class proto name =
          let y = plan.new n v f in
          and_both (has_type q x.class) (has_proto q v && has_string q x.name) class (and_both (has_proto q v) (has_string q x.name) (lt-ltb v (length q.protos) (got_short q.protos v y.new y.is_new)) name)

  -- the number as it was
  record Before (n : ℕ) (y : MethodName) : Type 0 where
    old : MethodName
    there : slice_get p.methods n ≡ Some old
    is : name_with old (given_at given n) ≡ y

  before : (n : ℕ) (y : MethodName) → slice_get q.methods n ≡ Some y → Before n y
  before n y f = let b = before_map (λ (x : MethodName). name_with x (given_at given n)) (slice_get p.methods n) y (sym (plan.names n) ∙ f) in record { old = b.0; there = b.1.0; is = b.1.1 }

  names_fit : list_all (method_id_fits q) q.methods ≡ true
  names_fit = all_each (method_id_fits q) q.methods (λ n y f. let b = before n y f in
      ap (method_id_fits q) (sym b.is) ∙ name_kept n b.old (given_at given n) refl (all_at (method_id_fits p) p.methods n b.old (sound p wf).methods_fit b.there))

  -- ---- no number has the name and the proto of another

  same_old : (i j : ℕ) (x y : MethodName) → slice_get p.methods i ≡ Some x → slice_get p.methods j ≡ Some y → x.class ≡ y.class → x.name ≡ y.name → x.proto ≡ y.proto → i ≡ j
  same_old i j x y f g class name proto = same_number method_key p.methods i j x y (sound p wf).methods f g
      (ap (λ c. c ∷ x.name ∷ x.proto ∷ []) class ∙ ap (λ n. y.class ∷ n ∷ x.proto ∷ []) name ∙ ap (λ k. y.class ∷ y.name ∷ k ∷ []) proto)

  keys_differ : (i j : ℕ) (x y : MethodName) (o u : Option ℕ) → given_at given i ≡ o → given_at given j ≡ u → slice_get p.methods i ≡ Some x → slice_get p.methods j ≡ Some y
      → x.class ≡ y.class → x.name ≡ y.name → (name_with x o).proto ≡ (name_with y u).proto → i ≡ j
  keys_differ i j x y None None a b f g class name proto = same_old i j x y f g class name proto
  keys_differ i j x y (Some v) None a b f g class name proto =
      let z = plan.new i v a in
      let s : z.entry ≡ x = some_same z.entry x (sym z.is_entry ∙ f) in
      absurd (z.free j y g (sym name ∙ ap (λ (w : MethodName). w.name) (sym s)) (sym proto))
  keys_differ i j x y None (Some v) a b f g class name proto =
      let z = plan.new j v b in
      let s : z.entry ≡ y = some_same z.entry y (sym z.is_entry ∙ g) in
      absurd (z.free i x f (name ∙ ap (λ (w : MethodName). w.name) (sym s)) proto)
  keys_differ i j x y (Some v) (Some u) a b f g class name proto =
      let z = plan.new i v a in
      let w = plan.new j u b in
      let s : z.entry ≡ x = some_same z.entry x (sym z.is_entry ∙ f) in
      let t : w.entry ≡ y = some_same w.entry y (sym w.is_entry ∙ g) in
      let r : z.new ≡ w.new = some_same z.new w.new (sym z.is_new ∙ ap (slice_get q.protos) proto ∙ w.is_new) in
      let results : z.proto.result ≡ w.proto.result = sym z.result ∙ ap (λ (k : Proto). k.result) r ∙ w.result in
      let lists : z.entry.class ∷ z.proto.parameters ≡ w.entry.class ∷ w.proto.parameters = sym z.parameters ∙ ap (λ (k : Proto). k.parameters) r ∙ w.parameters in
      let parameters : z.proto.parameters ≡ w.proto.parameters = cc in
      let key : proto_key z.proto ≡ proto_key w.proto = ap (λ k. k ∷ z.proto.parameters) results ∙ ap (λ ks. w.proto.result ∷ ks) parameters in
      let old : z.entry.proto ≡ w.entry.proto = same_number proto_key p.protos z.entry.proto w.entry.proto z.proto w.proto (sound p wf).protos z.is_proto w.is_proto key in
      same_old i j x y f g class name (ap (λ (k : MethodName). k.proto) (sym s) ∙ old ∙ ap (λ (k : MethodName). k.proto) t)

  names_differ : all_differ method_key q.methods ≡ true
  names_differ = differ_each method_key q.methods (λ i j x y lt f g k.
      let a = before i x f in
      let b = before j y g in
      let keys : method_key (name_with a.old (given_at given i)) ≡ method_key (name_with b.old (given_at given j)) = ap method_key a.is ∙ k ∙ ap method_key (sym b.is) in
      let class : (name_with a.old (given_at given i)).class ≡ (name_with b.old (given_at given j)).class = first keys in
      let name : (name_with a.old (given_at given i)).name ≡ (name_with b.old (given_at given j)).name = second keys in
      let proto : (name_with a.old (given_at given i)).proto ≡ (name_with b.old (given_at given j)).proto = third keys in
      let same : i ≡ j = keys_differ i j a.old b.old (given_at given i) (given_at given j) refl refl a.there b.there
      (sym (class_same a.old (given_at given i)) ∙ class ∙ class_same b.old (given_at given j)) (sym (name_same a.old (given_at given i)) ∙ name ∙ name_same b.old (given_at given j)) proto in
      omega (arith, lt, same))
    where
      first : {a b c d f g : ℕ} → a ∷ b ∷ c ∷ [] ≡ d ∷ f ∷ g ∷ [] → a ≡ d
      first k = cc

      second : {a b c d f g : ℕ} → a ∷ b ∷ c ∷ [] ≡ d ∷ f ∷ g ∷ [] → b ≡ f
      second k = cc

      third : {a b c d f g : ℕ} → a ∷ b ∷ c ∷ [] ≡ d ∷ f ∷ g ∷ [] → c ≡ g
      third k = cc

  -- ---- all tables

  module _ (t : Tables) (strings : q.strings ≡ t.strings) (protos : q.protos ≡ t.protos) (classes : length q.classes ≡ length p.classes) (s : AreSound p t) (typed : AreOfTypes p t.protos) where
    protos_fit : list_all (proto_fits q) q.protos ≡ true
    protos_fit = all_each (proto_fits q) q.protos (λ n x f. let there = ap (λ xs. slice_get xs n) (sym protos) ∙ f in
        proto_formed p q wf e x (typed n x there) (ap (λ xs. slice_get xs x.shorty) strings ∙ s.shorties n x there))

    short_now : Short p → Short q
    short_now a = record {
      classes = ap (λ n. nat_lt n (2 ^ 32)) classes ∙ a.classes;
      types = ap (λ xs. nat_le (length xs) 65535) e.types ∙ a.types;
      fields = ap (λ xs. nat_le (length xs) 65536) e.fields ∙ a.fields;
      methods = ap (λ n. nat_le n 65536) e.methods ∙ a.methods;
    }

    entries_now : entries_fit q ≡ true
    entries_now = all_entries q
        (ap (list_all (type_fits q)) e.types ∙ all_more (type_fits p) (type_fits q) type_kept p.types (sound p wf).types_fit) protos_fit
        (ap (list_all (field_id_fits q)) e.fields ∙ all_more (field_id_fits p) (field_id_fits q) field_id_kept p.fields (sound p wf).fields_fit) names_fit

    differ_now : entries_differ q ≡ true
    differ_now = all_apart q (ap (all_differ text_key) strings ∙ s.texts) (ap (all_differ type_key) e.types ∙ (sound p wf).types) (ap (all_differ proto_key) protos ∙ s.keys)
        (ap (all_differ field_key) e.fields ∙ (sound p wf).fields) names_differ

    pub tables_now : tables_fit q ≡ true
    tables_now = all_tables q
        (all_short q (subst (λ xs. length xs < 2 ^ 32) (sym strings) s.few_strings) (subst (λ xs. length xs ≤ 65535) (sym protos) s.few_protos) (short_now (short_of p (whole_of p (formed p wf).tables))))
        (few_texts q (subst (λ xs. sum_by length xs ≤ 16777216) (sym strings) s.units)) entries_now differ_now
