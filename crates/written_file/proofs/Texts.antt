-- The texts of the written program's tables are as a file's have to be, and no more than they may be.
use Rattle.std.proofs.Common.{◌≡◌, ◌<◌, ◌≤◌, ◌+◌, ◌^◌, inl, inr, ℕ, zero, suc, Bool, true, false, not, cond, List, [], ◌∷◌, ◌++◌, length, map, refl, sym, ap, subst, ◌∙◌, arith, Option, Some, None, Result, Ok, Err, ltb-true, get_or, unwrap_or}
use Rattle.std.specs.Prelude.{slice_get, slice_index, slice_index_or, nat_eq, nat_lt, ◌==◌, ◌&&◌, ◌||◌, sum_by, is_ok, if◌then◌else◌}
use Rattle.std.specs.Option.{option_map}
use Rattle.std.specs.List.{AllByRecursion, list_all, zip}
use Rattle.std.proofs.lemmas.Bool.{eqb-true, eqb-false, eq-eqb, ne_eqb, and_parts, and_from}
use Rattle.std.proofs.lemmas.List.{length-map}
use Rattle.std.proofs.lemmas.List.Sums.{sum_by-cons}
use Rattle.std.proofs.lemmas.List.Sorted.{sum_by-IsPermutation}
use Rattle.std.proofs.lemmas.Option.{unwrap_or-slice_get, get_or_from_slice_get, slice_get-map}
use Rattle.lemmas.proofs.Lists.{all_at, get_there}
use Rattle.lemmas.proofs.Bools.{clash, not_true}
use Rattle.dex_base.specs.declared.fault.BaseFault.{BaseFault}
use Rattle.dex_base.specs.declared.descriptor.Descriptor.{Descriptor}
use Rattle.dex_base.specs.Descriptor.{descriptor_of}
use Rattle.dex_base.specs.Grammar.{IsDescriptor}
use Rattle.dex_base.proofs.Names.{descriptor_found}
use Rattle.dex_pools.specs.declared.interner.Interner.{Interner}
use Rattle.dex_pools.specs.declared.used.Named.TheVariants as named
use Rattle.dex_pools.specs.declared.used.Used.{Used}
use Rattle.dex_pools.specs.Interned.{IsInterned}
use Rattle.dex_pools.specs.Numbering.{numbers_from, numbers_of, used_in, string_key, type_key, proto_key, field_key, IsNumbered}
use Rattle.dex_pools.specs.Spelled.{parameter_count}
use Rattle.dex_pools.specs.Tables.{text_of, letters_of, spells_one, spells_all, spells_shorty}
use Rattle.dex_pools.specs.Tables as pools
use Rattle.program_model.specs.declared.pass.Renumber.{Renumber}
use Rattle.program_model.specs.declared.pools.Proto.{Proto}
use Rattle.program_model.specs.declared.pools.FieldName.{FieldName}
use Rattle.program_model.specs.declared.program.Program.{Program}
use Rattle.program_model.specs.Items.{items_of, proto_items, class_items}
use Rattle.program_model.specs.Texts.{has_string, has_type, string_text, text_or_none, type_text, first_unit, letter_of, is_void}
use Rattle.program_model.specs.TableRules.{type_fits, stands_for, stands_for_parameter, is_shorty, proto_fits, field_id_fits, method_id_fits, entries_fit}
use Rattle.dex_defs.specs.Written.{one_entry, entries, new_string, new_type, written_proto, written_field_name, written_by}
use Rattle.write_laws.specs.Used.{IsSet, IsUsed, IsShort, IsClosed}
use Rattle.write_laws.specs.Orders.{OrdersIn}
use Rattle.write_laws.proofs.NamesOrdering.{AsMany, used_marked, orders_in}
use Rattle.write_laws.proofs.Closed.{used_closed}
use Rattle.write_laws.proofs.Owning.{order_set}
use Rattle.write_laws.proofs.Rising.{Fits}
use Rattle.write_laws.proofs.Carried.{carried}
use Rattle.write_laws.specs.Fits.{FitsText, TextsFit}
use Rattle.written_file.specs.Widths.{AreHalves, HasWidths}
use Rattle.written_file.proofs.Fit.{Parts}
use Rattle.written_file.proofs.In.{In, in_got, all_in}

-- the rules of the tables, one by one
rules_of : (p : Program) → entries_fit p ≡ true → Fits p
unfolding entries_fit
rules_of p fit =
    let a = and_parts (list_all (type_fits p) p.types) (list_all (proto_fits p) p.protos && (list_all (field_id_fits p) p.fields && list_all (method_id_fits p) p.methods)) fit in
    let b = and_parts (list_all (proto_fits p) p.protos) (list_all (field_id_fits p) p.fields && list_all (method_id_fits p) p.methods) a.1 in
    let c = and_parts (list_all (field_id_fits p) p.fields) (list_all (method_id_fits p) p.methods) b.1 in
    record { types = a.0; protos = b.0; fields = c.0; methods = c.1 }

-- ---- entries one by one

entries_all : {X Y : Type 0} (f : X → Y) (table : List X) (order : List ℕ) (Q : Y → Type 0) → ((n : ℕ) (x : X) → In n order → slice_get table n ≡ Some x → Q (f x)) → AllByRecursion Q (entries f table order)
entries_all f table [] Q each = tt
entries_all {X = X} f table (n ∷ ns) Q each = by_entry (slice_get table n) refl (entries_all f table ns Q (λ m x i e. each m x (inr i) e))
  where
    by_entry : (o : Option X) → slice_get table n ≡ o → AllByRecursion Q (entries f table ns) → AllByRecursion Q (entries f table (n ∷ ns))
    by_entry None e rest = rw e rest
    by_entry (Some x) e rest = rw e (each n x (inl refl) e, rest)

-- ---- sums

abbrev weight : {X : Type 0} → (X → ℕ) → Option X → ℕ
weight g None = 0
weight g (Some x) = g x

entries_sum : {X Y : Type 0} (f : X → Y) (g : Y → ℕ) (table : List X) (order : List ℕ) → sum_by g (entries f table order) ≡ sum_by (λ n. weight (λ x. g (f x)) (slice_get table n)) order
entries_sum f g table [] = refl
entries_sum {X = X} f g table (n ∷ ns) = by_entry (slice_get table n) refl (entries_sum f g table ns)
  where
    heavy : ℕ → ℕ
    heavy m = weight (λ x. g (f x)) (slice_get table m)

    by_entry : (o : Option X) → slice_get table n ≡ o → sum_by g (entries f table ns) ≡ sum_by (λ m. weight (λ x. g (f x)) (slice_get table m)) ns → sum_by g (entries f table (n ∷ ns)) ≡ sum_by (λ m. weight (λ x. g (f x)) (slice_get table m)) (n ∷ ns)
    by_entry None e rest =
        let none : weight (λ x. g (f x)) (slice_get table n) ≡ 0 = rw e refl in
        let left : sum_by g (entries f table (n ∷ ns)) ≡ sum_by g (entries f table ns) = rw e refl in
        omega (arith, rest, none, left, sum_by-cons (λ m. weight (λ x. g (f x)) (slice_get table m)) n ns)
    by_entry (Some x) e rest =
        let one : weight (λ x. g (f x)) (slice_get table n) ≡ g (f x) = rw e refl in
        let left : sum_by g (entries f table (n ∷ ns)) ≡ sum_by g (f x ∷ entries f table ns) = rw e refl in
        omega (arith, rest, one, left, sum_by-cons g (f x) (entries f table ns), sum_by-cons (λ m. weight (λ x. g (f x)) (slice_get table m)) n ns)

abbrev span : (ℕ → ℕ) → ℕ → ℕ → ℕ
span w from zero = 0
span w from (suc n) = w from + span w (suc from) n

numbers_sum : (w : ℕ → ℕ) (from : ℕ) (flags : List Bool) → sum_by w (numbers_from from flags) ≤ span w from (length flags)
numbers_sum w from [] = omega arith
numbers_sum w from (flag ∷ flags) = by_test (flag && nat_lt from 4294967295) refl (numbers_sum w (suc from) flags)
  where
    by_test : (t : Bool) → (flag && nat_lt from 4294967295) ≡ t → sum_by w (numbers_from (suc from) flags) ≤ span w (suc from) (length flags) → sum_by w (numbers_from from (flag ∷ flags)) ≤ span w from (suc (length flags))
    by_test true e le = rw e (omega (arith, le, sum_by-cons w from (numbers_from (suc from) flags)))
    by_test false e le = rw e (omega (arith, le))

span_shift : {X : Type 0} (g : X → ℕ) (x : X) (xs : List X) (from n : ℕ) → span (λ k. weight g (slice_get (x ∷ xs) k)) (suc from) n ≡ span (λ k. weight g (slice_get xs k)) from n
span_shift g x xs from zero = refl
span_shift g x xs from (suc n) = ap (λ (m : ℕ). weight g (slice_get xs from) + m) (span_shift g x xs (suc from) n)

span_table : {X : Type 0} (g : X → ℕ) (xs : List X) → span (λ k. weight g (slice_get xs k)) 0 (length xs) ≡ sum_by g xs
span_table g [] = refl
span_table g (x ∷ xs) = omega (arith, span_shift g x xs 0 (length xs), span_table g xs, sum_by-cons g x xs)

-- the entries that are written are no more than those that there are
table_sum : {X Y : Type 0} (f : X → Y) (g : Y → ℕ) (table : List X) (flags : List Bool) (key : ℕ → List ℕ) (order numbers : List ℕ) → IsNumbered key flags (length table) order numbers → length flags ≡ length table → sum_by g (entries f table order) ≤ sum_by (λ x. g (f x)) table
unfolding numbers_of
table_sum f g table flags key order numbers h many =
    let w : ℕ → ℕ = λ n. weight (λ x. g (f x)) (slice_get table n) in
    let same : span w 0 (length flags) ≡ span w 0 (length table) = ap (λ (n : ℕ). span w 0 n) many in
    omega (arith, entries_sum f g table order, sum_by-IsPermutation w (numbers_from 0 flags) order h.in_order.same, numbers_sum w 0 flags, same, span_table (λ x. g (f x)) table)

member_sum : {X : Type 0} (f : X → ℕ) (x : X) (xs : List X) → In x xs → f x ≤ sum_by f xs
member_sum f x [] i = absurd i
member_sum f x (y ∷ ys) (inl e) = omega (arith, sum_by-cons f y ys, ap f e)
member_sum f x (y ∷ ys) (inr i) = omega (arith, sum_by-cons f y ys, member_sum f x ys i)

-- ---- letters

-- the letter of a type in a shorty
abbrev short_letter : ℕ → ℕ
short_letter letter = if letter == 91 then 76 else letter

letter_short : (text : List ℕ) → pools.letter_of text ≡ short_letter (first_unit text)
letter_short [] = refl
letter_short (u ∷ us) = refl

stands_short : (unit letter : ℕ) → stands_for unit letter ≡ (unit == short_letter letter)
stands_short unit letter = by_test (letter == 91) refl
  where
    by_test : (t : Bool) → (letter == 91) ≡ t → stands_for unit letter ≡ (unit == short_letter letter)
    by_test true e = rw e refl
    by_test false e = rw e refl

not_void : (letter : ℕ) → not (is_void letter) ≡ true → short_letter letter ≡ 86 → ⊥
not_void letter h e = by_test (letter == 91) refl
  where
    by_test : (t : Bool) → (letter == 91) ≡ t → ⊥
    by_test true t = let s : short_letter letter ≡ 76 = rw t refl in omega (arith, s, e)
    by_test false t = let s : short_letter letter ≡ letter = rw t refl in clash (is_void letter) (eq-eqb letter 86 (omega (arith, s, e))) (not_true (is_void letter) h)

ok_is : (r : Result Descriptor BaseFault) → is_ok r ≡ true → (kind : Descriptor) × (r ≡ Ok kind)
ok_is (Ok kind) h = (kind, refl)
ok_is (Err e) h = clash false h refl

parameters_few : (x : Proto) (protos : List Proto) (limit : ℕ) → In x protos → sum_by proto_items protos ≤ limit → length x.parameters ≤ limit
parameters_few x protos limit i le = omega (arith, le, member_sum proto_items x protos i)

protos_few : (p : Program) → items_of p ≤ 16777216 → sum_by proto_items p.protos ≤ 16777216
unfolding items_of
protos_few p le = omega (arith, le)

module _ (p : Program) (i : Interner) (few : IsShort p) (h : IsInterned p i) (parts : Parts p) (widths : HasWidths p) where
  abbrev q : Program
  q = written_by i p

  abbrev r : Renumber
  r = i.numbers

  abbrev u : Used
  u = used_in p

  many : AsMany p (used_in p)
  many = used_marked p

  orders : OrdersIn p i
  orders = orders_in p i h

  closed : IsClosed p (used_in p)
  closed = used_closed p few

  fits : Fits p
  fits = rules_of p parts.entries

  same_option : (o : Option (List ℕ)) → unwrap_or (option_map (λ t. t) o) [] ≡ unwrap_or o []
  same_option None = refl
  same_option (Some t) = refl

  text_kept : (s : ℕ) → IsUsed u (named.Text s) → text_of q.strings (new_string r s) ≡ string_text p s
  text_kept s used =
      sym (unwrap_or-slice_get q.strings (new_string r s) [])
      ∙ ap (λ (o : Option (List ℕ)). unwrap_or o []) (carried (λ text. text) p.strings u.strings (string_key p.strings) i.order.strings.items r.strings.items h.strings orders.strings many.strings few.strings s used)
      ∙ same_option (slice_get p.strings s)
      ∙ unwrap_or-slice_get p.strings s []

  letter_kept : (k : ℕ) → IsUsed u (named.Kind k) → has_type p k ≡ true → slice_index (letters_of q.strings q.types) (new_type r k) ≡ short_letter (letter_of p k)
  unfolding letter_of type_text
  letter_kept k used t =
      let there = get_there p.types k (ltb-true k (length p.types) t) in
      let stands : slice_get q.types (new_type r k) ≡ Some (new_string r there.0) = carried (new_string r) p.types u.types (type_key r.strings.items p.types) i.order.types.items r.types.items h.types orders.types many.types few.types k used ∙ ap (option_map (new_string r)) there.1 in
      let text : text_of q.strings (new_string r there.0) ≡ string_text p there.0 = text_kept there.0 (closed.types k there.0 there.1 used) in
      get_or_from_slice_get (letters_of q.strings q.types) (new_type r k) (pools.letter_of (text_of q.strings (new_string r there.0))) 0 (slice_get-map (λ n. pools.letter_of (text_of q.strings n)) q.types (new_type r k) ∙ ap (option_map (λ n. pools.letter_of (text_of q.strings n))) stands)
      ∙ ap (λ (t : List ℕ). pools.letter_of t) text
      ∙ letter_short (string_text p there.0)
      ∙ ap (λ (o : Option ℕ). short_letter (first_unit (text_or_none p o))) (sym there.1)

  one_spelled : (unit k : ℕ) → IsUsed u (named.Kind k) → has_type p k ≡ true → stands_for_parameter p (unit, k) ≡ true → spells_one (letters_of q.strings q.types) unit (new_type r k) ≡ true
  one_spelled unit k used t s =
      let both = and_parts (stands_for unit (letter_of p k)) (not (is_void (letter_of p k))) s in
      let is : unit ≡ short_letter (letter_of p k) = eqb-true unit (short_letter (letter_of p k)) (sym (stands_short unit (letter_of p k)) ∙ both.0) in
      let same : (unit == slice_index (letters_of q.strings q.types) (new_type r k)) ≡ true = eq-eqb unit (slice_index (letters_of q.strings q.types) (new_type r k)) (is ∙ sym (letter_kept k used t)) in
      let other : (unit == 86) ≡ false = ne_eqb unit 86 (λ e. not_void (letter_of p k) both.1 (sym is ∙ e)) in
      rw (same, other) refl

  all_spelled : (units ks : List ℕ) → AllByRecursion (λ n. IsUsed u (named.Kind n)) ks → list_all (has_type p) ks ≡ true → length units ≡ length ks → list_all (stands_for_parameter p) (zip units ks) ≡ true → spells_all (letters_of q.strings q.types) units (map (new_type r) ks) ≡ true
  all_spelled [] [] used t e s = refl
  all_spelled [] (k ∷ ks) used t e s = absurd (omega (arith, e))
  all_spelled (unit ∷ units) [] used t e s = absurd (omega (arith, e))
  all_spelled (unit ∷ units) (k ∷ ks) used t e s =
      let kinds = and_parts (has_type p k) (list_all (has_type p) ks) t in
      let both = and_parts (stands_for_parameter p (unit, k)) (list_all (stands_for_parameter p) (zip units ks)) s in
      and_from (spells_one (letters_of q.strings q.types) unit (new_type r k)) (spells_all (letters_of q.strings q.types) units (map (new_type r) ks)) (one_spelled unit k used.0 kinds.0 both.0) (all_spelled units ks used.1 kinds.1 (omega (arith, e)) both.1)

  shorty_kept : (text : List ℕ) (result : ℕ) (ks : List ℕ) → IsUsed u (named.Kind result) → has_type p result ≡ true → AllByRecursion (λ n. IsUsed u (named.Kind n)) ks → list_all (has_type p) ks ≡ true → is_shorty p text result ks ≡ true → spells_shorty (letters_of q.strings q.types) text (new_type r result) (map (new_type r) ks) ≡ true
  shorty_kept [] result ks used t others kinds s = clash false s refl
  shorty_kept (unit ∷ units) result ks used t others kinds s =
      let a = and_parts (stands_for unit (letter_of p result)) (nat_eq (length units) (length ks) && list_all (stands_for_parameter p) (zip units ks)) s in
      let b = and_parts (nat_eq (length units) (length ks)) (list_all (stands_for_parameter p) (zip units ks)) a.1 in
      let is : unit ≡ short_letter (letter_of p result) = eqb-true unit (short_letter (letter_of p result)) (sym (stands_short unit (letter_of p result)) ∙ a.0) in
      and_from (unit == slice_index (letters_of q.strings q.types) (new_type r result)) (spells_all (letters_of q.strings q.types) units (map (new_type r) ks)) (eq-eqb unit (slice_index (letters_of q.strings q.types) (new_type r result)) (is ∙ sym (letter_kept result used t))) (all_spelled units ks others kinds (eqb-true (length units) (length ks) b.0) b.1)

  string_fits : (n : ℕ) (text : List ℕ) → In n i.order.strings.items → slice_get p.strings n ≡ Some text → FitsText text
  string_fits n text j e =
      let there : In text p.strings = in_got p.strings n text e in
      record { units = record { counted = refl; fit = all_in AreHalves text p.strings widths.strings there }; few = omega (arith, parts.texts, member_sum length text p.strings there) }

  type_described : (k s : ℕ) → In k i.order.types.items → slice_get p.types k ≡ Some s → (kind : Descriptor) × IsDescriptor (text_of q.strings (new_string r s)) kind
  type_described k s j e =
      let used : IsSet u.types k = all_in (IsSet u.types) k i.order.types.items (order_set u.types (type_key r.strings.items p.types) (length p.types) i.order.types.items r.types.items h.types) j in
      let both = and_parts (has_string p s) (is_ok (descriptor_of (string_text p s))) (all_at (type_fits p) p.types k s fits.types e) in
      let ok = ok_is (descriptor_of (string_text p s)) both.1 in
      (ok.0, subst (λ t. IsDescriptor t ok.0) (sym (text_kept s (closed.types k s e used))) (descriptor_found (string_text p s) ok.0 ok.1))

  proto_spelled : (k : ℕ) (x : Proto) → In k i.order.protos.items → slice_get p.protos k ≡ Some x → spells_shorty (letters_of q.strings q.types) (text_of q.strings (new_string r x.shorty)) (new_type r x.result) (map (new_type r) x.parameters) ≡ true
  proto_spelled k x j e =
      let used : IsSet u.protos k = all_in (IsSet u.protos) k i.order.protos.items (order_set u.protos (proto_key r.types.items p.protos) (length p.protos) i.order.protos.items r.protos.items h.protos) j in
      let uses = closed.protos k x e used in
      let t = and_parts (has_string p x.shorty && has_type p x.result) (list_all (has_type p) x.parameters && is_shorty p (string_text p x.shorty) x.result x.parameters) (all_at (proto_fits p) p.protos k x fits.protos e) in
      let a = and_parts (has_string p x.shorty) (has_type p x.result) t.0 in
      let b = and_parts (list_all (has_type p) x.parameters) (is_shorty p (string_text p x.shorty) x.result x.parameters) t.1 in
      subst (λ l. spells_shorty (letters_of q.strings q.types) l (new_type r x.result) (map (new_type r) x.parameters) ≡ true) (sym (text_kept x.shorty uses.shorty)) (shorty_kept (string_text p x.shorty) x.result x.parameters uses.result a.1 uses.parameters b.0 b.1)

  field_some : (k : ℕ) (x : FieldName) → In k i.order.fields.items → slice_get p.fields k ≡ Some x → slice_index (letters_of q.strings q.types) (new_type r x.kind) ≡ 86 → ⊥
  field_some k x j e v =
      let used : IsSet u.fields k = all_in (IsSet u.fields) k i.order.fields.items (order_set u.fields (field_key r.strings.items r.types.items p.fields) (length p.fields) i.order.fields.items r.fields.items h.fields) j in
      let uses = closed.fields k x e used in
      let t = and_parts (has_type p x.class && has_type p x.kind) (has_string p x.name && not (is_void (letter_of p x.kind))) (all_at (field_id_fits p) p.fields k x fits.fields e) in
      let a = and_parts (has_type p x.class) (has_type p x.kind) t.0 in
      let b = and_parts (has_string p x.name) (not (is_void (letter_of p x.kind))) t.1 in
      not_void (letter_of p x.kind) b.1 (sym (letter_kept x.kind uses.kind a.1) ∙ v)

  lists_few : (k : ℕ) (x : Proto) → In k i.order.protos.items → slice_get p.protos k ≡ Some x → length (map (new_type r) x.parameters) < 2 ^ 32
  lists_few k x j e = omega (arith, length-map x.parameters (new_type r), parameters_few x p.protos 16777216 (in_got p.protos k x e) (protos_few p parts.items))

  same_length : (xs : List Proto) → sum_by (λ x. length (map (new_type r) x.parameters)) xs ≡ sum_by proto_items xs
  same_length [] = refl
  same_length (x ∷ xs) = omega (arith, sum_by-cons (λ y. length (map (new_type r) y.parameters)) x xs, sum_by-cons proto_items x xs, length-map x.parameters (new_type r), same_length xs)

  pub all_texts_fit : TextsFit (written_by i p)
  all_texts_fit = record {
    strings = entries_all (λ text. text) p.strings i.order.strings.items FitsText string_fits;
    units = omega (arith, parts.texts, table_sum (λ text. text) (λ text. length text) p.strings u.strings (string_key p.strings) i.order.strings.items r.strings.items h.strings many.strings);
    types = entries_all (new_string r) p.types i.order.types.items (λ n. (kind : Descriptor) × IsDescriptor (text_of q.strings n) kind) type_described;
    lists = entries_all (written_proto r) p.protos i.order.protos.items (λ x. length x.parameters < 2 ^ 32) lists_few;
    shorties = entries_all (written_proto r) p.protos i.order.protos.items (λ x. spells_shorty (letters_of q.strings q.types) (text_of q.strings x.shorty) x.result x.parameters ≡ true) proto_spelled;
    items = omega (arith, protos_few p parts.items, same_length p.protos, table_sum (written_proto r) (λ x. length x.parameters) p.protos u.protos (proto_key r.types.items p.protos) i.order.protos.items r.protos.items h.protos many.protos);
    fields = entries_all (written_field_name r) p.fields i.order.fields.items (λ f. slice_index (letters_of q.strings q.types) f.kind ≡ 86 → ⊥) field_some;
  }

pub texts_fit : (p : Program) (i : Interner) → IsShort p → IsInterned p i → Parts p → HasWidths p → TextsFit (written_by i p)
texts_fit p i few h parts widths = all_texts_fit p i few h parts widths
