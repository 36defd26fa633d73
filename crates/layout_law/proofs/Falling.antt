-- The new numbers of used strings and types need no more room.
use Rattle.std.proofs.Common.{◌≡◌, ◌⊎◌, inl, inr, ℕ, suc, ◌^◌, ◌<◌, ◌≤◌, true, List, [], ◌∷◌, length, map, Some, refl, sym, ap, ◌∙◌, subst, arith}
use Rattle.std.specs.Prelude.{◌&&◌, nat_lt, nat_le, slice_get}
use Rattle.std.specs.List.{list_all}
use Rattle.std.specs.Option.{option_map}
use Rattle.std.specs.Ordering.{nat_cmp}
use Rattle.std.specs.Cmp.Lexicographic.{slice_cmp}
use Rattle.std.specs.declared.cmp.Ordering.TheVariants.{Less}
use Rattle.std.proofs.lemmas.Bool.{cases_lt, cases_eq, ltb-true, leb-true, and_parts}
use Rattle.std.proofs.lemmas.Option.{get_or_from_slice_get}
use Rattle.lemmas.proofs.Lists.{got_map, got_short, get_there, all_at}
use Rattle.lemmas.proofs.Options.{some_same}
use Rattle.dex_pools.specs.declared.interner.Interner.{Interner}
use Rattle.dex_pools.specs.declared.used.Named.TheVariants as named
use Rattle.dex_pools.specs.Finds.{Ascends}
use Rattle.dex_pools.specs.Interned.{IsInterned}
use Rattle.dex_pools.specs.Numbering.{used_in, string_key, type_key}
use Rattle.dex_pools.specs.Order.{is_less, list_below}
use Rattle.program_model.specs.TableRules.{type_fits, proto_fits, field_id_fits, method_id_fits, entries_fit, entries_differ, tables_are_short, texts_are_short, tables_fit}
use Rattle.program_model.specs.Texts.{has_string}
use Rattle.program_model.specs.declared.program.Program.{Program}
use Rattle.dex_defs.specs.Written.{new_string, new_type, written_by}
use Rattle.write_laws.specs.Ascending.{AllAscend}
use Rattle.write_laws.specs.Orders.{OrdersIn}
use Rattle.write_laws.specs.Used.{IsSet, IsShort}
use Rattle.write_laws.proofs.Carried.{carried, used_at, order_few}
use Rattle.write_laws.proofs.Closed.{used_closed}
use Rattle.write_laws.proofs.NamesOrdering.{AsMany, used_marked, orders_in}
use Rattle.write_laws.proofs.Owning.{order_set}
use Rattle.write_laws.proofs.Rising.{all_ascend}
use Rattle.layout_law.specs.Ascending.{TextsAscend}
use Rattle.layout_law.proofs.Ordered.{Text, less, never_both, texts_less, place_low, order_rises}

-- ---- what a well-formed program's tables are

pub tables_short : (p : Program) → tables_fit p ≡ true → IsShort p
unfolding tables_fit tables_are_short
tables_short p h =
    let t = and_parts (tables_are_short p && texts_are_short p) (entries_fit p && entries_differ p) h in
    let s = and_parts (tables_are_short p) (texts_are_short p) t.0 in
    let a = and_parts (nat_lt (length p.strings) (2 ^ 32) && nat_lt (length p.classes) (2 ^ 32)) ((nat_le (length p.types) 65535 && nat_le (length p.protos) 65535) && (nat_le (length p.fields) 65536 && nat_le (length p.methods) 65536)) s.0 in
    let b = and_parts (nat_lt (length p.strings) (2 ^ 32)) (nat_lt (length p.classes) (2 ^ 32)) a.0 in
    let c = and_parts (nat_le (length p.types) 65535 && nat_le (length p.protos) 65535) (nat_le (length p.fields) 65536 && nat_le (length p.methods) 65536) a.1 in
    let d = and_parts (nat_le (length p.types) 65535) (nat_le (length p.protos) 65535) c.0 in
    let e = and_parts (nat_le (length p.fields) 65536) (nat_le (length p.methods) 65536) c.1 in
    record {
      strings = ltb-true (length p.strings) (2 ^ 32) b.0;
      types = omega (arith, leb-true (length p.types) 65535 d.0);
      protos = omega (arith, leb-true (length p.protos) 65535 d.1);
      fields = omega (arith, leb-true (length p.fields) 65536 e.0);
      methods = omega (arith, leb-true (length p.methods) 65536 e.1);
    }

pub fitting : (p : Program) → tables_fit p ≡ true → entries_fit p ≡ true
unfolding tables_fit
fitting p h = (and_parts (entries_fit p) (entries_differ p) (and_parts (tables_are_short p && texts_are_short p) (entries_fit p && entries_differ p) h).1).0

differing : (p : Program) → tables_fit p ≡ true → entries_differ p ≡ true
unfolding tables_fit
differing p h = (and_parts (entries_fit p) (entries_differ p) (and_parts (tables_are_short p && texts_are_short p) (entries_fit p && entries_differ p) h).1).1

-- the string of a type is one of the table
pub type_string : (p : Program) → entries_fit p ≡ true → (n string : ℕ) → slice_get p.types n ≡ Some string → string < length p.strings
unfolding entries_fit
type_string p fit n string e =
    let a = and_parts (list_all (type_fits p) p.types) (list_all (proto_fits p) p.protos && (list_all (field_id_fits p) p.fields && list_all (method_id_fits p) p.methods)) fit in
    ltb-true string (length p.strings) (and_parts (has_string p string) _ (all_at (type_fits p) p.types n string a.0 e)).0

-- the text of a string that is there
text_is : (strings : List Text) (n : ℕ) (x : Text) → slice_get strings n ≡ Some x → string_key strings n ≡ x
text_is strings n x e = get_or_from_slice_get strings n x [] e

module _ (p : Program) (i : Interner) (tables : tables_fit p ≡ true) (texts : TextsAscend p) (h : IsInterned p i) where
  short : IsShort p
  short = tables_short p tables

  many : AsMany p (used_in p)
  many = used_marked p

  fit : OrdersIn p i
  fit = orders_in p i h

  rows : AllAscend (written_by i p)
  rows = all_ascend p i short h (fitting p tables) (differing p tables)

  abbrev HasText : ℕ → Type 0
  HasText n = IsSet (used_in p).strings n

  -- ---- strings

  text_before : Ascends list_below p.strings → (n m : ℕ) (x y : Text) → slice_get p.strings n ≡ Some x → slice_get p.strings m ≡ Some y → HasText n → HasText m → list_below x y ≡ true → n < m
  text_before a n m x y e d u v l = elim (cases_lt n m) [
    | inl k ↦ k
    | inr k ↦ elim (cases_eq m n) [
      | inl s ↦ (let same : y ≡ x = some_same y x (sym d ∙ ap (slice_get p.strings) s ∙ e) in
          absurd (never_both x y (less x y l) (subst (λ (w : Text). slice_cmp nat_cmp y w ≡ Less) same (subst (λ (w : Text). slice_cmp nat_cmp w y ≡ Less) (sym same) (less x y l)))))
      | inr c ↦ absurd (never_both x y (less x y l) (texts_less p.strings a m n y x (omega (arith, k, c)) d e))
    ]
  ]

  pub string_falls : (n : ℕ) → n < length p.strings → HasText n → (new_string i.numbers n ≤ n) ⊎ (new_string i.numbers n < 65536)
  string_falls n l set = by texts.strings
    where
      stands : slice_get i.order.strings.items (new_string i.numbers n) ≡ Some n
      stands = (used_at (used_in p).strings (string_key p.strings) (length p.strings) i.order.strings.items i.numbers.strings.items h.strings many.strings short.strings n l set).stands

      by : Ascends list_below p.strings ⊎ (length p.strings ≤ 65536) → (new_string i.numbers n ≤ n) ⊎ (new_string i.numbers n < 65536)
      by (inl a) = inl (place_low i.order.strings.items
          (order_rises (λ text. text) p.strings list_below HasText (text_before a) i.order.strings.items fit.strings
          (order_set (used_in p).strings (string_key p.strings) (length p.strings) i.order.strings.items i.numbers.strings.items h.strings) rows.strings)
          (new_string i.numbers n) n stands)
      by (inr few) =
          let s = got_short i.order.strings.items (new_string i.numbers n) n stands in
          let o = order_few (used_in p).strings (string_key p.strings) (length p.strings) i.order.strings.items i.numbers.strings.items h.strings in
          let m = many.strings in
          inr (omega (arith, s, o, m, few))

  -- a lower text has a lower new number
  new_text : (n : ℕ) (x : Text) → slice_get p.strings n ≡ Some x → HasText n → slice_get (written_by i p).strings (new_string i.numbers n) ≡ Some x
  new_text n x e set = carried (λ text. text) p.strings (used_in p).strings (string_key p.strings) i.order.strings.items i.numbers.strings.items h.strings fit.strings many.strings short.strings n set ∙ ap (option_map (λ text. text)) e

  lower : (n m : ℕ) (x y : Text) → slice_get p.strings n ≡ Some x → slice_get p.strings m ≡ Some y → HasText n → HasText m → slice_cmp nat_cmp x y ≡ Less → new_string i.numbers n < new_string i.numbers m
  lower n m x y e d u v l = elim (cases_lt (new_string i.numbers n) (new_string i.numbers m)) [
    | inl k ↦ k
    | inr k ↦ elim (cases_eq (new_string i.numbers m) (new_string i.numbers n)) [
      | inl s ↦ (let same : y ≡ x = some_same y x (sym (new_text m y d v) ∙ ap (slice_get (written_by i p).strings) s ∙ new_text n x e u) in
          absurd (never_both x y l (subst (λ (w : Text). slice_cmp nat_cmp y w ≡ Less) same (subst (λ (w : Text). slice_cmp nat_cmp w y ≡ Less) (sym same) l))))
      | inr c ↦ absurd (never_both x y l (texts_less (written_by i p).strings rows.strings (new_string i.numbers m) (new_string i.numbers n) y x (omega (arith, k, c)) (new_text m y d v) (new_text n x e u)))
    ]
  ]

  -- ---- types

  abbrev HasKind : ℕ → Type 0
  HasKind n = IsSet (used_in p).types n

  kind_before : (n m s t : ℕ) → slice_get p.types n ≡ Some s → slice_get p.types m ≡ Some t → HasKind n → HasKind m → nat_lt (new_string i.numbers s) (new_string i.numbers t) ≡ true → n < m
  kind_before n m s t e d u v l =
      let less_so = ltb-true (new_string i.numbers s) (new_string i.numbers t) l in
      elim (cases_lt n m) [
        | inl k ↦ k
        | inr k ↦ elim (cases_eq m n) [
          | inl same ↦ (let one : t ≡ s = some_same t s (sym d ∙ ap (slice_get p.types) same ∙ e) in
              let new_one : new_string i.numbers t ≡ new_string i.numbers s = ap (new_string i.numbers) one in
              absurd (omega (arith, less_so, new_one)))
          | inr c ↦ (let x = get_there p.strings s (type_string p (fitting p tables) n s e) in
              let y = get_there p.strings t (type_string p (fitting p tables) m t d) in
              let a = got_map (string_key p.strings) p.types n s e in
              let b = got_map (string_key p.strings) p.types m t d in
              let r : slice_cmp nat_cmp (string_key p.strings t) (string_key p.strings s) ≡ Less = texts_less (map (string_key p.strings) p.types) texts.types m n (string_key p.strings t) (string_key p.strings s) (omega (arith, k, c)) b a in
              let q : slice_cmp nat_cmp y.0 x.0 ≡ Less = subst (λ (w : Text). slice_cmp nat_cmp w x.0 ≡ Less) (text_is p.strings t y.0 y.1) (subst (λ (w : Text). slice_cmp nat_cmp (string_key p.strings t) w ≡ Less) (text_is p.strings s x.0 x.1) r) in
              let f = lower t s y.0 x.0 y.1 x.1 ((used_closed p short).types m t d v) ((used_closed p short).types n s e u) q in
              absurd (omega (arith, less_so, f)))
        ]
      ]

  pub type_falls : (n : ℕ) → n < length p.types → HasKind n → new_type i.numbers n ≤ n
  type_falls n l set = place_low i.order.types.items
      (order_rises (new_string i.numbers) p.types nat_lt HasKind kind_before i.order.types.items fit.types
      (order_set (used_in p).types (type_key i.numbers.strings.items p.types) (length p.types) i.order.types.items i.numbers.types.items h.types) rows.types)
      (new_type i.numbers n) n
      (used_at (used_in p).types (type_key i.numbers.strings.items p.types) (length p.types) i.order.types.items i.numbers.types.items h.types many.types short.types n l set).stands

-- ---- tables that ascend

texts_rise : (p : Program) → Ascends list_below p.strings → (ns : List ℕ) → ((k n : ℕ) → slice_get ns k ≡ Some n → n < length p.strings) → Ascends nat_lt ns → Ascends list_below (map (string_key p.strings) ns)
texts_rise p a [] inside r = tt
texts_rise p a (n ∷ []) inside r = tt
texts_rise p a (n ∷ m ∷ ns) inside r =
    let x = get_there p.strings n (inside 0 n refl) in
    let y = get_there p.strings m (inside 1 m refl) in
    let l = texts_less p.strings a n m x.0 y.0 (ltb-true n m r.0) x.1 y.1 in
    let k : slice_cmp nat_cmp (string_key p.strings n) (string_key p.strings m) ≡ Less = subst (λ (w : Text). slice_cmp nat_cmp w (string_key p.strings m) ≡ Less) (sym (text_is p.strings n x.0 x.1)) (subst (λ (w : Text). slice_cmp nat_cmp x.0 w ≡ Less) (sym (text_is p.strings m y.0 y.1)) l) in
    (ap is_less k, texts_rise p a (m ∷ ns) (λ j z e. inside (suc j) z e) r.1)

pub read_ascends : (p : Program) → tables_fit p ≡ true → Ascends list_below p.strings → Ascends nat_lt p.types → TextsAscend p
read_ascends p tables a b = record { strings = inl a; types = texts_rise p a p.types (type_string p (fitting p tables)) b }
