-- Fields that ascend as those of a file have new numbers that rise with the old ones.
use Rattle.std.proofs.Common.{◌≡◌, ◌<◌, ◌≤◌, ◌⊎◌, inl, inr, ℕ, zero, suc, Bool, true, false, List, [], ◌∷◌, length, refl, sym, ap, subst, ◌∙◌, arith, Some, ltb-true, lt-ltb}
use Rattle.std.specs.Prelude.{◌&&◌, ◌||◌, nat_eq, nat_lt, slice_get, take}
use Rattle.std.specs.Option.{option_map}
use Rattle.std.specs.Ordering.{nat_cmp, ordering_reverse}
use Rattle.std.specs.Cmp.Lexicographic.{slice_cmp}
use Rattle.std.specs.declared.cmp.Ordering.{Ordering}
use Rattle.std.specs.declared.cmp.Ordering.TheVariants.{Less, Equal, Greater}
use Rattle.std.proofs.lemmas.Bool.{eq-eqb, eqb-true}
use Rattle.std.proofs.lemmas.Cmp.{nat_list_cmp_total}
use Rattle.lemmas.proofs.Bools.{and_both, and_left, and_right, or_cases, or_left, or_right}
use Rattle.lemmas.proofs.Lists.{all_at, get_there}
use Rattle.lemmas.proofs.Options.{some_same}
use Rattle.dex_pools.specs.declared.interner.Interner.{Interner}
use Rattle.dex_pools.specs.declared.used.Named.TheVariants as named
use Rattle.dex_pools.specs.Finds.{Ascends}
use Rattle.dex_pools.specs.Interned.{IsInterned}
use Rattle.dex_pools.specs.Numbering.{used_in}
use Rattle.dex_pools.specs.Order.{is_less, list_below, three_below, field_below}
use Rattle.program_model.specs.declared.pass.Renumber.{Renumber}
use Rattle.program_model.specs.declared.pools.FieldName.{FieldName}
use Rattle.program_model.specs.declared.program.Program.{Program}
use Rattle.program_model.specs.ProgramRules.{is_well_formed}
use Rattle.program_model.specs.TableRules.{type_fits, field_id_fits}
use Rattle.program_model.specs.Texts.{has_string, has_type}
use Rattle.class_defs.proofs.WellFormed.{Sound, sound}
use Rattle.dex_defs.specs.Written.{new_string, new_type, new_field, written_field_name, written_by}
use Rattle.write_laws.specs.Ascending.{AllAscend}
use Rattle.write_laws.specs.Used.{IsUsed, IsShort, IsClosed, UsesField}
use Rattle.write_laws.proofs.Closed.{used_closed}
use Rattle.write_laws.proofs.Rising.{all_ascend}
use Rattle.write_laws.proofs.Tabled.{short_of, is_short}
use Rattle.written_file.proofs.Fit.{Parts, parts_of}
use Rattle.written_file.proofs.In.{in_got, all_in}
use Rattle.written_file.proofs.Places.{below_tells}
use Rattle.written_kept.specs.Rising.{FieldsRise, FieldsAscend}
use Rattle.class_defs.specs.ClassGraph.{IsTwice, IsAncestor}
use Rattle.dex_write.specs.Order.{IsOrder}
use Rattle.written_kept.proofs.Whole.{formed_where_rising}
use Rattle.written_kept.proofs.Kept.{string_got, type_got, field_got, one_text, one_kind, one_field}

-- ---- lists that ascend

record IsOrdering {X : Type 0} (below : X → X → Bool) : Type 0 where
  trans : (x y z : X) → below x y ≡ true → below y z ≡ true → below x z ≡ true
  asym : (x y : X) → below x y ≡ true → below y x ≡ true → ⊥

module _ {X : Type 0} (below : X → X → Bool) (o : IsOrdering below) where
  first_below : (x : X) (xs : List X) (k : ℕ) (y : X) → Ascends below (x ∷ xs) → slice_get xs k ≡ Some y → below x y ≡ true
  first_below x [] k y a e = absurd cc
  first_below x (z ∷ zs) zero y a e = subst (λ (t : X). below x t ≡ true) (some_same z y e) a.0
  first_below x (z ∷ zs) (suc k) y a e = o.trans x z y a.0 (first_below z zs k y a.1 e)

  tail : (x : X) (xs : List X) → Ascends below (x ∷ xs) → Ascends below xs
  tail x [] a = tt
  tail x (y ∷ ys) a = a.1

  pair_below : (xs : List X) (j k : ℕ) (x y : X) → Ascends below xs → slice_get xs j ≡ Some x → slice_get xs k ≡ Some y → j < k → below x y ≡ true
  pair_below [] j k x y a e f lt = absurd cc
  pair_below (z ∷ zs) zero zero x y a e f lt = absurd (omega (arith, lt))
  pair_below (z ∷ zs) zero (suc k) x y a e f lt = subst (λ (t : X). below t y ≡ true) (some_same z x e) (first_below z zs k y a f)
  pair_below (z ∷ zs) (suc j) zero x y a e f lt = absurd (omega (arith, lt))
  pair_below (z ∷ zs) (suc j) (suc k) x y a e f lt = pair_below zs j k x y (tail z zs a) e f (omega (arith, lt))

  -- places of things in order rise with them
  places_rise : (ys : List X) (m n : ℕ) (x y : X) → Ascends below ys → slice_get ys m ≡ Some x → slice_get ys n ≡ Some y → below x y ≡ true → (m ≡ n → ⊥) → m < n
  places_rise ys m n x y a e f lt other = by (below_tells m n) (below_tells n m)
    where
      by : ((nat_lt m n ≡ true) × (m < n)) ⊎ ((nat_lt m n ≡ false) × (n ≤ m)) → ((nat_lt n m ≡ true) × (n < m)) ⊎ ((nat_lt n m ≡ false) × (m ≤ n)) → m < n
      by (inl s) t = s.1
      by (inr s) (inl t) = absurd (o.asym x y lt (pair_below ys n m y x a f e t.1))
      by (inr s) (inr t) = absurd (other (omega (arith, s.1, t.1)))

-- ---- the three orders

numbers_order : IsOrdering nat_lt
numbers_order = record {
  trans = λ x y z s t. let a : x < y = ltb-true x y s in let b : y < z = ltb-true y z t in lt-ltb x z (omega (arith, a, b));
  asym = λ x y s t. let a : x < y = ltb-true x y s in let b : y < x = ltb-true y x t in absurd (omega (arith, a, b));
}

is_lower : (o : Ordering) → is_less o ≡ true → o ≡ Less
is_lower Less h = refl
is_lower Equal h = absurd cc
is_lower Greater h = absurd cc

both_ways : (x y : List ℕ) → slice_cmp nat_cmp x y ≡ Less → slice_cmp nat_cmp y x ≡ Less → ⊥
both_ways x y a b = let s : Less ≡ Greater = sym a ∙ (nat_list_cmp_total.antisymm x y ∙ ap ordering_reverse b) in absurd cc

texts_order : IsOrdering list_below
texts_order = record {
  trans = λ x y z s t. ap is_less (nat_list_cmp_total.trans x y z (is_lower (slice_cmp nat_cmp x y) s) (is_lower (slice_cmp nat_cmp y z) t));
  asym = λ x y s t. both_ways x y (is_lower (slice_cmp nat_cmp x y) s) (is_lower (slice_cmp nat_cmp y x) t);
}

abbrev Two : ℕ → ℕ → ℕ → ℕ → Type 0
Two b c y z = (b < y) ⊎ ((b ≡ y) × (c < z))

abbrev Three : ℕ → ℕ → ℕ → ℕ → ℕ → ℕ → Type 0
Three a b c x y z = (a < x) ⊎ ((a ≡ x) × Two b c y z)

two_to : (b c y z : ℕ) → (nat_lt b y || (nat_eq b y && nat_lt c z)) ≡ true → Two b c y z
two_to b c y z h = elim (or_cases (nat_lt b y) (nat_eq b y && nat_lt c z) h) [
  | inl l ↦ inl (ltb-true b y l)
  | inr s ↦ inr (eqb-true b y (and_left (nat_eq b y) (nat_lt c z) s), ltb-true c z (and_right (nat_eq b y) (nat_lt c z) s))
]

three_to : (a b c x y z : ℕ) → three_below a b c x y z ≡ true → Three a b c x y z
three_to a b c x y z h = elim (or_cases (nat_lt a x) (nat_eq a x && (nat_lt b y || (nat_eq b y && nat_lt c z))) h) [
  | inl l ↦ inl (ltb-true a x l)
  | inr s ↦ inr (eqb-true a x (and_left (nat_eq a x) (nat_lt b y || (nat_eq b y && nat_lt c z)) s), two_to b c y z (and_right (nat_eq a x) (nat_lt b y || (nat_eq b y && nat_lt c z)) s))
]

two_from : (b c y z : ℕ) → Two b c y z → (nat_lt b y || (nat_eq b y && nat_lt c z)) ≡ true
two_from b c y z (inl l) = or_left (nat_lt b y) (nat_eq b y && nat_lt c z) (lt-ltb b y l)
two_from b c y z (inr s) = or_right (nat_lt b y) (nat_eq b y && nat_lt c z) (and_both (nat_eq b y) (nat_lt c z) (eq-eqb b y s.0) (lt-ltb c z s.1))

three_from : (a b c x y z : ℕ) → Three a b c x y z → three_below a b c x y z ≡ true
three_from a b c x y z (inl l) = or_left (nat_lt a x) (nat_eq a x && (nat_lt b y || (nat_eq b y && nat_lt c z))) (lt-ltb a x l)
three_from a b c x y z (inr s) = or_right (nat_lt a x) (nat_eq a x && (nat_lt b y || (nat_eq b y && nat_lt c z))) (and_both (nat_eq a x) (nat_lt b y || (nat_eq b y && nat_lt c z)) (eq-eqb a x s.0) (two_from b c y z s.1))

two_trans : (b c y z v w : ℕ) → Two b c y z → Two y z v w → Two b c v w
two_trans b c y z v w (inl l) (inl m) = inl (omega (arith, l, m))
two_trans b c y z v w (inl l) (inr m) = inl (omega (arith, l, m.0))
two_trans b c y z v w (inr l) (inl m) = inl (omega (arith, l.0, m))
two_trans b c y z v w (inr l) (inr m) = inr (omega (arith, l.0, m.0), omega (arith, l.1, m.1))

three_trans : (a b c x y z u v w : ℕ) → Three a b c x y z → Three x y z u v w → Three a b c u v w
three_trans a b c x y z u v w (inl l) (inl m) = inl (omega (arith, l, m))
three_trans a b c x y z u v w (inl l) (inr m) = inl (omega (arith, l, m.0))
three_trans a b c x y z u v w (inr l) (inl m) = inl (omega (arith, l.0, m))
three_trans a b c x y z u v w (inr l) (inr m) = inr (omega (arith, l.0, m.0), two_trans b c y z v w l.1 m.1)

two_asym : (b c y z : ℕ) → Two b c y z → Two y z b c → ⊥
two_asym b c y z (inl l) (inl m) = absurd (omega (arith, l, m))
two_asym b c y z (inl l) (inr m) = absurd (omega (arith, l, m.0))
two_asym b c y z (inr l) (inl m) = absurd (omega (arith, l.0, m))
two_asym b c y z (inr l) (inr m) = absurd (omega (arith, l.1, m.1))

three_asym : (a b c x y z : ℕ) → Three a b c x y z → Three x y z a b c → ⊥
three_asym a b c x y z (inl l) (inl m) = absurd (omega (arith, l, m))
three_asym a b c x y z (inl l) (inr m) = absurd (omega (arith, l, m.0))
three_asym a b c x y z (inr l) (inl m) = absurd (omega (arith, l.0, m))
three_asym a b c x y z (inr l) (inr m) = two_asym b c y z l.1 m.1

fields_order : IsOrdering field_below
fields_order = record {
  trans = λ f g k s t. three_from f.class f.name f.kind k.class k.name k.kind (three_trans f.class f.name f.kind g.class g.name g.kind k.class k.name k.kind (three_to f.class f.name f.kind g.class g.name g.kind s) (three_to g.class g.name g.kind k.class k.name k.kind t));
  asym = λ f g s t. three_asym f.class f.name f.kind g.class g.name g.kind (three_to f.class f.name f.kind g.class g.name g.kind s) (three_to g.class g.name g.kind f.class f.name f.kind t);
}

taken : (k : ℕ) (xs : List (List ℕ)) (n : ℕ) (t : List ℕ) → n < k → slice_get xs n ≡ Some t → slice_get (take k xs) n ≡ Some t
taken zero xs n t lt e = absurd (omega (arith, lt))
taken (suc k) [] n t lt e = e
taken (suc k) (x ∷ xs) zero t lt e = e
taken (suc k) (x ∷ xs) (suc n) t lt e = taken k xs n t (omega (arith, lt)) e

-- ---- new numbers

module _ (p : Program) (i : Interner) (formed : is_well_formed p ≡ true) (h : IsInterned p i) (old : FieldsAscend p) where
  abbrev q : Program
  q = written_by i p

  abbrev r : Renumber
  r = i.numbers

  parts : Parts p
  parts = parts_of p formed

  few : IsShort p
  few = is_short p (short_of p parts.short)

  fits : Sound p
  fits = sound p formed

  closed : IsClosed p (used_in p)
  closed = used_closed p few

  news : AllAscend q
  news = all_ascend p i few h parts.entries parts.differ

  differ_there : (m n : ℕ) → m < n → m ≡ n → ⊥
  differ_there m n lt e = absurd (omega (arith, lt, e))

  -- a string of those that ascend
  record Low (n : ℕ) : Type 0 where
    used : IsUsed (used_in p) (named.Text n)
    own : has_string p n ≡ true
    low : n < old.strings

  strings_rise : (a b : ℕ) → Low a → Low b → a < b → new_string r a < new_string r b
  strings_rise a b u v lt =
      let x = get_there p.strings a (ltb-true a (length p.strings) u.own) in
      let y = get_there p.strings b (ltb-true b (length p.strings) v.own) in
      places_rise list_below texts_order q.strings (new_string r a) (new_string r b) x.0 y.0 news.strings
      (string_got p i few h a u.used ∙ ap (option_map (λ t. t)) x.1) (string_got p i few h b v.used ∙ ap (option_map (λ t. t)) y.1)
      (pair_below list_below texts_order (take old.strings p.strings) a b x.0 y.0 old.ascend (taken old.strings p.strings a x.0 u.low x.1) (taken old.strings p.strings b y.0 v.low y.1) lt)
      (λ e. differ_there a b lt (one_text p i few h a b u.used v.used u.own v.own e))

  record Kind (n : ℕ) : Type 0 where
    used : IsUsed (used_in p) (named.Kind n)
    own : has_type p n ≡ true

  string_of : (n s : ℕ) → Kind n → slice_get p.types n ≡ Some s → Low s
  string_of n s u e = record {
    used = closed.types n s e u.used;
    own = and_left (has_string p s) _ (all_at (type_fits p) p.types n s fits.types_fit e);
    low = all_in (λ s. s < old.strings) s p.types old.of_types (in_got p.types n s e);
  }

  types_rise : (a b : ℕ) → Kind a → Kind b → a < b → new_type r a < new_type r b
  types_rise a b u v lt =
      let x = get_there p.types a (ltb-true a (length p.types) u.own) in
      let y = get_there p.types b (ltb-true b (length p.types) v.own) in
      let up : x.0 < y.0 = ltb-true x.0 y.0 (pair_below nat_lt numbers_order p.types a b x.0 y.0 old.types x.1 y.1 lt) in
      places_rise nat_lt numbers_order q.types (new_type r a) (new_type r b) (new_string r x.0) (new_string r y.0) news.types
      (type_got p i few h a u.used ∙ ap (option_map (new_string r)) x.1) (type_got p i few h b v.used ∙ ap (option_map (new_string r)) y.1)
      (lt-ltb (new_string r x.0) (new_string r y.0) (strings_rise x.0 y.0 (string_of a x.0 u x.1) (string_of b y.0 v y.1) up))
      (λ e. differ_there a b lt (one_kind p i few h a b u.used v.used u.own v.own e))

  record Parted (x : FieldName) : Type 0 where
    class : Kind x.class
    kind : Kind x.kind
    name : Low x.name

  parted : (n : ℕ) (x : FieldName) → IsUsed (used_in p) (named.Field n) → slice_get p.fields n ≡ Some x → Parted x
  parted n x u e =
      let t = all_at (field_id_fits p) p.fields n x fits.fields_fit e in
      let a = has_type p x.class in
      let b = has_type p x.kind in
      let c = has_string p x.name in
      let left = and_left (a && b) _ t in
      let right = and_right (a && b) _ t in
      let uses : UsesField (used_in p) x = closed.fields n x e u in
      record {
        class = record { used = uses.class; own = and_left a b left };
        kind = record { used = uses.kind; own = and_right a b left };
        name = record { used = uses.name; own = and_left c _ right; low = all_in (λ (f : FieldName). f.name < old.strings) x p.fields old.of_fields (in_got p.fields n x e) };
      }

  below_now : (x y : FieldName) → Parted x → Parted y → field_below x y ≡ true → field_below (written_field_name r x) (written_field_name r y) ≡ true
  below_now x y u v t = three_from (new_type r x.class) (new_string r x.name) (new_type r x.kind) (new_type r y.class) (new_string r y.name) (new_type r y.kind) (by (three_to x.class x.name x.kind y.class y.name y.kind t))
    where
      by_name : Two x.name x.kind y.name y.kind → Two (new_string r x.name) (new_type r x.kind) (new_string r y.name) (new_type r y.kind)
      by_name (inl l) = inl (strings_rise x.name y.name u.name v.name l)
      by_name (inr s) = inr (ap (new_string r) s.0, types_rise x.kind y.kind u.kind v.kind s.1)

      by : Three x.class x.name x.kind y.class y.name y.kind → Three (new_type r x.class) (new_string r x.name) (new_type r x.kind) (new_type r y.class) (new_string r y.name) (new_type r y.kind)
      by (inl l) = inl (types_rise x.class y.class u.class v.class l)
      by (inr s) = inr (ap (new_type r) s.0, by_name s.1)

  fields_up : (m n : ℕ) → IsUsed (used_in p) (named.Field m) → IsUsed (used_in p) (named.Field n) → m < n → n < length p.fields → new_field r m < new_field r n
  fields_up m n u v lt within =
      let x = get_there p.fields m (omega (arith, lt, within)) in
      let y = get_there p.fields n within in
      places_rise field_below fields_order q.fields (new_field r m) (new_field r n) (written_field_name r x.0) (written_field_name r y.0) news.fields
      (field_got p i few h m u ∙ ap (option_map (written_field_name r)) x.1) (field_got p i few h n v ∙ ap (option_map (written_field_name r)) y.1)
      (below_now x.0 y.0 (parted m x.0 u x.1) (parted n y.0 v y.1) (pair_below field_below fields_order p.fields m n x.0 y.0 old.fields x.1 y.1 lt))
      (λ e. differ_there m n lt (one_field p i few h m n u v (lt-ltb m (length p.fields) (omega (arith, lt, within))) (lt-ltb n (length p.fields) within) e))

pub fields_rise : (p : Program) (i : Interner) → is_well_formed p ≡ true → IsInterned p i → FieldsAscend p → FieldsRise p i
fields_rise p i formed h old = record { rise = fields_up p i formed h old }

pub written_formed : (p : Program) (i : Interner) (order : List ℕ) → is_well_formed p ≡ true → ((class : ℕ) → IsTwice p class → ⊥) → ((class : ℕ) → IsAncestor p class class → ⊥) → IsInterned p i → IsOrder p order → FieldsAscend p → is_well_formed (written_by i p) ≡ true
written_formed p i order formed single grounded h ordering old = formed_where_rising p i order formed single grounded h ordering (fields_rise p i formed h old)
