-- The place of a field among the fields of all classes, by numbers and by names.
use Rattle.std.proofs.Common.{◌≡◌, ℕ, zero, suc, ◌+◌, ◌*◌, ◌<◌, ◌≤◌, ◌^◌, Bool, true, false, true≢false, List, [], ◌∷◌, length, min, arith, ap, refl, sym, ◌∙◌}
use Rattle.std.specs.Prelude.{◌&&◌, Option, Some, None, cond, position, slice_get}
use Rattle.std.specs.Option.{option_map}
use Rattle.class_defs.proofs.Positions.{PlaceFits, place_entry, position_step}
use Rattle.class_defs.proofs.WellFormed.{and_left}
use Rattle.program_model.specs.ProgramRules.{is_well_formed}
use Rattle.program_model.specs.declared.program.Class.{Class}
use Rattle.program_model.specs.declared.program.Field.{Field}
use Rattle.program_model.specs.declared.program.Program.{Program}
use Rattle.dalvik_defs.specs.Names.{Text, field_eq, text_eq}
use Rattle.dalvik_defs.specs.Naming.{field_at, type_at}
use Rattle.dalvik_defs.specs.declared.names.FieldKey.{FieldKey}
use Rattle.dalvik_lookups.specs.Declaring.{AreFew}
use Rattle.dalvik_lookups.specs.Slots.{places_on, slot_in, slot_of, slots_after, slots_from}
use Rattle.dalvik_lookups.specs.Tables.{place_named}
use Rattle.dalvik_lookups.proofs.Interned.{got_short, text_same, text_sound}
use Rattle.dalvik_lookups.proofs.Short.{few_fields}
use Rattle.dalvik_state.specs.Views.{place_from, place_in_class, place_of_field}

-- ---- keys of fields

and_behind : (a b : Bool) → (a && b) ≡ true → b ≡ true
and_behind true b e = e
and_behind false b e = absurd (true≢false (sym e))

pub key_sound : (a b : FieldKey) → field_eq a b ≡ true → a ≡ b
key_sound a b e =
    let x : (text_eq a.class b.class && text_eq a.name b.name) ≡ true = and_left (text_eq a.class b.class && text_eq a.name b.name) (text_eq a.kind b.kind) e in
    ap (λ t. record { class = t; name = a.name; kind = a.kind }) (text_sound a.class b.class (and_left (text_eq a.class b.class) (text_eq a.name b.name) x))
    ∙ ap (λ t. record { class = b.class; name = t; kind = a.kind }) (text_sound a.name b.name (and_behind (text_eq a.class b.class) (text_eq a.name b.name) x))
    ∙ ap (λ t. record { class = b.class; name = b.name; kind = t }) (text_sound a.kind b.kind (and_behind (text_eq a.class b.class && text_eq a.name b.name) (text_eq a.kind b.kind) e))

pub key_itself : (k : FieldKey) → field_eq k k ≡ true
key_itself k = ap (λ b. b && text_eq k.name k.name && text_eq k.kind k.kind) (text_same k.class) ∙ ap (λ b. b && text_eq k.kind k.kind) (text_same k.name) ∙ text_same k.kind

-- ---- the places of the fields of classes, the first at a number

abbrev pub is_key : Program → FieldKey → Field → Bool
is_key p k f = field_eq (field_at p f.name) k

abbrev pub has_name : Program → Text → Class → Bool
has_name p t c = text_eq (type_at p c.name) t

-- the place after all fields of some classes
abbrev pub total : ℕ → List Class → ℕ
total n [] = n
total n (c ∷ cs) = total (n + length c.fields) cs

grows : (n : ℕ) (cs : List Class) → n ≤ total n cs
grows n [] = omega arith
grows n (c ∷ cs) = let h = grows (n + length c.fields) cs in omega (arith, h)

few_in_all : (n : ℕ) (cs : List Class) → ((i : ℕ) (c : Class) → slice_get cs i ≡ Some c → length c.fields < 2 ^ 32) → total n cs ≤ n + 4294967295 * length cs
few_in_all n [] h = omega arith
few_in_all n (c ∷ cs) h =
    let one = h 0 c refl in
    let more = few_in_all (n + length c.fields) cs (λ i d e. h (suc i) d e) in
    omega (arith, one, more)

-- no sum reaches the largest number
pub few_total : (p : Program) → is_well_formed p ≡ true → total 0 p.classes ≤ 18446744073709551615
few_total p w =
    let few = few_fields p w in
    let h = few_in_all 0 p.classes few.each in
    let l = few.classes in
    omega (arith, h, l)

-- the place of the first field of the name, in the first class of its class's name
module _ (p : Program) (k : FieldKey) where
  abbrev by_class : ℕ → Class → List Class → Bool → Option ℕ
  by_class start c cs b = elim b as (λ b. Option ℕ) [ true ↦ place_in_class p start k c | false ↦ place_from p (start + length c.fields) k cs ]

  pub found_from : (start : ℕ) (cs : List Class) (class place : ℕ) (c : Class) → total start cs ≤ 18446744073709551615 → position (has_name p k.class) cs ≡ Some class → slice_get cs class ≡ Some c → position (is_key p k) c.fields ≡ Some place
      → place_from p start k cs ≡ Some (slot_in (slots_from start cs) class place)
  found_from start [] class place c low e g h = absurd (cc)
  found_from start (d ∷ ds) class place c low e g h = by (λ i f s. found_from (start + length d.fields) ds i place c low f s h) (has_name p k.class d) refl class (sym (position_step (has_name p k.class) d ds) ∙ e) g
    where
      by : ((i : ℕ) → position (has_name p k.class) ds ≡ Some i → slice_get ds i ≡ Some c → place_from p (start + length d.fields) k ds ≡ Some (slot_in (slots_from (start + length d.fields) ds) i place)) → (b : Bool) → has_name p k.class d ≡ b → (i : ℕ) → cond b (Some 0) (option_map suc (position (has_name p k.class) ds)) ≡ Some i → slice_get (d ∷ ds) i ≡ Some c → place_from p start k (d ∷ ds) ≡ Some (slot_in (slots_from start (d ∷ ds)) i place)
      by rest true t zero f s =
          let same : d ≡ c = cc in
          let there = place_entry (is_key p k) c.fields place h in
          let inside : place < length c.fields = got_short c.fields place there.entry there.is in
          let more = grows (start + length d.fields) ds in
          let long : length d.fields ≡ length c.fields = ap (λ (x : Class). length x.fields) same in
          let fits : start + place ≡ min (start + place) 18446744073709551615 = omega (arith, inside, more, long, low) in
          ap (by_class start d ds) t ∙ ap (λ (x : Class). place_in_class p start k x) same ∙ ap (option_map (λ (i : ℕ). start + i)) h ∙ ap (λ (n : ℕ). Some n) fits
      by rest true t (suc i) f s = absurd (cc)
      by rest false t zero f s = no (position (has_name p k.class) ds) f
        where
          no : {X : Type 0} (o : Option ℕ) → option_map suc o ≡ Some 0 → X
          no None f = absurd (cc)
          no (Some j) f = absurd (let z : suc j ≡ 0 = cc in omega (arith, z))
      by rest false t (suc i) f s =
          let more = grows (start + length d.fields) ds in
          let fits : start + length d.fields ≡ places_on start (length d.fields) = omega (arith, more, low) in
          ap (by_class start d ds) t
          ∙ rest i (less (position (has_name p k.class) ds) f) s
          ∙ ap (λ (n : ℕ). Some (slot_in (slots_from n ds) i place)) fits
        where
          less : (o : Option ℕ) → option_map suc o ≡ Some (suc i) → o ≡ Some i
          less None f = absurd (cc)
          less (Some j) f = (let z : suc j ≡ suc i = cc in let same : j ≡ i = omega (arith, z) in ap (λ (n : ℕ). Some n) same)

-- by names the place is that by numbers
pub slot_named : (p : Program) → is_well_formed p ≡ true → (k : FieldKey) (class place : ℕ) (c : Class) → place_named p k.class ≡ Some class → slice_get p.classes class ≡ Some c → position (is_key p k) c.fields ≡ Some place
    → place_of_field p k ≡ Some (slot_of p class place)
slot_named p w k class place c e g h = found_from p k 0 p.classes class place c (few_total p w) e g h

-- ---- different fields have different places

abbrev pub placed_in : Program → ℕ → FieldKey → Class → List Class → Bool → Option ℕ
placed_in p start k c cs b = elim b as (λ b. Option ℕ) [ true ↦ place_in_class p start k c | false ↦ place_from p (start + length c.fields) k cs ]

-- a place in a class
pub record InClass (p : Program) (start : ℕ) (k : FieldKey) (c : Class) (s : ℕ) : Type 0 where
  pub index : ℕ
  pub is : start + index ≡ s
  pub found : position (is_key p k) c.fields ≡ Some index

in_class : (p : Program) (start : ℕ) (k : FieldKey) (c : Class) (s : ℕ) → place_in_class p start k c ≡ Some s → InClass p start k c s
in_class p start k c s e = by (position (is_key p k) c.fields) refl e
  where
    by : (o : Option ℕ) → position (is_key p k) c.fields ≡ o → option_map (λ (i : ℕ). start + i) o ≡ Some s → InClass p start k c s
    by None f g = absurd (cc)
    by (Some i) f g = record { index = i; is = (let z : start + i ≡ s = cc in z); found = f }

below_class : (p : Program) (start : ℕ) (k : FieldKey) (c : Class) (s : ℕ) → InClass p start k c s → s < start + length c.fields
below_class p start k c s h =
    let there = place_entry (is_key p k) c.fields h.index h.found in
    let inside = got_short c.fields h.index there.entry there.is in
    let is = h.is in
    omega (arith, inside, is)

pub from_start : (p : Program) (start : ℕ) (k : FieldKey) (cs : List Class) (s : ℕ) → place_from p start k cs ≡ Some s → start ≤ s
from_start p start k [] s e = absurd (cc)
from_start p start k (c ∷ cs) s e = by (from_start p (start + length c.fields) k cs s) (has_name p k.class c) e
  where
    by : (place_from p (start + length c.fields) k cs ≡ Some s → start + length c.fields ≤ s) → (b : Bool) → placed_in p start k c cs b ≡ Some s → start ≤ s
    by rest true f = let is = (in_class p start k c s f).is in omega (arith, is)
    by rest false f = let more = rest f in omega (arith, more)

pub before_end : (p : Program) (start : ℕ) (k : FieldKey) (cs : List Class) (s : ℕ) → place_from p start k cs ≡ Some s → s < total start cs
before_end p start k [] s e = absurd (cc)
before_end p start k (c ∷ cs) s e = by (before_end p (start + length c.fields) k cs s) (has_name p k.class c) e
  where
    by : (place_from p (start + length c.fields) k cs ≡ Some s → s < total (start + length c.fields) cs) → (b : Bool) → placed_in p start k c cs b ≡ Some s → s < total start (c ∷ cs)
    by rest true f = let low = below_class p start k c s (in_class p start k c s f) in let more = grows (start + length c.fields) cs in omega (arith, low, more)
    by rest false f = rest f

one_field : (p : Program) (start : ℕ) (k x : FieldKey) (c : Class) (s : ℕ) → InClass p start k c s → InClass p start x c s → x ≡ k
one_field p start k x c s f g =
    let a = place_entry (is_key p k) c.fields f.index f.found in
    let b = place_entry (is_key p x) c.fields g.index g.found in
    let i = f.is in let j = g.is in
    let same : g.index ≡ f.index = omega (arith, i, j) in
    let got : Some b.entry ≡ Some a.entry = sym b.is ∙ ap (slice_get c.fields) same ∙ a.is in
    let entry : b.entry ≡ a.entry = cc in
    sym (key_sound (field_at p b.entry.name) x b.passes) ∙ ap (λ (e : Field). field_at p e.name) entry ∙ key_sound (field_at p a.entry.name) k a.passes

pub one_place : (p : Program) (start : ℕ) (k x : FieldKey) (cs : List Class) (s : ℕ) → place_from p start k cs ≡ Some s → place_from p start x cs ≡ Some s → x ≡ k
one_place p start k x [] s e f = absurd (cc)
one_place p start k x (c ∷ cs) s e f = by (one_place p (start + length c.fields) k x cs s) (has_name p k.class c) (has_name p x.class c) e f
  where
    apart : {X : Type 0} (y z : FieldKey) → place_in_class p start y c ≡ Some s → place_from p (start + length c.fields) z cs ≡ Some s → X
    apart y z g h =
        let low = below_class p start y c s (in_class p start y c s g) in
        let high = from_start p (start + length c.fields) z cs s h in
        absurd (omega (arith, low, high))

    by : (place_from p (start + length c.fields) k cs ≡ Some s → place_from p (start + length c.fields) x cs ≡ Some s → x ≡ k) → (b d : Bool) → placed_in p start k c cs b ≡ Some s → placed_in p start x c cs d ≡ Some s → x ≡ k
    by rest true true g h = one_field p start k x c s (in_class p start k c s g) (in_class p start x c s h)
    by rest true false g h = apart k x g h
    by rest false true g h = apart x k h g
    by rest false false g h = rest g h

-- ---- no sum stays at the largest number

total_is : (n : ℕ) (cs : List Class) → total n cs ≤ 18446744073709551615 → slots_after n cs ≡ total n cs
total_is n [] h = refl
total_is n (c ∷ cs) h =
    let more = grows (n + length c.fields) cs in
    let fits : places_on n (length c.fields) ≡ n + length c.fields = omega (arith, more, h) in
    ap (λ (m : ℕ). slots_after m cs) fits ∙ total_is (n + length c.fields) cs h

pub slot_inside : (p : Program) → is_well_formed p ≡ true → (k : FieldKey) (s : ℕ) → place_of_field p k ≡ Some s → s < slots_after 0 p.classes
slot_inside p w k s e =
    let low = before_end p 0 k p.classes s e in
    let same = total_is 0 p.classes (few_total p w) in
    omega (arith, low, same)
