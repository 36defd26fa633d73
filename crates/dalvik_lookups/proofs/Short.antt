-- A class of a well-formed program has few members.
use Rattle.std.proofs.Common.{◌≡◌, ℕ, suc, ◌-◌, ◌^◌, ◌<◌, ◌≤◌, Bool, true, false, true≢false, nat_eq, eqb, List, [], ◌∷◌, ◌++◌, map, length, Some, refl, sym, ap, ◌∙◌, arith, leb-true}
use Rattle.std.specs.Prelude.{◌&&◌, ◌||◌, slice_get, nat_le, nat_lt, if◌then◌else◌}
use Rattle.std.specs.List.{list_any, IsDistinct, AllByRecursion}
use Rattle.std.proofs.lemmas.List.Folds.{list_any-append}
use Rattle.std.proofs.lemmas.Map.Steps.{length-le_from_distinct_below}
use Rattle.program_model.specs.declared.program.Field.{Field}
use Rattle.program_model.specs.declared.program.Method.{Method}
use Rattle.program_model.specs.declared.program.Class.{Class}
use Rattle.program_model.specs.declared.program.Program.{Program}
use Rattle.program_model.specs.Distinct.{same_entry, differ_from, all_differ, own_field_key, own_method_key}
use Rattle.program_model.specs.TableRules.{tables_are_short, texts_are_short, entries_fit, entries_differ, tables_fit}
use Rattle.program_model.specs.MemberRules.{class_fits, types_of_class_fit, source_fits, fields_fit, methods_fit, field_fits, method_fits, fields_in_order, methods_in_order}
use Rattle.program_model.specs.ValueRules.{marks_fit}
use Rattle.program_model.specs.Neighbours.{neighbours}
use Rattle.program_model.specs.ProgramRules.{is_well_formed}
use Rattle.program_model.proofs.Formed.{formed}
use Rattle.std.specs.List.{list_all}
use Rattle.class_defs.proofs.Positions.{number_of}
use Rattle.class_defs.proofs.WellFormed.{and_left, and_right, all_at, sound, class_parts, few_classes, Sound, ClassFits}
use Rattle.dalvik_lookups.specs.Declaring.{AreFew}
use Rattle.dalvik_lookups.proofs.Interned.{got_short}

-- ---- entries that differ are few

left_false : (a b : Bool) → (a || b) ≡ false → a ≡ false
left_false false b e = refl
left_false true b e = e

right_false : (a b : Bool) → (a || b) ≡ false → b ≡ false
right_false false b e = e
right_false true b e = absurd (true≢false e)

or_false : (a : Bool) → (a || false) ≡ a
or_false true = refl
or_false false = refl

module _ {X : Type 0} (key : X → List ℕ) (name : X → ℕ) (apart : (x y : X) → same_entry key x y ≡ false → eqb (name x) (name y) ≡ false) where
  clear : (before : List X) (x : X) (xs : List X) → AllByRecursion (λ z. list_any (λ y. same_entry key y z) (before ++ x ∷ []) ≡ false) xs
      → AllByRecursion (λ z. list_any (λ y. same_entry key y z) before ≡ false) xs × AllByRecursion (λ n. eqb (name x) n ≡ false) (map name xs)
  clear before x [] h = (tt, tt)
  clear before x (z ∷ zs) h =
      let e : (list_any (λ y. same_entry key y z) before || (same_entry key x z || false)) ≡ false = sym (list_any-append (λ y. same_entry key y z) before (x ∷ [])) ∙ h.0 in
      let rest = clear before x zs h.1 in (
        (left_false (list_any (λ y. same_entry key y z) before) (same_entry key x z || false) e, rest.0),
        (apart x z (sym (or_false (same_entry key x z)) ∙ right_false (list_any (λ y. same_entry key y z) before) (same_entry key x z || false) e), rest.1),
      )

  spread : (before xs : List X) → differ_from key before xs ≡ true → AllByRecursion (λ z. list_any (λ y. same_entry key y z) before ≡ false) xs × IsDistinct eqb (map name xs)
  unfolding IsDistinct
  spread before [] h = (tt, tt)
  spread before (x ∷ xs) h = by_test (list_any (λ y. same_entry key y x) before) refl h (spread (before ++ x ∷ []) xs)
    where
      by_test : (b : Bool) → list_any (λ y. same_entry key y x) before ≡ b → (if b then false else differ_from key (before ++ x ∷ []) xs) ≡ true
          → (differ_from key (before ++ x ∷ []) xs ≡ true → AllByRecursion (λ z. list_any (λ y. same_entry key y z) (before ++ x ∷ []) ≡ false) xs × IsDistinct eqb (map name xs))
          → AllByRecursion (λ z. list_any (λ y. same_entry key y z) before ≡ false) (x ∷ xs) × IsDistinct eqb (map name (x ∷ xs))
      by_test true e g rest = absurd (true≢false (sym g))
      by_test false e g rest = let r = rest g in let c = clear before x xs r.0 in ((e, c.0), (c.1, r.1))

  below_all : (xs : List X) (n : ℕ) → ((i : ℕ) (x : X) → slice_get xs i ≡ Some x → name x < n) → (q : ℕ) → list_any (eqb q) (map name xs) ≡ true → q < n
  below_all [] n h q e = absurd (true≢false (sym e))
  below_all (x ∷ xs) n h q e = by_test (eqb q (name x)) refl e (below_all xs n (λ i y f. h (suc i) y f) q)
    where
      by_test : (b : Bool) → eqb q (name x) ≡ b → (b || list_any (eqb q) (map name xs)) ≡ true → (list_any (eqb q) (map name xs) ≡ true → q < n) → q < n
      by_test true f g rest = let s : q ≡ name x = number_of q (name x) f in let l = h 0 x refl in omega (arith, s, l)
      by_test false f g rest = rest g

  mapped : (xs : List X) → length (map name xs) ≡ length xs
  mapped [] = refl
  mapped (x ∷ xs) = ap suc (mapped xs)

  few : (xs : List X) (n : ℕ) → all_differ key xs ≡ true → ((i : ℕ) (x : X) → slice_get xs i ≡ Some x → name x < n) → length xs ≤ n
  few xs n d h = let l = length-le_from_distinct_below (map name xs) n ((spread [] xs d).1) (below_all xs n h) in omega (arith, l, mapped xs)

one_apart : (a b : ℕ) → (nat_eq a b && true) ≡ false → nat_eq a b ≡ false
one_apart a b e = by_test (nat_eq a b) e
  where
    by_test : (t : Bool) → (t && true) ≡ false → t ≡ false
    by_test true e = e
    by_test false e = refl

-- ---- the tables are short

short_tables : (p : Program) → tables_are_short p ≡ true → (length p.fields < 2 ^ 32 - 1) × (length p.methods < 2 ^ 32 - 1)
unfolding tables_are_short
short_tables p h =
    let r = and_right (nat_le (length p.types) 65535 && nat_le (length p.protos) 65535) (nat_le (length p.fields) 65536 && nat_le (length p.methods) 65536)
    (and_right (nat_lt (length p.strings) (2 ^ 32) && nat_lt (length p.classes) (2 ^ 32)) ((nat_le (length p.types) 65535 && nat_le (length p.protos) 65535) && (nat_le (length p.fields) 65536 && nat_le (length p.methods) 65536)) h) in
    let f : length p.fields ≤ 65536 = leb-true (length p.fields) 65536 (and_left (nat_le (length p.fields) 65536) (nat_le (length p.methods) 65536) r) in
    let m : length p.methods ≤ 65536 = leb-true (length p.methods) 65536 (and_right (nat_le (length p.fields) 65536) (nat_le (length p.methods) 65536) r) in
    (omega (arith, f), omega (arith, m))

short_of : (p : Program) → is_well_formed p ≡ true → tables_are_short p ≡ true
unfolding tables_fit
short_of p h = and_left (tables_are_short p) (texts_are_short p) (and_left (tables_are_short p && texts_are_short p) (entries_fit p && entries_differ p) (formed p h).tables)

few_names : (p : Program) → is_well_formed p ≡ true → (length p.fields < 2 ^ 32 - 1) × (length p.methods < 2 ^ 32 - 1)
few_names p h = short_tables p (short_of p h)

-- ---- the members of a class differ

members_differ : (p : Program) (c : Class) → class_fits p c ≡ true → (all_differ own_field_key c.fields ≡ true) × (all_differ own_method_key c.methods ≡ true)
unfolding class_fits fields_fit methods_fit
members_differ p c h =
    let two = and_right (types_of_class_fit p c && (source_fits p c.source && marks_fit p c.marks)) (fields_fit p c.name c.fields && methods_fit p c.name c.methods) h in
    let f = and_right (list_all (field_fits p c.name) c.fields) (list_all fields_in_order (neighbours c.fields) && all_differ own_field_key c.fields) (and_left (fields_fit p c.name c.fields) (methods_fit p c.name c.methods) two) in
    let m = and_right (list_all (method_fits p c.name) c.methods) (list_all (methods_in_order p) (neighbours c.methods) && all_differ own_method_key c.methods) (and_right (fields_fit p c.name c.fields) (methods_fit p c.name c.methods) two) in
    (and_right (list_all fields_in_order (neighbours c.fields)) (all_differ own_field_key c.fields) f, and_right (list_all (methods_in_order p) (neighbours c.methods)) (all_differ own_method_key c.methods) m)

pub few_methods : (p : Program) → is_well_formed p ≡ true → AreFew (λ c. c.methods) p.classes
few_methods p h = record { classes = few_classes p h; each = few_each }
  where
    few_each : (i : ℕ) (c : Class) → slice_get p.classes i ≡ Some c → length c.methods < 2 ^ 32
    few_each i c e =
        let s : Sound p = sound p h in
        let fits : ClassFits p c = class_parts p s i c e in
        let d = members_differ p c (all_at (class_fits p) p.classes i c s.classes_fit e) in
        let l = few own_method_key (λ (m : Method). m.name) (λ x y t. one_apart x.name y.name t) c.methods (length p.methods) d.1 (λ j f g. let m = fits.methods j f g in got_short p.methods f.name m.entry m.is) in
        let n = (few_names p h).1 in
        omega (arith, l, n)

pub few_fields : (p : Program) → is_well_formed p ≡ true → AreFew (λ c. c.fields) p.classes
few_fields p h = record { classes = few_classes p h; each = few_each }
  where
    few_each : (i : ℕ) (c : Class) → slice_get p.classes i ≡ Some c → length c.fields < 2 ^ 32
    few_each i c e =
        let s : Sound p = sound p h in
        let fits : ClassFits p c = class_parts p s i c e in
        let d = members_differ p c (all_at (class_fits p) p.classes i c s.classes_fit e) in
        let l = few own_field_key (λ (f : Field). f.name) (λ x y t. one_apart x.name y.name t) c.fields (length p.fields) d.0 (λ j f g. let m = fits.fields j f g in got_short p.fields f.name m.entry m.is) in
        let n = (few_names p h).0 in
        omega (arith, l, n)
