-- A class of a well-formed program has fewer methods than 32 bits number.
use Rattle.std.proofs.Common.{◌≡◌, ℕ, zero, suc, ◌^◌, ◌<◌, ◌≤◌, Bool, true, false, true≢false, eqb, List, [], ◌∷◌, length, Some, refl, sym, ap, ◌∙◌, subst, arith, eqb-true, leb-true}
use Rattle.std.specs.Prelude.{◌&&◌, ◌||◌, map, nat_le, nat_lt, slice_get}
use Rattle.std.specs.List.{list_all, list_any, AllByRecursion, IsDistinct}
use Rattle.std.proofs.lemmas.Map.Steps.{length-le_from_distinct_below}
use Rattle.lemmas.proofs.Bools.{untrue}
use Rattle.lemmas.proofs.Lists.{got_short, map_long}
use Rattle.lemmas.proofs.Options.{before_map}
use Rattle.lemmas.proofs.Lists.{get_map}
use Rattle.program_model.specs.Distinct.{all_differ, own_method_key}
use Rattle.program_model.specs.MemberRules.{class_fits, fields_fit, method_fits, methods_fit, methods_in_order, source_fits, types_of_class_fit}
use Rattle.program_model.specs.Neighbours.{neighbours}
use Rattle.program_model.specs.ProgramRules.{is_well_formed}
use Rattle.program_model.specs.TableRules.{entries_differ, entries_fit, tables_are_short, tables_fit, texts_are_short}
use Rattle.program_model.specs.ValueRules.{marks_fit}
use Rattle.program_model.specs.declared.program.Class.{Class}
use Rattle.program_model.specs.declared.program.Method.{Method}
use Rattle.program_model.specs.declared.program.Program.{Program}
use Rattle.program_model.proofs.Formed.{formed}
use Rattle.class_defs.proofs.WellFormed.{all_at, and_left, and_right, class_parts, Sound, sound}
use Rattle.name_bridge.proofs.Tables.{same_number}

-- a list of numbers that has each once
no_later : (x : ℕ) (xs : List ℕ) → ((k z : ℕ) → slice_get xs k ≡ Some z → x ≡ z → ⊥) → AllByRecursion (λ z. eqb x z ≡ false) xs
no_later x [] h = tt
no_later x (z ∷ zs) h = (untrue (eqb x z) (λ e. h 0 z refl (eqb-true x z e)), no_later x zs (λ k y e i. h (suc k) y e i))

distinct : (xs : List ℕ) → ((i j z : ℕ) → slice_get xs i ≡ Some z → slice_get xs j ≡ Some z → i ≡ j) → IsDistinct eqb xs
unfolding IsDistinct
distinct [] h = tt
distinct (x ∷ xs) h = (
  no_later x xs (λ k z e i. let a : zero ≡ suc k = h 0 (suc k) z (ap Some i) e in let f : ⊥ = omega (arith, a) in f),
  distinct xs (λ i j z e f. let a : suc i ≡ suc j = h (suc i) (suc j) z e f in omega (arith, a)),
)

below_all : (xs : List ℕ) (n : ℕ) → ((i z : ℕ) → slice_get xs i ≡ Some z → z < n) → (q : ℕ) → list_any (eqb q) xs ≡ true → q < n
below_all [] n h q e = absurd (true≢false (sym e))
below_all (x ∷ xs) n h q e = by (eqb q x) refl e (below_all xs n (λ i z f. h (suc i) z f) q)
  where
    by : (b : Bool) → eqb q x ≡ b → (b || list_any (eqb q) xs) ≡ true → (list_any (eqb q) xs ≡ true → q < n) → q < n
    by true f g rest = let s : q ≡ x = eqb-true q x f in let l = h 0 x refl in omega (arith, s, l)
    by false f g rest = rest g

methods_differ : (p : Program) (c : Class) → class_fits p c ≡ true → all_differ own_method_key c.methods ≡ true
unfolding class_fits methods_fit
methods_differ p c h =
    let two = and_right (types_of_class_fit p c && (source_fits p c.source && marks_fit p c.marks)) (fields_fit p c.name c.fields && methods_fit p c.name c.methods) h in
    let three = and_right (fields_fit p c.name c.fields) (methods_fit p c.name c.methods) two in
    and_right (list_all (methods_in_order p) (neighbours c.methods)) (all_differ own_method_key c.methods)
    (and_right (list_all (method_fits p c.name) c.methods) (list_all (methods_in_order p) (neighbours c.methods) && all_differ own_method_key c.methods) three)

short_table : (p : Program) → tables_are_short p ≡ true → length p.methods ≤ 65536
unfolding tables_are_short
short_table p h = leb-true (length p.methods) 65536 (and_right (nat_le (length p.fields) 65536) (nat_le (length p.methods) 65536)
    (and_right (nat_le (length p.types) 65535 && nat_le (length p.protos) 65535) (nat_le (length p.fields) 65536 && nat_le (length p.methods) 65536)
    (and_right (nat_lt (length p.strings) (2 ^ 32) && nat_lt (length p.classes) (2 ^ 32)) ((nat_le (length p.types) 65535 && nat_le (length p.protos) 65535) && (nat_le (length p.fields) 65536 && nat_le (length p.methods) 65536)) h)))

short_of : (p : Program) → is_well_formed p ≡ true → tables_are_short p ≡ true
unfolding tables_fit
short_of p h = and_left (tables_are_short p) (texts_are_short p) (and_left (tables_are_short p && texts_are_short p) (entries_fit p && entries_differ p) (formed p h).tables)

pub few_members : (p : Program) → is_well_formed p ≡ true → (i : ℕ) (c : Class) → slice_get p.classes i ≡ Some c → length c.methods < 2 ^ 32
few_members p h i c e =
    let s : Sound p = sound p h in
    let numbers : List ℕ = map (λ (m : Method). m.name) c.methods in
    let l : length numbers ≤ length p.methods = length-le_from_distinct_below numbers (length p.methods) (distinct numbers apart) (below_all numbers (length p.methods) short) in
    let k = short_table p (short_of p h) in
    let same : length numbers ≡ length c.methods = map_long (λ (m : Method). m.name) c.methods in
    omega (arith, l, k, same)
  where
    at : (j z : ℕ) → slice_get (map (λ (m : Method). m.name) c.methods) j ≡ Some z → (m : Method) × ((slice_get c.methods j ≡ Some m) × (m.name ≡ z))
    at j z f = before_map (λ (m : Method). m.name) (slice_get c.methods j) z (sym (get_map (λ (m : Method). m.name) c.methods j) ∙ f)

    apart : (j k z : ℕ) → slice_get (map (λ (m : Method). m.name) c.methods) j ≡ Some z → slice_get (map (λ (m : Method). m.name) c.methods) k ≡ Some z → j ≡ k
    apart j k z f g =
        let x = at j z f in
        let y = at k z g in
        same_number own_method_key c.methods j k x.0 y.0 (methods_differ p c (all_at (class_fits p) p.classes i c (sound p h).classes_fit e)) x.1.0 y.1.0 (ap (λ n. n ∷ []) (x.1.1 ∙ sym y.1.1))

    short : (j z : ℕ) → slice_get (map (λ (m : Method). m.name) c.methods) j ≡ Some z → z < length p.methods
    short j z f =
        let x = at j z f in
        let m = (class_parts p (sound p h) i c e).methods j x.0 x.1.0 in
        subst (λ n. n < length p.methods) x.1.1 (got_short p.methods x.0.name m.entry m.is)
