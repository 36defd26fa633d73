-- The tables of a well-formed program pass when they are looked over.
use Rattle.std.proofs.Common.{◌≡◌, ℕ, zero, suc, ◌<◌, ◌≤◌, ◌^◌, Bool, true, false, true≢false, nat_eq, List, [], ◌∷◌, map, length, Option, Some, None, ◌⊎◌, inl, inr, refl, sym, ap, ◌∙◌, arith, leb-true}
use Rattle.std.specs.Prelude.{◌&&◌, not, cond, slice_get, slice_index_or, position, option_and_then, slice_index, sum_by, codes, nat_lt, nat_le, is_ok}
use Rattle.std.specs.List.{list_all}
use Rattle.std.specs.Option.{option_map}
use Rattle.std.proofs.Math.Nat.{min-eq_left}
use Rattle.class_defs.proofs.Positions.{number_test, number_of, entry_at, place_entry, PlaceFits, place_first, FirstPlace}
use Rattle.class_defs.proofs.WellFormed.{and_left, and_right, all_at, sound, below, class_parts, few_classes}
use Rattle.class_defs.specs.ClassGraph.{IsTwice}
use Rattle.class_defs.specs.Members.{is_interface, string_is}
use Rattle.class_defs.specs.Places.{super_place}
use Rattle.dex_base.specs.Descriptor.{descriptor_of}
use Rattle.program_model.specs.Distinct.{text_key, type_key}
use Rattle.program_model.specs.Lookups.{class_place}
use Rattle.program_model.specs.MemberRules.{class_fits, types_of_class_fit, is_class_type, is_object, source_fits, fields_fit, methods_fit, has_flag, words_of}
use Rattle.program_model.specs.ProgramRules.{is_well_formed}
use Rattle.program_model.proofs.Formed.{formed}
use Rattle.program_model.specs.TableRules.{tables_fit, tables_are_short, texts_are_short, entries_fit, entries_differ, type_fits}
use Rattle.program_model.specs.Texts.{has_string, has_type, is_class, letter_of, first_unit, string_text, type_text, text_or_none}
use Rattle.program_model.specs.ValueRules.{marks_fit}
use Rattle.program_model.specs.declared.pools.MethodName.{MethodName}
use Rattle.program_model.specs.declared.pools.Proto.{Proto}
use Rattle.program_model.specs.declared.program.Class.{Class}
use Rattle.program_model.specs.declared.program.Program.{Program}
use Rattle.verify.specs.Building.{AreChainsOf, class_above}
use Rattle.verify.specs.Chains.{above}
use Rattle.verify.specs.Descriptors.{same_text, without_brackets, shape_of_text, short, first_number, is_class_of, class_named, is_item_of, item_named, item_number, number_or, is_plain_class, plain_at, base_shape, shape_named, object_text, AreTypesOf, SaysTexts}
use Rattle.verify.specs.Flow.{greatest}
use Rattle.verify.specs.Kinds.{same_number}
use Rattle.verify.specs.Meeting.{stands, stands_too, is_settled_class, is_base, has_objects, AreSound}
use Rattle.verify.specs.Shapes.{is_plain, is_reference, place_of}
use Rattle.verify.specs.Types.{shape_in, item_shape, item_of_class}
use Rattle.verify.specs.declared.shapes.Shape.{Shape}
use Rattle.verify.specs.declared.shapes.Shape.TheVariants as shape
use Rattle.verify.specs.declared.tables.Tables.{Tables}
use Rattle.verify.proofs.Descriptions.{text_same, text_is}
use Rattle.verify.proofs.Distinct.{same_entries}

-- ---- lists

got_short : {X : Type 0} (xs : List X) (i : ℕ) (x : X) → slice_get xs i ≡ Some x → i < length xs
got_short [] i x e = cc
got_short (y ∷ ys) zero x e = omega arith
got_short (y ∷ ys) (suc i) x e = let h = got_short ys i x e in omega (arith, h)

got_map : {X Y : Type 0} (f : X → Y) (xs : List X) (i : ℕ) (x : X) → slice_get xs i ≡ Some x → slice_get (map f xs) i ≡ Some (f x)
got_map f [] i x e = cc
got_map f (y ∷ ys) zero x e = let s : y ≡ x = cc in ap (λ z. Some (f z)) s
got_map f (y ∷ ys) (suc i) x e = got_map f ys i x e

index_map : {X Y : Type 0} (f : X → Y) (xs : List X) (i : ℕ) (x : X) (d : Y) → slice_get xs i ≡ Some x → slice_index_or (map f xs) i d ≡ f x
index_map f [] i x d e = cc
index_map f (y ∷ ys) zero x d e = let s : y ≡ x = cc in ap f s
index_map f (y ∷ ys) (suc i) x d e = index_map f ys i x d e

map_all : {X Y : Type 0} (P : Y → Type 0) (f : X → Y) (xs : List X) (d : Y) → ((x : X) → P (f x)) → P d → (i : ℕ) → P (slice_index_or (map f xs) i d)
map_all P f [] d h e i = e
map_all P f (x ∷ xs) d h e zero = h x
map_all P f (x ∷ xs) d h e (suc i) = map_all P f xs d h e i

length_map : {X Y : Type 0} (f : X → Y) (xs : List X) → length (map f xs) ≡ length xs
length_map f [] = refl
length_map f (x ∷ xs) = ap suc (length_map f xs)

text_got : (ts : List (List ℕ)) (i : ℕ) → i < length ts → slice_get ts i ≡ Some (slice_index_or ts i [])
text_got [] i h = absurd (omega (arith, h))
text_got (t ∷ ts) zero h = refl
text_got (t ∷ ts) (suc i) h = text_got ts i (omega (arith, h))

low : (n : ℕ) → n ≤ greatest → short n ≡ n
low n le = min-eq_left le

-- what the first number of a list is
record Numbered {X : Type 0} (test : X → Bool) (xs : List X) (n : ℕ) : Type 0 where
  entry : X
  is : slice_get xs n ≡ Some entry
  passes : test entry ≡ true

numbered : {X : Type 0} (test : X → Bool) (xs : List X) (n : ℕ) → length xs ≤ greatest → first_number test xs ≡ Some n → Numbered test xs n
numbered test xs n few e = by (position test xs) refl e
  where
    by : (o : Option ℕ) → position test xs ≡ o → option_map short o ≡ Some n → Numbered test xs n
    by None f g = cc
    by (Some i) f g =
        let r : PlaceFits test xs i = place_entry test xs i f in
        let lt = got_short xs i r.entry r.is in
        let s : short i ≡ n = cc in
        let t : i ≡ n = sym (low i (omega (arith, lt, few))) ∙ s in
        record { entry = r.entry; is = ap (slice_get xs) (sym t) ∙ r.is; passes = r.passes }

-- one that passes comes no later than itself
record First {X : Type 0} (test : X → Bool) (xs : List X) (i : ℕ) : Type 0 where
  number : ℕ
  is : first_number test xs ≡ Some number
  entry : X
  got : slice_get xs number ≡ Some entry
  passes : test entry ≡ true
  first : number ≤ i

first_of : {X : Type 0} (test : X → Bool) (xs : List X) (i : ℕ) (x : X) → length xs ≤ greatest → slice_get xs i ≡ Some x → test x ≡ true → First test xs i
first_of test xs i x few e h =
    let f : FirstPlace test xs i = place_first test xs i x e h in
    let r : PlaceFits test xs f.place = place_entry test xs f.place f.is in
    let lt = got_short xs f.place r.entry r.is in
    record {
      number = f.place;
      is = ap (option_map short) f.is ∙ ap (λ n. Some n) (low f.place (omega (arith, lt, few)));
      entry = r.entry;
      got = r.is;
      passes = r.passes;
      first = elim f.first [ inl l ↦ omega (arith, l) | inr q ↦ omega (arith, q) ];
    }

-- ---- a well-formed program

tables_of : (p : Program) → is_well_formed p ≡ true → tables_fit p ≡ true
tables_of p h = (formed p h).tables

lengths_of : (p : Program) → tables_fit p ≡ true → tables_are_short p ≡ true
unfolding tables_fit
lengths_of p h = and_left (tables_are_short p) (texts_are_short p) (and_left (tables_are_short p && texts_are_short p) (entries_fit p && entries_differ p) h)

types_short : (p : Program) → tables_are_short p ≡ true → length p.types ≤ 65535
unfolding tables_are_short
types_short p h = leb-true (length p.types) 65535 (and_left (nat_le (length p.types) 65535) (nat_le (length p.protos) 65535)
    (and_left (nat_le (length p.types) 65535 && nat_le (length p.protos) 65535) (nat_le (length p.fields) 65536 && nat_le (length p.methods) 65536)
    (and_right (nat_lt (length p.strings) (2 ^ 32) && nat_lt (length p.classes) (2 ^ 32)) ((nat_le (length p.types) 65535 && nat_le (length p.protos) 65535) && (nat_le (length p.fields) 65536 && nat_le (length p.methods) 65536)) h)))

few_types : (p : Program) → is_well_formed p ≡ true → length p.types ≤ greatest
few_types p h = let l = types_short p (lengths_of p (tables_of p h)) in omega (arith, l)

types_fit : (p : Program) (c : Class) → class_fits p c ≡ true → types_of_class_fit p c ≡ true
unfolding class_fits
types_fit p c h = and_left (types_of_class_fit p c) (source_fits p c.source && marks_fit p c.marks) (and_left (types_of_class_fit p c && (source_fits p c.source && marks_fit p c.marks)) (fields_fit p c.name c.fields && methods_fit p c.name c.methods) h)

untrue : (b : Bool) → not b ≡ true → b ≡ false
untrue true e = absurd (true≢false (sym e))
untrue false e = refl

true_of : (b : Bool) → not b ≡ false → b ≡ true
true_of true e = refl
true_of false e = absurd (true≢false e)

-- the type of a class is a class type, and not that of all objects
record IsClassType (p : Program) (c : Class) : Type 0 where
  letter : letter_of p c.name ≡ 76
  other : is_object (type_text p c.name) ≡ false

class_type : (p : Program) (c : Class) → types_of_class_fit p c ≡ true → IsClassType p c
unfolding types_of_class_fit
class_type p c h =
    let one = and_left (is_class_type p c.name && not (is_object (type_text p c.name))) (is_class_type p c.superclass && list_all (is_class_type p) c.interfaces) h in
    record {
      letter = number_of (letter_of p c.name) 76 (and_right (has_type p c.name) (is_class (letter_of p c.name)) (and_left (is_class_type p c.name) (not (is_object (type_text p c.name))) one));
      other = untrue (is_object (type_text p c.name)) (and_right (is_class_type p c.name) (not (is_object (type_text p c.name))) one);
    }

record Lettered (t : List ℕ) : Type 0 where
  rest : List ℕ
  is : t ≡ 76 ∷ rest

lettered : (t : List ℕ) → first_unit t ≡ 76 → Lettered t
lettered [] e = absurd (omega (arith, e))
lettered (u ∷ us) e = record { rest = us; is = ap (λ x. x ∷ us) e }

letter_text : (p : Program) (k : ℕ) → letter_of p k ≡ 76 → Lettered (type_text p k)
unfolding letter_of
letter_text p k e = lettered (type_text p k) e

text_of_type : (p : Program) (k s : ℕ) → slice_get p.types k ≡ Some s → type_text p k ≡ string_text p s
unfolding type_text
text_of_type p k s e = ap (text_or_none p) e

type_is : (p : Program) (k : ℕ) → type_text p k ≡ text_or_none p (slice_get p.types k)
unfolding type_text
type_is p k = refl

module _ (p : Program) (w : is_well_formed p ≡ true) where
  has_text : (k s : ℕ) → slice_get p.types k ≡ Some s → s < length p.strings
  has_text k s e = below s (length p.strings) (and_left (has_string p s) (is_ok (descriptor_of (string_text p s))) (all_at (type_fits p) p.types k s (sound p w).types_fit e))

  -- types of one text are one type
  one_type : (j k : ℕ) → j < length p.types → k < length p.types → type_text p j ≡ type_text p k → j ≡ k
  one_type j k lt lt' e =
      let a = entry_at p.types j lt in
      let b = entry_at p.types k lt' in
      let t : string_text p a.0 ≡ string_text p b.0 = sym (text_of_type p j a.0 a.1) ∙ e ∙ text_of_type p k b.0 b.1 in
      let s : a.0 ≡ b.0 = same_entries text_key p.strings a.0 b.0 (string_text p a.0) (string_text p b.0) (sound p w).strings (text_got p.strings a.0 (has_text j a.0 a.1)) (text_got p.strings b.0 (has_text k b.0 b.1)) t in
      same_entries type_key p.types j k a.0 b.0 (sound p w).types a.1 b.1 (ap (λ n. n ∷ []) s)

  few : length p.classes ≤ greatest
  few = let l = few_classes p w in omega (arith, l)

  class_type_at : (c : ℕ) (k : Class) → slice_get p.classes c ≡ Some k → IsClassType p k
  class_type_at c k e = class_type p k (types_fit p k (all_at (class_fits p) p.classes c k (sound p w).classes_fit e))

  name_below : (c : ℕ) (k : Class) → slice_get p.classes c ≡ Some k → k.name < length p.types
  name_below c k e = (class_parts p (sound p w) c k e).name

  module _ (once : (class : ℕ) → IsTwice p class → ⊥) where
    -- a class is found by the text of its type
    named_there : (c : ℕ) (k : Class) → slice_get p.classes c ≡ Some k → class_named p (type_text p k.name) ≡ Some c
    named_there c k e =
        let f : First (is_class_of p (type_text p k.name)) p.classes c = first_of (is_class_of p (type_text p k.name)) p.classes c k few e (text_same (type_text p k.name)) in
        let same : f.entry.name ≡ k.name = one_type f.entry.name k.name (name_below f.number f.entry f.got) (name_below c k e) (text_is (type_text p f.entry.name) (type_text p k.name) f.passes) in
        f.is ∙ ap (λ n. Some n) (by f same (elim_le f.number c f.first))
      where
        elim_le : (a b : ℕ) → a ≤ b → (a < b) ⊎ (a ≡ b)
        elim_le a b le = elim (Rattle.std.proofs.lemmas.Bool.cases_lt a b) [ inl l ↦ inl l | inr g ↦ inr (omega (arith, le, g)) ]

        by : (f : First (is_class_of p (type_text p k.name)) p.classes c) → f.entry.name ≡ k.name → (f.number < c) ⊎ (f.number ≡ c) → f.number ≡ c
        by f same (inl lt) = absurd (once c (record { earlier = f.number; before = lt; one = f.entry; other = k; is_one = f.got; is_other = e; same = same }))
        by f same (inr q) = q

    module _ (t : Tables) (a : AreTypesOf p t) (h : AreChainsOf p t.chains) where
      -- the item that stands for a class
      item_is : (c : ℕ) (k : Class) → slice_get p.classes c ≡ Some k → item_shape t (item_of_class t c) ≡ shape.Class (Some c) (plain_at p (Some c))
      item_is c k e =
          let name : slice_get t.classes.items c ≡ Some k.name = ap (λ l. slice_get l c) a.classes ∙ got_map (λ c. c.name) p.classes c k e in
          let s = entry_at p.types k.name (name_below c k e) in
          let text : type_text p k.name ≡ string_text p s.0 = text_of_type p k.name s.0 s.1 in
          let l : Lettered (type_text p k.name) = letter_text p k.name (class_type_at c k e).letter in
          let base : without_brackets (string_text p s.0) ≡ type_text p k.name = ap without_brackets (sym text ∙ l.is) ∙ sym l.is in
          let T = type_text p k.name in
          let f : First (is_item_of p T) p.types k.name = first_of (is_item_of p T) p.types k.name s.0 (few_types p w) s.1 (ap (λ u. same_text u T) base ∙ text_same T) in
          let there : slice_get t.items.items k.name ≡ Some f.number = ap (λ l. slice_get l k.name) a.items ∙ got_map (λ s. item_number p (without_brackets (string_text p s))) p.types k.name s.0 s.1
          ∙ ap (λ u. Some (item_number p u)) base ∙ ap (λ o. Some (number_or o)) f.is in
          let of : item_of_class t c ≡ Some f.number = ap (option_and_then (λ k. slice_get t.items.items k)) name ∙ there in
          ap (item_shape t) of
          ∙ ap (λ l. shape_in l f.number) a.bases
          ∙ index_map (λ s. base_shape p (without_brackets (string_text p s))) p.types f.number f.entry shape.Void f.got
          ∙ ap (base_shape p) (text_is (without_brackets (string_text p f.entry)) T f.passes)
          ∙ ap (λ u. shape_of_text u (class_named p T) (plain_at p (class_named p T))) l.is
          ∙ ap (λ o. shape.Class o (plain_at p o)) (named_there c k e)

      stands_there : (c : ℕ) (k : Class) → slice_get p.classes c ≡ Some k → stands t c ≡ true
      stands_there c k e = ap (λ s. same_number (place_of s) (Some c)) (item_is c k e) ∙ number_test c c refl

      settled_class : (c : ℕ) (k : Class) → slice_get p.classes c ≡ Some k → is_settled_class t c (plain_at p (Some c)) ≡ true
      settled_class c k e = by (plain_at p (Some c)) refl
        where
          interface : plain_at p (Some c) ≡ false → above t.chains c ≡ None
          interface g = h.above c ∙ ap (λ b. cond b None (super_place p c)) (ap is_interface e ∙ true_of (has_flag k.flags 512) (sym (ap is_plain_class e) ∙ g))

          item_plain : (b : Bool) → plain_at p (Some c) ≡ b → is_plain (item_shape t (item_of_class t c)) ≡ b
          item_plain b g = ap is_plain (item_is c k e) ∙ g

          by : (b : Bool) → plain_at p (Some c) ≡ b → is_settled_class t c (plain_at p (Some c)) ≡ true
          by true g = ap (is_settled_class t c) g ∙ item_plain true g
          by false g = ap (is_settled_class t c) g ∙ ap (λ b. not b && same_number (above t.chains c) None) (item_plain false g) ∙ ap (λ o. same_number o None) (interface g)

      -- what a class type is
      class_ok : (u : List ℕ) (o : Option ℕ) → class_named p u ≡ o → is_base t (shape.Class o (plain_at p o)) ≡ true
      class_ok u None g = refl
      class_ok u (Some c) g =
          let n : Numbered (is_class_of p u) p.classes c = numbered (is_class_of p u) p.classes c few g in
          ap (λ b. b && is_settled_class t c (plain_at p (Some c))) (stands_there c n.entry n.is) ∙ settled_class c n.entry n.is

      either : (b : Bool) (x y : Shape) → is_base t x ≡ true → is_base t y ≡ true → is_base t (cond b x y) ≡ true
      either true x y e f = e
      either false x y e f = f

      text_ok : (u : List ℕ) → is_base t (base_shape p u) ≡ true
      text_ok [] = refl
      text_ok (u ∷ us) =
          either (nat_eq u 66) _ _ refl
          (either (nat_eq u 67) _ _ refl
          (either (nat_eq u 68) _ _ refl
          (either (nat_eq u 70) _ _ refl
          (either (nat_eq u 73) _ _ refl
          (either (nat_eq u 74) _ _ refl
          (either (nat_eq u 76) _ _ (class_ok (u ∷ us) (class_named p (u ∷ us)) refl)
          (either (nat_eq u 83) _ _ refl
          (either (nat_eq u 90) _ _ refl refl))))))))

      bases_ok : (k : ℕ) → is_base t (shape_in t.bases.items k) ≡ true
      bases_ok k = ap (λ l. is_base t (shape_in l k)) a.bases ∙ map_all (λ s. is_base t s ≡ true) (λ s. base_shape p (without_brackets (string_text p s))) p.types shape.Void (λ s. text_ok (without_brackets (string_text p s))) refl k

      -- what stands above a class
      above_ok : (o : Option ℕ) (k : ℕ) → class_above p k ≡ o → stands_too t o ≡ true
      above_ok None k e = refl
      above_ok (Some c) k e = by_interface (is_interface (slice_get p.classes k)) e
        where
          by_name : (n : ℕ) → class_place p n ≡ Some c → stands t c ≡ true
          by_name n f = let r = place_entry (λ (x : Class). nat_eq x.name n) p.classes c f in stands_there c r.entry r.is

          by_super : (o : Option Class) → option_and_then (λ (x : Class). class_place p x.superclass) o ≡ Some c → stands t c ≡ true
          by_super None f = cc
          by_super (Some x) f = by_name x.superclass f

          by_interface : (b : Bool) → cond b None (super_place p k) ≡ Some c → stands t c ≡ true
          by_interface true f = cc
          by_interface false f = by_super (slice_get p.classes k) f

      classes_ok : (k : ℕ) → stands_too t (above t.chains k) ≡ true
      classes_ok k = ap (stands_too t) (h.above k) ∙ above_ok (class_above p k) k refl

      -- no class is that of all objects
      no_object : (o : Option ℕ) → class_named p object_text ≡ o → same_number o None ≡ true
      no_object None e = refl
      no_object (Some c) e =
          let n : Numbered (is_class_of p object_text) p.classes c = numbered (is_class_of p object_text) p.classes c few e in
          absurd (true≢false (sym n.passes ∙ (class_type_at c n.entry n.is).other))

      object_base : (k s : ℕ) → slice_get p.types k ≡ Some s → is_item_of p object_text s ≡ true → shape_in t.bases.items k ≡ base_shape p object_text
      object_base k s e f = ap (λ l. shape_in l k) a.bases ∙ index_map (λ s. base_shape p (without_brackets (string_text p s))) p.types k s shape.Void e ∙ ap (base_shape p) (text_is (without_brackets (string_text p s)) object_text f)

      object_ok : (o : Option ℕ) → item_named p object_text ≡ o → (same_number (place_of (item_shape t o)) None && is_reference (item_shape t o)) ≡ true
      object_ok None e = refl
      object_ok (Some k) e =
          let n : Numbered (is_item_of p object_text) p.types k = numbered (is_item_of p object_text) p.types k (few_types p w) e in
          ap (λ s. same_number (place_of s) None && is_reference s) (object_base k n.entry n.is n.passes)
          ∙ ap (λ b. b && true) (no_object (class_named p object_text) refl)

      objects_ok : has_objects t ≡ true
      objects_ok = ap (λ o. same_number (place_of (item_shape t o)) None && is_reference (item_shape t o)) a.object ∙ object_ok (item_named p object_text) refl

      pub passes : length t.chains.supers.items ≤ greatest → AreSound t
      passes count = record {
        types = let e = few_types p w in omega (arith, e, ap length a.bases, length_map (λ s. base_shape p (without_brackets (string_text p s))) p.types);
        count = count;
        bases = bases_ok;
        classes = classes_ok;
        objects = objects_ok;
      }

      -- ---- what is looked up by number

      shapes_at : (ss : List ℕ) (k : ℕ) → slice_index_or (map (λ s. shape_named p (string_text p s)) ss) k shape.Void ≡ shape_named p (text_or_none p (slice_get ss k))
      shapes_at [] k = refl
      shapes_at (s ∷ ss) zero = refl
      shapes_at (s ∷ ss) (suc k) = shapes_at ss k

      item_at : (k s : ℕ) → slice_get p.types k ≡ Some s → (T : List ℕ) → T ≡ without_brackets (string_text p s) → item_shape t (Some (item_number p T)) ≡ base_shape p T
      item_at k s e T q =
          let f : First (is_item_of p T) p.types k = first_of (is_item_of p T) p.types k s (few_types p w) e (ap (λ u. same_text u T) (sym q) ∙ text_same T) in
          ap (λ o. item_shape t (Some (number_or o))) f.is
          ∙ ap (λ l. shape_in l f.number) a.bases
          ∙ index_map (λ s. base_shape p (without_brackets (string_text p s))) p.types f.number f.entry shape.Void f.got
          ∙ ap (base_shape p) (text_is (without_brackets (string_text p f.entry)) T f.passes)

      item_says : (k : ℕ) → k < length p.types → item_shape t (Some (item_number p (without_brackets (type_text p k)))) ≡ base_shape p (without_brackets (type_text p k))
      item_says k lt = let s = entry_at p.types k lt in item_at k s.0 s.1 (without_brackets (type_text p k)) (ap without_brackets (text_of_type p k s.0 s.1))

      place_says : (k : ℕ) → k < length p.types → class_named p (type_text p k) ≡ class_place p k
      place_says k lt = by_place (class_place p k) refl (class_named p (type_text p k)) refl
        where
          by_place : (o : Option ℕ) → class_place p k ≡ o → (n : Option ℕ) → class_named p (type_text p k) ≡ n → class_named p (type_text p k) ≡ class_place p k
          by_place (Some c) e n g =
              let r = place_entry (λ (x : Class). nat_eq x.name k) p.classes c e in
              let q : r.entry.name ≡ k = number_of r.entry.name k r.passes in
              ap (λ m. class_named p (type_text p m)) (sym q) ∙ named_there c r.entry r.is ∙ sym e
          by_place None e None g = g ∙ sym e
          by_place None e (Some c) g =
              let m : Numbered (is_class_of p (type_text p k)) p.classes c = numbered (is_class_of p (type_text p k)) p.classes c few g in
              let q : m.entry.name ≡ k = one_type m.entry.name k (name_below c m.entry m.is) lt (text_is (type_text p m.entry.name) (type_text p k) m.passes) in
              let f : FirstPlace (λ (x : Class). nat_eq x.name k) p.classes c = place_first (λ (x : Class). nat_eq x.name k) p.classes c m.entry m.is (number_test m.entry.name k q) in
              let z : None ≡ Some f.place = sym e ∙ f.is in
              cc

      pub says : SaysTexts p t
      says = record {
        shape = λ k. ap (λ l. shape_in l k) a.shapes ∙ shapes_at p.types k ∙ ap (shape_named p) (sym (type_is p k));
        item = item_says;
        place = place_says;
        class = item_is;
        words = λ n q e. ap (λ l. slice_index l n) a.words ∙ index_map (λ (q : Proto). short (sum_by (words_of p) q.parameters)) p.protos n q 0 e;
        begins = λ n m e. ap (λ l. slice_index_or l n false) a.constructors ∙ index_map (λ (m : MethodName). string_is p m.name (codes "<init>")) p.methods n m false e;
      }
