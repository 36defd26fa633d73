-- What the tables say of types, by their texts.
use Rattle.std.proofs.Common.{◌≡◌, ℕ, zero, suc, ◌<◌, ◌≤◌, ◌^◌, Bool, true, false, true≢false, nat_eq, List, [], ◌∷◌, map, length, Option, Some, None, refl, sym, ap, ◌∙◌, subst, arith, leb-true, eqb-true, ne_eqb}
use Rattle.std.specs.Prelude.{◌&&◌, ◌||◌, not, cond, slice_get, slice_index_or, position, option_and_then, nat_lt, nat_le, sum_by, if◌then◌else◌}
use Rattle.std.specs.List.{list_all}
use Rattle.std.specs.Option.{option_map}
use Rattle.std.proofs.Math.Nat.{min-eq_left}
use Rattle.std.proofs.lemmas.List.Sums.{sum_by-cons}
use Rattle.lemmas.proofs.Lists.{got_short}
use Rattle.class_defs.proofs.Positions.{number_test, number_of, find_place, place_entry, PlaceFits, place_first, FirstPlace}
use Rattle.class_defs.proofs.WellFormed.{and_left, and_right, all_at, few_classes}
use Rattle.program_model.specs.MemberRules.{class_fits, types_of_class_fit, is_class_type, is_object, source_fits, fields_fit, methods_fit}
use Rattle.program_model.specs.ProgramRules.{is_well_formed}
use Rattle.program_model.proofs.Formed.{formed}
use Rattle.program_model.specs.TableRules.{tables_fit, tables_are_short, texts_are_short, entries_fit, entries_differ}
use Rattle.program_model.specs.Texts.{has_type, is_class, letter_of, first_unit, string_text, type_text}
use Rattle.program_model.specs.ValueRules.{marks_fit}
use Rattle.program_model.specs.declared.program.Class.{Class}
use Rattle.program_model.specs.declared.program.Program.{Program}
use Rattle.dalvik_defs.specs.Flags as remainder
use Rattle.dalvik_defs.specs.Names as text
use Rattle.dalvik_defs.specs.Names.{Text, text_eq, object_type, base_of, array_of}
use Rattle.dalvik_defs.specs.Items.{small_item, item_of_type}
use Rattle.insn_set.specs.declared.ops.Item.TheVariants as item
use Rattle.dalvik_defs.specs.Naming.{text_at, type_at, named_class, named}
use Rattle.dalvik_defs.specs.Under as name
use Rattle.dalvik_defs.specs.declared.program.NamedClass.{NamedClass}
use Rattle.name_bridge.specs.Named.{class_at}
use Rattle.name_bridge.proofs.Flags.{interface_flag}
use Rattle.name_bridge.proofs.Found.{text_same, type_same}
use Rattle.name_bridge.proofs.Lists.{find_named}
use Rattle.pass_defs.specs.Kinds as kinds
use Rattle.verify.specs.declared.shapes.Shape.{Shape}
use Rattle.verify.specs.declared.shapes.Shape.TheVariants as shape
use Rattle.verify.specs.declared.tables.Tables.{Tables}
use Rattle.verify.specs.Descriptors.{same_text, brackets, without_brackets, short, first_number, is_class_of, class_named, is_item_of, item_named, item_number, number_or, is_plain_class, plain_at, base_shape, shape_named}
use Rattle.verify.specs.Flow.{greatest}
use Rattle.verify.specs.Shapes as shapes
use Rattle.verify.specs.Types.{shape_in, shape_of, item_shape, kind_of, kind_of_shape, kind_of_class}
use Rattle.verify.proofs.Descriptions.{text_is}
use Rattle.verify.proofs.Descriptions as texts
use Rattle.type_bridge.specs.Views.{item_text, class_kind, array_kind, kind_named}
use Rattle.type_bridge.proofs.Told.{Told}

-- ---- brackets

pub depth_is : (u : Text) → kinds.depth u ≡ brackets u
depth_is [] = refl
depth_is (u ∷ us) = by (nat_eq u 91) (depth_is us)
  where
    by : (b : Bool) → kinds.depth us ≡ brackets us → elim b as (λ b. ℕ) [ true ↦ suc (kinds.depth us) | false ↦ 0 ] ≡ cond b (suc (brackets us)) 0
    by true e = ap suc e
    by false e = refl

pub base_is : (u : Text) → base_of u ≡ without_brackets u
base_is [] = refl
base_is (u ∷ us) = by (nat_eq u 91) (base_is us)
  where
    by : (b : Bool) → base_of us ≡ without_brackets us → elim b as (λ b. Text) [ true ↦ base_of us | false ↦ u ∷ us ] ≡ cond b (without_brackets us) (u ∷ us)
    by true e = e
    by false e = refl

-- a type is its base behind its brackets
pub arrays_back : (u : Text) → kinds.arrays_of (brackets u) (base_of u) ≡ u
arrays_back [] = refl
arrays_back (u ∷ us) = by (nat_eq u 91) refl (arrays_back us)
  where
    by : (b : Bool) → nat_eq u 91 ≡ b → kinds.arrays_of (brackets us) (base_of us) ≡ us
        → kinds.arrays_of (cond b (suc (brackets us)) 0) (elim b as (λ b. Text) [ true ↦ base_of us | false ↦ u ∷ us ]) ≡ u ∷ us
    by true e r = ap (λ x. 91 ∷ x) r ∙ ap (λ x. x ∷ us) (sym (eqb-true u 91 e))
    by false e r = refl

-- a text that begins with no bracket
abbrev pub IsBase : Text → Type 0
IsBase u = text.is_array u ≡ false

pub base_bare : (u : Text) → IsBase (base_of u)
base_bare [] = refl
base_bare (u ∷ us) = by (nat_eq u 91) refl (base_bare us)
  where
    by : (b : Bool) → nat_eq u 91 ≡ b → IsBase (base_of us) → IsBase (elim b as (λ b. Text) [ true ↦ base_of us | false ↦ u ∷ us ])
    by true e r = r
    by false e r = e

pub depth_bare : (u : Text) → IsBase u → kinds.depth u ≡ 0
depth_bare [] e = refl
depth_bare (u ∷ us) e = ap (λ b. elim b as (λ b. ℕ) [ true ↦ suc (kinds.depth us) | false ↦ 0 ]) e

pub base_stays : (u : Text) → IsBase u → base_of u ≡ u
base_stays [] e = refl
base_stays (u ∷ us) e = ap (λ b. elim b as (λ b. Text) [ true ↦ base_of us | false ↦ u ∷ us ]) e

pub depth_of : (n : ℕ) (u : Text) → IsBase u → kinds.depth (kinds.arrays_of n u) ≡ n
depth_of zero u e = depth_bare u e
depth_of (suc n) u e = ap suc (depth_of n u e)

pub base_under : (n : ℕ) (u : Text) → IsBase u → base_of (kinds.arrays_of n u) ≡ u
base_under zero u e = base_stays u e
base_under (suc n) u e = base_under n u e

pub item_bare : (p : Program) (i : Option ℕ) → IsBase (item_text p i)
item_bare p None = refl
item_bare p (Some k) = base_bare (type_at p k)

pub brackets_few : (u : Text) → brackets u ≤ length u
brackets_few [] = omega arith
brackets_few (u ∷ us) = by (nat_eq u 91) (brackets_few us)
  where
    by : (b : Bool) → brackets us ≤ length us → cond b (suc (brackets us)) 0 ≤ suc (length us)
    by true e = omega (arith, e)
    by false e = omega arith

-- ---- limits

sum_at : {X : Type 0} (f : X → ℕ) (xs : List X) (k : ℕ) (x : X) → slice_get xs k ≡ Some x → f x ≤ sum_by f xs
sum_at f [] k x e = absurd (cc)
sum_at f (y ∷ ys) zero x e = let s : x ≡ y = cc in let c = sum_by-cons f y ys in let g = ap f s in omega (arith, c, g)
sum_at f (y ∷ ys) (suc k) x e = let i = sum_at f ys k x e in let c = sum_by-cons f y ys in omega (arith, c, i)

index_at : {X : Type 0} (xs : List X) (i : ℕ) (x d : X) → slice_get xs i ≡ Some x → slice_index_or xs i d ≡ x
index_at [] i x d e = cc
index_at (y ∷ ys) zero x d e = let s : y ≡ x = cc in s
index_at (y ∷ ys) (suc i) x d e = index_at ys i x d e

pub index_map : {X Y : Type 0} (f : X → Y) (xs : List X) (i : ℕ) (x : X) (d : Y) → slice_get xs i ≡ Some x → slice_index_or (map f xs) i d ≡ f x
index_map f [] i x d e = cc
index_map f (y ∷ ys) zero x d e = let s : y ≡ x = cc in ap f s
index_map f (y ∷ ys) (suc i) x d e = index_map f ys i x d e

index_past : {X Y : Type 0} (f : X → Y) (xs : List X) (i : ℕ) (d : Y) → slice_get xs i ≡ None → slice_index_or (map f xs) i d ≡ d
index_past f [] i d e = refl
index_past f (y ∷ ys) zero d e = absurd (cc)
index_past f (y ∷ ys) (suc i) d e = index_past f ys i d e

tables_of : (p : Program) → is_well_formed p ≡ true → tables_fit p ≡ true
tables_of p h = (formed p h).tables

lengths_of : (p : Program) → tables_fit p ≡ true → (tables_are_short p && texts_are_short p) ≡ true
unfolding tables_fit
lengths_of p h = and_left (tables_are_short p && texts_are_short p) (entries_fit p && entries_differ p) h

types_short : (p : Program) → tables_are_short p ≡ true → length p.types ≤ 65535
unfolding tables_are_short
types_short p h = leb-true (length p.types) 65535 (and_left (nat_le (length p.types) 65535) (nat_le (length p.protos) 65535)
    (and_left (nat_le (length p.types) 65535 && nat_le (length p.protos) 65535) (nat_le (length p.fields) 65536 && nat_le (length p.methods) 65536)
    (and_right (nat_lt (length p.strings) (2 ^ 32) && nat_lt (length p.classes) (2 ^ 32)) ((nat_le (length p.types) 65535 && nat_le (length p.protos) 65535) && (nat_le (length p.fields) 65536 && nat_le (length p.methods) 65536)) h)))

units_of : (p : Program) → texts_are_short p ≡ true → sum_by length p.strings ≤ 16777216
unfolding texts_are_short
units_of p h = leb-true (sum_by length p.strings) 16777216 h

pub low : (n : ℕ) → n ≤ greatest → short n ≡ n
low n le = min-eq_left le

-- the first that passes a test, in a list that isn't long
pub record First {X : Type 0} (test : X → Bool) (xs : List X) (i : ℕ) : Type 0 where
  pub number : ℕ
  pub is : first_number test xs ≡ Some number
  pub entry : X
  pub got : slice_get xs number ≡ Some entry
  pub passes : test entry ≡ true

pub first_of : {X : Type 0} (test : X → Bool) (xs : List X) (i : ℕ) (x : X) → length xs ≤ greatest → slice_get xs i ≡ Some x → test x ≡ true → First test xs i
first_of test xs i x few e h =
    let f : FirstPlace test xs i = place_first test xs i x e h in
    let r : PlaceFits test xs f.place = place_entry test xs f.place f.is in
    let lt = got_short xs f.place r.entry r.is in
    record {
      number = f.place;
      is = ap (option_map short) f.is ∙ ap (λ n. Some n) (low f.place (omega (arith, lt, few)));
      entry = r.entry;
      got = r.is;
      passes = r.passes;
    }

-- the first number is the place, in a list that isn't long
first_is : {X : Type 0} (test : X → Bool) (xs : List X) → length xs ≤ greatest → first_number test xs ≡ position test xs
first_is test xs few = by (position test xs) refl
  where
    by : (o : Option ℕ) → position test xs ≡ o → option_map short o ≡ o
    by None e = refl
    by (Some n) e = let r : PlaceFits test xs n = place_entry test xs n e in let lt = got_short xs n r.entry r.is in ap (λ n. Some n) (low n (omega (arith, lt, few)))

pub text_of_type : (p : Program) (k s : ℕ) → slice_get p.types k ≡ Some s → type_at p k ≡ string_text p s
text_of_type p k s e = ap (λ o. elim o as (λ o. Text) [ Some n ↦ text_at p n | None ↦ [] ]) e ∙ text_same p s

-- a type of a text that isn't empty
pub has_entry : (p : Program) (k u : ℕ) (us : Text) → type_at p k ≡ u ∷ us → (s : ℕ) × (slice_get p.types k ≡ Some s)
has_entry p k u us e = by (slice_get p.types k) refl e
  where
    by : (o : Option ℕ) → slice_get p.types k ≡ o → elim o as (λ o. Text) [ Some n ↦ text_at p n | None ↦ [] ] ≡ u ∷ us → (s : ℕ) × (slice_get p.types k ≡ Some s)
    by None f g = absurd (let h : [] ≡ u ∷ us = g in cc)
    by (Some s) f g = (s, f)

module _ (p : Program) (w : is_well_formed p ≡ true) where
  pub few_types : length p.types ≤ greatest
  few_types = let l = types_short p (and_left (tables_are_short p) (texts_are_short p) (lengths_of p (tables_of p w))) in omega (arith, l)

  few : length p.classes ≤ greatest
  few = let l = few_classes p w in omega (arith, l)

  pub string_short : (s : ℕ) (o : Option Text) → slice_get p.strings s ≡ o → length (string_text p s) ≤ 16777216
  string_short s (Some u) e = let a = index_at p.strings s u [] e in let b = sum_at length p.strings s u e in let c = units_of p (and_right (tables_are_short p) (texts_are_short p) (lengths_of p (tables_of p w))) in let d = ap length a in omega (arith, b, c, d)
  string_short s None e = let a = ap length (past p.strings s e) in omega (arith, a)
    where
      past : (xs : List Text) (s : ℕ) → slice_get xs s ≡ None → slice_index_or xs s [] ≡ []
      past [] s e = refl
      past (x ∷ xs) zero e = absurd (cc)
      past (x ∷ xs) (suc s) e = past xs s e

  -- the brackets of a type are few
  pub depth_short : (k : ℕ) → short (brackets (type_at p k)) ≡ brackets (type_at p k)
  depth_short k = by (slice_get p.types k) refl
    where
      by : (o : Option ℕ) → slice_get p.types k ≡ o → short (brackets (type_at p k)) ≡ brackets (type_at p k)
      by (Some s) e =
          let a = ap length (text_of_type p k s e) in
          let b = brackets_few (type_at p k) in
          let c = string_short s (slice_get p.strings s) refl in
          low (brackets (type_at p k)) (omega (arith, a, b, c))
      by None e = let a : type_at p k ≡ [] = ap (λ o. elim o as (λ o. Text) [ Some n ↦ text_at p n | None ↦ [] ]) e in ap (λ u. short (brackets u)) a ∙ sym (ap brackets a)

  -- the item of a type has its base
  pub item_base : (k s : ℕ) → slice_get p.types k ≡ Some s → item_text p (Some (item_number p (without_brackets (type_at p k)))) ≡ base_of (type_at p k)
  item_base k s e =
      let T = without_brackets (type_at p k) in
      let q : without_brackets (string_text p s) ≡ T = ap without_brackets (sym (text_of_type p k s e)) in
      let f : First (is_item_of p T) p.types k = first_of (is_item_of p T) p.types k s few_types e (ap (λ u. same_text u T) q ∙ texts.text_same T) in
      ap (λ o. base_of (type_at p (number_or o))) f.is
      ∙ ap base_of (text_of_type p f.number f.entry f.got)
      ∙ base_is (string_text p f.entry)
      ∙ text_is (without_brackets (string_text p f.entry)) T f.passes
      ∙ sym (base_is (type_at p k))

  pub item_named_text : (u : Text) (k : ℕ) → item_named p u ≡ Some k → item_text p (Some k) ≡ u
  item_named_text u k e =
      let r : PlaceFits (is_item_of p u) p.types k = place_entry (is_item_of p u) p.types k (sym (first_is (is_item_of p u) p.types few_types) ∙ e) in
      ap base_of (text_of_type p k r.entry r.is) ∙ base_is (string_text p r.entry) ∙ text_is (without_brackets (string_text p r.entry)) u r.passes

  -- ---- classes by their texts

  pub class_by_text : (u : Text) → name.class_named (named p) u ≡ option_and_then (class_at p) (class_named p u)
  class_by_text u =
      find_named (λ c. text_eq c.name u) (is_class_of p u) (named_class p) p.classes (λ i c e. ap (λ v. text_eq v u) (type_same p c.name))
      ∙ ap (option_map (named_class p)) (find_place (is_class_of p u) p.classes)
      ∙ through (position (is_class_of p u) p.classes)
      ∙ ap (option_and_then (class_at p)) (sym (first_is (is_class_of p u) p.classes few))
    where
      through : (o : Option ℕ) → option_map (named_class p) (option_and_then (slice_get p.classes) o) ≡ option_and_then (class_at p) o
      through None = refl
      through (Some c) = refl

  -- the class of a text
  pub record ClassText (c : ℕ) (u : Text) : Type 0 where
    pub class : Class
    pub is : slice_get p.classes c ≡ Some class
    pub named : type_at p class.name ≡ u

  pub class_text : (u : Text) (c : ℕ) → class_named p u ≡ Some c → ClassText c u
  class_text u c e =
      let r : PlaceFits (is_class_of p u) p.classes c = place_entry (is_class_of p u) p.classes c (sym (first_is (is_class_of p u) p.classes few) ∙ e) in
      record { class = r.entry; is = r.is; named = type_same p r.entry.name ∙ text_is (type_text p r.entry.name) u r.passes }

  pub plain_is : (u : Text) → kinds.is_plain (named p) u ≡ plain_at p (class_named p u)
  plain_is u = ap (λ o. elim o as (λ o. Bool) [ Some c ↦ not (remainder.is_interface c.flags) | None ↦ false ]) (class_by_text u) ∙ by (class_named p u)
    where
      by_class : (o : Option Class) → elim (option_map (named_class p) o) as (λ o. Bool) [ Some c ↦ not (remainder.is_interface c.flags) | None ↦ false ] ≡ is_plain_class o
      by_class None = refl
      by_class (Some c) = ap not (sym (interface_flag c.flags))

      by : (o : Option ℕ) → elim (option_and_then (class_at p) o) as (λ o. Bool) [ Some c ↦ not (remainder.is_interface c.flags) | None ↦ false ] ≡ plain_at p o
      by None = refl
      by (Some c) = by_class (slice_get p.classes c)

  -- the kind of a class type
  pub class_kind_is : (u : Text) → kind_named p (kind_of_class (class_named p u) (plain_at p (class_named p u))) ≡ (if kinds.is_plain (named p) u then kinds.Class u else kinds.Reference)
  class_kind_is u = by (class_named p u) refl ∙ ap (λ b. if b then kinds.Class u else kinds.Reference) (sym (plain_is u))
    where
      by : (o : Option ℕ) → class_named p u ≡ o → kind_named p (kind_of_class o (plain_at p o)) ≡ (if plain_at p o then kinds.Class u else kinds.Reference)
      by None e = refl
      by (Some c) e = by_plain (plain_at p (Some c))
        where
          by_plain : (b : Bool) → kind_named p (kind_of_class (Some c) b) ≡ (if b then kinds.Class u else kinds.Reference)
          by_plain true = let r = class_text u c e in ap (class_kind p) r.is ∙ ap kinds.Class r.named
          by_plain false = refl

  -- ---- what a type is

  types_fit : (c : Class) → class_fits p c ≡ true → types_of_class_fit p c ≡ true
  unfolding class_fits
  types_fit c h = and_left (types_of_class_fit p c) (source_fits p c.source && marks_fit p c.marks) (and_left (types_of_class_fit p c && (source_fits p c.source && marks_fit p c.marks)) (fields_fit p c.name c.fields && methods_fit p c.name c.methods) h)

  name_fits : (c : Class) → types_of_class_fit p c ≡ true → (is_class_type p c.name && not (is_object (type_text p c.name))) ≡ true
  unfolding types_of_class_fit
  name_fits c h = and_left (is_class_type p c.name && not (is_object (type_text p c.name))) (is_class_type p c.superclass && list_all (is_class_type p) c.interfaces) h

  unit_of : (k : ℕ) → letter_of p k ≡ first_unit (type_text p k)
  unfolding letter_of
  unit_of k = refl

-- the shape of ints alone
abbrev pub is_int : Shape → Bool
is_int shape.Int = true
is_int s = false

pub record Sorts (p : Program) (u : Text) (s : Shape) : Type 0 where
  pub word : text.is_word u ≡ shapes.is_word s
  pub wide : text.is_wide u ≡ shapes.is_wide s
  pub reference : text.is_reference u ≡ shapes.is_reference s
  pub array : text.is_array u ≡ shapes.is_array s
  pub stored : item_of_type u ≡ shapes.stored s
  pub plain : kinds.is_plain (named p) u ≡ shapes.is_plain s
  pub kind : kind_named p (kind_of_shape s) ≡ kinds.kind_of (named p) u
  pub lone : shapes.place_of s ≡ None → shapes.is_plain s ≡ false
  pub placed : (c : ℕ) → shapes.place_of s ≡ Some c → class_named p u ≡ Some c
  pub unplaced : shapes.place_of s ≡ None → text.is_class_type u ≡ true → class_named p u ≡ None
  pub int : is_int s ≡ true → first_unit u ≡ 73

pub split : (u n : ℕ) (P : ℕ → Type 0) → P n → (nat_eq u n ≡ false → P u) → P u
split u n P here there = by (nat_eq u n) refl
  where
    by : (b : Bool) → nat_eq u n ≡ b → P u
    by true e = subst P (sym (eqb-true u n e)) here
    by false e = there e

module _ (p : Program) (t : Tables) (d : Told p t) where
  -- a class is of a class type, and none is that of objects
  pub class_unit : (c : ℕ) (k : Class) → slice_get p.classes c ≡ Some k → first_unit (type_at p k.name) ≡ 76
  class_unit c k e =
      let f = name_fits p d.well k (types_fit p d.well k (all_at (class_fits p) p.classes c k d.sound.classes_fit e)) in
      let g = and_left (is_class_type p k.name) (not (is_object (type_text p k.name))) f in
      ap first_unit (type_same p k.name) ∙ sym (unit_of p d.well k.name) ∙ number_of (letter_of p k.name) 76 (and_right (has_type p k.name) (is_class (letter_of p k.name)) g)

  pub no_object : (c : ℕ) (k : Class) → slice_get p.classes c ≡ Some k → text_eq (type_at p k.name) object_type ≡ true → ⊥
  no_object c k e h =
      let f = name_fits p d.well k (types_fit p d.well k (all_at (class_fits p) p.classes c k d.sound.classes_fit e)) in
      let g : not (is_object (type_text p k.name)) ≡ true = and_right (is_class_type p k.name) (not (is_object (type_text p k.name))) f in
      let z : is_object (type_text p k.name) ≡ true = ap (λ u. text_eq u object_type) (sym (type_same p k.name)) ∙ h in
      true≢false (sym g ∙ ap not z)

  pub no_plain : (u : Text) → nat_eq (first_unit u) 76 ≡ false → kinds.is_plain (named p) u ≡ false
  no_plain u e = plain_is p d.well u ∙ by (class_named p u) refl
    where
      by : (o : Option ℕ) → class_named p u ≡ o → plain_at p o ≡ false
      by None f = refl
      by (Some c) f =
          let r = class_text p d.well u c f in
          absurd (true≢false (sym (number_test (first_unit u) 76 (ap first_unit (sym r.named) ∙ class_unit c r.class r.is)) ∙ e))

  -- a text that a class has is a class type
  class_letter : (u : Text) → first_unit u ≡ 76 → text.is_class_type u ≡ true
  class_letter [] e = absurd (cc)
  class_letter (v ∷ us) e = number_test v 76 e

  placed_letter : (u : Text) (c : ℕ) → class_named p u ≡ Some c → text.is_class_type u ≡ true
  placed_letter u c e = let r = class_text p d.well u c e in class_letter u (ap first_unit (sym r.named) ∙ class_unit c r.class r.is)

  abbrev interface_of : Option NamedClass → Bool
  interface_of o = elim o as (λ o. Bool) [ Some c ↦ remainder.is_interface c.flags | None ↦ false ]

  abbrev plain_of : Option NamedClass → Bool
  plain_of o = elim o as (λ o. Bool) [ Some c ↦ not (remainder.is_interface c.flags) | None ↦ false ]

  -- a program interface by its type
  pub interface_same : (u : Text) (s : Shape) → Sorts p u s → kinds.is_program_interface (named p) u ≡ shapes.is_program_interface s
  interface_same u s w = by s w
    where
      turned : (a b : Bool) → not a ≡ b → a ≡ not b
      turned true b e = ap not e
      turned false b e = ap not e

      there : (c : ℕ) (b : Bool) → Sorts p u (shape.Class (Some c) b) → kinds.is_program_interface (named p) u ≡ not b
      there c b w =
          let r = class_text p d.well u c (w.placed c refl) in
          let named_is : name.class_named (named p) u ≡ Some (named_class p r.class) = class_by_text p d.well u ∙ ap (option_and_then (class_at p)) (w.placed c refl) ∙ ap (option_map (named_class p)) r.is in
          ap interface_of named_is ∙ turned (remainder.is_interface r.class.flags.0) b (sym (ap plain_of named_is) ∙ w.plain)

      missing : (s : Shape) → Sorts p u s → shapes.place_of s ≡ None → kinds.is_program_interface (named p) u ≡ false
      missing s w e = ap interface_of (class_by_text p d.well u ∙ ap (option_and_then (class_at p)) (none (class_named p u) refl))
        where
          none : (o : Option ℕ) → class_named p u ≡ o → class_named p u ≡ None
          none None f = f
          none (Some c) f = w.unplaced e (placed_letter u c f)

      by : (s : Shape) → Sorts p u s → kinds.is_program_interface (named p) u ≡ shapes.is_program_interface s
      by (shape.Class (Some c) b) w = there c b w
      by (shape.Class None b) w = missing (shape.Class None b) w refl
      by shape.Void w = missing shape.Void w refl
      by shape.Int w = missing shape.Int w refl
      by (shape.Word x) w = missing (shape.Word x) w refl
      by shape.Wide w = missing shape.Wide w refl
      by (shape.Array n j) w = missing (shape.Array n j) w refl

  abbrev SortsBase : Text → ℕ → Type 0
  SortsBase us v = IsBase (v ∷ us) → Sorts p (v ∷ us) (base_shape p (v ∷ us))

  primitive : (v : ℕ) (us : Text) → nat_eq v 76 ≡ false → text.is_word (v ∷ us) ≡ shapes.is_word (base_shape p (v ∷ us)) → text.is_wide (v ∷ us) ≡ shapes.is_wide (base_shape p (v ∷ us))
      → text.is_reference (v ∷ us) ≡ shapes.is_reference (base_shape p (v ∷ us)) → text.is_array (v ∷ us) ≡ shapes.is_array (base_shape p (v ∷ us))
      → item_of_type (v ∷ us) ≡ shapes.stored (base_shape p (v ∷ us)) → false ≡ shapes.is_plain (base_shape p (v ∷ us)) → kind_named p (kind_of_shape (base_shape p (v ∷ us))) ≡ kinds.kind_of (named p) (v ∷ us)
      → shapes.place_of (base_shape p (v ∷ us)) ≡ None → (is_int (base_shape p (v ∷ us)) ≡ true → v ≡ 73) → Sorts p (v ∷ us) (base_shape p (v ∷ us))
  primitive v us e a b c f g h i j k = record { word = a; wide = b; reference = c; array = f; stored = g; plain = no_plain (v ∷ us) e ∙ h; kind = i; lone = λ x. sym h; placed = λ c x. absurd (let z : None ≡ Some c = sym j ∙ x in cc); unplaced = λ x y. absurd (true≢false (sym y ∙ e)); int = k }

  class_sorts : (us : Text) → Sorts p (76 ∷ us) (base_shape p (76 ∷ us))
  class_sorts us = record { word = refl; wide = refl; reference = refl; array = refl; stored = refl; plain = plain_is p d.well (76 ∷ us); kind = class_kind_is p d.well (76 ∷ us); lone = λ e. ap (plain_at p) e; placed = λ c e. e; unplaced = λ e x. e; int = λ x. absurd (true≢false (sym x)) }

  other_sorts : (u : ℕ) (us : Text) → nat_eq u 66 ≡ false → nat_eq u 67 ≡ false → nat_eq u 68 ≡ false → nat_eq u 70 ≡ false → nat_eq u 73 ≡ false → nat_eq u 74 ≡ false → nat_eq u 76 ≡ false → nat_eq u 83 ≡ false → nat_eq u 90 ≡ false → SortsBase us u
  other_sorts u us a b c e f g h i j z =
      let s : base_shape p (u ∷ us) ≡ shape.Void = rw a (rw b (rw c (rw e (rw f (rw g (rw h (rw i (rw j refl)))))))) in
      let word : text.is_word (u ∷ us) ≡ false = rw j (rw a (rw i (rw b (rw f (rw e refl))))) in
      let wide : text.is_wide (u ∷ us) ≡ false = rw g (rw c refl) in
      let reference : text.is_reference (u ∷ us) ≡ false = ap (λ x. x || nat_eq u 91) h ∙ z in
      let small : small_item u ≡ item.Plain = rw j (rw a (rw b (rw i refl))) in
      let stored : item_of_type (u ∷ us) ≡ item.Plain = rw wide (rw reference small) in
      let kind : kinds.kind_of (named p) (u ∷ us) ≡ kinds.Undefined = rw word (rw wide (rw reference refl)) in
      record {
        word = word ∙ ap shapes.is_word (sym s);
        wide = wide ∙ ap shapes.is_wide (sym s);
        reference = reference ∙ ap shapes.is_reference (sym s);
        array = z ∙ ap shapes.is_array (sym s);
        stored = stored ∙ ap shapes.stored (sym s);
        plain = no_plain (u ∷ us) h ∙ ap shapes.is_plain (sym s);
        kind = ap (λ s. kind_named p (kind_of_shape s)) s ∙ sym kind;
        lone = λ x. ap shapes.is_plain s;
        placed = λ c x. absurd (let z : None ≡ Some c = ap shapes.place_of (sym s) ∙ x in cc);
        unplaced = λ x y. absurd (true≢false (sym y ∙ h));
        int = λ x. absurd (true≢false (sym x ∙ ap is_int s));
      }

  -- a type without brackets
  pub sorts_base : (u : Text) → IsBase u → Sorts p u (base_shape p u)
  sorts_base [] z = record { word = refl; wide = refl; reference = refl; array = refl; stored = refl; plain = no_plain [] refl; kind = refl; lone = λ x. refl; placed = λ c x. absurd (cc); unplaced = λ x y. absurd (true≢false (sym y)); int = λ x. absurd (true≢false (sym x)) }
  sorts_base (u ∷ us) z =
      split u 66 (SortsBase us) (λ z. primitive 66 us refl refl refl refl refl refl refl refl refl (λ x. absurd (true≢false (sym x)))) (λ a.
      split u 67 (SortsBase us) (λ z. primitive 67 us refl refl refl refl refl refl refl refl refl (λ x. absurd (true≢false (sym x)))) (λ b.
      split u 68 (SortsBase us) (λ z. primitive 68 us refl refl refl refl refl refl refl refl refl (λ x. absurd (true≢false (sym x)))) (λ c.
      split u 70 (SortsBase us) (λ z. primitive 70 us refl refl refl refl refl refl refl refl refl (λ x. absurd (true≢false (sym x)))) (λ e.
      split u 73 (SortsBase us) (λ z. primitive 73 us refl refl refl refl refl refl refl refl refl (λ x. refl)) (λ f.
      split u 74 (SortsBase us) (λ z. primitive 74 us refl refl refl refl refl refl refl refl refl (λ x. absurd (true≢false (sym x)))) (λ g.
      split u 76 (SortsBase us) (λ z. class_sorts us) (λ h.
      split u 83 (SortsBase us) (λ z. primitive 83 us refl refl refl refl refl refl refl refl refl (λ x. absurd (true≢false (sym x)))) (λ i.
      split u 90 (SortsBase us) (λ z. primitive 90 us refl refl refl refl refl refl refl refl refl (λ x. absurd (true≢false (sym x)))) (λ j.
      other_sorts u us a b c e f g h i j))))))))) z

  -- a type
  pub sorts : (k : ℕ) → Sorts p (type_at p k) (shape_of t k)
  sorts k = subst (Sorts p (type_at p k)) (sym (d.says.shape k ∙ ap (shape_named p) (sym (type_same p k)))) (by (type_at p k) refl (text.is_array (type_at p k)) refl)
    where
      base : (u : Text) → IsBase u → Sorts p u (shape_named p u)
      base u z = subst (Sorts p u) (sym (ap (λ n. cond (nat_eq n 0) (base_shape p (without_brackets u)) (shape.Array (short (brackets u)) (item_number p (without_brackets u)))) (sym (depth_is u) ∙ depth_bare u z) ∙ ap (base_shape p) (sym (base_is u) ∙ base_stays u z))) (sorts_base u z)

      array_shape : (us : Text) → shape_named p (91 ∷ us) ≡ shape.Array (short (brackets (91 ∷ us))) (item_number p (without_brackets (91 ∷ us)))
      array_shape us = ap (λ b. cond b (base_shape p (without_brackets (91 ∷ us))) (shape.Array (short (brackets (91 ∷ us))) (item_number p (without_brackets (91 ∷ us))))) (ne_eqb (brackets (91 ∷ us)) 0 (omega arith))

      array : (us : Text) → type_at p k ≡ 91 ∷ us → Sorts p (91 ∷ us) (shape.Array (short (brackets (91 ∷ us))) (item_number p (without_brackets (91 ∷ us))))
      array us e =
          let s = has_entry p k 91 us e in record {
            word = refl;
            wide = refl;
            reference = refl;
            array = refl;
            stored = refl;
            plain = no_plain (91 ∷ us) refl;
            kind = ap (λ n. array_kind p n (Some (item_number p (without_brackets (91 ∷ us))))) (ap (λ u. short (brackets u)) (sym e) ∙ depth_short p d.well k ∙ ap brackets e)
                ∙ ap (λ i. kinds.Array (kinds.arrays_of (brackets (91 ∷ us)) i)) (ap (λ u. item_text p (Some (item_number p (without_brackets u)))) (sym e) ∙ item_base p d.well k s.0 s.1 ∙ ap base_of e)
                ∙ ap kinds.Array (arrays_back (91 ∷ us));
            lone = λ x. refl;
            placed = λ c x. absurd (let z : None ≡ Some c = x in cc);
            unplaced = λ x y. absurd (true≢false (sym y));
            int = λ x. absurd (true≢false (sym x));
          }

      by : (u : Text) → type_at p k ≡ u → (b : Bool) → text.is_array u ≡ b → Sorts p u (shape_named p u)
      by u e false z = base u z
      by [] e true z = absurd (true≢false (sym z))
      by (v ∷ us) e true z = let q : 91 ≡ v = sym (eqb-true v 91 z) in subst (λ v. Sorts p (v ∷ us) (shape_named p (v ∷ us))) q (subst (Sorts p (91 ∷ us)) (sym (array_shape us)) (array us (e ∙ ap (λ v. v ∷ us) (sym q))))

  -- the kind of a type
  pub kind_is : (k : ℕ) → kind_named p (kind_of t k) ≡ kinds.kind_of (named p) (type_at p k)
  kind_is k = (sorts k).kind

  -- ---- items of arrays

  pub item_sorts : (i : Option ℕ) → Sorts p (item_text p i) (item_shape t i)
  item_sorts None = record {
    word = refl;
    wide = refl;
    reference = refl;
    array = refl;
    stored = refl;
    plain = object_plain;
    kind = sym (ap (λ b. if b then kinds.Class object_type else kinds.Reference) object_plain);
    lone = λ x. refl;
    placed = λ c x. absurd (cc);
    unplaced = λ x y. not_there (class_named p object_type) refl;
    int = λ x. absurd (true≢false (sym x));
  }
    where
      not_there : (o : Option ℕ) → class_named p object_type ≡ o → class_named p object_type ≡ None
      not_there None e = e
      not_there (Some c) e = let r = class_text p d.well object_type c e in absurd (no_object c r.class r.is (ap (λ u. text_eq u object_type) r.named ∙ texts.text_same object_type))

      none : (o : Option ℕ) → class_named p object_type ≡ o → plain_at p o ≡ false
      none None e = refl
      none (Some c) e = let r = class_text p d.well object_type c e in absurd (no_object c r.class r.is (ap (λ u. text_eq u object_type) r.named ∙ texts.text_same object_type))

      object_plain : kinds.is_plain (named p) object_type ≡ false
      object_plain = plain_is p d.well object_type ∙ none (class_named p object_type) refl
  item_sorts (Some k) = subst (Sorts p (base_of (type_at p k))) (sym (ap (λ l. shape_in l k) d.types.bases)) (by (slice_get p.types k) refl)
    where
      by : (o : Option ℕ) → slice_get p.types k ≡ o → Sorts p (base_of (type_at p k)) (shape_in (map (λ s. base_shape p (without_brackets (string_text p s))) p.types) k)
      by (Some s) e = subst (Sorts p (base_of (type_at p k))) (ap (base_shape p) (base_is (type_at p k) ∙ ap without_brackets (text_of_type p k s e)) ∙ sym (index_map (λ s. base_shape p (without_brackets (string_text p s))) p.types k s shape.Void e)) (sorts_base (base_of (type_at p k)) (base_bare (type_at p k)))
      by None e = subst (λ u. Sorts p (base_of u) (shape_in (map (λ s. base_shape p (without_brackets (string_text p s))) p.types) k)) (sym (ap (λ o. elim o as (λ o. Text) [ Some n ↦ text_at p n | None ↦ [] ]) e)) (subst (Sorts p []) (sym (index_past (λ s. base_shape p (without_brackets (string_text p s))) p.types k shape.Void e)) (sorts_base [] refl))

  -- the class of an item
  pub item_class : (i : Option ℕ) (c : ℕ) (plain : Bool) → item_shape t i ≡ shape.Class (Some c) plain → ClassText p d.well c (item_text p i)
  item_class i c plain e = class_text p d.well (item_text p i) c ((item_sorts i).placed c (ap shapes.place_of e))
