-- The class of a type by its number is the class of that name.
use Rattle.std.proofs.Common.{◌≡◌, ℕ, zero, suc, ◌<◌, Bool, true, false, true≢false, nat_eq, List, [], ◌∷◌, ◌++◌, map, length, replicate, Option, Some, None, refl, sym, ap, subst, ◌∙◌, arith, eqb-true}
use Rattle.std.specs.Prelude.{◌&&◌, cond, not, position, slice_get, slice_index_or, unwrap_or}
use Rattle.std.specs.List.{list_all}
use Rattle.std.specs.Option.{option_map}
use Rattle.std.proofs.lemmas.Option.{unwrap_or-slice_get}
use Rattle.program_model.specs.declared.program.Class.{Class}
use Rattle.program_model.specs.declared.program.Program.{Program}
use Rattle.program_model.specs.declared.pools.MethodName.{MethodName}
use Rattle.program_model.specs.TableRules.{method_id_fits}
use Rattle.program_model.specs.ProgramRules.{is_well_formed}
use Rattle.program_model.specs.Texts.{has_proto, has_string, has_type, is_class, letter_of, type_text as program_type_text, text_or_none, string_text, first_unit}
use Rattle.program_model.specs.MemberRules.{class_fits, types_of_class_fit, source_fits, is_class_type, is_object, fields_fit, methods_fit}
use Rattle.program_model.specs.ValueRules.{marks_fit}
use Rattle.class_defs.proofs.Positions.{number_of, number_test, position_step, place_entry, same_test}
use Rattle.class_defs.proofs.WellFormed.{and_left, and_right, all_at, below, sound, few_classes, class_parts}
use Rattle.dalvik_defs.specs.Names.{Text, text_eq, is_array}
use Rattle.dalvik_defs.specs.Naming.{type_at, text_at, signature_at, method_at}
use Rattle.dalvik_defs.specs.declared.names.MethodKey.{MethodKey}
use Rattle.dalvik_lookups.specs.declared.types.Kind.{Kind}
use Rattle.dalvik_lookups.specs.declared.lookups.Lookups.{Lookups}
use Rattle.dalvik_lookups.specs.Views.{type_text, name_at, IsKind, IsType}
use Rattle.dalvik_lookups.specs.Tables.{kind_in, is_plain, place_of, place_or_none, place_named, IsRight}
use Rattle.dalvik_lookups.proofs.Interned.{text_same, text_sound, got_short}
use Rattle.dalvik_lookups.proofs.Descriptors.{same_kind}

-- ---- the first place by tests that agree

pub position_named : {A B : Type 0} (t : B → Bool) (u : A → Bool) (f : A → B) (xs : List A) → ((i : ℕ) (x : A) → slice_get xs i ≡ Some x → t (f x) ≡ u x) → position t (map f xs) ≡ position u xs
position_named t u f [] h = refl
position_named t u f (x ∷ xs) h =
    position_step t (f x) (map f xs)
    ∙ ap (λ b. cond b (Some 0) (option_map suc (position t (map f xs)))) (h 0 x refl)
    ∙ ap (λ o. cond (u x) (Some 0) (option_map suc o)) (position_named t u f xs (λ i y e. h (suc i) y e))
    ∙ sym (position_step u x xs)

pub position_nowhere : {A : Type 0} (t : A → Bool) (xs : List A) → ((i : ℕ) (x : A) → slice_get xs i ≡ Some x → t x ≡ false) → position t xs ≡ None
position_nowhere t [] h = refl
position_nowhere t (x ∷ xs) h =
    position_step t x xs
    ∙ ap (λ b. cond b (Some 0) (option_map suc (position t xs))) (h 0 x refl)
    ∙ ap (option_map suc) (position_nowhere t xs (λ i y e. h (suc i) y e))

-- ---- a class's type is no array

pub type_same : (p : Program) (k : ℕ) → type_at p k ≡ program_type_text p k
unfolding program_type_text
type_same p k = by_entry (slice_get p.types k)
  where
    text_is : (n : ℕ) → text_at p n ≡ string_text p n
    text_is n = by_text (slice_get p.strings n) ∙ unwrap_or-slice_get p.strings n []
      where
        by_text : (o : Option Text) → elim o as (λ o. Text) [ Some t ↦ t | None ↦ [] ] ≡ unwrap_or o []
        by_text None = refl
        by_text (Some t) = refl

    by_entry : (o : Option ℕ) → elim o as (λ o. Text) [ Some t ↦ text_at p t | None ↦ [] ] ≡ text_or_none p o
    by_entry None = refl
    by_entry (Some t) = text_is t

pub letter_is : (p : Program) (k : ℕ) → letter_of p k ≡ first_unit (program_type_text p k)
unfolding letter_of
letter_is p k = refl

pub no_array : (t : Text) → first_unit t ≡ 76 → is_array t ≡ false
no_array [] e = refl
no_array (u ∷ us) e = ap (λ n. nat_eq n 91) e

class_letter : (p : Program) (c : Class) → types_of_class_fit p c ≡ true → letter_of p c.name ≡ 76
unfolding types_of_class_fit
class_letter p c h =
    let one = and_left (is_class_type p c.name && not (is_object (program_type_text p c.name))) (is_class_type p c.superclass && list_all (is_class_type p) c.interfaces) h in
    eqb-true (letter_of p c.name) 76 (and_right (has_type p c.name) (is_class (letter_of p c.name)) (and_left (is_class_type p c.name) (not (is_object (program_type_text p c.name))) one))

pub types_fit : (p : Program) (c : Class) → class_fits p c ≡ true → types_of_class_fit p c ≡ true
unfolding class_fits
types_fit p c h =
    let one = and_left (types_of_class_fit p c && (source_fits p c.source && marks_fit p c.marks)) (fields_fit p c.name c.fields && methods_fit p c.name c.methods) h in
    and_left (types_of_class_fit p c) (source_fits p c.source && marks_fit p c.marks) one

pub class_bare : (p : Program) → is_well_formed p ≡ true → (i : ℕ) (c : Class) → slice_get p.classes i ≡ Some c → is_array (type_at p c.name) ≡ false
class_bare p w i c e = no_array (type_at p c.name) (ap first_unit (type_same p c.name) ∙ sym (letter_is p c.name) ∙ class_letter p c (types_fit p c (all_at (class_fits p) p.classes i c (sound p w).classes_fit e)))

-- ---- the class of a type

pub own_type : (l : Lookups) → IsRight l → (i : ℕ) (c : Class) → slice_get l.program.now.classes i ≡ Some c → IsType l.types (kind_in l.kinds.items c.name) (type_at l.program.now c.name)
own_type l r i c e = r.tabled.named.kinds c.name (class_parts l.program.now (sound l.program.now r.well) i c e).name

pub back : (o : Option ℕ) → ((c : ℕ) → o ≡ Some c → c < 4294967295) → place_of (place_or_none o) ≡ o
back None h = refl
back (Some c) h = by_test (nat_eq c 4294967295) refl
  where
    by_test : (b : Bool) → nat_eq c 4294967295 ≡ b → cond b None (Some c) ≡ Some c
    by_test true e = let l = h c refl in absurd (omega (arith, l, number_of c 4294967295 e))
    by_test false e = refl

-- a place of a class is below the number that stands for none
pub few_place : (p : Program) → is_well_formed p ≡ true → (t : Text) (c : ℕ) → place_named p t ≡ Some c → c < 4294967295
few_place p w t c e =
    let q = place_entry (λ c. text_eq (type_at p c.name) t) p.classes c e in
    let g = got_short p.classes c q.entry q.is in
    let few = few_classes p w in
    omega (arith, g, few)

pub class_type_below : (p : Program) → is_well_formed p ≡ true → (i : ℕ) (c : Class) → slice_get p.classes i ≡ Some c → c.name < length p.types
class_type_below p w i c e = (class_parts p (sound p w) i c e).name

pub not_zero : (n d : ℕ) → n ≡ suc d → nat_eq n 0 ≡ false
not_zero n d e = by_test (nat_eq n 0) refl
  where
    by_test : (b : Bool) → nat_eq n 0 ≡ b → b ≡ false
    by_test true f = absurd (omega (arith, number_of n 0 f, e))
    by_test false f = refl

pub class_placed : (l : Lookups) → IsRight l → (k : Kind) → IsKind l.types k → cond (nat_eq k.depth 0) (place_of (slice_index_or l.class_of.items k.base 4294967295)) None ≡ place_named l.program.now (type_text l.types k)
class_placed l r k h = by_depth k.depth refl
  where
    tests : k.depth ≡ 0 → (i : ℕ) (c : Class) → slice_get l.program.now.classes i ≡ Some c → is_plain k.base (kind_in l.kinds.items c.name) ≡ text_eq (type_at l.program.now c.name) (type_text l.types k)
    tests d i c e =
        let own = own_type l r i c e in
        let own_kind : Kind = kind_in l.kinds.items c.name in
        same_test (is_plain k.base own_kind) (text_eq (type_at l.program.now c.name) (type_text l.types k))
        (λ f. let depth : own_kind.depth ≡ k.depth = number_of own_kind.depth 0 (and_left (nat_eq own_kind.depth 0) (nat_eq own_kind.base k.base) f) ∙ sym d in
        let base : own_kind.base ≡ k.base = number_of own_kind.base k.base (and_right (nat_eq own_kind.depth 0) (nat_eq own_kind.base k.base) f) in
        let text : type_at l.program.now c.name ≡ type_text l.types k = sym own.text ∙ ap (λ n. replicate n 91 ++ name_at l.types own_kind.base) depth ∙ ap (λ n. replicate k.depth 91 ++ name_at l.types n) base in
        ap (λ t. text_eq t (type_text l.types k)) text ∙ text_same (type_text l.types k))
        (λ f. let same : own_kind ≡ k = same_kind l.types r.tabled.named.types own_kind k own.kind h (own.text ∙ text_sound (type_at l.program.now c.name) (type_text l.types k) f) in
        ap (is_plain k.base) same ∙ ap (λ b. b && nat_eq k.base k.base) (number_test k.depth 0 d) ∙ number_test k.base k.base refl)

    by_depth : (d : ℕ) → k.depth ≡ d → cond (nat_eq k.depth 0) (place_of (slice_index_or l.class_of.items k.base 4294967295)) None ≡ place_named l.program.now (type_text l.types k)
    by_depth zero e =
        ap (λ n. cond (nat_eq n 0) (place_of (slice_index_or l.class_of.items k.base 4294967295)) None) e
        ∙ ap place_of (r.tabled.places.is k.base ∙ ap (λ ks. place_or_none (position (is_plain k.base) ks)) r.tabled.own ∙ ap place_or_none (position_named (is_plain k.base) (λ c. text_eq (type_at l.program.now c.name) (type_text l.types k)) (λ c. kind_in l.kinds.items c.name) l.program.now.classes (tests e)))
        ∙ back (place_named l.program.now (type_text l.types k)) (few_place l.program.now r.well (type_text l.types k))
    by_depth (suc d) e =
        ap (λ b. cond b (place_of (slice_index_or l.class_of.items k.base 4294967295)) None) (not_zero k.depth d e)
        ∙ sym (position_nowhere (λ c. text_eq (type_at l.program.now c.name) (type_text l.types k)) l.program.now.classes (λ i c f. differs c (class_bare l.program.now r.well i c f)))
      where
        differs : (c : Class) → is_array (type_at l.program.now c.name) ≡ false → text_eq (type_at l.program.now c.name) (type_text l.types k) ≡ false
        differs c bare = by_test (text_eq (type_at l.program.now c.name) (type_text l.types k)) refl
          where
            by_test : (b : Bool) → text_eq (type_at l.program.now c.name) (type_text l.types k) ≡ b → b ≡ false
            by_test false f = refl
            by_test true f = absurd (true≢false (sym (ap is_array (text_sound (type_at l.program.now c.name) (type_text l.types k) f) ∙ ap (λ n. is_array (replicate n 91 ++ name_at l.types k.base)) e) ∙ bare))

-- ---- the types of classes and of the classes that methods name

own_kind : (l : Lookups) → IsRight l → (i : ℕ) (c : Class) → slice_get l.program.now.classes i ≡ Some c → kind_in l.class_kinds.items i ≡ kind_in l.kinds.items c.name
own_kind l r i c e = ap (λ v. kind_in v i) r.tabled.own ∙ at l.program.now.classes i e
  where
    at : (cs : List Class) (j : ℕ) → slice_get cs j ≡ Some c → kind_in (map (λ d. kind_in l.kinds.items d.name) cs) j ≡ kind_in l.kinds.items c.name
    at [] j f = cc
    at (d ∷ ds) zero f = let g : d ≡ c = cc in ap (λ x. kind_in l.kinds.items x.name) g
    at (d ∷ ds) (suc j) f = at ds j f

pub class_kind : (l : Lookups) → IsRight l → (i : ℕ) (c : Class) (k : Kind) → slice_get l.program.now.classes i ≡ Some c → k ≡ kind_in l.class_kinds.items i → IsType l.types k (type_at l.program.now c.name)
class_kind l r i c k e f = subst (λ q. IsType l.types q (type_at l.program.now c.name)) (sym (f ∙ own_kind l r i c e)) (own_type l r i c e)

pub method_class : (p : Program) → is_well_formed p ≡ true → (m : ℕ) (q : MethodName) → slice_get p.methods m ≡ Some q → q.class < length p.types
method_class p w m q e = below q.class (length p.types) (and_left (has_type p q.class) (has_proto p q.proto && has_string p q.name) (all_at (method_id_fits p) p.methods m q (sound p w).methods_fit e))

pub method_class_is : (p : Program) (m : ℕ) (q : MethodName) → slice_get p.methods m ≡ Some q → type_at p q.class ≡ (method_at p m).class
method_class_is p m q e = sym (ap (λ o. (elim o as (λ o. MethodKey) [ Some n ↦ record { class = type_at p n.class; name = text_at p n.name; signature = signature_at p n.proto } | None ↦ record { class = []; name = []; signature = record { parameters = []; result = [] } } ]).class) e)
