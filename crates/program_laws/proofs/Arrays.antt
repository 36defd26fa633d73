-- Arrays: what fits above them is transitive.
use Rattle.std.proofs.Common.{◌≡◌, ℕ, zero, suc, Bool, true, false, true≢false, [], ◌∷◌, refl, sym, ap, ◌∙◌, subst, eqb-true, eq-eqb, nat_eq}
use Rattle.std.specs.Prelude.{◌&&◌, ◌||◌, not, Option, Some, None, if◌then◌else◌}
use Rattle.std.specs.Cmp.Lexicographic.{bytes_decides}
use Rattle.lemmas.proofs.Bools.{and_false}
use Rattle.lemmas.proofs.Options.{none_some}
use Rattle.dalvik_defs.specs.Names.{Text, text_eq, is_class_type, is_reference, base_of}
use Rattle.dalvik_defs.specs.declared.program.NamedProgram.{NamedProgram}
use Rattle.dalvik_defs.proofs.Calm.{text_sound}
use Rattle.pass_defs.specs.Kinds.{Kind, Array, Reference, kind_eq, depth, arrays_of, nearest, is_flat, object_array, joined_deep, joined_items, joined_arrays}
use Rattle.program_laws.specs.Rooted.{IsRooted}
use Rattle.program_laws.proofs.Lines.{near_trans, near_named, from_named, none_to_object, none_from_object}

pub text_same : (t : Text) → text_eq t t ≡ true
text_same t = (bytes_decides t t).1 refl

-- a class's name has no brackets
class_depth : (c : Text) → is_class_type c ≡ true → depth c ≡ 0
class_depth [] e = refl
class_depth (u ∷ us) e = ap (λ z. elim (nat_eq z 91) as (λ b. ℕ) [ true ↦ suc (depth us) | false ↦ 0 ]) (eqb-true u 76 e)

class_base : (c : Text) → is_class_type c ≡ true → base_of c ≡ c
class_base [] e = refl
class_base (u ∷ us) e = ap (λ z. elim (nat_eq z 91) as (λ b. Text) [ true ↦ base_of us | false ↦ u ∷ us ]) (eqb-true u 76 e)

arrays_base : (n : ℕ) (c : Text) → is_class_type c ≡ true → base_of (arrays_of n c) ≡ c
arrays_base zero c e = class_base c e
arrays_base (suc n) c e = arrays_base n c e

class_reference : (c : Text) → is_class_type c ≡ true → is_reference c ≡ true
class_reference [] e = e
class_reference (u ∷ us) e = ap (λ b. b || nat_eq u 91) e

module _ (p : NamedProgram) (regular : IsRooted p) where
  -- how an array's type fits another, which it isn't
  pub data Up (s t : Text) : Type 0 where
    Items : (c : Text) → depth s ≡ depth t → nearest p (base_of s) (base_of t) ≡ Some c → arrays_of (depth s) c ≡ t → Up s t
    Deep : is_flat s ≡ false → object_array ≡ t → Up s t

  or_false : (a b : Bool) → (a || b) ≡ false → a ≡ false
  or_false true b e = absurd (true≢false e)
  or_false false b e = refl

  deep_up : (s t : Text) → kind_eq (joined_deep s t) (Array t) ≡ true → Up s t
  deep_up s t e = by (is_flat s || is_flat t) refl e
    where
      by : (b : Bool) → (is_flat s || is_flat t) ≡ b → kind_eq (if b then Reference else Array object_array) (Array t) ≡ true → Up s t
      by true i d = absurd (true≢false (sym d))
      by false i d = Deep (or_false (is_flat s) (is_flat t) i) (text_sound object_array t d)

  pub up_of : (s t : Text) → kind_eq (joined_arrays p s t) (Array t) ≡ true → Up s t
  up_of s t e = by (nat_eq (depth s) (depth t)) refl e
    where
      by_near : depth s ≡ depth t → (o : Option Text) → nearest p (base_of s) (base_of t) ≡ o → kind_eq (joined_items s t o) (Array t) ≡ true → Up s t
      by_near i (Some c) j d = Items c i j (text_sound (arrays_of (depth s) c) t d)
      by_near i None j d = deep_up s t d

      by : (b : Bool) → nat_eq (depth s) (depth t) ≡ b → kind_eq (elim b as (λ b. Kind) [ true ↦ joined_items s t (nearest p (base_of s) (base_of t)) | false ↦ joined_deep s t ]) (Array t) ≡ true → Up s t
      by true i d = by_near (eqb-true (depth s) (depth t) i) (nearest p (base_of s) (base_of t)) refl d
      by false i d = deep_up s t d

  -- whatever isn't flat fits the array of objects
  deep_fits : (s : Text) → is_flat s ≡ false → kind_eq (joined_arrays p s object_array) (Array object_array) ≡ true
  deep_fits s e = by (nat_eq (depth s) (depth object_array))
    where
      deep : kind_eq (joined_deep s object_array) (Array object_array) ≡ true
      deep = ap (λ b. kind_eq (if b || is_flat object_array then Reference else Array object_array) (Array object_array)) e ∙ text_same object_array

      by : (b : Bool) → kind_eq (elim b as (λ b. Kind) [ true ↦ joined_items s object_array (nearest p (base_of s) (base_of object_array)) | false ↦ joined_deep s object_array ]) (Array object_array) ≡ true
      by true = ap (λ o. kind_eq (joined_items s object_array o) (Array object_array)) (none_to_object p regular (base_of s)) ∙ deep
      by false = deep

  fits_items : (s v : Text) → depth s ≡ depth v → (c : Text) → nearest p (base_of s) (base_of v) ≡ Some c → arrays_of (depth s) c ≡ v → kind_eq (joined_arrays p s v) (Array v) ≡ true
  fits_items s v d c n a = ap (λ b. kind_eq (elim b as (λ b. Kind) [ true ↦ joined_items s v (nearest p (base_of s) (base_of v)) | false ↦ joined_deep s v ]) (Array v)) (eq-eqb (depth s) (depth v) d)
      ∙ ap (λ o. kind_eq (joined_items s v o) (Array v)) n ∙ ap (λ x. text_eq x v) a ∙ text_same v

  -- what is near an array's base is its base's own
  own_base : (s t c : Text) → nearest p (base_of s) (base_of t) ≡ Some c → arrays_of (depth s) c ≡ t → base_of t ≡ c
  own_base s t c n a = ap base_of (sym a) ∙ arrays_base (depth s) c (near_named p regular (base_of s) (base_of t) c n)

  not_flat : (s t c : Text) → nearest p (base_of s) (base_of t) ≡ Some c → is_flat s ≡ false
  not_flat s t c n = ap (λ b. nat_eq (depth s) 1 && not b) (class_reference (base_of s) (from_named p regular (base_of s) (base_of t) c n)) ∙ and_false (nat_eq (depth s) 1)

  pub up_trans : (s t v : Text) → Up s t → Up t v → kind_eq (joined_arrays p s v) (Array v) ≡ true
  up_trans s t v (Deep e i) (Deep f j) = subst (λ z. kind_eq (joined_arrays p s z) (Array z) ≡ true) j (deep_fits s e)
  up_trans s t v (Deep e i) (Items c d n a) = none_some c (sym (ap (λ z. nearest p (base_of z) (base_of v)) (sym i) ∙ none_from_object p regular (base_of v)) ∙ n)
  up_trans s t v (Items c d n a) (Deep f j) = subst (λ z. kind_eq (joined_arrays p s z) (Array z) ≡ true) j (deep_fits s (not_flat s t c n))
  up_trans s t v (Items c d n a) (Items x f m b) =
      let first : nearest p (base_of s) (base_of t) ≡ Some (base_of t) = n ∙ ap Some (sym (own_base s t c n a)) in
      let second : nearest p (base_of t) (base_of v) ≡ Some (base_of v) = m ∙ ap Some (sym (own_base t v x m b)) in
      fits_items s v (d ∙ f) (base_of v) (near_trans p regular (base_of s) (base_of t) (base_of v) first second)
      (ap (λ k. arrays_of k (base_of v)) d ∙ ap (arrays_of (depth t)) (own_base t v x m b) ∙ b)
