-- What a type is: of a word, of a wide, a reference to an array, a plain class or any object, or of no value.
use Rattle.std.proofs.Common.{◌≡◌, ℕ, Bool, true, false, true≢false, [], ◌∷◌, refl, sym, ap, ◌∙◌, subst}
use Rattle.std.specs.Prelude.{◌||◌, nat_eq, if◌then◌else◌}
use Rattle.std.proofs.lemmas.Bool.{eqb-true}
use Rattle.dalvik_defs.specs.Names.{Text, is_word, is_wide, is_reference, is_array, is_class_type}
use Rattle.dalvik_defs.specs.declared.program.NamedProgram.{NamedProgram}
use Rattle.pass_defs.specs.Kinds.{Kind, kind_eq, kind_of, kind_of_reference, is_plain}
use Rattle.pass_defs.specs.Kinds as kind
use Rattle.run_laws.specs.TypedStates.{item_kind}
use Rattle.run_laws.proofs.Registers.{IsNoHalf}

-- ---- first letters

word_letter : (u : ℕ) → is_word (u ∷ []) ≡ true → (is_wide (u ∷ []) ≡ false) × (is_reference (u ∷ []) ≡ false)
word_letter u e = by (nat_eq u 74) (nat_eq u 68) (nat_eq u 76) (nat_eq u 91) refl refl refl refl
  where
    no : (n : ℕ) → nat_eq u n ≡ true → is_word (n ∷ []) ≡ false → ⊥
    no n i j = true≢false (sym e ∙ (ap (λ x. is_word (x ∷ [])) (eqb-true u n i) ∙ j))

    by : (a b c d : Bool) → nat_eq u 74 ≡ a → nat_eq u 68 ≡ b → nat_eq u 76 ≡ c → nat_eq u 91 ≡ d → ((a || b) ≡ false) × ((c || d) ≡ false)
    by true b c d i j k l = absurd (no 74 i refl)
    by false true c d i j k l = absurd (no 68 j refl)
    by false false true d i j k l = absurd (no 76 k refl)
    by false false false true i j k l = absurd (no 91 l refl)
    by false false false false i j k l = (refl, refl)

wide_letter : (u : ℕ) → is_wide (u ∷ []) ≡ true → is_reference (u ∷ []) ≡ false
wide_letter u e = by (nat_eq u 76) (nat_eq u 91) refl refl
  where
    no : (n : ℕ) → nat_eq u n ≡ true → is_wide (n ∷ []) ≡ false → ⊥
    no n i j = true≢false (sym e ∙ (ap (λ x. is_wide (x ∷ [])) (eqb-true u n i) ∙ j))

    by : (c d : Bool) → nat_eq u 76 ≡ c → nat_eq u 91 ≡ d → (c || d) ≡ false
    by true d k l = absurd (no 76 k refl)
    by false true k l = absurd (no 91 l refl)
    by false false k l = refl

pub word_alone : (t : Text) → is_word t ≡ true → (is_wide t ≡ false) × (is_reference t ≡ false)
word_alone [] e = absurd (true≢false (sym e))
word_alone (u ∷ us) e = word_letter u e

pub wide_alone : (t : Text) → is_wide t ≡ true → is_reference t ≡ false
wide_alone [] e = absurd (true≢false (sym e))
wide_alone (u ∷ us) e = wide_letter u e

-- a class type is a reference, and no array
pub class_alone : (t : Text) → is_class_type t ≡ true → (is_reference t ≡ true) × (is_array t ≡ false)
class_alone [] e = absurd (true≢false (sym e))
class_alone (u ∷ us) e = by (nat_eq u 91) refl
  where
    by : (b : Bool) → nat_eq u 91 ≡ b → ((nat_eq u 76 || nat_eq u 91) ≡ true) × (b ≡ false)
    by true i = absurd (true≢false (sym e ∙ ap (λ x. nat_eq x 76) (eqb-true u 91 i)))
    by false i = (ap (λ b. b || nat_eq u 91) e, refl)

pub array_reference : (t : Text) → is_array t ≡ true → is_reference t ≡ true
array_reference [] e = absurd (true≢false (sym e))
array_reference (u ∷ us) e = by (nat_eq u 76)
  where
    by : (b : Bool) → (b || nat_eq u 91) ≡ true
    by true = refl
    by false = e

pub not_word : (t : Text) → is_reference t ≡ true → is_word t ≡ false
not_word t e = by (is_word t) refl
  where
    by : (b : Bool) → is_word t ≡ b → b ≡ false
    by true i = absurd (true≢false (sym e ∙ (word_alone t i).1))
    by false i = refl

pub not_wide : (t : Text) → is_reference t ≡ true → is_wide t ≡ false
not_wide t e = by (is_wide t) refl
  where
    by : (b : Bool) → is_wide t ≡ b → b ≡ false
    by true i = absurd (true≢false (sym e ∙ wide_alone t i))
    by false i = refl

pub not_reference : (t : Text) → is_array t ≡ false → is_class_type t ≡ false → is_reference t ≡ false
not_reference [] a c = refl
not_reference (u ∷ us) a c = by (nat_eq u 76) (nat_eq u 91) c a
  where
    by : (x y : Bool) → x ≡ false → y ≡ false → (x || y) ≡ false
    by true y e i = absurd (true≢false e)
    by false y e i = i

-- ---- the sorts

module _ (p : NamedProgram) where
  pub data RefSort (t : Text) : Type 0 where
    AnArray : is_array t ≡ true → kind_of_reference p t ≡ kind.Array t → RefSort t
    APlain : is_array t ≡ false → is_plain p t ≡ true → kind_of_reference p t ≡ kind.Class t → RefSort t
    AnAny : is_array t ≡ false → is_plain p t ≡ false → kind_of_reference p t ≡ kind.Reference → RefSort t

  pub ref_sort : (t : Text) → RefSort t
  ref_sort t = by (is_array t) (is_plain p t) refl refl
    where
      by : (a b : Bool) → is_array t ≡ a → is_plain p t ≡ b → RefSort t
      by true b i j = AnArray i (ap (λ x. if x then kind.Array t else if is_plain p t then kind.Class t else kind.Reference) i)
      by false true i j = APlain i j (ap (λ x. if x then kind.Array t else if is_plain p t then kind.Class t else kind.Reference) i ∙ ap (λ x. if x then kind.Class t else kind.Reference) j)
      by false false i j = AnAny i j (ap (λ x. if x then kind.Array t else if is_plain p t then kind.Class t else kind.Reference) i ∙ ap (λ x. if x then kind.Class t else kind.Reference) j)

  pub data Sorted (t : Text) : Type 0 where
    OfWord : is_word t ≡ true → is_wide t ≡ false → is_reference t ≡ false → kind_of p t ≡ kind.Word → item_kind p t ≡ kind.Word → Sorted t
    OfWide : is_word t ≡ false → is_wide t ≡ true → is_reference t ≡ false → kind_of p t ≡ kind.Low → item_kind p t ≡ kind.Low → Sorted t
    OfReference : is_word t ≡ false → is_wide t ≡ false → is_reference t ≡ true → kind_of p t ≡ kind_of_reference p t → item_kind p t ≡ kind_of_reference p t → Sorted t
    OfNone : is_word t ≡ false → is_wide t ≡ false → is_reference t ≡ false → kind_of p t ≡ kind.Undefined → item_kind p t ≡ kind.Word → Sorted t

  pub sorted : (t : Text) → Sorted t
  sorted t = by (is_word t) (is_wide t) (is_reference t) refl refl refl
    where
      chain : (a b c : Bool) → is_word t ≡ a → is_wide t ≡ b → is_reference t ≡ c → kind_of p t ≡ (if a then kind.Word else if b then kind.Low else if c then kind_of_reference p t else kind.Undefined)
      chain a b c i j k = ap (λ x. if x then kind.Word else if is_wide t then kind.Low else if is_reference t then kind_of_reference p t else kind.Undefined) i
          ∙ (ap (λ x. if a then kind.Word else if x then kind.Low else if is_reference t then kind_of_reference p t else kind.Undefined) j
          ∙ ap (λ x. if a then kind.Word else if b then kind.Low else if x then kind_of_reference p t else kind.Undefined) k)

      items : (b c : Bool) → is_wide t ≡ b → is_reference t ≡ c → item_kind p t ≡ (if b then kind.Low else if c then kind_of_reference p t else kind.Word)
      items b c j k = ap (λ x. if x then kind.Low else if is_reference t then kind_of_reference p t else kind.Word) j
          ∙ ap (λ x. if b then kind.Low else if x then kind_of_reference p t else kind.Word) k

      by : (a b c : Bool) → is_word t ≡ a → is_wide t ≡ b → is_reference t ≡ c → Sorted t
      by true b c i j k = let n = word_alone t i in OfWord i n.0 n.1 (chain true false false i n.0 n.1) (items false false n.0 n.1)
      by false true c i j k = let n = wide_alone t j in OfWide i j n (chain false true false i j n) (items true false j n)
      by false false true i j k = OfReference i j k (chain false false true i j k) (items false true j k)
      by false false false i j k = OfNone i j k (chain false false false i j k) (items false false j k)

  -- the kind of a type that isn't wide is no half of one
  pub no_half : (t : Text) → is_wide t ≡ false → IsNoHalf (kind_of p t)
  no_half t e = by (sorted t) (ref_sort t)
    where
      by : Sorted t → RefSort t → IsNoHalf (kind_of p t)
      by (OfWord i b c j l) s = subst IsNoHalf (sym j) (refl, refl)
      by (OfWide i b c j l) s = absurd (true≢false (sym b ∙ e))
      by (OfReference i b c j l) (AnArray y z) = subst IsNoHalf (sym (j ∙ z)) (refl, refl)
      by (OfReference i b c j l) (APlain y v z) = subst IsNoHalf (sym (j ∙ z)) (refl, refl)
      by (OfReference i b c j l) (AnAny y v z) = subst IsNoHalf (sym (j ∙ z)) (refl, refl)
      by (OfNone i b c j l) s = subst IsNoHalf (sym j) (refl, refl)
