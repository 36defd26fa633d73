-- Kinds in whose place a constant leaves no more.
use Rattle.std.proofs.Common.{◌≡◌, ℕ, zero, suc, ℤ, pos, Bool, true, false, true≢false, [], ◌∷◌, refl, sym, ap, subst, arith, eqb-true}
use Rattle.std.specs.Prelude.{◌==◌, ◌||◌, if◌then◌else◌, nat_eq, Option, Some, None, slice_get}
use Rattle.std.specs.Int.{w32, cast_unsigned}
use Rattle.std.specs.Ordering.{int_eq}
use Rattle.std.specs.Cmp.Lexicographic.{bytes_decides}
use Rattle.std.proofs.lemmas.Int.{ints}
use Rattle.lemmas.proofs.Bools.{clash}
use Rattle.program_model.specs.declared.program.Class.{Class}
use Rattle.program_model.specs.declared.program.Program.{Program}
use Rattle.dalvik_defs.specs.Names.{Text, text_eq, is_word, is_wide, is_reference, is_array}
use Rattle.dalvik_defs.specs.declared.program.NamedProgram.{NamedProgram}
use Rattle.pass_defs.specs.Kinds.{Kind, Undefined, Zero, Word, Low, High, Null, Class as ClassOf, Array, Reference, Fresh, FreshThis, is_below, is_initialised, is_number, is_plain, kind_eq, kind_of, kind_of_reference}
use Rattle.pass_defs.specs.Typed.{constant_kind}
use Rattle.std.specs.Int.RustNames.{FitsSigned}
use Rattle.verify.specs.Kinds as number
use Rattle.verify.specs.declared.kinds.Kind as verify
use Rattle.verify.specs.declared.kinds.Kind.TheVariants as kind
use Rattle.type_bridge.specs.Views.{array_kind, class_kind, kind_named}
use Rattle.const_prop.specs.declared.numbers.Number.TheVariants as value
use Rattle.const_prop.specs.Kinds.{in_kind, is_free, is_word as is_word_kind}

text_self : (t : Text) → text_eq t t ≡ true
text_self t = (bytes_decides t t).1 refl

-- ---- numbers

-- the constant of 0 is 0
pub zero_kind : (z : ℤ) → FitsSigned w32 z → (cast_unsigned w32 z == 0) ≡ true → constant_kind z ≡ Zero
zero_kind z small e =
    let b : cast_unsigned w32 z ≡ 0 = eqb-true (cast_unsigned w32 z) 0 e in
    let whole : z ≡ pos 0 = omega (arith, ints, small, b) in
    ap constant_kind whole

module _ (q : NamedProgram) where
  pub above_constant : (z : ℤ) (k : Kind) → is_below q Zero k ≡ true → is_below q Word k ≡ true → is_below q (constant_kind z) k ≡ true
  above_constant z k e d = by (int_eq z (pos 0))
    where
      by : (b : Bool) → is_below q (if b then Zero else Word) k ≡ true
      by true = e
      by false = d

  pub word_above : (z : ℤ) → is_below q (constant_kind z) Word ≡ true
  word_above z = above_constant z Word refl refl

  pub free_above : (z : ℤ) → is_below q (constant_kind z) Undefined ≡ true
  free_above z = above_constant z Undefined refl refl

  pub zero_initialised : (k : Kind) → is_initialised k ≡ true → is_below q Zero k ≡ true
  zero_initialised Zero e = refl
  zero_initialised Null e = refl
  zero_initialised (ClassOf t) e = text_self t
  zero_initialised (Array t) e = text_self t
  zero_initialised Reference e = refl
  zero_initialised k e = clash false e refl

  pub zero_number : (k : Kind) → is_number k ≡ true → is_below q Zero k ≡ true
  zero_number Zero e = refl
  zero_number Word e = refl
  zero_number k e = clash false e refl

  -- what is above a kind that isn't initialised isn't
  pub initialised_under : (k l : Kind) → is_initialised l ≡ true → is_below q k l ≡ true → is_initialised k ≡ true
  initialised_under Zero l i e = refl
  initialised_under Null l i e = refl
  initialised_under (ClassOf t) l i e = refl
  initialised_under (Array t) l i e = refl
  initialised_under Reference l i e = refl
  initialised_under Undefined l i e = absurd (none_under l i e)
    where
      none_under : (l : Kind) → is_initialised l ≡ true → is_below q Undefined l ≡ true → ⊥
      none_under Undefined i e = true≢false (sym i)
      none_under l i e = true≢false (sym e)
  initialised_under Word l i e = absurd (none_under l i e)
    where
      none_under : (l : Kind) → is_initialised l ≡ true → is_below q Word l ≡ true → ⊥
      none_under Undefined i e = true≢false (sym i)
      none_under Word i e = true≢false (sym i)
      none_under l i e = true≢false (sym e)
  initialised_under Low l i e = absurd (none_under l i e)
    where
      none_under : (l : Kind) → is_initialised l ≡ true → is_below q Low l ≡ true → ⊥
      none_under Undefined i e = true≢false (sym i)
      none_under Low i e = true≢false (sym i)
      none_under l i e = true≢false (sym e)
  initialised_under High l i e = absurd (none_under l i e)
    where
      none_under : (l : Kind) → is_initialised l ≡ true → is_below q High l ≡ true → ⊥
      none_under Undefined i e = true≢false (sym i)
      none_under High i e = true≢false (sym i)
      none_under l i e = true≢false (sym e)
  initialised_under (Fresh t n) l i e = absurd (none_under l i e)
    where
      none_under : (l : Kind) → is_initialised l ≡ true → is_below q (Fresh t n) l ≡ true → ⊥
      none_under Undefined i e = true≢false (sym i)
      none_under (Fresh u m) i e = true≢false (sym i)
      none_under l i e = true≢false (sym e)
  initialised_under FreshThis l i e = absurd (none_under l i e)
    where
      none_under : (l : Kind) → is_initialised l ≡ true → is_below q FreshThis l ≡ true → ⊥
      none_under Undefined i e = true≢false (sym i)
      none_under FreshThis i e = true≢false (sym i)
      none_under l i e = true≢false (sym e)

  -- ---- kinds of types

  reference_initialised : (t : Text) → is_initialised (kind_of_reference q t) ≡ true
  reference_initialised t = by (is_array t) (is_plain q t)
    where
      by : (a b : Bool) → is_initialised (if a then Array t else if b then ClassOf t else Reference) ≡ true
      by true b = refl
      by false true = refl
      by false false = refl

  reference_not_zero : (t : Text) → is_below q (kind_of_reference q t) Zero ≡ false
  reference_not_zero t = by (is_array t) (is_plain q t)
    where
      by : (a b : Bool) → is_below q (if a then Array t else if b then ClassOf t else Reference) Zero ≡ false
      by true b = refl
      by false true = refl
      by false false = refl

  -- no type's kind is the constant 0 alone
  pub type_not_zero : (t : Text) → is_below q (kind_of q t) Zero ≡ false
  type_not_zero t = by (is_word t) (is_wide t) (is_reference t)
    where
      by : (a b c : Bool) → is_below q (if a then Word else if b then Low else if c then kind_of_reference q t else Undefined) Zero ≡ false
      by true b c = refl
      by false true c = refl
      by false false true = reference_not_zero t
      by false false false = refl

  -- a type whose kind is initialised is one of references
  pub type_of_objects : (t : Text) → is_initialised (kind_of q t) ≡ true → is_reference t ≡ true
  type_of_objects t e = by (is_word t) (is_wide t) (is_reference t) refl e
    where
      by : (a b c : Bool) → is_reference t ≡ c → is_initialised (if a then Word else if b then Low else if c then kind_of_reference q t else Undefined) ≡ true → is_reference t ≡ true
      by true b c i e = absurd (true≢false (sym e))
      by false true c i e = absurd (true≢false (sym e))
      by false false true i e = i
      by false false false i e = absurd (true≢false (sym e))

  -- the letters tell words, wides and references apart
  reference_only : (t : Text) → is_reference t ≡ true → (is_word t ≡ false) × (is_wide t ≡ false)
  reference_only [] e = absurd (true≢false (sym e))
  reference_only (u ∷ us) e = by (nat_eq u 76) refl e
    where
      at_letter : (n : ℕ) → u ≡ n → (is_word (n ∷ us) ≡ false) × (is_wide (n ∷ us) ≡ false) → (is_word (u ∷ us) ≡ false) × (is_wide (u ∷ us) ≡ false)
      at_letter n i h = subst (λ u. (is_word (u ∷ us) ≡ false) × (is_wide (u ∷ us) ≡ false)) (sym i) h

      by : (b : Bool) → nat_eq u 76 ≡ b → (b || nat_eq u 91) ≡ true → (is_word (u ∷ us) ≡ false) × (is_wide (u ∷ us) ≡ false)
      by true i h = at_letter 76 (eqb-true u 76 i) (refl, refl)
      by false i h = at_letter 91 (eqb-true u 91 h) (refl, refl)

  pub zero_object : (t : Text) → is_reference t ≡ true → is_below q Zero (kind_of q t) ≡ true
  zero_object t e =
      let l = reference_only t e in
      subst (λ k. is_below q Zero k ≡ true) (sym (by (is_word t) (is_wide t) (is_reference t) l.0 l.1 e)) (zero_initialised (kind_of_reference q t) (reference_initialised t))
    where
      by : (a b c : Bool) → a ≡ false → b ≡ false → c ≡ true → (if a then Word else if b then Low else if c then kind_of_reference q t else Undefined) ≡ kind_of_reference q t
      by true b c i j k = absurd (true≢false i)
      by false true c i j k = absurd (true≢false j)
      by false false true i j k = refl
      by false false false i j k = absurd (true≢false (sym k))

  -- what is neither wide nor a reference has the kind of words, or none
  pub narrow_type : (z : ℤ) (t : Text) → is_wide t ≡ false → is_reference t ≡ false → is_below q (constant_kind z) (kind_of q t) ≡ true
  narrow_type z t i j = by (is_word t) (is_wide t) (is_reference t) i j
    where
      by : (a b c : Bool) → b ≡ false → c ≡ false → is_below q (constant_kind z) (if a then Word else if b then Low else if c then kind_of_reference q t else Undefined) ≡ true
      by true b c i j = word_above z
      by false true c i j = absurd (true≢false i)
      by false false true i j = absurd (true≢false j)
      by false false false i j = free_above z

  word_not_wide : (t : Text) → is_wide t ≡ true → is_word t ≡ false
  word_not_wide [] e = absurd (true≢false (sym e))
  word_not_wide (u ∷ us) e = by (nat_eq u 74) refl e
    where
      at_letter : (n : ℕ) → u ≡ n → is_word (n ∷ us) ≡ false → is_word (u ∷ us) ≡ false
      at_letter n i h = subst (λ u. is_word (u ∷ us) ≡ false) (sym i) h

      by : (b : Bool) → nat_eq u 74 ≡ b → (b || nat_eq u 68) ≡ true → is_word (u ∷ us) ≡ false
      by true i h = at_letter 74 (eqb-true u 74 i) refl
      by false i h = at_letter 68 (eqb-true u 68 h) refl

  pub wide_type : (t : Text) → is_wide t ≡ true → kind_of q t ≡ Low
  wide_type t e = by (is_word t) (is_wide t) (word_not_wide t e) e
    where
      by : (a b : Bool) → a ≡ false → b ≡ true → (if a then Word else if b then Low else if is_reference t then kind_of_reference q t else Undefined) ≡ Low
      by true b i j = absurd (true≢false i)
      by false true i j = refl
      by false false i j = absurd (true≢false (sym j))

pub low_only : (k : Kind) → kind_eq k Low ≡ true → k ≡ Low
low_only Low e = refl
low_only k e = clash false e refl

-- ---- kinds by number

module _ (p : Program) (q : NamedProgram) where
  zero_class : (o : Option Class) → is_below q Zero (class_kind p o) ≡ true
  zero_class None = refl
  zero_class (Some c) = zero_initialised q (class_kind p (Some c)) refl

  zero_array : (n : ℕ) (i : Option ℕ) → is_below q Zero (array_kind p n i) ≡ true
  zero_array zero i = refl
  zero_array (suc n) i = zero_initialised q (array_kind p (suc n) i) refl

  -- 0 among words and references, and where there is no state
  zero_known : (k : verify.Kind) → (number.is_number k || number.is_initialised k || is_free k) ≡ true → is_below q Zero (kind_named p k) ≡ true
  zero_known kind.Undefined e = refl
  zero_known kind.Word e = refl
  zero_known kind.Zero e = refl
  zero_known kind.Null e = refl
  zero_known (kind.Program c) e = zero_class (slice_get p.classes c)
  zero_known (kind.Array n i) e = zero_array n i
  zero_known kind.Reference e = refl
  zero_known k e = clash false e refl

  word_known : (z : ℤ) (k : verify.Kind) → (is_word_kind k || is_free k) ≡ true → is_below q (constant_kind z) (kind_named p k) ≡ true
  word_known z kind.Undefined e = free_above q z
  word_known z kind.Word e = word_above q z
  word_known z k e = clash false e refl

  pub known_above : (z : ℤ) (k : verify.Kind) → FitsSigned w32 z → in_kind k (value.Word (cast_unsigned w32 z)) ≡ true → is_below q (constant_kind z) (kind_named p k) ≡ true
  known_above z k small e = by (cast_unsigned w32 z == 0) refl e
    where
      by : (b : Bool) → (cast_unsigned w32 z == 0) ≡ b → (if b then number.is_number k || number.is_initialised k || is_free k else is_word_kind k || is_free k) ≡ true → is_below q (constant_kind z) (kind_named p k) ≡ true
      by true i e = subst (λ c. is_below q c (kind_named p k) ≡ true) (sym (zero_kind z small i)) (zero_known k e)
      by false i e = word_known z k e
