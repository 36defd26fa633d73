-- The order of kinds is transitive.
use Rattle.std.proofs.Common.{◌≡◌, ℕ, Bool, true, false, true≢false, refl, sym, ap, ◌∙◌, subst, eqb-true, nat_eq}
use Rattle.std.specs.Prelude.{Option, Some, None, if◌then◌else◌}
use Rattle.lemmas.proofs.Bools.{and_right}
use Rattle.dalvik_defs.specs.Names.{Text, text_eq}
use Rattle.dalvik_defs.specs.declared.program.NamedProgram.{NamedProgram}
use Rattle.dalvik_defs.proofs.Calm.{text_sound}
use Rattle.pass_defs.specs.Kinds.{Kind, Undefined, Zero, Word, Low, High, Null, Class, Array, Reference, Fresh, FreshThis, kind_eq, nearest, class_or_reference, joined_arrays, is_below}
use Rattle.program_laws.proofs.ChangedLists.{and_left}
use Rattle.program_laws.specs.Rooted.{IsRooted}
use Rattle.program_laws.proofs.Lines.{near_trans}
use Rattle.program_laws.proofs.Arrays.{text_same, Up, up_of, up_trans}

eq_sound : (a b : Kind) → kind_eq a b ≡ true → a ≡ b
eq_sound (Class s) (Class t) e = ap Class (text_sound s t e)
eq_sound (Array s) (Array t) e = ap Array (text_sound s t e)
eq_sound (Fresh s n) (Fresh t m) e = ap (λ x. Fresh x n) (text_sound s t (and_left (text_eq s t) (nat_eq n m) e)) ∙ ap (Fresh t) (eqb-true n m (and_right (text_eq s t) (nat_eq n m) e))
eq_sound Undefined Undefined e = refl
eq_sound Zero Zero e = refl
eq_sound Word Word e = refl
eq_sound Low Low e = refl
eq_sound High High e = refl
eq_sound Null Null e = refl
eq_sound Reference Reference e = refl
eq_sound FreshThis FreshThis e = refl
eq_sound a b e = absurd (true≢false (sym e))

module _ (p : NamedProgram) (regular : IsRooted p) where
  undefined_above : (k : Kind) → is_below p k Undefined ≡ true
  undefined_above Undefined = refl
  undefined_above Zero = refl
  undefined_above Word = refl
  undefined_above Low = refl
  undefined_above High = refl
  undefined_above Null = refl
  undefined_above (Class t) = refl
  undefined_above (Array t) = refl
  undefined_above Reference = refl
  undefined_above (Fresh t n) = refl
  undefined_above FreshThis = refl

  -- what stands properly below what
  data Proper : Kind → Kind → Type 0 where
    ZeroWord : Proper Zero Word
    ZeroNull : Proper Zero Null
    ZeroClass : (t : Text) → Proper Zero (Class t)
    ZeroArray : (t : Text) → Proper Zero (Array t)
    ZeroReference : Proper Zero Reference
    NullClass : (t : Text) → Proper Null (Class t)
    NullArray : (t : Text) → Proper Null (Array t)
    NullReference : Proper Null Reference
    ClassClass : (s t : Text) → nearest p s t ≡ Some t → Proper (Class s) (Class t)
    ClassReference : (s : Text) → Proper (Class s) Reference
    ArrayArray : (s t : Text) → Up p regular s t → Proper (Array s) (Array t)
    ArrayReference : (s : Text) → Proper (Array s) Reference

  class_proper : (s t : Text) → text_eq s t ≡ false → is_below p (Class s) (Class t) ≡ true → Proper (Class s) (Class t)
  class_proper s t n e = by (nearest p s t) refl (sym (ap (λ b. kind_eq (if b then Class s else class_or_reference (nearest p s t)) (Class t)) n) ∙ e)
    where
      by : (o : Option Text) → nearest p s t ≡ o → kind_eq (class_or_reference o) (Class t) ≡ true → Proper (Class s) (Class t)
      by None i d = absurd (true≢false (sym d))
      by (Some c) i d = ClassClass s t (i ∙ ap Some (text_sound c t d))

  array_proper : (s t : Text) → text_eq s t ≡ false → is_below p (Array s) (Array t) ≡ true → Proper (Array s) (Array t)
  array_proper s t n e = ArrayArray s t (up_of p regular s t (sym (ap (λ b. kind_eq (if b then Array s else joined_arrays p s t) (Array t)) n) ∙ e))

  fresh_proper : {A : Type 0} (s t : Text) (n m : ℕ) → kind_eq (Fresh s n) (Fresh t m) ≡ false → is_below p (Fresh s n) (Fresh t m) ≡ true → A
  fresh_proper s t n m i e = absurd (true≢false (sym (sym (ap (λ b. kind_eq (if b then Fresh s n else Undefined) (Fresh t m)) i) ∙ e)))

  proper : (a b : Kind) → kind_eq a b ≡ false → kind_eq b Undefined ≡ false → is_below p a b ≡ true → Proper a b
  proper a Undefined n u e = absurd (true≢false u)
  proper Zero Word n u e = ZeroWord
  proper Zero Null n u e = ZeroNull
  proper Zero (Class t) n u e = ZeroClass t
  proper Zero (Array t) n u e = ZeroArray t
  proper Zero Reference n u e = ZeroReference
  proper Null (Class t) n u e = NullClass t
  proper Null (Array t) n u e = NullArray t
  proper Null Reference n u e = NullReference
  proper (Class s) (Class t) n u e = class_proper s t n e
  proper (Class s) Reference n u e = ClassReference s
  proper (Array s) (Array t) n u e = array_proper s t n e
  proper (Array s) Reference n u e = ArrayReference s
  proper (Fresh s n) (Fresh t m) i u e = fresh_proper s t n m i e
  proper Zero Zero n u e = absurd (true≢false n)
  proper Word Word n u e = absurd (true≢false n)
  proper Low Low n u e = absurd (true≢false n)
  proper High High n u e = absurd (true≢false n)
  proper Null Null n u e = absurd (true≢false n)
  proper Reference Reference n u e = absurd (true≢false n)
  proper FreshThis FreshThis n u e = absurd (true≢false n)
  proper a b n u e = absurd (true≢false (sym e))

  class_below : (s v : Text) → nearest p s v ≡ Some v → is_below p (Class s) (Class v) ≡ true
  class_below s v e = by (text_eq s v) refl
    where
      by : (b : Bool) → text_eq s v ≡ b → kind_eq (if b then Class s else class_or_reference (nearest p s v)) (Class v) ≡ true
      by true i = i
      by false i = ap (λ o. kind_eq (class_or_reference o) (Class v)) e ∙ text_same v

  array_below : (s v : Text) → kind_eq (joined_arrays p s v) (Array v) ≡ true → is_below p (Array s) (Array v) ≡ true
  array_below s v e = by (text_eq s v) refl
    where
      by : (b : Bool) → text_eq s v ≡ b → kind_eq (if b then Array s else joined_arrays p s v) (Array v) ≡ true
      by true i = i
      by false i = e

  both : (a b c : Kind) → Proper a b → Proper b c → is_below p a c ≡ true
  both _ _ _ ZeroNull (NullClass t) = text_same t
  both _ _ _ ZeroNull (NullArray t) = text_same t
  both _ _ _ ZeroNull NullReference = refl
  both _ _ _ (ZeroClass s) (ClassClass _ t h) = text_same t
  both _ _ _ (ZeroClass s) (ClassReference _) = refl
  both _ _ _ (ZeroArray s) (ArrayArray _ t h) = text_same t
  both _ _ _ (ZeroArray s) (ArrayReference _) = refl
  both _ _ _ (NullClass s) (ClassClass _ t h) = text_same t
  both _ _ _ (NullClass s) (ClassReference _) = refl
  both _ _ _ (NullArray s) (ArrayArray _ t h) = text_same t
  both _ _ _ (NullArray s) (ArrayReference _) = refl
  both _ _ _ (ClassClass s t h) (ClassClass _ v k) = class_below s v (near_trans p regular s t v h k)
  both _ _ _ (ClassClass s t h) (ClassReference _) = refl
  both _ _ _ (ArrayArray s t h) (ArrayArray _ v k) = array_below s v (up_trans p regular s t v h k)
  both _ _ _ (ArrayArray s t h) (ArrayReference _) = refl
  both _ _ c ZeroWord k = elim k [ ]
  both _ _ c ZeroReference k = elim k [ ]
  both _ _ c NullReference k = elim k [ ]
  both _ _ c (ClassReference s) k = elim k [ ]
  both _ _ c (ArrayReference s) k = elim k [ ]

  pub transitive : (a b c : Kind) → is_below p a b ≡ true → is_below p b c ≡ true → is_below p a c ≡ true
  transitive a b c e d = by (kind_eq a b) (kind_eq b c) (kind_eq c Undefined) refl refl refl
    where
      not_undefined : (x y : Kind) → Proper x y → kind_eq x Undefined ≡ false
      not_undefined _ _ ZeroWord = refl
      not_undefined _ _ ZeroNull = refl
      not_undefined _ _ (ZeroClass t) = refl
      not_undefined _ _ (ZeroArray t) = refl
      not_undefined _ _ ZeroReference = refl
      not_undefined _ _ (NullClass t) = refl
      not_undefined _ _ (NullArray t) = refl
      not_undefined _ _ NullReference = refl
      not_undefined _ _ (ClassClass s t h) = refl
      not_undefined _ _ (ClassReference s) = refl
      not_undefined _ _ (ArrayArray s t h) = refl
      not_undefined _ _ (ArrayReference s) = refl

      by : (x y z : Bool) → kind_eq a b ≡ x → kind_eq b c ≡ y → kind_eq c Undefined ≡ z → is_below p a c ≡ true
      by true y z i j k = subst (λ v. is_below p v c ≡ true) (sym (eq_sound a b i)) d
      by false true z i j k = subst (λ v. is_below p a v ≡ true) (eq_sound b c j) e
      by false false true i j k = subst (λ v. is_below p a v ≡ true) (sym (eq_sound c Undefined k)) (undefined_above a)
      by false false false i j k = let h = proper b c j k d in both a b c (proper a b i (not_undefined b c h) e) h
