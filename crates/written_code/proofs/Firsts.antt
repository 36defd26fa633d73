-- First values are read back as those of the static fields.
use Rattle.std.proofs.Common.{◌≡◌, ◌≤◌, ◌-◌, ℕ, zero, suc, pos, Bool, true, false, List, [], ◌∷◌, map, take, refl, sym, ap, subst, ◌∙◌, arith, Option, Some, None, All}
use Rattle.std.specs.Prelude.{slice_get, nat_eq, not, ◌==◌, if◌then◌else◌}
use Rattle.std.specs.Option.{option_map}
use Rattle.std.specs.Ordering.{int_eq}
use Rattle.std.specs.List.{AllByRecursion}
use Rattle.std.proofs.lemmas.Bool.{and_parts}
use Rattle.std.proofs.lemmas.List.Elements.{All-nil, All-cons}
use Rattle.lemmas.proofs.Bools.{not_true}
use Rattle.program_model.specs.declared.pass.Renumber.{Renumber}
use Rattle.program_model.specs.declared.value.EncValue.{EncValue, EncValue-F, roll-EncValue, out-EncValue, out-roll-EncValue}
use Rattle.program_model.specs.declared.value.EncValue.TheOpen as layer
use Rattle.program_model.specs.declared.value.EncValue.TheVariants as variant
use Rattle.program_model.specs.declared.value.EncValue.TheFolds.{ind-EncValue}
use Rattle.program_model.specs.declared.value.Element.{Element}
use Rattle.program_model.specs.declared.value.Note.{Note}
use Rattle.program_model.specs.declared.program.Field.{Field}
use Rattle.program_model.specs.declared.program.Class.{Class}
use Rattle.program_model.specs.declared.program.Program.{Program}
use Rattle.program_model.specs.Texts.{is_reference, has_string, has_type}
use Rattle.program_model.specs.ValueRules.{layer_fits}
use Rattle.dex_write.specs.Plans.{Numbered}
use Rattle.dex_write.specs.Data.{has_first, first_count, zero_of, value_or}
use Rattle.dex_defs.specs.Values.{suits, tag_of, is_of, layer_is_zero, first_of, letter_of_field, AreFirsts}
use Rattle.dex_defs.specs.Written.{new_value}
use Rattle.written_file.proofs.News.{new_open, newly}

-- ---- one value

-- the letter of a type that a field may have
abbrev pub IsFieldLetter : ℕ → Type 0
IsFieldLetter letter = (letter == 90) ≡ false → (letter == 66) ≡ false → (letter == 83) ≡ false → (letter == 67) ≡ false → (letter == 73) ≡ false → (letter == 74) ≡ false → (letter == 70) ≡ false → (letter == 68) ≡ false → is_reference letter ≡ true

module _ (p : Program) (r : Renumber) where
  abbrev Suits : ℕ → EncValue → Type 0
  Suits letter v = is_of letter (new_value r v) ≡ true

  -- what a new value is made of
  out_new : (x : EncValue-F EncValue Element Note) → out-EncValue (new_value r (roll-EncValue x)) ≡ new_open r x
  out_new x = ap (λ (v : EncValue). out-EncValue v) (newly r x) ∙ out-roll-EncValue (new_open r x)

  rolled_suits : (letter : ℕ) (x : EncValue-F EncValue Element Note) → suits letter (tag_of (new_open r x)) ≡ true → Suits letter (roll-EncValue x)
  rolled_suits letter x own = subst (λ z. suits letter (tag_of z) ≡ true) (sym (out_new x)) own

  layer_suits : (letter : ℕ) (x : EncValue-F EncValue Element Note) → layer_fits p letter x ≡ true → suits letter (tag_of (new_open r x)) ≡ true
  layer_suits letter (layer.Byte z) f = (and_parts (letter == 66) (not (int_eq z (pos 0))) f).0
  layer_suits letter (layer.Short z) f = (and_parts (letter == 83) (not (int_eq z (pos 0))) f).0
  layer_suits letter (layer.Char z) f = (and_parts (letter == 67) (not (nat_eq z 0)) f).0
  layer_suits letter (layer.Int z) f = (and_parts (letter == 73) (not (int_eq z (pos 0))) f).0
  layer_suits letter (layer.Long z) f = (and_parts (letter == 74) (not (int_eq z (pos 0))) f).0
  layer_suits letter (layer.Float z) f = (and_parts (letter == 70) (not (nat_eq z 0)) f).0
  layer_suits letter (layer.Double z) f = (and_parts (letter == 68) (not (nat_eq z 0)) f).0
  layer_suits letter (layer.Str n) f = (and_parts (is_reference letter) (has_string p n) f).0
  layer_suits letter (layer.Class n) f = (and_parts (is_reference letter) (has_type p n) f).0
  layer_suits letter (layer.Field n) f = absurd cc
  layer_suits letter (layer.Method n) f = absurd cc
  layer_suits letter (layer.Enum n) f = absurd cc
  layer_suits letter (layer.Array vs) f = absurd cc
  layer_suits letter (layer.Annotation n) f = absurd cc
  layer_suits letter layer.Null f = absurd cc
  layer_suits letter (layer.Bool b) f = (and_parts (letter == 90) b f).0

  layer_some : (letter : ℕ) (x : EncValue-F EncValue Element Note) → layer_fits p letter x ≡ true → layer_is_zero (new_open r x) ≡ false
  layer_some letter (layer.Byte z) f = not_true (int_eq z (pos 0)) (and_parts (letter == 66) (not (int_eq z (pos 0))) f).1
  layer_some letter (layer.Short z) f = not_true (int_eq z (pos 0)) (and_parts (letter == 83) (not (int_eq z (pos 0))) f).1
  layer_some letter (layer.Char z) f = not_true (nat_eq z 0) (and_parts (letter == 67) (not (nat_eq z 0)) f).1
  layer_some letter (layer.Int z) f = not_true (int_eq z (pos 0)) (and_parts (letter == 73) (not (int_eq z (pos 0))) f).1
  layer_some letter (layer.Long z) f = not_true (int_eq z (pos 0)) (and_parts (letter == 74) (not (int_eq z (pos 0))) f).1
  layer_some letter (layer.Float z) f = not_true (nat_eq z 0) (and_parts (letter == 70) (not (nat_eq z 0)) f).1
  layer_some letter (layer.Double z) f = not_true (nat_eq z 0) (and_parts (letter == 68) (not (nat_eq z 0)) f).1
  layer_some letter (layer.Str n) f = refl
  layer_some letter (layer.Class n) f = refl
  layer_some letter (layer.Field n) f = refl
  layer_some letter (layer.Method n) f = refl
  layer_some letter (layer.Enum n) f = refl
  layer_some letter (layer.Array vs) f = refl
  layer_some letter (layer.Annotation n) f = refl
  layer_some letter layer.Null f = absurd cc
  layer_some letter (layer.Bool b) f = ap not (and_parts (letter == 90) b f).1

  abbrev Outer : EncValue → Type 0
  Outer v = (letter : ℕ) → layer_fits p letter (out-EncValue v) ≡ true → Suits letter v × (layer_is_zero (out-EncValue (new_value r v)) ≡ false)

  outer : (v : EncValue) → Outer v
  outer = ind-EncValue Outer (λ e. Unit {0}) (λ n. Unit {0}) (λ x y is letter f.
      let own : layer_fits p letter x ≡ true = subst (λ z. layer_fits p letter z ≡ true) (out-roll-EncValue x) f in
      (rolled_suits letter x (layer_suits letter x own), ap (λ z. layer_is_zero z) (out_new x) ∙ layer_some letter x own)) (λ x y is. tt) (λ x y is. tt)

  -- ---- what a field holds that has no first value

  abbrev IsZero : EncValue → Type 0
  IsZero v = layer_is_zero (out-EncValue (new_value r v)) ≡ true

  rolled_zero : (x : EncValue-F EncValue Element Note) → layer_is_zero (new_open r x) ≡ true → IsZero (roll-EncValue x)
  rolled_zero x own = ap (λ z. layer_is_zero z) (out_new x) ∙ own

  pick : (P : EncValue → Type 0) (t : Bool) (a b : EncValue) → (t ≡ true → P a) → (t ≡ false → P b) → P (if t then a else b)
  pick P true a b x y = x refl
  pick P false a b x y = y refl

  zero_zero : (letter : ℕ) → IsZero (zero_of letter)
  zero_zero letter =
      pick IsZero (letter == 90) _ _ (λ e. subst IsZero (variant.rolls-Bool false) (rolled_zero (layer.Bool false) refl)) (λ e.
      pick IsZero (letter == 66) _ _ (λ e. subst IsZero (variant.rolls-Byte (pos 0)) (rolled_zero (layer.Byte (pos 0)) refl)) (λ e.
      pick IsZero (letter == 83) _ _ (λ e. subst IsZero (variant.rolls-Short (pos 0)) (rolled_zero (layer.Short (pos 0)) refl)) (λ e.
      pick IsZero (letter == 67) _ _ (λ e. subst IsZero (variant.rolls-Char 0) (rolled_zero (layer.Char 0) refl)) (λ e.
      pick IsZero (letter == 73) _ _ (λ e. subst IsZero (variant.rolls-Int (pos 0)) (rolled_zero (layer.Int (pos 0)) refl)) (λ e.
      pick IsZero (letter == 74) _ _ (λ e. subst IsZero (variant.rolls-Long (pos 0)) (rolled_zero (layer.Long (pos 0)) refl)) (λ e.
      pick IsZero (letter == 70) _ _ (λ e. subst IsZero (variant.rolls-Float 0) (rolled_zero (layer.Float 0) refl)) (λ e.
      pick IsZero (letter == 68) _ _ (λ e. subst IsZero (variant.rolls-Double 0) (rolled_zero (layer.Double 0) refl)) (λ e. subst IsZero variant.rolls-Null (rolled_zero layer.Null refl)))))))))

  zero_suits : (letter : ℕ) → IsFieldLetter letter → Suits letter (zero_of letter)
  zero_suits letter any =
      pick (Suits letter) (letter == 90) _ _ (λ e. subst (Suits letter) (variant.rolls-Bool false) (rolled_suits letter (layer.Bool false) e)) (λ a.
      pick (Suits letter) (letter == 66) _ _ (λ e. subst (Suits letter) (variant.rolls-Byte (pos 0)) (rolled_suits letter (layer.Byte (pos 0)) e)) (λ b.
      pick (Suits letter) (letter == 83) _ _ (λ e. subst (Suits letter) (variant.rolls-Short (pos 0)) (rolled_suits letter (layer.Short (pos 0)) e)) (λ c.
      pick (Suits letter) (letter == 67) _ _ (λ e. subst (Suits letter) (variant.rolls-Char 0) (rolled_suits letter (layer.Char 0) e)) (λ d.
      pick (Suits letter) (letter == 73) _ _ (λ e. subst (Suits letter) (variant.rolls-Int (pos 0)) (rolled_suits letter (layer.Int (pos 0)) e)) (λ g.
      pick (Suits letter) (letter == 74) _ _ (λ e. subst (Suits letter) (variant.rolls-Long (pos 0)) (rolled_suits letter (layer.Long (pos 0)) e)) (λ h.
      pick (Suits letter) (letter == 70) _ _ (λ e. subst (Suits letter) (variant.rolls-Float 0) (rolled_suits letter (layer.Float 0) e)) (λ j.
      pick (Suits letter) (letter == 68) _ _ (λ e. subst (Suits letter) (variant.rolls-Double 0) (rolled_suits letter (layer.Double 0) e)) (λ k. subst (Suits letter) variant.rolls-Null (rolled_suits letter layer.Null (any a b c d g h j k))))))))))

  -- ---- a field's value

  -- a first value, or zero, false or null where there is none
  pub one_suits : (letter : ℕ) (o : Option EncValue) → IsFieldLetter letter → ((v : EncValue) → o ≡ Some v → layer_fits p letter (out-EncValue v) ≡ true) → Suits letter (value_or letter o) × (option_map (new_value r) o ≡ first_of (new_value r (value_or letter o)))
  one_suits letter None any fits =
      (zero_suits letter any, sym (ap (λ (b : Bool). if b then None else Some (new_value r (zero_of letter))) (zero_zero letter)))
  one_suits letter (Some v) any fits =
      let both = outer v letter (fits v refl) in
      (both.0, sym (ap (λ (b : Bool). if b then None else Some (new_value r v)) both.1))

-- ---- the fields of a class

count_least : (c : Class) (place count : ℕ) (fs : List Numbered) → count ≤ place → count ≤ first_count c place count fs
count_least c place count [] le = omega arith
count_least c place count (f ∷ fs) le = by (has_first (slice_get c.fields f.1)) (count_least c (suc place) (suc place) fs (omega arith)) (count_least c (suc place) count fs (omega (arith, le)))
  where
    by : (b : Bool) → suc place ≤ first_count c (suc place) (suc place) fs → count ≤ first_count c (suc place) count fs → count ≤ first_count c (suc place) (if b then suc place else count) fs
    by true x y = omega (arith, x, le)
    by false x y = y

module _ (q : Program) (c : Class) (val : Numbered → EncValue) (fld : Numbered → Field) where
  -- what a static field and its value have to be
  pub record FitsFirst (f : Numbered) : Type 0 where
    pub suits : is_of (letter_of_field q (fld f).name) (val f) ≡ true
    pub first : (fld f).first ≡ first_of (val f)
    pub none : has_first (slice_get c.fields f.1) ≡ false → (fld f).first ≡ None

  none_from : (place count n : ℕ) (fs : List Numbered) → count ≤ place → n ≤ place → first_count c place count fs ≡ n → AllByRecursion FitsFirst fs → All (λ f. f.first ≡ None) (map fld fs)
  none_from place count n [] le low e a = All-nil (λ (f : Field). f.first ≡ None)
  none_from place count n (f ∷ fs) le low e a = by (has_first (slice_get c.fields f.1)) refl (count_least c (suc place) (suc place) fs (omega arith)) (none_from (suc place) count n fs (omega (arith, le)) (omega (arith, low)))
    where
      by : (b : Bool) → has_first (slice_get c.fields f.1) ≡ b → suc place ≤ first_count c (suc place) (suc place) fs → (first_count c (suc place) count fs ≡ n → AllByRecursion FitsFirst fs → All (λ f. f.first ≡ None) (map fld fs)) → All (λ f. f.first ≡ None) (map fld (f ∷ fs))
      by true t least more = absurd (let same : first_count c (suc place) (suc place) fs ≡ n = sym (ap (λ (b : Bool). first_count c (suc place) (if b then suc place else count) fs) t) ∙ e in omega (arith, same, least, low))
      by false t least more = All-cons (λ (f : Field). f.first ≡ None) (fld f) (map fld fs) (a.0.none t) (more (sym (ap (λ (b : Bool). first_count c (suc place) (if b then suc place else count) fs) t) ∙ e) a.1)

  firsts_from : (place count n : ℕ) (fs : List Numbered) → count ≤ place → first_count c place count fs ≡ n → AllByRecursion FitsFirst fs → (k : ℕ) → k ≡ n - place → AreFirsts q (map val (take k fs)) (map fld fs)
  firsts_from place count n [] le e a zero same = All-nil (λ (f : Field). f.first ≡ None)
  firsts_from place count n [] le e a (suc k) same = All-nil (λ (f : Field). f.first ≡ None)
  firsts_from place count n (f ∷ fs) le e a zero same = none_from place count n (f ∷ fs) le (omega (arith, same)) e a
  firsts_from place count n (f ∷ fs) le e a (suc k) same = (a.0.suits, a.0.first, by (has_first (slice_get c.fields f.1)) refl (λ d. firsts_from (suc place) (suc place) n fs (omega arith) d a.1 k (omega (arith, same))) (λ d. firsts_from (suc place) count n fs (omega (arith, le)) d a.1 k (omega (arith, same))))
    where
      by : (b : Bool) → has_first (slice_get c.fields f.1) ≡ b → (first_count c (suc place) (suc place) fs ≡ n → AreFirsts q (map val (take k fs)) (map fld fs)) → (first_count c (suc place) count fs ≡ n → AreFirsts q (map val (take k fs)) (map fld fs)) → AreFirsts q (map val (take k fs)) (map fld fs)
      by true t x y = x (sym (ap (λ (b : Bool). first_count c (suc place) (if b then suc place else count) fs) t) ∙ e)
      by false t x y = y (sym (ap (λ (b : Bool). first_count c (suc place) (if b then suc place else count) fs) t) ∙ e)

  pub firsts_are : (fs : List Numbered) → AllByRecursion FitsFirst fs → AreFirsts q (map val (take (first_count c 0 0 fs) fs)) (map fld fs)
  firsts_are fs a = firsts_from 0 0 (first_count c 0 0 fs) fs (omega arith) refl a (first_count c 0 0 fs) (omega arith)
