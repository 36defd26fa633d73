-- What the texts of types are, letter by letter.
use Rattle.std.proofs.Common.{◌≡◌, ℕ, zero, suc, ◌+◌, ◌<◌, ◌≤◌, Bool, true, false, true≢false, nat_eq, List, [], ◌∷◌, ◌++◌, map, length, Some, refl, sym, ap, ◌∙◌, subst, arith}
use Rattle.std.proofs.lemmas.List.Sums.{sum_by-cons}
use Rattle.std.specs.Prelude.{◌&&◌, ◌||◌, slice_get, is_ok, sum_by, replicate, zip, codes, Result, Ok, Err, if◌then◌else◌}
use Rattle.std.specs.List.{list_all}
use Rattle.class_defs.proofs.Positions.{number_of, entry_at}
use Rattle.class_defs.proofs.WellFormed.{and_left, and_right, all_at}
use Rattle.dex_base.specs.Descriptor.{is_primitive, descriptor_of}
use Rattle.dex_base.specs.Grammar.{OfLetter, OfClass, IsDescriptor, OfVoid, OfElement, OfArray}
use Rattle.dex_base.specs.declared.descriptor.Descriptor.{Descriptor}
use Rattle.dex_base.specs.declared.fault.BaseFault.{BaseFault}
use Rattle.dex_base.proofs.Names.{descriptor_found}
use Rattle.program_model.specs.MemberRules.{words_of}
use Rattle.program_model.specs.TableRules.{type_fits, proto_fits, is_shorty, stands_for, stands_for_parameter}
use Rattle.program_model.specs.Texts.{has_string, has_type, letter_of, first_unit, string_text, type_text, is_wide}
use Rattle.program_model.specs.declared.pools.Proto.{Proto}
use Rattle.program_model.specs.declared.program.Program.{Program}
use Rattle.dalvik_defs.specs.Names as text
use Rattle.dalvik_defs.specs.Names.{Text, text_eq}
use Rattle.dalvik_defs.specs.Naming.{type_at}
use Rattle.name_bridge.proofs.Found.{type_same}
use Rattle.pass_defs.specs.Kinds.{arrays_of}
use Rattle.pass_defs.specs.Typed as typed
use Rattle.verify.specs.declared.shapes.Shape.{Shape}
use Rattle.verify.specs.declared.shapes.Shape.TheVariants as shape
use Rattle.verify.specs.declared.tables.Tables.{Tables}
use Rattle.verify.specs.Descriptors.{short}
use Rattle.verify.specs.Shapes as shapes
use Rattle.verify.specs.Types.{shape_of, item_shape}
use Rattle.type_bridge.specs.Views.{item_text}
use Rattle.type_bridge.proofs.Told.{Told}
use Rattle.type_bridge.proofs.Texts.{split, Sorts, sorts, item_sorts, text_of_type, string_short, low, is_int}
use Rattle.type_bridge.proofs.Fits.{array_text}

ok_is : (r : Result Descriptor BaseFault) → is_ok r ≡ true → (kind : Descriptor) × (r ≡ Ok kind)
ok_is (Ok kind) e = (kind, refl)
ok_is (Err f) e = absurd (true≢false (sym e))

abbrev IsLetter : Text → ℕ → Type 0
IsLetter us v = is_primitive v ≡ true → (text.is_word (v ∷ us) || text.is_wide (v ∷ us)) ≡ true

-- a letter is that of a word or of a wide
letter_sort : (u : ℕ) (us : Text) → is_primitive u ≡ true → (text.is_word (u ∷ us) || text.is_wide (u ∷ us)) ≡ true
letter_sort u us h =
    split u 66 (IsLetter us) (λ h. refl) (λ a.
    split u 67 (IsLetter us) (λ h. refl) (λ b.
    split u 68 (IsLetter us) (λ h. refl) (λ c.
    split u 70 (IsLetter us) (λ h. refl) (λ e.
    split u 73 (IsLetter us) (λ h. refl) (λ f.
    split u 74 (IsLetter us) (λ h. refl) (λ g.
    split u 83 (IsLetter us) (λ h. refl) (λ i.
    split u 90 (IsLetter us) (λ h. refl) (λ j.
    λ h. absurd (true≢false (sym h ∙ none a b c e f g i j)))))))))) h
  where
    none : nat_eq u 66 ≡ false → nat_eq u 67 ≡ false → nat_eq u 68 ≡ false → nat_eq u 70 ≡ false → nat_eq u 73 ≡ false → nat_eq u 74 ≡ false → nat_eq u 83 ≡ false → nat_eq u 90 ≡ false → is_primitive u ≡ false
    none a b c e f g i j = rw a (rw b (rw c (rw e (rw f (rw g (rw i (rw j refl)))))))

none_of : (a b : Bool) → (a || b) ≡ true → a ≡ false → b ≡ false → ⊥
none_of true b e f g = true≢false f
none_of false b e f g = true≢false (sym e ∙ g)

-- a type that is no primitive, no class and no array is void
void_units : (u : Text) (kind : Descriptor) → IsDescriptor u kind → text.is_word u ≡ false → text.is_wide u ≡ false → text.is_reference u ≡ false → text.is_void u ≡ true
void_units u kind (OfVoid e k) a b c = ap text.is_void e
void_units u kind (OfElement (OfLetter v p e k)) a b c = absurd (none_of (text.is_word (v ∷ [])) (text.is_wide (v ∷ [])) (letter_sort v [] p) (ap text.is_word (sym e) ∙ a) (ap text.is_wide (sym e) ∙ b))
void_units u kind (OfElement (OfClass names w e k)) a b c = absurd (true≢false (sym (ap text.is_reference e) ∙ c))
void_units u kind (OfArray zero element of lt le e w k) a b c = absurd (omega (arith, lt))
void_units u kind (OfArray (suc n) element of lt le e w k) a b c = absurd (true≢false (sym (ap text.is_reference e) ∙ c))

tail_is : (u v : ℕ) (us vs : Text) → u ∷ us ≡ v ∷ vs → us ≡ vs
tail_is u v us vs e = ap text.item_of e

head_is : (u v : ℕ) (us vs : Text) → u ∷ us ≡ v ∷ vs → u ≡ v
head_is u v us vs e = ap first_unit e

-- an array of ints is spelled by two units
int_units : (us : Text) (kind : Descriptor) → IsDescriptor (91 ∷ 73 ∷ us) kind → us ≡ []
int_units us kind (OfVoid e k) = absurd (let q = head_is 91 86 (73 ∷ us) [] e in omega (arith, q))
int_units us kind (OfElement (OfLetter v p e k)) = absurd (let q : length (73 ∷ us) ≡ 0 = ap length (tail_is 91 v (73 ∷ us) [] e) in omega (arith, q))
int_units us kind (OfElement (OfClass names w e k)) = absurd (let q = head_is 91 76 (73 ∷ us) names e in omega (arith, q))
int_units us kind (OfArray zero element of lt le e w k) = absurd (omega (arith, lt))
int_units us kind (OfArray (suc zero) element of lt le e (OfLetter v p f g) k) = tail_is 73 v us [] (tail_is 91 91 (73 ∷ us) element e ∙ f)
int_units us kind (OfArray (suc zero) element of lt le e (OfClass names w f g) k) = absurd (let q = head_is 73 76 us names (tail_is 91 91 (73 ∷ us) element e ∙ f) in omega (arith, q))
int_units us kind (OfArray (suc (suc n)) element of lt le e w k) = absurd (let q = head_is 73 91 us (replicate n 91 ++ element) (tail_is 91 91 (73 ∷ us) (91 ∷ (replicate n 91 ++ element)) e) in omega (arith, q))

module _ (p : Program) (t : Tables) (d : Told p t) where
  described : (k : ℕ) → k < length p.types → (kind : Descriptor) × IsDescriptor (type_at p k) kind
  described k h =
      let s = entry_at p.types k h in
      let o = ok_is (descriptor_of (string_text p s.0)) (and_right (has_string p s.0) (is_ok (descriptor_of (string_text p s.0))) (all_at (type_fits p) p.types k s.0 d.sound.types_fit s.1)) in
      (o.0, subst (λ u. IsDescriptor u o.0) (sym (text_of_type p k s.0 s.1)) (descriptor_found (string_text p s.0) o.0 o.1))

  -- it has a unit
  pub nonempty : (k : ℕ) → k < length p.types → (v : ℕ) × ((vs : Text) × (type_at p k ≡ v ∷ vs))
  nonempty k h = let r = described k h in units (type_at p k) r.0 r.1
    where
      units : (u : Text) (kind : Descriptor) → IsDescriptor u kind → (v : ℕ) × ((vs : Text) × (u ≡ v ∷ vs))
      units u kind (OfVoid e k) = (86, ([], e))
      units u kind (OfElement (OfLetter v q e k)) = (v, ([], e))
      units u kind (OfElement (OfClass names w e k)) = (76, (names, e))
      units u kind (OfArray zero element of lt le e w k) = absurd (omega (arith, lt))
      units u kind (OfArray (suc n) element of lt le e w k) = (91, (replicate n 91 ++ element, e))

  pub void_text : (k : ℕ) → k < length p.types → shapes.is_void (shape_of t k) ≡ true → text.is_void (type_at p k) ≡ true
  void_text k h e = by (shape_of t k) (sorts p t d k) e
    where
      by : (s : Shape) → Sorts p (type_at p k) s → shapes.is_void s ≡ true → text.is_void (type_at p k) ≡ true
      by shape.Void s e = let r = described k h in void_units (type_at p k) r.0 r.1 s.word s.wide s.reference
      by s x e = absurd (true≢false (sym e))

  -- a type of arrays of ints
  pub int_array : (k j : ℕ) → k < length p.types → Sorts p (type_at p k) (shape.Array 1 j) → is_int (item_shape t (Some j)) ≡ true → text_eq (text.item_of (type_at p k)) (codes "I") ≡ true
  int_array k j h s e = by (item_text p (Some j)) refl ((item_sorts p t d (Some j)).int e)
    where
      by : (x : Text) → item_text p (Some j) ≡ x → first_unit x ≡ 73 → text_eq (text.item_of (type_at p k)) (codes "I") ≡ true
      by [] f g = absurd (omega (arith, g))
      by (u ∷ us) f g =
          let is : type_at p k ≡ 91 ∷ 73 ∷ us = array_text p t d (type_at p k) 1 j s ∙ ap (arrays_of 1) (f ∙ ap (λ v. v ∷ us) g) in
          let r = described k h in
          let nil : us ≡ [] = int_units us r.0 (subst (λ x. IsDescriptor x r.0) is r.1) in
          ap (λ x. text_eq (text.item_of x) (codes "I")) (is ∙ ap (λ us. 91 ∷ 73 ∷ us) nil)

  -- ---- words

  pub word_same : (k : ℕ) → text.is_wide (type_at p k) ≡ is_wide (letter_of p k)
  unfolding letter_of
  word_same k = ap text.is_wide (type_same p k) ∙ by (type_text p k)
    where
      by : (u : Text) → text.is_wide u ≡ is_wide (first_unit u)
      by [] = refl
      by (u ∷ us) = refl

  words_sum : (ks : List ℕ) → typed.words_of (map (type_at p) ks) ≡ sum_by (words_of p) ks
  words_sum [] = refl
  words_sum (k ∷ ks) = ap (λ b. (if b then 2 else 1) + typed.words_of (map (type_at p) ks)) (word_same k) ∙ ap (λ n. words_of p k + n) (words_sum ks) ∙ sym (sum_by-cons (words_of p) k ks)

  words_few : (ks : List ℕ) → sum_by (words_of p) ks ≤ length ks + length ks
  words_few [] = omega arith
  words_few (k ∷ ks) = let a = words_few ks in let b = sum_by-cons (words_of p) k ks in let c = one (is_wide (letter_of p k)) in omega (arith, a, b, c)
    where
      one : (b : Bool) → (if b then 2 else 1) ≤ 2
      one true = omega arith
      one false = omega arith

  parameters_few : (n : ℕ) (q : Proto) → slice_get p.protos n ≡ Some q → length q.parameters ≤ 16777216
  parameters_few n q e = by (string_text p q.shorty) refl (string_short p d.well q.shorty (slice_get p.strings q.shorty) refl) shorty
    where
      shorty : is_shorty p (string_text p q.shorty) q.result q.parameters ≡ true
      shorty = and_right (list_all (has_type p) q.parameters) (is_shorty p (string_text p q.shorty) q.result q.parameters)
          (and_right (has_string p q.shorty && has_type p q.result) (list_all (has_type p) q.parameters && is_shorty p (string_text p q.shorty) q.result q.parameters) (all_at (proto_fits p) p.protos n q d.sound.protos_fit e))

      by : (u : Text) → string_text p q.shorty ≡ u → length (string_text p q.shorty) ≤ 16777216 → is_shorty p u q.result q.parameters ≡ true → length q.parameters ≤ 16777216
      by [] f l h = absurd (true≢false (sym h))
      by (u ∷ us) f l h =
          let g = number_of (length us) (length q.parameters) (and_left (nat_eq (length us) (length q.parameters)) (list_all (stands_for_parameter p) (zip us q.parameters)) (and_right (stands_for u (letter_of p q.result)) (nat_eq (length us) (length q.parameters) && list_all (stands_for_parameter p) (zip us q.parameters)) h)) in
          let m = ap length f in
          omega (arith, g, m, l)

  pub words_are : (n : ℕ) (q : Proto) → slice_get p.protos n ≡ Some q → short (sum_by (words_of p) q.parameters) ≡ typed.words_of (map (type_at p) q.parameters)
  words_are n q e = low (sum_by (words_of p) q.parameters) (let a = words_few q.parameters in let b = parameters_few n q e in omega (arith, a, b)) ∙ sym (words_sum q.parameters)
