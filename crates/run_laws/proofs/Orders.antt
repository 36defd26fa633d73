-- What a kind holds of, a higher one and a type that it fits hold of too.
use Rattle.std.proofs.Common.{◌≡◌, ℕ, zero, suc, Bool, true, false, true≢false, List, [], ◌∷◌, Option, Some, None, ◌⊎◌, inl, inr, refl, sym, ap, ◌∙◌, subst}
use Rattle.std.specs.Prelude.{◌&&◌, ◌||◌, not, nat_eq, find, if◌then◌else◌, length}
use Rattle.std.proofs.lemmas.Bool.{eqb-true}
use Rattle.std.specs.List.{list_any}
use Rattle.std.specs.Option.{option_map}
use Rattle.dalvik_defs.proofs.Calm.{text_sound}
use Rattle.dalvik_defs.specs.Names.{Text, text_eq, is_array, is_word, is_reference, is_wide, object_type, base_of}
use Rattle.dalvik_defs.specs.Flags.{is_interface}
use Rattle.dalvik_defs.specs.Under.{class_named, defines, is_under}
use Rattle.dalvik_defs.specs.State.{World, kind_of}
use Rattle.dalvik_defs.specs.declared.state.Value.{Value}
use Rattle.dalvik_defs.specs.declared.state.Value.TheVariants.{Word}
use Rattle.dalvik_defs.specs.declared.program.NamedClass.{NamedClass}
use Rattle.dalvik_defs.specs.declared.program.NamedProgram.{NamedProgram}
use Rattle.dalvik_defs.specs.declared.tables.Framework.{Framework}
use Rattle.pass_defs.specs.Kinds.{Kind, kind_eq, is_number, is_initialised, is_plain, depth, arrays_of, line_from, line_of, nearest, is_flat, joined, joined_deep, joined_items, joined_arrays, joined_references, class_or_reference, is_below, kind_of_reference, object_array, fits_array, fits}
use Rattle.pass_defs.specs.Kinds as kind
use Rattle.run_laws.specs.Holds.{Each}
use Rattle.run_laws.specs.TypedStates.{IsObject, IsUnder, IsArrayOf, KindHolds, Cond, ArrayFits, RefFits}
use Rattle.run_laws.proofs.Settled.{IsSettled}
use Rattle.run_laws.proofs.Registers.{there_held}
use Rattle.run_laws.proofs.Sorts.{RefSort, AnArray, APlain, AnAny, ref_sort, Sorted, OfWord, OfWide, OfReference, OfNone, sorted, class_alone, array_reference}
use Rattle.run_laws.proofs.Climbs.{none_some, some_one, found_each, nearest_up, plain_by, plain_defined, defined_by, name_of}
use Rattle.run_laws.proofs.Arrays.{true_false, to_cond, cond_true, cond_false, fits_self, fits_up, deep, depth_array}

pub kind_sound : (a b : Kind) → kind_eq a b ≡ true → a ≡ b
kind_sound kind.Undefined kind.Undefined e = refl
kind_sound kind.Zero kind.Zero e = refl
kind_sound kind.Word kind.Word e = refl
kind_sound kind.Low kind.Low e = refl
kind_sound kind.High kind.High e = refl
kind_sound kind.Null kind.Null e = refl
kind_sound (kind.Class s) (kind.Class t) e = ap kind.Class (text_sound s t e)
kind_sound (kind.Array s) (kind.Array t) e = ap kind.Array (text_sound s t e)
kind_sound kind.Reference kind.Reference e = refl
kind_sound (kind.Fresh s n) (kind.Fresh t m) e = both (text_eq s t) (nat_eq n m) refl refl e
  where
    both : (x y : Bool) → text_eq s t ≡ x → nat_eq n m ≡ y → (x && y) ≡ true → kind.Fresh s n ≡ kind.Fresh t m
    both true true i j e = ap (λ u. kind.Fresh u n) (text_sound s t i) ∙ ap (kind.Fresh t) (eqb-true n m j)
    both true false i j e = absurd (true≢false (sym e))
    both false y i j e = absurd (true≢false (sym e))
kind_sound kind.FreshThis kind.FreshThis e = refl
kind_sound a b e = absurd (true≢false (sym e))

-- what is at or below an initialised kind is one
pub below_initialised : (p : NamedProgram) (a b : Kind) → is_below p a b ≡ true → is_initialised b ≡ true → is_initialised a ≡ true
below_initialised p a b e i = by (is_initialised a) refl
  where
    -- the join is no initialised kind
    no : (k : Kind) → joined p a b ≡ k → is_initialised k ≡ false → ⊥
    no k j l = true≢false (sym i ∙ (sym (ap is_initialised (kind_sound k b (ap (λ x. kind_eq x b) (sym j) ∙ e))) ∙ l))

    unlike : (q n : Bool) → kind_eq a b ≡ q → (is_number a && is_number b) ≡ n → is_initialised a ≡ false → ⊥
    unlike true n j l m = true≢false (sym i ∙ (sym (ap is_initialised (kind_sound a b j)) ∙ m))
    unlike false true j l m = no kind.Word (chain ∙ ap (λ x. if x then kind.Word else rest) l) refl
      where
        rest : Kind
        rest = if is_initialised a && is_initialised b then joined_references p a b else kind.Undefined

        chain : joined p a b ≡ (if is_number a && is_number b then kind.Word else rest)
        chain = ap (λ x. if x then a else if is_number a && is_number b then kind.Word else rest) j
    unlike false false j l m = no kind.Undefined (ap (λ x. if x then a else if is_number a && is_number b then kind.Word else rest) j ∙ (ap (λ x. if x then kind.Word else rest) l ∙ ap (λ x. if x && is_initialised b then joined_references p a b else kind.Undefined) m)) refl
      where
        rest : Kind
        rest = if is_initialised a && is_initialised b then joined_references p a b else kind.Undefined

    by : (x : Bool) → is_initialised a ≡ x → x ≡ true
    by true m = refl
    by false m = absurd (unlike (kind_eq a b) (is_number a && is_number b) refl refl m)

module _ (p : NamedProgram) (f : Framework) (reg : IsSettled p) where
  -- ---- classes that are nearest

  line_defined : (n : ℕ) (t : Text) → Each (λ d. defines p d.name ≡ true) (line_from n p t)
  line_defined zero t = tt
  line_defined (suc n) t = by (class_named p t) refl (λ u. line_defined n u)
    where
      by : (o : Option NamedClass) → class_named p t ≡ o → ((u : Text) → Each (λ d. defines p d.name ≡ true) (line_from n p u))
          → Each (λ d. defines p d.name ≡ true) (elim o as (λ o. List NamedClass) [ Some c ↦ c ∷ (if is_interface c.flags then [] else line_from n p c.superclass) | None ↦ [] ])
      by None e more = tt
      by (Some c) e more = (subst (λ u. defines p u ≡ true) (sym (name_of p t c e)) (defined_by p t (Some c) e), rest (is_interface c.flags))
        where
          rest : (b : Bool) → Each (λ d. defines p d.name ≡ true) (if b then [] else line_from n p c.superclass)
          rest true = tt
          rest false = more c.superclass

  line_alone : (n : ℕ) (t : Text) (c : NamedClass) → class_named p t ≡ Some c → is_interface c.flags ≡ true → Each (λ d. d.name ≡ t) (line_from n p t)
  line_alone zero t c e i = tt
  line_alone (suc n) t c e i = subst (λ o. Each (λ d. d.name ≡ t) (elim o as (λ o. List NamedClass) [ Some c ↦ c ∷ (if is_interface c.flags then [] else line_from n p c.superclass) | None ↦ [] ])) (sym e)
      (name_of p t c e, subst (λ b. Each (λ d. d.name ≡ t) (if b then [] else line_from n p c.superclass)) (sym i) tt)

  line_none : (n : ℕ) (t : Text) → class_named p t ≡ None → Each (λ d. ⊥) (line_from n p t)
  line_none zero t e = tt
  line_none (suc n) t e = subst (λ o. Each (λ d. ⊥) (elim o as (λ o. List NamedClass) [ Some c ↦ c ∷ (if is_interface c.flags then [] else line_from n p c.superclass) | None ↦ [] ])) (sym e) tt

  near : (P : NamedClass → Type 0) (Q : Text → Type 0) → ((d : NamedClass) → P d → Q d.name) → (s t k : Text) → Each P (line_of p s) → nearest p s t ≡ Some k → Q k
  near P Q to s t k h e = by (find (λ c. list_any (λ d. text_eq c.name d.name) (line_of p t)) (line_of p s)) refl e
    where
      by : (o : Option NamedClass) → find (λ c. list_any (λ d. text_eq c.name d.name) (line_of p t)) (line_of p s) ≡ o → option_map (λ c. c.name) o ≡ Some k → Q k
      by None i j = none_some k j
      by (Some c) i j = subst Q (some_one c.name k j) (to c (found_each P (λ c. list_any (λ d. text_eq c.name d.name) (line_of p t)) (line_of p s) c h i))

  nearest_defined : (s t k : Text) → nearest p s t ≡ Some k → defines p k ≡ true
  nearest_defined s t k e = near (λ d. defines p d.name ≡ true) (λ u. defines p u ≡ true) (λ d h. h) s t k (line_defined (length p.classes) s) e

  nearest_from : (s t k : Text) → nearest p s t ≡ Some k → defines p s ≡ true
  nearest_from s t k e = by (class_named p s) refl
    where
      by : (o : Option NamedClass) → class_named p s ≡ o → defines p s ≡ true
      by (Some c) i = defined_by p s (Some c) i
      by None i = absurd (near (λ d. ⊥) (λ u. ⊥) (λ d h. h) s t k (line_none (length p.classes) s i) e)

  abbrev under : Text → Text → Bool
  under = is_under p f

  nearest_fits : (s t k : Text) → nearest p s t ≡ Some k → (z : Text) → RefFits p f z s → RefFits p f z k
  nearest_fits s t k e z h = to_cond p f reg (is_array k) (ArrayFits p f z k) (is_plain p k ≡ true → under z k ≡ true) (λ i. true_false i (class_alone k (reg.regular.class_types k (nearest_defined s t k e))).1) (λ i j. by (class_named p s) refl j)
    where
      plainly : is_plain p s ≡ true → under z s ≡ true
      plainly = cond_false p f reg (is_array s) (ArrayFits p f z s) (is_plain p s ≡ true → under z s ≡ true) (class_alone s (reg.regular.class_types s (nearest_from s t k e))).1 h

      by : (o : Option NamedClass) → class_named p s ≡ o → is_plain p k ≡ true → under z k ≡ true
      by None i j = absurd (near (λ d. ⊥) (λ u. ⊥) (λ d h. h) s t k (line_none (length p.classes) s i) e)
      by (Some c) i j = one (is_interface c.flags) refl
        where
          one : (b : Bool) → is_interface c.flags ≡ b → under z k ≡ true
          one false l = nearest_up p f reg s t k e z (plainly (plain_by p s (Some c) i ∙ ap not l))
          one true l = let same = near (λ d. d.name ≡ s) (λ u. u ≡ s) (λ d h. h) s t k (line_alone (length p.classes) s c i l) e in
              subst (λ u. under z u ≡ true) (sym same) (plainly (subst (λ u. is_plain p u ≡ true) same j))

  -- ---- arrays that are joined

  reference_based : (s : Text) → is_reference (base_of s) ≡ true → is_reference s ≡ true
  reference_based s e = by (is_array s) refl
    where
      by : (b : Bool) → is_array s ≡ b → is_reference s ≡ true
      by true i = array_reference s i
      by false i = subst (λ u. is_reference u ≡ true) (depth_array p f reg s i).1 e

  arrays_reference : (n : ℕ) (c : Text) → is_reference c ≡ true → is_reference (arrays_of n c) ≡ true
  arrays_reference zero c e = e
  arrays_reference (suc n) c e = refl

  items_fit : (s t c : Text) → nearest p (base_of s) t ≡ Some c → (z : Text) → RefFits p f z s → RefFits p f z (arrays_of (depth s) c)
  items_fit [] t c e z h = absurd (true≢false (sym (reg.regular.class_types [] (nearest_from [] t c e))))
  items_fit (x ∷ s) t c e z h = by (nat_eq x 91) refl (λ i z h. items_fit s t c i z h)
    where
      arrays : nat_eq x 91 ≡ true → nearest p (base_of s) t ≡ Some c → ((z : Text) → RefFits p f z s → RefFits p f z (arrays_of (depth s) c)) → (z : Text) → ArrayFits p f z (x ∷ s) → ArrayFits p f z (91 ∷ arrays_of (depth s) c)
      arrays i k more [] h = absurd h
      arrays i k more (v ∷ z) (a, (b, inl l)) = let r = reference_based s (class_alone (base_of s) (reg.regular.class_types (base_of s) (nearest_from (base_of s) t c k))).0 in
          (a, (refl, inr (subst (λ u. is_reference u ≡ true) (sym l) r, (arrays_reference (depth s) c (class_alone c (reg.regular.class_types c (nearest_defined (base_of s) t c k))).0, more z (subst (λ u. RefFits p f u s) (sym l) (fits_self p f reg s))))))
      arrays i k more (v ∷ z) (a, (b, inr l)) = (a, (refl, inr (l.0, (arrays_reference (depth s) c (class_alone c (reg.regular.class_types c (nearest_defined (base_of s) t c k))).0, more z l.1.1))))

      by : (b : Bool) → nat_eq x 91 ≡ b → (nearest p (base_of s) t ≡ Some c → (z : Text) → RefFits p f z s → RefFits p f z (arrays_of (depth s) c)) → RefFits p f z (arrays_of (depth (x ∷ s)) c)
      by true i more = let k = ap (λ u. nearest p u t) (sym (deep p f reg x s i).1) ∙ e in
          subst (λ n. RefFits p f z (arrays_of n c)) (sym (deep p f reg x s i).0) (arrays i k (more k) z (cond_true p f reg (nat_eq x 91) (ArrayFits p f z (x ∷ s)) (is_plain p (x ∷ s) ≡ true → under z (x ∷ s) ≡ true) i h))
      by false i more = let d = depth_array p f reg (x ∷ s) i in
          subst (λ n. RefFits p f z (arrays_of n c)) (sym d.0) (nearest_fits (x ∷ s) t c (ap (λ u. nearest p u t) (sym d.1) ∙ e) z h)

  deep_fits : (s z : Text) → is_flat s ≡ false → ArrayFits p f z s → ArrayFits p f z object_array
  deep_fits [] [] e h = absurd h
  deep_fits [] (v ∷ z) e h = absurd h
  deep_fits (x ∷ s) [] e h = absurd h
  deep_fits (x ∷ s) (v ∷ z) e (a, (b, h)) = (a, (refl, inr (by h, (refl, λ i. true_false (plain_defined p object_type i) reg.objects))))
    where
      inner : is_reference s ≡ true
      inner = one (is_array s) refl
        where
          one : (c : Bool) → is_array s ≡ c → is_reference s ≡ true
          one true i = array_reference s i
          one false i = two (is_reference s) refl
            where
              two : (r : Bool) → is_reference s ≡ r → r ≡ true
              two true j = refl
              two false j = absurd (true≢false (sym (ap (λ n. nat_eq n 1 && not (is_reference (base_of (x ∷ s)))) ((deep p f reg x s b).0 ∙ ap suc (depth_array p f reg s i).0)
                  ∙ ap not (ap is_reference ((deep p f reg x s b).1 ∙ (depth_array p f reg s i).1) ∙ j)) ∙ e))

      by : (z ≡ s) ⊎ ((is_reference z ≡ true) × ((is_reference s ≡ true) × Cond p f (is_array s) (ArrayFits p f z s) (is_plain p s ≡ true → under z s ≡ true))) → is_reference z ≡ true
      by (inl i) = subst (λ u. is_reference u ≡ true) (sym i) inner
      by (inr i) = i.0

  module _ (c : Text) (w : World) where
    abbrev H : Kind → Value → Type 0
    H = KindHolds p f c w

    -- ---- objects and kinds of references

    pub ref_held : (t : Text) (v : Value) → IsObject w v → RefFits p f (kind_of w v) t → H (kind_of_reference p t) v
    ref_held t v i h = by (ref_sort p t)
      where
        by : RefSort p t → H (kind_of_reference p t) v
        by (AnArray a e) = subst (λ k. H k v) (sym e) (inr (i, cond_true p f reg (is_array t) (ArrayFits p f (kind_of w v) t) (is_plain p t ≡ true → under (kind_of w v) t ≡ true) a h))
        by (APlain a b e) = subst (λ k. H k v) (sym e) (inr (i, cond_false p f reg (is_array t) (ArrayFits p f (kind_of w v) t) (is_plain p t ≡ true → under (kind_of w v) t ≡ true) a h b))
        by (AnAny a b e) = subst (λ k. H k v) (sym e) (inr i)

    pub ref_fits : (t : Text) (v : Value) → H (kind_of_reference p t) v → (v ≡ Word 0) ⊎ (IsObject w v × RefFits p f (kind_of w v) t)
    ref_fits t v h = by (ref_sort p t)
      where
        array : is_array t ≡ true → IsArrayOf p f w v t → (v ≡ Word 0) ⊎ (IsObject w v × RefFits p f (kind_of w v) t)
        array a (inl z) = inl z
        array a (inr i) = inr (i.0, to_cond p f reg (is_array t) (ArrayFits p f (kind_of w v) t) (is_plain p t ≡ true → under (kind_of w v) t ≡ true) (λ x. i.1) (λ x. true_false a x))

        class : is_array t ≡ false → IsUnder p f w v t → (v ≡ Word 0) ⊎ (IsObject w v × RefFits p f (kind_of w v) t)
        class a (inl z) = inl z
        class a (inr i) = inr (i.0, to_cond p f reg (is_array t) (ArrayFits p f (kind_of w v) t) (is_plain p t ≡ true → under (kind_of w v) t ≡ true) (λ x. true_false x a) (λ x y. i.1))

        any : is_array t ≡ false → is_plain p t ≡ false → (v ≡ Word 0) ⊎ IsObject w v → (v ≡ Word 0) ⊎ (IsObject w v × RefFits p f (kind_of w v) t)
        any a b (inl z) = inl z
        any a b (inr i) = inr (i, to_cond p f reg (is_array t) (ArrayFits p f (kind_of w v) t) (is_plain p t ≡ true → under (kind_of w v) t ≡ true) (λ x. true_false x a) (λ x y. true_false y b))

        by : RefSort p t → (v ≡ Word 0) ⊎ (IsObject w v × RefFits p f (kind_of w v) t)
        by (AnArray a e) = array a (subst (λ k. H k v) e h)
        by (APlain a b e) = class a (subst (λ k. H k v) e h)
        by (AnAny a b e) = any a b (subst (λ k. H k v) e h)

    -- null is of each initialised kind
    pub null_held : (b : Kind) (v : Value) → is_initialised b ≡ true → v ≡ Word 0 → H b v
    null_held kind.Zero v i e = e
    null_held kind.Null v i e = e
    null_held (kind.Class t) v i e = inl e
    null_held (kind.Array t) v i e = inl e
    null_held kind.Reference v i e = inl e
    null_held b v i e = absurd (true≢false (sym i))

    pub reference_held : (a : Kind) (v : Value) → is_initialised a ≡ true → H a v → (v ≡ Word 0) ⊎ IsObject w v
    reference_held kind.Zero v i h = inl h
    reference_held kind.Null v i h = inl h
    reference_held (kind.Class t) v i (inl e) = inl e
    reference_held (kind.Class t) v i (inr h) = inr h.0
    reference_held (kind.Array t) v i (inl e) = inl e
    reference_held (kind.Array t) v i (inr h) = inr h.0
    reference_held kind.Reference v i h = h
    reference_held a v i h = absurd (true≢false (sym i))

    classes_held : (s t : Text) (v : Value) (n : Option Text) → nearest p s t ≡ n → IsUnder p f w v s → H (class_or_reference n) v
    classes_held s t v (Some k) e (inl z) = inl z
    classes_held s t v (Some k) e (inr h) = inr (h.0, nearest_up p f reg s t k e (kind_of w v) h.1)
    classes_held s t v None e (inl z) = inl z
    classes_held s t v None e (inr h) = inr h.0

    -- of an array that isn't null the static type is one too
    array_is : (z s : Text) → ArrayFits p f z s → is_array s ≡ true
    array_is [] s h = absurd h
    array_is (v ∷ z) [] h = absurd h
    array_is (v ∷ z) (x ∷ s) h = h.1.0

    arrays_held : (s t : Text) (v : Value) → IsArrayOf p f w v s → H (joined_arrays p s t) v
    arrays_held s t v h = by (nat_eq (depth s) (depth t))
      where
        deeply : IsArrayOf p f w v s → (b : Bool) → (is_flat s || is_flat t) ≡ b → H (if b then kind.Reference else kind.Array object_array) v
        deeply (inl z) true e = inl z
        deeply (inr i) true e = inr i.0
        deeply (inl z) false e = inl z
        deeply (inr i) false e = inr (i.0, deep_fits s (kind_of w v) (one (is_flat s) e) i.1)
          where
            one : (b : Bool) → (b || is_flat t) ≡ false → b ≡ false
            one true j = absurd (true≢false j)
            one false j = refl

        near_held : IsArrayOf p f w v s → (o : Option Text) → nearest p (base_of s) (base_of t) ≡ o → H (joined_items s t o) v
        near_held h None e = deeply h (is_flat s || is_flat t) refl
        near_held (inl z) (Some k) e = inl z
        near_held (inr i) (Some k) e = inr (i.0, lifted (array_is (kind_of w v) s i.1))
          where
            fitted : RefFits p f (kind_of w v) (arrays_of (depth s) k)
            fitted = items_fit s (base_of t) k e (kind_of w v) (to_cond p f reg (is_array s) (ArrayFits p f (kind_of w v) s) (is_plain p s ≡ true → under (kind_of w v) s ≡ true) (λ x. i.1) (λ x. true_false (array_is (kind_of w v) s i.1) x))

            lifted : is_array s ≡ true → ArrayFits p f (kind_of w v) (arrays_of (depth s) k)
            lifted a = cond_true p f reg (is_array (arrays_of (depth s) k)) (ArrayFits p f (kind_of w v) (arrays_of (depth s) k)) (is_plain p (arrays_of (depth s) k) ≡ true → under (kind_of w v) (arrays_of (depth s) k) ≡ true) (of_array s a) fitted
              where
                of_array : (s : Text) → is_array s ≡ true → is_array (arrays_of (depth s) k) ≡ true
                of_array [] a = absurd (true≢false (sym a))
                of_array (x ∷ s) a = ap (λ n. is_array (arrays_of n k)) (deep p f reg x s a).0

        by : (b : Bool) → H (elim b as (λ b. Kind) [ true ↦ joined_items s t (nearest p (base_of s) (base_of t)) | false ↦ joined_deep s t ]) v
        by true = near_held h (nearest p (base_of s) (base_of t)) refl
        by false = deeply h (is_flat s || is_flat t) refl

    -- two unlike initialised references
    joined_held : (a b : Kind) (v : Value) → is_initialised a ≡ true → is_initialised b ≡ true → H a v → H (joined_references p a b) v
    joined_held kind.Zero b v i j h = null_held b v j h
    joined_held a kind.Zero v i j h = h
    joined_held kind.Null b v i j h = null_held b v j h
    joined_held a kind.Null v i j h = h
    joined_held (kind.Class s) (kind.Class t) v i j h = classes_held s t v (nearest p s t) refl h
    joined_held (kind.Array s) (kind.Array t) v i j h = arrays_held s t v h
    joined_held a b v i j h = reference_held a v i h

    pub number_held : (a : Kind) (v : Value) → is_number a ≡ true → H a v → H kind.Word v
    number_held kind.Zero v i h = (0, h)
    number_held kind.Word v i h = h
    number_held a v i h = absurd (true≢false (sym i))

    join_held : (a b : Kind) (v : Value) → H a v → H (joined p a b) v
    join_held a b v h = by (kind_eq a b) (is_number a) (is_number b) (is_initialised a) (is_initialised b) refl refl refl
      where
        by : (e m n i j : Bool) → is_number a ≡ m → is_initialised a ≡ i → is_initialised b ≡ j → H (if e then a else if m && n then kind.Word else if i && j then joined_references p a b else kind.Undefined) v
        by true m n i j x y z = h
        by false true true i j x y z = number_held a v x h
        by false true false true true x y z = joined_held a b v y z h
        by false true false true false x y z = there_held p f c w a v h
        by false true false false j x y z = there_held p f c w a v h
        by false false n true true x y z = joined_held a b v y z h
        by false false n true false x y z = there_held p f c w a v h
        by false false n false j x y z = there_held p f c w a v h

    -- the order of kinds keeps what they hold of
    pub below_held : (a b : Kind) (v : Value) → is_below p a b ≡ true → H a v → H b v
    below_held a b v e h = subst (λ k. H k v) (kind_sound (joined p a b) b e) (join_held a b v h)

    -- ---- a value that fits a type is of it

    array_fitted : (k : Kind) (t : Text) (v : Value) → is_array t ≡ true → fits_array p k t ≡ true → H k v → IsArrayOf p f w v t
    array_fitted kind.Zero t v a e h = inl h
    array_fitted kind.Null t v a e h = inl h
    array_fitted (kind.Array s) t v a e (inl z) = inl z
    array_fitted (kind.Array s) t v a e (inr h) = inr (
      h.0,
      cond_true p f reg (is_array t) (ArrayFits p f (kind_of w v) t) (is_plain p t ≡ true → under (kind_of w v) t ≡ true) a
          (fits_up p f reg (kind_of w v) s t e (to_cond p f reg (is_array s) (ArrayFits p f (kind_of w v) s) (is_plain p s ≡ true → under (kind_of w v) s ≡ true) (λ x. h.1) (λ x. true_false (array_is (kind_of w v) s h.1) x))),
    )
    array_fitted k t v a e h = absurd (true≢false (sym e))

    -- of a type that is no word
    ref_fitted : (k : Kind) (t : Text) (v : Value) → (if is_array t then fits_array p k t else if is_plain p t then is_below p k (kind.Class t) else is_initialised k) ≡ true → H k v → H (kind_of_reference p t) v
    ref_fitted k t v e h = by (ref_sort p t)
      where
        by : RefSort p t → H (kind_of_reference p t) v
        by (AnArray a i) = subst (λ k. H k v) (sym i) (array_fitted k t v a (sym (ap (λ x. if x then fits_array p k t else if is_plain p t then is_below p k (kind.Class t) else is_initialised k) a) ∙ e) h)
        by (APlain a b i) = subst (λ k. H k v) (sym i) (below_held k (kind.Class t) v (sym (ap (λ x. if x then fits_array p k t else if is_plain p t then is_below p k (kind.Class t) else is_initialised k) a ∙ ap (λ x. if x then is_below p k (kind.Class t) else is_initialised k) b) ∙ e) h)
        by (AnAny a b i) = subst (λ k. H k v) (sym i) (reference_held k v (sym (ap (λ x. if x then fits_array p k t else if is_plain p t then is_below p k (kind.Class t) else is_initialised k) a ∙ ap (λ x. if x then is_below p k (kind.Class t) else is_initialised k) b) ∙ e) h)

    not_a_word : (k : Kind) (t : Text) → is_word t ≡ false → fits p k t ≡ true → (if is_array t then fits_array p k t else if is_plain p t then is_below p k (kind.Class t) else is_initialised k) ≡ true
    not_a_word k t i e = sym (ap (λ x. if x then is_number k else if is_array t then fits_array p k t else if is_plain p t then is_below p k (kind.Class t) else is_initialised k) i) ∙ e

    pub fits_held : (k : Kind) (t : Text) (v : Value) → is_wide t ≡ false → fits p k t ≡ true → H k v → H (kind.kind_of p t) v
    fits_held k t v n e h = by (sorted p t)
      where
        by : Sorted p t → H (kind.kind_of p t) v
        by (OfWord i a b j l) = subst (λ k. H k v) (sym j) (number_held k v (sym (ap (λ x. if x then is_number k else if is_array t then fits_array p k t else if is_plain p t then is_below p k (kind.Class t) else is_initialised k) i) ∙ e) h)
        by (OfWide i a b j l) = true_false a n
        by (OfReference i a b j l) = subst (λ k. H k v) (sym j) (ref_fitted k t v (not_a_word k t i e) h)
        by (OfNone i a b j l) = subst (λ k. H k v) (sym j) (there_held p f c w k v h)
