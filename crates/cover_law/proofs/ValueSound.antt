-- The product domain is sound apart from numbers and tests, whatever it makes of these.
use Rattle.std.proofs.lemmas.Int.{ints}
use Rattle.std.proofs.Common.{◌≡◌, ℕ, zero, suc, ◌+◌, ◌<◌, ℤ, pos, Bool, true, false, true≢false, List, [], ◌∷◌, Option, Some, None, refl, sym, ap, ◌∙◌, subst, arith}
use Rattle.std.specs.Prelude.{◌||◌, ◌&&◌, not, ◌^◌, if◌then◌else◌, cond, filter, position, slice_get, nat_lt, Contains, length, int_lt, ◌≤ℤ◌}
use Rattle.std.specs.Int.{w32, cast_signed}
use Rattle.std.specs.List.{position_or_len}
use Rattle.std.specs.Option.{option_map}
use Rattle.std.proofs.lemmas.Bool.{ltb-true}
use Rattle.dalvik_defs.specs.Names.{Text, text_eq, object_type}
use Rattle.dalvik_defs.specs.Outer.{Outer}
use Rattle.dalvik_defs.specs.Shown.{Fit}
use Rattle.dalvik_defs.specs.Under.{class_named, defines, is_own_under, is_under}
use Rattle.dalvik_defs.specs.State.{is_null}
use Rattle.dalvik_defs.specs.declared.state.Value.{Value}
use Rattle.dalvik_defs.specs.declared.state.Value.TheVariants.{Word, Low, High, Literal, Class}
use Rattle.dalvik_defs.specs.declared.state.Value.TheVariants as machine
use Rattle.dalvik_defs.specs.declared.program.NamedClass.{NamedClass}
use Rattle.dalvik_defs.specs.declared.program.NamedProgram.{NamedProgram}
use Rattle.dalvik_defs.specs.declared.script.Move.{Move}
use Rattle.dalvik_defs.specs.declared.tables.Framework.{Framework}
use Rattle.dalvik_defs.proofs.Calm.{text_sound}
use Rattle.domains.specs.declared.nulls.Nullness.{Nullness}
use Rattle.domains.specs.declared.nulls.Nullness.TheVariants.{Bottom, Null, NotNull, Any}
use Rattle.domains.specs.Nulls.{Allows}
use Rattle.domains.specs.Datum.{Datum, Plain, Single, Double, Object, is_zero}
use Rattle.domains.specs.ClassSets.{set_holds}
use Rattle.domains.specs.Ranges.{first_word, last_word, no_words, words_between, range_holds}
use Rattle.domains.specs.declared.numbers.Word.TheVariants as word
use Rattle.domains.specs.ValueLaws.{constant_reduced, wide_reduced, objects_held}
use Rattle.domains.specs.Values.{Parts, value_holds, kind_holds, any_value}
use Rattle.domains.specs.Reducing.{reduced}
use Rattle.domains.specs.ReducingLaws.{reduced_alike}
use Rattle.pass_defs.specs.Analysis.{Analysis, Holds, IsReference, IsRanged, read_item}
use Rattle.run_laws.specs.Regular.{IsRegular as Regular}
use Rattle.run_laws.proofs.Climbs.{none_some, some_one}
use Rattle.removal_law.specs.Left.{NamesNone}
use Rattle.removal_law.specs.Reach.{IsAcyclic, IsRegular}
use Rattle.removal_law.proofs.Acyclic.{regular as upright}
use Rattle.removal_law.proofs.Faces.{slice_in}
use Rattle.removal_law.proofs.Fits.{fit_names_none}
use Rattle.removal_law.proofs.Lists.{contained}
use Rattle.removal_law.proofs.Trees.{defined}
use Rattle.cover_law.specs.Apart.{IsSoundApart}
use Rattle.cover_law.proofs.Reaching.{own_under}
use Rattle.run_facts.specs.ValueAnalysis.{class_place, datum_of, any_object, of_class, known_value, words_in, without_null, held_value, goes_on, under_class, cast_value, Numbers, value_analysis}

module _ (p : NamedProgram) (n : Numbers) where
  abbrev a : Analysis Parts
  a = value_analysis p n

  null_same : (k : Text) (v : Value) → is_zero (datum_of p k v) ≡ is_null v
  null_same k (Word m) = refl
  null_same k (Low m) = refl
  null_same k (High m) = refl
  null_same k (machine.Object m) = refl
  null_same k (Literal t) = refl
  null_same k (Class t) = refl

  -- a value that holds of something goes on
  on_goes : (x : Parts) (k : Text) (v : Value) → value_holds x (datum_of p k v) → Holds a (goes_on x) k v
  on_goes x k v h = by x.nullness refl
    where
      by : (l : Nullness) → x.nullness ≡ l → Holds a (elim l as (λ l. Option Parts) [ Bottom ↦ None | Null ↦ Some x | NotNull ↦ Some x | Any ↦ Some x ]) k v
      by Bottom e = subst (λ l. Allows l (is_zero (datum_of p k v))) e h.1
      by Null e = h
      by NotNull e = h
      by Any e = h

  allows_without : (l : Nullness) (z : Bool) → Allows l z → z ≡ false → Allows (without_null l) z
  allows_without Bottom z h e = h
  allows_without Null z h e = absurd (true≢false (sym h ∙ e))
  allows_without NotNull z h e = h
  allows_without Any z h e = e

  -- a value whose nullness alone differs holds of the same kinds
  other_null : (x : Parts) (l : Nullness) (d : Datum) → kind_holds x d → kind_holds (record x { nullness = l }) d
  other_null x l (Plain (Single w)) h = h
  other_null x l (Plain (Double w)) h = h
  other_null x l (Object c) h = h

  held_holds : (x : Parts) (k : Text) (v : Value) → value_holds x (datum_of p k v) → is_null v ≡ false → value_holds (held_value x) (datum_of p k v)
  held_holds x k v h e = (reduced_alike (record x { nullness = without_null x.nullness }) (datum_of p k v)).1
      (other_null x (without_null x.nullness) (datum_of p k v) h.0, allows_without x.nullness (is_zero (datum_of p k v)) h.1 (null_same k v ∙ e))

  -- ---- casts

  nowhere : (c : ℕ) → Contains [] c → ⊥
  nowhere c h = let lt : h.0 < length {A = ℕ} [] = h.1 in omega arith

  in_filter : (f : ℕ → Bool) (xs : List ℕ) (c : ℕ) → Contains xs c → f c ≡ true → Contains (filter f xs) c
  in_filter f [] c h e = absurd (nowhere c h)
  in_filter f (x ∷ xs) c (zero, lt, i) e = subst (λ b. Contains (cond b (x ∷ filter f xs) (filter f xs)) c) (sym (ap f i ∙ e)) (zero, omega arith, i)
  in_filter f (x ∷ xs) c (suc m, lt, i) e = by (f x) (in_filter f xs c (m, omega arith, i) e)
    where
      by : (b : Bool) → Contains (filter f xs) c → Contains (cond b (x ∷ filter f xs) (filter f xs)) c
      by true h = (suc h.0, let l : h.0 < length (filter f xs) = h.1 in omega arith, h.2)
      by false h = h

  module _ (under : Text → Text → Bool) (owns : (k t : Text) (c : ℕ) → class_place p k ≡ Some c → defines p t ≡ true → text_eq t object_type ≡ false → under k t ≡ true → under_class p t c ≡ true) where
    casts : (t : Text) (x : Parts) (k : Text) (v : Value) → value_holds x (datum_of p k v) → (is_null v || under k t) ≡ true → value_holds (cast_value p t x) (datum_of p k v)
    casts t x k v h e = by (defines p t) (text_eq t object_type) refl refl
      where
        kept : defines p t ≡ true → text_eq t object_type ≡ false → (v : Value) → kind_holds x (datum_of p k v) → (is_null v || under k t) ≡ true → kind_holds (record x { classes = option_map (filter (under_class p t)) x.classes }) (datum_of p k v)
        kept d m (Word w) h e = h
        kept d m (Low w) h e = h
        kept d m (High w) h e = h
        kept d m (machine.Object w) h e = among x.classes (class_place p k) refl h
          where
            among : (s : Option (List ℕ)) (c : Option ℕ) → class_place p k ≡ c → set_holds s c → set_holds (option_map (filter (under_class p t)) s) c
            among None c i h = tt
            among (Some xs) None i h = h
            among (Some xs) (Some c) i h = in_filter (under_class p t) xs c h (owns k t c i d m e)
        kept d m (Literal s) h e = none x.classes h
          where
            none : (s : Option (List ℕ)) → set_holds s None → set_holds (option_map (filter (under_class p t)) s) None
            none None h = tt
            none (Some xs) h = h
        kept d m (Class s) h e = none x.classes h
          where
            none : (s : Option (List ℕ)) → set_holds s None → set_holds (option_map (filter (under_class p t)) s) None
            none None h = tt
            none (Some xs) h = h

        by : (b c : Bool) → defines p t ≡ b → text_eq t object_type ≡ c → value_holds (if b && not c then reduced (record x { classes = option_map (filter (under_class p t)) x.classes }) else x) (datum_of p k v)
        by true false d m = (reduced_alike (record x { classes = option_map (filter (under_class p t)) x.classes }) (datum_of p k v)).1 (kept d m v h.0 e, h.1)
        by true true d m = h
        by false c d m = h

    -- ---- what is known, new or given

    all_holds : (k : Text) (v : Value) → IsRanged v → value_holds any_value (datum_of p k v)
    all_holds k (Word w) r = ((tt, (in_low w r, in_high w r)), tt)
      where
        in_low : (w : ℕ) → w < 2 ^ 32 → first_word ≤ℤ cast_signed w32 w
        in_low w r = omega (arith, ints, r)

        in_high : (w : ℕ) → w < 2 ^ 32 → cast_signed w32 w ≤ℤ last_word
        in_high w r = omega (arith, ints, r)
    all_holds k (Low w) r = (tt, tt)
    all_holds k (High w) r = (tt, tt)
    all_holds k (machine.Object w) r = (tt, tt)
    all_holds k (Literal w) r = (tt, tt)
    all_holds k (Class w) r = (tt, tt)

    object_holds : (c : Option ℕ) → value_holds any_object (Object c)
    object_holds c = (objects_held None (Object c)).1 (c, refl, tt)

    catches : (k : Text) (v : Value) → IsReference v → value_holds any_object (datum_of p k v)
    catches k (machine.Object w) r = object_holds (class_place p k)
    catches k (Literal w) r = object_holds None
    catches k (Class w) r = object_holds None
    catches k (Word w) r = absurd r
    catches k (Low w) r = absurd r
    catches k (High w) r = absurd r

    knows : (k : Text) (v : Value) → value_holds (known_value v) (datum_of p k v)
    knows k (Word w) = (constant_reduced w).word
    knows k (Low w) = (wide_reduced w).word
    knows k (High w) = (wide_reduced w).word
    knows k (machine.Object w) = object_holds (class_place p k)
    knows k (Literal w) = object_holds None
    knows k (Class w) = object_holds None

    makes : (t : Text) (m : ℕ) → value_holds (of_class (class_place p t)) (datum_of p t (machine.Object m))
    makes t m = by (class_place p t)
      where
        by : (c : Option ℕ) → value_holds (of_class c) (Object c)
        by None = object_holds None
        by (Some c) = (objects_held (Some (c ∷ [])) (Object (Some c))).1 (Some c, refl, (0, omega arith, refl))

    -- a word of a range
    words_hold : (low high : ℤ) (k : Text) (w : ℕ) → (int_lt high low ≡ false) → low ≤ℤ cast_signed w32 w → cast_signed w32 w ≤ℤ high → value_holds (words_in low high) (datum_of p k (Word w))
    words_hold low high k w e l h = (reduced_alike (record { word = word.Any; interval = words_between low high; nullness = Any; classes = Some [] }) (Plain (Single w))).1
        ((tt, subst (λ b. range_holds (if b then no_words else record { low = low; high = high }) (cast_signed w32 w)) (sym e) (l, h)), tt)

    apart : IsSoundApart a under
    apart = record {
      grows = λ x y k v b i. b (datum_of p k v) i;
      all = all_holds;
      knows = knows;
      makes = makes;
      lengths = λ k m r. words_hold (pos 0) (pos 2147483647) k m refl (omega (arith, ints, r)) (omega (arith, ints, r));
      truths = λ k. (words_hold (pos 0) (pos 1) k 0 refl (omega (arith, ints)) (omega (arith, ints)), words_hold (pos 0) (pos 1) k 1 refl (omega (arith, ints)) (omega (arith, ints)));
      items = λ i k v r. all_holds k (read_item a i v) r;
      outers = λ t k v r. all_holds k v r;
      catches = catches;
      holders = λ x k v i e. on_goes (held_value x) k v (held_holds x k v i e);
      casts = casts;
    }

-- ---- a class that is under one of the program is so by the program's lists

after : (n : ℕ) → suc n ≡ 1 + n
after n = omega arith

slot : (t : NamedClass → Bool) (xs : List NamedClass) → position_or_len t xs < length xs → (x : NamedClass) × ((slice_get xs (position_or_len t xs) ≡ Some x) × (t x ≡ true))
slot t [] l = absurd (omega (arith, l))
slot t (x ∷ xs) l = by (t x) refl (slot t xs) l
  where
    by : (b : Bool) → t x ≡ b → (position_or_len t xs < length xs → (y : NamedClass) × ((slice_get xs (position_or_len t xs) ≡ Some y) × (t y ≡ true)))
        → cond (not b) (1 + position_or_len t xs) 0 < suc (length xs) → (y : NamedClass) × ((slice_get (x ∷ xs) (cond (not b) (1 + position_or_len t xs) 0) ≡ Some y) × (t y ≡ true))
    by true e more l = (x, (refl, e))
    by false e more l = subst (λ m. (y : NamedClass) × ((slice_get (x ∷ xs) m ≡ Some y) × (t y ≡ true))) (after (position_or_len t xs)) (more (omega (arith, l)))

place_named : (t : NamedClass → Bool) (xs : List NamedClass) (n : ℕ) → position t xs ≡ Some n → (x : NamedClass) × ((slice_get xs n ≡ Some x) × (t x ≡ true))
place_named t xs n e = by (nat_lt (position_or_len t xs) (length xs)) refl e
  where
    by : (b : Bool) → nat_lt (position_or_len t xs) (length xs) ≡ b → cond b (Some (position_or_len t xs)) None ≡ Some n → (x : NamedClass) × ((slice_get xs n ≡ Some x) × (t x ≡ true))
    by true i j = subst (λ m. (x : NamedClass) × ((slice_get xs m ≡ Some x) × (t x ≡ true))) (some_one (position_or_len t xs) n j) (slot t xs (ltb-true (position_or_len t xs) (length xs) i))
    by false i j = none_some n j

owns : (p : NamedProgram) (f : Framework) → NamesNone p f → IsRegular p → ((c : NamedClass) → Contains p.classes c → class_named p c.name ≡ Some c)
    → (k t : Text) (c : ℕ) → class_place p k ≡ Some c → defines p t ≡ true → text_eq t object_type ≡ false → is_under p f k t ≡ true → under_class p t c ≡ true
owns p f none regular named k t c e d strange u = let x = place_named (λ y. text_eq y.name k) p.classes c e in by x.0 x.1.0 (text_sound x.0.name k x.1.1)
  where
    by : (x : NamedClass) → slice_get p.classes c ≡ Some x → x.name ≡ k → under_class p t c ≡ true
    by x i n = ap (λ (y : Option NamedClass). elim y as (λ y. Bool) [ Some z ↦ is_own_under p z.name t | None ↦ false ]) i
        ∙ own_under p f none regular x.name t (defined p x.name x (named x (contained x p.classes (slice_in p.classes c x i)))) d (ap (λ s. is_under p f s t) n ∙ u)

pub values_apart : (p : NamedProgram) (o : Outer) (f : Framework) (script : List Move) (numbers : Numbers) → Regular p → IsAcyclic p → Fit p o f script → IsSoundApart (value_analysis p numbers) (is_under p f)
values_apart p o f script numbers reg acyclic fit = apart p numbers (is_under p f) (owns p f (fit_names_none p o f script fit) (upright p acyclic reg.class_types) reg.named)
