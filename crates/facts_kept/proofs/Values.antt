-- The analysis of a program by names makes of values what the steps by number make of them.
use Rattle.std.proofs.Common.{◌≡◌, ℕ, zero, suc, ◌<◌, Bool, true, false, true≢false, List, [], ◌∷◌, length, Option, Some, None, refl, sym, ap, ◌∙◌, arith, ltb-true, lt-ltb}
use Rattle.std.specs.Prelude.{◌&&◌, not, nat_eq, nat_lt, if◌then◌else◌, cond, map, filter, slice_get, position, option_and_then}
use Rattle.std.specs.Option.{option_map}
use std.Path.{fun_ext}
use Rattle.lemmas.proofs.Bools.{untrue}
use Rattle.lemmas.proofs.Lists.{got_short}
use Rattle.program_model.specs.Lookups.{class_place}
use Rattle.program_model.specs.declared.program.Class.{Class}
use Rattle.program_model.specs.declared.program.Program.{Program}
use Rattle.class_defs.specs.Places.{is_under}
use Rattle.class_defs.specs.ClassGraph.{IsTwice}
use Rattle.class_defs.proofs.Positions.{position_step}
use Rattle.class_defs.proofs.WellFormed.{Sound, class_parts}
use Rattle.dalvik_defs.specs.Names.{object_type, text_eq}
use Rattle.dalvik_defs.specs.Naming.{named, named_class, type_at}
use Rattle.dalvik_defs.specs.Under.{defines, is_own_under}
use Rattle.dalvik_defs.proofs.Calm.{text_sound}
use Rattle.name_bridge.specs.Named.{class_at}
use Rattle.name_bridge.proofs.Above.{defined, own_place, under_by_number}
use Rattle.name_bridge.proofs.Classes.{class_by_number, type_test}
use Rattle.domains.specs.declared.nulls.Nullness.{Nullness}
use Rattle.domains.specs.declared.nulls.Nullness.TheVariants.{Bottom, Null, NotNull, Any}
use Rattle.domains.specs.Reducing.{reduced}
use Rattle.domains.specs.Values.{Parts}
use Rattle.value_ops.specs.Left as number
use Rattle.value_ops.specs.Left.{is_bottom, goes_on, held_value, of_class}
use Rattle.dom_frame.specs.Classes.{cast_value, cast_under, stands_under}
use Rattle.run_facts.specs.ValueAnalysis as name

-- ---- uses

goes_same : (x : Parts) → name.goes_on x ≡ goes_on x
goes_same x = by x.nullness
  where
    by : (n : Nullness) → (elim n as (λ n. Option Parts) [ Bottom ↦ None | Null ↦ Some x | NotNull ↦ Some x | Any ↦ Some x ]) ≡ (if is_bottom n then None else Some x)
    by Bottom = refl
    by Null = refl
    by NotNull = refl
    by Any = refl

without_same : (n : Nullness) → name.without_null n ≡ number.without_null n
without_same Bottom = refl
without_same Null = refl
without_same NotNull = refl
without_same Any = refl

-- what is known behind a use
pub held_same : (x : Parts) → name.goes_on (name.held_value x) ≡ goes_on (held_value x)
held_same x = goes_same (name.held_value x) ∙ ap (λ n. goes_on (reduced (record x { nullness = n }))) (without_same x.nullness)

-- ---- classes

-- the first place of an image that passes a test
position_map : {A B : Type 0} (g : A → B) (t : B → Bool) (u : A → Bool) (xs : List A) → ((i : ℕ) (x : A) → slice_get xs i ≡ Some x → t (g x) ≡ u x) → position t (map g xs) ≡ position u xs
position_map g t u [] h = refl
position_map g t u (x ∷ xs) h =
    position_step t (g x) (map g xs)
    ∙ ap (λ b. cond b (Some 0) (option_map suc (position t (map g xs)))) (h 0 x refl)
    ∙ ap (λ o. cond (u x) (Some 0) (option_map suc o)) (position_map g t u xs (λ i y e. h (suc i) y e))
    ∙ sym (position_step u x xs)

some_is : {A : Type 0} (o : Option A) → (elim o as (λ o. Bool) [ Some c ↦ true | None ↦ false ]) ≡ false → o ≡ None
some_is None e = refl
some_is (Some c) e = absurd (true≢false e)

-- whether there is an entry at a place
pub no_entry : {A : Type 0} (xs : List A) (n : ℕ) → slice_get xs n ≡ None → n < length xs → ⊥
no_entry [] n e lt = omega (arith, lt)
no_entry (y ∷ ys) zero e lt = true≢false (ap (λ o. elim o as (λ o. Bool) [ Some z ↦ true | None ↦ false ]) e)
no_entry (y ∷ ys) (suc n) e lt = no_entry ys n e (omega (arith, lt))

has_entry : {A : Type 0} (xs : List A) (n : ℕ) (o : Option A) → slice_get xs n ≡ o → nat_lt n (length xs) ≡ (elim o as (λ o. Bool) [ Some c ↦ true | None ↦ false ])
has_entry xs n None h = untrue (nat_lt n (length xs)) (λ t. no_entry xs n h (ltb-true n (length xs) t))
has_entry xs n (Some x) h = lt-ltb n (length xs) (got_short xs n x h)

module _ (p : Program) (s : Sound p) where
  pub place_same : (k : ℕ) → k < length p.types → name.class_place (named p) (type_at p k) ≡ class_place p k
  place_same k low = position_map (named_class p) (λ c. text_eq c.name (type_at p k)) (λ c. nat_eq c.name k) p.classes (λ i c e. type_test p s c.name k (class_parts p s i c e).name low)

  -- a new object
  pub made_same : (k : ℕ) → k < length p.types → name.of_class (name.class_place (named p) (type_at p k)) ≡ of_class (class_place p k)
  made_same k low = ap name.of_class (place_same k low) ∙ by (class_place p k)
    where
      by : (o : Option ℕ) → name.of_class o ≡ of_class o
      by None = refl
      by (Some c) = refl

  defines_is : (k : ℕ) → k < length p.types → (o : Option ℕ) → class_place p k ≡ o → defines (named p) (type_at p k) ≡ (elim o as (λ o. Bool) [ Some c ↦ true | None ↦ false ])
  defines_is k low None e = ap (λ o. elim o as (λ o. Bool) [ Some c ↦ true | None ↦ false ]) (class_by_number p s k low ∙ ap (option_and_then (class_at p)) e)
  defines_is k low (Some c) e = let d = defined p k c e in
      ap (λ o. elim o as (λ o. Bool) [ Some c ↦ true | None ↦ false ]) (class_by_number p s k low ∙ ap (option_and_then (class_at p)) e ∙ ap (λ o. option_map (named_class p) o) d.is)

  module _ (once : (class : ℕ) → IsTwice p class → ⊥) (no_object : defines (named p) object_type ≡ false) where
    -- a class at a place is under one of the program
    under_same : (k c : ℕ) → k < length p.types → class_place p k ≡ Some c → (n : ℕ) → name.under_class (named p) (type_at p k) n ≡ stands_under p c n
    under_same k c low e n = by (slice_get p.classes n) refl
      where
        get_named : (xs : List Class) (n : ℕ) → slice_get (map (named_class p) xs) n ≡ option_map (named_class p) (slice_get xs n)
        get_named [] n = refl
        get_named (x ∷ xs) zero = refl
        get_named (x ∷ xs) (suc n) = get_named xs n

        by : (o : Option Class) → slice_get p.classes n ≡ o → name.under_class (named p) (type_at p k) n ≡ stands_under p c n
        by None h = ap (λ o. elim o as (λ o. Bool) [ Some c ↦ is_own_under (named p) c.name (type_at p k) | None ↦ false ]) (get_named p.classes n ∙ ap (option_map (named_class p)) h)
            ∙ sym (ap (λ b. b && is_under p n c) (has_entry p.classes n None h))
        by (Some d) h = ap (λ o. elim o as (λ o. Bool) [ Some c ↦ is_own_under (named p) c.name (type_at p k) | None ↦ false ]) (get_named p.classes n ∙ ap (option_map (named_class p)) h)
            ∙ under_by_number p s d.name k n c (class_parts p s n d h).name low (own_place p once n d h) e
            ∙ sym (ap (λ b. b && is_under p n c) (has_entry p.classes n (Some d) h))

    not_object : (k : ℕ) → defines (named p) (type_at p k) ≡ true → text_eq (type_at p k) object_type ≡ false
    not_object k d = by (text_eq (type_at p k) object_type) refl
      where
        by : (b : Bool) → text_eq (type_at p k) object_type ≡ b → b ≡ false
        by false e = refl
        by true e = absurd (true≢false (sym d ∙ ap (defines (named p)) (text_sound (type_at p k) object_type e) ∙ no_object))

    abbrev chosen : ℕ → Parts → Bool → Bool → Parts
    chosen k x d b = if d && not b then reduced (record x { classes = option_map (filter (name.under_class (named p) (type_at p k))) x.classes }) else x

    -- an object that was cast
    pub cast_same : (k : ℕ) → k < length p.types → (x : Parts) → name.cast_value (named p) (type_at p k) x ≡ cast_value p k x
    cast_same k low x = by (class_place p k) refl
      where
        by : (o : Option ℕ) → class_place p k ≡ o → chosen k x (defines (named p) (type_at p k)) (text_eq (type_at p k) object_type) ≡ cast_under p o x
        by None e = ap (λ d. chosen k x d (text_eq (type_at p k) object_type)) (defines_is k low None e)
        by (Some c) e =
            let d = defines_is k low (Some c) e in
            ap (λ d. chosen k x d (text_eq (type_at p k) object_type)) d ∙ ap (chosen k x true) (not_object k d)
            ∙ ap (λ (t : ℕ → Bool). reduced (record x { classes = option_map (filter t) x.classes })) (fun_ext (under_same k c low e))
