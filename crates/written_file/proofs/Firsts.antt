-- The first values that are written are those of the written program.
use Rattle.std.proofs.Common.{◌≡◌, ◌≤◌, ◌<◌, ◌+◌, ◌^◌, inl, inr, ℕ, zero, suc, Bool, true, false, List, [], ◌∷◌, ◌++◌, length, map, take, drop, refl, sym, ap, subst, ◌∙◌, arith, Option, Some, None, pos}
use Rattle.std.specs.Prelude.{nat_eq, slice_get, min, ◌&&◌, ◌==◌, if◌then◌else◌}
use Rattle.std.specs.List.{flat_map, list_all, AllByRecursion}
use Rattle.std.proofs.lemmas.Bool.{and_parts, eqb-true, eqb-false}
use Rattle.std.proofs.lemmas.List.{length-map, length-take-le}
use Rattle.lemmas.proofs.Bools.{clash}
use Rattle.lemmas.proofs.Lists.{all_at}
use Rattle.dex_base.specs.Leb.{uleb_text}
use Rattle.dex_pools.specs.Written.{value_text, list_text}
use Rattle.program_model.specs.declared.pass.Renumber.{Renumber}
use Rattle.program_model.specs.declared.program.Field.{Field}
use Rattle.program_model.specs.declared.program.Class.{Class}
use Rattle.program_model.specs.declared.program.Program.{Program}
use Rattle.program_model.specs.declared.value.EncValue.{EncValue, EncValue-F, roll-EncValue, out-EncValue, out-roll-EncValue}
use Rattle.program_model.specs.declared.value.EncValue.TheOpen as layer
use Rattle.program_model.specs.declared.value.EncValue.TheVariants as variant
use Rattle.program_model.specs.declared.value.EncValue.TheFolds.{ind-EncValue}
use Rattle.program_model.specs.declared.value.Element.{Element}
use Rattle.program_model.specs.declared.value.Note.{Note}
use Rattle.program_model.specs.ValueRules.{layer_fits, marks_fit}
use Rattle.program_model.specs.MemberRules.{is_static, class_of_field, is_class_number, field_letter, first_value_fits, field_fits}
use Rattle.dex_write.specs.Plans.{Plan, Numbered}
use Rattle.dex_write.specs.Data.{has_first, first_count, zero_of, value_or, first_text, values_text, counted_text, array_text}
use Rattle.dex_defs.specs.Written.{new_value}
use Rattle.dex_defs.specs.ValueTexts as texts
use Rattle.write_laws.specs.Members.{IsPlain}
use Rattle.written_file.specs.Parts.{one_value, first_values}
use Rattle.written_file.proofs.ValueTexts.{new_text, newly_spelled, old_value}

module _ (r : Renumber) where
  -- a value has one text in both ways
  abbrev pub At : EncValue → Type 0
  At v = texts.value_text (new_value r v) ≡ value_text r v

  plain_at : (x : EncValue-F EncValue Element Note) → IsPlain x → At (roll-EncValue x)
  plain_at (layer.Byte z) h = newly_spelled r (layer.Byte z) ∙ sym (old_value r (layer.Byte z))
  plain_at (layer.Short z) h = newly_spelled r (layer.Short z) ∙ sym (old_value r (layer.Short z))
  plain_at (layer.Char z) h = newly_spelled r (layer.Char z) ∙ sym (old_value r (layer.Char z))
  plain_at (layer.Int z) h = newly_spelled r (layer.Int z) ∙ sym (old_value r (layer.Int z))
  plain_at (layer.Long z) h = newly_spelled r (layer.Long z) ∙ sym (old_value r (layer.Long z))
  plain_at (layer.Float z) h = newly_spelled r (layer.Float z) ∙ sym (old_value r (layer.Float z))
  plain_at (layer.Double z) h = newly_spelled r (layer.Double z) ∙ sym (old_value r (layer.Double z))
  plain_at (layer.Str n) h = newly_spelled r (layer.Str n) ∙ sym (old_value r (layer.Str n))
  plain_at (layer.Class n) h = newly_spelled r (layer.Class n) ∙ sym (old_value r (layer.Class n))
  plain_at (layer.Field n) h = newly_spelled r (layer.Field n) ∙ sym (old_value r (layer.Field n))
  plain_at (layer.Method n) h = newly_spelled r (layer.Method n) ∙ sym (old_value r (layer.Method n))
  plain_at (layer.Enum n) h = newly_spelled r (layer.Enum n) ∙ sym (old_value r (layer.Enum n))
  plain_at (layer.Array vs) h = absurd h
  plain_at (layer.Annotation n) h = absurd h
  plain_at layer.Null h = newly_spelled r layer.Null ∙ sym (old_value r layer.Null)
  plain_at (layer.Bool b) h = newly_spelled r (layer.Bool b) ∙ sym (old_value r (layer.Bool b))

  abbrev Outer : EncValue → Type 0
  Outer v = IsPlain (out-EncValue v) → At v

  outer_at : (v : EncValue) → Outer v
  outer_at = ind-EncValue Outer (λ e. Unit {0}) (λ n. Unit {0}) (λ x y is h. plain_at x (subst IsPlain (out-roll-EncValue x) h)) (λ x y is. tt) (λ x y is. tt)

  -- what a field holds that has no first value
  pick : (t : Bool) (a b : EncValue) → At a → At b → At (if t then a else b)
  pick true a b x y = x
  pick false a b x y = y

  zero_at : (letter : ℕ) → At (zero_of letter)
  zero_at letter =
      pick (letter == 90) _ _ (subst At (variant.rolls-Bool false) (plain_at (layer.Bool false) tt))
      (pick (letter == 66) _ _ (subst At (variant.rolls-Byte (pos 0)) (plain_at (layer.Byte (pos 0)) tt))
      (pick (letter == 83) _ _ (subst At (variant.rolls-Short (pos 0)) (plain_at (layer.Short (pos 0)) tt))
      (pick (letter == 67) _ _ (subst At ((variant.rolls-Char 0)) (plain_at (layer.Char 0) tt))
      (pick (letter == 73) _ _ (subst At (variant.rolls-Int (pos 0)) (plain_at (layer.Int (pos 0)) tt))
      (pick (letter == 74) _ _ (subst At (variant.rolls-Long (pos 0)) (plain_at (layer.Long (pos 0)) tt))
      (pick (letter == 70) _ _ (subst At ((variant.rolls-Float 0)) (plain_at (layer.Float 0) tt))
      (pick (letter == 68) _ _ (subst At ((variant.rolls-Double 0)) (plain_at (layer.Double 0) tt)) (subst At (variant.rolls-Null) (plain_at layer.Null tt)))))))))

layer_plain : (p : Program) (letter : ℕ) (x : EncValue-F EncValue Element Note) → layer_fits p letter x ≡ true → IsPlain x
layer_plain p letter (layer.Byte z) h = tt
layer_plain p letter (layer.Short z) h = tt
layer_plain p letter (layer.Char z) h = tt
layer_plain p letter (layer.Int z) h = tt
layer_plain p letter (layer.Long z) h = tt
layer_plain p letter (layer.Float z) h = tt
layer_plain p letter (layer.Double z) h = tt
layer_plain p letter (layer.Str n) h = tt
layer_plain p letter (layer.Class n) h = tt
layer_plain p letter (layer.Field n) h = tt
layer_plain p letter (layer.Method n) h = tt
layer_plain p letter (layer.Enum n) h = tt
layer_plain p letter (layer.Array vs) h = clash false h refl
layer_plain p letter (layer.Annotation n) h = clash false h refl
layer_plain p letter layer.Null h = tt
layer_plain p letter (layer.Bool b) h = tt

-- ---- how many are written

count_low : (c : Class) (place count : ℕ) (fs : List Numbered) → count ≤ place → first_count c place count fs ≤ place + length fs
count_low c place count [] le = omega (arith, le)
count_low c place count (f ∷ fs) le = by_test (has_first (slice_get c.fields f.1)) (count_low c (suc place) (suc place) fs (omega arith)) (count_low c (suc place) count fs (omega (arith, le)))
  where
    by_test : (t : Bool) → first_count c (suc place) (suc place) fs ≤ suc place + length fs → first_count c (suc place) count fs ≤ suc place + length fs → first_count c (suc place) (if t then suc place else count) fs ≤ place + suc (length fs)
    by_test true a b = omega (arith, a)
    by_test false a b = omega (arith, b)

pub count_fits : (c : Class) (fs : List Numbered) → first_count c 0 0 fs ≤ length fs
count_fits c fs = omega (arith, count_low c 0 0 fs (omega arith))

module _ (p : Program) (r : Renumber) (c : Class) (fit : list_all (field_fits p c.name) c.fields ≡ true) where
  first_at : (f : Field) → field_fits p c.name f ≡ true → At r (value_or (field_letter p (slice_get p.fields f.name)) f.first)
  unfolding field_fits
  first_at f h = by_first f.first refl
    where
      own : first_value_fits p f.flags f.name f.first ≡ true
      own = (and_parts (first_value_fits p f.flags f.name f.first) (marks_fit p f.marks) (and_parts (is_class_number (class_of_field (slice_get p.fields f.name)) c.name) (first_value_fits p f.flags f.name f.first && marks_fit p f.marks) h).1).0

      by_first : (o : Option EncValue) → f.first ≡ o → At r (value_or (field_letter p (slice_get p.fields f.name)) f.first)
      by_first None e = subst (λ o. At r (value_or (field_letter p (slice_get p.fields f.name)) o)) (sym e) (zero_at r (field_letter p (slice_get p.fields f.name)))
      by_first (Some v) e =
          let fits : first_value_fits p f.flags f.name (Some v) ≡ true = subst (λ o. first_value_fits p f.flags f.name o ≡ true) e own in
          let both = and_parts (is_static f.flags) (layer_fits p (field_letter p (slice_get p.fields f.name)) (out-EncValue v)) fits in
          subst (λ o. At r (value_or (field_letter p (slice_get p.fields f.name)) o)) (sym e) (outer_at r v (layer_plain p (field_letter p (slice_get p.fields f.name)) (out-EncValue v) both.1))

  -- each of these fields is one of the class
  abbrev pub AreOwn : List Numbered → Type 0
  AreOwn fs = AllByRecursion (λ a. (f : Field) × (slice_get c.fields a.1 ≡ Some f)) fs

  values_same : (fs : List Numbered) → AreOwn fs → flat_map texts.value_text (map (λ f. one_value p r (slice_get c.fields f.1)) fs) ≡ flat_map (λ f. first_text p r (slice_get c.fields f.1)) fs
  values_same [] own = refl
  values_same (a ∷ fs) own =
      let f : Field = own.0.0 in
      let fits : field_fits p c.name f ≡ true = all_at (field_fits p c.name) c.fields a.1 f fit own.0.1 in
      rw own.0.1 (ap (λ (t : List ℕ). t ++ flat_map texts.value_text (map (λ x. one_value p r (slice_get c.fields x.1)) fs)) (first_at f fits) ∙ ap (λ (t : List ℕ). value_text r (value_or (field_letter p (slice_get p.fields f.name)) f.first) ++ t) (values_same fs own.1))

  own_taken : (n : ℕ) (fs : List Numbered) → AreOwn fs → AreOwn (take n fs)
  own_taken zero fs own = tt
  own_taken (suc n) [] own = tt
  own_taken (suc n) (a ∷ fs) own = (own.0, own_taken n fs own.1)

  some_text : (v : EncValue) (vs : List EncValue) → texts.array_text (v ∷ vs) ≡ uleb_text (min (length (v ∷ vs)) 4294967295) ++ flat_map texts.value_text (v ∷ vs)
  unfolding list_text
  some_text v vs = refl

  counted_same : (count : ℕ) (fs : List Numbered) → AreOwn fs → count ≤ length fs → length fs < 2 ^ 32 → texts.array_text (map (λ f. one_value p r (slice_get c.fields f.1)) (take count fs)) ≡ counted_text p r c count fs
  counted_same zero fs own le few = refl
  counted_same (suc n) [] own le few = absurd (omega (arith, le))
  counted_same (suc n) (a ∷ fs) own le few =
      let vs : List EncValue = map (λ f. one_value p r (slice_get c.fields f.1)) (take n fs) in
      let v : EncValue = one_value p r (slice_get c.fields a.1) in
      let many : length (v ∷ vs) ≡ suc n = ap suc (length-map (take n fs) (λ f. one_value p r (slice_get c.fields f.1)) ∙ length-take-le n fs (omega (arith, le))) in
      let low : min (length (v ∷ vs)) 4294967295 ≡ suc n = omega (arith, many, le, few) in
      some_text v vs
      ∙ (ap (λ (k : ℕ). uleb_text k ++ flat_map texts.value_text (v ∷ vs)) low
      ∙ ap (λ (t : List ℕ). uleb_text (suc n) ++ t) (values_same (take (suc n) (a ∷ fs)) (own_taken (suc n) (a ∷ fs) own))
      ∙ some_counted (suc n) (a ∷ fs) (omega arith))
    where
      some_counted : (k : ℕ) (xs : List Numbered) → 0 < k → values_text p r c k (take k xs) ≡ counted_text p r c k xs
      some_counted k xs lt = by_test (nat_eq k 0) refl
        where
          by_test : (t : Bool) → nat_eq k 0 ≡ t → values_text p r c k (take k xs) ≡ counted_text p r c k xs
          by_test true e = absurd (omega (arith, lt, eqb-true k 0 e))
          by_test false e = rw e refl

  pub array_same : (plan : Plan) → plan.class ≡ c → AreOwn (take plan.statics plan.fields) → length (take plan.statics plan.fields) < 2 ^ 32 → texts.array_text (first_values p r plan) ≡ array_text p r plan
  unfolding array_text
  array_same plan same own few =
      let fs : List Numbered = take plan.statics plan.fields in
      subst (λ (x : Class). texts.array_text (map (λ f. one_value p r (slice_get x.fields f.1)) (take (first_count x 0 0 fs) fs)) ≡ counted_text p r x (first_count x 0 0 fs) fs) (sym same) (counted_same (first_count c 0 0 fs) fs own (count_fits c fs) few)
