-- The first values of the written file are spelled where they are named.
use Rattle.std.proofs.Common.{◌≡◌, ◌<◌, ◌^◌, inl, inr, ℕ, zero, suc, Bool, true, false, List, [], ◌∷◌, length, map, take, drop, refl, sym, ap, subst, ◌∙◌, arith, length-append, Option, Some, None, pos}
use Rattle.std.specs.Prelude.{slice_get, min, ◌&&◌, ◌==◌, if◌then◌else◌}
use Rattle.std.specs.List.{flat_map, AllByRecursion}
use Rattle.std.proofs.lemmas.Bool.{and_parts}
use Rattle.std.proofs.lemmas.List.{length-map}
use Rattle.lemmas.proofs.Lists.{all_at}
use Rattle.dex_pools.specs.declared.scalar.TableSizes.{TableSizes}
use Rattle.dex_pools.specs.declared.interner.Interner.{Interner}
use Rattle.dex_pools.specs.declared.used.Named.{Named}
use Rattle.dex_pools.specs.declared.used.Named.TheVariants as named
use Rattle.dex_pools.specs.Interned.{IsInterned}
use Rattle.dex_pools.specs.Finds.{Ascends}
use Rattle.dex_pools.specs.Order.{list_below}
use Rattle.dex_pools.specs.Used.{names_of_value, value_names, element_names, note_names, marks_names, first_names, field_names}
use Rattle.dex_pools.specs.Numbering.{used_in}
use Rattle.dex_pools.specs.Written.{list_text}
use Rattle.dex_base.specs.Leb.{uleb_text}
use Rattle.program_model.specs.declared.pass.Renumber.{Renumber}
use Rattle.program_model.specs.declared.value.EncValue.{EncValue, EncValue-F, roll-EncValue, out-EncValue, out-roll-EncValue}
use Rattle.program_model.specs.declared.value.EncValue.TheOpen as layer
use Rattle.program_model.specs.declared.value.EncValue.TheVariants as variant
use Rattle.program_model.specs.declared.value.EncValue.TheFolds as folds
use Rattle.program_model.specs.declared.value.EncValue.TheFolds.{ind-EncValue}
use Rattle.program_model.specs.declared.value.Element.{Element}
use Rattle.program_model.specs.declared.value.Note.{Note}
use Rattle.program_model.specs.declared.program.Field.{Field}
use Rattle.program_model.specs.declared.program.Class.{Class}
use Rattle.program_model.specs.declared.program.Program.{Program}
use Rattle.program_model.specs.Texts.{has_string, has_type, is_reference}
use Rattle.program_model.specs.ValueRules.{layer_fits, marks_fit}
use Rattle.program_model.specs.MemberRules.{is_static, class_of_field, is_class_number, field_letter, first_value_fits, field_fits}
use Rattle.dex_write.specs.declared.tables.ClassOffsets.{ClassOffsets}
use Rattle.dex_write.specs.Plans.{Plan, Numbered}
use Rattle.dex_write.specs.Codes.{codes_behind, lines_behind}
use Rattle.dex_write.specs.Sets.{behind_class}
use Rattle.dex_write.specs.Data.{first_count, zero_of, value_or}
use Rattle.dex_defs.specs.Arranged.{Both}
use Rattle.dex_defs.specs.Values.{AreValuesOf}
use Rattle.dex_defs.specs.ValueTexts as texts
use Rattle.dex_defs.specs.Spells.{sizes_in}
use Rattle.dex_defs.specs.Written.{new_value, written_by}
use Rattle.write_laws.specs.Used.{IsUsed, IsShort}
use Rattle.written_file.proofs.Fit.{FitsClass}
use Rattle.written_file.proofs.Naming.{value_named}
use Rattle.written_file.proofs.In.{In, in_left, in_got, all_in}
use Rattle.written_file.specs.Rises.{NamesRise}
use Rattle.written_file.specs.Fitting.{SizesFit, LayerFits, ValueFits}
use Rattle.written_file.specs.Wide.{IsWideLayer, IsWide, IsWideFirst, WideField, WideClass, HasWideValues}
use Rattle.written_file.proofs.Values.{array_stands}
use Rattle.written_file.specs.Parts.{one_value, first_values, class_parts}
use Rattle.written_file.proofs.Plans.{class_used}
use Rattle.written_file.proofs.KindFields.{HasPlan}
use Rattle.written_file.proofs.Small.{spots_own, taken_few, plan_fields_few}
use Rattle.written_file.proofs.FineSets.{fields_in}
use Rattle.written_file.proofs.Standing.{Stands, Unplaced, Placed}
use Rattle.written_file.proofs.DataItems.{some_uleb}
use Rattle.written_file.proofs.News.{Lands, new_open, newly}
use Rattle.written_file.proofs.Reading.{sizes_fit, lands}

first_in : (f : Field) (n : Named) → In n (first_names f.first) → In n (field_names f)
unfolding field_names
first_in f n i = inr (in_left n (first_names f.first) (marks_names f.marks) i)

taken_some : {X : Type 0} (P : X → Type 0) (n : ℕ) (xs : List X) → AllByRecursion P xs → AllByRecursion P (take n xs)
taken_some P zero xs a = tt
taken_some P (suc n) [] a = tt
taken_some P (suc n) (x ∷ xs) a = (a.0, taken_some P n xs a.1)

module _ (p : Program) (r : Renumber) (sizes : TableSizes) (Used : Named → Type 0) (spots : Lands p r sizes Used) where
  abbrev AllUsed : List Named → Type 0
  AllUsed ns = (n : Named) → In n ns → Used n

  layer_fit : (letter : ℕ) (x : EncValue-F EncValue Element Note) → layer_fits p letter x ≡ true → IsWideLayer (IsWide 0) x
      → AllUsed (names_of_value (folds.map-EncValue EncValue Element Note (List Named) (List Named) (List Named) value_names element_names note_names x)) → LayerFits sizes (ValueFits sizes 63) (new_open r x)
  layer_fit letter (layer.Byte z) f w u = w
  layer_fit letter (layer.Short z) f w u = w
  layer_fit letter (layer.Char z) f w u = w
  layer_fit letter (layer.Int z) f w u = w
  layer_fit letter (layer.Long z) f w u = w
  layer_fit letter (layer.Float z) f w u = w
  layer_fit letter (layer.Double z) f w u = w
  layer_fit letter (layer.Str n) f w u = spots.strings n (u (named.Text n) (inl refl)) (and_parts (is_reference letter) (has_string p n) f).1
  layer_fit letter (layer.Class n) f w u = spots.types n (u (named.Kind n) (inl refl)) (and_parts (is_reference letter) (has_type p n) f).1
  layer_fit letter (layer.Field n) f w u = absurd cc
  layer_fit letter (layer.Method n) f w u = absurd cc
  layer_fit letter (layer.Enum n) f w u = absurd cc
  layer_fit letter (layer.Array vs) f w u = absurd cc
  layer_fit letter (layer.Annotation n) f w u = absurd cc
  layer_fit letter layer.Null f w u = tt
  layer_fit letter (layer.Bool b) f w u = tt

  abbrev pub Fit : EncValue → Type 0
  Fit v = ValueFits sizes 64 (new_value r v)

  rolled_fit : (x : EncValue-F EncValue Element Note) → LayerFits sizes (ValueFits sizes 63) (new_open r x) → Fit (roll-EncValue x)
  rolled_fit x own = subst (λ z. LayerFits sizes (ValueFits sizes 63) z) (sym (ap (λ (v : EncValue). out-EncValue v) (newly r x) ∙ out-roll-EncValue (new_open r x))) own

  abbrev Outer : EncValue → Type 0
  Outer v = (letter : ℕ) → layer_fits p letter (out-EncValue v) ≡ true → IsWide 1 v → AllUsed (value_names v) → Fit v

  step : (x : EncValue-F EncValue Element Note) → Outer (roll-EncValue x)
  step x letter f w u = rolled_fit x (layer_fit letter x (subst (λ z. layer_fits p letter z ≡ true) (out-roll-EncValue x) f) (subst (λ z. IsWideLayer (IsWide 0) z) (out-roll-EncValue x) w) (subst AllUsed (value_named x) u))

  outer_fit : (v : EncValue) → Outer v
  outer_fit = ind-EncValue Outer (λ e. Unit {0}) (λ n. Unit {0}) (λ x y is. step x) (λ x y is. tt) (λ x y is. tt)

  pick : (t : Bool) (a b : EncValue) → Fit a → Fit b → Fit (if t then a else b)
  pick true a b x y = x
  pick false a b x y = y

  zero_fit : (letter : ℕ) → Fit (zero_of letter)
  zero_fit letter =
      pick (letter == 90) _ _ (subst Fit (variant.rolls-Bool false) (rolled_fit (layer.Bool false) tt))
      (pick (letter == 66) _ _ (subst Fit (variant.rolls-Byte (pos 0)) (rolled_fit (layer.Byte (pos 0)) (record { sfits = omega arith })))
      (pick (letter == 83) _ _ (subst Fit (variant.rolls-Short (pos 0)) (rolled_fit (layer.Short (pos 0)) (record { sfits = omega arith })))
      (pick (letter == 67) _ _ (subst Fit (variant.rolls-Char 0) (rolled_fit (layer.Char 0) (omega arith)))
      (pick (letter == 73) _ _ (subst Fit (variant.rolls-Int (pos 0)) (rolled_fit (layer.Int (pos 0)) (record { sfits = omega arith })))
      (pick (letter == 74) _ _ (subst Fit (variant.rolls-Long (pos 0)) (rolled_fit (layer.Long (pos 0)) (record { sfits = omega arith })))
      (pick (letter == 70) _ _ (subst Fit (variant.rolls-Float 0) (rolled_fit (layer.Float 0) (omega arith)))
      (pick (letter == 68) _ _ (subst Fit (variant.rolls-Double 0) (rolled_fit (layer.Double 0) (omega arith))) (subst Fit variant.rolls-Null (rolled_fit layer.Null tt)))))))))

  first_fit : (class : ℕ) (f : Field) → field_fits p class f ≡ true → IsWideFirst f.first → AllUsed (first_names f.first) → Fit (value_or (field_letter p (slice_get p.fields f.name)) f.first)
  unfolding field_fits
  first_fit class f h wide used = by_first f.first own wide used
    where
      own : first_value_fits p f.flags f.name f.first ≡ true
      own = (and_parts (first_value_fits p f.flags f.name f.first) (marks_fit p f.marks) (and_parts (is_class_number (class_of_field (slice_get p.fields f.name)) class) (first_value_fits p f.flags f.name f.first && marks_fit p f.marks) h).1).0

      by_first : (o : Option EncValue) → first_value_fits p f.flags f.name o ≡ true → IsWideFirst o → AllUsed (first_names o) → Fit (value_or (field_letter p (slice_get p.fields f.name)) o)
      by_first None e w u = zero_fit (field_letter p (slice_get p.fields f.name))
      by_first (Some v) e w u = outer_fit v (field_letter p (slice_get p.fields f.name)) (and_parts (is_static f.flags) (layer_fits p (field_letter p (slice_get p.fields f.name)) (out-EncValue v)) e).1 w u

array_some : (v : EncValue) (vs : List EncValue) → length (v ∷ vs) < 2 ^ 32 → 0 < length (texts.array_text (v ∷ vs))
unfolding list_text
array_some v vs few =
    let low : min (length (v ∷ vs)) 4294967295 ≡ length (v ∷ vs) = omega (arith, few) in
    let some : 0 < length (uleb_text (length (v ∷ vs))) = some_uleb (length (v ∷ vs)) few in
    let same : length (uleb_text (min (length (v ∷ vs)) 4294967295)) ≡ length (uleb_text (length (v ∷ vs))) = ap (λ (n : ℕ). length (uleb_text n)) low in
    omega (arith, length-append (uleb_text (min (length (v ∷ vs)) 4294967295)) (flat_map texts.value_text (v ∷ vs)), some, same)

-- the values stand where they are named
values_stand : (bytes : List ℕ) (sizes : TableSizes) (offset : ℕ) (vs : List EncValue) → SizesFit sizes → AllByRecursion (ValueFits sizes 64) vs → length vs < 2 ^ 32 → Stands bytes offset (texts.array_text vs) → AreValuesOf bytes sizes offset vs
values_stand bytes sizes offset [] fit f few (Unplaced a t) = subst (λ n. AreValuesOf bytes sizes n []) (sym a) refl
values_stand bytes sizes offset [] fit f few (Placed a lt h) = absurd (omega (arith, lt))
values_stand bytes sizes offset (v ∷ vs) fit f few (Unplaced a t) = let some : 0 < length (texts.array_text (v ∷ vs)) = array_some v vs few in let none : length (texts.array_text (v ∷ vs)) ≡ 0 = ap (λ (l : List ℕ). length l) t in absurd (omega (arith, some, none))
values_stand bytes sizes zero (v ∷ vs) fit f few (Placed a lt h) = absurd (omega (arith, a))
values_stand bytes sizes (suc k) (v ∷ vs) fit f few (Placed a lt h) = array_stands bytes sizes fit v vs (suc k) f few h

module _ (p : Program) (i : Interner) (few : IsShort p) (h : IsInterned p i) (fits : (k : ℕ) (c : Class) → slice_get p.classes k ≡ Some c → FitsClass p c)
    (wide : HasWideValues p) (old : NamesRise p) (new : Ascends list_below (written_by i p).strings) where
  abbrev sizes : TableSizes
  sizes = sizes_in (written_by i p)

  fields_fit : (k : ℕ) (c : Class) → slice_get p.classes k ≡ Some c → (fs : List Numbered) → AllByRecursion (λ b. (f : Field) × (slice_get c.fields b.1 ≡ Some f)) fs → AllByRecursion (ValueFits sizes 64) (map (λ f. one_value p i.numbers (slice_get c.fields f.1)) fs)
  fields_fit k c e [] own = tt
  fields_fit k c e (b ∷ fs) own =
      let f : Field = own.0.0 in
      let j : In f c.fields = in_got c.fields b.1 f own.0.1 in
      let w : WideField f = all_in WideField f c.fields (all_in WideClass c p.classes wide (in_got p.classes k c e)).fields j in
      let one : ValueFits sizes 64 (one_value p i.numbers (Some f)) = first_fit p i.numbers sizes (λ n. IsUsed (used_in p) n) (lands p i few h fits wide old new) c.name f (all_at (field_fits p c.name) c.fields b.1 f (fits k c e).fields own.0.1) w.first (λ n x. class_used p k c e n (fields_in c f n j (first_in f n x))) in
      (subst (λ o. ValueFits sizes 64 (one_value p i.numbers o)) (sym own.0.1) one, fields_fit k c e fs own.1)

  plan_fits : (plan : Plan) → HasPlan p i few h fits plan → AllByRecursion (ValueFits sizes 64) (first_values p i.numbers plan)
  plan_fits plan x =
      let fs : List Numbered = take plan.statics plan.fields in
      let own : AllByRecursion (λ b. (f : Field) × (slice_get x.c.fields b.1 ≡ Some f)) fs = spots_own p i few h fits x.c true fs x.planned.static_spots in
      subst (λ (c : Class). AllByRecursion (ValueFits sizes 64) (map (λ f. one_value p i.numbers (slice_get c.fields f.1)) (take (first_count c 0 0 fs) fs))) (sym x.planned.class)
      (fields_fit x.k x.c x.is_class (take (first_count x.c 0 0 fs) fs) (taken_some (λ b. (f : Field) × (slice_get x.c.fields b.1 ≡ Some f)) (first_count x.c 0 0 fs) fs own))

  plan_few : (plan : Plan) → HasPlan p i few h fits plan → length (first_values p i.numbers plan) < 2 ^ 32
  plan_few plan x =
      let fs : List Numbered = take plan.statics plan.fields in
      let n : ℕ = first_count plan.class 0 0 fs in
      omega (arith, length-map (take n fs) (λ (f : Numbered). one_value p i.numbers (slice_get plan.class.fields f.1)), taken_few n fs, taken_few plan.statics plan.fields, plan_fields_few p i few h fits plan x, few.fields)

  -- each class's first values
  pub all_values : (bytes : List ℕ) (offsets : ClassOffsets) (place code_at lines_at : ℕ) (sets refs : List ℕ) (plans : List Plan) → AllByRecursion (HasPlan p i few h fits) plans
      → Both (Stands bytes) (map (λ c. c.def.values) (class_parts i.numbers offsets (first_values p i.numbers) place code_at lines_at sets refs plans)) (map (λ c. texts.array_text c.values) (class_parts i.numbers offsets (first_values p i.numbers) place code_at lines_at sets refs plans))
      → AllByRecursion (λ x. AreValuesOf bytes sizes x.def.values x.values) (class_parts i.numbers offsets (first_values p i.numbers) place code_at lines_at sets refs plans)
  all_values bytes offsets place code_at lines_at sets refs [] a b = tt
  all_values bytes offsets place code_at lines_at sets refs (plan ∷ plans) a b = (
    values_stand bytes sizes _ (first_values p i.numbers plan) (sizes_fit p i few h fits wide old new) (plan_fits plan a.0) (plan_few plan a.0) b.0,
    all_values bytes offsets (suc place) (codes_behind code_at plan.methods) (lines_behind lines_at plan.methods) (behind_class plan sets) (drop (length plan.methods) refs) plans a.1 b.1,
  )
