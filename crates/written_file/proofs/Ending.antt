-- The last of the first values that are written for a class is one of the program's.
use Rattle.std.proofs.Common.{◌≡◌, ◌+◌, ◌⊎◌, inl, inr, ℕ, zero, suc, Bool, true, false, List, [], ◌∷◌, ◌++◌, length, map, take, drop, refl, sym, ap, subst, ◌∙◌, arith, Option, Some, None}
use Rattle.std.specs.Prelude.{slice_get, is_some, if◌then◌else◌}
use Rattle.std.specs.Option.{option_map}
use Rattle.std.specs.List.{AllByRecursion}
use Rattle.lemmas.proofs.Lists.{get_map}
use Rattle.lemmas.proofs.Options.{some_same}
use Rattle.lemmas.proofs.Bools.{clash}
use Rattle.dex_pools.specs.declared.interner.Interner.{Interner}
use Rattle.dex_pools.specs.Interned.{IsInterned}
use Rattle.program_model.specs.declared.pass.Renumber.{Renumber}
use Rattle.program_model.specs.declared.value.EncValue.{EncValue}
use Rattle.program_model.specs.declared.program.Field.{Field}
use Rattle.program_model.specs.declared.program.Class.{Class}
use Rattle.program_model.specs.declared.program.Program.{Program}
use Rattle.dex_write.specs.declared.tables.ClassOffsets.{ClassOffsets}
use Rattle.dex_write.specs.Plans.{Plan, Numbered}
use Rattle.dex_write.specs.Codes.{codes_behind, lines_behind}
use Rattle.dex_write.specs.Sets.{behind_class}
use Rattle.dex_write.specs.Data.{has_first, first_count}
use Rattle.dex_write.specs.Written.{ArePlans}
use Rattle.dex_defs.specs.Arranged.{Both}
use Rattle.dex_defs.specs.Valid.{EndsInFirst}
use Rattle.dex_defs.specs.Written.{new_value, written_field, written_class}
use Rattle.write_laws.specs.Used.{IsShort}
use Rattle.written_file.proofs.Fit.{FitsClass}
use Rattle.written_file.specs.Parts.{one_value, first_values, class_parts}
use Rattle.written_file.proofs.Members.{field_or, field_at}
use Rattle.written_file.proofs.KindFields.{HasPlan}

-- the last of those counted has a first value
record LastFirst (c : Class) (place m : ℕ) (fs : List Numbered) : Type 0 where
  j : ℕ
  a : Numbered
  at : place + suc j ≡ m
  is : slice_get fs j ≡ Some a
  has : has_first (slice_get c.fields a.1) ≡ true

counted_last : (c : Class) (place count : ℕ) (fs : List Numbered) → (first_count c place count fs ≡ count) ⊎ LastFirst c place (first_count c place count fs) fs
counted_last c place count [] = inl refl
counted_last c place count (f ∷ fs) = by_test (has_first (slice_get c.fields f.1)) refl (counted_last c (suc place) (suc place) fs) (counted_last c (suc place) count fs)
  where
    later : (m : ℕ) → LastFirst c (suc place) m fs → LastFirst c place m (f ∷ fs)
    later m l = record { j = suc l.j; a = l.a; at = omega (arith, l.at); is = l.is; has = l.has }

    by_test : (t : Bool) → has_first (slice_get c.fields f.1) ≡ t → (first_count c (suc place) (suc place) fs ≡ suc place) ⊎ LastFirst c (suc place) (first_count c (suc place) (suc place) fs) fs → (first_count c (suc place) count fs ≡ count) ⊎ LastFirst c (suc place) (first_count c (suc place) count fs) fs
        → (first_count c (suc place) (if has_first (slice_get c.fields f.1) then suc place else count) fs ≡ count) ⊎ LastFirst c place (first_count c (suc place) (if has_first (slice_get c.fields f.1) then suc place else count) fs) (f ∷ fs)
    by_test true t (inl e) other = rw t (inr (record { j = 0; a = f; at = omega (arith, e); is = refl; has = t }))
    by_test true t (inr l) other = rw t (inr (later (first_count c (suc place) (suc place) fs) l))
    by_test false t one (inl e) = rw t (inl e)
    by_test false t one (inr l) = rw t (inr (later (first_count c (suc place) count fs) l))

ends_there : (g : Numbered → EncValue) (fld : Numbered → Field) (xs ys : List Numbered) (j : ℕ) (a : Numbered) (w : EncValue) → slice_get xs j ≡ Some a → (fld a).first ≡ Some w → EndsInFirst (map g (take (suc j) xs)) (map fld (xs ++ ys))
ends_there g fld [] ys j a w e f = absurd cc
ends_there g fld (x ∷ xs) ys zero a w e f = (w, ap (λ (b : Numbered). (fld b).first) (some_same x a e) ∙ f)
ends_there g fld (x ∷ []) ys (suc j) a w e f = absurd cc
ends_there g fld (x ∷ y ∷ xs) ys (suc j) a w e f = ends_there g fld (y ∷ xs) ys j a w e f

take_rest : (n : ℕ) (xs : List Numbered) → take n xs ++ drop n xs ≡ xs
take_rest zero xs = refl
take_rest (suc n) [] = refl
take_rest (suc n) (x ∷ xs) = ap (λ (l : List Numbered). x ∷ l) (take_rest n xs)

-- a first value stays one in new numbers
first_kept : (r : Renumber) (c : Class) (k : ℕ) → has_first (slice_get c.fields k) ≡ true → (w : EncValue) × ((field_at r c k).first ≡ Some w)
first_kept r c k h = by_field (slice_get c.fields k) refl
  where
    by_first : (f : Field) → slice_get c.fields k ≡ Some f → (o : Option EncValue) → f.first ≡ o → (w : EncValue) × ((field_at r c k).first ≡ Some w)
    by_first f e None g = clash (has_first (slice_get c.fields k)) h (ap has_first e ∙ ap (λ (o : Option EncValue). is_some o) g)
    by_first f e (Some v) g = (new_value r v, ap (λ (o : Option Field). (field_or o).first) (get_map (written_field r) c.fields k ∙ ap (option_map (written_field r)) e) ∙ ap (option_map (new_value r)) g)

    by_field : (o : Option Field) → slice_get c.fields k ≡ o → (w : EncValue) × ((field_at r c k).first ≡ Some w)
    by_field None e = clash (has_first (slice_get c.fields k)) h (ap has_first e)
    by_field (Some f) e = by_first f e f.first refl

plan_ends : (p : Program) (r : Renumber) (c : Class) (plan : Plan) (fields : List Field) → plan.class ≡ c → fields ≡ map (λ a. field_at r c a.1) plan.fields → EndsInFirst (first_values p r plan) fields
plan_ends p r c plan fields same e = subst (λ (x : Class). EndsInFirst (map (λ f. one_value p r (slice_get x.fields f.1)) (take (first_count x 0 0 xs) xs)) fields) (sym same) (by_count (counted_last c 0 0 xs))
  where
    xs : List Numbered
    xs = take plan.statics plan.fields

    none_end : (n : ℕ) → n ≡ 0 → EndsInFirst (map (λ f. one_value p r (slice_get c.fields f.1)) (take n xs)) fields
    none_end zero z = tt
    none_end (suc n) z = absurd (omega (arith, z))

    by_count : (first_count c 0 0 xs ≡ 0) ⊎ LastFirst c 0 (first_count c 0 0 xs) xs → EndsInFirst (map (λ f. one_value p r (slice_get c.fields f.1)) (take (first_count c 0 0 xs) xs)) fields
    by_count (inl z) = none_end (first_count c 0 0 xs) z
    by_count (inr l) =
        let first = first_kept r c l.a.1 l.has in
        let many : suc l.j ≡ first_count c 0 0 xs = omega (arith, l.at) in
        let all : map (λ a. field_at r c a.1) (xs ++ drop plan.statics plan.fields) ≡ fields = ap (λ (k : List Numbered). map (λ a. field_at r c a.1) k) (take_rest plan.statics plan.fields) ∙ sym e in
        subst (λ (n : ℕ). EndsInFirst (map (λ f. one_value p r (slice_get c.fields f.1)) (take n xs)) fields) many
        (subst (λ k. EndsInFirst (map (λ f. one_value p r (slice_get c.fields f.1)) (take (suc l.j) xs)) k) all (ends_there (λ f. one_value p r (slice_get c.fields f.1)) (λ a. field_at r c a.1) xs (drop plan.statics plan.fields) l.j l.a first.0 l.is first.1))

module _ (p : Program) (i : Interner) (few : IsShort p) (h : IsInterned p i) (fits : (k : ℕ) (c : Class) → slice_get p.classes k ≡ Some c → FitsClass p c) where
  pub all_end : (cs : List Class) (offsets : ClassOffsets) (place code_at lines_at : ℕ) (sets refs : List ℕ) (ps : List Plan) → ArePlans p i.numbers cs ps → AllByRecursion (HasPlan p i few h fits) ps
      → Both (λ c x. EndsInFirst x.values c.fields) (map (written_class i.numbers p) cs) (class_parts i.numbers offsets (first_values p i.numbers) place code_at lines_at sets refs ps)
  all_end [] offsets place code_at lines_at sets refs [] are a = tt
  all_end [] offsets place code_at lines_at sets refs (plan ∷ ps) are a = absurd are
  all_end (c ∷ cs) offsets place code_at lines_at sets refs [] are a = absurd are
  all_end (c ∷ cs) offsets place code_at lines_at sets refs (plan ∷ ps) are a =
      let x : HasPlan p i few h fits plan = a.0 in
      let same : x.c ≡ c = sym x.planned.class ∙ are.0.class in
      let fields : (written_class i.numbers p c).fields ≡ (written_class i.numbers p x.c).fields = ap (λ (y : Class). (written_class i.numbers p y).fields) (sym same) in
      (plan_ends p i.numbers x.c plan (written_class i.numbers p c).fields x.planned.class (fields ∙ x.planned.fields), all_end cs offsets (suc place) (codes_behind code_at plan.methods) (lines_behind lines_at plan.methods) (behind_class plan sets) (drop (length plan.methods) refs) ps are.1 a.1)
