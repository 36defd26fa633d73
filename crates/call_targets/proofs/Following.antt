-- What is noted of made classes, type by type and class by class.
use Rattle.std.proofs.Common.{◌≡◌, ◌∙◌, ℕ, ◌+◌, ◌≤◌, inl, inr, Bool, true, false, true≢false, List, [], ◌∷◌, length, refl, sym, ap, subst, arith, Some}
use Rattle.std.specs.Prelude.{◌||◌, slice_get, Contains}
use Rattle.std.specs.List.{list_any, flat_map}
use Rattle.program_model.specs.declared.program.Class.{Class}
use Rattle.program_model.specs.declared.program.Program.{Program}
use Rattle.call_graph.specs.Above.{IsFrom, AllFrom, is_outer, has_outer}
use Rattle.call_graph.specs.Bases.{object_number}
use Rattle.call_targets.specs.declared.made.Tables.{Tables}
use Rattle.call_targets.specs.declared.table.Targets.{Targets}
use Rattle.call_targets.specs.Adding.{Note, AddsBy, Adds}
use Rattle.call_targets.specs.Following.{OfClass, OfMade, OfPlaces}
use Rattle.call_targets.specs.Noting.{kind_notes}
use Rattle.call_targets.specs.Targeted.{is_on, HasOuter}
use Rattle.call_targets.specs.Walking.{HasFrom}
use Rattle.call_targets.proofs.Adding.{by_same, by_join, by_other}
use Rattle.call_targets.proofs.Contained.{none_in, first_in, later_in, first_or, flat_has, flat_from, got_short, below_or}
use Rattle.call_targets.proofs.Noted.{more_notes}

any_kind : (t : ℕ → Bool) (xs : List ℕ) → list_any t xs ≡ true → (x : ℕ) × (Contains xs x × (t x ≡ true))
any_kind t [] h = absurd (true≢false (sym h))
any_kind t (x ∷ xs) h = by (t x) refl (any_kind t xs) h
  where
    by : (b : Bool) → t x ≡ b → (list_any t xs ≡ true → (y : ℕ) × (Contains xs y × (t y ≡ true))) → (b || list_any t xs) ≡ true → (y : ℕ) × (Contains (x ∷ xs) y × (t y ≡ true))
    by true e more h = (x, (first_in x xs, e))
    by false e more h = let r = more h in (r.0, (later_in x xs r.0 r.1.0, r.1.1))

or_right : (a b : Bool) → b ≡ true → (a || b) ≡ true
or_right true b h = refl
or_right false b h = h

kind_any : (t : ℕ → Bool) (xs : List ℕ) (x : ℕ) → Contains xs x → t x ≡ true → list_any t xs ≡ true
kind_any t [] x i e = absurd (none_in x i)
kind_any t (y ∷ ys) x i e = elim (first_or y ys x i) [
  | inl s ↦ ap (λ b. b || list_any t ys) (ap t s ∙ e)
  | inr j ↦ or_right (t y) (list_any t ys) (kind_any t ys x j e)
]

some_same : {X : Type 0} (x y : X) → Some x ≡ Some y → x ≡ y
some_same x y e = cc

-- the types above a class
module _ (p : Program) (t : Tables) (place kind : ℕ) (outer : Bool) (kinds : List ℕ) (object : t.object ≡ object_number p) (has : HasFrom p t.object kind kinds) (from : AllFrom p t.object kind kinds) (outer_is : outer ≡ has_outer p t.object kinds) where
  outer_of : HasOuter p kind → outer ≡ true
  outer_of h = outer_is ∙ kind_any (is_outer p t.object) kinds h.top (has h.top (subst (λ n. IsFrom p n kind h.top) (sym object) h.under) h.short) (ap (λ n. is_outer p n h.top) object ∙ h.outer)

  of_outer : outer ≡ true → HasOuter p kind
  of_outer h = let r = any_kind (is_outer p t.object) kinds (sym outer_is ∙ h) in let f = from r.0 r.1.0 in
      record { top = r.0; under = subst (λ n. IsFrom p n kind r.0) object f.0; short = f.1; outer = sym (ap (λ n. is_outer p n r.0) object) ∙ r.1.1 }

  widened : (b : Bool) (top : ℕ) (x : Note) → (b ≡ true → HasOuter p kind) → Contains (kind_notes p t.named t.kept place b top) x → Contains (kind_notes p t.named t.kept place outer top) x
  widened true top x right c = subst (λ z. Contains (kind_notes p t.named t.kept place z top) x) (sym (outer_of (right refl))) c
  widened false top x right c = more_notes p t.named t.kept place top outer x c

  pub class_by : (a b : Targets) → Adds (flat_map (kind_notes p t.named t.kept place outer) kinds) a b → AddsBy (OfClass p t place kind) a b
  class_by a b f = by_other (Contains (flat_map (kind_notes p t.named t.kept place outer) kinds)) (OfClass p t place kind) a b f.by
      (λ x r. flat_has (kind_notes p t.named t.kept place outer) kinds r.top x (has r.top (subst (λ n. IsFrom p n kind r.top) (sym object) r.under) r.short) (widened r.outer r.top x r.right r.noted))
      (λ x c. let r = flat_from (kind_notes p t.named t.kept place outer) kinds x c in let f = from r.one r.is_in in
      record { top = r.one; outer = outer; under = subst (λ n. IsFrom p n kind r.one) object f.0; short = f.1; right = of_outer; noted = r.has })

-- ---- the made classes

module _ (p : Program) (t : Tables) (made : List Bool) where
  pub made_by : (place kind : ℕ) (a b : Targets) → is_on made kind ≡ true → AddsBy (OfClass p t place kind) a b → AddsBy (OfMade p t made place kind) a b
  made_by place kind a b h f = by_other (OfClass p t place kind) (OfMade p t made place kind) a b f (λ x r. r.is) (λ x r. record { is_made = h; is = r })

  pub unmade_by : (place kind : ℕ) (a : Targets) → is_on made kind ≡ false → AddsBy (OfMade p t made place kind) a a
  unmade_by place kind a h = by_same (OfMade p t made place kind) a (λ x r. true≢false (sym r.is_made ∙ h))

  pub places_none : (a : Targets) → AddsBy (OfPlaces p t made 0) a a
  places_none a = by_same (OfPlaces p t made 0) a (λ x r. let l = r.before in omega (arith, l))

  pub places_at : (a b c : Targets) (i : ℕ) (k : Class) → slice_get p.classes i ≡ Some k → AddsBy (OfPlaces p t made i) a b → AddsBy (OfMade p t made i k.name) b c → AddsBy (OfPlaces p t made (i + 1)) a c
  places_at a b c i k got f g = by_join (OfPlaces p t made i) (OfMade p t made i k.name) (OfPlaces p t made (i + 1)) a b c f g
      (λ x r. elim (below_or r.place i r.before) [
        | inl lt ↦ inl (record { place = r.place; class = r.class; before = lt; is_class = r.is_class; is = r.is })
        | inr s ↦ inr (subst (λ z. OfMade p t made z k.name x) s (subst (λ z. OfMade p t made r.place z.name x) (some_same r.class k (sym r.is_class ∙ ap (slice_get p.classes) s ∙ got)) r.is))
      ])
      (λ x r. record { place = r.place; class = r.class; before = (let l = r.before in omega (arith, l)); is_class = r.is_class; is = r.is })
      (λ x r. record { place = i; class = k; before = omega arith; is_class = got; is = r })

  pub places_all : (a b : Targets) (i : ℕ) → length p.classes ≤ i → AddsBy (OfPlaces p t made i) a b → AddsBy (OfPlaces p t made (length p.classes)) a b
  places_all a b i le f = by_other (OfPlaces p t made i) (OfPlaces p t made (length p.classes)) a b f
      (λ x r. record { place = r.place; class = r.class; before = (let l = r.before in omega (arith, l, le)); is_class = r.is_class; is = r.is })
      (λ x r. record { place = r.place; class = r.class; before = got_short p.classes r.place r.class r.is_class; is_class = r.is_class; is = r.is })
