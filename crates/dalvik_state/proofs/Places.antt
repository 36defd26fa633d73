-- Places among what was exposed, by numbers and by names.
use Rattle.std.proofs.Common.{◌≡◌, ℕ, zero, suc, ◌+◌, ◌<◌, ◌≤◌, ◌⊎◌, inl, inr, Bool, true, false, List, [], ◌∷◌, ◌++◌, length, map, nat_eq, arith, ap, refl, sym, subst, ◌∙◌, eqb-true, eq-eqb}
use Rattle.std.specs.Prelude.{Option, Some, None, cond, position, slice_get}
use Rattle.std.specs.Option.{option_map, option_and_then, option_or}
use Rattle.std.proofs.lemmas.Option.{slice_get-map}
use Rattle.class_defs.proofs.Positions.{position_step, position_snoc}
use Rattle.dalvik_lookups.proofs.Interned.{got_short, got_last}
use Rattle.dalvik_lookups.proofs.Placed.{position_nowhere}
use Rattle.dalvik_defs.specs.Show.{place_in, mark_printed, is_printed}
use Rattle.dalvik_defs.specs.State.{Exposed as Seen}
use Rattle.dalvik_state.specs.declared.world.Exposed.{Exposed}
use Rattle.dalvik_state.specs.Worlds.{Spot, place_at, place_spot, print_at, printed_at}
use Rattle.dalvik_state.specs.States.{ArePlaced}
use Rattle.dalvik_state.specs.Views.{exposed_of}

-- ---- numbers

pub unlike : (a b : ℕ) → (a ≡ b → ⊥) → nat_eq a b ≡ false
unlike a b f = by (nat_eq a b) refl
  where
    by : (x : Bool) → nat_eq a b ≡ x → x ≡ false
    by true e = absurd (f (eqb-true a b e))
    by false e = refl

pub none_past : {X : Type 0} (xs : List X) (i : ℕ) → slice_get xs i ≡ None → length xs ≤ i
none_past [] i e = omega arith
none_past (x ∷ xs) zero e = absurd (cc)
none_past (x ∷ xs) (suc i) e = let h = none_past xs i e in omega (arith, h)

-- ---- what was exposed

pub seen_more : (es fs : List Exposed) → map exposed_of (es ++ fs) ≡ map exposed_of es ++ map exposed_of fs
seen_more [] fs = refl
seen_more (e ∷ es) fs = ap (λ (xs : List Seen). exposed_of e ∷ xs) (seen_more es fs)

pub seen_long : (es : List Exposed) → length (map exposed_of es) ≡ length es
seen_long [] = refl
seen_long (e ∷ es) = ap suc (seen_long es)

-- an entry by names is one by numbers
seen_at : (size : ℕ) (es : List Exposed) (i : ℕ) (x : Seen) → ((j : ℕ) (e : Exposed) → slice_get es j ≡ Some e → e.number < size) → slice_get (map exposed_of es) i ≡ Some x → x.number < size
seen_at size [] i x h e = absurd (cc)
seen_at size (y ∷ ys) zero x h e = let same : exposed_of y ≡ x = cc in subst (λ (z : Seen). z.number < size) same (h 0 y refl)
seen_at size (y ∷ ys) (suc i) x h e = seen_at size ys i x (λ j f g. h (suc j) f g) e

-- what is past all that was exposed has no place
pub place_past : (size : ℕ) (es : List Exposed) → ((j : ℕ) (e : Exposed) → slice_get es j ≡ Some e → e.number < size) → (n : ℕ) → size ≤ n → place_in (map exposed_of es) n ≡ None
place_past size es h n high = position_nowhere (λ (x : Seen). nat_eq x.number n) (map exposed_of es) (λ i x g.
    let low = seen_at size es i x h g in
    unlike x.number n (λ same. absurd (omega (arith, low, high, same))))

-- the place of a thing is that of its number
pub place_is : (spots : List Spot) (exposed : List Exposed) → ArePlaced spots exposed → (n : ℕ) → place_at spots n ≡ place_in (map exposed_of exposed) n
place_is spots exposed h n = by (slice_get spots n) refl
  where
    by : (o : Option Spot) → slice_get spots n ≡ o → option_and_then (λ (s : Spot). s.place) o ≡ place_in (map exposed_of exposed) n
    by (Some s) e = h.at n s e
    by None e = sym (place_past (length spots) exposed h.below n (none_past spots n e))

pub printed_is : (exposed : List Exposed) (o : Option ℕ) → printed_at exposed o ≡ elim o as (λ o. Bool) [ Some i ↦ is_printed (map exposed_of exposed) i | None ↦ false ]
printed_is exposed None = refl
printed_is exposed (Some i) = sym (ap (λ (x : Option Seen). elim x as (λ x. Bool) [ Some e ↦ e.printed | None ↦ false ]) (slice_get-map exposed_of exposed i) ∙ by (slice_get exposed i))
  where
    by : (o : Option Exposed) → elim (option_map exposed_of o) as (λ x. Bool) [ Some e ↦ e.printed | None ↦ false ] ≡ elim o as (λ o. Bool) [ Some e ↦ e.printed | None ↦ false ]
    by None = refl
    by (Some e) = refl

-- ---- printing

-- what is marked, by whether the first one is it
abbrev pub marked_by : ℕ → Seen → List Seen → Bool → List Seen
marked_by n e es b = elim b as (λ b. List Seen) [ true ↦ record e { printed = true } ∷ es | false ↦ e ∷ mark_printed n es ]

pub print_named : (n : ℕ) (es : List Exposed) (i : ℕ) → place_in (map exposed_of es) n ≡ Some i → map exposed_of (print_at es i) ≡ mark_printed n (map exposed_of es)
print_named n [] i e = absurd (cc)
print_named n (x ∷ xs) i e = by (print_named n xs) (nat_eq x.number n) refl (place_in (map exposed_of xs) n) refl (sym (position_step (λ (y : Seen). nat_eq y.number n) (exposed_of x) (map exposed_of xs)) ∙ e)
  where
    by : ((j : ℕ) → place_in (map exposed_of xs) n ≡ Some j → map exposed_of (print_at xs j) ≡ mark_printed n (map exposed_of xs)) → (b : Bool) → nat_eq x.number n ≡ b → (o : Option ℕ) → place_in (map exposed_of xs) n ≡ o → cond b (Some 0) (option_map suc o) ≡ Some i → map exposed_of (print_at (x ∷ xs) i) ≡ mark_printed n (map exposed_of (x ∷ xs))
    by more true h o f g =
        let z : i ≡ 0 = cc in
        ap (λ (j : ℕ). map exposed_of (print_at (x ∷ xs) j)) z ∙ sym (ap (marked_by n (exposed_of x) (map exposed_of xs)) h)
    by more false h None f g = absurd (cc)
    by more false h (Some j) f g =
        let z : i ≡ suc j = cc in
        ap (λ (k : ℕ). map exposed_of (print_at (x ∷ xs) k)) z ∙ ap (λ (ys : List Seen). exposed_of x ∷ ys) (more j f) ∙ sym (ap (marked_by n (exposed_of x) (map exposed_of xs)) h)

-- no place changes
place_printed : (n : ℕ) (es : List Exposed) (i : ℕ) → place_in (map exposed_of (print_at es i)) n ≡ place_in (map exposed_of es) n
place_printed n [] i = refl
place_printed n (x ∷ xs) zero =
    position_step (λ (y : Seen). nat_eq y.number n) (exposed_of (record x { printed = true })) (map exposed_of xs) ∙ sym (position_step (λ (y : Seen). nat_eq y.number n) (exposed_of x) (map exposed_of xs))
place_printed n (x ∷ xs) (suc i) =
    position_step (λ (y : Seen). nat_eq y.number n) (exposed_of x) (map exposed_of (print_at xs i))
    ∙ ap (λ (o : Option ℕ). cond (nat_eq x.number n) (Some 0) (option_map suc o)) (place_printed n xs i)
    ∙ sym (position_step (λ (y : Seen). nat_eq y.number n) (exposed_of x) (map exposed_of xs))

below_printed : (size : ℕ) (es : List Exposed) (i : ℕ) → ((j : ℕ) (e : Exposed) → slice_get es j ≡ Some e → e.number < size) → (j : ℕ) (e : Exposed) → slice_get (print_at es i) j ≡ Some e → e.number < size
below_printed size [] i h j e g = absurd (cc)
below_printed size (x ∷ xs) zero h zero e g = let same : record x { printed = true } ≡ e = cc in subst (λ (y : Exposed). y.number < size) same (h 0 x refl)
below_printed size (x ∷ xs) zero h (suc j) e g = h (suc j) e g
below_printed size (x ∷ xs) (suc i) h zero e g = h 0 e g
below_printed size (x ∷ xs) (suc i) h (suc j) e g = below_printed size xs i (λ k y f. h (suc k) y f) j e g

pub placed_printed : (spots : List Spot) (exposed : List Exposed) (i : ℕ) → ArePlaced spots exposed → ArePlaced spots (print_at exposed i)
placed_printed spots exposed i h = record {
  below = below_printed (length spots) exposed i h.below;
  at = λ j s e. h.at j s e ∙ sym (place_printed j exposed i);
}

-- ---- a place is given

pub record Placing (place : ℕ) (ss : List Spot) (n i : ℕ) (s : Spot) : Type 0 where
  pub old : Spot
  pub was : slice_get ss i ≡ Some old
  pub shape : old.shape ≡ s.shape
  pub either : ((n ≡ i) × (s.place ≡ Some place)) ⊎ ((n ≡ i → ⊥) × (s.place ≡ old.place))

pub placing : (place : ℕ) (ss : List Spot) (n i : ℕ) (s : Spot) → slice_get (place_spot place ss n) i ≡ Some s → Placing place ss n i s
placing place [] n i s e = absurd (cc)
placing place (x ∷ xs) zero zero s e = let same : record x { place = Some place } ≡ s = cc in
    record { old = x; was = refl; shape = ap (λ (y : Spot). y.shape) same; either = inl (refl, sym (ap (λ (y : Spot). y.place) same)) }
placing place (x ∷ xs) zero (suc i) s e = record { old = s; was = e; shape = refl; either = inr ((λ z. absurd (omega (arith, z))), refl) }
placing place (x ∷ xs) (suc n) zero s e = let same : x ≡ s = cc in
    record { old = s; was = e; shape = refl; either = inr ((λ z. absurd (omega (arith, z))), refl) }
placing place (x ∷ xs) (suc n) (suc i) s e = let r = placing place xs n i s e in
    record { old = r.old; was = r.was; shape = r.shape; either = elim r.either [ inl p ↦ inl (ap suc p.0, p.1) | inr p ↦ inr ((λ z. let low : n ≡ i = omega (arith, z) in p.0 low), p.1) ] }

pub as_long : (place : ℕ) (ss : List Spot) (n : ℕ) → length (place_spot place ss n) ≡ length ss
as_long place [] n = refl
as_long place (s ∷ ss) zero = refl
as_long place (s ∷ ss) (suc n) = ap suc (as_long place ss n)

pub or_none : (o : Option ℕ) → option_or o None ≡ o
or_none None = refl
or_none (Some i) = refl

-- the place of each number once one more is exposed
pub place_more : (es : List Exposed) (e : Exposed) (i : ℕ) → place_in (map exposed_of (es ++ e ∷ [])) i ≡ option_or (place_in (map exposed_of es) i) (cond (nat_eq e.number i) (Some (length es)) None)
place_more es e i =
    ap (λ (xs : List Seen). place_in xs i) (seen_more es (e ∷ []))
    ∙ position_snoc (λ (y : Seen). nat_eq y.number i) (map exposed_of es) (exposed_of e)
    ∙ ap (λ (k : ℕ). option_or (place_in (map exposed_of es) i) (cond (nat_eq e.number i) (Some k) None)) (seen_long es)

pub placed_more : (spots : List Spot) (exposed : List Exposed) (e : Exposed) → ArePlaced spots exposed → e.number < length spots → place_at spots e.number ≡ None → ArePlaced (place_spot (length exposed) spots e.number) (exposed ++ e ∷ [])
placed_more spots exposed e h low new = record {
  below = λ i x g. subst (λ (k : ℕ). x.number < k) (sym (as_long (length exposed) spots e.number)) (elim (got_last exposed e x i g) [ inl f ↦ h.below i x f | inr f ↦ subst (λ (y : Exposed). y.number < length spots) (sym f.1) low ]);
  at = λ i s g. at i s (placing (length exposed) spots e.number i s g);
}
  where
    at : (i : ℕ) (s : Spot) → Placing (length exposed) spots e.number i s → s.place ≡ place_in (map exposed_of (exposed ++ e ∷ [])) i
    at i s r = elim r.either [
      | inl p ↦ p.1 ∙ sym (place_more exposed e i
          ∙ ap (λ (o : Option ℕ). option_or o (cond (nat_eq e.number i) (Some (length exposed)) None)) (ap (place_in (map exposed_of exposed)) (sym p.0) ∙ sym (place_is spots exposed h e.number) ∙ new)
          ∙ ap (λ (b : Bool). cond b (Some (length exposed)) None) (eq-eqb e.number i p.0))
      | inr p ↦ p.1 ∙ h.at i r.old r.was ∙ sym (place_more exposed e i
          ∙ ap (λ (b : Bool). option_or (place_in (map exposed_of exposed) i) (cond b (Some (length exposed)) None)) (unlike e.number i p.0)
          ∙ or_none (place_in (map exposed_of exposed) i))
    ]
