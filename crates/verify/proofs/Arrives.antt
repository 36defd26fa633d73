-- What the arrival of frames does to the positions.
use Rattle.std.proofs.Common.{◌≡◌, ℕ, ◌+◌, ◌<◌, ◌≤◌, Bool, true, false, length, Option, Some, None, ◌⊎◌, inl, inr, refl, sym, ap, ◌∙◌, subst, arith, get_or-set_other, get_or-set_same}
use Rattle.std.specs.Prelude.{slice_get, slice_set, if◌then◌else◌}
use Rattle.std.proofs.Math.ListN.{length-set}
use Rattle.std.proofs.lemmas.Bool.{cases_eq}
use Rattle.std.proofs.lemmas.Option.{slice_get_within, get_or_from_slice_get, slice_get-get_or}
use Rattle.verify.specs.declared.tables.Tables.{Tables}
use Rattle.verify.specs.Flow.{met, rises_in, Arrived, arrived_at, arrived, place_at}
use Rattle.verify.specs.Frames.{Kinds}
use Rattle.verify.specs.Waiting.{Waits, count_of}
use Rattle.verify.specs.Typings.{IsLattice, IsBelow, AtMost, Table, IsUnder, Arrives, IsWide}
use Rattle.verify.proofs.Weights.{weight, weight_falls}
use Rattle.verify.proofs.Raises.{raised_all_long, kinds_stay, kinds_itself, kinds_on, kinds_old, kinds_new, kinds_least}

-- positions whose frames rose wait, and nothing else changed; each frame has so many registers
pub record Grows (t : Tables) (m : ℕ) (w w' : Arrived) : Type 0 where
  pub long : length w'.places ≡ length w.places
  pub flags : length w'.waits ≡ length w.waits
  pub wide : IsWide m w'.places
  pub kept : (n : ℕ) → Waits w.waits n → Waits w'.waits n
  pub woken : (n : ℕ) → (place_at w'.places n ≡ place_at w.places n) ⊎ Waits w'.waits n
  pub falls : weight t m w'.places + count_of w'.waits ≤ weight t m w.places + count_of w.waits

-- each position of a list has so many registers, and each has a mark
pub record Stands (m : ℕ) (w : Arrived) : Type 0 where
  pub wide : IsWide m w.places
  pub flags : length w.waits ≡ length w.places

pub stands_on : (t : Tables) (m : ℕ) (w w' : Arrived) → Stands m w → Grows t m w w' → Stands m w'
stands_on t m w w' s g = record { wide = g.wide; flags = g.flags ∙ s.flags ∙ sym g.long }

pub grows_same : (t : Tables) (m : ℕ) (w : Arrived) → Stands m w → Grows t m w w
grows_same t m w s = record { long = refl; flags = refl; wide = s.wide; kept = λ n h. h; woken = λ n. inl refl; falls = omega arith }

pub grows_on : (t : Tables) (m : ℕ) (w w' w'' : Arrived) → Grows t m w w' → Grows t m w' w'' → Grows t m w w''
grows_on t m w w' w'' a b = record {
  long = b.long ∙ a.long;
  flags = b.flags ∙ a.flags;
  wide = b.wide;
  kept = λ n h. b.kept n (a.kept n h);
  woken = λ n. elim (b.woken n) [ inr c ↦ inr c | inl e ↦ elim (a.woken n) [ inr c ↦ inr (b.kept n c) | inl f ↦ inl (e ∙ f) ] ];
  falls = omega (arith, a.falls, b.falls);
}

pub at_most_itself : (t : Tables) (a : Option Kinds) → AtMost t a a
at_most_itself t None = tt
at_most_itself t (Some a) = kinds_itself t a

pub at_most_on : (t : Tables) (l : IsLattice t) (a b c : Option Kinds) → AtMost t a b → AtMost t b c → AtMost t a c
at_most_on t l None b c p q = tt
at_most_on t l (Some a) None c p q = absurd p
at_most_on t l (Some a) (Some b) None p q = absurd q
at_most_on t l (Some a) (Some b) (Some c) p q = kinds_on t l a b c p q

pub some_same : {X : Type 0} (a b : X) → Some a ≡ Some b → a ≡ b
some_same a b e = cc

-- ---- one arrival

module _ (t : Tables) (m q : ℕ) (a : Kinds) (w : Arrived) (old : Option Kinds) (is_old : slice_get w.places q ≡ Some old) (s : Stands m w) (width : length a.registers ≡ m) where
  abbrev w' : Arrived
  w' = arrived_at t q a w (Some old)

  pub inside : q < length w.places
  inside = slice_get_within w.places q old is_old

  here_old : place_at w.places q ≡ old
  here_old = get_or_from_slice_get w.places q old None is_old

  pub here_new : place_at (slice_set w.places q (Some (met t a old))) q ≡ Some (met t a old)
  here_new = get_or-set_same w.places q (Some (met t a old)) None inside

  old_wide : (o : Option Kinds) → old ≡ o → length (met t a o).registers ≡ m
  old_wide None e = width
  old_wide (Some o) e = raised_all_long t a.registers o.registers ∙ s.wide q o (here_old ∙ e)

  marks : (b : Bool) → length (if b then slice_set w.waits q true else w.waits) ≡ length w.waits
  marks true = length-set w.waits q true
  marks false = refl

  set_kept : (n : ℕ) → Waits w.waits n → Waits (slice_set w.waits q true) n
  set_kept n h = elim (cases_eq n q) [
    | inl k ↦ subst (Waits (slice_set w.waits q true)) (sym k) (get_or-set_same w.waits q true false (subst (λ x. q < x) (sym s.flags) inside))
    | inr k ↦ get_or-set_other w.waits q n true false k ∙ h
  ]

  marks_kept : (b : Bool) (n : ℕ) → Waits w.waits n → Waits (if b then slice_set w.waits q true else w.waits) n
  marks_kept true n h = set_kept n h
  marks_kept false n h = h

  met_same : (o : Option Kinds) → old ≡ o → rises_in t a o ≡ false → Some (met t a o) ≡ o
  met_same None e f = absurd (cc)
  met_same (Some o) e f = ap Some (kinds_stay t a o f)

  marks_woken : (b : Bool) → rises_in t a old ≡ b → (place_at (slice_set w.places q (Some (met t a old))) q ≡ place_at w.places q) ⊎ Waits (if b then slice_set w.waits q true else w.waits) q
  marks_woken true e = inr (get_or-set_same w.waits q true false (subst (λ x. q < x) (sym s.flags) inside))
  marks_woken false e = inl (here_new ∙ met_same old refl e ∙ sym here_old)

  at_each : (P : ℕ → Option Kinds → Type 0) → P q (Some (met t a old)) → ((n : ℕ) → P n (place_at w.places n)) → (n : ℕ) → P n (place_at (slice_set w.places q (Some (met t a old))) n)
  at_each P p r n = elim (cases_eq n q) [
    | inl k ↦ subst (λ i. P i (place_at (slice_set w.places q (Some (met t a old))) i)) (sym k) (subst (P q) (sym here_new) p)
    | inr k ↦ subst (P n) (sym (get_or-set_other w.places q n (Some (met t a old)) None k)) (r n)
  ]

  pub grows_at : Grows t m w w'
  grows_at = record {
    long = length-set w.places q (Some (met t a old));
    flags = marks (rises_in t a old);
    wide = at_each (λ n p. (x : Kinds) → p ≡ Some x → length x.registers ≡ m) (λ x e. subst (λ y. length y.registers ≡ m) (some_same _ _ e) (old_wide old refl)) s.wide;
    kept = marks_kept (rises_in t a old);
    woken = λ n. elim (cases_eq n q) [
      | inl k ↦ subst (λ i. (place_at w'.places i ≡ place_at w.places i) ⊎ Waits w'.waits i) (sym k) (marks_woken (rises_in t a old) refl)
      | inr k ↦ inl (get_or-set_other w.places q n (Some (met t a old)) None k)
    ];
    falls = weight_falls t m q a w.places w.waits old inside here_old width;
  }

  module _ (l : IsLattice t) where
    old_below : (o : Option Kinds) → old ≡ o → AtMost t o (Some (met t a o))
    old_below None e = tt
    old_below (Some o) e = kinds_old t l a o (width ∙ sym (s.wide q o (here_old ∙ e)))

    new_below : (o : Option Kinds) → old ≡ o → IsBelow t a (met t a o)
    new_below None e = kinds_itself t a
    new_below (Some o) e = kinds_new t l a o (width ∙ sym (s.wide q o (here_old ∙ e)))

    pub up_at : IsUnder t w.places w'.places
    up_at n = elim (cases_eq n q) [
      | inl k ↦ subst (λ i. AtMost t (place_at w.places i) (place_at w'.places i)) (sym k) (subst (λ x. AtMost t x (place_at w'.places q)) (sym here_old) (subst (AtMost t old) (sym here_new) (old_below old refl)))
      | inr k ↦ subst (AtMost t (place_at w.places n)) (sym (get_or-set_other w.places q n (Some (met t a old)) None k)) (at_most_itself t (place_at w.places n))
    ]

    pub arrives_at : AtMost t (Some a) (place_at w'.places q)
    arrives_at = subst (AtMost t (Some a)) (sym here_new) (new_below old refl)

    met_least : (o u : Option Kinds) → AtMost t (Some a) u → AtMost t o u → AtMost t (Some (met t a o)) u
    met_least o None p r = absurd p
    met_least None (Some u) p r = p
    met_least (Some o) (Some u) p r = kinds_least t l a o u p r

    pub under_at : (y : Table) → IsUnder t w.places y → AtMost t (Some a) (place_at y q) → IsUnder t w'.places y
    under_at y u p = at_each (λ n x. AtMost t x (place_at y n)) (met_least old (place_at y q) p (subst (λ x. AtMost t x (place_at y q)) here_old (u q))) u

pub arrived_grows : (t : Tables) (m q : ℕ) (a : Kinds) (w : Arrived) → Stands m w → length a.registers ≡ m → Grows t m w (arrived t q a w)
arrived_grows t m q a w s width = go (slice_get w.places q) refl
  where
    go : (o : Option (Option Kinds)) → slice_get w.places q ≡ o → Grows t m w (arrived_at t q a w o)
    go None e = grows_same t m w s
    go (Some old) e = grows_at t m q a w old e s width

-- a table under another one with no more frames, and where frames arrive
module _ (t : Tables) (l : IsLattice t) where
  pub arrived_up : (m q : ℕ) (a : Kinds) (w : Arrived) → Stands m w → length a.registers ≡ m → IsUnder t w.places (arrived t q a w).places
  arrived_up m q a w s width = go (slice_get w.places q) refl
    where
      go : (o : Option (Option Kinds)) → slice_get w.places q ≡ o → IsUnder t w.places (arrived_at t q a w o).places
      go None e = λ n. at_most_itself t (place_at w.places n)
      go (Some old) e = up_at t m q a w old e s width l

  pub arrived_arrives : (m q : ℕ) (a : Kinds) (w : Arrived) → Stands m w → length a.registers ≡ m → Arrives t (arrived t q a w).places q a
  arrived_arrives m q a w s width = go (slice_get w.places q) refl
    where
      go : (o : Option (Option Kinds)) → slice_get w.places q ≡ o → Arrives t (arrived_at t q a w o).places q a
      go None e lt = let f : Some (place_at w.places q) ≡ None = sym (slice_get-get_or w.places q None lt) ∙ e in absurd (cc)
      go (Some old) e lt = arrives_at t m q a w old e s width l

  pub arrived_under : (m q : ℕ) (a : Kinds) (w : Arrived) (y : Table) → Stands m w → length a.registers ≡ m → length y ≡ length w.places → IsUnder t w.places y → Arrives t y q a → IsUnder t (arrived t q a w).places y
  arrived_under m q a w y s width long u h = go (slice_get w.places q) refl
    where
      go : (o : Option (Option Kinds)) → slice_get w.places q ≡ o → IsUnder t (arrived_at t q a w o).places y
      go None e = u
      go (Some old) e = under_at t m q a w old e s width l y u (h (subst (λ x. q < x) (sym long) (slice_get_within w.places q old e)))

  -- what arrived stays
  pub arrives_on : (x y : Table) (q : ℕ) (a : Kinds) → length y ≡ length x → IsUnder t x y → Arrives t x q a → Arrives t y q a
  arrives_on x y q a long u h lt = at_most_on t l (Some a) (place_at x q) (place_at y q) (h (subst (λ k. q < k) long lt)) (u q)

  -- what is lower arrives too
  pub arrives_below : (x : Table) (q : ℕ) (a b : Kinds) → IsBelow t a b → Arrives t x q b → Arrives t x q a
  arrives_below x q a b p h lt = at_most_on t l (Some a) (Some b) (place_at x q) p (h lt)

  pub under_on : (x y z : Table) → IsUnder t x y → IsUnder t y z → IsUnder t x z
  under_on x y z p q n = at_most_on t l (place_at x n) (place_at y n) (place_at z n) (p n) (q n)
