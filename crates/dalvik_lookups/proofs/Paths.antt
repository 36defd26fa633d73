-- A walk through types, however long, is one of few steps where few types have others above them.
use Rattle.std.proofs.Common.{◌≡◌, ℕ, zero, suc, ◌<◌, ◌≤◌, ◌⊎◌, inl, inr, Bool, true, false, true≢false, List, [], ◌∷◌, length, refl, sym, ap, subst, ◌∙◌, arith}
use Rattle.std.specs.Prelude.{◌&&◌, ◌||◌, not, cond, Contains}
use Rattle.std.specs.List.{list_any}
use Rattle.class_defs.proofs.Positions.{both}
use Rattle.dalvik_defs.specs.Names.{Text, text_eq}
use Rattle.dalvik_defs.specs.Under.{walks}
use Rattle.dalvik_lookups.proofs.Interned.{text_same, text_sound}
use Rattle.dalvik_lookups.proofs.Inside.{any_of, any_in}

-- a walk up that goes on from free types alone
pub data Path (above : Text → List Text) (free : Text → Bool) : Text → Text → Type 0 where
  Itself : (t : Text) → Path above free t t
  Through : (s u t : Text) → free s ≡ true → Contains (above s) u → Path above free u t → Path above free s t

abbrev pub every : Text → Bool
every t = true

abbrev pub without : (Text → Bool) → Text → Text → Bool
without free x t = free t && not (text_eq t x)

-- ---- walks of so many steps

pub walk_self : (above : Text → List Text) (n : ℕ) (t : Text) → walks above n t t ≡ true
walk_self above zero t = text_same t
walk_self above (suc n) t = ap (λ b. elim b as (λ b. Bool) [ true ↦ true | false ↦ list_any (λ u. walks above n u t) (above t) ]) (text_same t)

pub walk_step : (above : Text → List Text) (n : ℕ) (s u t : Text) → Contains (above s) u → walks above n u t ≡ true → walks above (suc n) s t ≡ true
walk_step above n s u t c w = by (text_eq s t)
  where
    by : (b : Bool) → elim b as (λ b. Bool) [ true ↦ true | false ↦ list_any (λ u. walks above n u t) (above s) ] ≡ true
    by true = refl
    by false = any_in (λ u. walks above n u t) (above s) u c w

pub path_of : (above : Text → List Text) (n : ℕ) (s t : Text) → walks above n s t ≡ true → Path above every s t
path_of above zero s t w = subst (Path above every s) (text_sound s t w) (Path.Itself s)
path_of above (suc n) s t w = by (λ u. path_of above n u t) (text_eq s t) refl w
  where
    by : ((u : Text) → walks above n u t ≡ true → Path above every u t) → (b : Bool) → text_eq s t ≡ b → elim b as (λ b. Bool) [ true ↦ true | false ↦ list_any (λ u. walks above n u t) (above s) ] ≡ true → Path above every s t
    by more true e w = subst (Path above every s) (text_sound s t e) (Path.Itself s)
    by more false e w = let r = any_of (λ u. walks above n u t) (above s) w in Path.Through s r.one t refl r.is_in (more r.one r.passes)

-- ---- a type that is met is left for good once

record Leaves (above : Text → List Text) (free : Text → Bool) (x t : Text) : Type 0 where
  pub next : Text
  pub up : Contains (above x) next
  pub rest : Path above (without free x) next t

split : (above : Text → List Text) (free : Text → Bool) (x s t : Text) → Path above free s t → Path above (without free x) s t ⊎ Leaves above free x t
split above free x s t (Path.Itself y) = inl (Path.Itself y)
split above free x s t (Path.Through y u z f c p) = elim (split above free x u z p) [
  | inl q ↦ by (text_eq y x) refl q
  | inr l ↦ inr l
]
  where
    by : (b : Bool) → text_eq y x ≡ b → Path above (without free x) u z → Path above (without free x) y z ⊎ Leaves above free x z
    by true e q = inr (record { next = u; up = subst (λ w. Contains (above w) u) (text_sound y x e) c; rest = q })
    by false e q = inl (Path.Through y u z (both (free y) (not (text_eq y x)) f (ap not e)) c q)

-- ---- so many steps are enough

-- how many of some types are free
pub left : (Text → Bool) → List Text → ℕ
left free [] = 0
left free (k ∷ ks) = cond (free k) (suc (left free ks)) (left free ks)

pub left_all : (ks : List Text) → left every ks ≡ length ks
unfolding left
left_all [] = refl
left_all (k ∷ ks) = ap suc (left_all ks)

left_less : (free : Text → Bool) (x : Text) (ks : List Text) → left (without free x) ks ≤ left free ks
unfolding left
left_less free x [] = omega arith
left_less free x (k ∷ ks) = by (free k) (not (text_eq k x)) (left_less free x ks)
  where
    by : (a b : Bool) → left (without free x) ks ≤ left free ks → cond (a && b) (suc (left (without free x) ks)) (left (without free x) ks) ≤ cond a (suc (left free ks)) (left free ks)
    by true true h = omega (arith, h)
    by true false h = omega (arith, h)
    by false b h = h

left_drops : (free : Text → Bool) (x : Text) (ks : List Text) → free x ≡ true → list_any (λ k. text_eq k x) ks ≡ true → left (without free x) ks < left free ks
unfolding left
left_drops free x [] f e = absurd (true≢false (sym e))
left_drops free x (k ∷ ks) f e = by (text_eq k x) refl e (left_drops free x ks f)
  where
    less : (a : Bool) (b : Bool) → left (without free x) ks < left free ks → cond (a && b) (suc (left (without free x) ks)) (left (without free x) ks) < cond a (suc (left free ks)) (left free ks)
    less true true h = omega (arith, h)
    less true false h = omega (arith, h)
    less false b h = h

    by : (b : Bool) → text_eq k x ≡ b → (b || list_any (λ k. text_eq k x) ks) ≡ true → (list_any (λ k. text_eq k x) ks ≡ true → left (without free x) ks < left free ks)
        → cond (free k && not (text_eq k x)) (suc (left (without free x) ks)) (left (without free x) ks) < cond (free k) (suc (left free ks)) (left free ks)
    by true e g more =
        let one : free k ≡ true = ap free (text_sound k x e) ∙ f in
        let less : left (without free x) ks ≤ left free ks = left_less free x ks in
        subst (λ b. cond (b && not (text_eq k x)) (suc (left (without free x) ks)) (left (without free x) ks) < cond b (suc (left free ks)) (left free ks)) (sym one)
        (subst (λ b. cond (not b) (suc (left (without free x) ks)) (left (without free x) ks) < suc (left free ks)) (sym e) (let r : left (without free x) ks < suc (left free ks) = omega (arith, less) in r))
    by false e g more = less (free k) (not (text_eq k x)) (more g)

-- Where the types of a list have others above them, all others at most this one, and that one none, a walk of one step
-- more than the list is long is enough.
pub record Bounded (above : Text → List Text) (keys : List Text) (top : Text) : Type 0 where
  pub outside : (s u : Text) → list_any (λ k. text_eq k s) keys ≡ false → Contains (above s) u → u ≡ top
  pub nothing : (u : Text) → Contains (above top) u → ⊥

ends : (above : Text → List Text) (free : Text → Bool) (keys : List Text) (top u t : Text) → Bounded above keys top → u ≡ top → Path above free u t → u ≡ t
ends above free keys top u t b e (Path.Itself y) = refl
ends above free keys top u t b e (Path.Through y v z f c p) = absurd (b.nothing v (subst (λ w. Contains (above w) v) e c))

-- a walk that goes on from a type of which the list has none
beyond : (above : Text → List Text) (keys : List Text) (top : Text) → Bounded above keys top → (n : ℕ) (free : Text → Bool) (s u t : Text) → list_any (λ k. text_eq k s) keys ≡ false → Contains (above s) u → Path above free u t → walks above (suc n) s t ≡ true
beyond above keys top b n free s u t e c p = walk_step above n s u t c (subst (λ w. walks above n u w ≡ true) (ends above free keys top u t b (b.outside s u e c) p) (walk_self above n u))

leaves : (above : Text → List Text) (free : Text → Bool) (s u t : Text) → Contains (above s) u → Path above (without free s) u t ⊎ Leaves above free s t → Leaves above free s t
leaves above free s u t c (inl q) = record { next = u; up = c; rest = q }
leaves above free s u t c (inr l) = l

pub walk_of : (above : Text → List Text) (keys : List Text) (top : Text) → Bounded above keys top → (n : ℕ) (free : Text → Bool) (s t : Text) → left free keys ≤ n → Path above free s t → walks above (suc n) s t ≡ true
walk_of above keys top b zero free s t h (Path.Itself y) = walk_self above 1 y
walk_of above keys top b (suc n) free s t h (Path.Itself y) = walk_self above (suc (suc n)) y
walk_of above keys top b zero free s t h (Path.Through y u z f c p) = by (list_any (λ k. text_eq k y) keys) refl
  where
    by : (r : Bool) → list_any (λ k. text_eq k y) keys ≡ r → walks above 1 y z ≡ true
    by false e = beyond above keys top b zero free y u z e c p
    by true e = let d = left_drops free y keys f e in absurd (omega (arith, d, h))
walk_of above keys top b (suc n) free s t h (Path.Through y u z f c p) = by (λ free' v. walk_of above keys top b n free' v z) (list_any (λ k. text_eq k y) keys) refl (leaves above free y u z c (split above free y u z p))
  where
    by : ((free' : Text → Bool) (v : Text) → left free' keys ≤ n → Path above free' v z → walks above (suc n) v z ≡ true) → (r : Bool) → list_any (λ k. text_eq k y) keys ≡ r → Leaves above free y z → walks above (suc (suc n)) y z ≡ true
    by more false e l = beyond above keys top b (suc n) free y u z e c p
    by more true e l = let d = left_drops free y keys f e in walk_step above (suc n) y l.next z l.up (more (without free y) l.next (omega (arith, d, h)) l.rest)
