-- Walks through types: with steps enough, more of them find no more.
use Rattle.std.proofs.Common.{◌≡◌, ℕ, zero, suc, ◌+◌, ◌-◌, ◌<◌, ◌≤◌, Bool, true, false, List, [], ◌∷◌, length, refl, sym, ap, ◌∙◌, arith, inl, inr, subst}
use Rattle.std.specs.Prelude.{◌⊎◌}
use Rattle.std.specs.List.{list_any}
use Rattle.std.specs.Cmp.Lexicographic.{bytes_decides}
use Rattle.dalvik_defs.specs.Names.{Text, text_eq}
use Rattle.dalvik_defs.specs.Under.{walks}
use Rattle.dalvik_defs.proofs.Calm.{text_sound}
use Rattle.removal_law.proofs.Lists.{clash, In, here, there, any_same, any_more, times, times_bound, alike_or_more}

abbrev pub choice : Bool → Bool → Bool
choice b c = elim b [ true ↦ true | false ↦ c ]

pub choice_false : (b : Bool) → choice b false ≡ b
choice_false true = refl
choice_false false = refl

choice_more : (b c d : Bool) → (c ≡ true → d ≡ true) → choice b c ≡ true → choice b d ≡ true
choice_more true c d h e = refl
choice_more false c d h e = h e

abbrev pub plus : ℕ → ℕ → ℕ
plus zero k = k
plus (suc j) k = suc (plus j k)

pub plus_is : (j k : ℕ) → plus j k ≡ j + k
plus_is zero k = omega arith
plus_is (suc j) k = let e = plus_is j k in omega (arith, e)

-- a text stands in a list, or it doesn't
abbrev InOrNot : Text → List Text → Type 0
InOrNot s vs = In s vs ⊎ (In s vs → ⊥)

pub text_same : (t : Text) → text_eq t t ≡ true
text_same t = (bytes_decides t t).1 refl

nowhere : (s : Text) → In s [] → ⊥
nowhere s h = elim h [ ]

neither : (s v : Text) (vs : List Text) → text_eq s v ≡ false → (In s vs → ⊥) → In s (v ∷ vs) → ⊥
neither s v vs e away (here xs) = clash (text_eq s s) (text_same s) e
neither s v vs e away (there y xs c) = away c

in_head : (s v : Text) (vs : List Text) → (b : Bool) → text_eq s v ≡ b → InOrNot s vs → InOrNot s (v ∷ vs)
in_head s v vs true e h = inl (subst (λ x. In s (x ∷ vs)) (text_sound s v e) (here vs))
in_head s v vs false e (inl c) = inl (there v vs c)
in_head s v vs false e (inr away) = inr (λ c. neither s v vs e away c)

pub in_or_not : (s : Text) (vs : List Text) → InOrNot s vs
in_or_not s [] = inr (nowhere s)
in_or_not s (v ∷ vs) = in_head s v vs (text_eq s v) refl (in_or_not s vs)

-- two ways of standing above that agree at the types of a kind, above which only such types stand
pub same_walks : (above other : Text → List Text) (ok : Text → Type 0) → ((s : Text) → ok s → above s ≡ other s) → ((s u : Text) → ok s → In u (above s) → ok u)
    → (n : ℕ) (s t : Text) → ok s → walks above n s t ≡ walks other n s t
same_walks above other ok same closed zero s t h = refl
same_walks above other ok same closed (suc n) s t h =
    ap (choice (text_eq s t)) (any_same (λ u. walks above n u t) (λ u. walks other n u t) (above s) (λ u c. same_walks above other ok same closed n u t (closed s u h c))
    ∙ ap (list_any (λ u. walks other n u t)) (same s h))

module _ (above : Text → List Text) (t : Text) where
  longer : (n : ℕ) (s : Text) → walks above n s t ≡ true → walks above (suc n) s t ≡ true
  longer zero s e = ap (λ b. choice b (list_any (λ u. walks above zero u t) (above s))) e
  longer (suc n) s e = choice_more (text_eq s t) (list_any (λ u. walks above n u t) (above s)) (list_any (λ u. walks above (suc n) u t) (above s))
      (any_more (λ u. walks above n u t) (λ u. walks above (suc n) u t) (longer n) (above s)) e

  -- one step more finds no more
  abbrev Steady : ℕ → Type 0
  Steady k = (s : Text) → walks above (suc k) s t ≡ walks above k s t

  steady_on : (k : ℕ) → Steady k → Steady (suc k)
  steady_on k h s = ap (choice (text_eq s t)) (any_same (λ u. walks above (suc k) u t) (λ u. walks above k u t) (above s) (λ u c. h u))

  steady_at : (j k : ℕ) → Steady k → Steady (plus j k)
  steady_at zero k h = h
  steady_at (suc j) k h = steady_on (plus j k) (steady_at j k h)

  steady_for : (j k : ℕ) → Steady k → (s : Text) → walks above (plus j k) s t ≡ walks above k s t
  steady_for zero k h s = refl
  steady_for (suc j) k h s = steady_at j k h s ∙ steady_for j k h s

  steady_from : (k n : ℕ) → k ≤ n → Steady k → (s : Text) → walks above n s t ≡ walks above k s t
  steady_from k n le h s = let e : plus (n - k) k ≡ n = plus_is (n - k) k ∙ omega (arith, le) in subst (λ m. walks above m s t ≡ walks above k s t) e (steady_for (n - k) k h s)

  -- from `base` steps on, one step more finds no more at types outside of the list
  module _ (vs : List Text) (base : ℕ) (leaf : (s : Text) → (In s vs → ⊥) → (k : ℕ) → base ≤ k → walks above (suc k) s t ≡ walks above k s t) where
    whole : (k : ℕ) → base ≤ k → ((v : Text) → In v vs → walks above (suc k) v t ≡ walks above k v t) → Steady k
    whole k le h s = elim (in_or_not s vs) [ inl c ↦ h s c | inr away ↦ leaf s away k le ]

    count : ℕ → ℕ
    count k = times (λ v. walks above k v t) vs

    abbrev SteadyBy : ℕ → Type 0
    SteadyBy n = (m : ℕ) × ((m ≤ n) × Steady (plus m base))

    seek : (n : ℕ) → SteadyBy n ⊎ (suc n ≤ times (λ v. walks above (plus (suc n) base) v t) vs)
    seek zero = by (alike_or_more (λ v. walks above base v t) (λ v. walks above (suc base) v t) (longer base) vs)
      where
        by : ((v : Text) → In v vs → walks above (suc base) v t ≡ walks above base v t) ⊎ (times (λ v. walks above base v t) vs < times (λ v. walks above (suc base) v t) vs)
            → SteadyBy zero ⊎ (suc zero ≤ times (λ v. walks above (plus (suc zero) base) v t) vs)
        by (inl h) = inl (0, (omega arith, whole base (omega arith) h))
        by (inr lt) = inr (omega (arith, lt))
    seek (suc n) = by (seek n) (alike_or_more (λ v. walks above (plus (suc n) base) v t) (λ v. walks above (suc (plus (suc n) base)) v t) (longer (plus (suc n) base)) vs)
      where
        by : SteadyBy n ⊎ (suc n ≤ times (λ v. walks above (plus (suc n) base) v t) vs)
            → ((v : Text) → In v vs → walks above (suc (plus (suc n) base)) v t ≡ walks above (plus (suc n) base) v t) ⊎ (times (λ v. walks above (plus (suc n) base) v t) vs < times (λ v. walks above (suc (plus (suc n) base)) v t) vs)
            → SteadyBy (suc n) ⊎ (suc (suc n) ≤ times (λ v. walks above (plus (suc (suc n)) base) v t) vs)
        by (inl a) h = let le = a.1.0 in inl (a.0, (omega (arith, le), a.1.1))
        by (inr c) (inl h) = let e = plus_is (suc n) base in inl (suc n, (omega arith, whole (plus (suc n) base) (omega (arith, e)) h))
        by (inr c) (inr lt) = inr (omega (arith, c, lt))

    -- as many steps as there are types in the list, and `base` more
    steady : SteadyBy (length vs)
    steady = by (seek (length vs))
      where
        by : SteadyBy (length vs) ⊎ (suc (length vs) ≤ times (λ v. walks above (plus (suc (length vs)) base) v t) vs) → SteadyBy (length vs)
        by (inl a) = a
        by (inr c) = let b = times_bound (λ v. walks above (plus (suc (length vs)) base) v t) vs in absurd (omega (arith, b, c))

    pub enough : (m n : ℕ) → length vs + base ≤ m → length vs + base ≤ n → (s : Text) → walks above m s t ≡ walks above n s t
    enough m n am an s =
        let e = plus_is steady.0 base in
        let le = steady.1.0 in
        let k = plus steady.0 base in
        let km : k ≤ m = omega (arith, e, le, am) in
        let kn : k ≤ n = omega (arith, e, le, an) in
        steady_from k m km steady.1.1 s ∙ sym (steady_from k n kn steady.1.1 s)
