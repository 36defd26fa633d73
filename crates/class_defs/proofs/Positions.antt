-- The first place in a list whose entry passes a test.
use Rattle.std.proofs.Common.{◌≡◌, ℕ, zero, suc, ◌+◌, ◌<◌, ◌≤◌, ◌⊎◌, Bool, true, false, true≢false, nat_eq, List, [], ◌∷◌, ◌++◌, length, Option, Some, None, refl, sym, ap, ◌∙◌, arith, inl, inr, ltb-true, lt-ltb, eqb-true, eq-eqb}
use Rattle.std.proofs.lemmas.Bool.{cases_lt}
use Rattle.std.specs.Prelude.{◌&&◌, cond, not, slice_get, nat_lt, find, position, option_and_then}
use Rattle.std.specs.List.{position_or_len}
use Rattle.std.specs.Option.{option_map, option_or}
use Rattle.std.proofs.lemmas.List.Folds.{find_at}
use Rattle.std.proofs.lemmas.Option.{slice_get_past}

pub same_test : (b c : Bool) → (b ≡ true → c ≡ true) → (c ≡ true → b ≡ true) → b ≡ c
same_test true c f g = sym (f refl)
same_test false true f g = g refl
same_test false false f g = refl

pub both : (a b : Bool) → a ≡ true → b ≡ true → (a && b) ≡ true
both true b e f = f
both false b e f = e

pub number_test : (a b : ℕ) → a ≡ b → nat_eq a b ≡ true
number_test a b e = eq-eqb a b e

pub number_of : (a b : ℕ) → nat_eq a b ≡ true → a ≡ b
number_of a b e = eqb-true a b e

-- a number below the length has an entry
pub entry_at : {X : Type 0} (xs : List X) (i : ℕ) → i < length xs → (x : X) × (slice_get xs i ≡ Some x)
entry_at [] i h = absurd (omega arith)
entry_at (x ∷ xs) zero h = (x, refl)
entry_at (x ∷ xs) (suc i) h = entry_at xs i (omega arith)

-- the first entry by the place of the first
pub find_place : {X : Type 0} (t : X → Bool) (xs : List X) → find t xs ≡ option_and_then (slice_get xs) (position t xs)
find_place t xs = find_at t xs ∙ by_bound (nat_lt (position_or_len t xs) (length xs)) refl
  where
    by_bound : (b : Bool) → nat_lt (position_or_len t xs) (length xs) ≡ b → slice_get xs (position_or_len t xs) ≡ option_and_then (slice_get xs) (cond b (Some (position_or_len t xs)) None)
    by_bound true e = refl
    by_bound false e = slice_get_past xs (position_or_len t xs) (past e)
      where
        past : nat_lt (position_or_len t xs) (length xs) ≡ false → length xs ≤ position_or_len t xs
        past e = elim (cases_lt (position_or_len t xs) (length xs)) [ inl l ↦ absurd (true≢false (sym (lt-ltb _ _ l) ∙ e)) | inr g ↦ g ]

-- a test that holds nowhere finds no place
pub position_none : {X : Type 0} (t : X → Bool) (xs : List X) → find t xs ≡ None → position t xs ≡ None
position_none t xs e = by_bound (nat_lt (position_or_len t xs) (length xs)) refl
  where
    by_bound : (b : Bool) → nat_lt (position_or_len t xs) (length xs) ≡ b → cond b (Some (position_or_len t xs)) None ≡ None
    by_bound false h = refl
    by_bound true h = let x = entry_at xs (position_or_len t xs) (ltb-true _ _ h) in
        let same : Some x.0 ≡ None = sym x.1 ∙ sym (find_at t xs) ∙ e in cc

-- the first place, one step at a time
pub position_step : {X : Type 0} (t : X → Bool) (x : X) (xs : List X) → position t (x ∷ xs) ≡ cond (t x) (Some 0) (option_map suc (position t xs))
position_step t x xs = step (t x) (position_or_len t xs)
  where
    first : (n : ℕ) → nat_lt 0 (suc n) ≡ true
    first n = lt-ltb 0 (suc n) (omega arith)

    less : (m n : ℕ) → nat_lt (1 + m) (suc n) ≡ nat_lt m n
    less m n = same_test (nat_lt (1 + m) (suc n)) (nat_lt m n)
        (λ h. let l = ltb-true (1 + m) (suc n) h in lt-ltb m n (omega (arith, l))) (λ h. let l = ltb-true m n h in lt-ltb (1 + m) (suc n) (omega (arith, l)))

    moved : (b : Bool) (m : ℕ) → cond b (Some (1 + m)) None ≡ option_map suc (cond b (Some m) None)
    moved true m = ap (λ n. Some n) (let e : 1 + m ≡ suc m = omega arith in e)
    moved false m = refl

    step : (b : Bool) (m : ℕ) → cond (nat_lt (cond (not b) (1 + m) 0) (suc (length xs))) (Some (cond (not b) (1 + m) 0)) None ≡ cond b (Some 0) (option_map suc (cond (nat_lt m (length xs)) (Some m) None))
    step true m = ap (λ c. cond c (Some 0) None) (first (length xs))
    step false m = ap (λ c. cond c (Some (1 + m)) None) (less m (length xs)) ∙ moved (nat_lt m (length xs)) m

-- the first place has an entry that passes
pub record PlaceFits {X : Type 0} (t : X → Bool) (xs : List X) (i : ℕ) : Type 0 where
  pub entry : X
  pub is : slice_get xs i ≡ Some entry
  pub passes : t entry ≡ true

pub place_entry : {X : Type 0} (t : X → Bool) (xs : List X) (i : ℕ) → position t xs ≡ Some i → PlaceFits t xs i
place_entry t [] i e = cc
place_entry t (x ∷ xs) i e = step (place_entry t xs) (t x) refl (position t xs) refl (sym (position_step t x xs) ∙ e)
  where
    step : ((j : ℕ) → position t xs ≡ Some j → PlaceFits t xs j) → (b : Bool) → t x ≡ b → (o : Option ℕ) → position t xs ≡ o → cond b (Some 0) (option_map suc o) ≡ Some i → PlaceFits t (x ∷ xs) i
    step more true h o f g = let z : i ≡ 0 = cc in record { entry = x; is = ap (slice_get (x ∷ xs)) z; passes = h }
    step more false h None f g = cc
    step more false h (Some j) f g =
        let z : i ≡ suc j = cc in
        let r = more j f in
        record { entry = r.entry; is = ap (slice_get (x ∷ xs)) z ∙ r.is; passes = r.passes }

-- an entry that passes stands at the first place or behind it
pub record FirstPlace {X : Type 0} (t : X → Bool) (xs : List X) (i : ℕ) : Type 0 where
  pub place : ℕ
  pub is : position t xs ≡ Some place
  pub first : (place < i) ⊎ (place ≡ i)

pub place_first : {X : Type 0} (t : X → Bool) (xs : List X) (i : ℕ) (x : X) → slice_get xs i ≡ Some x → t x ≡ true → FirstPlace t xs i
place_first t [] i x e h = cc
place_first t (y ∷ ys) zero x e h = record { place = 0; is = position_step t y ys ∙ ap (λ b. cond b (Some 0) (option_map suc (position t ys))) (ap t (let s : y ≡ x = cc in s) ∙ h); first = inr refl }
place_first t (y ∷ ys) (suc i) x e h = step (t y) refl (place_first t ys i x e h)
  where
    step : (b : Bool) → t y ≡ b → FirstPlace t ys i → FirstPlace t (y ∷ ys) (suc i)
    step true g r = record { place = 0; is = position_step t y ys ∙ ap (λ b. cond b (Some 0) (option_map suc (position t ys))) g; first = inl (omega arith) }
    step false g r = record {
      place = suc r.place;
      is = position_step t y ys ∙ ap (λ b. cond b (Some 0) (option_map suc (position t ys))) g ∙ ap (option_map suc) r.is;
      first = elim r.first [ inl l ↦ inl (omega arith) | inr e ↦ inr (ap suc e) ];
    }

-- with one more entry at the end
pub position_snoc : {X : Type 0} (t : X → Bool) (xs : List X) (y : X) → position t (xs ++ y ∷ []) ≡ option_or (position t xs) (cond (t y) (Some (length xs)) None)
position_snoc t [] y = position_step t y [] ∙ ap (λ o. cond (t y) (Some 0) o) refl
position_snoc t (x ∷ xs) y = position_step t x (xs ++ y ∷ []) ∙ by_first (t x) refl (position_snoc t xs y)
  where
    moved : (o : Option ℕ) (b : Bool) → option_map suc (option_or o (cond b (Some (length xs)) None)) ≡ option_or (option_map suc o) (cond b (Some (suc (length xs))) None)
    moved (Some i) b = refl
    moved None true = refl
    moved None false = refl

    by_first : (b : Bool) → t x ≡ b → position t (xs ++ y ∷ []) ≡ option_or (position t xs) (cond (t y) (Some (length xs)) None)
        → cond (t x) (Some 0) (option_map suc (position t (xs ++ y ∷ []))) ≡ option_or (position t (x ∷ xs)) (cond (t y) (Some (suc (length xs))) None)
    by_first true e r = ap (λ b. cond b (Some 0) (option_map suc (position t (xs ++ y ∷ [])))) e
        ∙ sym (ap (λ o. option_or o (cond (t y) (Some (suc (length xs))) None)) (position_step t x xs ∙ ap (λ b. cond b (Some 0) (option_map suc (position t xs))) e))
    by_first false e r = ap (λ b. cond b (Some 0) (option_map suc (position t (xs ++ y ∷ [])))) e
        ∙ ap (option_map suc) r
        ∙ moved (position t xs) (t y)
        ∙ sym (ap (λ o. option_or o (cond (t y) (Some (suc (length xs))) None)) (position_step t x xs ∙ ap (λ b. cond b (Some 0) (option_map suc (position t xs))) e))
