-- Packages of descriptors.
use Rattle.std.proofs.Common.{◌≡◌, ◌≢◌, ℕ, ◌+◌, ◌<◌, Bool, true, false, List, [], ◌∷◌, ◌++◌, take, slice_index, length, eq-eqb, ne_eqb, refl, sym, ap, ◌∙◌}
use Rattle.std.specs.Prelude.{◌||◌, ◌==◌, if◌then◌else◌}
use Rattle.std.specs.List.{list_any}
use Rattle.std.proofs.lemmas.List.{take_more}
use Rattle.class_defs.specs.ClassGraph.{package_of}

any_snoc : (xs : List ℕ) (u : ℕ) → list_any (λ v. v == 47) (xs ++ u ∷ []) ≡ (list_any (λ v. v == 47) xs || (u == 47))
any_snoc [] u = by (u == 47)
  where
    by : (b : Bool) → (b || false) ≡ b
    by true = refl
    by false = refl
any_snoc (x ∷ xs) u = by (x == 47) (any_snoc xs u)
  where
    by : (b : Bool) → list_any (λ v. v == 47) (xs ++ u ∷ []) ≡ (list_any (λ v. v == 47) xs || (u == 47)) → (b || list_any (λ v. v == 47) (xs ++ u ∷ [])) ≡ ((b || list_any (λ v. v == 47) xs) || (u == 47))
    by true h = refl
    by false h = h

pub package_slash : (xs : List ℕ) (u : ℕ) → (u == 47) ≡ true → package_of (xs ++ u ∷ []) ≡ xs ++ u ∷ []
package_slash [] u e = by (u == 47) e
  where
    by : (b : Bool) → b ≡ true → (if b || false then u ∷ [] else []) ≡ u ∷ []
    by true e = refl
    by false e = cc
package_slash (x ∷ xs) u e = by (list_any (λ v. v == 47) (x ∷ xs ++ u ∷ [])) (any_snoc (x ∷ xs) u ∙ ap (λ b. list_any (λ v. v == 47) (x ∷ xs) || b) e ∙ last (list_any (λ v. v == 47) (x ∷ xs))) (package_slash xs u e)
  where
    last : (b : Bool) → (b || true) ≡ true
    last true = refl
    last false = refl

    by : (b : Bool) → b ≡ true → package_of (xs ++ u ∷ []) ≡ xs ++ u ∷ [] → (if b then x ∷ package_of (xs ++ u ∷ []) else []) ≡ x ∷ xs ++ u ∷ []
    by true e h = ap (λ l. x ∷ l) h
    by false e h = cc

pub package_other : (xs : List ℕ) (u : ℕ) → (u == 47) ≡ false → package_of (xs ++ u ∷ []) ≡ package_of xs
package_other [] u e = by (u == 47) e
  where
    by : (b : Bool) → b ≡ false → (if b || false then u ∷ [] else []) ≡ []
    by true e = cc
    by false e = refl
package_other (x ∷ xs) u e = ap (λ b. if b then x ∷ package_of (xs ++ u ∷ []) else []) (any_snoc (x ∷ xs) u ∙ ap (λ b. list_any (λ v. v == 47) (x ∷ xs) || b) e ∙ last (list_any (λ v. v == 47) (x ∷ xs)))
    ∙ by (list_any (λ v. v == 47) (x ∷ xs)) (package_other xs u e)
  where
    last : (b : Bool) → (b || false) ≡ b
    last true = refl
    last false = refl

    by : (b : Bool) → package_of (xs ++ u ∷ []) ≡ package_of xs → (if b then x ∷ package_of (xs ++ u ∷ []) else []) ≡ (if b then x ∷ package_of xs else [])
    by true h = ap (λ l. x ∷ l) h
    by false h = refl

one_more : (units : List ℕ) (at : ℕ) → at < length units → take (at + 1) units ≡ take at units ++ slice_index units at ∷ []
one_more units at lt = take_more units at 0 lt

pub to_slash : (units : List ℕ) (at size : ℕ) → at < length units → slice_index units at ≡ 47 → size ≡ at + 1 → take size units ≡ package_of (take (at + 1) units)
to_slash units at size lt e s =
    ap (λ n. take n units) s ∙ one_more units at lt ∙ sym (package_slash (take at units) (slice_index units at) (eq-eqb (slice_index units at) 47 e)) ∙ ap package_of (sym (one_more units at lt))

pub past_other : (units : List ℕ) (at size old : ℕ) → at < length units → slice_index units at ≢ 47 → size ≡ old → take old units ≡ package_of (take at units) → take size units ≡ package_of (take (at + 1) units)
past_other units at size old lt e s h =
    ap (λ n. take n units) s ∙ h ∙ sym (package_other (take at units) (slice_index units at) (ne_eqb (slice_index units at) 47 e)) ∙ ap package_of (sym (one_more units at lt))
