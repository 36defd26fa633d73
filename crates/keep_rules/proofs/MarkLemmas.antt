-- The numbers that are marked.
use Rattle.std.proofs.Common.{◌≡◌, ℕ, zero, suc, ◌<◌, Bool, true, false, nat_eq, List, [], ◌∷◌, refl, sym, ap, subst, ◌∙◌, arith, inl, inr, eqb-true, eq-eqb}
use Rattle.std.specs.Prelude.{◌||◌, if◌then◌else◌}
use Rattle.std.proofs.lemmas.Bool.{cases_lt}
use Rattle.std.proofs.lemmas.List.Folds.{list_any-append}
use Rattle.name_bridge.proofs.Lists.{same_test}
use Rattle.keep_rules.specs.Marks.{is_on, numbers_of}
use Rattle.keep_rules.specs.Table.{has}

has_last : (b : Bool) (n k : ℕ) → has (if b then k ∷ [] else []) n ≡ true → (b ≡ true) × (n ≡ k)
has_last true n k e = (refl, eqb-true n k (none (nat_eq n k) e))
  where
    none : (x : Bool) → (x || false) ≡ true → x ≡ true
    none true h = refl
    none false h = h
has_last false n k e = cc

-- a number that is listed is marked
pub listed_on : (marks : List Bool) (size n : ℕ) → has (numbers_of marks size) n ≡ true → is_on marks n ≡ true
listed_on marks zero n e = cc
listed_on marks (suc k) n e = step (listed_on marks k n) (has (numbers_of marks k) n) refl (sym (list_any-append (nat_eq n) (numbers_of marks k) (if is_on marks k then k ∷ [] else [])) ∙ e)
  where
    step : (has (numbers_of marks k) n ≡ true → is_on marks n ≡ true) → (b : Bool) → has (numbers_of marks k) n ≡ b → (b || has (if is_on marks k then k ∷ [] else []) n) ≡ true → is_on marks n ≡ true
    step r true h g = r h
    step r false h g = let last = has_last (is_on marks k) n k g in ap (is_on marks) last.1 ∙ last.0

-- a marked number below the size is listed
on_listed : (marks : List Bool) (size n : ℕ) → n < size → is_on marks n ≡ true → has (numbers_of marks size) n ≡ true
on_listed marks zero n h e = absurd (omega arith)
on_listed marks (suc k) n h e = list_any-append (nat_eq n) (numbers_of marks k) (if is_on marks k then k ∷ [] else []) ∙ elim (cases_lt n k) [
  | inl l ↦ ap (λ b. b || has (if is_on marks k then k ∷ [] else []) n) (on_listed marks k n l e)
  | inr g ↦ let s : n ≡ k = omega (arith, h, g) in last s
]
  where
    behind : (a b : Bool) → b ≡ true → (a || b) ≡ true
    behind true b g = refl
    behind false b g = g

    last : n ≡ k → (has (numbers_of marks k) n || has (if is_on marks k then k ∷ [] else []) n) ≡ true
    last s = behind (has (numbers_of marks k) n) (has (if is_on marks k then k ∷ [] else []) n)
        (ap (λ b. has (if b then k ∷ [] else []) n) (ap (is_on marks) (sym s) ∙ e) ∙ ap (λ b. b || false) (eq-eqb n k s))

pub has_is : (marks : List Bool) (size n : ℕ) → n < size → has (numbers_of marks size) n ≡ is_on marks n
has_is marks size n h = same_test (has (numbers_of marks size) n) (is_on marks n) (listed_on marks size n) (on_listed marks size n h)

-- a list that was made so
pub listed_is : (marks kept : List Bool) (size whole : ℕ) (numbers : List ℕ) → numbers ≡ numbers_of marks size → marks ≡ kept → size ≡ whole → (n : ℕ) → n < whole → has numbers n ≡ is_on kept n
listed_is marks kept size whole numbers e f s n h = ap (λ l. has l n) e ∙ has_is marks size n (subst (λ k. n < k) (sym s) h) ∙ ap (λ l. is_on l n) f
