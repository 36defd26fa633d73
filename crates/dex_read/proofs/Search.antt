-- Binary search among ascending numbers finds the place.
use Rattle.std.proofs.Common.{◌≡◌, ℕ, zero, suc, ◌+◌, ◌≤◌, ◌<◌, Bool, true, false, cond, List, [], ◌∷◌, ◌++◌, length, get_or, Option, Some, None, option_map, Result, Ok, Err, ◌⊎◌, eqb, Less, Equal, Greater, refl, sym, ap, subst, ◌∙◌, inl, inr, arith}
use Rattle.std.specs.List.Sorted.{IsBinarySearchResult, IsSearchInRange}
use Rattle.std.specs.Ordering.{nat_cmp, ordering_index}
use Rattle.std.proofs.lemmas.Bool.{cases_lt, eq-eqb, ne_eqb}
use Rattle.dex_read.specs.declared.class_data.Listed.{Listed}
use Rattle.dex_read.specs.Ascending.{Rises, Ascends}
use Rattle.dex_read.specs.ClassData.{place_in}

-- ---- the numbers ascend, place by place

strictly : (place before n : ℕ) → (suc place ≡ 0) ⊎ (before < n) → before < n
strictly place before n (inl z) = absurd cc
strictly place before n (inr l) = l

above : (place before : ℕ) (xs : List Listed) → Rises (suc place) before xs → (j : ℕ) (d : Listed) → j < length xs → before < (get_or xs j d).number
above place before [] r j d lt = absurd (omega (arith, lt))
above place before (e ∷ es) r zero d lt = strictly place before e.number r.0
above place before (e ∷ es) r (suc j) d lt =
    let low = strictly place before e.number r.0 in
    let high = above (suc place) e.number es r.1 j d (omega (arith, lt)) in
    omega (arith, low, high)

strict : (place before : ℕ) (xs : List Listed) → Rises place before xs → (i j : ℕ) (d : Listed) → i < j → j < length xs → (get_or xs i d).number < (get_or xs j d).number
strict place before [] r i j d lt len = absurd (omega (arith, len))
strict place before (e ∷ es) r i zero d lt len = absurd (omega (arith, lt))
strict place before (e ∷ es) r zero (suc j) d lt len = above place e.number es r.1 j d (omega (arith, len))
strict place before (e ∷ es) r (suc i) (suc j) d lt len = strict (suc place) e.number es r.1 i j d (omega (arith, lt)) (omega (arith, len))

rises_to : (xs : List Listed) → Ascends xs → (i j : ℕ) (d : Listed) → i ≤ j → j < length xs → (get_or xs i d).number ≤ (get_or xs j d).number
rises_to xs a i j d le len = elim (cases_lt i j) [
  | inl lt ↦ omega (arith, strict 0 0 xs a.rises i j d lt len)
  | inr ge ↦ (let e : i ≡ j = omega (arith, le, ge) in subst (λ k. (get_or xs i d).number ≤ (get_or xs k d).number) e (omega arith))
]

-- ---- where a number stands

here : (x place before : ℕ) (xs : List Listed) → Rises place before xs → (i : ℕ) → i < length xs → ((d : Listed) → (get_or xs i d).number ≡ x) → place_in x xs ≡ Some i
here x place before [] r i lt at = absurd (omega (arith, lt))
here x place before (e ∷ es) r zero lt at = ap (λ (b : Bool). cond b (Some 0) (option_map suc (place_in x es))) (eq-eqb e.number x (at e))
here x place before (e ∷ es) r (suc i) lt at =
    let low = above place e.number es r.1 i e (omega (arith, lt)) in
    let other : eqb e.number x ≡ false = ne_eqb _ _ (λ same. omega (arith, low, at e, same)) in
    ap (λ (b : Bool). cond b (Some 0) (option_map suc (place_in x es))) other ∙ ap (option_map suc) (here x (suc place) e.number es r.1 i (omega (arith, lt)) at)

nowhere : (x : ℕ) (xs : List Listed) → ((i : ℕ) (d : Listed) → i < length xs → (get_or xs i d).number ≡ x → ⊥) → place_in x xs ≡ None
nowhere x [] never = refl
nowhere x (e ∷ es) never =
    let other : eqb e.number x ≡ false = ne_eqb _ _ (never 0 e (omega arith)) in
    ap (λ (b : Bool). cond b (Some 0) (option_map suc (place_in x es))) other ∙ ap (option_map suc) (nowhere x es (λ i d lt. never (suc i) d (omega (arith, lt))))

abbrev answer : Result ℕ ℕ → Option ℕ
answer (Ok i) = Some i
answer (Err i) = None

equal_is : (a b : ℕ) → nat_cmp a b ≡ Equal → a ≡ b
equal_is a b h = grind arith

pub searches : (xs : List Listed) (x : ℕ) (r : Result ℕ ℕ) → Ascends xs → IsBinarySearchResult (λ y. nat_cmp y.number x) xs r → IsSearchInRange r (length xs) → answer r ≡ place_in x xs
searches xs x (Ok i) a found inside = sym (here x 0 0 xs a.rises i inside (λ d. equal_is _ _ (found d)))
searches xs x (Err i) a found inside =
    let parted = found (λ i j d le lt. higher (get_or xs i d).number (get_or xs j d).number (rises_to xs a i j d le lt)) in
    sym (nowhere x xs (λ k d lt same. elim (cases_lt k i) [
      | inl low ↦ absurd (less_is _ _ (parted.0 k d (omega arith) low) same)
      | inr high ↦ absurd (greater_is _ _ (parted.1 k d high lt) same)
    ]))
  where
    higher : (a b : ℕ) → a ≤ b → ordering_index (nat_cmp a x) ≤ ordering_index (nat_cmp b x)
    higher a b le = grind arith

    less_is : (a b : ℕ) → nat_cmp a b ≡ Less → a ≡ b → ⊥
    less_is a b h same = grind arith

    greater_is : (a b : ℕ) → nat_cmp a b ≡ Greater → a ≡ b → ⊥
    greater_is a b h same = grind arith

-- ---- in two lists, one behind the other

first_step : (b : Bool) (p q : Option ℕ) (k : ℕ) → ((j : ℕ) → p ≡ Some j → q ≡ Some j) → cond b (Some 0) (option_map suc p) ≡ Some k → cond b (Some 0) (option_map suc q) ≡ Some k
first_step true p q k f h = h
first_step false (Some j) q k f h = ap (option_map suc) (f j refl) ∙ h
first_step false None q k f h = absurd cc

pub in_first : (number : ℕ) (xs ys : List Listed) (place : ℕ) → place_in number xs ≡ Some place → place_in number (xs ++ ys) ≡ Some place
in_first number [] ys place h = absurd cc
in_first number (e ∷ es) ys place h = first_step (eqb e.number number) (place_in number es) (place_in number (es ++ ys)) place (in_first number es ys) h

second_step : (b : Bool) (p q : Option ℕ) → (p ≡ None → q ≡ None) → cond b (Some 0) (option_map suc p) ≡ None → cond b (Some 0) (option_map suc q) ≡ None
second_step true p q f h = absurd cc
second_step false (Some j) q f h = absurd cc
second_step false None q f h = ap (option_map suc) (f refl)

pub in_none : (number : ℕ) (xs ys : List Listed) → place_in number xs ≡ None → place_in number ys ≡ None → place_in number (xs ++ ys) ≡ None
in_none number [] ys h g = g
in_none number (e ∷ es) ys h g = second_step (eqb e.number number) (place_in number es) (place_in number (es ++ ys)) (λ p. in_none number es ys p g) h

third_step : (b : Bool) (p q : Option ℕ) (k : ℕ) → (p ≡ None → q ≡ Some k) → cond b (Some 0) (option_map suc p) ≡ None → cond b (Some 0) (option_map suc q) ≡ Some (suc k)
third_step true p q k f h = absurd cc
third_step false (Some j) q k f h = absurd cc
third_step false None q k f h = ap (option_map suc) (f refl)

pub in_second : (number : ℕ) (xs ys : List Listed) (place : ℕ) → place_in number xs ≡ None → place_in number ys ≡ Some place → place_in number (xs ++ ys) ≡ Some (length xs + place)
in_second number [] ys place h g = g ∙ ap Some (omega arith)
in_second number (e ∷ es) ys place h g =
    third_step (eqb e.number number) (place_in number es) (place_in number (es ++ ys)) (length es + place) (λ p. in_second number es ys place p g) h ∙ ap Some (omega arith)
