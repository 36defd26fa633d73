-- What holds along a list holds along the list without some of its entries.
use Rattle.std.proofs.Common.{◌≡◌, ℕ, ◌+◌, ◌≤◌, Bool, true, false, true≢false, List, [], ◌∷◌, ◌++◌, refl, sym, ap, ◌∙◌, arith}
use Rattle.std.specs.Prelude.{if◌then◌else◌, filter, sum_by, cond, is_some}
use Rattle.std.specs.List.{list_all, list_any}
use Rattle.std.proofs.lemmas.Bool.{and_parts, and_from, or_parts, or_from}
use Rattle.std.proofs.lemmas.List.Folds.{list_any-append}
use Rattle.std.proofs.lemmas.List.Sums.{sum_by-cons}
use Rattle.program_model.specs.Neighbours.{neighbours}
use Rattle.program_model.specs.Distinct.{same_entry, differ_from, all_differ}
use Rattle.program_model.specs.Items.{first_items_from}
use Rattle.program_model.specs.declared.program.Field.{Field}

-- a test of each entry
pub all_left : {A : Type 0} (t f : A → Bool) (xs : List A) → list_all f xs ≡ true → list_all f (filter t xs) ≡ true
all_left t f [] h = refl
all_left t f (x ∷ xs) h = by (t x) (and_parts (f x) (list_all f xs) h).0 (all_left t f xs (and_parts (f x) (list_all f xs) h).1)
  where
    by : (b : Bool) → f x ≡ true → list_all f (filter t xs) ≡ true → list_all f (cond b (x ∷ filter t xs) (filter t xs)) ≡ true
    by true one rest = and_from (f x) (list_all f (filter t xs)) one rest
    by false one rest = rest

-- a sum falls
pub sum_left : {A : Type 0} (t : A → Bool) (f : A → ℕ) (xs : List A) → sum_by f (filter t xs) ≤ sum_by f xs
sum_left t f [] = omega arith
sum_left t f (x ∷ xs) = by (t x) (sum_left t f xs)
  where
    by : (b : Bool) → sum_by f (filter t xs) ≤ sum_by f xs → sum_by f (cond b (x ∷ filter t xs) (filter t xs)) ≤ sum_by f (x ∷ xs)
    by true h = omega (arith, h, sum_by-cons f x (filter t xs), sum_by-cons f x xs)
    by false h = omega (arith, h, sum_by-cons f x xs)

-- an order of neighbours that goes through
module _ {A : Type 0} (t : A → Bool) (r : A × A → Bool) (through : (a b c : A) → r (a, b) ≡ true → r (b, c) ≡ true → r (a, c) ≡ true) where
  abbrev Runs : List A → Type 0
  Runs xs = list_all r (neighbours xs) ≡ true

  past : (a x : A) (xs : List A) → r (a, x) ≡ true → Runs (x ∷ xs) → Runs (a ∷ xs)
  past a x [] one rest = refl
  past a x (y ∷ ys) one rest =
      let both = and_parts (r (x, y)) (list_all r (neighbours (y ∷ ys))) rest in
      and_from (r (a, y)) (list_all r (neighbours (y ∷ ys))) (through a x y one both.0) both.1

  after : (x : A) (xs : List A) → Runs (x ∷ xs) → Runs xs
  after x [] h = refl
  after x (y ∷ ys) h = (and_parts (r (x, y)) (list_all r (neighbours (y ∷ ys))) h).1

  behind : (a : A) (xs : List A) → Runs (a ∷ xs) → Runs (a ∷ filter t xs)
  behind a [] h = refl
  behind a (x ∷ xs) h =
      let both = and_parts (r (a, x)) (list_all r (neighbours (x ∷ xs))) h in
      by (t x) both.0 (behind x xs both.1) (behind a xs (past a x xs both.0 both.1))
    where
      by : (b : Bool) → r (a, x) ≡ true → Runs (x ∷ filter t xs) → Runs (a ∷ filter t xs) → Runs (a ∷ cond b (x ∷ filter t xs) (filter t xs))
      by true one kept gone = and_from (r (a, x)) (list_all r (neighbours (x ∷ filter t xs))) one kept
      by false one kept gone = gone

  pub order_left : (xs : List A) → list_all r (neighbours xs) ≡ true → list_all r (neighbours (filter t xs)) ≡ true
  order_left [] h = refl
  order_left (x ∷ xs) h = by (t x) (behind x xs h) (order_left xs (after x xs h))
    where
      by : (b : Bool) → Runs (x ∷ filter t xs) → Runs (filter t xs) → Runs (cond b (x ∷ filter t xs) (filter t xs))
      by true kept gone = kept
      by false kept gone = gone

-- no two entries are the same
module _ {A : Type 0} (t : A → Bool) (key : A → List ℕ) where
  abbrev NoMore : List A → List A → Type 0
  NoMore bs cs = (g : A → Bool) → list_any g bs ≡ false → list_any g cs ≡ false

  new_of : (b c : Bool) → (if b then false else c) ≡ true → (b ≡ false) × (c ≡ true)
  new_of true c h = absurd (true≢false (sym h))
  new_of false c h = (refl, h)

  parts : (x : A) (bs : List A) (g : A → Bool) → list_any g (bs ++ x ∷ []) ≡ false → (list_any g bs ≡ false) × (list_any g (x ∷ []) ≡ false)
  parts x bs g h = or_parts (list_any g bs) (list_any g (x ∷ [])) (sym (list_any-append g bs (x ∷ [])) ∙ h)

  none_gone : (x : A) (bs cs : List A) → NoMore bs cs → NoMore (bs ++ x ∷ []) cs
  none_gone x bs cs none g h = none g (parts x bs g h).0

  none_kept : (x : A) (bs cs : List A) → NoMore bs cs → NoMore (bs ++ x ∷ []) (cs ++ x ∷ [])
  none_kept x bs cs none g h = list_any-append g cs (x ∷ []) ∙ or_from (list_any g cs) (list_any g (x ∷ [])) (none g (parts x bs g h).0) (parts x bs g h).1

  differ_behind : (xs bs cs : List A) → NoMore bs cs → differ_from key bs xs ≡ true → differ_from key cs (filter t xs) ≡ true
  differ_behind [] bs cs none h = refl
  differ_behind (x ∷ xs) bs cs none h =
      let new = new_of (list_any (λ y. same_entry key y x) bs) (differ_from key (bs ++ x ∷ []) xs) h in
      by (t x) (none (λ y. same_entry key y x) new.0) (differ_behind xs (bs ++ x ∷ []) (cs ++ x ∷ []) (none_kept x bs cs none) new.1)
      (differ_behind xs (bs ++ x ∷ []) cs (none_gone x bs cs none) new.1)
    where
      by : (b : Bool) → list_any (λ y. same_entry key y x) cs ≡ false → differ_from key (cs ++ x ∷ []) (filter t xs) ≡ true → differ_from key cs (filter t xs) ≡ true
          → differ_from key cs (cond b (x ∷ filter t xs) (filter t xs)) ≡ true
      by true one kept gone = ap (λ b. if b then false else differ_from key (cs ++ x ∷ []) (filter t xs)) one ∙ kept
      by false one kept gone = gone

  pub differ_left : (xs : List A) → all_differ key xs ≡ true → all_differ key (filter t xs) ≡ true
  differ_left xs h = differ_behind xs [] [] (λ g none. none) h

-- the first values are no more
abbrev Falls : (Field → Bool) → List Field → Type 0
Falls t fs = (k l m n : ℕ) → k ≤ m → l ≤ n → k ≤ l → first_items_from k l (filter t fs) ≤ first_items_from m n fs

pub firsts_left : (t : Field → Bool) (fs : List Field) (count place most end : ℕ) → count ≤ most → place ≤ end → count ≤ place
    → first_items_from count place (filter t fs) ≤ first_items_from most end fs
firsts_left t [] count place most end a b c = a
firsts_left t (f ∷ fs) count place most end a b c = by (t f) (both (is_some f.first) (λ k l m n. firsts_left t fs k l m n)) (one (is_some f.first) (λ k l m n. firsts_left t fs k l m n))
  where
    both : (first : Bool) → Falls t fs → first_items_from (if first then place + 1 else count) (place + 1) (filter t fs) ≤ first_items_from (if first then end + 1 else most) (end + 1) fs
    both true falls = falls (place + 1) (place + 1) (end + 1) (end + 1) (omega (arith, b)) (omega (arith, b)) (omega arith)
    both false falls = falls count (place + 1) most (end + 1) a (omega (arith, b)) (omega (arith, c))

    one : (first : Bool) → Falls t fs → first_items_from count place (filter t fs) ≤ first_items_from (if first then end + 1 else most) (end + 1) fs
    one true falls = falls count place (end + 1) (end + 1) (omega (arith, b, c)) (omega (arith, b)) c
    one false falls = falls count place most (end + 1) a (omega (arith, b)) c

    by : (b : Bool) → first_items_from (if is_some f.first then place + 1 else count) (place + 1) (filter t fs) ≤ first_items_from (if is_some f.first then end + 1 else most) (end + 1) fs
        → first_items_from count place (filter t fs) ≤ first_items_from (if is_some f.first then end + 1 else most) (end + 1) fs
        → first_items_from count place (cond b (f ∷ filter t fs) (filter t fs)) ≤ first_items_from most end (f ∷ fs)
    by true kept gone = kept
    by false kept gone = gone
