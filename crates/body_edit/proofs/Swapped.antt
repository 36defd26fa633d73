-- Keeping what is left of a list: the loop that moves it to the front.
use Rattle.std.proofs.Common.{◌≡◌, ℕ, zero, suc, ◌+◌, ◌<◌, ◌≤◌, Bool, true, false, List, [], ◌∷◌, ◌++◌, min, length, get_or, take, drop, refl, sym, ap, ◌∙◌, inl, inr, ⊎_elim, add-one, arith}
use Rattle.std.proofs.Math.ListN.{set}
use Rattle.std.specs.List.{SwappedAt}
use Rattle.std.proofs.lemmas.List.{take-set-le, take_more_set, set-set, drop-set-lt, drop-drop, get_or-drop, length-set}
use Rattle.std.proofs.lemmas.Bool.{cases_lt}
use Rattle.pass_defs.specs.Thinned.{left}
use Rattle.body_edit.specs.Fates.{fate_of, fates_of, is_left}
use Rattle.body_edit.specs.declared.fate.Fate.{Fate}
use Rattle.body_edit.proofs.Left.{none_left, left_no, left_yes, left_end}

-- ys began as xs. What is left of the first i of xs stands in the first k places of ys, and from i on ys is as it was.
pub record LeftSoFar {A : Type 0} (fs : List Fate) (xs ys : List A) (k i : ℕ) : Type 0 where
  pub front : take k ys ≡ left (fates_of (take i fs)) xs
  pub rest : drop i ys ≡ drop i xs
  pub behind : k ≤ i
  pub long : length ys ≡ length xs

module _ {A : Type 0} (fs : List Fate) (xs : List A) where
  rest_on : (ys : List A) (i : ℕ) → drop i ys ≡ drop i xs → drop (i + 1) ys ≡ drop (i + 1) xs
  rest_on ys i e = sym (drop-drop 1 i ys) ∙ ap (drop 1) e ∙ drop-drop 1 i xs

  same_at : (ys : List A) (i : ℕ) (z : A) → drop i ys ≡ drop i xs → get_or ys i z ≡ get_or xs i z
  same_at ys i z e = let a : get_or (drop i ys) 0 z ≡ get_or ys (i + 0) z = get_or-drop i ys 0 z in
      let b : get_or (drop i xs) 0 z ≡ get_or xs (i + 0) z = get_or-drop i xs 0 z in
      let n : i + 0 ≡ i = omega arith in
      ap (λ m. get_or ys m z) (sym n) ∙ sym a ∙ ap (λ l. get_or l 0 z) e ∙ b ∙ ap (λ m. get_or xs m z) n

  pub so_far_none : LeftSoFar fs xs xs 0 0
  so_far_none = record { front = sym (none_left xs); rest = refl; behind = omega arith; long = refl }

  -- the next position goes
  pub so_far_no : (ys : List A) (k i : ℕ) (d : Fate) → LeftSoFar fs xs ys k i → i < length fs → is_left (fate_of (get_or fs i d)) ≡ false → LeftSoFar fs xs ys k (i + 1)
  so_far_no ys k i d s h e = record {
    front = rw add-one (s.front ∙ sym (left_no fs xs i d h e));
    rest = rest_on ys i s.rest;
    behind = omega arith;
    long = s.long;
  }

  front_yes : (ys : List A) (k i : ℕ) (z : A) → k ≤ i → i < length ys → take (suc k) (set (set ys k (get_or ys i z)) i (get_or ys k z)) ≡ take k ys ++ get_or ys i z ∷ []
  front_yes ys k i z b h = ⊎_elim
      (λ (l : k < i). take-set-le (suc k) (set ys k (get_or ys i z)) i (get_or ys k z) (omega arith) ∙ sym (ap (λ n. take n (set ys k (get_or ys i z))) (add-one k)) ∙ take_more_set ys k (get_or ys i z) (omega arith))
      (λ (l : i ≤ k). let e : k ≡ i = omega arith in
      rw e (ap (take (suc i)) (set-set ys i (get_or ys i z) (get_or ys i z)) ∙ sym (ap (λ n. take n (set ys i (get_or ys i z))) (add-one i)) ∙ take_more_set ys i (get_or ys i z) h))
      (cases_lt k i)

  -- the next position is left
  pub so_far_yes : (ys zs : List A) (k i : ℕ) (d : Fate) → LeftSoFar fs xs ys k i → i < length fs → i < length ys → is_left (fate_of (get_or fs i d)) ≡ true
      → SwappedAt ys zs k i → LeftSoFar fs xs zs (k + 1) (i + 1)
  so_far_yes [] zs k i d s h l e w = absurd (omega arith)
  so_far_yes (y ∷ ys) zs k i d s h l e w = rw (w.3 y) (record {
    front = rw (add-one k, add-one i) (front_yes (y ∷ ys) k i y s.behind l ∙ ap (λ v. v ++ get_or (y ∷ ys) i y ∷ []) s.front ∙ ap (λ v. left (fates_of (take i fs)) xs ++ v ∷ []) (same_at (y ∷ ys) i y s.rest)
        ∙ sym (left_yes fs xs i d y h (omega (arith, s.long)) e));
    rest = drop-set-lt (i + 1) (set (y ∷ ys) k (get_or (y ∷ ys) i y)) i (get_or (y ∷ ys) k y) (omega arith) ∙ drop-set-lt (i + 1) (y ∷ ys) k (get_or (y ∷ ys) i y) (omega (arith, s.behind)) ∙ rest_on (y ∷ ys) i s.rest;
    behind = omega (arith, s.behind);
    long = length-set (set (y ∷ ys) k (get_or (y ∷ ys) i y)) i (get_or (y ∷ ys) k y) ∙ length-set (y ∷ ys) k (get_or (y ∷ ys) i y) ∙ s.long;
  })

  pub so_far_all : (ys : List A) (k i : ℕ) → LeftSoFar fs xs ys k i → min (length fs) (length xs) ≤ i → take k ys ≡ left (fates_of fs) xs
  so_far_all ys k i s h = s.front ∙ left_end fs xs i h
