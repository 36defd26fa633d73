-- How the size of a program falls with what goes.
use Rattle.std.proofs.Common.{◌≡◌, ℕ, ◌+◌, ◌-◌, ◌<◌, ◌≤◌, Bool, true, false, List, [], ◌∷◌, ◌++◌, suc, ◌^◌, length, map, take, drop, get_or, refl, sym, ap, ◌∙◌, arith}
use Rattle.std.specs.Prelude.{filter, sum_by, cond, min}
use Rattle.std.proofs.lemmas.List.Sums.{sum_by-cons, sum_by_more}
use Rattle.call_graph.specs.declared.live_set.LiveSet.{LiveSet}
use Rattle.program_model.specs.declared.program.Program.{Program}
use Rattle.program_model.specs.declared.program.Class.{Class}
use Rattle.program_model.specs.Cells.{capped}
use Rattle.reach.proofs.Each.{next_is}
use Rattle.reach.specs.Kept.{is_marked, kept_in, kept_of, live_classes, class_size, size_of, removed_in, removed_from}

pub filter_shorter : {A : Type 0} (p : A → Bool) (xs : List A) → length (filter p xs) ≤ length xs
filter_shorter p [] = omega arith
filter_shorter p (x ∷ xs) = elim (p x) as (λ b. length (cond b (x ∷ filter p xs) (filter p xs)) ≤ suc (length xs)) [
  | true ↦ omega (arith, filter_shorter p xs)
  | false ↦ omega (arith, filter_shorter p xs)
]

-- nothing goes from a list that stays as long
pub filter_all : {A : Type 0} (p : A → Bool) (xs : List A) → length xs ≤ length (filter p xs) → filter p xs ≡ xs
filter_all p [] h = refl
filter_all p (x ∷ xs) h = more (p x) (λ k. filter_all p xs k) h
  where
    more : (b : Bool) → (length xs ≤ length (filter p xs) → filter p xs ≡ xs) → suc (length xs) ≤ length (cond b (x ∷ filter p xs) (filter p xs)) → cond b (x ∷ filter p xs) (filter p xs) ≡ x ∷ xs
    more true same k = ap (λ l. x ∷ l) (same (omega (arith, k)))
    more false same k = absurd (omega (arith, k, filter_shorter p xs))

zero_left : (a b : ℕ) → a + b ≡ 0 → a ≡ 0
zero_left a b h = omega arith

zero_right : (a b : ℕ) → a + b ≡ 0 → b ≡ 0
zero_right a b h = omega arith

caps : (a b g r : ℕ) → g ≡ capped a → r ≡ capped b → min (g + r) (2 ^ 64 - 1) ≡ capped (a + b)
caps a b g r e f = omega arith

-- the count of one more class
pub counted : (f : Class → Class) (g : Class → ℕ) (xs ys : List Class) (i : ℕ) (d : Class) (total r : ℕ) → i < length xs → ys ≡ map f (take i xs) ++ drop i xs
    → total ≡ capped (sum_by g (take i xs)) → r ≡ capped (g (get_or ys i d)) → min (total + r) (2 ^ 64 - 1) ≡ capped (sum_by g (take (i + 1) xs))
counted f g xs ys i d total r h e t k =
    let at : get_or ys i d ≡ get_or xs i d = ap (λ l. get_or l i d) e ∙ next_is f xs i d h in
    let one : r ≡ capped (g (get_or xs i d)) = k ∙ ap (λ c. capped (g c)) at in
    caps (sum_by g (take i xs)) (g (get_or xs i d)) total r t one ∙ ap capped (sym (sum_by_more g xs i d h))

module _ (s : LiveSet) where
  -- a class falls by what goes of it
  class_falls : (c : Class) → class_size (kept_in s c) + removed_in s c ≡ class_size c
  class_falls c = omega (arith, filter_shorter (λ f. is_marked s.fields.items f.name) c.fields, filter_shorter (λ m. is_marked s.methods.items m.name) c.methods)

  class_same : (c : Class) → removed_in s c ≡ 0 → kept_in s c ≡ c
  class_same c h =
      let f : filter (λ f. is_marked s.fields.items f.name) c.fields ≡ c.fields = filter_all (λ f. is_marked s.fields.items f.name) c.fields (omega arith) in
      let m : filter (λ m. is_marked s.methods.items m.name) c.methods ≡ c.methods = filter_all (λ m. is_marked s.methods.items m.name) c.methods (omega arith) in
      rw (f, m) refl

  members_fall : (cs : List Class) → sum_by class_size (map (kept_in s) cs) + sum_by (removed_in s) cs ≡ sum_by class_size cs
  members_fall [] = refl
  members_fall (c ∷ cs) = omega (arith, class_falls c, members_fall cs, sum_by-cons class_size (kept_in s c) (map (kept_in s) cs), sum_by-cons (removed_in s) c cs, sum_by-cons class_size c cs)

  members_same : (cs : List Class) → sum_by (removed_in s) cs ≡ 0 → map (kept_in s) cs ≡ cs
  members_same [] h = refl
  members_same (c ∷ cs) h =
      let both : removed_in s c + sum_by (removed_in s) cs ≡ 0 = sym (sum_by-cons (removed_in s) c cs) ∙ h in
      let e : kept_in s c ≡ c = class_same c (zero_left (removed_in s c) (sum_by (removed_in s) cs) both) in
      let r : map (kept_in s) cs ≡ cs = members_same cs (zero_right (removed_in s c) (sum_by (removed_in s) cs) both) in
      ap (λ k. k ∷ map (kept_in s) cs) e ∙ ap (λ l. c ∷ l) r

  classes_fall : (cs : List Class) → sum_by class_size (live_classes s cs) + (length cs - length (live_classes s cs)) ≤ sum_by class_size cs
  classes_fall [] = omega arith
  classes_fall (c ∷ cs) = more (is_marked s.classes.items c.name) (classes_fall cs)
    where
      more : (b : Bool) → sum_by class_size (live_classes s cs) + (length cs - length (live_classes s cs)) ≤ sum_by class_size cs
          → sum_by class_size (cond b (c ∷ live_classes s cs) (live_classes s cs)) + (length (c ∷ cs) - length (cond b (c ∷ live_classes s cs) (live_classes s cs))) ≤ sum_by class_size (c ∷ cs)
      more true h = omega (arith, h, sum_by-cons class_size c (live_classes s cs), sum_by-cons class_size c cs)
      more false h = omega (arith, h, sum_by-cons class_size c cs, filter_shorter (λ k. is_marked s.classes.items k.name) cs)

  -- the size falls at least by what is counted
  pub size_falls : (p : Program) → size_of (kept_of s p) + removed_from s p ≤ size_of p
  size_falls p = omega (arith, classes_fall p.classes, members_fall (live_classes s p.classes))

  -- where nothing is counted, the program is the same
  pub nothing_gone : (p : Program) → removed_from s p ≡ 0 → kept_of s p ≡ p
  nothing_gone p h =
      let a : length p.classes - length (live_classes s p.classes) ≡ 0 = zero_left (length p.classes - length (live_classes s p.classes)) (sum_by (removed_in s) (live_classes s p.classes)) h in
      let z : sum_by (removed_in s) (live_classes s p.classes) ≡ 0 = zero_right (length p.classes - length (live_classes s p.classes)) (sum_by (removed_in s) (live_classes s p.classes)) h in
      let c : live_classes s p.classes ≡ p.classes = filter_all (λ k. is_marked s.classes.items k.name) p.classes (omega (arith, a)) in
      ap (λ l. record p { classes = l }) (members_same (live_classes s p.classes) z ∙ c)

  -- what the count says of the program that is left
  pub left_is_no_more : (p q : Program) → q ≡ kept_of s p → size_of q ≤ size_of p
  left_is_no_more p q e = rw e (omega (arith, size_falls p))

  pub left_is_less : (p q : Program) (n : ℕ) → q ≡ kept_of s p → n ≡ capped (removed_from s p) → 0 < n → size_of q < size_of p
  left_is_less p q n e k h = let r : 0 < removed_from s p = above (removed_from s p) n k h in rw e (omega (arith, size_falls p, r))
    where
      above : (r n : ℕ) → n ≡ capped r → 0 < n → 0 < r
      above r n k h = omega arith

  pub left_is_same : (p q : Program) (n : ℕ) → q ≡ kept_of s p → n ≡ capped (removed_from s p) → n ≡ 0 → q ≡ p
  left_is_same p q n e k h = e ∙ nothing_gone p (none (removed_from s p) n k h)
    where
      none : (r n : ℕ) → n ≡ capped r → n ≡ 0 → r ≡ 0
      none r n k h = omega arith
