-- No pass leaves more methods with a receiver, and one that makes methods static leaves fewer.
use Rattle.std.proofs.Common.{◌≡◌, ℕ, ◌<◌, ◌≤◌, Bool, true, false, List, [], ◌∷◌, map, refl, sym, ap, ◌∙◌, subst, arith}
use Rattle.std.specs.Prelude.{◌&&◌, not, cond, filter, is_some, sum_by}
use Rattle.std.proofs.lemmas.List.Sums.{sum_by-cons}
use Rattle.program_model.specs.MemberRules.{is_static}
use Rattle.program_model.specs.declared.pass.Changed.{Changed}
use Rattle.program_model.specs.declared.pass.Outside.{Outside}
use Rattle.program_model.specs.declared.program.Class.{Class}
use Rattle.program_model.specs.declared.program.Method.{Method}
use Rattle.program_model.specs.declared.program.Program.{Program}
use Rattle.call_graph.specs.declared.live_set.LiveSet.{LiveSet}
use Rattle.reach.specs.Kept.{is_marked, kept_in, kept_of, live_classes}
use Rattle.program_laws.specs.Numbered.{NumberedCodes, OtherNumberedBodies, OtherNumberedClass, OtherNumberedMethod}
use Rattle.program_laws.specs.Others.{Pairwise}
use Rattle.facts.specs.declared.facts.Facts.{Facts}
use Rattle.staticise.specs.Judging.{judged}
use Rattle.staticise.specs.Left.{class_receivers, has_receiver_word, receivers_in}
use Rattle.staticise.specs.Loosened.{IsStaticisedBy, count_given}
use Rattle.staticise.proofs.Falls.{falls}

-- ---- sums

sum_filtered : {X : Type 0} (f : X → ℕ) (keep : X → Bool) (xs : List X) → sum_by f (filter keep xs) ≤ sum_by f xs
sum_filtered f keep [] = omega arith
sum_filtered f keep (x ∷ xs) = by (keep x) (sum_filtered f keep xs)
  where
    by : (b : Bool) → sum_by f (filter keep xs) ≤ sum_by f xs → sum_by f (cond b (x ∷ filter keep xs) (filter keep xs)) ≤ sum_by f (x ∷ xs)
    by true h = let a = sum_by-cons f x (filter keep xs) in let c = sum_by-cons f x xs in omega (arith, a, c, h)
    by false h = let c = sum_by-cons f x xs in omega (arith, c, h)

sum_mapped : {X : Type 0} (g : X → X) (f : X → ℕ) → ((x : X) → f (g x) ≤ f x) → (xs : List X) → sum_by f (map g xs) ≤ sum_by f xs
sum_mapped g f h [] = omega arith
sum_mapped g f h (x ∷ xs) =
    let a = sum_by-cons f (g x) (map g xs) in
    let b = sum_by-cons f x xs in
    let c = h x in
    let d = sum_mapped g f h xs in
    omega (arith, a, b, c, d)

sum_paired : {X : Type 0} (R : X → X → Type 0) (f : X → ℕ) → ((x y : X) → R x y → f y ≡ f x) → (xs ys : List X) → Pairwise R xs ys → sum_by f ys ≡ sum_by f xs
sum_paired R f h [] [] r = refl
sum_paired R f h [] (y ∷ ys) r = absurd r
sum_paired R f h (x ∷ xs) [] r = absurd r
sum_paired R f h (x ∷ xs) (y ∷ ys) r =
    let a = sum_by-cons f x xs in
    let b = sum_by-cons f y ys in
    let c = h x y r.0 in
    let d = sum_paired R f h xs ys r.1 in
    omega (arith, a, b, c, d)

abbrev word_of : Method → ℕ
word_of m = cond (has_receiver_word m) 1 0

-- ---- passes

class_removed : (s : LiveSet) (c : Class) → class_receivers (kept_in s c) ≤ class_receivers c
class_removed s c = sum_filtered word_of (λ m. is_marked s.methods.items m.name) c.methods

pub receivers_removed : (s : LiveSet) (p : Program) → receivers_in (kept_of s p) ≤ receivers_in p
receivers_removed s p =
    let a = sum_mapped (kept_in s) class_receivers (class_removed s) (live_classes s p.classes) in
    let b = sum_filtered class_receivers (λ (c : Class). is_marked s.classes.items c.name) p.classes in
    omega (arith, a, b)

module _ (N : NumberedCodes) (p : Program) where
  word_same : (c : Class) (m n : Method) → OtherNumberedMethod N p c m n → word_of n ≡ word_of m
  word_same c m n h = ap (λ b. cond (b && not (is_static n.flags)) 1 0) h.coded ∙ ap (λ (z : Method). cond (is_some m.body && not (is_static z.flags)) 1 0) h.same

  class_same : (c d : Class) → OtherNumberedClass N p c d → class_receivers d ≡ class_receivers c
  class_same c d h = sum_paired (OtherNumberedMethod N p c) word_of (word_same c) c.methods d.methods h.methods

  pub receivers_same : (q : Program) → OtherNumberedBodies N p q → receivers_in q ≡ receivers_in p
  receivers_same q h = sum_paired (OtherNumberedClass N p) class_receivers class_same p.classes q.classes h.classes

pub receivers_fewer : (p : Program) (facts : Facts) (o : Outside) (admitted : List Bool) (c : Changed) → IsStaticisedBy p facts o admitted c → 0 < c.count → receivers_in c.program < receivers_in p
receivers_fewer p facts o admitted c x l = falls p facts o admitted c.program (subst (λ n. 0 < n) x.count l) (x.loosened l)
