-- Where the facts know that a branch may go is one of the ways by which a quiet method goes on.
use Rattle.std.proofs.Common.{◌≡◌, ◌⊎◌, inl, inr, ℕ, zero, suc, ◌+◌, ◌<◌, ℤ, Bool, true, false, true≢false, List, [], ◌∷◌, ◌++◌, length, map, Option, Some, None, refl, sym, ap, ◌∙◌, subst, arith}
use Rattle.std.specs.Prelude.{is_some, slice_get, slice_index, Contains}
use Rattle.std.specs.Option.{option_map}
use Rattle.insn_set.specs.declared.ops.Test.{Test}
use Rattle.insn_set.specs.declared.form.Insn.{Insn}
use Rattle.insn_set.specs.declared.form.Insn.TheVariants as insn
use Rattle.program_model.specs.declared.program.Program.{Program}
use Rattle.dom_frame.specs.Registers.{Registers}
use Rattle.dom_frame.specs.Steps.{branched, switched, unswitched}
use Rattle.facts.specs.declared.facts.Facts.{Facts}
use Rattle.closed_facts.specs.Edges.{arm, both_ways, cases_from, edges}
use Rattle.lemmas.proofs.Lists.{contains_here, contains_there}
use Rattle.run_laws.proofs.Here.{into_left, into_right}
use Rattle.cover_law.proofs.Standing.{split_in}
use Rattle.quiet_methods.specs.Forms.{one_if, cases_upto, switch_ways, branch_ways, ways}

nowhere : {A B : Type 0} (x : A) → Contains [] x → B
nowhere x h = let l : h.0 < 0 = h.1 in absurd (omega (arith, l))

-- ---- one arm

record IsArm (k : ℕ) (o : Option Registers) (q : ℕ × Registers) : Type 0 where
  some : is_some o ≡ true
  to : q.0 ≡ k

arm_is : (k : ℕ) (o : Option Registers) (q : ℕ × Registers) → Contains (arm k o) q → IsArm k o q
arm_is k None q h = nowhere q h
arm_is k (Some x) q (zero, l, e) = record { some = refl; to = sym (ap (λ (z : ℕ × Registers). z.0) e) }
arm_is k (Some x) q (suc n, l, e) = nowhere q (n, omega (arith, l), e)

in_one : (b : Bool) (n m : ℕ) → b ≡ true → m ≡ n → Contains (one_if b n) m
in_one true n m e i = subst (Contains (n ∷ [])) (sym i) (contains_here n [])
in_one false n m e i = absurd (true≢false (sym e))

arm_in : (k : ℕ) (o : Option Registers) (q : ℕ × Registers) → Contains (arm k o) q → Contains (one_if (is_some o) k) q.0
arm_in k o q h = let a = arm_is k o q h in in_one (is_some o) k q.0 a.some a.to

-- ---- conditional branches

both_in : (n : ℕ) (i : Insn) (target : ℕ) (x : Registers) (q : ℕ × Registers) → Contains (both_ways n i target x) q → Contains (branch_ways i target n x) q.0
both_in n i target x q h = by (split_in (arm (n + 1) (branched false i x)) (arm target (branched true i x)) q h)
  where
    by : Contains (arm (n + 1) (branched false i x)) q ⊎ Contains (arm target (branched true i x)) q → Contains (branch_ways i target n x) q.0
    by (inl a) = into_right (one_if (is_some (branched true i x)) target) (one_if (is_some (branched false i x)) (n + 1)) q.0 (arm_in (n + 1) (branched false i x) q a)
    by (inr a) = into_left (one_if (is_some (branched true i x)) target) (one_if (is_some (branched false i x)) (n + 1)) q.0 (arm_in target (branched true i x) q a)

-- ---- switches

-- one of the targets, by its place
record IsCase (k : ℕ) (i : Insn) (ts : List ℕ) (x : Registers) (to : ℕ) : Type 0 where
  place : ℕ
  there : slice_get ts place ≡ Some to
  some : is_some (switched (k + place) i x) ≡ true

case_is : (k : ℕ) (i : Insn) (ts : List ℕ) (x : Registers) (q : ℕ × Registers) → Contains (cases_from k i ts x) q → IsCase k i ts x q.0
case_is k i [] x q h = nowhere q h
case_is k i (t ∷ ts) x q h = by (split_in (arm t (switched k i x)) (cases_from (k + 1) i ts x) q h) (λ a. case_is (k + 1) i ts x q a)
  where
    same : k + 0 ≡ k
    same = omega arith

    later : (m : ℕ) → (k + 1) + m ≡ k + suc m
    later m = omega arith

    by : Contains (arm t (switched k i x)) q ⊎ Contains (cases_from (k + 1) i ts x) q → (Contains (cases_from (k + 1) i ts x) q → IsCase (k + 1) i ts x q.0) → IsCase k i (t ∷ ts) x q.0
    by (inl a) more = let r = arm_is t (switched k i x) q a in record { place = 0; there = ap Some (sym r.to); some = ap (λ j. is_some (switched j i x)) same ∙ r.some }
    by (inr a) more = let r = more a in record { place = suc r.place; there = r.there; some = ap (λ j. is_some (switched j i x)) (sym (later r.place)) ∙ r.some }

got_index : (ts : List ℕ) (n t : ℕ) → slice_get ts n ≡ Some t → slice_index ts n ≡ t
got_index [] n t e = absurd (cc)
got_index (u ∷ ts) zero t e = let k : u ≡ t = cc in k
got_index (u ∷ ts) (suc n) t e = got_index ts n t e

got_low : (ts : List ℕ) (n t : ℕ) → slice_get ts n ≡ Some t → n < length ts
got_low [] n t e = absurd (cc)
got_low (u ∷ ts) zero t e = omega arith
got_low (u ∷ ts) (suc n) t e = let l = got_low ts n t e in omega (arith, l)

last_or : (n k : ℕ) → n < suc k → (n ≡ k) ⊎ (n < k)
last_or zero zero l = inl refl
last_or zero (suc k) l = inr (omega arith)
last_or (suc n) zero l = absurd (omega (arith, l))
last_or (suc n) (suc k) l = elim (last_or n k (omega (arith, l))) [ inl e ↦ inl (ap suc e) | inr d ↦ inr (omega (arith, d)) ]

case_in : (i : Insn) (ts : List ℕ) (x : Registers) (k n t : ℕ) → n < k → slice_get ts n ≡ Some t → is_some (switched n i x) ≡ true → Contains (cases_upto i ts x k) t
case_in i ts x zero n t l e some = absurd (omega (arith, l))
case_in i ts x (suc k) n t l e some = by (last_or n k l) (λ d. case_in i ts x k n t d e some)
  where
    by : (n ≡ k) ⊎ (n < k) → (n < k → Contains (cases_upto i ts x k) t) → Contains (cases_upto i ts x (suc k)) t
    by (inl same) more = into_right (cases_upto i ts x k) (one_if (is_some (switched k i x)) (slice_index ts k)) t
        (in_one (is_some (switched k i x)) (slice_index ts k) t (subst (λ j. is_some (switched j i x) ≡ true) same some) (sym (got_index ts k t (subst (λ j. slice_get ts j ≡ Some t) same e))))
    by (inr d) more = into_left (cases_upto i ts x k) (one_if (is_some (switched k i x)) (slice_index ts k)) t (more d)

from_none : (k : ℕ) → k ≡ 0 + k
from_none k = omega arith

switch_in : (n : ℕ) (i : Insn) (ts : List ℕ) (x : Registers) (q : ℕ × Registers) → Contains (arm (n + 1) (unswitched i x) ++ cases_from 0 i ts x) q → Contains (switch_ways i ts n x) q.0
switch_in n i ts x q h = by (split_in (arm (n + 1) (unswitched i x)) (cases_from 0 i ts x) q h)
  where
    by : Contains (arm (n + 1) (unswitched i x)) q ⊎ Contains (cases_from 0 i ts x) q → Contains (switch_ways i ts n x) q.0
    by (inl a) = into_right (cases_upto i ts x (length ts)) (one_if (is_some (unswitched i x)) (n + 1)) q.0 (arm_in (n + 1) (unswitched i x) q a)
    by (inr a) = let r = case_is 0 i ts x q a in
        into_left (cases_upto i ts x (length ts)) (one_if (is_some (unswitched i x)) (n + 1)) q.0 (case_in i ts x (length ts) r.place q.0 (got_low ts r.place q.0 r.there) r.there (ap (λ j. is_some (switched j i x)) (from_none r.place) ∙ r.some))

-- ---- branches

pub data IsBranch : Insn → Type 0 where
  OnTest : (test : Test) (a b target : ℕ) → IsBranch (insn.If test a b target)
  OnZero : (test : Test) (a target : ℕ) → IsBranch (insn.IfZero test a target)
  Packed : (on : ℕ) (first : ℤ) (targets : List ℕ) → IsBranch (insn.PackedSwitch on first targets)
  Sparse : (on : ℕ) (keys : List ℤ) (targets : List ℕ) → IsBranch (insn.SparseSwitch on keys targets)

pub edge_in_ways : (p : Program) (t : Facts) (n : ℕ) (i : Insn) (x : Registers) (q : ℕ × Registers) → IsBranch i → Contains (edges p t n i x) q → Contains (ways i n x) q.0
edge_in_ways p t n _ x q (OnTest test a b target) h = both_in n (insn.If test a b target) target x q h
edge_in_ways p t n _ x q (OnZero test a target) h = both_in n (insn.IfZero test a target) target x q h
edge_in_ways p t n _ x q (Packed on first targets) h = switch_in n (insn.PackedSwitch on first targets) targets x q h
edge_in_ways p t n _ x q (Sparse on keys targets) h = switch_in n (insn.SparseSwitch on keys targets) targets x q h

-- ---- an entry of a list of images

pub record Listed {A B : Type 0} (g : A → B) (xs : List A) (y : B) : Type 0 where
  pub entry : A
  pub there : Contains xs entry
  pub is : g entry ≡ y

pub listed : {A B : Type 0} (g : A → B) (xs : List A) (y : B) → Contains (map g xs) y → Listed g xs y
listed g [] y h = nowhere y h
listed g (x ∷ xs) y (zero, l, e) = record { entry = x; there = contains_here x xs; is = e }
listed g (x ∷ xs) y (suc n, l, e) = let r = listed g xs y (n, omega (arith, l), e) in record { entry = r.entry; there = contains_there x xs r.entry r.there; is = r.is }
