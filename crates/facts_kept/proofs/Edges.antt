-- Where a form goes on, by names, is where its instruction goes on, by number.
use Rattle.std.proofs.Common.{◌≡◌, ℕ, ℤ, suc, ◌+◌, ◌%◌, ◌^◌, true, false, List, [], ◌∷◌, ◌++◌, length, take, Option, Some, None, refl, sym, ap, ◌∙◌, arith}
use Rattle.std.specs.Prelude.{map, slice_get}
use Rattle.std.specs.Int.{w32, cast_signed, cast_unsigned}
use Rattle.std.specs.Option.{option_map}
use Rattle.insn_set.specs.declared.form.Insn.{Insn}
use Rattle.insn_set.specs.declared.form.Insn.TheVariants as insn
use Rattle.program_model.specs.OperandRules.{numbers_fit}
use Rattle.program_model.specs.declared.program.Program.{Program}
use Rattle.class_defs.specs.ClassGraph.{IsTwice}
use Rattle.class_defs.proofs.WellFormed.{Sound}
use Rattle.dalvik_defs.specs.Names.{object_type}
use Rattle.dalvik_defs.specs.Naming.{form_of, named}
use Rattle.dalvik_defs.specs.Under.{defines}
use Rattle.domains.specs.Values.{Parts, constant_value}
use Rattle.value_ops.specs.Tests.{consecutive, key_at, keyed_value, tested_values, unkeyed_value, unpacked_value}
use Rattle.value_ops.proofs.Keys.{unpacked_is}
use Rattle.name_bridge.proofs.Above.{map_append}
use Rattle.dom_frame.specs.Registers.{Registers, value_at}
use Rattle.dom_frame.specs.Steps as step
use Rattle.facts.specs.declared.facts.Facts as table
use Rattle.closed_facts.specs.Edges as number
use Rattle.pass_defs.specs.Analysis.{Analysis}
use Rattle.run_facts.specs.Closed as name
use Rattle.pass_defs.specs.Facts.{Facts}
use Rattle.facts_kept.specs.Names.{by_names, values, values_of}
use Rattle.facts_kept.proofs.Registers.{Alike, refined_same, refined_both_same}
use Rattle.facts_kept.proofs.ClosedForms.{Gets, after_same}

-- ---- keys

packed_key_same : (first : ℤ) (n : ℕ) → name.packed_key first n ≡ key_at first n
packed_key_same first n = ap (cast_signed w32) (let e : ((cast_unsigned w32 first + n) % 2 ^ 32) % 2 ^ 32 ≡ (cast_unsigned w32 first + n) % 2 ^ 32 = omega arith in e)

one_more : (n : ℕ) → n + 1 ≡ suc n
one_more n = omega arith

append_none : {A : Type 0} (xs : List A) → xs ++ [] ≡ xs
append_none [] = refl
append_none (x ∷ xs) = ap (λ ys. x ∷ ys) (append_none xs)

regrouped : {A : Type 0} (xs : List A) (y : A) (zs : List A) → (xs ++ y ∷ []) ++ zs ≡ xs ++ y ∷ zs
regrouped [] y zs = refl
regrouped (x ∷ xs) y zs = ap (λ l. x ∷ l) (regrouped xs y zs)

module _ (a : Analysis Parts) where
  keys_packed : (first : ℤ) (k : ℕ) (ts : List ℕ) → consecutive first (k + length ts) ≡ consecutive first k ++ name.keys_of a (name.packed_keys first k ts) ts
  keys_packed first k [] = ap (consecutive first) (let e : k + 0 ≡ k = omega arith in e) ∙ sym (append_none (consecutive first k))
  keys_packed first k (t ∷ ts) =
      ap (consecutive first) (let e : k + suc (length ts) ≡ suc k + length ts = omega arith in e)
      ∙ keys_packed first (suc k) ts
      ∙ regrouped (consecutive first k) (key_at first k) (name.keys_of a (name.packed_keys first (suc k) ts) ts)
      ∙ ap (λ z. consecutive first k ++ z ∷ name.keys_of a (name.packed_keys first (suc k) ts) ts) (sym (packed_key_same first k))

  keys_taken : (ks : List ℤ) (ts : List ℕ) → name.keys_of a ks ts ≡ take (length ts) ks
  keys_taken [] [] = refl
  keys_taken [] (t ∷ ts) = refl
  keys_taken (k ∷ ks) [] = refl
  keys_taken (k ∷ ks) (t ∷ ts) = ap (λ l. k ∷ l) (keys_taken ks ts)

-- ---- arms

arm_same : (p : Program) (q : ℕ) (o : Option (ℕ → Parts)) (x : Option Registers) → Alike (values p) refl o x → name.arm (values p) q o ≡ map by_names (number.arm q x)
arm_same p q o None e = ap (name.arm (values p) q) e
arm_same p q o (Some x) e = ap (name.arm (values p) q) e

module _ (p : Program) where
  abbrev named_edges : List (ℕ × Registers) → List (ℕ × (ℕ → Parts))
  named_edges = map by_names

  joined : (xs zs : List (ℕ × (ℕ → Parts))) (ys ws : List (ℕ × Registers)) → xs ≡ named_edges ys → zs ≡ named_edges ws → xs ++ zs ≡ named_edges (ys ++ ws)
  joined xs zs ys ws e h = ap (λ l. l ++ zs) e ∙ ap (λ l. named_edges ys ++ l) h ∙ sym (map_append by_names ys ws)

  -- ---- switches

  packed_cases : (on : ℕ) (first : ℤ) (all : List ℕ) (x : Registers) (k : ℕ) (ts : List ℕ)
      → name.cases (values p) on (name.packed_keys first k ts) ts (values_of x) ≡ named_edges (number.cases_from k (insn.PackedSwitch on first all) ts x)
  packed_cases on first all x k [] = refl
  packed_cases on first all x k (t ∷ ts) = joined
      (name.arm (values p) t (name.refined (values p) on (keyed_value (name.packed_key first k) (value_at x on)) (values_of x)))
      (name.cases (values p) on (name.packed_keys first (suc k) ts) ts (values_of x))
      (number.arm t (step.switched k (insn.PackedSwitch on first all) x))
      (number.cases_from (k + 1) (insn.PackedSwitch on first all) ts x)
      (arm_same p t (name.refined (values p) on (keyed_value (name.packed_key first k) (value_at x on)) (values_of x)) (step.switched k (insn.PackedSwitch on first all) x)
      (ap (λ z. name.refined (values p) on (keyed_value z (value_at x on)) (values_of x)) (packed_key_same first k) ∙ refined_same (values p) refl on (keyed_value (key_at first k) (value_at x on)) x))
      (packed_cases on first all x (suc k) ts ∙ ap (λ n. named_edges (number.cases_from n (insn.PackedSwitch on first all) ts x)) (sym (one_more k)))

  no_cases : (on : ℕ) (all : List ℤ) (whole : List ℕ) (x : Registers) (k : ℕ) (ts : List ℕ) → ((j : ℕ) → slice_get all (k + j) ≡ None) → named_edges (number.cases_from k (insn.SparseSwitch on all whole) ts x) ≡ []
  no_cases on all whole x k [] h = refl
  no_cases on all whole x k (t ∷ ts) h =
      ap (λ o. named_edges (number.arm t (step.at_key on o x) ++ number.cases_from (k + 1) (insn.SparseSwitch on all whole) ts x)) (sym (ap (slice_get all) (let e : k + 0 ≡ k = omega arith in e)) ∙ h 0)
      ∙ no_cases on all whole x (k + 1) ts (λ j. ap (slice_get all) (let e : (k + 1) + j ≡ k + suc j = omega arith in e) ∙ h (suc j))

  sparse_cases : (on : ℕ) (all : List ℤ) (whole : List ℕ) (x : Registers) (k : ℕ) (ks : List ℤ) (ts : List ℕ) → ((j : ℕ) → slice_get all (k + j) ≡ slice_get ks j)
      → name.cases (values p) on ks ts (values_of x) ≡ named_edges (number.cases_from k (insn.SparseSwitch on all whole) ts x)
  sparse_cases on all whole x k [] ts h = sym (no_cases on all whole x k ts h)
  sparse_cases on all whole x k (z ∷ ks) [] h = refl
  sparse_cases on all whole x k (z ∷ ks) (t ∷ ts) h = joined
      (name.arm (values p) t (name.refined (values p) on (keyed_value z (value_at x on)) (values_of x)))
      (name.cases (values p) on ks ts (values_of x))
      (number.arm t (step.switched k (insn.SparseSwitch on all whole) x))
      (number.cases_from (k + 1) (insn.SparseSwitch on all whole) ts x)
      (arm_same p t (name.refined (values p) on (keyed_value z (value_at x on)) (values_of x)) (step.switched k (insn.SparseSwitch on all whole) x)
      (refined_same (values p) refl on (keyed_value z (value_at x on)) x ∙ ap (λ o. option_map values_of (step.at_key on o x)) (sym (sym (ap (slice_get all) (let e : k + 0 ≡ k = omega arith in e)) ∙ h 0))))
      (sparse_cases on all whole x (k + 1) ks ts (λ j. ap (slice_get all) (let e : (k + 1) + j ≡ k + suc j = omega arith in e) ∙ h (suc j)))

  -- ---- all forms

  module _ (s : Sound p) (once : (class : ℕ) → IsTwice p class → ⊥) (no_object : defines (named p) object_type ≡ false) (t : Facts Parts) (facts : table.Facts)
      (gets : Gets p s once no_object t (number.given p facts)) where
    past_packed : (on : ℕ) (first : ℤ) (ts : List ℕ) (x : Registers)
        → Alike (values p) refl (name.refined (values p) on (unkeyed_value (name.keys_of (values p) (name.packed_keys first 0 ts) ts) (value_at x on)) (values_of x)) (step.unswitched (insn.PackedSwitch on first ts) x)
    past_packed on first ts x =
        ap (λ zs. name.refined (values p) on (unkeyed_value zs (value_at x on)) (values_of x)) (sym (keys_packed (values p) first 0 ts) ∙ ap (consecutive first) (let e : 0 + length ts ≡ length ts = omega arith in e))
        ∙ ap (λ o. name.refined (values p) on o (values_of x)) (sym (unpacked_is first (length ts) (value_at x on)))
        ∙ refined_same (values p) refl on (unpacked_value first (length ts) (value_at x on)) x

    past_sparse : (on : ℕ) (ks : List ℤ) (ts : List ℕ) (x : Registers)
        → Alike (values p) refl (name.refined (values p) on (unkeyed_value (name.keys_of (values p) ks ts) (value_at x on)) (values_of x)) (step.unswitched (insn.SparseSwitch on ks ts) x)
    past_sparse on ks ts x =
        ap (λ zs. name.refined (values p) on (unkeyed_value zs (value_at x on)) (values_of x)) (keys_taken (values p) ks ts)
        ∙ refined_same (values p) refl on (unkeyed_value (take (length ts) ks) (value_at x on)) x

    pub edges_same : (n : ℕ) (i : Insn) → numbers_fit i p ≡ true → (x : Registers) → name.edges (values p) (named p) t n (form_of p i) (values_of x) ≡ named_edges (number.edges p facts n i x)
    edges_same n (insn.Goto target) fits x = refl
    edges_same n (insn.MoveResult slot to) fits x = refl
    edges_same n (insn.PackedSwitch on first ts) fits x = joined
        (name.arm (values p) (n + 1) (name.refined (values p) on (unkeyed_value (name.keys_of (values p) (name.packed_keys first 0 ts) ts) (value_at x on)) (values_of x)))
        (name.cases (values p) on (name.packed_keys first 0 ts) ts (values_of x))
        (number.arm (n + 1) (step.unswitched (insn.PackedSwitch on first ts) x))
        (number.cases_from 0 (insn.PackedSwitch on first ts) ts x)
        (arm_same p (n + 1) _ _ (past_packed on first ts x)) (packed_cases on first ts x 0 ts)
    edges_same n (insn.SparseSwitch on ks ts) fits x = joined
        (name.arm (values p) (n + 1) (name.refined (values p) on (unkeyed_value (name.keys_of (values p) ks ts) (value_at x on)) (values_of x)))
        (name.cases (values p) on ks ts (values_of x))
        (number.arm (n + 1) (step.unswitched (insn.SparseSwitch on ks ts) x))
        (number.cases_from 0 (insn.SparseSwitch on ks ts) ts x)
        (arm_same p (n + 1) _ _ (past_sparse on ks ts x)) (sparse_cases on ks ts x 0 ks ts (λ j. ap (slice_get ks) (let e : 0 + j ≡ j = omega arith in e)))
    edges_same n (insn.If test r s target) fits x = joined
        (name.arm (values p) (n + 1) (name.refined_both (values p) r s (tested_values false test (value_at x r) (value_at x s)) (values_of x)))
        (name.arm (values p) target (name.refined_both (values p) r s (tested_values true test (value_at x r) (value_at x s)) (values_of x)))
        (number.arm (n + 1) (step.branched false (insn.If test r s target) x))
        (number.arm target (step.branched true (insn.If test r s target) x))
        (arm_same p (n + 1) _ _ (refined_both_same (values p) refl r s (tested_values false test (value_at x r) (value_at x s)) x))
        (arm_same p target _ _ (refined_both_same (values p) refl r s (tested_values true test (value_at x r) (value_at x s)) x))
    edges_same n (insn.IfZero test r target) fits x = joined
        (name.arm (values p) (n + 1) (name.refined (values p) r (option_map (λ v. v.0) (tested_values false test (value_at x r) (constant_value 0))) (values_of x)))
        (name.arm (values p) target (name.refined (values p) r (option_map (λ v. v.0) (tested_values true test (value_at x r) (constant_value 0))) (values_of x)))
        (number.arm (n + 1) (step.branched false (insn.IfZero test r target) x))
        (number.arm target (step.branched true (insn.IfZero test r target) x))
        (arm_same p (n + 1) _ _ (refined_same (values p) refl r (option_map (λ v. v.0) (tested_values false test (value_at x r) (constant_value 0))) x))
        (arm_same p target _ _ (refined_same (values p) refl r (option_map (λ v. v.0) (tested_values true test (value_at x r) (constant_value 0))) x))
    edges_same n i fits x = arm_same p (n + 1) (name.after (values p) (named p) t (form_of p i) (values_of x)) (step.after p i (number.given p facts i) x)
        (after_same p s once no_object t (number.given p facts) gets i tt fits x)
