-- A body whose registers are needed at once is packed; one that skips a register isn't.
use Rattle.std.proofs.Common.{◌≡◌, ℕ, zero, suc, ◌<◌, Bool, true, false, true≢false, Some, refl, sym, ap, ◌∙◌, subst, arith}
use Rattle.std.specs.Prelude.{◌&&◌, pos}
use Rattle.insn_set.specs.declared.ops.BinaryOp.TheVariants as binary
use Rattle.dalvik_defs.specs.declared.forms.Form.{Form}
use Rattle.dalvik_defs.specs.declared.forms.Form.TheVariants as form
use Rattle.pass_defs.specs.Bare.{reads, writes}
use Rattle.pass_defs.specs.Walks.{form_at, IsReadAt, Here, Onward, Caught}
use Rattle.pass_defs.specs.Packed.{IsPacked, is_used, Conflict, First, Second, Both}
use Rattle.pass_defs.specs.PassExamples.{needs_both, skips_one}
use Rattle.pass_defs.proofs.Spins.{some_one, none_some}

conflict : Conflict needs_both 1 0
conflict = First (record {
  position = 1;
  form = form.Const 1 (pos 2);
  next = 2;
  has_form = refl;
  writes_it = refl;
  goes = (0, omega arith, refl);
  read = (2, Here 2 (form.Binary binary.AddInt 0 0 1) refl refl);
})

least : (r s : ℕ) → r < 2 → s < r → Conflict needs_both r s
least zero s l m = let f : ⊥ = omega (arith, m) in absurd f
least (suc zero) zero l m = conflict
least (suc zero) (suc s) l m = let f : ⊥ = omega (arith, m) in absurd f
least (suc (suc r)) s l m = let f : ⊥ = omega (arith, l) in absurd f

greatest : (r : ℕ) → suc r ≡ 2 → 1 ≡ r
greatest r e = omega (arith, e)

pub both_packed : IsPacked needs_both
both_packed = record {
  least = λ r s l u m. least r s l m;
  greatest = λ r e. subst (λ r. is_used needs_both r ≡ true) (greatest r e) refl;
}

-- ---- the body that skips register 0

never_read : (n k : ℕ) → IsReadAt skips_one 0 n k → ⊥
never_read n k (Here _ f h e) = unread n f h e
  where
    unread : (n : ℕ) (f : Form) → form_at skips_one n ≡ Some f → reads f 0 ≡ true → ⊥
    unread zero f h e = true≢false (sym e ∙ ap (λ f. reads f 0) (sym (some_one _ f h)))
    unread (suc zero) f h e = true≢false (sym e ∙ ap (λ f. reads f 0) (sym (some_one _ f h)))
    unread (suc (suc n)) f h e = none_some f h
never_read n k (Onward _ m _ f h e i r) = never_read m k r
never_read n k (Caught _ m _ f h i r) = never_read m k r

unwritten : (n : ℕ) (f : Form) → form_at skips_one n ≡ Some f → writes f 0 ≡ true → ⊥
unwritten zero f h e = true≢false (sym e ∙ ap (λ f. writes f 0) (sym (some_one _ f h)))
unwritten (suc zero) f h e = true≢false (sym e ∙ ap (λ f. writes f 0) (sym (some_one _ f h)))
unwritten (suc (suc n)) f h e = none_some f h

right_true : (a b : Bool) → (a && b) ≡ true → b ≡ true
right_true true b e = e
right_true false b e = absurd (true≢false (sym e))

no_conflict : Conflict skips_one 1 0 → ⊥
no_conflict (First c) = never_read c.next c.read.0 c.read.1
no_conflict (Second c) = unwritten c.position c.form c.has_form c.writes_it
no_conflict (Both n f h e) = unwritten n f h (right_true _ _ e)

pub skipping_not_packed : IsPacked skips_one → ⊥
skipping_not_packed h = no_conflict (h.least 1 0 (omega arith) refl (omega arith))
