-- A read of a copy is stale, unless the original was written since or the read is of another width.
use Rattle.std.proofs.Common.{◌≡◌, ℕ, zero, suc, Bool, true, false, true≢false, Some, refl, sym, ap, ◌∙◌, subst, arith}
use Rattle.std.specs.Prelude.{◌&&◌, pos, nat_eq, Contains}
use Rattle.insn_set.specs.declared.ops.Slot.{Slot}
use Rattle.insn_set.specs.declared.ops.Slot.TheVariants as slot
use Rattle.dalvik_defs.specs.declared.forms.Form.{Form}
use Rattle.dalvik_defs.specs.declared.forms.Form.TheVariants as form
use Rattle.pass_defs.specs.Walks.{Stays, Goes, form_at, onward, successors, IsReached}
use Rattle.pass_defs.specs.Stale as stale
use Rattle.dalvik_defs.specs.declared.program.NamedBody.{NamedBody}
use Rattle.pass_defs.specs.Stale.{IsSpoilt, IsStale, Lower, in_either, casts, reads_as}
use Rattle.pass_defs.specs.PassExamples.{reads_copy, copy_is_old, gives_copy}
use Rattle.pass_defs.proofs.Spins.{some_one, none_some}
use Rattle.pass_defs.proofs.Sums.{none_in, only_in}

not_both : (a b : Bool) → b ≡ false → (a && b) ≡ true → ⊥
not_both true b e h = true≢false (sym h ∙ e)
not_both false b e h = true≢false (sym h)

-- where the third position of the first body comes from
from_move : (n : ℕ) → Contains (successors reads_copy n) 2 → 1 ≡ n
from_move zero i = let e : 1 ≡ 2 = only_in 2 1 i in let f : ⊥ = omega (arith, e) in absurd f
from_move (suc zero) i = refl
from_move (suc (suc zero)) i = none_in 2 i
from_move (suc (suc (suc n))) i = none_in 2 i

onward_from : (n : ℕ) (f : Form) → form_at reads_copy n ≡ Some f → Contains (onward f n) 2 → 1 ≡ n
onward_from zero f h i = let e : 1 ≡ 2 = only_in 2 1 (subst (λ f. Contains (onward f 0) 2) (sym (some_one _ f h)) i) in let z : ⊥ = omega (arith, e) in absurd z
onward_from (suc zero) f h i = refl
onward_from (suc (suc zero)) f h i = none_in 2 (subst (λ f. Contains (onward f 2) 2) (sym (some_one _ f h)) i)
onward_from (suc (suc (suc n))) f h i = none_some f h

not_there : (n : ℕ) → nat_eq n 1 ≡ false → 1 ≡ n → ⊥
not_there n e h = true≢false (subst (λ m. nat_eq m 1 ≡ false) (sym h) e)

-- a body whose second position is a Move, after which nothing comes to the third but that
module _ (b : NamedBody) (s : Slot) (to : ℕ) (from_move : (n : ℕ) → Contains (successors b n) 2 → 1 ≡ n) (onward_from : (n : ℕ) (f : Form) → form_at b n ≡ Some f → Contains (onward f n) 2 → 1 ≡ n) (move : form_at b 1 ≡ Some (form.Move s to 0)) where
  kept : (m : ℕ) → 2 ≡ m → IsSpoilt b 1 s to 0 m → ⊥
  kept _ e stale.Begins = let f : ⊥ = omega (arith, e) in f
  kept m e (stale.Stays n _ h x i) = not_there n h (from_move n (subst (λ m. Contains (successors b n) m) (sym e) i))
  kept m e (stale.Written n _ r f h x g w i) = not_there n h (onward_from n f g (subst (λ m. Contains (onward f n) m) (sym e) i))
  kept m e (stale.Cast n _ r f x g w i) =
      let there : 1 ≡ n = from_move n (subst (λ m. Contains (successors b n) m) (sym e) i) in
      let is : form.Move s to 0 ≡ f = some_one _ f (sym move ∙ subst (λ k. form_at b k ≡ Some f) (sym there) g) in
      not_both (in_either s to 0 r) (casts f r) (ap (λ f. casts f r) (sym is)) w

pub copy_stale : IsStale reads_copy 2
copy_stale = record {
  at = 1;
  copy = record { slot = slot.Word; to = 1; from = 0; stands = refl };
  form = form.Return slot.Word 1;
  has_form = refl;
  stands = record {
    reached = Goes 0 1 2 (0, omega arith, refl) (Goes 1 2 2 (0, omega arith, refl) (Stays 2));
    kept = kept reads_copy slot.Word 1 from_move onward_from refl 2 refl;
    apart = refl;
    read = refl;
    plain = refl;
    encodable = refl;
    short = omega arith;
  };
  worth = Lower (omega arith);
}

-- ---- a copy that is old

to_two : IsReached copy_is_old 2
to_two = Goes 0 1 2 (0, omega arith, refl) (Goes 1 2 2 (0, omega arith, refl) (Stays 2))

spoilt : IsSpoilt copy_is_old 1 slot.Word 1 0 3
spoilt = stale.Written 2 3 0 (form.Const 0 (pos 7)) refl to_two refl refl (0, omega arith, refl)

-- what is asked of a copy by this form
abbrev Kept : Form → Type 0
Kept (form.Move s to from) = IsSpoilt copy_is_old 1 s to from 3 → ⊥
Kept f = Unit {0}

abbrev is_move : Form → Bool
is_move (form.Move s to from) = true
is_move f = false

no_copy : (at : ℕ) (s : Slot) (to from : ℕ) → form_at copy_is_old at ≡ Some (form.Move s to from) → (IsSpoilt copy_is_old at s to from 3 → ⊥) → ⊥
no_copy zero s to from e h = true≢false (sym (ap is_move (some_one _ (form.Move s to from) e)))
no_copy (suc zero) s to from e h = subst (λ f. Kept f) (sym (some_one (form.Move slot.Word 1 0) (form.Move s to from) e)) h spoilt
no_copy (suc (suc zero)) s to from e h = true≢false (sym (ap is_move (some_one _ (form.Move s to from) e)))
no_copy (suc (suc (suc zero))) s to from e h = true≢false (sym (ap is_move (some_one _ (form.Move s to from) e)))
no_copy (suc (suc (suc (suc n)))) s to from e h = none_some (form.Move s to from) e

pub old_copy_stays : IsStale copy_is_old 3 → ⊥
old_copy_stays h = no_copy h.at h.copy.slot h.copy.to h.copy.from h.copy.stands h.stands.kept

-- ---- a read that isn't as wide as the copy

from_wide : (n : ℕ) → Contains (successors (gives_copy slot.Wide slot.Wide) n) 2 → 1 ≡ n
from_wide zero i = let e : 1 ≡ 2 = only_in 2 1 i in let f : ⊥ = omega (arith, e) in absurd f
from_wide (suc zero) i = refl
from_wide (suc (suc zero)) i = none_in 2 i
from_wide (suc (suc (suc n))) i = none_in 2 i

wide_onward : (n : ℕ) (f : Form) → form_at (gives_copy slot.Wide slot.Wide) n ≡ Some f → Contains (onward f n) 2 → 1 ≡ n
wide_onward zero f h i = let e : 1 ≡ 2 = only_in 2 1 (subst (λ f. Contains (onward f 0) 2) (sym (some_one _ f h)) i) in let z : ⊥ = omega (arith, e) in absurd z
wide_onward (suc zero) f h i = refl
wide_onward (suc (suc zero)) f h i = none_in 2 (subst (λ f. Contains (onward f 2) 2) (sym (some_one _ f h)) i)
wide_onward (suc (suc (suc n))) f h i = none_some f h

pub wide_stale : IsStale (gives_copy slot.Wide slot.Wide) 2
wide_stale = record {
  at = 1;
  copy = record { slot = slot.Wide; to = 2; from = 0; stands = refl };
  form = form.Return slot.Wide 2;
  has_form = refl;
  stands = record {
    reached = Goes 0 1 2 (0, omega arith, refl) (Goes 1 2 2 (0, omega arith, refl) (Stays 2));
    kept = kept (gives_copy slot.Wide slot.Wide) slot.Wide 2 from_wide wide_onward refl 2 refl;
    apart = refl;
    read = refl;
    plain = refl;
    encodable = refl;
    short = omega arith;
  };
  worth = Lower (omega arith);
}

-- what is asked of a copy by this form
abbrev Reads : Slot → Form → Type 0
Reads given (form.Move s to from) = reads_as s (form.Return given 2) to ≡ true
Reads given f = ⊥

-- the only Move reads in another width
unlike : (copied given : Slot) → reads_as copied (form.Return given 2) 2 ≡ false → (at : ℕ) (s : Slot) (to from : ℕ) → form_at (gives_copy copied given) at ≡ Some (form.Move s to from) → reads_as s (form.Return given 2) to ≡ true → ⊥
unlike copied given e zero s to from h r = subst (Reads given) (sym (some_one _ (form.Move s to from) h)) r
unlike copied given e (suc zero) s to from h r = true≢false (sym (subst (Reads given) (sym (some_one (form.Move copied 2 0) (form.Move s to from) h)) r) ∙ e)
unlike copied given e (suc (suc zero)) s to from h r = subst (Reads given) (sym (some_one _ (form.Move s to from) h)) r
unlike copied given e (suc (suc (suc n))) s to from h r = none_some (form.Move s to from) h

pub other_width_stays : (copied given : Slot) → reads_as copied (form.Return given 2) 2 ≡ false → IsStale (gives_copy copied given) 2 → ⊥
other_width_stays copied given e h =
    unlike copied given e h.at h.copy.slot h.copy.to h.copy.from h.copy.stands
    (subst (λ f. reads_as h.copy.slot f h.copy.to ≡ true) (sym (some_one (form.Return given 2) h.form h.has_form)) h.stands.read)
