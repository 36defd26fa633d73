-- What a typing says of a position with a form and a state.
use Rattle.std.proofs.Common.{◌≡◌, ℕ, zero, suc, ◌<◌, Bool, true, false, List, [], ◌∷◌, length, Some, None, refl, sym, ap, ◌∙◌, arith, eqb-true}
use Rattle.std.specs.Prelude.{not, nat_eq, slice_get}
use Rattle.lemmas.proofs.Bools.{and_left, clash}
use Rattle.lemmas.proofs.Lists.{got_short}
use Rattle.lemmas.proofs.Numbers.{same_number}
use Rattle.dalvik_defs.specs.declared.forms.Form.{Form}
use Rattle.dalvik_defs.specs.declared.program.NamedBody.{NamedBody}
use Rattle.dalvik_defs.specs.declared.program.NamedClass.{NamedClass}
use Rattle.dalvik_defs.specs.declared.program.NamedMethod.{NamedMethod}
use Rattle.dalvik_defs.specs.declared.program.NamedProgram.{NamedProgram}
use Rattle.pass_defs.specs.Walks.{form_at}
use Rattle.pass_defs.specs.Registers.{Kinds}
use Rattle.pass_defs.specs.Demands.{is_allowed}
use Rattle.pass_defs.specs.Typed.{is_wrong, Table, state_at, each, at_state, IsTyping}
use Rattle.form_laws.proofs.Demanded.{and_behind}

pub each_at : (n : ℕ) (test : ℕ → Bool) (i : ℕ) → i < n → each n test ≡ true → test i ≡ true
each_at zero test i lt e = absurd (omega (arith, lt))
each_at (suc n) test i lt e = by (λ l. each_at n test i l (and_left (each n test) (test n) e)) (nat_eq i n) refl
  where
    less : (i n : ℕ) → i < suc n → (i ≡ n → ⊥) → i < n
    less i zero lt ne = absurd (ne (omega (arith, lt)))
    less zero (suc n) lt ne = omega arith
    less (suc i) (suc n) lt ne = let h = less i n (omega (arith, lt)) (λ e. ne (ap suc e)) in omega (arith, h)

    by : (i < n → test i ≡ true) → (b : Bool) → nat_eq i n ≡ b → test i ≡ true
    by more true j = ap test (eqb-true i n j) ∙ and_behind (each n test) (test n) e
    by more false j = more (less i n lt (λ z. clash (nat_eq i n) (ap (nat_eq i) (sym z) ∙ same_number i) j))

module _ (p : NamedProgram) (c : NamedClass) (m : NamedMethod) (b : NamedBody) (t : Table) (typing : IsTyping p c m b t) where
  -- what a typing says of a position with a form and a state
  module _ (n : ℕ) (f : Form) (a : Kinds) (x : form_at b n ≡ Some f) (y : state_at t n ≡ Some a) where
    pub tested : (test : Form → Kinds → Bool) → at_state b t test n ≡ true → test f a ≡ true
    tested test e = ap (λ s. elim s as (λ s. Bool) [ Some a ↦ test f a | None ↦ true ]) (sym y)
        ∙ ap (λ o. elim o as (λ o. Bool) [ Some f ↦ elim (state_at t n) as (λ s. Bool) [ Some a ↦ test f a | None ↦ true ] | None ↦ true ]) (sym x) ∙ e

    lower : n < length b.forms
    lower = got_short b.forms n f x

    pub allowed_at : is_allowed p c m a f ≡ true
    allowed_at = tested (λ f a. is_allowed p c m a f) (each_at (length b.forms) (at_state b t (λ f a. is_allowed p c m a f)) n lower typing.reads)

    pub right_at : is_wrong p c m a f ≡ false
    right_at = by (is_wrong p c m a f) (tested (λ f a. not (is_wrong p c m a f)) (each_at (length b.forms) (at_state b t (λ f a. not (is_wrong p c m a f))) n lower typing.right))
      where
        by : (v : Bool) → not v ≡ true → v ≡ false
        by true e = clash false e refl
        by false e = refl
