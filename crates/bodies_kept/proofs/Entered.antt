-- No typed body begins with a MoveException, since nothing is caught at its entry.
use Rattle.std.proofs.Common.{◌≡◌, ℕ, zero, suc, ◌<◌, Bool, true, false, true≢false, List, [], ◌∷◌, length, refl, sym, ap, ◌∙◌, subst, arith}
use Rattle.std.specs.Prelude.{◌&&◌, not, Option, Some, None, slice_get}
use Rattle.std.specs.List.{list_all}
use Rattle.lemmas.proofs.Bools.{and_right}
use Rattle.dalvik_defs.specs.declared.forms.Form.{Form}
use Rattle.dalvik_defs.specs.declared.forms.Form.TheVariants as form
use Rattle.dalvik_defs.specs.declared.program.NamedBody.{NamedBody}
use Rattle.dalvik_defs.specs.declared.program.NamedMethod.{NamedMethod}
use Rattle.dalvik_defs.specs.declared.program.NamedClass.{NamedClass}
use Rattle.dalvik_defs.specs.declared.program.NamedProgram.{NamedProgram}
use Rattle.pass_defs.specs.Kinds.{Kind, Undefined, is_initialised, is_below}
use Rattle.pass_defs.specs.Registers.{Kinds, all_below, kinds_below, state_below}
use Rattle.pass_defs.specs.Demands.{meets, demands, place_allowed, is_allowed}
use Rattle.pass_defs.specs.Typed.{begun, Table, state_at, each, at_state, IsTyping}
use Rattle.pass_defs.specs.Walks.{form_at}
use Rattle.program_laws.proofs.ChangedLists.{and_left}

first_of : (n : ℕ) (test : ℕ → Bool) → each (suc n) test ≡ true → test 0 ≡ true
first_of zero test e = and_right true (test 0) e
first_of (suc n) test e = first_of n test (and_left (each (suc n) test) (test (suc n)) e)

-- nothing initialised is above what is undefined
undefined_low : (p : NamedProgram) (k : Kind) → is_below p Undefined k ≡ true → is_initialised k ≡ true → ⊥
undefined_low p Undefined e d = absurd (true≢false (sym d))
undefined_low p k e d = absurd (cc)

module _ (p : NamedProgram) (c : NamedClass) (m : NamedMethod) (b : NamedBody) (t : Table) (typing : IsTyping p c m b t) where
  entered : (to : ℕ) (fs : List Form) → b.forms ≡ form.MoveException to ∷ fs → (o : Option Kinds) → state_at t 0 ≡ o → ⊥
  entered to fs e None d = absurd (true≢false (sym typing.entry ∙ ap (state_below p (Some (begun p c m b))) d))
  entered to fs e (Some a) d =
      let low : kinds_below p (begun p c m b) a ≡ true = sym (ap (state_below p (Some (begun p c m b))) d) ∙ typing.entry in
      let caught : is_below p Undefined a.caught ≡ true = and_right (all_below p (begun p c m b).registers a.registers && is_below p (begun p c m b).result a.result) (is_below p Undefined a.caught)
      (and_left (all_below p (begun p c m b).registers a.registers && is_below p (begun p c m b).result a.result && is_below p Undefined a.caught) (is_below p (begun p c m b).receiver a.receiver) low) in
      let here : form_at b 0 ≡ Some (form.MoveException to) = ap (λ (l : List Form). slice_get l 0) e in
      let test : at_state b t (λ f a. is_allowed p c m a f) 0 ≡ true = first_of (length fs) (at_state b t (λ f a. is_allowed p c m a f)) (subst (λ (l : List Form). each (length l) (at_state b t (λ f a. is_allowed p c m a f)) ≡ true) e typing.reads) in
      let allowed : is_allowed p c m a (form.MoveException to) ≡ true =
      sym (ap (λ (o : Option Form). elim o as (λ o. Bool) [ Some f ↦ elim (state_at t 0) as (λ o. Bool) [ Some a ↦ is_allowed p c m a f | None ↦ true ] | None ↦ true ]) here
      ∙ ap (λ (o : Option Kinds). elim o as (λ o. Bool) [ Some a ↦ is_allowed p c m a (form.MoveException to) | None ↦ true ]) d) ∙ test in
      undefined_low p a.caught caught (and_left (place_allowed a (form.MoveException to)) (list_all (λ d. meets p c a.registers d.0 d.1) (demands p c m a.registers (form.MoveException to))) allowed)

  pub no_entry : (to : ℕ) → form_at b 0 ≡ Some (form.MoveException to) → ⊥
  no_entry to e = by b.forms refl e
    where
      by : (fs : List Form) → b.forms ≡ fs → slice_get fs 0 ≡ Some (form.MoveException to) → ⊥
      by [] d h = absurd (cc)
      by (f ∷ fs) d h = entered to fs (d ∙ ap (λ (x : Form). x ∷ fs) (let s : ◌≡◌ {A = Option Form} (Some f) (Some (form.MoveException to)) = h in cc)) (state_at t 0) refl
