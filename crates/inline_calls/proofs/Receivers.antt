-- What facts say of a receiver, and what is known where a call enters at once.
use Rattle.std.proofs.Common.{◌≡◌, ℕ, Bool, true, false, refl, sym, ap, ◌∙◌, subst, min, Option, Some, None, ◌↔◌}
use Rattle.std.proofs.lemmas.Bool.{true≢false}
use Rattle.insn_set.specs.declared.form.Insn.{Insn}
use Rattle.program_model.specs.MemberRules.{has_flag}
use Rattle.program_model.specs.declared.program.Method.{Method}
use Rattle.domains.specs.Datum.{Plain, Single}
use Rattle.domains.specs.Values.{Parts, value_holds}
use Rattle.dom_frame.specs.declared.frames.Frame.{Frame}
use Rattle.dom_frame.specs.Registers.{value_at}
use Rattle.facts.specs.Lent.{frame_at}
use Rattle.facts.specs.declared.facts.Facts.{Facts}
use Rattle.inline_calls.specs.declared.site.Known.{Known}
use Rattle.inline_calls.specs.Candidates.{KnowsReceiver, EntersAtOnce, starts_trivially, receiver_in}

module _ (facts : Facts) (method n r : ℕ) where
  module _ (f : Frame) (here : Some f ≡ frame_at facts.frames.items method n) (v : Parts) (is : v ≡ value_at f.registers r) (t : Bool) (means : (t ≡ true) ↔ (value_holds v (Plain (Single 0)) → ⊥)) where
    pub knows_by : t ≡ true → KnowsReceiver facts method n r
    knows_by e = record {
      frame = f;
      here = sym here;
      never_null = subst (λ (w : Parts). value_holds w (Plain (Single 0)) → ⊥) is (means.0 e);
    }

    pub unknown_by : t ≡ false → KnowsReceiver facts method n r → ⊥
    unknown_by e k =
        let same : Some k.frame ≡ Some f = sym k.here ∙ sym here in
        let v' : k.frame ≡ f = cc same in
        let never : value_holds v (Plain (Single 0)) → ⊥ = subst (λ (w : Parts). value_holds w (Plain (Single 0)) → ⊥) (sym is) (subst (λ (g : Frame). value_holds (value_at g.registers r) (Plain (Single 0)) → ⊥) v' k.never_null) in
        true≢false (sym (means.1 never) ∙ e)

  pub unknown_none : None ≡ frame_at facts.frames.items method n → KnowsReceiver facts method n r → ⊥
  unknown_none here k =
      let same : None ≡ Some k.frame = here ∙ k.here in
      absurd (cc same)

module _ (k : Known) (m : Method) (n : ℕ) (i : Insn) (callee : Method) (class : ℕ) (s t : Bool) (flag : s ≡ has_flag callee.flags 8) where
  module _ (e : s ≡ true) (trivial : t ≡ starts_trivially k.hierarchy.now class) where
    pub enters_static : t ≡ true → EntersAtOnce k m n i callee class
    enters_static starts = record {
      static = λ h. sym trivial ∙ starts;
      direct = λ h. absurd (true≢false (sym e ∙ flag ∙ h));
    }

    pub late_static : t ≡ false → EntersAtOnce k m n i callee class → ⊥
    late_static waits is = true≢false (sym (is.static (sym flag ∙ e)) ∙ sym trivial ∙ waits)

  module _ (e : s ≡ false) where
    pub enters_direct : KnowsReceiver k.facts.now m.name (min n 4294967295) (receiver_in i) → EntersAtOnce k m n i callee class
    enters_direct known = record {
      static = λ h. absurd (true≢false (sym h ∙ sym flag ∙ e));
      direct = λ h. known;
    }

    pub late_direct : (KnowsReceiver k.facts.now m.name (min n 4294967295) (receiver_in i) → ⊥) → EntersAtOnce k m n i callee class → ⊥
    late_direct unknown is = unknown (is.direct (sym flag ∙ e))
