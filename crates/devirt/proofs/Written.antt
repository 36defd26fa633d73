-- What is written over a body is what its calls are bound to, and each call that is written weighs less.
use Rattle.std.proofs.Common.{◌≡◌, ◌⊎◌, inl, inr, ℕ, zero, suc, ◌+◌, ◌<◌, Bool, true, false, List, [], ◌∷◌, ◌++◌, length, Option, Some, None, refl, sym, ap, ◌∙◌, subst, arith, append_assoc}
use Rattle.std.specs.Prelude.{All, slice_get, option_and_then, if◌then◌else◌}
use Rattle.std.proofs.lemmas.List.Elements.{All-cons, All-nil}
use Rattle.lemmas.proofs.Options.{none_some, some_same}
use Rattle.insn_set.specs.declared.ops.InvokeKind.{InvokeKind}
use Rattle.insn_set.specs.declared.form.Insn.{Insn}
use Rattle.insn_set.specs.declared.form.Insn.TheVariants as insn
use Rattle.program_model.specs.declared.body.Body.{Body}
use Rattle.program_model.specs.declared.pools.MethodName.{MethodName}
use Rattle.program_model.specs.declared.program.MethodAt.{MethodAt}
use Rattle.program_model.specs.declared.program.Program.{Program}
use Rattle.hierarchy.specs.Ranks.{IsRanked}
use Rattle.dom_frame.specs.Registers.{value_at}
use Rattle.dom_frame.specs.declared.frames.Frame.{Frame}
use Rattle.facts.specs.Lent.{frame_at}
use Rattle.facts.specs.declared.facts.Facts.{Facts}
use Rattle.verify.specs.Typings.{Table}
use Rattle.rewrite_pass.specs.declared.edit.Edit.{Edit}
use Rattle.devirt.specs.declared.binding.Bound.{Bound}
use Rattle.devirt.specs.declared.binding.Call.{Call}
use Rattle.devirt.specs.Binding.{bound, bound_named}
use Rattle.devirt.specs.Measure.{call_weight, insn_weight, is_virtual_call}
use Rattle.devirt.specs.Rebound.{IsBound, FindsByFacts, FindsByKind, IsRebindingOf, called, call_of, classes_at, edit_at, edits_from, rebound_at, rebound_call}
use Rattle.devirt.proofs.Bound.{Reason, Places, Class, reason}
use Rattle.devirt.proofs.Falls.{falls_by}

seam_get : (pre is : List Insn) (n : ℕ) (i : Insn) → length pre ≡ n → slice_get (pre ++ i ∷ is) n ≡ Some i
seam_get [] is zero i l = refl
seam_get [] is (suc n) i l = absurd (omega (arith, l))
seam_get (x ∷ pre) is zero i l = absurd (omega (arith, l))
seam_get (x ∷ pre) is (suc n) i l = seam_get pre is n i (omega (arith, l))

longer : (pre : List Insn) (n : ℕ) (i : Insn) → length pre ≡ n → length (pre ++ i ∷ []) ≡ n + 1
longer [] zero i l = refl
longer [] (suc n) i l = absurd (omega (arith, l))
longer (x ∷ pre) zero i l = absurd (omega (arith, l))
longer (x ∷ pre) (suc n) i l = let h : length (pre ++ i ∷ []) ≡ n + 1 = longer pre n i (omega (arith, l)) in omega (arith, h)

module _ (p : Program) (r : IsRanked p) (facts : Facts) (class method : ℕ) (x : Table) where
  -- an instruction that is written over another one at a position
  pub record Rebinds (n : ℕ) (i g : Insn) : Type 0 where
    pub call : Call
    pub on : ℕ
    pub rest : List ℕ
    pub form : i ≡ insn.Invoke call.kind call.method (on ∷ rest)
    pub virtual : is_virtual_call call.kind ≡ true
    pub is_call : call ≡ call_of p facts class method x call.kind call.method n on
    pub named : MethodName
    pub is_named : slice_get p.methods call.method ≡ Some named
    pub bound : Bound
    pub reason : Reason p call named (classes_at facts method n on) bound
    pub new : g ≡ insn.Invoke bound.kind bound.method (on ∷ rest)

  calls_so : (o : Option Bound) (args : List ℕ) (g : Insn) → called o args ≡ Some g → (b : Bound) × ((o ≡ Some b) × (g ≡ insn.Invoke b.kind b.method args))
  calls_so None args g e = none_some g e
  calls_so (Some b) args g e = (b, (refl, sym (some_same (insn.Invoke b.kind b.method args) g e)))

  on_call : (n : ℕ) (kind : InvokeKind) (named on : ℕ) (rest : List ℕ) (g : Insn) → is_virtual_call kind ≡ true → rebound_call p facts class method x n kind named (on ∷ rest) ≡ Some g
      → Rebinds n (insn.Invoke kind named (on ∷ rest)) g
  on_call n kind named on rest g v e =
      let s = calls_so (bound p call classes) (on ∷ rest) g e in by s.0 (slice_get p.methods named) refl s.1.0 s.1.1
    where
      call : Call
      call = call_of p facts class method x kind named n on

      classes : Option (List ℕ)
      classes = classes_at facts method n on

      by : (b : Bound) (o : Option MethodName) → slice_get p.methods named ≡ o → bound p call classes ≡ Some b → g ≡ insn.Invoke b.kind b.method (on ∷ rest) → Rebinds n (insn.Invoke kind named (on ∷ rest)) g
      by b None i e f = none_some b (sym (ap (bound_named p call classes) i) ∙ e)
      by b (Some q) i e f = record {
        call = call;
        on = on;
        rest = rest;
        form = refl;
        virtual = v;
        is_call = refl;
        named = q;
        is_named = i;
        bound = b;
        reason = reason p call q r classes b (sym (ap (bound_named p call classes) i) ∙ e);
        new = f;
      }

  of_call : (n : ℕ) (kind : InvokeKind) (named : ℕ) (args : List ℕ) (g : Insn) → is_virtual_call kind ≡ true → rebound_call p facts class method x n kind named args ≡ Some g → Rebinds n (insn.Invoke kind named args) g
  of_call n kind named [] g v e = none_some g e
  of_call n kind named (on ∷ rest) g v e = on_call n kind named on rest g v e

  pub rebinds : (n : ℕ) (i g : Insn) → rebound_at p facts class method x n i ≡ Some g → Rebinds n i g
  rebinds n (insn.Invoke kind named args) g e = by (is_virtual_call kind) refl e
    where
      by : (b : Bool) → is_virtual_call kind ≡ b → (if b then rebound_call p facts class method x n kind named args else None) ≡ Some g → Rebinds n (insn.Invoke kind named args) g
      by true v f = of_call n kind named args g v f
      by false v f = none_some g f
  rebinds n i g e = none_some g e

  -- what it is bound to
  bound_by : (n : ℕ) (i g : Insn) (h : Rebinds n i g) → (renamed : MethodName) × ((at : MethodAt) × IsBound p h.call h.named renamed at h.bound)
  bound_by n i g h = by h.reason
    where
      by : Reason p h.call h.named (classes_at facts method n h.on) h.bound → (renamed : MethodName) × ((at : MethodAt) × IsBound p h.call h.named renamed at h.bound)
      by (Places places e f) = (f.renamed, (f.at, f.is))
      by (Class c e f) = (f.renamed, (f.at, f.is))

  pub lighter : (n : ℕ) (i g : Insn) → rebound_at p facts class method x n i ≡ Some g → insn_weight (call_weight p) g < insn_weight (call_weight p) i
  lighter n i g e =
      let h = rebinds n i g e in
      let b = bound_by n i g h in
      subst (λ (y : Insn). insn_weight (call_weight p) g < insn_weight (call_weight p) y) (sym h.form)
      (subst (λ (y : Insn). insn_weight (call_weight p) y < call_weight p h.call.kind h.call.method) (sym h.new) (falls_by p r h.call h.named b.0 b.1.0 h.bound b.1.1 h.virtual h.is_named))

  -- ---- as it is said of edits

  module _ (b : Body) where
    listed_at : (o : Option Frame) (n on : ℕ) → frame_at facts.frames.items method n ≡ o → (places : List ℕ) → option_and_then (λ (f : Frame). (value_at f.registers on).classes) o ≡ Some places
        → (f : Frame) × ((frame_at facts.frames.items method n ≡ Some f) × ((value_at f.registers on).classes ≡ Some places))
    listed_at None n on i places e = none_some places e
    listed_at (Some f) n on i places e = (f, (i, e))

    rebinding : (n : ℕ) (i g : Insn) → slice_get b.insns n ≡ Some i → Rebinds n i g → IsRebindingOf p facts x class method b n g
    rebinding n i g there h = by h.reason
      where
        made : (renamed : MethodName) (at : MethodAt) → IsBound p h.call h.named renamed at h.bound
            → FindsByFacts p facts method n h.on h.named renamed at ⊎ FindsByKind p h.call.receiver h.named renamed at → IsRebindingOf p facts x class method b n g
        made renamed at is finds = record {
          call = h.call;
          on = h.on;
          rest = h.rest;
          form = there ∙ ap Some h.form;
          virtual = h.virtual;
          caller = ap (λ (c : Call). c.caller) h.is_call;
          receiver = ap (λ (c : Call). c.receiver) h.is_call;
          named = h.named;
          is_named = h.is_named;
          renamed = renamed;
          at = at;
          bound = h.bound;
          is = is;
          finds = finds;
          new = h.new;
        }

        by : Reason p h.call h.named (classes_at facts method n h.on) h.bound → IsRebindingOf p facts x class method b n g
        by (Places places e f) =
            let l = listed_at (frame_at facts.frames.items method n) n h.on refl places e in
            made f.renamed f.at f.is (inl (record { frame = l.0; there = l.1.0; places = places; classes = l.1.1; some = f.some; finds = f.finds }))
        by (Class c e f) = made f.renamed f.at f.is (inr (record { class = c; kind = e; short = f.short; plain = f.plain; finds = f.finds }))

    abbrev Is : Edit → Type 0
    Is e = IsRebindingOf p facts x class method b e.position e.insn

    each_from : (is pre : List Insn) (n : ℕ) → length pre ≡ n → b.insns ≡ pre ++ is → All Is (edits_from p facts class method x n is)
    each_from [] pre n l e = All-nil Is
    each_from (i ∷ is) pre n l e = by (rebound_at p facts class method x n i) refl (each_from is (pre ++ i ∷ []) (n + 1) (longer pre n i l) (e ∙ sym (append_assoc pre (i ∷ []) is)))
      where
        by : (o : Option Insn) → rebound_at p facts class method x n i ≡ o → All Is (edits_from p facts class method x (n + 1) is)
            → All Is (edit_at n o ++ edits_from p facts class method x (n + 1) is)
        by None f more = more
        by (Some g) f more = All-cons Is (record { position = n; insn = g }) (edits_from p facts class method x (n + 1) is)
            (rebinding n i g (ap (λ l. slice_get l n) e ∙ seam_get pre is n i l) (rebinds n i g f)) more

    pub each_right : All Is (edits_from p facts class method x 0 b.insns)
    each_right = each_from b.insns [] 0 refl refl
