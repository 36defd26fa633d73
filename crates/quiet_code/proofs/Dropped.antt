-- Nops that are written over the instructions of a body.
use Rattle.std.proofs.Common.{◌≡◌, ◌↔◌, ℕ, zero, suc, ◌+◌, ◌<◌, ◌≤◌, Bool, true, false, List, [], ◌∷◌, ◌++◌, length, Option, Some, None, refl, sym, ap, ◌∙◌, subst, arith}
use Rattle.std.specs.Prelude.{All, slice_get}
use Rattle.std.proofs.lemmas.Bool.{false≢true}
use Rattle.std.proofs.lemmas.List.{append-nil}
use Rattle.std.proofs.Common.{Result, Ok, Err}
use Rattle.std.specs.Prelude.{IfOk}
use Rattle.std.proofs.lemmas.List.Elements.{All-nil, All-push}
use Rattle.lemmas.proofs.Bools.{clash}
use Rattle.insn_set.specs.declared.form.Insn.{Insn}
use Rattle.insn_set.specs.declared.form.Insn.TheVariants.{Nop}
use Rattle.program_model.specs.declared.body.Body.{Body}
use Rattle.program_model.specs.declared.program.Method.{Method}
use Rattle.program_model.specs.declared.program.Program.{Program}
use Rattle.live_regs.specs.declared.table.Live.{Live}
use Rattle.facts.specs.Lent.{frame_at}
use Rattle.rewrite_pass.specs.declared.edit.Edit.{Edit}
use Rattle.quiet_code.specs.Quiet.{may_go, IsDropped, AreDropped, nop_if}
use Rattle.quiet_code.specs.Idle.{IsIdle, LiveIn, does_nothing_at, is_small}
use Rattle.quiet_code.specs.Quieted.{Frames, nops_upto, AreNops}
use Rattle.quiet_code.proofs.Found.{nothing_is}

-- one position more
pub dropped_more : (b : Body) (es fs : List Edit) (n : ℕ) (f : Insn) (quiet : Bool) → slice_get b.insns n ≡ Some f → AreDropped b es → (quiet ≡ true → may_go f ≡ true) → fs ≡ es ++ nop_if quiet n → AreDropped b fs
dropped_more b es fs n f false there h r s = subst (AreDropped b) (sym (s ∙ append-nil es)) h
dropped_more b es fs n f true there h r s =
    let at : IsDropped b (record { position = n; insn = Nop }) = record { form = f; there = there; may = r refl; nop = refl } in
    subst (AreDropped b) (sym s) (All-push (IsDropped b) es (record { position = n; insn = Nop }) h at)

pub nops_more : (idle : ℕ → Bool) (es fs : List Edit) (n : ℕ) (quiet : Bool) → es ≡ nops_upto idle n → quiet ≡ idle n → fs ≡ es ++ nop_if quiet n → fs ≡ nops_upto idle (n + 1)
nops_more idle es fs n quiet e q s =
    let more : suc n ≡ n + 1 = omega arith in
    s ∙ ap (λ l. l ++ nop_if quiet n) e ∙ ap (λ t. nops_upto idle n ++ nop_if t n) q ∙ ap (nops_upto idle) more

none_upto : (k : ℕ) → nops_upto (λ n. false) k ≡ []
none_upto zero = refl
none_upto (suc k) = ap (λ l. l ++ []) (none_upto k)

-- what is written over a body
pub nops_written : (p : Program) (quiet : List Bool) (frames : Frames) (m : Method) (b : Body) (live : Option Live) (es : List Edit) → is_small b ≡ true → LiveIn b live
    → es ≡ nops_upto (λ n. does_nothing_at p quiet (frame_at frames m.name) live b n (slice_get b.insns n)) (length b.insns) → AreNops p quiet frames m b es
nops_written p quiet frames m b live es small is e = record {
  idle = λ n. does_nothing_at p quiet (frame_at frames m.name) live b n (slice_get b.insns n);
  are_idle = λ n i at.
      (let same : does_nothing_at p quiet (frame_at frames m.name) live b n (slice_get b.insns n) ≡ does_nothing_at p quiet (frame_at frames m.name) live b n (Some i) = ap (does_nothing_at p quiet (frame_at frames m.name) live b n) at in
      let w = nothing_is p quiet (frame_at frames m.name n) b n live is i at in
      ((λ h. record { small = small; nothing = w.0 (sym same ∙ h) }), (λ x. same ∙ w.1 x.nothing)));
  edits = e;
  live = live;
  live_in = λ s. is;
}

-- a body that is too large is left alone
pub nops_none : (p : Program) (quiet : List Bool) (frames : Frames) (m : Method) (b : Body) (es : List Edit) → is_small b ≡ false → es ≡ [] → AreNops p quiet frames m b es
nops_none p quiet frames m b es large e = record {
  idle = λ n. false;
  are_idle = λ n i at. ((λ h. absurd (false≢true h)), (λ x. clash (is_small b) x.small large));
  edits = e ∙ sym (none_upto (length b.insns));
  live = None;
  live_in = λ small. clash (is_small b) small large;
}

pub none_dropped : (b : Body) (es : List Edit) → es ≡ [] → AreDropped b es
none_dropped b es e = subst (AreDropped b) (sym e) (All-nil (IsDropped b))

-- two facts about what was answered, of which one has a condition
pub both_ok : {T E : Type 0} (r : Result T E) (P Q S : T → Type 0) (B : Type 0) → ((v : T) → P v → (B → Q v) → S v) → IfOk r P → (B → IfOk r Q) → IfOk r S
both_ok (Ok v) P Q S B h p q = h v p q
both_ok (Err e) P Q S B h p q = tt
