-- A call that goes leaves the registers as they were, and nobody takes its result.
use Rattle.std.proofs.Common.{◌≡◌, ℕ, suc, ◌+◌, Bool, true, false, true≢false, List, ◌∷◌, Some, refl, sym, ap, ◌∙◌}
use Rattle.lemmas.proofs.Bools.{not_true}
use Rattle.lemmas.proofs.Lists.{all_in}
use Rattle.dalvik_defs.specs.Face.{Bodies}
use Rattle.dalvik_defs.specs.State.{World, Classes, State, On}
use Rattle.dalvik_defs.specs.Happens.{Setting}
use Rattle.dalvik_defs.specs.declared.state.Frame.{Frame}
use Rattle.dalvik_defs.specs.declared.state.Waiting.{Waiting}
use Rattle.dalvik_defs.specs.declared.state.Waiting.TheVariants.{Method}
use Rattle.dalvik_defs.specs.declared.names.MethodKey.{MethodKey}
use Rattle.dalvik_defs.specs.declared.forms.Form.{Form}
use Rattle.dalvik_defs.specs.declared.forms.Form.TheVariants as form
use Rattle.dalvik_defs.specs.declared.script.Move.{Move}
use Rattle.dalvik_defs.specs.declared.program.NamedBody.{NamedBody}
use Rattle.insn_set.specs.declared.ops.Slot.{Slot}
use Rattle.insn_set.specs.declared.ops.InvokeKind.{InvokeKind}
use Rattle.pass_defs.specs.Bare.{writes}
use Rattle.pass_defs.specs.Quiet.{takes_result}
use Rattle.pass_defs.specs.Walks.{form_at, onward, caught}
use Rattle.program_laws.specs.Results.{gives_result, takes_none, TakesInPlace}
use Rattle.program_laws.proofs.Agree.{agree_refl}
use Rattle.thin_laws.specs.Cleaning.{IsTaken, Takes, Leads, Catches}
use Rattle.thin_laws.proofs.Thinning.{Leaps}
use Rattle.thin_laws.specs.Calls.{Rank, EntersQuietly, Gone, QuietRuns}
use Rattle.thin_laws.proofs.Gliding.{given, behind, ComesBack, comes_back}

-- ---- the registers

pub call_leaps : (s : Setting) (find : Bodies) (quiet : MethodKey → Type 0) (rank : Rank) (gone spare : Gone) (I : State → Type 0) (runs : QuietRuns s find quiet rank gone spare I)
    (w : World) (c : Classes) (f : Frame) (rest : List Waiting) (script : List Move) (kind : InvokeKind) (k : MethodKey) (args : List ℕ)
    → I (On w c (Method f ∷ rest) script) → gone f.method f.position → Leaps s find w c f (form.Invoke kind k args) (f.position + 1)
call_leaps s find quiet rank gone spare I runs w c f rest script kind k args i g =
    let b = comes_back s find quiet rank gone spare I runs w c f rest script i (runs.enters w c f rest script i g) in
    record {
      registers = f.registers;
      result = given b.value;
      steps = b.steps;
      glides = b.glides;
      kept = λ e. absurd (true≢false e);
      others = agree_refl (λ r. writes (form.Invoke kind k args) r ≡ false) f.registers;
    }

-- ---- the result

-- where no MoveResult stands, none is come to before another result is given
pub untaken : (b : NamedBody) → TakesInPlace b → (n : ℕ) → takes_result (form_at b n) ≡ false → IsTaken b n → ⊥
untaken b h n e (Takes _ to s g) = true≢false (sym (ap takes_result g) ∙ e)
untaken b h n e (Leads _ m f g r c t) = untaken b h m (not_true (takes_result (form_at b m)) (all_in (takes_none b) (onward f n) m c (h.onward n f g r))) t
untaken b h n e (Catches _ m f g c t) = untaken b h m (not_true (takes_result (form_at b m)) (all_in (takes_none b) (caught b f n) m c (h.caught n f g))) t
