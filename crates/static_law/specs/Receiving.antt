-- What facts say of the receivers of calls (this project's profile).
use Rattle.std.specs.Prelude.{◌≡◌, ℕ, suc, Bool, true, false, List, ◌∷◌, Some, length}
use Rattle.insn_set.specs.declared.ops.InvokeKind.{InvokeKind}
use Rattle.dalvik_defs.specs.Effect.{register}
use Rattle.dalvik_defs.specs.Face.{face_of, bodies_of}
use Rattle.dalvik_defs.specs.Find.{Found, resolves_method}
use Rattle.dalvik_defs.specs.Outer.{Outer}
use Rattle.dalvik_defs.specs.Quiet.{quiet_within, calm_opening}
use Rattle.dalvik_defs.specs.State.{World, Classes, On, is_null}
use Rattle.dalvik_defs.specs.Step.{after, setting_of}
use Rattle.dalvik_defs.specs.declared.forms.Form.TheVariants as form
use Rattle.dalvik_defs.specs.declared.names.MethodKey.{MethodKey}
use Rattle.dalvik_defs.specs.declared.program.NamedBody.{NamedBody}
use Rattle.dalvik_defs.specs.declared.program.NamedProgram.{NamedProgram}
use Rattle.dalvik_defs.specs.declared.script.Move.{Move}
use Rattle.dalvik_defs.specs.declared.state.Frame.{Frame}
use Rattle.dalvik_defs.specs.declared.state.Waiting.{Waiting}
use Rattle.dalvik_defs.specs.declared.state.Waiting.TheVariants.{Method}
use Rattle.dalvik_defs.specs.declared.tables.Floats.{Floats}
use Rattle.dalvik_defs.specs.declared.tables.Framework.{Framework}
use Rattle.pass_defs.specs.Loose.{HasReceiver}
use Rattle.pass_defs.specs.Walks.{form_at}

-- Registers that facts know as not null at a position of a method hold no null there, in the states of a run that begins with
-- the calm classes done.
abbrev pub HoldNoNull : NamedProgram → Outer → (MethodKey → ℕ → ℕ → Type 0) → Framework → Floats → List Move → Type 0
HoldNoNull p o not_null f a script = (n : ℕ) (w : World) (c : Classes) (g : Frame) (rest : List Waiting) (s : List Move) (r : ℕ)
    → after (setting_of p o f a) (bodies_of p) (calm_opening (quiet_within (face_of p f) (suc (length p.classes))) script) n ≡ On w c (Method g ∷ rest) s
    → not_null g.method g.position r → is_null (register g r) ≡ false

-- each call that resolves to a loose method has a receiver that facts know as not null
abbrev pub KnowsReceivers : NamedProgram → (MethodKey → Bool) → (MethodKey → ℕ → ℕ → Type 0) → Type 0
KnowsReceivers p loose not_null = (caller : MethodKey) (b : NamedBody) (n : ℕ) (kind : InvokeKind) (k : MethodKey) (args : List ℕ) (h : Found)
    → bodies_of p caller ≡ Some b → form_at b n ≡ Some (form.Invoke kind k args) → resolves_method p k ≡ Some h → loose h.key ≡ true → HasReceiver not_null caller n kind args
