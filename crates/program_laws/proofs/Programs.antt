-- The law of renamed methods for programs, in runs that begin with the calm classes done.
use Rattle.std.proofs.Common.{◌≡◌, ℕ, zero, suc, Bool, true, false, List, ◌∷◌, Some, refl, sym, ap, ◌∙◌, subst}
use std.Path.{fun_ext}
use Rattle.std.specs.Prelude.{◌&&◌, map, is_none}
use Rattle.std.specs.List.{list_all}
use Rattle.std.specs.Option.{option_map}
use Rattle.insn_set.specs.declared.ops.InvokeKind.{InvokeKind}
use Rattle.dalvik_defs.specs.Names.{Text}
use Rattle.dalvik_defs.specs.Face.{Face, face_of, bodies_of, is_defined}
use Rattle.dalvik_defs.specs.Outer.{Outer}
use Rattle.dalvik_defs.specs.State.{World, Classes, Status, Done, State, On, is_null, kind_of}
use Rattle.dalvik_defs.specs.declared.state.Frame.{Frame}
use Rattle.dalvik_defs.specs.declared.state.Waiting.{Waiting}
use Rattle.dalvik_defs.specs.declared.state.Waiting.TheVariants.{Method}
use Rattle.dalvik_defs.specs.Effect.{register}
use Rattle.dalvik_defs.specs.Outcome.{Ready, need_if, need_of, receiver}
use Rattle.dalvik_defs.specs.Stack.{form_at}
use Rattle.dalvik_defs.specs.Quiet.{quiet_within, calm_opening}
use Rattle.dalvik_defs.specs.Step.{step, setting_of}
use Rattle.dalvik_defs.specs.Shown.{Fit, SameShown}
use Rattle.dalvik_defs.specs.declared.names.MethodKey.{MethodKey}
use Rattle.dalvik_defs.specs.declared.forms.Form.TheVariants as form
use Rattle.dalvik_defs.specs.declared.script.Move.{Move}
use Rattle.dalvik_defs.specs.declared.program.NamedProgram.{NamedProgram}
use Rattle.dalvik_defs.specs.declared.tables.Framework.{Framework}
use Rattle.dalvik_defs.specs.declared.tables.Floats.{Floats}
use Rattle.dalvik_defs.proofs.Calm.{IsCalm, CalmState, calm_start, calm_keeps, calm_done}
use Rattle.dalvik_defs.proofs.Quiet.{quiet_calm}
use Rattle.program_laws.specs.Renames.{state_named, Edit, body_edited, Finding, finding_of, face_with, setting_with, CallAlike}
use Rattle.program_laws.proofs.Along.{StepsAlong, same_along}
use Rattle.program_laws.proofs.Renaming.{DeclaredAlike, KeysAlike, renamed_along}
use Rattle.program_laws.proofs.Calls.{calls_alike}

-- ---- classes that are done are ready

done_ready : (b : Bool) (s : Status) → s ≡ Done → need_if b s ≡ Ready
done_ready true s e = ap (need_if true) e
done_ready false s e = refl

-- ---- what comes first is the same, however methods are found

quiet_same : (face : Face) (x : Finding) (n : ℕ) → quiet_within (face_with face x) n ≡ quiet_within face n
quiet_same face x zero = refl
quiet_same face x (suc n) = fun_ext (λ t. ap (λ h. is_none (face.initialiser t) && list_all h (face.first t)) (quiet_same face x n))

pub record ProgramsAlike (rename : MethodKey → MethodKey) (edit : Edit) (p q : NamedProgram) (o : Outer) (f : Framework) : Type 0 where
  pub face : face_of q f ≡ face_with (face_of p f) (finding_of (face_of q f))
  pub class : (k : MethodKey) → (rename k).class ≡ k.class
  pub result : (k : MethodKey) → (rename k).signature.result ≡ k.signature.result
  pub bodies : (k : MethodKey) → bodies_of q (rename k) ≡ option_map (body_edited edit) (bodies_of p k)
  pub initialisers : (t : Text) (k : MethodKey) → (face_of p f).initialiser t ≡ Some k → rename k ≡ k

-- what the framework may enter, what a run keeps, and what it says of calls
pub record FactsHold (rename : MethodKey → MethodKey) (edit : Edit) (p q : NamedProgram) (o : Outer) (f : Framework) (a : Floats) (calm : Text → Bool) (script : List Move) (J : State → Type 0) : Type 0 where
  pub start : J (calm_opening calm script)
  pub declared : (t n x : Text) → DeclaredAlike rename (face_of p f) (face_with (face_of p f) (finding_of (face_of q f))) o ((face_of p f).declared t n x) ((face_of q f).declared t n x)
  pub keeps : (t : State) → J t → J (step (setting_of p o f a) (bodies_of p) t).0
  pub calls : (w : World) (c : Classes) (g : Frame) (rest : List Waiting) (s : List Move) (kind : InvokeKind) (k : MethodKey) (args : List ℕ)
      → J (On w c (Method g ∷ rest) s) → form_at (bodies_of p) g ≡ Some (form.Invoke kind k args)
      → CallAlike rename (face_of p f) (face_with (face_of p f) (finding_of (face_of q f))) (λ t. calm t ≡ true) g.method.class kind (kind_of w (receiver (map (register g) args))) (is_null (receiver (map (register g) args))) k (edit kind k)

module _ (rename : MethodKey → MethodKey) (edit : Edit) (p q : NamedProgram) (o : Outer) (level : ℕ) (J : Framework → Floats → List Move → State → Type 0) where
  abbrev calm : Framework → Text → Bool
  calm f = quiet_within (face_of p f) level

  abbrev Kept : Framework → Floats → List Move → State → Type 0
  Kept f a script t = CalmState (setting_of p o f a) (bodies_of p) (calm f) (quiet_calm (setting_of p o f a) level) t × J f a script t

  abbrev found : Framework → Finding
  found f = finding_of (face_of q f)

  module _ (alike : (f : Framework) → ProgramsAlike rename edit p q o f) where
    setting_same : (f : Framework) (a : Floats) → setting_with (setting_of p o f a) (found f) ≡ setting_of q o f a
    setting_same f a = ap (λ x. record (setting_of p o f a) { face = x }) (sym ((alike f).face))

    calm_other : (f : Framework) (a : Floats) → IsCalm (setting_of q o f a) (calm f)
    calm_other f a = subst (λ x. IsCalm (setting_of q o f a) x)
        (ap (λ x. quiet_within x level) ((alike f).face) ∙ quiet_same (face_of p f) (found f) level)
        (quiet_calm (setting_of q o f a) level)

    keys : (f : Framework) (a : Floats) (script : List Move) → FactsHold rename edit p q o f a (calm f) script (J f a script)
        → KeysAlike rename edit (setting_of p o f a) (found f) (bodies_of p) (bodies_of q) (Kept f a script)
    keys f a script facts = record {
      result = (alike f).result;
      bodies = (alike f).bodies;
      initialisers = (alike f).initialisers;
      declared = facts.declared;
      calls = λ w c g rest s kind k args j e. calls_alike rename w g (need_of (face_of p f) c) (face_of p f) (face_with (face_of p f) (found f)) ((alike f).class) kind k (map (register g) args) (edit kind k) (λ t. calm f t ≡ true)
          (λ t i. done_ready (is_defined (face_of p f) t) (c t) (calm_done (setting_of p o f a) (bodies_of p) (calm f) (quiet_calm (setting_of p o f a) level) w c (Method g ∷ rest) s j.0 t i))
          (facts.calls w c g rest s kind k args j.1 e);
      keeps = λ t j. (calm_keeps (setting_of p o f a) (bodies_of p) (calm f) (quiet_calm (setting_of p o f a) level) t j.0, facts.keeps t j.1);
    }

    along : (f : Framework) (a : Floats) (script : List Move) → FactsHold rename edit p q o f a (calm f) script (J f a script)
        → StepsAlong (setting_of p o f a) (bodies_of p) (setting_of q o f a) (bodies_of q) (state_named rename) (Kept f a script)
    along f a script facts = subst (λ s. StepsAlong (setting_of p o f a) (bodies_of p) s (bodies_of q) (state_named rename) (Kept f a script)) (setting_same f a)
        (renamed_along rename edit (setting_of p o f a) (found f) (bodies_of p) (bodies_of q) (Kept f a script) (keys f a script facts))

    -- the law of renamed methods for programs
    pub renamed_shown : ((f : Framework) (a : Floats) (script : List Move) → Fit p o f script → FactsHold rename edit p q o f a (calm f) script (J f a script)) → SameShown p q o
    renamed_shown facts = same_along p q o calm (λ f a. state_named rename) Kept
        (λ f a. quiet_calm (setting_of p o f a) level) calm_other (λ f a script. refl)
        (λ f a script h. along f a script (facts f a script h))
        (λ f a script h. (calm_start (setting_of p o f a) (bodies_of p) (calm f) (quiet_calm (setting_of p o f a) level) script, (facts f a script h).start))
