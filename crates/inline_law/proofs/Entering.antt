-- Inlined calls enter their callees at once in what a run keeps: calm classes are done, and receivers aren't null.
use Rattle.std.proofs.Common.{◌≡◌, ℕ, Bool, true, false, List, ◌∷◌, refl, ap, ◌∙◌}
use Rattle.std.specs.Prelude.{Some, map}
use Rattle.insn_set.specs.declared.ops.InvokeKind.{InvokeKind}
use Rattle.insn_set.specs.declared.ops.InvokeKind.TheVariants as call
use Rattle.dalvik_defs.specs.Names.{Text}
use Rattle.dalvik_defs.specs.Flags.{is_static}
use Rattle.dalvik_defs.specs.Find.{Found, Finds}
use Rattle.dalvik_defs.specs.Face.{Bodies, is_defined, face_of, bodies_of}
use Rattle.dalvik_defs.specs.Outer.{Outer}
use Rattle.dalvik_defs.specs.Quiet.{quiet_within, calm_opening}
use Rattle.dalvik_defs.specs.Shown.{Fit, SameShown}
use Rattle.dalvik_defs.specs.State.{World, Classes, State, On, Done, is_null}
use Rattle.dalvik_defs.specs.declared.state.Value.{Value}
use Rattle.dalvik_defs.specs.declared.state.Frame.{Frame}
use Rattle.dalvik_defs.specs.declared.state.Waiting.{Waiting}
use Rattle.dalvik_defs.specs.declared.state.Waiting.TheVariants.{Method}
use Rattle.dalvik_defs.specs.Effect.{register}
use Rattle.dalvik_defs.specs.Outcome.{Outcome, Enters, Ready, need_if, need_of, faults, when_ready, calls_uncoded, calls_found, calls_by, receiver, outcome}
use Rattle.dalvik_defs.specs.Known.{null_pointer}
use Rattle.dalvik_defs.specs.Stack.{form_at as form_here}
use Rattle.dalvik_defs.specs.Happens.{Setting, effect_of}
use Rattle.dalvik_defs.specs.Step.{setting_of}
use Rattle.dalvik_defs.specs.declared.names.MethodKey.{MethodKey}
use Rattle.dalvik_defs.specs.declared.forms.Form.{Form}
use Rattle.dalvik_defs.specs.declared.forms.Form.TheVariants as form
use Rattle.dalvik_defs.specs.declared.script.Move.{Move}
use Rattle.dalvik_defs.specs.declared.program.NamedProgram.{NamedProgram}
use Rattle.dalvik_defs.specs.declared.tables.Framework.{Framework}
use Rattle.dalvik_defs.specs.declared.tables.Floats.{Floats}
use Rattle.dalvik_defs.proofs.Calm.{IsCalm, CalmState, calm_start, calm_keeps, calm_done}
use Rattle.dalvik_defs.proofs.Quiet.{quiet_calm}
use Rattle.dalvik_defs.proofs.Frames.{now}
use Rattle.pass_defs.specs.Inlined.{Callee}
use Rattle.inline_law.specs.Inlining.{Sites, AreInlined}
use Rattle.inline_law.specs.Entered.{Enterable, Statically, Directly, AreEnterable, FactsHold}
use Rattle.inline_law.proofs.Inlining.{CallsEnter, inlined_shown}

module _ (s : Setting) (find : Bodies) (w : World) (c : Classes) (f : Frame) where
  ready_done : (t : Text) → c t ≡ Done → need_of s.face c t ≡ Ready
  ready_done t e = ap (need_if (is_defined s.face t)) e ∙ by (is_defined s.face t)
    where
      by : (b : Bool) → need_if b Done ≡ Ready
      by true = refl
      by false = refl

  found_enters : (kind : InvokeKind) (g : Found) (vs : List Value) → g.coded ≡ true → calls_found kind g vs w ≡ Enters g.key vs
  found_enters kind g vs e = ap (λ b. elim b as (λ b. Outcome) [ true ↦ Enters g.key vs | false ↦ calls_uncoded kind g vs w ]) e

  enters_static : (k : MethodKey) (g : Found) (args : List ℕ) → form_here find f ≡ Some (form.Invoke call.Static k args) → s.face.statically k ≡ Finds g → g.coded ≡ true → is_static g.flags ≡ true → c g.key.class ≡ Done
      → now s find w c f ≡ Enters g.key (map (register f) args)
  enters_static k g args h e d i j =
      let vs : List Value = map (register f) args in
      ap (λ y. outcome s.face (need_of s.face c) (effect_of s y w f) w f) h
      ∙ ap (calls_by (need_of s.face c) call.Static k vs w f) e
      ∙ ap (λ b. elim b as (λ b. Outcome) [ true ↦ when_ready (need_of s.face c g.key.class) w g.key.class (calls_found call.Static g vs w) | false ↦ calls_found call.Static g vs w ]) i
      ∙ ap (λ n. when_ready n w g.key.class (calls_found call.Static g vs w)) (ready_done g.key.class j)
      ∙ found_enters call.Static g vs d

  enters_direct : (k : MethodKey) (g : Found) (args : List ℕ) → form_here find f ≡ Some (form.Invoke call.Direct k args) → s.face.statically k ≡ Finds g → g.coded ≡ true → is_static g.flags ≡ false
      → is_null (receiver (map (register f) args)) ≡ false → now s find w c f ≡ Enters g.key (map (register f) args)
  enters_direct k g args h e d i j =
      let vs : List Value = map (register f) args in
      ap (λ y. outcome s.face (need_of s.face c) (effect_of s y w f) w f) h
      ∙ ap (λ b. elim b as (λ b. Outcome) [ true ↦ faults w null_pointer | false ↦ calls_by (need_of s.face c) call.Direct k vs w f (s.face.statically k) ]) j
      ∙ ap (calls_by (need_of s.face c) call.Direct k vs w f) e
      ∙ ap (λ b. elim b as (λ b. Outcome) [ true ↦ when_ready (need_of s.face c g.key.class) w g.key.class (calls_found call.Direct g vs w) | false ↦ calls_found call.Direct g vs w ]) i
      ∙ found_enters call.Direct g vs d

module _ (s : Setting) (find : Bodies) (sites : Sites) (calm : Text → Bool) (is : IsCalm s calm) (I : State → Type 0) (facts : FactsHold s find sites I)
    (enterable : AreEnterable s.face find calm sites) where
  abbrev pub Known : State → Type 0
  Known t = CalmState s find calm is t × I t

  pub calls_enter : CallsEnter s find sites Known
  calls_enter = record {
    calls = λ w c f rest script y i e. let x = enterable f y e in by w c f rest script y i e x.0 x.1.0 x.1.1;
    wholes = λ w c h f rest script y t from i e. facts.wholes w c h f rest script y t from i.1 e;
    keeps = λ t i. (calm_keeps s find calm is t i.0, facts.keeps t i.1);
  }
    where
      by : (w : World) (c : Classes) (f : Frame) (rest : List Waiting) (script : List Move) (y : Callee) → Known (On w c (Method f ∷ rest) script) → sites f.method f.position ≡ Some y
          → (x : Form) → form_here find f ≡ Some x → Enterable s.face calm y x → now s find w c f ≡ Enters y.key (map (register f) y.args)
      by w c f rest script y i e _ h (Statically k g d same coded st cl) = enters_static s find w c f k g y.args h d coded st (calm_done s find calm is w c (Method f ∷ rest) script i.0 g.key.class cl) ∙ ap (λ z. Enters z (map (register f) y.args)) same
      by w c f rest script y i e _ h (Directly k g d same coded st) = enters_direct s find w c f k g y.args h d coded st (facts.receivers w c f rest script y k i.1 e h) ∙ ap (λ z. Enters z (map (register f) y.args)) same

-- the law of inlining with facts
pub facts_shown : (p q : NamedProgram) (o : Outer) (need : MethodKey → ℕ → ℕ → Type 0) (sites : Sites) (level : ℕ) (I : Framework → Floats → List Move → State → Type 0)
    → ((f : Framework) → face_of p f ≡ face_of q f)
    → ((k : MethodKey) → AreInlined (bodies_of p) need k (sites k) (bodies_of p k) (bodies_of q k))
    → ((f : Framework) → AreEnterable (face_of p f) (bodies_of p) (quiet_within (face_of p f) level) sites)
    → ((f : Framework) (a : Floats) (script : List Move) → Fit p o f script → FactsHold (setting_of p o f a) (bodies_of p) sites (I f a script) × I f a script (calm_opening (quiet_within (face_of p f) level) script))
    → SameShown p q o
facts_shown p q o need sites level I face inlined enterable facts = inlined_shown p q o need sites (λ f. quiet_within (face_of p f) level)
    (λ f a script t. CalmState (setting_of p o f a) (bodies_of p) (quiet_within (face_of p f) level) (quiet_calm (setting_of p o f a) level) t × I f a script t) face inlined
    (λ f a. quiet_calm (setting_of p o f a) level)
    (λ f a script h. let k = facts f a script h in (
      calls_enter (setting_of p o f a) (bodies_of p) sites (quiet_within (face_of p f) level) (quiet_calm (setting_of p o f a) level) (I f a script) k.0 (enterable f),
      (calm_start (setting_of p o f a) (bodies_of p) (quiet_within (face_of p f) level) (quiet_calm (setting_of p o f a) level) script, k.1),
    ))
