-- Calls that enter their callees at once, and what is known of the states of a run.
use Rattle.std.specs.Prelude.{◌≡◌, ℕ, ◌+◌, Bool, true, false, List, ◌∷◌, Option, Some, None, map}
use Rattle.insn_set.specs.Widths.{is_wide_slot}
use Rattle.insn_set.specs.declared.ops.Slot.{Slot}
use Rattle.insn_set.specs.declared.ops.InvokeKind.TheVariants as call
use Rattle.dalvik_defs.specs.Names.{Text}
use Rattle.dalvik_defs.specs.Flags.{is_static}
use Rattle.dalvik_defs.specs.Find.{Found, Finds}
use Rattle.dalvik_defs.specs.Face.{Face, Bodies, bodies_of}
use Rattle.dalvik_defs.specs.State.{World, Classes, State, On, is_null}
use Rattle.dalvik_defs.specs.declared.state.Value.TheVariants.{Low, High}
use Rattle.dalvik_defs.specs.declared.state.Frame.{Frame}
use Rattle.dalvik_defs.specs.declared.state.Waiting.{Waiting}
use Rattle.dalvik_defs.specs.declared.state.Waiting.TheVariants.{Method}
use Rattle.dalvik_defs.specs.Effect.{register}
use Rattle.dalvik_defs.specs.Outcome.{receiver}
use Rattle.dalvik_defs.specs.Stack.{form_at as form_here}
use Rattle.dalvik_defs.specs.Happens.{Setting}
use Rattle.dalvik_defs.specs.Step.{step}
use Rattle.dalvik_defs.specs.declared.names.MethodKey.{MethodKey}
use Rattle.dalvik_defs.specs.declared.forms.Form.{Form}
use Rattle.dalvik_defs.specs.declared.forms.Form.TheVariants as form
use Rattle.dalvik_defs.specs.declared.script.Move.{Move}
use Rattle.dalvik_defs.specs.declared.program.NamedBody.{NamedBody}
use Rattle.dalvik_defs.specs.declared.program.NamedProgram.{NamedProgram}
use Rattle.pass_defs.specs.Inlined.{Callee, callee_at}
use Rattle.inline_law.specs.Inlining.{Sites}

-- a static call whose class is calm, or a direct one of a method that isn't static
pub data Enterable (face : Face) (calm : Text → Bool) (y : Callee) : Form → Type 0 where
  Statically : (k : MethodKey) (g : Found) → face.statically k ≡ Finds g → g.key ≡ y.key → g.coded ≡ true → is_static g.flags ≡ true → calm g.key.class ≡ true → Enterable face calm y (form.Invoke call.Static k y.args)
  Directly : (k : MethodKey) (g : Found) → face.statically k ≡ Finds g → g.key ≡ y.key → g.coded ≡ true → is_static g.flags ≡ false → Enterable face calm y (form.Invoke call.Direct k y.args)

-- so is each call that is inlined
abbrev pub AreEnterable : Face → Bodies → (Text → Bool) → Sites → Type 0
AreEnterable face find calm sites = (f : Frame) (y : Callee) → sites f.method f.position ≡ Some y → (x : Form) × ((form_here find f ≡ Some x) × Enterable face calm y x)

-- what facts say of the states that a run reaches: receivers of inlined calls aren't null, and a wide that is given back has
-- both halves of one number
pub record FactsHold (s : Setting) (find : Bodies) (sites : Sites) (I : State → Type 0) : Type 0 where
  pub receivers : (w : World) (c : Classes) (f : Frame) (rest : List Waiting) (script : List Move) (y : Callee) (k : MethodKey) → I (On w c (Method f ∷ rest) script) → sites f.method f.position ≡ Some y
      → form_here find f ≡ Some (form.Invoke call.Direct k y.args) → is_null (receiver (map (register f) y.args)) ≡ false
  pub wholes : (w : World) (c : Classes) (h f : Frame) (rest : List Waiting) (script : List Move) (y : Callee) (t : Slot) (from : ℕ) → I (On w c (Method h ∷ Method f ∷ rest) script) → sites f.method f.position ≡ Some y
      → h.method ≡ y.key → form_here find h ≡ Some (form.Return t from) → is_wide_slot t ≡ true → (n : ℕ) × ((register h from ≡ Low n) × (register h (from + 1) ≡ High n))
  pub keeps : (t : State) → I t → I (step s find t).0

-- ---- programs

-- the accepted positions of each method
abbrev pub AcceptedIn : Type 0
AcceptedIn = MethodKey → List ℕ

abbrev pub sites_in : NamedProgram → List ℕ → Option NamedBody → ℕ → Option Callee
sites_in p accepted None n = None
sites_in p accepted (Some b) n = callee_at p b accepted n

abbrev pub sites_of : NamedProgram → AcceptedIn → Sites
sites_of p accepted k n = sites_in p (accepted k) (bodies_of p k) n
