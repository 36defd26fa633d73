-- Bodies in which virtual and interface calls name another method, one that their receivers find by the old name and by the
-- new one, in every state that a run reaches (Dalvik bytecode, "invoke-kind"; this project's profile). `I` says what states a
-- run of the program reaches.
use Rattle.std.specs.Prelude.{◌≡◌, ℕ, true, false, List, ◌∷◌, Some, None, map}
use Rattle.insn_set.specs.declared.ops.InvokeKind.{InvokeKind}
use Rattle.dalvik_defs.specs.Effect.{register}
use Rattle.dalvik_defs.specs.Face.{Bodies, face_of, bodies_of}
use Rattle.dalvik_defs.specs.Find.{Found, Finds}
use Rattle.dalvik_defs.specs.Happens.{Setting}
use Rattle.dalvik_defs.specs.Names.{Text}
use Rattle.dalvik_defs.specs.Outcome.{receiver}
use Rattle.dalvik_defs.specs.Outer.{Outer}
use Rattle.dalvik_defs.specs.Shown.{Fit}
use Rattle.dalvik_defs.specs.State.{World, Classes, State, On, is_null, kind_of, opening}
use Rattle.dalvik_defs.specs.Step.{setting_of, step}
use Rattle.dalvik_defs.specs.declared.state.Frame.{Frame}
use Rattle.dalvik_defs.specs.declared.state.Waiting.{Waiting}
use Rattle.dalvik_defs.specs.declared.state.Waiting.TheVariants.{Method}
use Rattle.dalvik_defs.specs.declared.names.MethodKey.{MethodKey}
use Rattle.dalvik_defs.specs.declared.forms.Form.{Form}
use Rattle.dalvik_defs.specs.declared.forms.Form.TheVariants as form
use Rattle.dalvik_defs.specs.declared.script.Move.{Move}
use Rattle.dalvik_defs.specs.declared.program.NamedBody.{NamedBody}
use Rattle.dalvik_defs.specs.declared.program.NamedProgram.{NamedProgram}
use Rattle.dalvik_defs.specs.declared.tables.Floats.{Floats}
use Rattle.dalvik_defs.specs.declared.tables.Framework.{Framework}
use Rattle.pass_defs.specs.Bindable.{is_virtual_call}
use Rattle.pass_defs.specs.Walks.{form_at}

-- an object of a class finds one method with code by both names
pub record FindBoth (s : Setting) (old new : MethodKey) (t : Text) : Type 0 where
  pub found : Found
  pub coded : found.coded ≡ true
  pub first : s.face.virtually t old ≡ Finds found
  pub second : s.face.virtually t new ≡ Finds found

-- A virtual or interface call names another method with the same registers. In each state that a run reaches, its receiver is
-- null, or finds one method with code by both names.
pub record Rebinds (s : Setting) (I : State → Type 0) (k : MethodKey) (n : ℕ) (f f' : Form) : Type 0 where
  pub kind : InvokeKind
  pub kind' : InvokeKind
  pub old : MethodKey
  pub new : MethodKey
  pub args : List ℕ
  pub first : f ≡ form.Invoke kind old args
  pub second : f' ≡ form.Invoke kind' new args
  pub virtual : is_virtual_call kind ≡ true
  pub virtual' : is_virtual_call kind' ≡ true
  pub finds : (w : World) (c : Classes) (g : Frame) (rest : List Waiting) (script : List Move) → I (On w c (Method g ∷ rest) script) → g.method ≡ k → g.position ≡ n
      → is_null (receiver (map (register g) args)) ≡ false → FindBoth s old new (kind_of w (receiver (map (register g) args)))

-- a form stays, or is a call that names another method
pub data Becomes (s : Setting) (I : State → Type 0) (k : MethodKey) (n : ℕ) (f f' : Form) : Type 0 where
  Same : f' ≡ f → Becomes s I k n f f'
  Other : Rebinds s I k n f f' → Becomes s I k n f f'

pub record IsRebound (s : Setting) (I : State → Type 0) (k : MethodKey) (b d : NamedBody) : Type 0 where
  pub forms : (n : ℕ) (f : Form) → form_at b n ≡ Some f → (f' : Form) × ((form_at d n ≡ Some f') × Becomes s I k n f f')
  pub ends : (n : ℕ) → form_at b n ≡ None → form_at d n ≡ None
  pub regions : d.regions ≡ b.regions
  pub registers : d.registers ≡ b.registers
  pub ins : d.ins ≡ b.ins

-- so it is in each method, and a run of the first program reaches such states alone
pub record AreRebound (s : Setting) (find other : Bodies) (I : State → Type 0) : Type 0 where
  pub none : (k : MethodKey) → find k ≡ None → other k ≡ None
  pub some : (k : MethodKey) (b : NamedBody) → find k ≡ Some b → (d : NamedBody) × (other k ≡ Some d)
  pub bodies : (k : MethodKey) (b d : NamedBody) → find k ≡ Some b → other k ≡ Some d → IsRebound s I k b d
  pub keeps : (t : State) → I t → I (step s find t).0

-- so it is of two programs that differ in bodies alone, in every run
pub record AllRebound (p q : NamedProgram) (o : Outer) (I : Framework → Floats → List Move → State → Type 0) : Type 0 where
  pub face : (f : Framework) → face_of p f ≡ face_of q f
  pub bodies : (f : Framework) (a : Floats) (script : List Move) → Fit p o f script → AreRebound (setting_of p o f a) (bodies_of p) (bodies_of q) (I f a script)
  pub begins : (f : Framework) (a : Floats) (script : List Move) → Fit p o f script → I f a script (opening script)
