-- Bodies in which forms are replaced by others that change the frame as they do in every state that a run reaches (this
-- project's profile). `I` says what states a run of the program reaches.
use Rattle.std.specs.Prelude.{◌≡◌, ℕ, Bool, List, ◌∷◌, Some, None}
use Rattle.dalvik_defs.specs.Act.{act}
use Rattle.dalvik_defs.specs.Effect.{Goes}
use Rattle.dalvik_defs.specs.Face.{bodies_of}
use Rattle.dalvik_defs.specs.Happens.{Setting}
use Rattle.dalvik_defs.specs.Outcome.{Stays, need_of, outcome}
use Rattle.dalvik_defs.specs.Outer.{Outer}
use Rattle.dalvik_defs.specs.Quiet.{calm_opening}
use Rattle.dalvik_defs.specs.Shown.{Fit, IsPrefixOf}
use Rattle.dalvik_defs.specs.State.{World, Classes, State, On}
use Rattle.dalvik_defs.specs.Step.{setting_of, step, shows}
use Rattle.dalvik_defs.specs.Names.{Text}
use Rattle.dalvik_defs.specs.declared.state.Frame.{Frame}
use Rattle.dalvik_defs.specs.declared.state.Waiting.{Waiting}
use Rattle.dalvik_defs.specs.declared.state.Waiting.TheVariants.{Method}
use Rattle.dalvik_defs.specs.declared.names.MethodKey.{MethodKey}
use Rattle.dalvik_defs.specs.declared.forms.Form.{Form}
use Rattle.dalvik_defs.specs.declared.script.Move.{Move}
use Rattle.dalvik_defs.specs.declared.program.NamedBody.{NamedBody}
use Rattle.dalvik_defs.specs.declared.program.NamedProgram.{NamedProgram}
use Rattle.dalvik_defs.specs.declared.tables.Floats.{Floats}
use Rattle.dalvik_defs.specs.declared.tables.Framework.{Framework}
use Rattle.pass_defs.specs.Walks.{form_at, IsReached}
use Rattle.form_laws.specs.Changes.{destination, Change, changed, Possible}
use Rattle.program_laws.specs.Bodies.{Change as Bodies, changed as with_bodies, KeepsCode}

-- The second form always makes one change, and in each state that a run reaches the first one does too.
pub record Known (s : Setting) (I : State → Type 0) (k : MethodKey) (n : ℕ) (f f' : Form) : Type 0 where
  pub change : Change
  pub possible : Possible f change
  pub place : destination f' ≡ destination f
  pub old : (w : World) (c : Classes) (g : Frame) (rest : List Waiting) (script : List Move) → I (On w c (Method g ∷ rest) script) → g.method ≡ k → g.position ≡ n
      → outcome s.face (need_of s.face c) (act s.face.under s.floats f w g) w g ≡ Stays w (changed change (destination f) g) None
  pub new : (w : World) (g : Frame) → act s.face.under s.floats f' w g ≡ Goes w (changed change (destination f') g)

-- a form stays, or is known
pub data Becomes (s : Setting) (I : State → Type 0) (k : MethodKey) (n : ℕ) (f f' : Form) : Type 0 where
  Same : f' ≡ f → Becomes s I k n f f'
  Folds : Known s I k n f f' → Becomes s I k n f f'

pub record IsFolded (s : Setting) (I : State → Type 0) (k : MethodKey) (b d : NamedBody) : Type 0 where
  pub forms : (n : ℕ) (f : Form) → form_at b n ≡ Some f → IsReached b n → (f' : Form) × ((form_at d n ≡ Some f') × Becomes s I k n f f')
  pub ends : (n : ℕ) → form_at b n ≡ None → form_at d n ≡ None
  pub regions : d.regions ≡ b.regions
  pub registers : d.registers ≡ b.registers
  pub ins : d.ins ≡ b.ins

-- so it is in each method, in every run, which begins with the calm classes done
pub record AllFolded (new : Bodies) (p : NamedProgram) (o : Outer) (calm : Framework → Text → Bool) (I : Framework → Floats → List Move → State → Type 0) : Type 0 where
  pub code : KeepsCode new
  pub bodies : (f : Framework) (a : Floats) (script : List Move) → Fit p o f script → (k : MethodKey) (b d : NamedBody) → bodies_of p k ≡ Some b → bodies_of (with_bodies new p) k ≡ Some d
      → IsFolded (setting_of p o f a) (I f a script) k b d
  pub begins : (f : Framework) (a : Floats) (script : List Move) → Fit p o f script → I f a script (calm_opening (calm f) script)
  pub keeps : (f : Framework) (a : Floats) (script : List Move) → Fit p o f script → (t : State) → I f a script t → I f a script (step (setting_of p o f a) (bodies_of p) t).0

-- ---- one run

-- What a run of the one shows the run of the other shows too, and conversely, under one framework, arithmetic and script.
pub record SameRun (p q : NamedProgram) (o : Outer) (f : Framework) (a : Floats) (script : List Move) : Type 0 where
  pub there : (n : ℕ) → (m : ℕ) × IsPrefixOf (shows p o f a script n) (shows q o f a script m)
  pub back : (n : ℕ) → (m : ℕ) × IsPrefixOf (shows q o f a script n) (shows p o f a script m)

-- Bodies that are folded by what one run of the first program reaches, which begins with the calm classes done.
pub record IsFoldedRun (p q : NamedProgram) (o : Outer) (f : Framework) (a : Floats) (script : List Move) (calm : Text → Bool) (I : State → Type 0) : Type 0 where
  pub none : (k : MethodKey) → bodies_of p k ≡ None → bodies_of q k ≡ None
  pub some : (k : MethodKey) (b : NamedBody) → bodies_of p k ≡ Some b → (d : NamedBody) × (bodies_of q k ≡ Some d)
  pub bodies : (k : MethodKey) (b d : NamedBody) → bodies_of p k ≡ Some b → bodies_of q k ≡ Some d → IsFolded (setting_of p o f a) I k b d
  pub begins : I (calm_opening calm script)
  pub keeps : (t : State) → I t → I (step (setting_of p o f a) (bodies_of p) t).0
