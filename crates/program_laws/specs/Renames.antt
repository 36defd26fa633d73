-- Methods that have other names: what frames, states, outcomes and bodies are under a map of names.
use Rattle.std.specs.Prelude.{◌≡◌, Bool, true, false, List, [], ◌∷◌, map, Option}
use Rattle.insn_set.specs.declared.ops.InvokeKind.{InvokeKind}
use Rattle.dalvik_defs.specs.Names.{Text}
use Rattle.dalvik_defs.specs.Find.{Found, Search, Finds}
use Rattle.dalvik_defs.specs.Flags.{is_static}
use Rattle.dalvik_defs.specs.Face.{Face}
use Rattle.insn_set.specs.declared.ops.InvokeKind.TheVariants as call
use Rattle.dalvik_defs.specs.State.{State, On, Ended, Next}
use Rattle.dalvik_defs.specs.declared.state.Frame.{Frame}
use Rattle.dalvik_defs.specs.declared.state.Waiting.{Waiting}
use Rattle.dalvik_defs.specs.declared.state.Waiting.TheVariants.{Method, Initialiser, Ending, Outside}
use Rattle.dalvik_defs.specs.Effect.{Effect, Goes, Faults, Throws, Gives, Calls, Makes, Reads, Writes, Locks, Unlocks, Stuck}
use Rattle.dalvik_defs.specs.Outcome.{Outcome, Stays, Starts, Enters, Leaves, Ends, Raises, Halts, takes_no_receiver}
use Rattle.dalvik_defs.specs.Happens.{Setting}
use Rattle.dalvik_defs.specs.declared.names.MethodKey.{MethodKey}
use Rattle.dalvik_defs.specs.declared.forms.Form.{Form}
use Rattle.dalvik_defs.specs.declared.forms.Form.TheVariants as form
use Rattle.dalvik_defs.specs.declared.program.NamedBody.{NamedBody}

module _ (rename : MethodKey → MethodKey) where
  abbrev pub frame_named : Frame → Frame
  frame_named f = record f { method = rename f.method }

  abbrev pub waiting_named : Waiting → Waiting
  waiting_named (Method f) = Method (frame_named f)
  waiting_named (Initialiser t above) = Initialiser t above
  waiting_named (Ending t) = Ending t
  waiting_named (Outside owes pending) = Outside owes pending

  abbrev pub stack_named : List Waiting → List Waiting
  stack_named [] = []
  stack_named (x ∷ xs) = waiting_named x ∷ stack_named xs

  abbrev pub state_named : State → State
  state_named (On w c stack script) = On w c (stack_named stack) script
  state_named Ended = Ended

  abbrev pub next_named : Next → Next
  next_named x = (state_named x.0, x.1)

  abbrev pub effect_named : Effect → Effect
  effect_named (Goes w f) = Goes w (frame_named f)
  effect_named (Faults c) = Faults c
  effect_named (Throws v) = Throws v
  effect_named (Gives v) = Gives v
  effect_named (Calls kind k vs) = Calls kind k vs
  effect_named (Makes to c) = Makes to c
  effect_named (Reads item to k on) = Reads item to k on
  effect_named (Writes k on v) = Writes k on v
  effect_named (Locks v) = Locks v
  effect_named (Unlocks v) = Unlocks v
  effect_named Stuck = Stuck

  abbrev pub outcome_named : Outcome → Outcome
  outcome_named (Stays w f e) = Stays w (frame_named f) e
  outcome_named (Starts c) = Starts c
  outcome_named (Enters k vs) = Enters (rename k) vs
  outcome_named (Leaves w owes e) = Leaves w owes e
  outcome_named (Ends v) = Ends v
  outcome_named (Raises w v) = Raises w v
  outcome_named Halts = Halts

abbrev pub is_invoke : Form → Bool
is_invoke (form.Invoke kind k args) = true
is_invoke x = false

-- ---- bodies whose calls are others

-- the kind and the method of a call instead
abbrev pub Edit : Type 0
Edit = InvokeKind → MethodKey → InvokeKind × MethodKey

module _ (edit : Edit) where
  abbrev pub form_edited : Form → Form
  form_edited (form.Invoke kind k args) = form.Invoke (edit kind k).0 (edit kind k).1 args
  form_edited f = f

  abbrev pub body_edited : NamedBody → NamedBody
  body_edited b = record b { forms = map form_edited b.forms }

-- ---- settings that differ in what methods are found

pub record Finding : Type 0 where
  pub statically : MethodKey → Search
  pub above : Text → MethodKey → Search
  pub virtually : Text → MethodKey → Search
  pub declared : Text → Text → Text → Option Found

abbrev pub finding_of : Face → Finding
finding_of face = record { statically = face.statically; above = face.above; virtually = face.virtually; declared = face.declared }

-- a face that finds as another
abbrev pub face_with : Face → Finding → Face
face_with face x = record face { statically = x.statically; above = x.above; virtually = x.virtually; declared = x.declared }

abbrev pub setting_with : Setting → Finding → Setting
setting_with s x = record s { face = face_with s.face x }

-- ---- calls

-- what a call in a method of a class finds, on an object of a type where it is virtual or of an interface
abbrev pub searched : Face → Text → InvokeKind → Text → MethodKey → Search
searched face class call.Static t k = face.statically k
searched face class call.Direct t k = face.statically k
searched face class call.Super t k = face.above class k
searched face class call.Virtual t k = face.virtually t k
searched face class call.Interface t k = face.virtually t k

-- a call that stays: it finds the same, and no renamed method
pub record Kept (rename : MethodKey → MethodKey) (F G : Face) (class : Text) (kind : InvokeKind) (t : Text) (k : MethodKey) : Type 0 where
  pub same : searched G class kind t k ≡ searched F class kind t k
  pub unnamed : (g : Found) → searched F class kind t k ≡ Finds g → rename g.key ≡ g.key

-- A call that is made static: it finds a method with a receiver and code, the receiver isn't null, and a static call
-- finds the method under its new name.
pub record MadeStatic (rename : MethodKey → MethodKey) (F G : Face) (class : Text) (kind : InvokeKind) (t : Text) (null : Bool) (k k' : MethodKey) : Type 0 where
  pub found : Found
  pub new : Found
  pub finds : searched F class kind t k ≡ Finds found
  pub coded : found.coded ≡ true
  pub receives : is_static found.flags ≡ false
  pub given : takes_no_receiver kind ≡ false → null ≡ false
  pub named : k' ≡ rename found.key
  pub finds_new : G.statically k' ≡ Finds new
  pub key : new.key ≡ rename found.key
  pub still_coded : new.coded ≡ true

pub data CallAlike (rename : MethodKey → MethodKey) (F G : Face) (ready : Text → Type 0) (class : Text) (kind : InvokeKind) (t : Text) (null : Bool) (k : MethodKey) : InvokeKind × MethodKey → Type 0 where
  KeepsCall : Kept rename F G class kind t k → CallAlike rename F G ready class kind t null k (kind, k)
  TurnsCall : (k' : MethodKey) (m : MadeStatic rename F G class kind t null k k') → ready m.new.key.class → CallAlike rename F G ready class kind t null k (call.Static, k')
