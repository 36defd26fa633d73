-- What it is that an invariant holds of a state: of the frame on top, of each that waits below what stands above it, of the
-- moves that are to come, and of all that lies outside.
use Rattle.std.specs.Prelude.{◌≡◌, List, [], ◌∷◌, Option, Some, None}
use Rattle.dalvik_defs.specs.State.{World, Classes, State, On, Ended}
use Rattle.dalvik_defs.specs.declared.state.Value.{Value}
use Rattle.dalvik_defs.specs.declared.state.Frame.{Frame}
use Rattle.dalvik_defs.specs.declared.state.Waiting.{Waiting}
use Rattle.dalvik_defs.specs.declared.state.Waiting.TheVariants.{Method, Initialiser, Ending, Outside}
use Rattle.dalvik_defs.specs.declared.script.Move.{Move}
use Rattle.run_laws.specs.Invariant.{Above, Callee, Begun, Owing, Invariant}

abbrev pub Each : {A : Type 0} → (A → Type 0) → List A → Type 0
Each P [] = Unit {0}
Each P (x ∷ xs) = P x × Each P xs

abbrev pub IsCall : Above → Type 0
IsCall (Callee k) = Unit {0}
IsCall (Begun t) = ⊥
IsCall (Owing t) = ⊥

abbrev pub IsBegun : Above → Type 0
IsBegun (Callee k) = ⊥
IsBegun (Begun t) = Unit {0}
IsBegun (Owing t) = ⊥

-- the framework waits for methods and classes alone
abbrev pub IsInner : Above → Type 0
IsInner (Callee k) = Unit {0}
IsInner (Begun t) = Unit {0}
IsInner (Owing t) = ⊥

module _ (i : Invariant) where
  -- the move that waits with the framework's frame for a class
  abbrev pub Pends : Option Move → Type 0
  Pends None = Unit {0}
  Pends (Some m) = i.move m

  -- a stack below something
  abbrev pub Waits : World → Above → List Waiting → Type 0
  Waits w a [] = ⊥
  Waits w a (Method f ∷ r) = i.waits w a f × Waits w (Callee f.method) r
  Waits w a (Initialiser t ts ∷ r) = IsBegun a × (i.class t × Each i.class ts) × Waits w (Begun t) r
  Waits w a (Ending t ∷ r) = IsCall a × i.class t × Waits w (Begun t) r
  Waits w a (Outside None pending ∷ r) = IsInner a × Pends pending × (r ≡ [])
  Waits w a (Outside (Some kind) pending ∷ r) = IsInner a × Pends pending × Waits w (Owing kind) r

  abbrev pub Stacks : World → Classes → List Waiting → Type 0
  Stacks w c [] = ⊥
  Stacks w c (Method f ∷ r) = i.top w c f × Waits w (Callee f.method) r
  Stacks w c (Initialiser t ts ∷ r) = (i.class t × Each i.class ts) × Waits w (Begun t) r
  Stacks w c (Ending t ∷ r) = i.class t × Waits w (Begun t) r
  Stacks w c (Outside None pending ∷ r) = Pends pending × (r ≡ [])
  Stacks w c (Outside (Some kind) pending ∷ r) = Pends pending × Waits w (Owing kind) r

  abbrev pub Holds : State → Type 0
  Holds Ended = i.ended
  Holds (On w c stack script) = i.outside w c × Stacks w c stack × Each i.move script
