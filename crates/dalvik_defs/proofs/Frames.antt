-- The law of frames: what it asks. Two programs have one face, so they differ in bodies alone. A relation between a frame of
-- the one and a frame of the other, in a world and with the statuses of classes that both share, gives that they show the
-- same, where related frames go on alike: after some steps in the frames that show nothing, the frames are related again,
-- or both begin, end, throw or show the same. It is proved as the law of blocks of one frame, in `Singles`.
use Rattle.std.proofs.Common.{◌≡◌, ℕ, suc, true, List, [], ◌∷◌, Option, Some, None, length}
use Rattle.dalvik_defs.specs.Names.{Text, is_void}
use Rattle.dalvik_defs.specs.Face.{Bodies}
use Rattle.dalvik_defs.specs.State.{World, Classes, Value, Frame, Waiting, Method, State, On}
use Rattle.dalvik_defs.specs.Outcome.{Outcome, Stays, Starts, Enters, Leaves, Ends, Raises, Halts, need_of}
use Rattle.dalvik_defs.specs.Stack.{entry_frame, back, lands}
use Rattle.dalvik_defs.specs.Happens.{Setting, outcome_at}
use Rattle.dalvik_defs.specs.Step.{step, after, shows_from}
use Rattle.dalvik_defs.specs.declared.names.MethodKey.{MethodKey}
use Rattle.dalvik_defs.specs.declared.program.NamedBody.{NamedBody}
use Rattle.dalvik_defs.specs.declared.script.Move.{Move}

-- ---- steps in a frame that show nothing, whatever stands below it

pub record Glides (s : Setting) (find : Bodies) (w : World) (c : Classes) (f : Frame) (n : ℕ) (w' : World) (c' : Classes) (f' : Frame) : Type 0 where
  pub ends : (rest : List Waiting) (script : List Move) → after s find (On w c (Method f ∷ rest) script) n ≡ On w' c' (Method f' ∷ rest) script
  pub silent : (rest : List Waiting) (script : List Move) → shows_from s find (On w c (Method f ∷ rest) script) n ≡ []

-- what comes of the form at a frame
abbrev pub now : Setting → Bodies → World → Classes → Frame → Outcome
now s find w c f = outcome_at s find (need_of s.face c) w f

-- ---- what a frame waits for

-- the result of a call, the answer of the framework, which owes a value of a type, or the end of a class
pub data Above : Type 0 where
  Calls : Above
  Asks : (owes : Text) → Above
  Begins : Above

-- what may come back: of the framework none only where it owes nothing
abbrev pub Comes : Above → Option Value → Type 0
Comes Calls v = Unit {0}
Comes (Asks owes) (Some v) = Unit {0}
Comes (Asks owes) None = is_void owes ≡ true
Comes Begins v = ⊥

abbrev pub asked : Option Text → Above
asked None = Begins
asked (Some owes) = Asks owes

-- ---- the law's premises

module _ (s : Setting) (find other : Bodies) (F : World → Classes → Frame → Frame → Type 0) (W : Above → Frame → Frame → Type 0) (I J : State → Type 0) where
  -- both catch a thrown object, in related frames, or neither does
  abbrev pub Landed : World → Classes → List Waiting → List Waiting → List Move → Option Frame → Option Frame → Type 0
  Landed w c rest rest' script None o = o ≡ None
  Landed w c rest rest' script (Some g) o = (g' : Frame) × ((o ≡ Some g') × (I (On w c (Method g ∷ rest) script) → J (On w c (Method g' ∷ rest') script) → F w c g g'))

  -- what comes of the second frame where the outcome of the first is this
  abbrev pub Leads : World → Classes → Frame → Outcome → Frame → Outcome → Type 0
  Leads w c f (Stays w1 f1 e) f' o = (f1' : Frame) × ((o ≡ Stays w1 f1' e) × F w1 c f1 f1')
  Leads w c f (Starts t) f' o = (o ≡ Starts t) × W Begins f f'
  Leads w c f (Enters k vs) f' o = (o ≡ Enters k vs) × W Calls f f'
  Leads w c f (Leaves w1 owes e) f' o = (o ≡ Leaves w1 owes e) × W (Asks owes) f f'
  Leads w c f (Ends v) f' o = (o ≡ Ends v) × (f'.method.signature.result ≡ f.method.signature.result)
  Leads w c f (Raises w1 v) f' o = (o ≡ Raises w1 v) × ((rest rest' : List Waiting) (script : List Move) → Landed w1 c rest rest' script (lands s.face find w1 f v) (lands s.face other w1 f' v))
  Leads w c f Halts f' o = o ≡ Halts

  pub data Matches (w : World) (c : Classes) (f f' : Frame) : Type 0 where
    -- both stay in their frames, the first for a step at least
    Stay : (k j : ℕ) (w1 : World) (c1 : Classes) (f1 f1' : Frame) → Glides s find w c f (suc k) w1 c1 f1 → Glides s other w c f' j w1 c1 f1' → F w1 c1 f1 f1' → Matches w c f f'
    -- both come to the same
    Meet : (k j : ℕ) (w1 : World) (c1 : Classes) (f1 f1' : Frame) → Glides s find w c f k w1 c1 f1 → Glides s other w c f' j w1 c1 f1'
        → Leads w1 c1 f1 (now s find w1 c1 f1) f1' (now s other w1 c1 f1') → Matches w c f f'

  -- a method has code in both programs or in neither, for as many values, and related entries
  abbrev pub Entered : World → Classes → List Waiting → List Waiting → List Move → MethodKey → List Value → Option NamedBody → Option NamedBody → Type 0
  Entered w c rest rest' script k vs None o = o ≡ None
  Entered w c rest rest' script k vs (Some b) o = (b' : NamedBody) × ((o ≡ Some b') × ((b'.ins ≡ b.ins) × (length vs ≡ b.ins
      → I (On w c (Method (entry_frame k vs b) ∷ rest) script) → J (On w c (Method (entry_frame k vs b') ∷ rest') script) → F w c (entry_frame k vs b) (entry_frame k vs b'))))

  pub record FramesFollow : Type 0 where
    -- related frames on top go on alike, in states of both programs that a run reaches
    pub steps : (w : World) (c : Classes) (f f' : Frame) (rest rest' : List Waiting) (script : List Move) → F w c f f'
        → I (On w c (Method f ∷ rest) script) → J (On w c (Method f' ∷ rest') script) → Matches w c f f'
    pub entries : (w : World) (c : Classes) (rest rest' : List Waiting) (script : List Move) (k : MethodKey) (vs : List Value) → Entered w c rest rest' script k vs (find k) (other k)
    -- waiting frames are related once the same has come back: a result, the end of a class, or a thrown object
    pub returns : (w : World) (c : Classes) (f f' : Frame) (rest rest' : List Waiting) (script : List Move) (a : Above) (v : Option Value) → Comes a v → W a f f'
        → I (On w c (Method (back find f v) ∷ rest) script) → J (On w c (Method (back other f' v) ∷ rest') script) → F w c (back find f v) (back other f' v)
    pub retries : (w : World) (c : Classes) (f f' : Frame) (rest rest' : List Waiting) (script : List Move) → W Begins f f'
        → I (On w c (Method f ∷ rest) script) → J (On w c (Method f' ∷ rest') script) → F w c f f'
    pub throws : (w : World) (c : Classes) (f f' : Frame) (rest rest' : List Waiting) (script : List Move) (a : Above) (v : Value) → W a f f'
        → Landed w c rest rest' script (lands s.face find w f v) (lands s.face other w f' v)
    -- what a run reaches
    pub keeps : (t : State) → I t → I (step s find t).0
    pub keeps_other : (t : State) → J t → J (step s other t).0

  -- related frames come to the same at once
  abbrev pub AtOnce : Type 0
  AtOnce = (w : World) (c : Classes) (f f' : Frame) (rest rest' : List Waiting) (script : List Move) → F w c f f'
      → I (On w c (Method f ∷ rest) script) → J (On w c (Method f' ∷ rest') script) → Leads w c f (now s find w c f) f' (now s other w c f')
