-- The law of frames for programs: two programs with one face show the same where frames of the one and of the other are
-- related as the law asks, each way, in runs that begin with the calm classes done.
use Rattle.std.proofs.Common.{◌≡◌, Bool, List}
use Rattle.dalvik_defs.specs.Names.{Text}
use Rattle.dalvik_defs.specs.Face.{Bodies, face_of, bodies_of}
use Rattle.dalvik_defs.specs.Outer.{Outer}
use Rattle.dalvik_defs.specs.State.{World, Classes, Frame, State, opening}
use Rattle.dalvik_defs.specs.Happens.{Setting}
use Rattle.dalvik_defs.specs.Step.{setting_of}
use Rattle.dalvik_defs.specs.Shown.{Fit, SameShown}
use Rattle.dalvik_defs.specs.declared.script.Move.{Move}
use Rattle.dalvik_defs.specs.declared.program.NamedProgram.{NamedProgram}
use Rattle.dalvik_defs.specs.declared.tables.Framework.{Framework}
use Rattle.dalvik_defs.specs.declared.tables.Floats.{Floats}
use Rattle.dalvik_defs.proofs.Simulation.{Shows}
use Rattle.dalvik_defs.specs.Quiet.{calm_opening}
use Rattle.dalvik_defs.proofs.Calm.{IsCalm}
use Rattle.dalvik_defs.proofs.Frames.{Above, FramesFollow, AtOnce}
use Rattle.dalvik_defs.proofs.Singles.{SingleTop, SingleWait, singles_follow, singles_once}
use Rattle.dalvik_defs.proofs.BlockPrograms.{blocks_shows, blocks_shown, blocks_once_shown}

-- one way, for one framework, float table and script
pub frames_shows : (s : Setting) (find other : Bodies) (calm : Text → Bool) (F : World → Classes → Frame → Frame → Type 0) (W : Above → Frame → Frame → Type 0) (I J : State → Type 0) (script : List Move)
    → IsCalm s calm → FramesFollow s find other F W I J → I (calm_opening calm script) → J (calm_opening calm script) → Shows s find s other (opening script) (opening script)
frames_shows s find other calm F W I J script is follow i j =
    blocks_shows s find other calm (SingleTop s find other F W I J) (SingleWait s find other F W I J) I J script is (singles_follow s find other F W I J follow) i j

pub frames_shown : (p q : NamedProgram) (o : Outer) (calm : Framework → Text → Bool)
    (F G : Framework → Floats → List Move → World → Classes → Frame → Frame → Type 0) (V W : Framework → Floats → List Move → Above → Frame → Frame → Type 0) (I J : Framework → Floats → List Move → State → Type 0)
    → ((f : Framework) → face_of p f ≡ face_of q f)
    → ((f : Framework) (a : Floats) → IsCalm (setting_of p o f a) (calm f))
    → ((f : Framework) (a : Floats) (script : List Move) → Fit p o f script → FramesFollow (setting_of p o f a) (bodies_of p) (bodies_of q) (F f a script) (V f a script) (I f a script) (J f a script))
    → ((f : Framework) (a : Floats) (script : List Move) → Fit p o f script → FramesFollow (setting_of p o f a) (bodies_of q) (bodies_of p) (G f a script) (W f a script) (J f a script) (I f a script))
    → ((f : Framework) (a : Floats) (script : List Move) → Fit p o f script → I f a script (calm_opening (calm f) script) × J f a script (calm_opening (calm f) script))
    → SameShown p q o
frames_shown p q o calm F G V W I J face is there back start = blocks_shown p q o calm
    (λ f a script. SingleTop (setting_of p o f a) (bodies_of p) (bodies_of q) (F f a script) (V f a script) (I f a script) (J f a script))
    (λ f a script. SingleTop (setting_of p o f a) (bodies_of q) (bodies_of p) (G f a script) (W f a script) (J f a script) (I f a script))
    (λ f a script. SingleWait (setting_of p o f a) (bodies_of p) (bodies_of q) (F f a script) (V f a script) (I f a script) (J f a script))
    (λ f a script. SingleWait (setting_of p o f a) (bodies_of q) (bodies_of p) (G f a script) (W f a script) (J f a script) (I f a script))
    I J face is
    (λ f a script h. singles_follow (setting_of p o f a) (bodies_of p) (bodies_of q) (F f a script) (V f a script) (I f a script) (J f a script) (there f a script h))
    (λ f a script h. singles_follow (setting_of p o f a) (bodies_of q) (bodies_of p) (G f a script) (W f a script) (J f a script) (I f a script) (back f a script h))
    start

-- what goes on at once shows the same, both ways
pub once_shown : (p q : NamedProgram) (o : Outer) (calm : Framework → Text → Bool)
    (F : Framework → Floats → List Move → World → Classes → Frame → Frame → Type 0) (W : Framework → Floats → List Move → Above → Frame → Frame → Type 0) (I J : Framework → Floats → List Move → State → Type 0)
    → ((f : Framework) → face_of p f ≡ face_of q f)
    → ((f : Framework) (a : Floats) → IsCalm (setting_of p o f a) (calm f))
    → ((f : Framework) (a : Floats) (script : List Move) → Fit p o f script → FramesFollow (setting_of p o f a) (bodies_of p) (bodies_of q) (F f a script) (W f a script) (I f a script) (J f a script))
    → ((f : Framework) (a : Floats) (script : List Move) → Fit p o f script → AtOnce (setting_of p o f a) (bodies_of p) (bodies_of q) (F f a script) (W f a script) (I f a script) (J f a script))
    → ((f : Framework) (a : Floats) (script : List Move) → Fit p o f script → I f a script (calm_opening (calm f) script) × J f a script (calm_opening (calm f) script))
    → SameShown p q o
once_shown p q o calm F W I J face is follow once start = blocks_once_shown p q o calm
    (λ f a script. SingleTop (setting_of p o f a) (bodies_of p) (bodies_of q) (F f a script) (W f a script) (I f a script) (J f a script))
    (λ f a script. SingleWait (setting_of p o f a) (bodies_of p) (bodies_of q) (F f a script) (W f a script) (I f a script) (J f a script))
    I J face is
    (λ f a script h. singles_follow (setting_of p o f a) (bodies_of p) (bodies_of q) (F f a script) (W f a script) (I f a script) (J f a script) (follow f a script h))
    (λ f a script h. singles_once (setting_of p o f a) (bodies_of p) (bodies_of q) (F f a script) (W f a script) (I f a script) (J f a script) (once f a script h))
    start
