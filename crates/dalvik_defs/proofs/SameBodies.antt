-- The law of frames at equality: programs with one face and the same body for each method show the same.
use Rattle.std.proofs.Common.{◌≡◌, false, true≢false, List, [], Option, Some, None, refl, sym, ap, ◌∙◌, subst}
use Rattle.std.specs.Prelude.{slice_get}
use Rattle.std.specs.Option.{option_map, option_and_then}
use Rattle.dalvik_defs.specs.Face.{Bodies, face_of, bodies_of}
use Rattle.dalvik_defs.specs.Outer.{Outer}
use Rattle.dalvik_defs.specs.State.{World, Classes, Value, Frame, Waiting, State, kind_of}
use Rattle.dalvik_defs.specs.Effect.{go}
use Rattle.dalvik_defs.specs.Outcome.{Outcome, Stays, Starts, Enters, Leaves, Ends, Raises, Halts, need_of, outcome}
use Rattle.dalvik_defs.specs.Stack.{receives, back, handler_at, lands}
use Rattle.dalvik_defs.specs.Happens.{Setting, effect_of}
use Rattle.dalvik_defs.specs.Step.{setting_of}
use Rattle.dalvik_defs.specs.Shown.{SameShown}
use Rattle.dalvik_defs.specs.declared.names.MethodKey.{MethodKey}
use Rattle.dalvik_defs.specs.declared.program.NamedBody.{NamedBody}
use Rattle.dalvik_defs.specs.declared.script.Move.{Move}
use Rattle.dalvik_defs.specs.declared.program.NamedProgram.{NamedProgram}
use Rattle.dalvik_defs.specs.declared.tables.Framework.{Framework}
use Rattle.dalvik_defs.proofs.Calm.{IsCalm}
use Rattle.dalvik_defs.proofs.Frames.{Above, now, Landed, Leads, Matches, Meet, Entered, FramesFollow}
use Rattle.dalvik_defs.proofs.Glides.{glide_none}
use Rattle.dalvik_defs.proofs.Programs.{frames_shown}

abbrev Equal : World → Classes → Frame → Frame → Type 0
Equal w c f g = f ≡ g

abbrev EqualFrames : Above → Frame → Frame → Type 0
EqualFrames a f g = f ≡ g

abbrev Any : State → Type 0
Any t = Unit {0}

module _ (s : Setting) (find other : Bodies) (same : (k : MethodKey) → find k ≡ other k) where
  same_now : (w : World) (c : Classes) (f : Frame) → now s other w c f ≡ now s find w c f
  same_now w c f = ap (λ b. outcome s.face (need_of s.face c) (effect_of s (option_and_then (λ x. slice_get x.forms f.position) b) w f) w f) (sym (same f.method))

  same_lands : (w : World) (f : Frame) (v : Value) → lands s.face other w f v ≡ lands s.face find w f v
  same_lands w f v = ap (λ b. option_map (λ at. record (go f at) { caught = v }) (option_and_then (handler_at (s.face.under (kind_of w v)) f.position) b)) (sym (same f.method))

  same_back : (f : Frame) (v : Option Value) → back find f v ≡ back other f v
  same_back f None = refl
  same_back f (Some v) = ap (λ b. receives (option_and_then (λ x. slice_get x.forms f.position) b) f v) (same f.method)

  landed : (w : World) (c : Classes) (rest rest' : List Waiting) (script : List Move) (o o' : Option Frame) → o' ≡ o → Landed s find other Equal EqualFrames Any Any w c rest rest' script o o'
  landed w c rest rest' script None o' e = e
  landed w c rest rest' script (Some g) o' e = (g, (e, λ i j. refl))

  leads : (w : World) (c : Classes) (f : Frame) (o o' : Outcome) → o' ≡ o → Leads s find other Equal EqualFrames Any Any w c f o f o'
  leads w c f (Stays w1 f1 x) o' e = (f1, (e, refl))
  leads w c f (Starts t) o' e = (e, refl)
  leads w c f (Enters k vs) o' e = (e, refl)
  leads w c f (Leaves w1 owes x) o' e = (e, refl)
  leads w c f (Ends v) o' e = (e, refl)
  leads w c f (Raises w1 v) o' e = (e, λ rest rest' script. landed w1 c rest rest' script (lands s.face find w1 f v) (lands s.face other w1 f v) (same_lands w1 f v))
  leads w c f Halts o' e = e

  matches : (w : World) (c : Classes) (f g : Frame) → f ≡ g → Matches s find other Equal EqualFrames Any Any w c f g
  matches w c f g h = subst (λ x. Matches s find other Equal EqualFrames Any Any w c f x) h
      (Meet 0 0 w c f f (glide_none s find w c f) (glide_none s other w c f) (leads w c f (now s find w c f) (now s other w c f) (same_now w c f)))

  entered : (w : World) (c : Classes) (rest rest' : List Waiting) (script : List Move) (k : MethodKey) (vs : List Value) (o o' : Option NamedBody) → o' ≡ o
      → Entered s find other Equal EqualFrames Any Any w c rest rest' script k vs o o'
  entered w c rest rest' script k vs None o' e = e
  entered w c rest rest' script k vs (Some b) o' e = (b, (e, (refl, λ l i j. refl)))

  follow : FramesFollow s find other Equal EqualFrames Any Any
  follow = record {
    steps = λ w c f g rest rest' script h i j. matches w c f g h;
    entries = λ w c rest rest' script k vs. entered w c rest rest' script k vs (find k) (other k) (sym (same k));
    returns = λ w c f g rest rest' script a v m h i j. same_back f v ∙ ap (λ x. back other x v) h;
    retries = λ w c f g rest rest' script h i j. h;
    throws = λ w c f g rest rest' script a v h. subst (λ x. Landed s find other Equal EqualFrames Any Any w c rest rest' script (lands s.face find w f v) (lands s.face other w x v)) h
        (landed w c rest rest' script (lands s.face find w f v) (lands s.face other w f v) (same_lands w f v));
    keeps = λ t i. tt;
    keeps_other = λ t j. tt;
  }

no_calm : (s : Setting) → IsCalm s (λ t. false)
no_calm s = record { initialiser = λ t e. absurd (true≢false (sym e)); grounded = λ t e. absurd (true≢false (sym e)) }

pub same_by_bodies : (p q : NamedProgram) (o : Outer) → ((f : Framework) → face_of p f ≡ face_of q f) → ((k : MethodKey) → bodies_of p k ≡ bodies_of q k) → SameShown p q o
same_by_bodies p q o face same = frames_shown p q o (λ f t. false) (λ f a script. Equal) (λ f a script. Equal) (λ f a script. EqualFrames) (λ f a script. EqualFrames) (λ f a script. Any) (λ f a script. Any)
    face (λ f a. no_calm (setting_of p o f a))
    (λ f a script h. follow (setting_of p o f a) (bodies_of p) (bodies_of q) same)
    (λ f a script h. follow (setting_of p o f a) (bodies_of q) (bodies_of p) (λ k. sym (same k)))
    (λ f a script h. (tt, tt))
