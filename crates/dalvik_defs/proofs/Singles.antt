-- The law of frames is the law of blocks of one frame.
use Rattle.std.proofs.Common.{ℕ, List, [], refl, ap}
use Rattle.std.specs.Prelude.{Option, Some, None}
use Rattle.dalvik_defs.specs.Face.{Bodies}
use Rattle.dalvik_defs.specs.State.{World, Classes, Value, Frame, Waiting, State, On}
use Rattle.dalvik_defs.specs.declared.names.MethodKey.{MethodKey}
use Rattle.dalvik_defs.specs.declared.program.NamedBody.{NamedBody}
use Rattle.dalvik_defs.specs.declared.script.Move.{Move}
use Rattle.dalvik_defs.specs.Outcome.{Outcome, Stays, Starts, Enters, Leaves, Ends, Raises, Halts}
use Rattle.dalvik_defs.specs.Stack.{entry_frame, back, lands}
use Rattle.dalvik_defs.specs.Happens.{Setting}
use Rattle.dalvik_defs.proofs.Frames.{now, Above, Begins, Comes, Glides, Landed, Leads, Matches, Stay, Meet, Entered, FramesFollow, AtOnce}
use Rattle.dalvik_defs.proofs.Blocks.{Block, alone, with_top, stacked, caught_or, catches, Glides as BlockGlides, Landed as BlockLanded, Leads as BlockLeads, Matches as BlockMatches, Stay as BlockStay, Meet as BlockMeet, Entered as BlockEntered, BlocksFollow, AtOnce as BlocksAtOnce}

pub data Single (F : Frame → Frame → Type 0) : Block → Block → Type 0 where
  One : (f g : Frame) → F f g → Single F (alone f) (alone g)

module _ (s : Setting) (find other : Bodies) (F : World → Classes → Frame → Frame → Type 0) (W : Above → Frame → Frame → Type 0) (I J : State → Type 0) where
  abbrev pub SingleTop : World → Classes → Block → Block → Type 0
  SingleTop w c = Single (F w c)

  abbrev pub SingleWait : Above → Block → Block → Type 0
  SingleWait a = Single (W a)

  glides : (b : Bodies) (w : World) (c : Classes) (f : Frame) (n : ℕ) (w1 : World) (c1 : Classes) (f1 : Frame) → Glides s b w c f n w1 c1 f1 → BlockGlides s b w c (alone f) n w1 c1 (alone f1)
  glides b w c f n w1 c1 f1 g = record { ends = g.ends; silent = g.silent }

  landed : (w : World) (c : Classes) (r r' : List Waiting) (script : List Move) (o o' : Option Frame) → Landed s find other F W I J w c r r' script o o' → BlockLanded s find other SingleTop SingleWait I J w c r r' script (caught_or [] o None) (caught_or [] o' None)
  landed w c r r' script None o' h = ap (λ z. caught_or [] z None) h
  landed w c r r' script (Some f) o' h = (alone h.0, (ap (λ z. caught_or [] z None) h.1.0, λ i j. One f h.0 (h.1.1 i j)))

  leads : (w : World) (c : Classes) (f g : Frame) (o o' : Outcome) → Leads s find other F W I J w c f o g o' → BlockLeads s find other SingleTop SingleWait I J w c (alone f) o (alone g) o'
  leads w c f g (Stays w1 f1 e) o' h = (h.0, (h.1.0, One f1 h.0 h.1.1))
  leads w c f g (Starts t) o' h = (h.0, One f g h.1)
  leads w c f g (Enters k vs) o' h = (h.0, One f g h.1)
  leads w c f g (Leaves w1 owes e) o' h = (h.0, One f g h.1)
  leads w c f g (Ends v) o' h = (h.0, (refl, (refl, h.1)))
  leads w c f g (Raises w1 v) o' h = (h.0, λ r r' script. landed w1 c r r' script (lands s.face find w1 f v) (lands s.face other w1 g v) (h.1 r r' script))
  leads w c f g Halts o' h = h

  matches : (w : World) (c : Classes) (f g : Frame) → Matches s find other F W I J w c f g → BlockMatches s find other SingleTop SingleWait I J w c (alone f) (alone g)
  matches w c f g (Stay k j w1 c1 f1 g1 a b h) = BlockStay k j w1 c1 (alone f1) (alone g1) (glides find w c f _ w1 c1 f1 a) (glides other w c g _ w1 c1 g1 b) (One f1 g1 h)
  matches w c f g (Meet k j w1 c1 f1 g1 a b l) = BlockMeet k j w1 c1 (alone f1) (alone g1) (glides find w c f _ w1 c1 f1 a) (glides other w c g _ w1 c1 g1 b) (leads w1 c1 f1 g1 (now s find w1 c1 f1) (now s other w1 c1 g1) l)

  entered : (w : World) (c : Classes) (r r' : List Waiting) (script : List Move) (k : MethodKey) (vs : List Value) (o o' : Option NamedBody) → Entered s find other F W I J w c r r' script k vs o o' → BlockEntered s find other SingleTop SingleWait I J w c r r' script k vs o o'
  entered w c r r' script k vs None o' h = h
  entered w c r r' script k vs (Some b) o' h = (h.0, (h.1.0, (h.1.1.0, λ l i j. One (entry_frame k vs b) (entry_frame k vs h.0) (h.1.1.1 l i j))))

  -- what the law of frames asks gives what the law of blocks asks
  pub singles_follow : FramesFollow s find other F W I J → BlocksFollow s find other SingleTop SingleWait I J
  singles_follow a = record {
    steps = λ w c x y r r' script h i j. steps w c x y r r' script h i j;
    entries = λ w c r r' script k vs. entered w c r r' script k vs (find k) (other k) (a.entries w c r r' script k vs);
    returns = λ w c x y r r' script e v m h i j. returns w c x y r r' script e v m h i j;
    retries = λ w c x y r r' script h i j. retries w c x y r r' script h i j;
    throws = λ w c x y r r' script e v h. throws w c x y r r' script e v h;
    keeps = a.keeps;
    keeps_other = a.keeps_other;
  }
    where
      steps : (w : World) (c : Classes) (x y : Block) (r r' : List Waiting) (script : List Move) → SingleTop w c x y → I (On w c (stacked x r) script) → J (On w c (stacked y r') script) → BlockMatches s find other SingleTop SingleWait I J w c x y
      steps w c _ _ r r' script (One f g h) i j = matches w c f g (a.steps w c f g r r' script h i j)

      returns : (w : World) (c : Classes) (x y : Block) (r r' : List Waiting) (script : List Move) (e : Above) (v : Option Value) → Comes e v → SingleWait e x y
          → I (On w c (stacked (with_top x (back find x.top v)) r) script) → J (On w c (stacked (with_top y (back other y.top v)) r') script) → SingleTop w c (with_top x (back find x.top v)) (with_top y (back other y.top v))
      returns w c _ _ r r' script e v m (One f g h) i j = One (back find f v) (back other g v) (a.returns w c f g r r' script e v m h i j)

      retries : (w : World) (c : Classes) (x y : Block) (r r' : List Waiting) (script : List Move) → SingleWait Begins x y → I (On w c (stacked x r) script) → J (On w c (stacked y r') script) → SingleTop w c x y
      retries w c _ _ r r' script (One f g h) i j = One f g (a.retries w c f g r r' script h i j)

      throws : (w : World) (c : Classes) (x y : Block) (r r' : List Waiting) (script : List Move) (e : Above) (v : Value) → SingleWait e x y → BlockLanded s find other SingleTop SingleWait I J w c r r' script (catches s.face find w v x) (catches s.face other w v y)
      throws w c _ _ r r' script e v (One f g h) = landed w c r r' script (lands s.face find w f v) (lands s.face other w g v) (a.throws w c f g r r' script e v h)

  -- and so for what goes on at once
  pub singles_once : AtOnce s find other F W I J → BlocksAtOnce s find other SingleTop SingleWait I J
  singles_once once = once_of
    where
      once_of : (w : World) (c : Classes) (x y : Block) (r r' : List Waiting) (script : List Move) → SingleTop w c x y → I (On w c (stacked x r) script) → J (On w c (stacked y r') script)
          → BlockLeads s find other SingleTop SingleWait I J w c x (now s find w c x.top) y (now s other w c y.top)
      once_of w c _ _ r r' script (One f g h) i j = leads w c f g (now s find w c f) (now s other w c g) (once w c f g r r' script h i j)
