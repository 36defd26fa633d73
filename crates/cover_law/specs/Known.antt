-- What is known of every state of a run beside its kinds, as invariants: words have 32 bits, arrays have fewer than 2^31
-- items, and methods, classes and objects are of what is live (Dalvik bytecode, "General Design"; this project's profile).
use Rattle.std.specs.Prelude.{◌≡◌, ◌<◌, ◌^◌, true, Option, Some, None, length}
use Rattle.dalvik_defs.specs.Face.{bodies_of}
use Rattle.dalvik_defs.specs.Outer.{Outer}
use Rattle.dalvik_defs.specs.Stack.{form_at}
use Rattle.dalvik_defs.specs.State.{World, Thing, Instance, Items}
use Rattle.dalvik_defs.specs.Under.{defines}
use Rattle.dalvik_defs.specs.declared.forms.Form.{Form}
use Rattle.dalvik_defs.specs.declared.names.FieldKey.{FieldKey}
use Rattle.dalvik_defs.specs.declared.program.NamedProgram.{NamedProgram}
use Rattle.dalvik_defs.specs.declared.script.Given.{Given}
use Rattle.dalvik_defs.specs.declared.script.Given.TheVariants as given
use Rattle.dalvik_defs.specs.declared.script.Move.{Move}
use Rattle.dalvik_defs.specs.declared.script.Move.TheVariants as move
use Rattle.dalvik_defs.specs.declared.state.Frame.{Frame}
use Rattle.dalvik_defs.specs.declared.state.Value.{Value}
use Rattle.run_laws.specs.Holds.{Each}
use Rattle.run_laws.specs.Invariant.{Invariant, Grows}
use Rattle.pass_defs.specs.Analysis.{IsRanged}
use Rattle.pass_defs.specs.Bare.{continues, may_throw}
use Rattle.pass_defs.specs.Live.{Family, IsClosedFamily, IsLiveMethod, IsMade, unconditional}
use Rattle.removal_law.specs.Reach.{OkType, MadeType, LiveMethod, ReachedAt}
use Rattle.removal_law.proofs.Worlds.{Kinds}

abbrev pub MaybeRanged : Option Value → Type 0
MaybeRanged None = Unit {0}
MaybeRanged (Some v) = IsRanged v

-- a word that the framework gives has 32 bits, and an array that it makes fewer than 2^31 items
abbrev pub RangedGiven : Given → Type 0
RangedGiven (given.Word n) = n < 2 ^ 32
RangedGiven (given.Array item size) = size < 2 ^ 31
RangedGiven g = Unit {0}

abbrev pub MaybeGiven : Option Given → Type 0
MaybeGiven None = Unit {0}
MaybeGiven (Some g) = RangedGiven g

abbrev pub RangedMove : Move → Type 0
RangedMove (move.Enter c n q gs) = Each RangedGiven gs
RangedMove (move.Return g) = MaybeGiven g
RangedMove (move.Put c n k on g) = MaybeGiven on × RangedGiven g
RangedMove (move.Get c n k on) = MaybeGiven on
RangedMove (move.Throw g) = RangedGiven g
RangedMove (move.ArrayPut on n g) = RangedGiven g
RangedMove x = Unit {0}

-- ---- words

abbrev pub RangedThing : Thing → Type 0
RangedThing (Instance c fields) = (k : FieldKey) (v : Value) → fields k ≡ Some v → IsRanged v
RangedThing (Items k vs) = (length vs < 2 ^ 31) × Each IsRanged vs

pub record RangedWorld (w : World) : Type 0 where
  pub statics : (k : FieldKey) (v : Value) → w.statics k ≡ Some v → IsRanged v
  pub things : Each RangedThing w.heap

pub record RangedFrame (f : Frame) : Type 0 where
  pub registers : Each IsRanged f.registers
  pub result : IsRanged f.result
  pub caught : IsRanged f.caught

-- each word has 32 bits, and each array fewer than 2^31 items
abbrev pub ranged_states : Invariant
ranged_states = record {
  outside = λ w c. RangedWorld w;
  top = λ w c f. RangedFrame f;
  waits = λ w a f. RangedFrame f;
  result = λ w k v. MaybeRanged v;
  thrown = λ w v. IsRanged v;
  class = λ t. Unit {0};
  move = RangedMove;
  later = Grows;
  ended = Unit {0};
}

-- ---- what is live

-- of every closed family of live sets
abbrev pub Always : NamedProgram → Outer → (Family → Type 0) → Type 0
Always p o P = (s : Family) → IsClosedFamily p o unconditional s → P s

-- a frame of a live method, at a position that a walk through its code comes to
abbrev pub LivesAt : NamedProgram → Family → Frame → Type 0
LivesAt p s f = LiveMethod p s f.method × ReachedAt p f.method f.position

-- a frame of which the form may throw, and goes on behind itself
abbrev pub MayWait : NamedProgram → Frame → Type 0
MayWait p f = (x : Form) × ((form_at (bodies_of p) f ≡ Some x) × ((continues x ≡ true) × (may_throw x ≡ true)))

-- things are of live types, and of made classes
abbrev pub LiveThings : NamedProgram → Outer → Family → World → Type 0
LiveThings p o s w = Kinds (OkType p s) w.heap × Kinds (MadeType p o s) w.heap

-- methods that run are live, and so are classes that are initialised, and objects are of made classes
abbrev pub live_states : NamedProgram → Outer → Invariant
live_states p o = record {
  outside = λ w c. Always p o (λ s. LiveThings p o s w);
  top = λ w c f. Always p o (λ s. LivesAt p s f);
  waits = λ w a f. Always p o (λ s. LivesAt p s f × MayWait p f);
  result = λ w k v. Unit {0};
  thrown = λ w v. Unit {0};
  class = λ t. Always p o (λ s. OkType p s t);
  move = λ x. Unit {0};
  later = Grows;
  ended = Unit {0};
}

-- an object of a class of the program is of a made one
abbrev pub MadeThing : NamedProgram → Outer → Thing → Type 0
MadeThing p o (Instance c fields) = defines p c ≡ true → IsMade p o unconditional c
MadeThing p o (Items k vs) = Unit {0}

-- ---- both

pub record KnownWorld (p : NamedProgram) (o : Outer) (w : World) : Type 0 where
  pub ranged : RangedWorld w
  pub made : Each (MadeThing p o) w.heap

pub record KnownFrame (p : NamedProgram) (o : Outer) (f : Frame) : Type 0 where
  pub ranged : RangedFrame f
  pub live : IsLiveMethod p o unconditional f.method
