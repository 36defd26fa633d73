-- What an invariant of a run says: of the frame on top, of a frame that waits, of what is given and thrown, and of all that
-- lies outside the frames.
use Rattle.std.specs.Prelude.{◌≡◌, ℕ, List, Option, Some, None, slice_get}
use Rattle.dalvik_defs.specs.Names.{Text}
use Rattle.dalvik_defs.specs.State.{World, Classes, Thing, kind_of_thing}
use Rattle.dalvik_defs.specs.declared.state.Value.{Value}
use Rattle.dalvik_defs.specs.declared.state.Frame.{Frame}
use Rattle.dalvik_defs.specs.declared.names.MethodKey.{MethodKey}
use Rattle.dalvik_defs.specs.declared.script.Move.{Move}

-- what stands directly above something that waits: the method that it called, a class that is initialised for it, or the
-- framework, which owes it an answer of a type
pub data Above : Type 0 where
  Callee : (method : MethodKey) → Above
  Begun : (class : Text) → Above
  Owing : (kind : Text) → Above

pub record Invariant : Type 1 where
  -- of the world and the statuses of classes, whatever the frames
  pub outside : World → Classes → Type 0
  -- of the frame on top, and of one that waits for what stands above it
  pub top : World → Classes → Frame → Type 0
  pub waits : World → Above → Frame → Type 0
  -- what a method may give, and what may be thrown
  pub result : World → MethodKey → Option Value → Type 0
  pub thrown : World → Value → Type 0
  -- which classes may be initialised, and which moves the framework may make
  pub class : Text → Type 0
  pub move : Move → Type 0
  -- what a later world keeps, for those that wait
  pub later : World → World → Type 0
  -- whether a run may end where no move ends it: not at all where this is the empty type
  pub ended : Type 0

-- ---- later worlds: what stands in the heap keeps its kind

-- a thing of a kind at a place
abbrev pub HasKind : Text → Option Thing → Type 0
HasKind k None = ⊥
HasKind k (Some t) = kind_of_thing t ≡ k

-- each thing of the one list stands in the other with its kind
abbrev pub Longer : List Thing → List Thing → Type 0
Longer xs ys = (n : ℕ) (k : Text) → HasKind k (slice_get xs n) → HasKind k (slice_get ys n)

pub record Grows (w w1 : World) : Type 0 where
  pub things : Longer w.heap w1.heap

-- two invariants at once, where what waits keeps as things keep their kinds; a run ends where the first says
abbrev pub both : Invariant → Invariant → Invariant
both i j = record {
  outside = λ w c. i.outside w c × j.outside w c;
  top = λ w c f. i.top w c f × j.top w c f;
  waits = λ w a f. i.waits w a f × j.waits w a f;
  result = λ w k v. i.result w k v × j.result w k v;
  thrown = λ w v. i.thrown w v × j.thrown w v;
  class = λ t. i.class t × j.class t;
  move = λ x. i.move x × j.move x;
  later = Grows;
  ended = i.ended;
}
