-- How many positions the longest body of a number has, and frames for so many.
use Rattle.std.specs.Prelude.{◌≡◌, ℕ, ◌<◌, ◌≤◌, List, Option, Some, None, length, slice_get, slice_index_or}
use Rattle.std.specs.Option.{option_map}
use Rattle.program_model.specs.declared.body.Body.{Body}
use Rattle.program_model.specs.declared.program.Class.{Class}
use Rattle.program_model.specs.declared.program.Method.{Method}
use Rattle.dom_frame.specs.declared.frames.Frame.{Frame}
use Rattle.dom_frame.specs.Registers.{Registers}

-- counts only rise
pub record Rises (old new : List ℕ) : Type 0 where
  pub long : length new ≡ length old
  pub more : (n : ℕ) → slice_index_or old n 0 ≤ slice_index_or new n 0

-- a body counts by a number, and has no more registers than 16 bits count
pub record IsCounted (counts : List ℕ) (number : ℕ) (b : Body) : Type 0 where
  pub room : b.registers ≤ 65535
  pub long : number < length counts → length b.insns ≤ slice_index_or counts number 0

abbrev pub CountsBody : List ℕ → Method → Type 0
CountsBody counts m = (b : Body) → m.body ≡ Some b → IsCounted counts m.name b

-- the first so many methods count
abbrev pub CountsTo : List ℕ → ℕ → List Method → Type 0
CountsTo counts done methods = (i : ℕ) (m : Method) → i < done → slice_get methods i ≡ Some m → CountsBody counts m

-- all methods of the first so many classes do
abbrev pub CountsClasses : List ℕ → ℕ → List Class → Type 0
CountsClasses counts done classes = (i : ℕ) (c : Class) → i < done → slice_get classes i ≡ Some c → CountsTo counts (length c.methods) c.methods

abbrev pub registers_in : Option Frame → Option Registers
registers_in o = option_map (λ f. f.registers) o

-- a run comes to each of the first so many positions with these registers
abbrev pub ComesTo : Registers → ℕ → List (Option Frame) → Type 0
ComesTo x count frames = (n : ℕ) → n < count → registers_in (slice_index_or frames n None) ≡ Some x

-- there are just as many frames
pub record AreFrames (x : Registers) (count : ℕ) (frames : List (Option Frame)) : Type 0 where
  pub long : length frames ≡ count
  pub come : ComesTo x count frames
