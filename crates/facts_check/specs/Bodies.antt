-- When the frames of a body are filled in.
use Rattle.std.specs.Prelude.{◌≡◌, ℕ, zero, suc, ◌+◌, ◌<◌, true, List, Option, Some, None, length, slice_get, slice_index_or}
use Rattle.std.specs.Option.{option_map}
use Rattle.insn_set.specs.declared.form.Insn.{Insn}
use Rattle.program_model.specs.declared.body.Body.{Body}
use Rattle.dom_frame.specs.declared.frames.Frame.{Frame}
use Rattle.dom_frame.specs.Registers.{Registers}
use Rattle.closed_facts.specs.Tables.{Arrives}
use Rattle.closed_facts.specs.Entries.{BeginsAt}
use Rattle.facts_check.specs.declared.known.Known.{Known}
use Rattle.facts_check.specs.declared.starts.Start.{Start}
use Rattle.facts_check.specs.declared.starts.Start.TheVariants.{Comes}
use Rattle.facts_check.specs.Known.{is_marked}
use Rattle.facts_check.specs.Placed.{IsPlaced}

abbrev pub registers_in : Option Frame → Option Registers
registers_in o = option_map (λ f. f.registers) o

-- the registers at a position, none past the end
abbrev pub registers_of : List (Option Frame) → ℕ → Option Registers
registers_of frames n = registers_in (slice_index_or frames n None)

-- the instruction in front of a position
abbrev pub insn_before : List Insn → ℕ → Option Insn
insn_before insns zero = None
insn_before insns (suc n) = slice_get insns n

-- what stands at a position where others come from the one before: what is known at the beginning of a block, at or above them
pub record IsArrived (s : Option Start) (next here : Option Registers) : Type 0 where
  pub kept : (y : Registers) → s ≡ Some (Comes y) → here ≡ Some y
  pub onto : (c : Registers) → next ≡ Some c → Arrives c here

module _ (k : Known) (class method : ℕ) (b : Body) (starts : List Start) where
  -- what a position hands on, where a run comes to it
  pub record IsStep (n : ℕ) (here next : Option Registers) : Type 0 where
    pub placed : (i : Insn) (x : Registers) → slice_get b.insns n ≡ Some i → here ≡ Some x → IsPlaced k class method b starts n (insn_before b.insns n) i x next

  -- what a position hands on comes to the next one
  pub record IsLinked (frames : List (Option Frame)) (n : ℕ) : Type 0 where
    pub next : Option Registers
    pub step : IsStep n (registers_of frames n) next
    pub onto : (c : Registers) → next ≡ Some c → Arrives c (registers_of frames (n + 1))

  abbrev pub IsKept : List (Option Frame) → ℕ → Type 0
  IsKept frames n = (y : Registers) → slice_get starts n ≡ Some (Comes y) → registers_of frames n ≡ Some y

  -- so many frames are filled in, and the last one hands something on
  pub record IsFilling (frames : List (Option Frame)) (n : ℕ) (next : Option Registers) : Type 0 where
    pub long : length frames ≡ n
    pub kept : (j : ℕ) → j < n → IsKept frames j
    pub linked : (j : ℕ) → j + 1 < n → IsLinked frames j
    pub last : (j : ℕ) → j + 1 ≡ n → IsStep j (registers_of frames j) next

  -- each position hands on what comes to the next one, and blocks begin with what is known there
  pub record IsFilled (frames : List (Option Frame)) : Type 0 where
    pub kept : (j : ℕ) → IsKept frames j
    pub linked : (j : ℕ) → j < length b.insns → IsLinked frames j

-- the frames of a method, by its number, in the class at a place: of a live one, where any position is reached
pub record AreFrames (k : Known) (class method : ℕ) (b : Body) (frames : List (Option Frame)) : Type 0 where
  pub starts : List Start
  pub filled : IsFilled k class method b starts frames
  pub begins : (x : Registers) → registers_of frames 0 ≡ Some x → BeginsAt k.facts.now method b x
  pub live : (n : ℕ) (x : Registers) → registers_of frames n ≡ Some x → is_marked k.live.now.methods.items method ≡ true
