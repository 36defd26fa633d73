-- Code items (Dalvik executable format, "code_item").
use Rattle.std.specs.Prelude.{◌≡◌, ◌+◌, ◌*◌, ◌%◌, ℕ, List, length, nat_lt, ◌&&◌, ◌==◌, if◌then◌else◌}
use Rattle.dex_base.specs.Word.{Is16, Is32}
use Rattle.dex_base.specs.Decides.{Each, Entries}
use Rattle.program_model.specs.declared.body.Body.{Body}
use Rattle.dex_defs.specs.Sweep.{Piece, Places, IsSwept, instructions, places_of}
use Rattle.dex_defs.specs.Instructions.{AreInsns}
use Rattle.dex_defs.specs.Handlers.{Try, IsTry, covering, AreRegions}

-- the six numbers with which a code item begins; outs_size may be any number
pub record Frame : Type 0 where
  pub registers : ℕ
  pub ins : ℕ
  pub outs : ℕ
  pub tries : ℕ
  pub debug : ℕ
  pub size : ℕ

pub record IsFrame (bytes : List ℕ) (at : ℕ) (f : Frame) : Type 0 where
  pub registers : Is16 bytes at f.registers
  pub ins : Is16 bytes (at + 2) f.ins
  pub outs : Is16 bytes (at + 4) f.outs
  pub tries : Is16 bytes (at + 6) f.tries
  pub debug : Is32 bytes (at + 8) f.debug
  pub size : Is32 bytes (at + 12) f.size

abbrev pub AreUnits : List ℕ → ℕ → List ℕ → Type 0
AreUnits bytes at units = Each (λ i unit. Is16 bytes (at + 16 + 2 * i) unit) 0 units

-- a unit stands before the try items of an odd number of units
abbrev pub gap_of : Frame → ℕ
gap_of f = if nat_lt 0 f.tries && f.size % 2 == 1 then 2 else 0

-- where the try items begin, and the handler lists behind them
abbrev pub tries_at : ℕ → Frame → ℕ
tries_at at f = at + 16 + 2 * f.size + gap_of f

abbrev pub lists_at : ℕ → Frame → ℕ
lists_at at f = tries_at at f + 8 * f.tries

-- the code item at this place has this frame, these units and try items, and is this body; its instructions begin where places says
pub record IsCode (bytes : List ℕ) (types at : ℕ) (f : Frame) (places : Places) (body : Body) : Type 0 where
  pub frame : IsFrame bytes at f
  pub registers : f.registers ≡ body.registers
  pub ins : f.ins ≡ body.ins
  pub units : List ℕ
  pub many : length units ≡ f.size
  pub are_units : AreUnits bytes at units
  pub pieces : List Piece
  pub swept : IsSwept units pieces
  pub placed : places ≡ places_of units pieces
  pub insns : AreInsns places (instructions pieces) body.insns
  pub tries : List Try
  pub are_tries : Entries f.tries (λ i. IsTry bytes (tries_at at f + 8 * i)) tries
  pub regions : AreRegions bytes places (lists_at at f) types (covering places tries) body.regions
