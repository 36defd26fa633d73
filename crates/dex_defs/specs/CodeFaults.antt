-- What is wrong with the code of a method (Dalvik bytecode, and Dalvik executable format, "code_item"). Units, instructions and
-- try items are judged one by one; a fault stands whatever else is wrong.
use Rattle.std.specs.Prelude.{◌≡◌, ◌+◌, ◌*◌, ◌<◌, ◌≤◌, ◌%◌, ℕ, suc, pos, List, [], ◌∷◌, ◌++◌, length, drop, take, slice_index, slice_get, Bool, true, false, not, ◌||◌, ◌==◌, Some, None}
use Rattle.std.specs.List.{list_any}
use Rattle.insn_set.specs.Spelling.{is_width, keys_ascend}
use Rattle.code_read.specs.declared.fault.CodeFault.{CodeFault}
use Rattle.code_read.specs.declared.fault.CodeFault.TheVariants as code
use Rattle.code_read.specs.declared.fields.Fields.{Fields}
use Rattle.code_read.specs.declared.sizes.Sizes.{Sizes}
use Rattle.code_read.specs.Checks.{operands_inside}
use Rattle.code_read.specs.Forms.{plain}
use Rattle.code_read.specs.Opcodes.{format_at, from_to}
use Rattle.code_read.specs.Branches.{offset_form, branch_form}
use Rattle.dex_base.specs.Decides.{Entries}
use Rattle.dex_defs.specs.Sweep.{Piece, Places, PiecesTo, IsSwept, piece_size, payload_kind, instructions, places_of}
use Rattle.dex_defs.specs.Instructions.{HasFields, opcode, is_branch, is_call, has_payload, most_words, call_form, GoesTo, IsPayloadOf, signed_at}
use Rattle.dex_defs.specs.Handlers.{Try, Catches, IsTry, covers, covering, AreCatchesAt}
use Rattle.dex_defs.specs.CodeItems.{Frame, IsFrame, AreUnits, tries_at, lists_at}

-- a code item whose units are there
pub record HasUnits (bytes : List ℕ) (at : ℕ) (f : Frame) (units : List ℕ) : Type 0 where
  pub frame : IsFrame bytes at f
  pub many : length units ≡ f.size
  pub are : AreUnits bytes at units

-- ---- faults of the sweep

-- the sweep comes to this unit
pub record Comes (units : List ℕ) (unit : ℕ) : Type 0 where
  pub pieces : List Piece
  pub to : PiecesTo units 0 pieces unit
  pub inside : unit < length units

pub data BadSweep (units : List ℕ) (f : CodeFault) : Type 0 where
  Opcode : (unit : ℕ) → Comes units unit → payload_kind (slice_index units unit) ≡ 0 → format_at (slice_index units unit % 256) ≡ None → f ≡ code.Opcode unit → BadSweep units f
  Cut : (unit size : ℕ) → Comes units unit → piece_size (drop unit units) ≡ Some size → length units < unit + size → f ≡ code.Cut unit → BadSweep units f
  CutSize : (unit : ℕ) → Comes units unit → 0 < payload_kind (slice_index units unit) → piece_size (drop unit units) ≡ None → f ≡ code.Cut unit → BadSweep units f

-- ---- faults of an instruction

-- an instruction of the code, its position and its fields
pub record HasInsn (pieces : List Piece) (k : ℕ) (p : Piece) (f : Fields) : Type 0 where
  pub is : slice_get (instructions pieces) k ≡ Some p
  pub fields : HasFields p f

-- the kind of payload that an opcode names
abbrev pub kind_for : ℕ → ℕ
kind_for op = elim (op == 0x26) [ true ↦ 3 | false ↦ elim (op == 0x2b) [ true ↦ 1 | false ↦ 2 ] ]

pub data BadPayload (places : Places) (p : Piece) (f : Fields) : Type 0 where
  Missing : ((unit : ℕ) → IsPayloadOf places p.start f (kind_for (opcode p)) unit → ⊥) → BadPayload places p f
  Width : (unit : ℕ) → opcode p ≡ 0x26 → IsPayloadOf places p.start f 3 unit → is_width (slice_index places.units (unit + 1)) ≡ false → BadPayload places p f
  Keys : (unit k : ℕ) → opcode p ≡ 0x2c → IsPayloadOf places p.start f 2 unit → suc k < slice_index places.units (unit + 1)
      → keys_ascend (signed_at places.units (unit + 2 + 2 * k) ∷ signed_at places.units (unit + 4 + 2 * k) ∷ []) ≡ false → BadPayload places p f

pub data BadOperand (sizes : Sizes) (p : Piece) (f : Fields) : Type 0 where
  Plain : (is_branch (opcode p) || (is_call (opcode p) || has_payload (opcode p))) ≡ false → operands_inside sizes (plain (opcode p) f) ≡ false → BadOperand sizes p f
  Branch : is_branch (opcode p) ≡ true → operands_inside sizes (branch_form (opcode p) f 0) ≡ false → BadOperand sizes p f
  Words : is_call (opcode p) ≡ true → most_words (opcode p) f < f.a → BadOperand sizes p f
  Call : is_call (opcode p) ≡ true → operands_inside sizes (call_form (opcode p) f) ≡ false → BadOperand sizes p f
  Table : has_payload (opcode p) ≡ true → sizes.registers ≤ f.a → BadOperand sizes p f

-- where the offsets of a switch's payload begin
abbrev pub offsets_at : Places → Piece → ℕ → ℕ
offsets_at places p unit = elim (opcode p == 0x2b) [ true ↦ unit + 4 | false ↦ unit + 2 + 2 * slice_index places.units (unit + 1) ]

pub data BadTarget (places : Places) (p : Piece) (f : Fields) : Type 0 where
  Nowhere : is_branch (opcode p) ≡ true → ((target : ℕ) → GoesTo places p.start (offset_form (opcode p) f) target → ⊥) → BadTarget places p f
  Itself : is_branch (opcode p) ≡ true → offset_form (opcode p) f ≡ pos 0 → (opcode p ≡ 0x2a → ⊥) → BadTarget places p f
  Switch : (unit k : ℕ) → from_to (opcode p) 0x2b 0x2c ≡ true → IsPayloadOf places p.start f (kind_for (opcode p)) unit → k < slice_index places.units (unit + 1)
      → ((target : ℕ) → GoesTo places p.start (signed_at places.units (offsets_at places p unit + 2 * k)) target → ⊥) → BadTarget places p f

-- returns, throws and gotos don't continue
abbrev pub continues : ℕ → Bool
continues op = not (from_to op 0x0e 0x11 || from_to op 0x27 0x2a)

-- a unit at which no instruction begins
abbrev pub NoPosition : Places → ℕ → Type 0
NoPosition places unit = list_any (λ u. u == unit) places.starts ≡ false

pub data BadInsn (sizes : Sizes) (units : List ℕ) (pieces : List Piece) (fault : CodeFault) : Type 0 where
  Payload : (k : ℕ) (p : Piece) (f : Fields) → HasInsn pieces k p f → has_payload (opcode p) ≡ true → BadPayload (places_of units pieces) p f → fault ≡ code.Payload p.start → BadInsn sizes units pieces fault
  Operand : (k : ℕ) (p : Piece) (f : Fields) → HasInsn pieces k p f → BadOperand sizes p f → fault ≡ code.Operand p.start → BadInsn sizes units pieces fault
  Target : (k : ℕ) (p : Piece) (f : Fields) → HasInsn pieces k p f → BadTarget (places_of units pieces) p f → fault ≡ code.Target p.start → BadInsn sizes units pieces fault
  FallsOff : (k : ℕ) (p : Piece) (f : Fields) → HasInsn pieces k p f → continues (opcode p) ≡ true → NoPosition (places_of units pieces) (p.start + length p.text) → fault ≡ code.FallsOff p.start → BadInsn sizes units pieces fault
  Empty : instructions pieces ≡ [] → fault ≡ code.FallsOff 0 → BadInsn sizes units pieces fault

-- ---- faults of regions

pub record HasTries (bytes : List ℕ) (at : ℕ) (f : Frame) (tries : List Try) : Type 0 where
  pub are : Entries f.tries (λ i. IsTry bytes (tries_at at f + 8 * i)) tries

-- the last try item before this place that covers a position
pub record IsBefore (places : Places) (tries : List Try) (place : ℕ) (t : Try) : Type 0 where
  pub front : List Try
  pub are : covering places (take place tries) ≡ front ++ t ∷ []

pub data BadRegion (places : Places) (tries : List Try) (place : ℕ) (t : Try) : Type 0 where
  Begins : NoPosition places t.start → BadRegion places tries place t
  Ends : length places.units < t.start + t.count → BadRegion places tries place t
  Behind : (before : Try) → IsBefore places tries place before → t.start < before.start + before.count → BadRegion places tries place t

pub data BadCatches (places : Places) (types : ℕ) (c : Catches) : Type 0 where
  Kind : (i kind unit : ℕ) → slice_get c.pairs i ≡ Some (kind, unit) → types ≤ kind → BadCatches places types c
  Unit : (i kind unit : ℕ) → slice_get c.pairs i ≡ Some (kind, unit) → NoPosition places unit → BadCatches places types c
  Rest : (unit : ℕ) → c.rest ≡ Some unit → NoPosition places unit → BadCatches places types c

pub data BadTry (bytes : List ℕ) (at types : ℕ) (f : Frame) (places : Places) (fault : CodeFault) : Type 0 where
  Lies : (tries : List Try) (place : ℕ) (t : Try) → HasTries bytes at f tries → slice_get tries place ≡ Some t → covers places t ≡ true → BadRegion places tries place t → fault ≡ code.Region place → BadTry bytes at types f places fault
  Missing : (tries : List Try) (place : ℕ) (t : Try) → HasTries bytes at f tries → slice_get tries place ≡ Some t → covers places t ≡ true → ((c : Catches) → AreCatchesAt bytes (lists_at at f) t.offset c → ⊥) → fault ≡ code.Handler place → BadTry bytes at types f places fault
  Catch : (tries : List Try) (place : ℕ) (t : Try) (c : Catches) → HasTries bytes at f tries → slice_get tries place ≡ Some t → covers places t ≡ true → AreCatchesAt bytes (lists_at at f) t.offset c → BadCatches places types c → fault ≡ code.Handler place → BadTry bytes at types f places fault

-- ---- moves of results and of caught objects

-- a branch or a switch of the code goes to this position
pub data IsGoneTo (units : List ℕ) (pieces : List Piece) (position : ℕ) : Type 0 where
  ByBranch : (k : ℕ) (p : Piece) (f : Fields) → HasInsn pieces k p f → is_branch (opcode p) ≡ true → GoesTo (places_of units pieces) p.start (offset_form (opcode p) f) position → IsGoneTo units pieces position
  BySwitch : (k unit i : ℕ) (p : Piece) (f : Fields) → HasInsn pieces k p f → from_to (opcode p) 0x2b 0x2c ≡ true → IsPayloadOf (places_of units pieces) p.start f (kind_for (opcode p)) unit → i < slice_index units (unit + 1)
      → GoesTo (places_of units pieces) p.start (signed_at units (offsets_at (places_of units pieces) p unit + 2 * i)) position → IsGoneTo units pieces position

-- the handler list of a region that the body keeps
pub record HasCatches (bytes : List ℕ) (at : ℕ) (f : Frame) (places : Places) (catches : Catches) : Type 0 where
  pub tries : List Try
  pub has : HasTries bytes at f tries
  pub place : ℕ
  pub t : Try
  pub is : slice_get tries place ≡ Some t
  pub covers : covers places t ≡ true
  pub are : AreCatchesAt bytes (lists_at at f) t.offset catches

-- a handler of a kept region begins at this unit
pub data IsHandlerAt (bytes : List ℕ) (at : ℕ) (f : Frame) (places : Places) (unit : ℕ) : Type 0 where
  OfType : (c : Catches) (i kind : ℕ) → HasCatches bytes at f places c → slice_get c.pairs i ≡ Some (kind, unit) → IsHandlerAt bytes at f places unit
  OfAll : (c : Catches) → HasCatches bytes at f places c → c.rest ≡ Some unit → IsHandlerAt bytes at f places unit

abbrev pub moves_result : ℕ → Bool
moves_result op = from_to op 0x0a 0x0c

abbrev pub moves_caught : ℕ → Bool
moves_caught op = op == 0x0d

-- A move-result stands directly behind a call or a filled-new-array, and neither a branch nor a handler goes to it. A move-exception is
-- where a handler begins, no branch goes to it, and nothing continues into it. Here one of these is not so.
pub data BadMove (bytes : List ℕ) (at : ℕ) (f : Frame) (units : List ℕ) (pieces : List Piece) (k : ℕ) (p : Piece) : Type 0 where
  GoneTo : (moves_result (opcode p) || moves_caught (opcode p)) ≡ true → IsGoneTo units pieces k → BadMove bytes at f units pieces k p
  First : moves_result (opcode p) ≡ true → k ≡ 0 → BadMove bytes at f units pieces k p
  BehindNone : (before : ℕ) (q : Piece) → moves_result (opcode p) ≡ true → k ≡ suc before → slice_get (instructions pieces) before ≡ Some q → is_call (opcode q) ≡ false → BadMove bytes at f units pieces k p
  Handled : moves_result (opcode p) ≡ true → IsHandlerAt bytes at f (places_of units pieces) p.start → BadMove bytes at f units pieces k p
  Continued : (before : ℕ) (q : Piece) → moves_caught (opcode p) ≡ true → k ≡ suc before → slice_get (instructions pieces) before ≡ Some q → continues (opcode q) ≡ true → BadMove bytes at f units pieces k p
  Unhandled : moves_caught (opcode p) ≡ true → (IsHandlerAt bytes at f (places_of units pieces) p.start → ⊥) → BadMove bytes at f units pieces k p

-- ---- all of them: the code item at this place, with the sizes of the tables
pub data BadCode (bytes : List ℕ) (sizes : Sizes) (at : ℕ) (fault : CodeFault) : Type 0 where
  InSweep : (f : Frame) (units : List ℕ) → HasUnits bytes at f units → BadSweep units fault → BadCode bytes sizes at fault
  AtInsn : (f : Frame) (units : List ℕ) (pieces : List Piece) → HasUnits bytes at f units → IsSwept units pieces → BadInsn sizes units pieces fault → BadCode bytes sizes at fault
  InTries : (f : Frame) (units : List ℕ) (pieces : List Piece) → HasUnits bytes at f units → IsSwept units pieces → BadTry bytes at sizes.types f (places_of units pieces) fault → BadCode bytes sizes at fault
  AtMove : (f : Frame) (units : List ℕ) (pieces : List Piece) (k : ℕ) (p : Piece) → HasUnits bytes at f units → IsSwept units pieces → slice_get (instructions pieces) k ≡ Some p → BadMove bytes at f units pieces k p
      → fault ≡ code.Misplaced p.start → BadCode bytes sizes at fault
