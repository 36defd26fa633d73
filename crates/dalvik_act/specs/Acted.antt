-- What an instruction does in a frame and a world of a run: what the definition says, and all that a run keeps is kept.
use Rattle.std.specs.Prelude.{ℕ, ◌≡◌, ◌+◌, ◌<◌, ◌≤◌, ◌^◌, true, false, List, length, Option, Some, None, slice_get}
use Rattle.program_model.specs.declared.program.Program.{Program}
use Rattle.program_model.specs.OperandRules.{numbers_fit}
use Rattle.insn_set.specs.declared.form.Insn.{Insn}
use Rattle.insn_set.specs.declared.form.Insn.TheVariants as insn
use Rattle.insn_set.specs.Spelling.{is_encodable}
use Rattle.dalvik_defs.specs.Act.{act}
use Rattle.dalvik_defs.specs.Names.{is_array}
use Rattle.dalvik_defs.specs.Naming.{form_of, type_at}
use Rattle.dalvik_defs.specs.declared.tables.Floats.{Floats}
use Rattle.dalvik_lookups.specs.Facing.{run_face}
use Rattle.dalvik_lookups.specs.Tables.{IsRight}
use Rattle.dalvik_lookups.specs.Views.{IsKind}
use Rattle.dalvik_lookups.specs.Walks.{IsKept}
use Rattle.dalvik_lookups.specs.declared.lookups.Lookups.{Lookups}
use Rattle.dalvik_lookups.specs.declared.memo.Memo.{Memo}
use Rattle.dalvik_lookups.specs.declared.types.Kind.{Kind}
use Rattle.dalvik_state.specs.Effects.{effect_of}
use Rattle.dalvik_state.specs.Frames.{is_null_in, IsSameCode}
use Rattle.dalvik_state.specs.States.{IsSound, IsSoundFrame}
use Rattle.dalvik_state.specs.Views.{IsFine, IsFineFrame, frame_of, names_in, world_of}
use Rattle.dalvik_state.specs.Worlds.{spots_of}
use Rattle.dalvik_state.specs.declared.datum.Datum.{Datum}
use Rattle.dalvik_state.specs.declared.effect.Effect.{Effect}
use Rattle.dalvik_state.specs.declared.effect.Effect.TheVariants as effect
use Rattle.dalvik_state.specs.declared.frame.Frame.{Frame}
use Rattle.dalvik_state.specs.declared.world.World.{World}

-- ---- instructions

-- What makes an array names the type of one. Typed code does so; that a body is well-formed doesn't say it.
abbrev pub NamesArray : Program → Insn → Type 0
NamesArray p (insn.NewArray to size kind) = is_array (type_at p kind) ≡ true
NamesArray p (insn.FilledNewArray kind args) = is_array (type_at p kind) ≡ true
NamesArray p x = Unit {0}

-- an instruction of a well-formed body
pub record Fits (p : Program) (x : Insn) : Type 0 where
  pub encodable : is_encodable x ≡ true
  pub numbers : numbers_fit x p ≡ true

-- ---- effects

-- a value that is fine and not null
pub record IsReferred (l : Lookups) (size : ℕ) (d : Datum) : Type 0 where
  pub fine : IsFine (names_in l) size d
  pub there : is_null_in d ≡ false

abbrev pub IsGivenBack : Lookups → ℕ → Option Datum → Type 0
IsGivenBack l size None = Unit {0}
IsGivenBack l size (Some d) = IsFine (names_in l) size d

abbrev pub IsOn : Lookups → ℕ → Option Datum → Type 0
IsOn l size None = Unit {0}
IsOn l size (Some d) = IsReferred l size d

-- a field that is read, and one that is written
pub record IsRead (l : Lookups) (size at : ℕ) (o : Option Datum) : Type 0 where
  pub field : at < length l.program.now.fields
  pub on : IsOn l size o

pub record IsStored (l : Lookups) (size at : ℕ) (o : Option Datum) (d : Datum) : Type 0 where
  pub read : IsRead l size at o
  pub value : IsFine (names_in l) size d

-- an effect whose numbers are those of the tables, and whose values refer to what is there
abbrev pub IsFineEffect : Lookups → ℕ → Effect → Type 0
IsFineEffect l size effect.Goes = Unit {0}
IsFineEffect l size (effect.Faults class) = class < 20
IsFineEffect l size (effect.Throws d) = IsReferred l size d
IsFineEffect l size (effect.Gives value) = IsGivenBack l size value
IsFineEffect l size (effect.Calls kind method args) = method < length l.program.now.methods
IsFineEffect l size (effect.Makes to kind) = kind < length l.program.now.types
IsFineEffect l size (effect.Reads item to field on) = IsRead l size field on
IsFineEffect l size (effect.Writes field on value) = IsStored l size field on value
IsFineEffect l size (effect.Locks d) = IsReferred l size d
IsFineEffect l size (effect.Unlocks d) = IsReferred l size d
IsFineEffect l size effect.Stuck = Unit {0}

-- ---- what is kept

-- the frame goes at most one position on, or to a target
pub record IsPassed (l : Lookups) (size : ℕ) (old new : Frame) : Type 0 where
  pub fine : IsFineFrame (names_in l) size new
  pub code : IsSameCode old new
  pub paced : (steps : ℕ) → old.position ≤ 2 ^ 32 + steps → new.position ≤ 2 ^ 32 + (steps + 1)

pub record IsSafe (l : Lookups) (size : ℕ) (old new : Frame) (e : Effect) : Type 0 where
  pub frame : IsPassed l size old new
  pub effect : IsFineEffect l size e

-- a frame that is fine goes on so
abbrev pub IsSafely : Frame → Frame → Effect → Type 0
IsSafely old new e = (l : Lookups) (size : ℕ) → old.position < 2 ^ 63 → IsFineFrame (names_in l) size old → IsSafe l size old new e

-- the world has no fewer objects, and no lock has changed
pub record IsKeptWorld (l : Lookups) (old new : World) : Type 0 where
  pub sound : IsSound l new
  pub more : length (spots_of old) ≤ length (spots_of new)
  pub locks : new.locks ≡ old.locks

pub record IsSafeIn (l : Lookups) (w w' : World) (old new : Frame) (e : Effect) : Type 0 where
  pub world : IsKeptWorld l w w'
  pub safe : IsSafe l (length (spots_of w')) old new e

-- what an instruction begins with
pub record IsReady (l : Lookups) (w : World) (f : Frame) : Type 0 where
  pub sound : IsSound l w
  pub fine : IsFineFrame (names_in l) (length (spots_of w)) f
  pub below : f.position < 2 ^ 63

-- a test of the type of a value
pub record IsTested (l : Lookups) (m : Memo) (w : World) (d : Datum) (k : Kind) : Type 0 where
  pub right : IsRight l
  pub kept : IsKept l m
  pub sound : IsSound l w
  pub fine : IsFine (names_in l) (length (spots_of w)) d
  pub kind : IsKind l.types k

-- an instruction that asks the tables
pub record IsAsking (l : Lookups) (m : Memo) (w : World) (f : Frame) : Type 0 where
  pub right : IsRight l
  pub kept : IsKept l m
  pub ready : IsReady l w f

-- the effect by the types of the run
abbrev pub ActsUnder : Lookups → Insn → World → World → Frame → Frame → Effect → Type 0
ActsUnder l x world world' old new e = (floats : Floats)
    → effect_of (names_in l) e (world_of (names_in l) world') (frame_of (names_in l) new) ≡ act (run_face l).under floats (form_of l.program.now x) (world_of (names_in l) world) (frame_of (names_in l) old)

-- ---- an instruction of a run

-- the instructions of a frame's body, and the one at its position
abbrev pub insn_of : Frame → Option Insn
insn_of f = slice_get f.body.now.insns f.position

-- a frame and a world of a run after so many steps, and the instruction that comes next
pub record IsActing (l : Lookups) (m : Memo) (steps : ℕ) (w : World) (f : Frame) (x : Insn) : Type 0 where
  pub right : IsRight l
  pub kept : IsKept l m
  pub sound : IsSound l w
  pub frame : IsSoundFrame l (length (spots_of w)) f
  pub paced : f.position ≤ 2 ^ 32 + steps
  pub early : steps < 2 ^ 32
  pub is : insn_of f ≡ Some x
  pub array : NamesArray l.program.now x

-- the effect is the definition's, and the run can go on
pub record IsActed (l : Lookups) (floats : Floats) (steps : ℕ) (x : Insn) (w w' : World) (f f' : Frame) (e : Effect) : Type 0 where
  pub effect : effect_of (names_in l) e (world_of (names_in l) w') (frame_of (names_in l) f') ≡ act (run_face l).under floats (form_of l.program.now x) (world_of (names_in l) w) (frame_of (names_in l) f)
  pub fine : IsFineEffect l (length (spots_of w')) e
  pub sound : IsSound l w'
  pub frame : IsSoundFrame l (length (spots_of w')) f'
  pub paced : f'.position ≤ 2 ^ 32 + (steps + 1)
  pub more : length (spots_of w) ≤ length (spots_of w')
  pub locks : w'.locks ≡ w.locks
