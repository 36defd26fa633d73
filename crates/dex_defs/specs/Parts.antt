-- The parts of a file that are wrong by themselves: numbers, texts, indexes.
use Rattle.std.specs.Prelude.{◌≡◌, ◌+◌, ◌<◌, ◌≤◌, ℕ, List, length}
use Rattle.dex_base.specs.declared.fault.BaseFault.{BaseFault}
use Rattle.dex_base.specs.declared.fault.BaseFault.TheVariants as base
use Rattle.dex_base.specs.Word.{Is16, Is32}
use Rattle.dex_base.specs.Leb.{BadLeb, IsUlebAt}
use Rattle.dex_base.specs.Mutf8.{BadTextAt}
use Rattle.dex_pools.specs.declared.fault.Table.{Table}
use Rattle.code_read.specs.declared.fault.CodeFault.{CodeFault}

-- What may be wrong with a file. `at` is a byte offset in it, `class` the place of a class_def, `method` a method number.
pub data Fault : Type 0 where
  Short : (at : ℕ) → Fault
  Magic : Fault
  Header : (at : ℕ) → Fault
  Checksum : (stored computed : ℕ) → Fault
  LongLeb : (at : ℕ) → Fault
  BadText : (at : ℕ) → Fault
  BadDescriptor : (at : ℕ) → Fault
  Index : (at value size : ℕ) → Fault
  Order : (table : Table) (place : ℕ) → Fault
  BadValue : (at : ℕ) → Fault
  Deep : (at : ℕ) → Fault
  Shorty : (at : ℕ) → Fault
  Code : (method : ℕ) (fault : CodeFault) → Fault
  Member : (class place : ℕ) → Fault
  Root : (class : ℕ) → Fault
  FrameSize : (method : ℕ) → Fault
  Cycle : (class : ℕ) → Fault
  Twice : (class : ℕ) → Fault
  SplitOverride : (class method : ℕ) → Fault
  IllTyped : (method position register : ℕ) → Fault

pub data Part : Type 0 where
  Bytes : (at size : ℕ) → Part  -- so many bytes
  Number : (at : ℕ) → Part  -- LEB128
  Units : (at units : ℕ) → Part  -- a text of so many units
  IndexOf : (at size : ℕ) → Part  -- four bytes below the size of a table
  HalfIndexOf : (at size : ℕ) → Part  -- two bytes
  NumberIndexOf : (at size : ℕ) → Part  -- LEB128
  IndexOrNone : (at size : ℕ) → Part  -- four bytes, or ffffffff

-- the bytes end inside so many from this place on
abbrev pub IsShort : List ℕ → ℕ → ℕ → Fault → Type 0
IsShort bytes at size f = (length bytes < at + size) × (f ≡ Short at)

-- the faults of numbers and texts among those of a file
abbrev pub IsAs : BaseFault → Fault → Type 0
IsAs base.NoMemory f = ⊥
IsAs (base.Short at) f = f ≡ Short at
IsAs (base.LongLeb at) f = f ≡ LongLeb at
IsAs (base.BadText at) f = f ≡ BadText at
IsAs (base.BadDescriptor at) f = f ≡ BadDescriptor at

abbrev pub IsBad : List ℕ → Part → Fault → Type 0
IsBad bytes (Bytes at size) f = IsShort bytes at size f
IsBad bytes (Number at) f = (e : BaseFault) × BadLeb bytes at e × IsAs e f
IsBad bytes (Units at units) f = (e : BaseFault) × BadTextAt bytes at units e × IsAs e f
IsBad bytes (IndexOf at size) f = (n : ℕ) × Is32 bytes at n × (size ≤ n) × (f ≡ Index at n size)
IsBad bytes (HalfIndexOf at size) f = (n : ℕ) × Is16 bytes at n × (size ≤ n) × (f ≡ Index at n size)
IsBad bytes (NumberIndexOf at size) f = (n stop : ℕ) × IsUlebAt bytes at (n, stop) × (size ≤ n) × (f ≡ Index at n size)
IsBad bytes (IndexOrNone at size) f = (n : ℕ) × Is32 bytes at n × (size ≤ n) × (n < 4294967295) × (f ≡ Index at n size)
