-- The members of a class (Dalvik executable format, "class_data_item").
use Rattle.std.specs.Prelude.{◌≡◌, ◌+◌, ℕ, zero, suc, List, [], ◌∷◌, length}
use Rattle.dex_base.specs.Leb.{IsUlebAt}

-- a member's number, its flags, and for a method the offset of its code
pub record Entry : Type 0 where
  pub number : ℕ
  pub flags : ℕ
  pub code : ℕ

pub record Lists : Type 0 where
  pub statics : List Entry
  pub instances : List Entry
  pub directs : List Entry
  pub virtuals : List Entry

abbrev pub no_lists : Lists
no_lists = record { statics = []; instances = []; directs = []; virtuals = [] }

-- a field behind one with this number: the step to its own number, and its flags; and the place behind it
pub record IsFieldEntry (bytes : List ℕ) (before at : ℕ) (e : Entry) (stop : ℕ) : Type 0 where
  pub step : ℕ
  pub mid : ℕ
  pub is_step : IsUlebAt bytes at (step, mid)
  pub flags : IsUlebAt bytes mid (e.flags, stop)
  pub number : e.number ≡ before + step
  pub code : e.code ≡ 0

-- a method: the step, the flags, and the offset of its code, 0 for none
pub record IsMethodEntry (bytes : List ℕ) (before at : ℕ) (e : Entry) (stop : ℕ) : Type 0 where
  pub step : ℕ
  pub mid : ℕ
  pub next : ℕ
  pub is_step : IsUlebAt bytes at (step, mid)
  pub flags : IsUlebAt bytes mid (e.flags, next)
  pub code : IsUlebAt bytes next (e.code, stop)
  pub number : e.number ≡ before + step

-- entries one behind another, each with its step from the one before it
abbrev pub EntriesTo : (ℕ → ℕ → Entry → ℕ → Type 0) → ℕ → ℕ → List Entry → ℕ → Type 0
EntriesTo Is before at [] stop = stop ≡ at
EntriesTo Is before at (e ∷ es) stop = (mid : ℕ) × Is before at e mid × EntriesTo Is e.number mid es stop

-- the four counts, and the place behind them
pub record AreCounts (bytes : List ℕ) (at : ℕ) (lists : Lists) (stop : ℕ) : Type 0 where
  pub second : ℕ
  pub third : ℕ
  pub fourth : ℕ
  pub statics : IsUlebAt bytes at (length lists.statics, second)
  pub instances : IsUlebAt bytes second (length lists.instances, third)
  pub directs : IsUlebAt bytes third (length lists.directs, fourth)
  pub virtuals : IsUlebAt bytes fourth (length lists.virtuals, stop)

-- the class data at this place; the numbers of each list count from 0
pub record IsClassData (bytes : List ℕ) (at : ℕ) (lists : Lists) (stop : ℕ) : Type 0 where
  pub begin : ℕ
  pub instances_at : ℕ
  pub directs_at : ℕ
  pub virtuals_at : ℕ
  pub counts : AreCounts bytes at lists begin
  pub statics : EntriesTo (IsFieldEntry bytes) 0 begin lists.statics instances_at
  pub instances : EntriesTo (IsFieldEntry bytes) 0 instances_at lists.instances directs_at
  pub directs : EntriesTo (IsMethodEntry bytes) 0 directs_at lists.directs virtuals_at
  pub virtuals : EntriesTo (IsMethodEntry bytes) 0 virtuals_at lists.virtuals stop

-- the offset 0 stands for no members
abbrev pub IsClassDataOf : List ℕ → ℕ → Lists → Type 0
IsClassDataOf bytes zero lists = lists ≡ no_lists
IsClassDataOf bytes (suc k) lists = (stop : ℕ) × IsClassData bytes (suc k) lists stop
