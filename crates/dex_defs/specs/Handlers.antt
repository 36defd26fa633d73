-- Try items and handler lists (Dalvik executable format, "try_item", "encoded_catch_handler_list").
use Rattle.std.specs.Prelude.{◌≡◌, ◌+◌, ◌<◌, ◌≤◌, ℕ, suc, ℤ, pos, negsuc, List, [], ◌∷◌, length, slice_get, Option, Some, None, Bool, nat_lt, if◌then◌else◌}
use Rattle.dex_base.specs.Word.{Is16, Is32}
use Rattle.dex_base.specs.Leb.{IsUlebAt, IsSlebAt}
use Rattle.dex_base.specs.Decides.{ChainOf}
use Rattle.line_tables.specs.Item.{count_below}
use Rattle.program_model.specs.declared.body.Handler.{Handler}
use Rattle.program_model.specs.declared.body.Region.{Region}
use Rattle.dex_defs.specs.Sweep.{Places}

-- the units that a try item covers, and where its handler list begins, in bytes from the count of the lists on
pub record Try : Type 0 where
  pub start : ℕ
  pub count : ℕ
  pub offset : ℕ

pub record IsTry (bytes : List ℕ) (at : ℕ) (t : Try) : Type 0 where
  pub start : Is32 bytes at t.start
  pub count : Is16 bytes (at + 4) t.count
  pub offset : Is16 bytes (at + 6) t.offset

-- a handler list: types with the units of their handlers, and the unit of the catch-all
pub record Catches : Type 0 where
  pub pairs : List (ℕ × ℕ)
  pub rest : Option ℕ

pub record IsPair (bytes : List ℕ) (at : ℕ) (read : (ℕ × ℕ) × ℕ) : Type 0 where
  pub mid : ℕ
  pub kind : IsUlebAt bytes at (read.0.0, mid)
  pub unit : IsUlebAt bytes mid (read.0.1, read.1)

abbrev pub magnitude : ℤ → ℕ
magnitude (pos n) = n
magnitude (negsuc n) = suc n

-- a catch-all stands behind a size that isn't positive
abbrev pub IsRestAt : List ℕ → ℤ → ℕ → Option ℕ → ℕ → Type 0
IsRestAt bytes (pos (suc n)) at rest stop = (rest ≡ None) × (stop ≡ at)
IsRestAt bytes z at rest stop = (unit : ℕ) × IsUlebAt bytes at (unit, stop) × (rest ≡ Some unit)

-- the list at this place, and the place behind it
pub record AreCatches (bytes : List ℕ) (at : ℕ) (read : Catches × ℕ) : Type 0 where
  pub size : ℤ
  pub begin : ℕ
  pub mid : ℕ
  pub is_size : IsSlebAt bytes at (size, begin)
  pub many : length read.0.pairs ≡ magnitude size
  pub pairs : ChainOf (IsPair bytes) begin read.0.pairs mid
  pub rest : IsRestAt bytes size mid read.0.rest read.1

-- one of the lists that stand one behind another, as many as the count at this place says, begins at the offset from there
pub record AreCatchesAt (bytes : List ℕ) (lists offset : ℕ) (catches : Catches) : Type 0 where
  pub count : ℕ
  pub begin : ℕ
  pub stop : ℕ
  pub is_count : IsUlebAt bytes lists (count, begin)
  pub before : List Catches
  pub fewer : length before < count
  pub behind : ChainOf (AreCatches bytes) begin before (lists + offset)
  pub are : AreCatches bytes (lists + offset) (catches, stop)

-- ---- regions

-- the positions that begin in the units of a try item: from the first number up to the second
abbrev pub first_position : Places → Try → ℕ
first_position places t = count_below t.start places.starts

abbrev pub end_position : Places → Try → ℕ
end_position places t = count_below (t.start + t.count) places.starts

-- a try item that covers no position is dropped
abbrev pub covers : Places → Try → Bool
covers places t = nat_lt (first_position places t) (end_position places t)

abbrev pub covering : Places → List Try → List Try
covering places [] = []
covering places (t ∷ ts) = if covers places t then t ∷ covering places ts else covering places ts

-- a handler's type is one of so many, and its unit is that of a position
pub record IsHandler (places : Places) (types : ℕ) (pair : ℕ × ℕ) (h : Handler) : Type 0 where
  pub kind : h.kind ≡ pair.0
  pub below : pair.0 < types
  pub position : slice_get places.starts h.position ≡ Some pair.1

abbrev pub AreHandlers : Places → ℕ → List (ℕ × ℕ) → List Handler → Type 0
AreHandlers places types [] [] = Unit {0}
AreHandlers places types [] (h ∷ hs) = ⊥
AreHandlers places types (pair ∷ pairs) [] = ⊥
AreHandlers places types (pair ∷ pairs) (h ∷ hs) = IsHandler places types pair h × AreHandlers places types pairs hs

abbrev pub IsRest : Places → Option ℕ → Option ℕ → Type 0
IsRest places None None = Unit {0}
IsRest places None (Some position) = ⊥
IsRest places (Some unit) None = ⊥
IsRest places (Some unit) (Some position) = slice_get places.starts position ≡ Some unit

-- the region of a try item that begins at an instruction and ends among the units
pub record IsRegion (bytes : List ℕ) (places : Places) (lists types : ℕ) (t : Try) (r : Region) : Type 0 where
  pub begins : slice_get places.starts r.first ≡ Some t.start
  pub inside : t.start + t.count ≤ length places.units
  pub ends : r.end ≡ end_position places t
  pub catches : Catches
  pub are : AreCatchesAt bytes lists t.offset catches
  pub handlers : AreHandlers places types catches.pairs r.handlers
  pub rest : IsRest places catches.rest r.rest

abbrev pub AreRegions : List ℕ → Places → ℕ → ℕ → List Try → List Region → Type 0
AreRegions bytes places lists types [] [] = Unit {0}
AreRegions bytes places lists types [] (r ∷ rs) = ⊥
AreRegions bytes places lists types (t ∷ ts) [] = ⊥
AreRegions bytes places lists types (t ∷ ts) (r ∷ rs) = IsRegion bytes places lists types t r × AreRegions bytes places lists types ts rs
