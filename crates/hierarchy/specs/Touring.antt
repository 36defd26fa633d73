-- What stands directly below the classes, their numbers, and the ranges of the numbers of those under each class.
use Rattle.std.specs.Prelude.{◌≡◌, ◌<◌, ◌≤◌, ◌⊎◌, ◌^◌, ◌&&◌, ◌-◌, ℕ, Bool, true, List, [], ◌∷◌, ◌++◌, map, length, not, nat_eq, nat_le, nat_lt, Option, Some, None, slice_get, slice_set, slice_index}
use Rattle.std.specs.List.{list_any, filter, range_with_len}
use Rattle.std.specs.List.Sorted.{IsNonDecreasingBy}
use Rattle.program_model.specs.declared.program.Program.{Program}
use Rattle.class_defs.specs.Places.{super_place, interface_places, is_under}
use Rattle.hierarchy.specs.Climbing.{In, IsOrder, ups}
use Rattle.hierarchy.specs.Ranks.{IsRanked}
use Rattle.hierarchy.specs.Tables.{read_at, row_of}
use Rattle.hierarchy.specs.declared.ranges.Range.{Range}
use Rattle.hierarchy.specs.declared.build.Tour.{Tour}

-- ---- the other classes under a class, by their places

abbrev pub subclasses_of : Program → ℕ → List ℕ
subclasses_of p class = filter (λ c. is_under p c class && not (nat_eq c class)) (range_with_len 0 (length p.classes))

-- ---- rows of those directly below

abbrev pub add_to : List (List ℕ) → ℕ → ℕ → List (List ℕ)
add_to rows place number = slice_set rows place (row_of rows place ++ number ∷ [])

abbrev pub add_to_all : List (List ℕ) → List ℕ → ℕ → List (List ℕ)
add_to_all rows [] number = rows
add_to_all rows (u ∷ us) number = add_to_all (add_to rows u number) us number

-- the rows have the classes in front of a place that stand directly below each class
pub record IsBelow (supers : List ℕ) (rows below : List (List ℕ)) (end : ℕ) : Type 0 where
  pub size : length below ≡ length supers
  pub down : (d c : ℕ) → In c (row_of below d) → In d (ups supers rows c) × (c < end)
  pub up : (d c : ℕ) → d < length supers → c < end → In d (ups supers rows c) → In c (row_of below d)

-- ---- ranges

abbrev pub in_range : ℕ → Range → Bool
in_range k r = nat_le r.first k && nat_lt k r.end

abbrev pub in_ranges : ℕ → List Range → Bool
in_ranges k rs = list_any (in_range k) rs

abbrev pub ranges_or_empty : Option (List Range) → List Range
ranges_or_empty None = []
ranges_or_empty (Some row) = row

abbrev pub ranges_of : List (List Range) → ℕ → List Range
ranges_of rows place = ranges_or_empty (slice_get rows place)

-- neither the first numbers nor the ends fall
pub record IsRising (rs : List Range) : Type 0 where
  pub firsts : IsNonDecreasingBy (λ r. r.first) rs
  pub ends : IsNonDecreasingBy (λ r. r.end) rs

-- a range of a list begins no earlier than the one in front of it, the first no earlier than a number
abbrev pub StartFrom : ℕ → List Range → Type 0
StartFrom n [] = Unit {0}
StartFrom n (r ∷ rs) = (nat_le n r.first ≡ true) × StartFrom r.first rs

-- a range behind the last one of a row, which is not in the row yet: it is in the last one, it makes that longer, or it is the
-- new last one
pub record Within (row : List Range) (last range : Range) (row' : List Range) (next : Range) : Type 0 where
  pub ends : range.end ≤ last.end
  pub same : row' ≡ row
  pub is : next ≡ last

pub record Lengthens (row : List Range) (last range : Range) (row' : List Range) (next : Range) : Type 0 where
  pub ends : last.end < range.end
  pub meets : range.first ≤ last.end
  pub same : row' ≡ row
  pub first : next.first ≡ last.first
  pub end : next.end ≡ range.end

pub record Follows (row : List Range) (last range : Range) (row' : List Range) (next : Range) : Type 0 where
  pub ends : last.end < range.end
  pub longer : row' ≡ row ++ last ∷ []
  pub is : next ≡ range

abbrev pub AddsRange : List Range → Range → Range → List Range → Range → Type 0
AddsRange row last range row' next = Within row last range row' next ⊎ (Lengthens row last range row' next ⊎ Follows row last range row' next)

-- ---- numbers of classes

-- each place has a number of its own, and the second table has the place with each number
pub record IsNumbering (n : ℕ) (numbers places : List ℕ) : Type 0 where
  pub size : length numbers ≡ n
  pub same : length places ≡ n
  pub back : (c : ℕ) → c < n → slice_get places (slice_index numbers c) ≡ Some c
  pub forth : (k : ℕ) → k < n → slice_get numbers (slice_index places k) ≡ Some k

-- the ranges have the number of just those under a class
pub record IsRanged (p : Program) (places : List ℕ) (d : ℕ) (row : List Range) : Type 0 where
  pub sound : (k : ℕ) → in_ranges k row ≡ true → (k < length p.classes) × (is_under p (slice_index places k) d ≡ true)
  pub complete : (k : ℕ) → k < length p.classes → is_under p (slice_index places k) d ≡ true → in_ranges k row ≡ true

pub record HasRanges (p : Program) (places : List ℕ) (rows : List (List Range)) : Type 0 where
  pub rising : (d : ℕ) → IsRising (ranges_of rows d)
  pub are : (d : ℕ) → d < length p.classes → IsRanged p places d (ranges_of rows d)

-- the tables are those of the program, the order is one of its classes, and each has a number
pub record Leads (p : Program) (supers : List ℕ) (rows lower : List (List ℕ)) (order numbers places : List ℕ) : Type 0 where
  pub supers_are : (c : ℕ) → read_at supers c ≡ super_place p c
  pub lists_are : (c : ℕ) → row_of rows c ≡ interface_places p c
  pub long : length supers ≡ length p.classes
  pub few : length p.classes < 2 ^ 32
  pub ordered : IsOrder supers rows order
  pub below : IsBelow supers rows lower (length supers)
  pub ranked : IsRanked p
  pub numbered : IsNumbering (length p.classes) numbers places

-- the numbers of the classes of a program, and the ranges of those under each
pub record IsToured (p : Program) (t : Tour) : Type 0 where
  pub numbered : IsNumbering (length p.classes) t.numbers.items t.by_number.items
  pub ranged : HasRanges p t.by_number.items t.ranges.rows

-- ---- the classes of ranges

abbrev pub others_in : List ℕ → ℕ → Range → List ℕ
others_in places class r = filter (λ c. not (nat_eq c class)) (map (slice_index places) (range_with_len r.first (r.end - r.first)))
