-- The regions of a body (Dalvik executable format, "try_item").
use Rattle.std.specs.Prelude.{ℕ, zero, suc, ◌+◌, ◌*◌, ◌-◌, Bool, true, not, ◌&&◌, nat_lt, nat_le, List, [], ◌∷◌, length, drop, slice_get, Option, Some, None, Result, Ok, Err, if◌then◌else◌}
use Rattle.std.specs.List.{list_all}
use Rattle.std.specs.Result.{result_ok}
use Rattle.dex_base.specs.Reading.{◌>>=◌}
use Rattle.dex_base.specs.Word.{u16_at, u32_at}
use Rattle.program_model.specs.declared.body.Handler.{Handler}
use Rattle.program_model.specs.declared.body.Region.{Region}
use Rattle.program_model.specs.declared.limits.Counted.TheVariants.{Items}
use Rattle.code_read.specs.declared.fault.CodeFault.{CodeFault}
use Rattle.code_read.specs.declared.fault.CodeFault.TheVariants as fault
use Rattle.code_read.specs.declared.sizes.Sizes.{Sizes}
use Rattle.code_read.specs.declared.try_items.TryItem.{TryItem}
use Rattle.code_read.specs.Fault.{passed}
use Rattle.code_read.specs.Handlers.{◌>?=◌, has_list, caught_at, caught_count}
use Rattle.code_read.specs.Positions.{count_below, begins_with}
use Rattle.code_read.specs.Sweep.{Places}

-- whether a handler's type is one of so many, and its position one of so many
abbrev pub handler_inside : ℕ → ℕ → Handler → Bool
handler_inside types count handler = nat_lt handler.kind types && nat_lt handler.position count

-- whether a catch-all, if there is one, is one of so many positions
abbrev pub rest_inside : ℕ → Option ℕ → Bool
rest_inside count None = true
rest_inside count (Some position) = nat_lt position count

-- whether a region covers positions, of which there are so many, and goes on at some of them
abbrev pub region_inside : ℕ → ℕ → Region → Bool
region_inside types count region = (nat_lt region.first region.end && nat_le region.end count)
    && (list_all (handler_inside types count) region.handlers && rest_inside count region.rest)

-- whether each region lies behind the one before it
abbrev pub are_apart : ℕ → List Region → Bool
are_apart from [] = true
are_apart from (region ∷ rest) = nat_le from region.first && are_apart region.end rest

-- ---- try items

abbrev pub try_item : ℕ → ℕ → ℕ → TryItem
try_item start count offset = record { start = start; count = count; offset = offset }

-- the try item at this place in the bytes
unfoldable pub try_at : List ℕ → ℕ → Option TryItem
try_at bytes at = result_ok (u32_at bytes at) >?= λ start. result_ok (u16_at bytes (at + 4)) >?= λ count. result_ok (u16_at bytes (at + 6)) >?= λ offset. Some (try_item start count offset)

-- whether the list of a try item begins at this offset or before
abbrev pub names_up_to : ℕ → Option TryItem → Bool
names_up_to most None = true
names_up_to most (Some t) = nat_le t.offset most

-- ---- regions

-- the positions whose first unit a try item covers: from the first number up to the second
abbrev pub first_of : Places → TryItem → ℕ
first_of places t = count_below t.start places.starts

abbrev pub end_of : Places → TryItem → ℕ
end_of places t = count_below (t.start + t.count) places.starts

-- whether a try item begins at an instruction, ends among the units, and lies behind the region before, which ends at this position
abbrev pub lies_right : Places → TryItem → ℕ → Bool
lies_right places t from = begins_with (slice_get places.starts (first_of places t)) t.start
    && (nat_le (t.start + t.count) (length places.units) && nat_le from (first_of places t))

abbrev pub region : ℕ → ℕ → List Handler → Option ℕ → Region
region first end handlers rest = record { first = first; end = end; handlers = handlers; rest = rest }

-- the region with these handlers, where as many are left of the items that a file may have
abbrev pub with_handlers : ℕ → ℕ → ℕ → ℕ → Option (List Handler × Option ℕ) → Result (Option Region) CodeFault
with_handlers place first end left None = Err (fault.Handler place)
with_handlers place first end left (Some caught) = if nat_le (caught_count caught.0 caught.1) left then Ok (Some (region first end caught.0 caught.1)) else Err (passed Items)

-- the region of a try item, none where it covers no position; `lists` are the bytes from the count of the handler lists on
abbrev pub region_of : List ℕ → ℕ → Places → ℕ → ℕ → ℕ → Option TryItem → Result (Option Region) CodeFault
region_of lists types places place from left None = Err (fault.Region place)
region_of lists types places place from left (Some t) = if nat_lt (first_of places t) (end_of places t)
    then (if lies_right places t from
    then (if has_list lists t.offset then with_handlers place (first_of places t) (end_of places t) left (caught_at lists places.starts types t.offset) else Err (fault.Handler place))
    else Err (fault.Region place))
    else Ok None

unfoldable pub region_at : List ℕ → List ℕ → ℕ → Places → ℕ → ℕ → ℕ → Result (Option Region) CodeFault
region_at tries lists types places place from left = region_of lists types places place from left (try_at tries (8 * place))

-- the regions from a try item on: the region before them ends at a position, and so many items are left
abbrev pub keep : Option Region → (ℕ → ℕ → Result (List Region) CodeFault) → ℕ → ℕ → Result (List Region) CodeFault
keep None more from left = more from left
keep (Some r) more from left = more r.end (left - caught_count r.handlers r.rest) >>= λ rs. Ok (r ∷ rs)

abbrev pub regions_from : List ℕ → List ℕ → ℕ → Places → ℕ → ℕ → ℕ → ℕ → Result (List Region) CodeFault
regions_from tries lists types places zero place from left = Ok []
regions_from tries lists types places (suc n) place from left = region_at tries lists types places place from left >>= λ kept. keep kept (λ f l. regions_from tries lists types places n (suc place) f l) from left

-- the regions of a body
unfoldable pub regions_of : List ℕ → Sizes → Places → Result (List Region) CodeFault
regions_of tries sizes places = regions_from tries (drop (8 * sizes.tries) tries) sizes.types places sizes.tries 0 0 sizes.items
