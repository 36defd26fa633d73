-- Handler lists (Dalvik executable format, "encoded_catch_handler_list").
use Rattle.std.specs.Prelude.{ℕ, zero, suc, ◌+◌, ◌*◌, ◌==◌, ℤ, pos, List, [], ◌∷◌, length, Bool, true, false, nat_lt, unsigned_abs, Option, Some, None, if◌then◌else◌, cond}
use Rattle.std.specs.Int.Signed.{le_z}
use Rattle.std.specs.List.{list_any}
use Rattle.std.specs.Option.{option_and_then, option_map}
use Rattle.std.specs.Result.{result_ok}
use Rattle.dex_base.specs.Leb.{uleb_at, sleb_at}
use Rattle.program_model.specs.declared.body.Handler.{Handler}
use Rattle.code_read.specs.Positions.{position_of}

-- one look-up behind another
infixl 10 ◌>?=◌
abbrev pub ◌>?=◌ : {A B : Type 0} → Option A → (A → Option B) → Option B
None >?= f = None
(Some x) >?= f = f x

-- the number at this place and the place behind it, unsigned and signed
abbrev pub number_at : List ℕ → ℕ → Option (ℕ × ℕ)
number_at bytes at = result_ok (uleb_at bytes at)

abbrev pub size_at : List ℕ → ℕ → Option (ℤ × ℕ)
size_at bytes at = result_ok (sleb_at bytes at)

-- a catch-all stands behind a size that isn't positive
abbrev pub has_rest : ℤ → Bool
has_rest size = le_z size (pos 0)

-- ---- where lists begin

abbrev pub skip_numbers : List ℕ → ℕ → ℕ → Option ℕ
skip_numbers bytes zero at = Some at
skip_numbers bytes (suc n) at = number_at bytes at >?= λ read. skip_numbers bytes n read.1

-- how many numbers stand behind the size of a list
abbrev pub numbers_behind : ℤ → ℕ
numbers_behind size = 2 * unsigned_abs size + cond (has_rest size) 1 0

-- the place behind the list at this place, none where it is not whole
unfoldable pub list_end : List ℕ → ℕ → Option ℕ
list_end bytes at = size_at bytes at >?= λ read. skip_numbers bytes (numbers_behind read.0) read.1

abbrev pub lists_behind : Option ℕ → (ℕ → List ℕ) → List ℕ
lists_behind None more = []
lists_behind (Some next) more = more next

-- where so many lists begin that stand one behind another; the last may not be whole
abbrev pub lists_from : ℕ → List ℕ → ℕ → List ℕ
lists_from zero bytes at = []
lists_from (suc n) bytes at = at ∷ lists_behind (list_end bytes at) (λ next. lists_from n bytes next)

abbrev pub counted_lists : List ℕ → Option (ℕ × ℕ) → List ℕ
counted_lists bytes None = []
counted_lists bytes (Some read) = lists_from read.0 bytes read.1

-- where the lists begin, as many as the count in front of them says
unfoldable pub lists_in : List ℕ → List ℕ
lists_in bytes = counted_lists bytes (number_at bytes 0)

-- whether one of the lists begins at this place
abbrev pub has_list : List ℕ → ℕ → Bool
has_list bytes at = list_any (λ place. place == at) (lists_in bytes)

-- ---- what a list says

-- the position that begins with the unit of an address, and the place behind the address
unfoldable pub address_at : List ℕ → List ℕ → ℕ → Option (ℕ × ℕ)
address_at bytes starts at = number_at bytes at >?= λ read. position_of starts read.0 >?= λ position. Some (position, read.1)

abbrev pub handler : ℕ → ℕ → Handler
handler kind position = record { kind = kind; position = position }

-- a handler whose type is one of so many, and the place behind it
unfoldable pub handler_at : List ℕ → List ℕ → ℕ → ℕ → Option (Handler × ℕ)
handler_at bytes starts types at = number_at bytes at >?= λ read. address_at bytes starts read.1 >?= λ address. if nat_lt read.0 types then Some (handler read.0 address.0, address.1) else None

abbrev pub handlers_at : List ℕ → List ℕ → ℕ → ℕ → ℕ → Option (List Handler × ℕ)
handlers_at bytes starts types zero at = Some ([], at)
handlers_at bytes starts types (suc n) at = handler_at bytes starts types at >?= λ h. handlers_at bytes starts types n h.1 >?= λ hs. Some (h.0 ∷ hs.0, hs.1)

-- the position of a catch-all, where there is one
abbrev pub rest_at : List ℕ → List ℕ → Bool → ℕ → Option (Option ℕ)
rest_at bytes starts true at = address_at bytes starts at >?= λ address. Some (Some address.0)
rest_at bytes starts false at = Some None

-- the handlers of the list at this place, and its catch-all; none where it is not whole or out of range
unfoldable pub caught_at : List ℕ → List ℕ → ℕ → ℕ → Option (List Handler × Option ℕ)
caught_at bytes starts types at = size_at bytes at >?= λ size. handlers_at bytes starts types (unsigned_abs size.0) size.1 >?= λ hs. rest_at bytes starts (has_rest size.0) hs.1 >?= λ rest. Some (hs.0, rest)

-- how many handlers that are, with the catch-all
abbrev pub rest_count : Option ℕ → ℕ
rest_count None = 0
rest_count (Some position) = 1

abbrev pub caught_count : List Handler → Option ℕ → ℕ
caught_count handlers rest = length handlers + rest_count rest
