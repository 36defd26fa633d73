-- What computes of bytes: numbers and texts at their places.
use Rattle.std.proofs.Common.{◌≡◌, ◌≤◌, ◌<◌, ◌+◌, ◌%◌, ℕ, suc, List, length, take, drop}
use Rattle.std.specs.Int.{w16, w32, from_le_bytes}
use Rattle.std.specs.Prelude.{true, replicate, ◌-◌, Ok}
use Rattle.std.proofs.Math.Dec.{leb}
use Rattle.std.proofs.lemmas.Bool.{leb-true}
use Rattle.dex_base.specs.Word.{Is16, Is32}
use Rattle.dex_base.specs.Leb.{uleb_at, IsUlebAt}
use Rattle.dex_base.proofs.LebReading.{is_uleb}
use Rattle.dex_defs.specs.Here.{Here, AreZeros}
use Rattle.dex_defs.specs.Arranged.{IsAt, Something}

pub at_most : (a b : ℕ) → leb a b ≡ true → a ≤ b
at_most a b e = leb-true a b e

pub below : (a b : ℕ) → leb (suc a) b ≡ true → a < b
below a b e = leb-true (suc a) b e

pub is_32 : (bytes : List ℕ) (at n : ℕ) → leb (at + 4) (length bytes) ≡ true → n ≡ from_le_bytes w32 (take 4 (drop at bytes)) → Is32 bytes at n
is_32 bytes at n inside spelled = record { inside = at_most (at + 4) (length bytes) inside; spelled = spelled }

pub is_16 : (bytes : List ℕ) (at n : ℕ) → leb (at + 2) (length bytes) ≡ true → n ≡ from_le_bytes w16 (take 2 (drop at bytes)) → Is16 bytes at n
is_16 bytes at n inside spelled = record { inside = at_most (at + 2) (length bytes) inside; spelled = spelled }

pub here_at : (bytes : List ℕ) (at : ℕ) (text : List ℕ) → leb (at + length text) (length bytes) ≡ true → take (length text) (drop at bytes) ≡ text → Here bytes at text
here_at bytes at text inside is = record { inside = at_most (at + length text) (length bytes) inside; is = is }

pub zeros_at : (bytes : List ℕ) (from to : ℕ) → leb from to ≡ true → Here bytes from (replicate (to - from) 0) → AreZeros bytes from to
zeros_at bytes from to order here = record { order = at_most from to order; zeros = here }

pub uleb : (bytes : List ℕ) (at n stop : ℕ) → uleb_at bytes at ≡ Ok (n, stop) → IsUlebAt bytes at (n, stop)
uleb bytes at n stop e = (is_uleb bytes at).found (n, stop) e

abbrev pub zeros : ℕ → List ℕ
zeros n = replicate n 0

-- a text at the next multiple, behind zeros
pub stands_at : (bytes : List ℕ) (align from offset : ℕ) (text : List ℕ) (stop : ℕ)
    → leb 1 offset ≡ true → leb 1 (length text) ≡ true → leb from offset ≡ true → leb (suc offset) (from + align) ≡ true → offset % align ≡ 0
    → leb (from + length (zeros (offset - from))) (length bytes) ≡ true → take (length (zeros (offset - from))) (drop from bytes) ≡ zeros (offset - from)
    → leb (offset + length text) (length bytes) ≡ true → take (length text) (drop offset bytes) ≡ text → stop ≡ offset + length text → IsAt bytes align from offset text stop
stands_at bytes align from offset text stop some long behind near aligned zeros_in are text_in is ends =
    Something (below 0 offset some) (below 0 (length text) long) (record { behind = at_most from offset behind; near = below offset (from + align) near; aligned = aligned })
    (zeros_at bytes from offset behind (here_at bytes from (zeros (offset - from)) zeros_in are)) (here_at bytes offset text text_in is) ends
