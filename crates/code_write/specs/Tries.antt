-- The ranges under handlers (Dalvik executable format, "try_item").
use Rattle.std.specs.Prelude.{ℕ, ◌-◌, min, List, [], ◌∷◌, ◌++◌}
use Rattle.program_model.specs.declared.body.Region.{Region}
use Rattle.code_write.specs.Code.{place_at}
use Rattle.code_write.specs.Units.{unit_bytes, low, high}

-- a number in 16 bits
abbrev pub short : ℕ → ℕ
short n = min n 65535

-- where a region begins, how many units it has, and where its list of handlers begins
abbrev pub try_units : List ℕ → ℕ → Region → ℕ → List ℕ
try_units starts end region offset = let first = place_at starts end region.first in low first ∷ high first ∷ short (place_at starts end region.end - first) ∷ short offset ∷ []

abbrev pub tries_text : List ℕ → ℕ → List Region → List ℕ → List ℕ
tries_text starts end [] offsets = []
tries_text starts end (region ∷ regions) [] = []
tries_text starts end (region ∷ regions) (offset ∷ offsets) = unit_bytes (try_units starts end region offset) ++ tries_text starts end regions offsets
