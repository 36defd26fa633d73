-- What a sweep has found on its way.
use Rattle.std.specs.Prelude.{ℕ, ◌+◌, ◌%◌, ◌==◌, not, List, [], ◌∷◌, ◌++◌, length, take, if◌then◌else◌}
use Rattle.code_read.specs.Sweep.{payload_kind}

-- the starts, of which the first `kept` stay whatever follows and the others are nops, and the payloads
pub record Found : Type 0 where
  pub starts : List ℕ
  pub kept : ℕ
  pub payloads : List ℕ

abbrev pub found : List ℕ → ℕ → List ℕ → Found
found starts kept payloads = record { starts = starts; kept = kept; payloads = payloads }

-- with the piece that begins with this unit at this place
abbrev pub with_piece : Found → ℕ → ℕ → Found
with_piece f unit at = if not (payload_kind unit == 0) then found (take f.kept f.starts) f.kept (f.payloads ++ at ∷ [])
    else if unit % 256 == 0 then found (f.starts ++ at ∷ []) f.kept f.payloads
    else found (f.starts ++ at ∷ []) (length f.starts + 1) f.payloads
