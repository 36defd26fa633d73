-- Rows of the places of a text.
use Rattle.std.specs.Prelude.{◌≡◌, ℕ, ◌+◌, List, [], ◌∷◌, Bool, true, false, ◌&&◌, ◌==◌, drop, slice_index_or, if◌then◌else◌}
use Rattle.rule_text.specs.declared.pattern.Named.{Named}
use Rattle.rule_text.specs.declared.pattern.Piece.{Piece}
use Rattle.rule_text.specs.declared.pattern.Piece.TheVariants as piece
use Rattle.rule_text.specs.Glob.{read_of, passes_of, begins_pair}

-- no place is set
pub record IsBlank (row : List Bool) : Type 0 where
  pub at : (k : ℕ) → slice_index_or row k false ≡ false

-- what a row says of a place, by the row of the pieces behind: of a unit
abbrev pub unit_at : List ℕ → Named → ℕ → List Bool → ℕ → Bool
unit_at text named unit old k = (read_of named (slice_index_or text k 0) == unit) && slice_index_or old (k + 1) false

-- of `?`
abbrev pub one_at : List ℕ → Named → List Bool → ℕ → Bool
one_at text named old k = passes_of named (slice_index_or text k 0) && slice_index_or old (k + (if begins_pair (drop k text) then 2 else 1)) false

-- the pieces are `*` alone
abbrev pub is_lone : List Piece → Bool
is_lone (piece.Star ∷ []) = true
is_lone ps = false

-- the pieces are `**` alone
abbrev pub is_lone_many : List Piece → Bool
is_lone_many (piece.Stars ∷ []) = true
is_lone_many ps = false
