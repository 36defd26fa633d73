-- Where the positions of a program come from, when one pass has followed another. A list for each method number has an origin for
-- each position of the method; no list at all says that no position has moved.
use Rattle.std.specs.Prelude.{◌≡◌, ◌<◌, ℕ, List, [], ◌∷◌, length, map, slice_index_or}
use Rattle.program_model.specs.declared.pass.Origin.{Origin}

-- the origin of what was at a position before; a position without one is its own
abbrev pub origin_by : List Origin → Origin → Origin
origin_by old o = slice_index_or old o.position o

-- the list of a method
abbrev pub row_at : List (List Origin) → ℕ → List Origin
row_at rows k = slice_index_or rows k []

-- each position's origin is that of the position that it comes from
pub record AreAfter (old new all : List (List Origin)) : Type 0 where
  pub long : length all ≡ length new
  pub each : (k : ℕ) → k < length new → row_at all k ≡ map (origin_by (row_at old k)) (row_at new k)

-- the origins after a pass that gives these, where those before it were the old ones
abbrev pub Follow : List (List Origin) → List (List Origin) → List (List Origin) → Type 0
Follow old [] all = all ≡ old
Follow old (row ∷ rows) all = AreAfter old (row ∷ rows) all
