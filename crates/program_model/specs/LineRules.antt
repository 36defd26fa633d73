-- What the lines of a method have to be.
use Rattle.std.specs.Prelude.{ℕ, List, length, Bool, not, ◌&&◌, ◌||◌, nat_eq, nat_le}
use Rattle.std.specs.List.{list_all, list_any}
use Rattle.program_model.specs.Neighbours.{neighbours}

-- no 0, which is no line, stands behind a line
abbrev pub goes_on_with_lines : ℕ × ℕ → Bool
goes_on_with_lines pair = nat_eq pair.0 0 || not (nat_eq pair.1 0)

-- lines are none, or one for each of so many positions, not all 0
unfoldable pub lines_fit : ℕ → List ℕ → Bool
lines_fit positions lines = nat_eq (length lines) 0
    || ((nat_eq (length lines) positions && list_any (λ line. not (nat_eq line 0)) lines)
    && (list_all (λ line. nat_le line 2147483647) lines && list_all goes_on_with_lines (neighbours lines)))
