-- A reading without what it leaves.
use Rattle.std.specs.Prelude.{Result, Ok}
use Rattle.dex_base.specs.Reading.{◌>>=◌}

abbrev pub first : {X S F : Type 0} → Result (X × S) F → Result X F
first read = read >>= λ x. Ok x.0
