-- What the code keeps of the places, as the definitions see it.
use Rattle.std.specs.Prelude.{ℕ, ◌+◌, ◌%◌, ◌==◌, not, List, [], ◌∷◌, ◌++◌, length, take, if◌then◌else◌}
use Rattle.code_read.specs.declared.places.Places as held
use Rattle.code_read.specs.Sweep.{Places, places, payload_kind}

abbrev pub seen : held.Places → Places
seen p = places p.units.now p.starts.items p.payloads.items
