use Rattle.std.proofs.Common.{◌≡◌, ℕ, List, length}
use Rattle.class_defs.specs.Places.{super_place}
use Rattle.hierarchy.specs.Climbing.{IsOrder}
use Rattle.hierarchy.specs.Tables.{read_at}
use Rattle.hierarchy.proofs.Splits.{MapsTo}
use Rattle.hierarchy.proofs.split.hidden_maps.Given as goal

abbrev pub invariant-loop-class : goal.invariant-loop-class
invariant-loop-class l = (rows : List (List ℕ)) → ((c : ℕ) → read_at l.supers c ≡ super_place l.program c) → length l.supers ≡ length l.program.classes → IsOrder l.supers rows l.order → MapsTo l.program l.keys l.special (length l.program.classes) l.order l.maps.items l.class-index
