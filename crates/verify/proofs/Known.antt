-- What a table of kinds says of a register, by the frames that it is made of.
use Rattle.std.proofs.Common.{◌≡◌, ℕ, List, Option, Some, None, ap}
use Rattle.std.specs.Prelude.{slice_get}
use Rattle.std.specs.Option.{option_map}
use Rattle.std.proofs.lemmas.Option.{slice_get-map}
use Rattle.verify.specs.declared.frames.Frame.{Frame}
use Rattle.verify.specs.declared.kinds.Kind.{Kind}
use Rattle.verify.specs.Flow.{kinds_in, places_of}
use Rattle.verify.specs.Typings.{kind_in, kind_before}

pub known_place : (fs : List (Option Frame)) (n r : ℕ) → kind_before (places_of fs) n r ≡ kind_in (option_map kinds_in (slice_get fs n)) r
known_place fs n r = ap (λ o. kind_in o r) (slice_get-map kinds_in fs n)
