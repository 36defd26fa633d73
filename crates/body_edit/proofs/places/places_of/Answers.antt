use Rattle.body_edit.specs.Fates.{fates_of}
use Rattle.body_edit.proofs.Placing.{is_place}
use Rattle.body_edit.proofs.places.places_of.Goals as goal

pub returns : goal.returns
returns c = is_place c.in_ok-places.places (fates_of c.args.fates.now) c.in_ok-places.ensures.gone c.in_ok-places.ensures.total
