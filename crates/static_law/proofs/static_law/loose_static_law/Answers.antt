use Rattle.std.proofs.Common.{◌≡◌, true}
use Rattle.static_law.proofs.Whole.{loose_static}
use Rattle.static_law.proofs.static_law.loose_static_law.Goals as goal

pub returns : goal.returns
returns c = λ base p o optimise fits admitted not_null loose given in_tables regular acyclic described names inside no_null.
    loose_static base p o optimise (λ x. fits x ≡ true) admitted (λ k n r. not_null k n r ≡ true) loose given in_tables regular acyclic described names inside no_null
