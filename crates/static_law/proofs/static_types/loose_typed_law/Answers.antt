use Rattle.std.proofs.Common.{◌≡◌, true}
use Rattle.static_law.proofs.TypedWhole.{loose_typed}
use Rattle.static_law.proofs.static_types.loose_typed_law.Goals as goal

pub returns : goal.returns
returns c = λ base p o optimise fits admitted not_null loose given in_tables regular acyclic described e.
    loose_typed base p o optimise (λ x. fits x ≡ true) admitted (λ k n r. not_null k n r ≡ true) loose given in_tables regular acyclic described e
