use Rattle.std.proofs.Common.{◌≡◌, true}
use Rattle.static_law.proofs.Judged.{may_be_static}
use Rattle.static_law.proofs.static_names.loose_law.Goals as goal

pub returns : goal.returns
returns c = λ base p o optimise fits admitted not_null loose given. may_be_static base p o optimise (λ x. fits x ≡ true) admitted (λ k n r. not_null k n r ≡ true) loose given
