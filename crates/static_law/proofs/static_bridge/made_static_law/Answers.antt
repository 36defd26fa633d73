use Rattle.std.proofs.Common.{◌≡◌, true}
use Rattle.static_law.proofs.NumberedWhole.{made_static_kept}
use Rattle.static_law.proofs.static_bridge.made_static_law.Goals as goal

pub returns : goal.returns
returns c = λ given target p q o not_null w twice ancestor whole typed edited planned free given_so knows no_null.
    made_static_kept given target p q w twice ancestor typed edited planned o given_so (λ k n r. not_null k n r ≡ true) knows no_null whole free
