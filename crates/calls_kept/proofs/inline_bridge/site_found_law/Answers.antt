use Rattle.calls_kept.proofs.Sites.{copied}
use Rattle.calls_kept.proofs.inline_bridge.site_found_law.Goals as goal

pub returns : goal.returns
returns g = λ p h facts at c m b n y w resolved typed is_class is_method has s. copied p h w resolved typed facts at c m b is_class is_method has n y s
