use Rattle.calls_kept.proofs.Sites.{sound_site}
use Rattle.calls_kept.proofs.inline_bridge.sound_site_law.Goals as goal

pub returns : goal.returns
returns g = λ p h facts at c m b n y w resolved typed is_class is_method has s. sound_site p h w resolved typed facts at c m b is_class is_method has n y s
