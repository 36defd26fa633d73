-- Steps of blocks that show nothing: none, one that stays in the top, and some and then some.
use Rattle.std.proofs.Common.{◌≡◌, ℕ, [], ◌++◌, None, refl, ap, ◌∙◌}
use Rattle.dalvik_defs.specs.Face.{Bodies}
use Rattle.dalvik_defs.specs.State.{World, Classes, On}
use Rattle.dalvik_defs.specs.Outcome.{Stays}
use Rattle.dalvik_defs.specs.Happens.{Setting, happens}
use Rattle.dalvik_defs.specs.Step.{events_of, after, shows_from}
use Rattle.dalvik_defs.specs.declared.state.Frame.{Frame}
use Rattle.dalvik_defs.proofs.Simulation.{joined, after_joined, shows_joined}
use Rattle.dalvik_defs.proofs.Frames.{now}
use Rattle.dalvik_defs.proofs.Blocks.{Block, with_top, under, stacked, Glides}

pub block_none : (s : Setting) (find : Bodies) (w : World) (c : Classes) (x : Block) → Glides s find w c x 0 w c x
block_none s find w c x = record { ends = λ rest script. refl; silent = λ rest script. refl }

pub block_on : (s : Setting) (find : Bodies) (w : World) (c : Classes) (x : Block) (n : ℕ) (w1 : World) (c1 : Classes) (x1 : Block) (m : ℕ) (w2 : World) (c2 : Classes) (x2 : Block)
    → Glides s find w c x n w1 c1 x1 → Glides s find w1 c1 x1 m w2 c2 x2 → Glides s find w c x (joined n m) w2 c2 x2
block_on s find w c x n w1 c1 x1 m w2 c2 x2 a b = record {
  ends = λ rest script. after_joined s find n m (On w c (stacked x rest) script) ∙ ap (λ t. after s find t m) (a.ends rest script) ∙ b.ends rest script;
  silent = λ rest script. shows_joined s find n m (On w c (stacked x rest) script)
      ∙ ap (λ l. l ++ shows_from s find (after s find (On w c (stacked x rest) script) n) m) (a.silent rest script)
      ∙ ap (λ t. shows_from s find t m) (a.ends rest script) ∙ b.silent rest script;
}

pub step_stays : (s : Setting) (find : Bodies) (w : World) (c : Classes) (x : Block) (w1 : World) (f1 : Frame) → now s find w c x.top ≡ Stays w1 f1 None → Glides s find w c x 1 w1 c (with_top x f1)
step_stays s find w c x w1 f1 h = record {
  ends = λ rest script. ap (λ o. (happens s find o w c x.top (under x.below rest) script).0) h;
  silent = λ rest script. ap (λ o. events_of (happens s find o w c x.top (under x.below rest) script).1 ++ []) h;
}
