use Rattle.std.proofs.Common.{ap, sym, ◌∙◌, ◌++◌, replicate}
use Rattle.dalvik_defs.specs.Names.{is_array}
use Rattle.dalvik_lookups.proofs.Descriptors.{added_type}
use Rattle.dalvik_lookups.proofs.types.Types.add.Goals as goal

pub returns : goal.returns
returns c = λ k. added_type _ _ _ _ _ _ (c.in_ok-base.ensures.added k)
    (c.depth_of-depth.ensures.brackets ∙ ap (λ u. replicate c.depth_of-depth.result 91 ++ u) (sym (c.behind.ensures c.depth_of-depth.ensures.within)))
    (ap is_array (c.behind.ensures c.depth_of-depth.ensures.within) ∙ c.depth_of-depth.ensures.bare) c.depth_of-depth.ensures.deep
