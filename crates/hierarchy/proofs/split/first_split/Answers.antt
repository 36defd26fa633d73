use Rattle.std.proofs.Common.{sym, subst}
use Rattle.hierarchy.specs.Splitting.{HasMaps}
use Rattle.hierarchy.proofs.SplitFound.{answered}
use Rattle.hierarchy.proofs.split.first_split.Goals as goal

pub returns : goal.returns
returns c = λ rows few ups long o. answered c.args.program.now c.args.keys.now c.args.special.now c.args.supers.now c.as_slice.result.now c.first_by_maps.result
    (subst (HasMaps c.args.program.now c.args.keys.now c.args.special.now) (sym c.as_slice.ensures.value) (c.in_ok-maps.ensures rows ups long o)) (c.first_by_maps.ensures few)
