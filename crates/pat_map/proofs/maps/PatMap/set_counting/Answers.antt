use Rattle.std.proofs.Common.{◌≡◌, ◌∙◌, ap}
use Rattle.std.specs.FinMap as finite
use Rattle.pat_map.specs.Trees.{IsTree, map_of}
use Rattle.pat_map.specs.MapLaws.{map_set}
use Rattle.pat_map.proofs.maps.PatMap.set_counting.Goals as goal

pub returns-in_ok-put-in-Some : goal.returns-in_ok-put-in-Some
returns-in_ok-put-in-Some g c =
    let t : IsTree c.in-Some.tree.value = rw c.in-Some.is at c.self.invariant in
    let v : map_of c.in-Some.tree.value ≡ c.args.self.now = rw c.in-Some.is at c.self.view_is in
    map_set c.in-Some.tree.value c.in_ok-put-in-Some.field-0.value c.args.key c.args.value t c.in_ok-put-in-Some.ensures.tree c.in_ok-put-in-Some.ensures.sets
    ∙ ap (λ m. finite.insert m c.args.key c.args.value) v
