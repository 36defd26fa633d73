use Rattle.std.proofs.Common.{◌≡◌, arith, sym, ◌∙◌, ap, nat_cmp}
use Rattle.std.proofs.lemmas.Grind.{common_steps}
use Rattle.std.specs.Option.{option_copied}
use Rattle.std.specs.FinMap as finite
use Rattle.pat_map.specs.Trees.{at, IsTree, map_of}
use Rattle.pat_map.specs.MapLaws.{get_map}
use Rattle.pat_map.proofs.maps.PatMap.get.Goals as goal

pub returns-in-Some : goal.returns-in-Some
returns-in-Some g c =
    let t : IsTree c.in-Some.tree.value = rw c.in-Some.is at c.self.invariant in
    let v : map_of c.in-Some.tree.value ≡ c.args.self.now = rw c.in-Some.is at c.self.view_is in
    let f : option_copied c.find.result ≡ at c.in-Some.tree.value c.args.key = grind (arith, common_steps) in
    f ∙ sym (get_map c.in-Some.tree.value t c.args.key) ∙ ap (λ m. finite.get m c.args.key) v

pub returns-in-None : goal.returns-in-None
returns-in-None g c =
    let v : finite.empty ≡ c.args.self.now = rw c.in-None.is at c.self.view_is in
    sym (finite.get-empty nat_cmp c.args.key) ∙ ap (λ m. finite.get m c.args.key) v
