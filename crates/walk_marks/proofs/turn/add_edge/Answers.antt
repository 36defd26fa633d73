use Rattle.std.proofs.Common.{◌≡◌, ◌∷◌, ◌++◌, [], ap, ◌∙◌, arith, set, length, ◌<◌}
use Rattle.std.proofs.lemmas.List.{get_or_default}
use Rattle.walk_marks.proofs.Turning.{adds_one}
use Rattle.walk_marks.proofs.turn.add_edge.Goals as goal

pub returns-in_ok-push : goal.returns-in_ok-push
returns-in_ok-push c =
    let inside : c.args.from < length c.args.rows.now.items = omega arith in
    adds_one c.args.rows.now.items _ c.args.from c.args.to inside
    (ap (set c.args.rows.now.items c.args.from) (c.in_ok-push.ensures.items ∙ ap (λ l. l ++ c.args.to ∷ []) (c.behind-rows.view_is ∙ c.index_mut.ensures.value ∙ get_or_default _ _ _ _ inside)))
