use Rattle.std.proofs.Common.{◌≡◌, ◌∙◌, ◌+◌, ◌∷◌, ◌++◌, [], ap, arith, sym}
use Rattle.std.specs.List.{range_with_len}
use Rattle.hierarchy.proofs.Toured.{range_more}
use Rattle.hierarchy.proofs.tour.in_turn.Goals as goal

pub loop-number-preserved : goal.loop-number-preserved
loop-number-preserved c =
    let f : c.loop-number.number ≡ 0 + c.loop-number.number = omega arith in
    c.in_ok-push.ensures.items ∙ ap (λ l. l ++ c.loop-number.number ∷ []) c.loop-number.invariant ∙ ap (λ x. range_with_len 0 c.loop-number.number ++ x ∷ []) f ∙ sym (range_more 0 c.loop-number.number)
