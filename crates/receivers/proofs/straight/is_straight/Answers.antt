use Rattle.std.proofs.Common.{◌≡◌, ◌<◌, ◌∙◌, ℕ, false, true, length, ap, sym, arith, subst}
use Rattle.std.specs.List.{range_with_len}
use Rattle.lemmas.proofs.Bools.{clash, untrue}
use Rattle.receivers.specs.Receiving.{is_straight, is_straight_at}
use Rattle.receivers.proofs.Ranges.{all_numbers_more, numbers_in, passes_all}
use Rattle.receivers.proofs.straight.is_straight.Goals as goal

pub loop-place-preserved : goal.loop-place-preserved
loop-place-preserved c = λ o few.
    let p = c.args.program.now in
    let n = c.loop-place.place in
    let l : n < length p.classes = subst (λ m. n < m) c.len-place-end.ensures c.loop-place-test.true in
    let at : is_straight_at p n ≡ true = sym (c.is_straight_at.ensures o ∙ ap (is_straight_at p) (c.word.ensures (omega (arith, l, few)))) ∙ c.if-not-is_straight_at.false in
    all_numbers_more (is_straight_at p) n (c.loop-place.invariant o few) at

pub returns-then-not-is_straight_at : goal.returns-then-not-is_straight_at
returns-then-not-is_straight_at c = λ o few.
    let p = c.args.program.now in
    let n = c.loop-place.place in
    let l : n < length p.classes = subst (λ m. n < m) c.len-place-end.ensures c.loop-place-test.true in
    let at : is_straight_at p n ≡ false = sym (c.is_straight_at.ensures o ∙ ap (is_straight_at p) (c.word.ensures (omega (arith, l, few)))) ∙ c.if-not-is_straight_at.true in
    sym (untrue (is_straight p) (λ h. clash (is_straight_at p n) (passes_all (is_straight_at p) (range_with_len 0 (length p.classes)) n h (numbers_in 0 (length p.classes) n (omega arith) (omega (arith, l)))) at))
