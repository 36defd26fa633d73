use Rattle.std.proofs.Common.{◌≡◌, ◌-◌, ◌∷◌, ◌∙◌, ℕ, suc, drop, take, length, slice_index, ap, sym, arith}
use Rattle.std.specs.Prelude.{slice_get}
use Rattle.std.proofs.lemmas.Result.{IfOk-weaker}
use Rattle.receivers.specs.Receiving.{agreed}
use Rattle.receivers.proofs.Loops.{at_index, head_tail, in_tail, rest_is}
use Rattle.receivers.proofs.finding.Finder.found_by_all.Goals as goal

pub returns-in-len1-up-clause-is : goal.returns-in-len1-up-clause-is
returns-in-len1-up-clause-is c = λ f r q n s.
    let p = c.args.self.now.program.now in
    let xs = c.args.classes.now in
    let l = c.in-len1-up.len_at_least in
    IfOk-weaker c.agreed.result (λ o. o ≡ agreed p q (slice_index xs 0 ∷ take (length xs - 1) (drop 1 xs))) (λ o. o ≡ agreed p q xs)
    (λ v h. h ∙ (ap (λ ys. agreed p q (slice_index xs 0 ∷ ys)) (rest_is xs) ∙ ap (agreed p q) (head_tail xs l)))
    (c.agreed.ensures.is f r q n (s 0 (slice_index xs 0) (at_index xs 0 (omega (arith, l)))) (λ k x e. s (suc k) x (in_tail xs k x (ap (λ ys. slice_get ys k) (sym (rest_is xs)) ∙ e))))
