use Rattle.std.proofs.Common.{◌≡◌, ℕ, ◌+◌, true, subst}
use Rattle.std.specs.Prelude.{◌↔◌}
use Rattle.copy_prop.specs.Searches.{StandsBehind}
use Rattle.copy_prop.proofs.Worth.{worth_narrow, worth_wide}
use Rattle.copy_prop.proofs.stale.is_worth.Goals as goal

pub returns-in_ok-second : goal.returns-in_ok-second
returns-in_ok-second c =
    let P : ℕ → Type 0 = λ t. (c.in_ok-first.first ≡ true) ↔ StandsBehind c.args.body.now c.args.copy.now.at t c.args.good.now in
    let Q : ℕ → Type 0 = λ t. (c.in_ok-second.second ≡ true) ↔ StandsBehind c.args.body.now c.args.copy.now.at (t + 1) c.args.good.now in
    worth_wide c.args.body.now c.args.copy.now c.args.good.now c.if-copy.false c.in_ok-first.first (subst P c.from-to.ensures c.in_ok-first.ensures) c.in_ok-second.second c.both.result (cc (c.is_wide-wide.ensures, c.if-wide.true)) (subst Q c.from-to.ensures c.in_ok-second.ensures) c.both.ensures

pub returns-else-wide : goal.returns-else-wide
returns-else-wide c =
    let P : ℕ → Type 0 = λ t. (c.in_ok-first.first ≡ true) ↔ StandsBehind c.args.body.now c.args.copy.now.at t c.args.good.now in
    worth_narrow c.args.body.now c.args.copy.now c.args.good.now c.if-copy.false c.in_ok-first.first (subst P c.from-to.ensures c.in_ok-first.ensures) (cc (c.is_wide-wide.ensures, c.if-wide.false))
