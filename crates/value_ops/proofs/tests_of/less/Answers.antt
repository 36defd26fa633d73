use Rattle.std.proofs.Common.{◌≡◌, ◌∙◌, ap}
use Rattle.domains.specs.Ranges.{Bounds}
use Rattle.value_ops.specs.Left.{both_go_on, narrowed}
use Rattle.value_ops.specs.Tests.{words_below, words_above}
use Rattle.value_ops.proofs.tests_of.less.Goals as goal

pub returns : goal.returns
returns c =
    let first : c.narrowed-first.result ≡ narrowed c.args.a.now (words_below c.args.b.now.interval.high) = c.narrowed-first.ensures ∙ ap (narrowed c.args.a.now) (c.words_below-below.ensures ∙ ap (λ (r : Bounds). words_below r.high) c.interval.ensures) in
    let second : c.narrowed-second.result ≡ narrowed c.args.b.now (words_above c.args.a.now.interval.low) = c.narrowed-second.ensures ∙ ap (narrowed c.args.b.now) (c.words_above-above.ensures ∙ ap (λ (r : Bounds). words_above r.low) c.interval-2.ensures) in
    c.both_go_on.ensures ∙ ap (λ x. both_go_on x c.narrowed-second.result) first ∙ ap (both_go_on (narrowed c.args.a.now (words_below c.args.b.now.interval.high))) second
