use Rattle.std.proofs.Common.{◌≡◌, ◌∙◌, ap}
use Rattle.domains.specs.Ranges.{Bounds, words_between, first_word, last_word}
use Rattle.value_ops.specs.Left.{both_go_on, narrowed}
use Rattle.value_ops.proofs.tests_of.at_least.Goals as goal

pub returns : goal.returns
returns c =
    let first : c.narrowed-first.result ≡ narrowed c.args.a.now (words_between c.args.b.now.interval.low last_word) = c.narrowed-first.ensures ∙ ap (narrowed c.args.a.now) (c.words_from-above.ensures ∙ ap (λ (r : Bounds). words_between r.low last_word) c.interval.ensures) in
    let second : c.narrowed-second.result ≡ narrowed c.args.b.now (words_between first_word c.args.a.now.interval.high) = c.narrowed-second.ensures ∙ ap (narrowed c.args.b.now) (c.words_to-below.ensures ∙ ap (λ (r : Bounds). words_between first_word r.high) c.interval-2.ensures) in
    c.both_go_on.ensures ∙ ap (λ x. both_go_on x c.narrowed-second.result) first ∙ ap (both_go_on (narrowed c.args.a.now (words_between c.args.b.now.interval.low last_word))) second
