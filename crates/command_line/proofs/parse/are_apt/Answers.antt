use Rattle.std.proofs.Common.{◌≡◌, ◌∙◌, true, codes, bytes_eq, string_bytes, sym, ap}
use Rattle.command_line.proofs.Apt.{apt-ends}
use Rattle.command_line.proofs.parse.are_apt.Goals as goal

pub returns-then-eq : goal.returns-then-eq
returns-then-eq c =
    let is : c.as_str.result.now ≡ string_bytes c.word-item.result = c.as_str.ensures.value in
    let dashes : bytes_eq (string_bytes c.word-item.result) (codes "--") ≡ true = ap (λ w. bytes_eq w (codes "--")) (sym is) ∙ (sym c.eq.ensures ∙ c.if-eq.true) in
    apt-ends string_bytes c.args.words.now c.loop-word.word-index _ c.word-item.result c.loop-word-test.true c.word-item.is c.loop-word.invariant dashes
