use Rattle.std.proofs.Common.{◌≡◌, ◌++◌, ◌∙◌, length, ap, sym, arith}
use Rattle.std.proofs.lemmas.List.{append-nil}
use Rattle.if_text.proofs.Loops.{many_lines}
use Rattle.if_text.proofs.slots.push_members.Goals as goal

pub returns-in_default-2 : goal.returns-in_default-2
returns-in_default-2 c = λ ms are. sym (
    ap (λ ss. c.args.out.now.items ++ ss) (many_lines c.args.members.now c.in-Some.lines ms c.in-Some.is (λ e.
    let here : length c.as_slice.result.now ≡ 1 = ap length c.as_slice.ensures.value ∙ e in
    grind (arith, c.in_default.len_at_least, here)) are) ∙ append-nil c.args.out.now.items
    )
