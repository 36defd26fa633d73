use Rattle.std.proofs.Common.{◌≡◌, length, sym, ◌∙◌, rules}
use Rattle.compact.proofs.Naming.{no_hits}
use Rattle.compact.proofs.clash.hits.Goals as goal

pub returns-then-is_empty : goal.returns-then-is_empty
returns-then-is_empty c =
    let none : length c.args.writers.now ≡ 0 = search rules in
    c.of_vec.ensures ∙ c.new-row.ensures.items ∙ sym (no_hits c.args.live.now c.args.insns.now c.args.names.now c.args.writers.now none)
