use Rattle.std.proofs.Common.{ℕ, ◌∙◌, ap}
use Rattle.insn_regs.specs.Remade.{remade}
use Rattle.compact.specs.Renamed.{renamed}
use Rattle.compact.proofs.Fixing.{remade_twice}
use Rattle.compact.proofs.numbers.renumber_one.Goals as goal

pub returns : goal.returns
returns c =
    let new : ℕ → ℕ = renamed c.args.numbers.now.low.items c.args.numbers.now.shift in
    c.rename_writes.ensures ∙ ap (remade (λ r. r) new) c.in_ok-rename_reads.ensures.ok ∙ remade_twice new c.args.insn.now
