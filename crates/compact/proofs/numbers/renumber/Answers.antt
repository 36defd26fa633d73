use Rattle.std.proofs.Common.{ℕ, ◌∙◌, ap, sym, set, arith}
use Rattle.std.proofs.lemmas.List.Edits.{map_over_more}
use Rattle.insn_regs.specs.Remade.{remade}
use Rattle.compact.specs.Renamed.{renamed}
use Rattle.compact.proofs.numbers.renumber.Goals as goal

pub loop-insn-preserved : goal.loop-insn-preserved
loop-insn-preserved c =
    let new : ℕ → ℕ = renamed c.args.numbers.now.low.items c.args.numbers.now.shift in
    ap (set c.loop-insn.insns c.loop-insn.insn-index) (c.in_ok-renumber_one.ensures ∙ ap (remade new new) (sym c.insn-item.is)) ∙ map_over_more (remade new new) c.args.insns.now c.loop-insn.insns c.loop-insn.insn-index c.insn-item.result (omega arith) c.loop-insn.invariant c.insn-item.is
