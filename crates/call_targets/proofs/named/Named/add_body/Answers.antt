use Rattle.std.proofs.Common.{ap, length, take, arith}
use Rattle.call_targets.proofs.Contained.{none_in, at_place}
use Rattle.call_targets.specs.Called.{AmongInsns}
use Rattle.call_targets.proofs.Naming.{notes_none, insns_at, insns_all}
use Rattle.call_targets.proofs.named.Named.add_body.Goals as goal

pub loop-insn-init : goal.loop-insn-init
loop-insn-init c = λ few are. notes_none c.args.at.now.program.now (AmongInsns (take 0 c.args.body.now.insns)) c.args.self.now are (λ i m name k e. none_in k.one k.there)

pub loop-insn-preserved : goal.loop-insn-preserved
loop-insn-preserved c = λ few are. let f = c.loop-insn.invariant few are in
    insns_at c.args.at.now.program.now c.args.self.now c.loop-insn.self c.add_insn.new.self c.args.body.now.insns c.loop-insn.insn-index c.insn-item.result
    (at_place c.args.body.now.insns c.as_slice-insn-items.result.now c.loop-insn.insn-index c.insn-item.result c.as_slice-insn-items.ensures c.insn-item.is c.loop-insn-test.true).more f (c.in_ok-add_insn.ensures few f.are)

pub returns : goal.returns
returns c = λ few are. insns_all c.args.at.now.program.now c.args.self.now c.loop-insn.self c.args.body.now.insns c.loop-insn.insn-index (let l = c.loop-insn-test.false in let e = ap length c.as_slice-insn-items.ensures in omega (arith, l, e)) (c.loop-insn.invariant few are)
