use Rattle.std.proofs.Common.{refl, arith}
use Rattle.verify.proofs.Calling.{finds_more, finds_all}
use Rattle.verify.proofs.calls.Calls.search_each.Goals as goal

pub loop-insn-preserved : goal.loop-insn-preserved
loop-insn-preserved c =
    let i = c.loop-insn.invariant in
    record {
      size = omega (arith, i.size, c.in_ok-push.ensures.len);
      serves = λ s. c.in_ok-search.ensures.serves (i.serves s);
      finds = λ of s. finds_more c.args.self.now.program.now c.args.class c.args.insns.now c.args.insns.now c.loop-insn.insn-index c.insn-item.result c.loop-insn.found.items c.push.new.self.items c.in_ok-search.field-0 refl c.insn-item.is c.loop-insn-test.true i.size
          c.in_ok-push.ensures.items (c.in_ok-search.ensures.is of (i.serves s)) (i.finds of s);
    }

pub returns-clause-is : goal.returns-clause-is
returns-clause-is c = λ of s. finds_all c.args.self.now.program.now c.args.class c.args.insns.now c.loop-insn.found.items c.loop-insn.insn-index c.loop-insn-test.false (c.loop-insn.invariant.finds of s)
