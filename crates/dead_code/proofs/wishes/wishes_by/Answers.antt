use Rattle.std.proofs.Common.{arith}
use Rattle.insn_set.specs.declared.form.Insn.TheVariants as insn
use Rattle.walk_marks.specs.Walks.{is_on}
use Rattle.dead_code.specs.Wishes.{wish_for}
use Rattle.thin_pass.proofs.Wished.{wished_none, wished_more, wished_all}
use Rattle.dead_code.proofs.wishes.wishes_by.Goals as goal

pub loop-position-init : goal.loop-position-init
loop-position-init c = wished_none (λ n i. wish_for (is_on c.args.dead.now n) (is_on c.args.firsts.now n)) c.args.insns.now c.in_ok-wishes.wishes.items c.in_ok-wishes.ensures.items

pub loop-position-preserved : goal.loop-position-preserved
loop-position-preserved c = wished_more (λ n i. wish_for (is_on c.args.dead.now n) (is_on c.args.firsts.now n)) c.args.insns.now c.loop-position.wishes.items c.push.new.self.items c.loop-position.position insn.Nop c.wish.result
    c.loop-position.invariant c.wish.ensures c.in_ok-push.ensures.items

pub returns : goal.returns
returns c = wished_all (λ n i. wish_for (is_on c.args.dead.now n) (is_on c.args.firsts.now n)) c.args.insns.now c.loop-position.wishes.items c.loop-position.position (omega arith) c.loop-position.invariant
