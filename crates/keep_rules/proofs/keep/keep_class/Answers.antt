use Rattle.keep_rules.proofs.KeepLemmas.{stays, kept, applied, incomplete}
use Rattle.keep_rules.proofs.keep.keep_class.Goals as goal

pub returns-then-not-complete : goal.returns-then-not-complete
returns-then-not-complete c = λ k is keeps fits known. stays c.args.program.now k c.args.class.now c.args.marks.now (incomplete c.args.program.now k c.args.class.now c.in_ok-complete.complete (c.in_ok-complete.ensures k known is) c.if-not-complete.true)

pub returns : goal.returns
returns c = λ k is keeps fits known. kept c.args.program.now k c.args.class.now c.args.marks.now c.keep_members.new.marks (applied c.args.program.now k c.args.class.now c.in_ok-complete.complete keeps fits (c.in_ok-complete.ensures k known is) c.if-not-complete.false) (c.in_ok-keep_members.ensures k is known)
