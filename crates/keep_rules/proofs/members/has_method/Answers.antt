use Rattle.keep_rules.proofs.EachLemmas.{named_end, named_found, named_passed}
use Rattle.keep_rules.proofs.MemberLemmas.{read_all}
use Rattle.dalvik_defs.specs.Naming.{named_method}
use Rattle.rule_defs.specs.Members.{matches_method}
use Rattle.keep_rules.specs.Fits.{has_method_name}
use Rattle.keep_rules.proofs.members.has_method.Goals as goal

pub returns-then-fits : goal.returns-then-fits
returns-then-fits c = λ m known is. named_found (named_method c.args.program.now) (matches_method m) c.args.methods.now c.loop-method.method-index _ _ c.loop-method-test.true c.method-item.is (c.in_ok-fits.ensures m (read_all (has_method_name c.args.program.now) c.args.methods.now c.loop-method.method-index _ known c.loop-method-test.true c.method-item.is) is) c.if-fits.true (c.loop-method.invariant m known is)

pub loop-method-preserved : goal.loop-method-preserved
loop-method-preserved c = λ m known is. named_passed (named_method c.args.program.now) (matches_method m) c.args.methods.now c.loop-method.method-index _ _ c.loop-method-test.true c.method-item.is (c.in_ok-fits.ensures m (read_all (has_method_name c.args.program.now) c.args.methods.now c.loop-method.method-index _ known c.loop-method-test.true c.method-item.is) is) c.if-fits.false (c.loop-method.invariant m known is)

pub returns : goal.returns
returns c = λ m known is. named_end (named_method c.args.program.now) (matches_method m) c.args.methods.now _ c.loop-method-test.false (c.loop-method.invariant m known is)
