use Rattle.keep_rules.proofs.EachLemmas.{any_end, any_found, any_passed}
use Rattle.dalvik_defs.specs.Naming.{text_at, signature_at}
use Rattle.rule_text.specs.Rules.{MemberRule}
use Rattle.rule_text.specs.Related.{IsMemberOf}
use Rattle.rule_defs.specs.Members.{names_method}
use Rattle.keep_rules.proofs.assume.some_line_names.Goals as goal

pub returns-then-named : goal.returns-then-named
returns-then-named c = λ ms known are. any_found IsMemberOf (λ (m : MemberRule). names_method m.what (text_at c.args.program.now c.args.method.now.name) (signature_at c.args.program.now c.args.method.now.proto)) c.args.lines.now ms c.loop-line.line-index _ _ are c.loop-line-test.true c.line-item.is
    (λ m is. c.in_ok-named.ensures m.what known is.what) c.if-named.true (c.loop-line.invariant ms known are)

pub loop-line-preserved : goal.loop-line-preserved
loop-line-preserved c = λ ms known are. any_passed IsMemberOf (λ (m : MemberRule). names_method m.what (text_at c.args.program.now c.args.method.now.name) (signature_at c.args.program.now c.args.method.now.proto)) c.args.lines.now ms c.loop-line.line-index _ _ are c.loop-line-test.true c.line-item.is
    (λ m is. c.in_ok-named.ensures m.what known is.what) c.if-named.false (c.loop-line.invariant ms known are)

pub returns : goal.returns
returns c = λ ms known are. any_end IsMemberOf (λ (m : MemberRule). names_method m.what (text_at c.args.program.now c.args.method.now.name) (signature_at c.args.program.now c.args.method.now.proto)) c.args.lines.now ms _ are c.loop-line-test.false (c.loop-line.invariant ms known are)
