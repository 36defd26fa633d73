use Rattle.std.proofs.Common.{nat_eq, subst}
use Rattle.std.specs.Prelude.{◌&&◌}
use Rattle.std.specs.List.{list_any}
use Rattle.keep_rules.specs.Fits.{has_method_name}
use Rattle.keep_rules.specs.Marks.{is_always}
use Rattle.keep_rules.specs.Grown.{is_describing, lined_method, GrewMembers}
use Rattle.keep_rules.proofs.MemberLemmas.{read_all}
use Rattle.keep_rules.proofs.KeepLemmas.{members_start, method_more, method_end, lined_method_is}
use Rattle.keep_rules.proofs.keep.keep_methods.Goals as goal

pub loop-method-init : goal.loop-method-init
loop-method-init c = λ k is known. members_start (is_always c.args.hold) (is_describing k) (λ n. list_any (lined_method c.args.program.now k n) c.args.methods.now) c.args.marks.now

pub loop-method-preserved : goal.loop-method-preserved
loop-method-preserved c = λ k is known. method_more c.args.program.now k (is_always c.args.hold) (is_describing k) c.args.methods.now c.loop-method.method-index c.method-item.result c.in_ok-fits.fits c.args.marks.now c.loop-method.marks c.keep_where.new.self c.loop-method-test.true c.method-item.is
    (λ n. lined_method_is c.args.program.now k n c.method-item.result c.in_ok-fits.fits (c.in_ok-fits.ensures _ (read_all (has_method_name c.args.program.now) c.args.methods.now c.loop-method.method-index _ known c.loop-method-test.true c.method-item.is) (c.lines_of.ensures k.class is.class)))
    (c.loop-method.invariant k is known)
    (subst (λ d. GrewMembers (is_always c.args.hold) d (λ n. nat_eq n c.method-item.result.name && c.in_ok-fits.fits) c.loop-method.marks c.keep_where.new.self) (c.describes-described.ensures k is) c.keep_where.ensures)

pub returns : goal.returns
returns c = λ k is known. method_end c.args.program.now k (is_always c.args.hold) (is_describing k) c.args.methods.now c.loop-method.method-index c.args.marks.now c.loop-method.marks c.loop-method-test.false (c.loop-method.invariant k is known)
