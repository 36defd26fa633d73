use Rattle.std.proofs.Common.{sym, subst}
use Rattle.dalvik_lookups.specs.Walks.{AreFromSuper}
use Rattle.dalvik_lookups.proofs.Calls.{found_more, kept_call}
use Rattle.dalvik_lookups.proofs.lookups.Lookups.virtually_at.Goals as goal

pub returns-in-Some-clause-is : goal.returns-in-Some-clause-is
returns-in-Some-clause-is c = λ k q r m hc hq. m.virtuals.is c.args.method c.args.class c.in-Some.found q c.in-Some.ensures hq

pub returns-in_ok-found-in-None-clause-kept : goal.returns-in_ok-found-in-None-clause-kept
returns-in_ok-found-in-None-clause-kept c = λ k q r m hc hq.
    let mid = c.find_virtually.ensures.kept k q r m hc hq in
    kept_call c.args.self.now c.find_virtually.new.memo c.keep_virtual.new.self mid c.keep_virtual.ensures.rest
    (found_more c.args.self.now _ _ c.args.method c.args.class c.in_ok-found-in-None.found mid.virtuals c.keep_virtual.ensures.calls (λ other h. c.in_ok-found-in-None.ensures.is k other r m hc h))
    (subst (λ v. AreFromSuper c.args.self.now.program.now v.items) (sym c.keep_virtual.ensures.supers) mid.supers)
