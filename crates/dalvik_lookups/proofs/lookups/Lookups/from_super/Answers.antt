use Rattle.std.proofs.Common.{sym, subst}
use Rattle.dalvik_lookups.specs.Walks.{AreFound}
use Rattle.dalvik_lookups.proofs.Calls.{from_super_more, kept_call}
use Rattle.dalvik_lookups.proofs.lookups.Lookups.from_super.Goals as goal

pub returns-in_ok-found-in-None-clause-kept : goal.returns-in_ok-found-in-None-clause-kept
returns-in_ok-found-in-None-clause-kept c = λ r m.
    let mid = c.find_super.ensures.kept m in
    kept_call c.args.self.now c.find_super.new.memo c.keep_super.new.self mid c.keep_super.ensures.rest
    (subst (λ v. AreFound c.args.self.now v.items) (sym c.keep_super.ensures.virtuals) mid.virtuals)
    (from_super_more c.args.self.now.program.now _ _ c.args.method c.args.class c.in_ok-found-in-None.found mid.supers c.keep_super.ensures.calls (c.in_ok-found-in-None.ensures.is r m))
