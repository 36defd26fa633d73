use Rattle.std.proofs.Common.{◌∙◌}
use Rattle.dalvik_lookups.proofs.Calls.{none_found, none_from_super}
use Rattle.dalvik_lookups.proofs.lookups.Lookups.memo.Goals as goal

pub returns : goal.returns
returns c = λ r. record {
  fair = c.in_ok-memo.ensures.fair;
  long = c.in_ok-memo.ensures.long ∙ r.resolved.of.count;
  virtuals = none_found c.args.self.now _ _ c.in_ok-memo.ensures.virtuals;
  supers = none_from_super c.args.self.now.program.now _ _ c.in_ok-memo.ensures.supers;
  size = c.in_ok-memo.ensures.size ∙ c.len-2.ensures;
  clean = c.in_ok-memo.ensures.clean;
  under = λ u a e. absurd (c.in_ok-memo.ensures.under u a e);
}
