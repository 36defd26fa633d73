use Rattle.std.proofs.Common.{None, nat_eq, ap, ◌∙◌}
use Rattle.std.specs.Prelude.{cond, slice_index_or}
use Rattle.dalvik_lookups.specs.Tables.{place_of}
use Rattle.dalvik_lookups.proofs.Placed.{class_placed}
use Rattle.dalvik_lookups.proofs.lookups.Lookups.class_at.Goals as goal

pub returns : goal.returns
returns c = λ r h. c.class_in.ensures ∙ ap (λ v. cond (nat_eq c.args.kind.depth 0) (place_of (slice_index_or v c.args.kind.base 4294967295)) None) c.as_slice.ensures.value ∙ class_placed c.args.self.now r c.args.kind h
