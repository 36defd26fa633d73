use Rattle.dex_defs.proofs.Refused.{not_shared, not_wild, zero_gap, no_other_gap}
use Rattle.dex_defs.proofs.examples.loose_ends_are_refused.Goals as goal

pub returns : goal.returns
returns c = record {
  shared = λ bytes from a offsets texts to x lie. not_shared bytes from a offsets texts to x lie;
  wild = λ bytes align from offset stop x is. not_wild bytes align from offset stop x is;
  zero = zero_gap;
  other = λ h. no_other_gap h;
}
