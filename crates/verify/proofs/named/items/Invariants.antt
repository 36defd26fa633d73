use Rattle.std.proofs.Common.{◌≡◌, List, ℕ, take}
use Rattle.verify.specs.Descriptors.{number_of, first_number, is_item_of, short}
use Rattle.verify.proofs.named.items.Given as goal

abbrev pub invariant-loop-string : goal.invariant-loop-string
invariant-loop-string l = record {
  at : l.at ≡ short l.string-index;
  known : (t : List ℕ) → number_of l.numbers t ≡ first_number (is_item_of l.program t) (take l.string-index l.program.types);
}
