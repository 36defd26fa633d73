use Rattle.std.proofs.Common.{◌≡◌, List, ℕ, take}
use Rattle.verify.specs.Descriptors.{number_of, first_number, is_class_of, short}
use Rattle.verify.proofs.named.places.Given as goal

abbrev pub invariant-loop-class : goal.invariant-loop-class
invariant-loop-class l = record {
  at : l.at ≡ short l.class-index;
  known : (t : List ℕ) → number_of l.numbers t ≡ first_number (is_class_of l.program t) (take l.class-index l.program.classes);
}
