-- What a removal leaves has no more methods with a receiver.
use Rattle.std.proofs.Common.{◌≤◌, List, [], ◌∷◌, map, arith}
use Rattle.std.specs.Prelude.{sum_by}
use Rattle.std.proofs.lemmas.List.Sums.{sum_by-cons}
use Rattle.program_model.specs.declared.program.Class.{Class}
use Rattle.program_model.specs.declared.program.Method.{Method}
use Rattle.program_model.specs.declared.program.Program.{Program}
use Rattle.call_graph.specs.declared.live_set.LiveSet.{LiveSet}
use Rattle.reach.specs.Kept.{is_marked, kept_in, kept_of, live_classes}
use Rattle.reach.proofs.Sublists.{sum_left}
use Rattle.staticise.specs.Left.{class_receivers, receivers_in}
use Rattle.moves_law.proofs.ReceiverSums.{word_of}

module _ (s : LiveSet) where
  class_no_more : (c : Class) → class_receivers (kept_in s c) ≤ class_receivers c
  class_no_more c = sum_left (λ (m : Method). is_marked s.methods.items m.name) word_of c.methods

  classes_no_more : (cs : List Class) → sum_by class_receivers (map (kept_in s) cs) ≤ sum_by class_receivers cs
  classes_no_more [] = omega arith
  classes_no_more (c ∷ cs) =
      let one = class_no_more c in
      let rest = classes_no_more cs in
      omega (arith, one, rest, sum_by-cons class_receivers (kept_in s c) (map (kept_in s) cs), sum_by-cons class_receivers c cs)

  pub removed_receivers : (p : Program) → receivers_in (kept_of s p) ≤ receivers_in p
  removed_receivers p =
      let inside = classes_no_more (live_classes s p.classes) in
      let whole = sum_left (λ (c : Class). is_marked s.classes.items c.name) class_receivers p.classes in
      omega (arith, inside, whole)
