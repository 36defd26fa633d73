-- A program without some classes and members names no more registers.
use Rattle.std.proofs.Common.{◌≤◌, List, [], ◌∷◌, map, arith}
use Rattle.std.specs.Prelude.{sum_by}
use Rattle.std.proofs.lemmas.List.Sums.{sum_by-cons}
use Rattle.program_model.specs.declared.program.Class.{Class}
use Rattle.program_model.specs.declared.program.Program.{Program}
use Rattle.call_graph.specs.declared.live_set.LiveSet.{LiveSet}
use Rattle.reach.specs.Kept.{is_marked, kept_in, kept_of, live_classes}
use Rattle.reach.proofs.Sublists.{sum_left}
use Rattle.compact.specs.Measure.{method_numbers, class_numbers, numbers_in}

module _ (s : LiveSet) where
  class_falls : (c : Class) → class_numbers (kept_in s c) ≤ class_numbers c
  class_falls c = sum_left (λ m. is_marked s.methods.items m.name) method_numbers c.methods

  classes_fall : (cs : List Class) → sum_by class_numbers (map (kept_in s) cs) ≤ sum_by class_numbers cs
  classes_fall [] = omega arith
  classes_fall (c ∷ cs) = omega (arith, class_falls c, classes_fall cs, sum_by-cons class_numbers (kept_in s c) (map (kept_in s) cs), sum_by-cons class_numbers c cs)

  pub removed_numbers : (p : Program) → numbers_in (kept_of s p) ≤ numbers_in p
  removed_numbers p = omega (arith, classes_fall (live_classes s p.classes), sum_left (λ c. is_marked s.classes.items c.name) class_numbers p.classes)
