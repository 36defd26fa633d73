use Rattle.std.proofs.Common.{◌≡◌, ℕ, false, take}
use Rattle.std.specs.List.{list_any}
use Rattle.program_model.specs.declared.pass.Outside.{Outside}
use Rattle.dalvik_lookups.specs.Views.{type_text, IsKind}
use Rattle.dalvik_lookups.specs.Walks.{IsKept}
use Rattle.dalvik_lookups.specs.Reached.{keeps_over, KnowsKey}
use Rattle.dalvik_lookups.proofs.lookups.Lookups.keeps_over_any.Given as goal

abbrev pub invariant-loop-class : goal.invariant-loop-class
invariant-loop-class l = record {
  kept : (o : Outside) (name proto : ℕ) → KnowsKey l.self o l.key name proto → IsKept l.self l.fn.memo → IsKind l.self.types l.lower → IsKept l.self l.memo;
  none : (o : Outside) (name proto : ℕ) → KnowsKey l.self o l.key name proto → IsKept l.self l.fn.memo → IsKind l.self.types l.lower
      → list_any (keeps_over l.self.program.now l.self.framework.now o name proto (type_text l.self.types l.lower)) (take l.class-index l.classes) ≡ false;
}
