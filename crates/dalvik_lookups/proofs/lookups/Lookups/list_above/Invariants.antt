use Rattle.std.proofs.Common.{◌≡◌, ◌++◌, [], ℕ, map, length}
use Rattle.class_defs.specs.Places.{interface_places}
use Rattle.hierarchy.specs.Walking.{IsFair, IsUnseen}
use Rattle.dalvik_lookups.specs.Rising.{todo, work}
use Rattle.dalvik_lookups.specs.Starting.{firsts, interfaces_before}
use Rattle.dalvik_lookups.specs.Tables.{IsRight}
use Rattle.dalvik_lookups.specs.declared.starts.Visit.TheVariants.{Above}
use Rattle.dalvik_lookups.proofs.Rising.{Rises}
use Rattle.dalvik_lookups.proofs.lookups.Lookups.list_above.Given as goal

abbrev pub invariant-loop-one : goal.invariant-loop-one
invariant-loop-one l = record {
  fair : IsFair l.fn.walk → IsFair l.walk;
  size : length l.walk.seen.items ≡ length l.fn.walk.seen.items;
  rises : (c : ℕ) → (r : IsRight l.self) → IsUnseen (length l.self.program.now.classes) l.fn.walk → todo l.fn.rise ≡ map (λ c. Above c) (interface_places l.self.program.now c) ++ []
      → Rises l.self.program.now r.resolved.of.ranked (firsts (interfaces_before (length l.self.program.now.classes) l.self.program.now (interface_places l.self.program.now c))) l.walk.seen.items (todo l.rise) l.out.items;
}

abbrev pub decreases-loop-one : goal.decreases-loop-one
decreases-loop-one l = work l.walk.seen.items (todo l.rise)
