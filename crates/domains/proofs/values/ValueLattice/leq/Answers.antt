use Rattle.std.proofs.Common.{◌≡◌, false, refl}
use Rattle.std.specs.Prelude.{IsTrue, ◌↔◌}
use Rattle.domains.specs.Datum.{Within}
use Rattle.domains.specs.Words.{word_holds}
use Rattle.domains.specs.Ranges.{range_holds}
use Rattle.domains.specs.Nulls.{null_holds}
use Rattle.domains.specs.ValueLaws.{and_then, and_else, leq_exact}
use Rattle.domains.proofs.values.ValueLattice.leq.Goals as goal
use Rattle.domains.proofs.values.ValueLattice.leq.Goals.{then-leq, else-leq, then-leq-2, else-leq-2}

pub returns-then-leq-3 : goal.returns-then-leq-3
returns-then-leq-3 c =
    let two : IsTrue c.if-leq.value ↔ (Within word_holds c.self.inside.word c.other.inside.word × Within range_holds c.self.inside.interval c.other.inside.interval) =
    elim c.if-leq.branch [
      | then-leq w ↦ and_then _ _ _ w.if-leq.true c.leq.ensures w.leq-then-leq.ensures w.value-is
      | else-leq w ↦ and_else _ _ w.if-leq.false c.leq.ensures w.value-is
    ] in
    let three : IsTrue c.if-leq-2.value ↔ ((Within word_holds c.self.inside.word c.other.inside.word × Within range_holds c.self.inside.interval c.other.inside.interval) × Within null_holds c.self.inside.nullness c.other.inside.nullness) =
    elim c.if-leq-2.branch [
      | then-leq-2 w ↦ and_then _ _ _ w.if-leq-2.true two w.leq-then-leq-2.ensures w.value-is
      | else-leq-2 w ↦ and_else _ _ w.if-leq-2.false two w.value-is
    ] in
    rw (← c.self.view_is, ← c.other.view_is) (leq_exact _ _ _ c.self.invariant (and_then _ _ _ c.if-leq-3.true three c.leq-then-leq-3.ensures refl))

pub returns-else-leq-3 : goal.returns-else-leq-3
returns-else-leq-3 c =
    let two : IsTrue c.if-leq.value ↔ (Within word_holds c.self.inside.word c.other.inside.word × Within range_holds c.self.inside.interval c.other.inside.interval) =
    elim c.if-leq.branch [
      | then-leq w ↦ and_then _ _ _ w.if-leq.true c.leq.ensures w.leq-then-leq.ensures w.value-is
      | else-leq w ↦ and_else _ _ w.if-leq.false c.leq.ensures w.value-is
    ] in
    let three : IsTrue c.if-leq-2.value ↔ ((Within word_holds c.self.inside.word c.other.inside.word × Within range_holds c.self.inside.interval c.other.inside.interval) × Within null_holds c.self.inside.nullness c.other.inside.nullness) =
    elim c.if-leq-2.branch [
      | then-leq-2 w ↦ and_then _ _ _ w.if-leq-2.true two w.leq-then-leq-2.ensures w.value-is
      | else-leq-2 w ↦ and_else _ _ w.if-leq-2.false two w.value-is
    ] in
    rw (← c.self.view_is, ← c.other.view_is) (leq_exact _ _ _ c.self.invariant (and_else _ _ c.if-leq-3.false three refl))
