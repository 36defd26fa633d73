use Rattle.std.proofs.Common.{ℕ, List, length, ap, ◌∙◌}
use Rattle.walk_marks.specs.Walks.{row_of}
use Rattle.live_regs.proofs.Operands.{readers_are}
use Rattle.live_regs.proofs.readers.readers_of.Goals as goal

pub returns-clause-reads : goal.returns-clause-reads
returns-clause-reads c = readers_are c.args.body.now c.deref.result.now c.in_ok-readers.readers.items (ap length c.deref.ensures.value ∙ c.in_ok-rows.ensures.long)
    (λ n lt. ap (λ (l : List (List ℕ)). row_of l n) c.deref.ensures.value ∙ c.in_ok-rows.ensures.rows n lt) c.in_ok-readers.ensures.turned
