use Rattle.std.proofs.Common.{◌≡◌, ℕ, ◌<◌, true, false, List, [], length, subst}
use Rattle.copy_prop.specs.Propagated.{row_at}
use Rattle.copy_prop.specs.declared.copied.Copied.{Copied}
use Rattle.copy_prop.proofs.Settled.{none_stale, some_stale}
use Rattle.copy_prop.proofs.looking.has_stale_read.Goals as goal

pub returns-clause-none : goal.returns-clause-none
returns-clause-none c = λ e. none_stale c.args.widths.now c.args.body.now c.in_ok-table.table.items c.in_ok-table.ensures
    (subst (λ (t : List (List Copied)). (n : ℕ) → n < length t → row_at t n ≡ []) c.as_slice.ensures.value (c.has_copies.ensures.none e))

pub returns-clause-some : goal.returns-clause-some
returns-clause-some c = λ e. some_stale c.args.widths.now c.args.body.now c.in_ok-table.table.items c.in_ok-table.ensures
    (subst (λ (t : List (List Copied)). (n : ℕ) × (n < length t) × (row_at t n ≡ [] → ⊥)) c.as_slice.ensures.value (c.has_copies.ensures.some e))
