-- What passes counted, and how a program falls with it.
use Rattle.std.specs.Prelude.{◌≡◌, ◌⊎◌, ℕ, ◌+◌, ◌<◌, ◌≤◌, min}
use Rattle.program_model.specs.declared.program.Program.{Program}
use Rattle.reach.specs.Kept.{size_of}
use Rattle.thin_pass.specs.Weights.{weight_of}
use Rattle.compact.specs.Measure.{numbers_in}
use Rattle.const_prop.specs.Measure.{open_forms}
use Rattle.devirt.specs.Measure.{calls_in}
use Rattle.moves_law.specs.Measure.{moves_in}
use Rattle.staticise.specs.Left.{receivers_in}
use Rattle.pipeline.specs.declared.traces.Changes.{Changes}

abbrev pub no_changes : Changes
no_changes = record { removed = 0; folded = 0; rebound = 0; reread = 0; renamed = 0 }

-- all that was counted
abbrev pub total_of : Changes → ℕ
total_of c = c.removed + c.folded + c.rebound + c.reread + c.renamed

-- How much of a program there is: its classes and members, its instructions, a nop counting 1 and every other one 2, and the
-- receivers of its methods with code. No pass makes it more, and a pass that takes away makes it less, or that makes nops of
-- instructions, or static methods of others.
abbrev pub bulk_of : Program → ℕ
bulk_of p = size_of p + weight_of p + receivers_in p

-- What its bodies name: their registers, and the numbers of those that instructions name. A pass that gives registers other numbers
-- makes it less.
abbrev pub rank_of : Program → ℕ
rank_of p = numbers_in p

-- Fewer reads of a program are of copies, or as many, and what is left ranks lower.
abbrev pub HasFewerCopies : Program → Program → Type 0
HasFewerCopies q p = (moves_in q < moves_in p) ⊎ ((moves_in q ≤ moves_in p) × (rank_of q < rank_of p))

-- Its virtual and interface calls are nearer to what they find, or as near, and then so.
abbrev pub IsNearer : Program → Program → Type 0
IsNearer q p = (calls_in q < calls_in p) ⊎ ((calls_in q ≤ calls_in p) × HasFewerCopies q p)

-- Fewer of its instructions may still be folded, or as many, and then so.
abbrev pub IsPlainer : Program → Program → Type 0
IsPlainer q p = (open_forms q < open_forms p) ⊎ ((open_forms q ≤ open_forms p) × IsNearer q p)

-- There is less of a program, or as much, and then so.
abbrev pub IsLess : Program → Program → Type 0
IsLess q p = (bulk_of q < bulk_of p) ⊎ ((bulk_of q ≤ bulk_of p) × IsPlainer q p)

-- No more of a program is left, and less where something was taken away, be it a receiver. Where nothing was, no more of its instructions may still
-- be folded, and fewer where some were. Where none were either, its calls are no further from what they find, and nearer where some
-- name another method. Where none do, its reads of copies are no more, and fewer where some read originals; and where none do, it
-- ranks no higher, and lower where registers got other numbers.
pub record Falls (c : Changes) (q p : Program) : Type 0 where
  pub less : bulk_of q + min c.removed 1 ≤ bulk_of p
  pub plainer : c.removed ≡ 0 → open_forms q + min c.folded 1 ≤ open_forms p
  pub nearer : c.removed ≡ 0 → c.folded ≡ 0 → calls_in q + min c.rebound 1 ≤ calls_in p
  pub fewer : c.removed ≡ 0 → c.folded ≡ 0 → c.rebound ≡ 0 → moves_in q + min c.reread 1 ≤ moves_in p
  pub lower : c.removed ≡ 0 → c.folded ≡ 0 → c.rebound ≡ 0 → c.reread ≡ 0 → rank_of q + min c.renamed 1 ≤ rank_of p
