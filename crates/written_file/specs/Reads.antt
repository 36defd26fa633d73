-- What it is that an annotation can be read wherever it stands.
use Rattle.std.specs.Prelude.{ℕ, List}
use Rattle.dex_pools.specs.declared.scalar.TableSizes.{TableSizes}
use Rattle.program_model.specs.declared.value.Mark.{Mark}
use Rattle.dex_defs.specs.Annotations.{IsMark}
use Rattle.dex_defs.specs.Here.{Here}
use Rattle.dex_defs.specs.ValueTexts.{mark_text}

-- an annotation is one wherever its text stands
abbrev pub Reads : List ℕ → TableSizes → Mark → Type 0
Reads bytes sizes m = (at : ℕ) → Here bytes at (mark_text m) → IsMark bytes sizes at m
