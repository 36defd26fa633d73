use Rattle.std.proofs.Common.{◌≡◌, take}
use Rattle.std.specs.Option.{option_copied}
use Rattle.const_prop.specs.Folds.{edits_of, table_of}
use Rattle.const_prop.proofs.folding.typed.Given as goal

abbrev pub invariant-loop-fold : goal.invariant-loop-fold
invariant-loop-fold l = l.edits.items ≡ edits_of (table_of (option_copied l.typings)) l.body (take l.fold-index l.folds)
