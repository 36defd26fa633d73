use Rattle.std.proofs.Common.{◌≡◌, ℕ, Some}
use Rattle.std.specs.Prelude.{slice_get}
use Rattle.dalvik_lookups.specs.declared.memo.Asked.{Asked}
use Rattle.dalvik_lookups.proofs.memo.nothing_asked.Given as goal

abbrev pub invariant-loop : goal.invariant-loop
invariant-loop l = record { none : (u : ℕ) (a : Asked) → slice_get l.under.items u ≡ Some (Some a) → ⊥ }
