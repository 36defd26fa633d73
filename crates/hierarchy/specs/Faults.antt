-- The causes of the faults of a hierarchy.
use Rattle.std.specs.Prelude.{◌≡◌, ℕ, List}
use Rattle.std.proofs.Common.{Result, Err}
use Rattle.program_model.specs.declared.program.Program.{Program}
use Rattle.hierarchy.specs.Splitting.{IsFirstSplit}
use Rattle.hierarchy.specs.declared.fault.HierarchyFault.{HierarchyFault}
use Rattle.hierarchy.specs.declared.fault.HierarchyFault.TheVariants.{NoMemory, Cycle, Twice, SplitOverride}

-- want of memory, or a class whose type has a place already
abbrev pub IsTwiceOr : Result (List ℕ) ℕ → HierarchyFault → Type 0
IsTwiceOr placing NoMemory = Unit {0}
IsTwiceOr placing (Twice class) = placing ≡ Err class
IsTwiceOr placing (Cycle class) = ⊥
IsTwiceOr placing (SplitOverride class method) = ⊥

-- want of memory, or the first class with a split override and its first such method
abbrev pub IsSplitOr : Program → HierarchyFault → Type 0
IsSplitOr p NoMemory = Unit {0}
IsSplitOr p (Twice class) = ⊥
IsSplitOr p (Cycle class) = ⊥
IsSplitOr p (SplitOverride class method) = IsFirstSplit p class method
