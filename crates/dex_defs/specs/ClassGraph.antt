-- The class graph of a program stands with the other definitions of classes by number.
pub use Rattle.class_defs.specs.ClassGraph.{IsTwice, IsAbove, IsSuperclass, StepsTo, IsAncestor, IsUnder, IsCycle, is_package_private, package_of, HasVirtual, IsSplit}
