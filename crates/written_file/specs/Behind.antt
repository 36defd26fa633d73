-- Classes in an order in which each stands behind those above it.
use Rattle.std.specs.Prelude.{◌≡◌, ◌<◌, ℕ, List, [], ◌∷◌, ◌++◌, length, nat_eq, true, false}
use Rattle.std.specs.List.{list_any}
use Rattle.program_model.specs.declared.program.Program.{Program}
use Rattle.class_defs.specs.ClassGraph.{IsAbove}

-- a class of the program that is not among the classes before it, which are all those above it
pub record Behind (p : Program) (before : List ℕ) (class : ℕ) : Type 0 where
  pub inside : class < length p.classes
  pub once : list_any (nat_eq class) before ≡ false
  pub above : (upper : ℕ) → IsAbove p class upper → list_any (nat_eq upper) before ≡ true

abbrev pub AllBehind : Program → List ℕ → List ℕ → Type 0
AllBehind p before [] = Unit {0}
AllBehind p before (c ∷ cs) = Behind p before c × AllBehind p (before ++ c ∷ []) cs
