-- What the tables of a hierarchy say of a program.
use Rattle.std.specs.Prelude.{◌≡◌, ◌<◌, ◌^◌, ℕ, List, length, map, replicate, vec_len, slice_index_or, Some}
use Rattle.std.proofs.Common.{Result, Ok, Err}
use Rattle.program_model.specs.declared.program.Program.{Program}
use Rattle.program_model.specs.Lookups.{class_place}
use Rattle.class_defs.specs.Places.{super_place, interface_places}
use Rattle.class_defs.specs.ClassGraph.{IsTwice, IsAncestor, IsCycle}
use Rattle.hierarchy.specs.Tables.{read_at, row_of}
use Rattle.hierarchy.specs.Naming.{IsNamed}
use Rattle.hierarchy.specs.Ranks.{IsRanked}
use Rattle.hierarchy.specs.Climbing.{IsOrder}
use Rattle.hierarchy.specs.Circling.{IsFirst}
use Rattle.hierarchy.specs.Splitting.{IsFirstSplit}
use Rattle.hierarchy.specs.Placing.{place_from, known_places}
use Rattle.class_defs.specs.Finding.{field_by}
use Rattle.class_defs.specs.Starts.{is_trivial}
use Rattle.hierarchy.specs.Quieting.{Marks}
use Rattle.hierarchy.specs.Starting.{HasStarts}
use Rattle.hierarchy.specs.Touring.{IsBelow, IsToured}
use Rattle.hierarchy.specs.Walking.{method_by}
use Rattle.hierarchy.specs.declared.build.Targets.{Targets}
use Rattle.hierarchy.specs.declared.build.Shape.{Shape}
use Rattle.hierarchy.specs.declared.build.Hierarchy.{Hierarchy}
use Rattle.hierarchy.specs.declared.fault.HierarchyFault.{HierarchyFault}
use Rattle.hierarchy.specs.declared.fault.HierarchyFault.TheVariants.{NoMemory, Cycle, Twice, SplitOverride}

-- how the places of the classes come about, class by class
abbrev pub placing : Program → Result (List ℕ) ℕ
placing p = place_from 0 p.classes (replicate (length p.types) 4294967295)

-- what stands above the classes by a table of their places
abbrev pub supers_by : List ℕ → Program → List ℕ
supers_by table p = map (λ c. slice_index_or table c.superclass 4294967295) p.classes

abbrev pub lists_by : List ℕ → Program → List (List ℕ)
lists_by table p = map (λ c. known_places table c.interfaces) p.classes

-- the tables as they are made
pub record IsMade (p : Program) (s : Shape) : Type 0 where
  pub places : length p.classes < 2 ^ 32 → placing p ≡ Ok s.places.items
  pub supers : s.supers.items ≡ supers_by s.places.items p
  pub lists : s.lists.rows ≡ lists_by s.places.items p
  pub order : length s.supers.items < 2 ^ 32 → IsOrder s.supers.items s.lists.rows s.order.items
  pub lower : length s.supers.items < 2 ^ 32 → IsBelow s.supers.items s.lists.rows s.below.rows (length s.supers.items)

-- each class has a place of its own, and this one is the first that is its own ancestor by these
pub record IsCircled (p : Program) (class : ℕ) : Type 0 where
  pub table : List ℕ
  pub is : length p.classes < 2 ^ 32 → placing p ≡ Ok table
  pub first : length p.classes < 2 ^ 32 → IsFirst (supers_by table p) (lists_by table p) class

abbrev pub StopsAt : Program → HierarchyFault → Type 0
StopsAt p NoMemory = Unit {0}
StopsAt p (Cycle class) = IsCircled p class
StopsAt p (Twice class) = length p.classes < 2 ^ 32 → placing p ≡ Err class
StopsAt p (SplitOverride class method) = length p.classes < 2 ^ 32 → ⊥

-- the tables are those of the program's classes: the place of the class of each type, and of the superclass and the interfaces of
-- each class
pub record IsOf (p : Program) (h : Hierarchy) : Type 0 where
  pub once : (class : ℕ) → IsTwice p class → ⊥
  pub places : (kind : ℕ) → read_at h.shape.places.items kind ≡ class_place p kind
  pub supers : (class : ℕ) → read_at h.shape.supers.items class ≡ super_place p class
  pub lists : (class : ℕ) → row_of h.shape.lists.rows class ≡ interface_places p class
  pub count : vec_len h.shape.supers ≡ length p.classes
  pub ranked : IsRanked p
  pub named : IsNamed p h.named

-- the first class that has the type of an earlier one
pub record IsFirstTwice (p : Program) (class : ℕ) : Type 0 where
  pub twice : IsTwice p class
  pub first : (other : ℕ) → other < class → IsTwice p other → ⊥

-- no class has the type of an earlier one, and this is the first that is its own ancestor
pub record IsFirstCycle (p : Program) (class : ℕ) : Type 0 where
  pub once : (other : ℕ) → IsTwice p other → ⊥
  pub is : IsCycle p class

-- no class is its own ancestor
abbrev pub IsAcyclic : Program → Type 0
IsAcyclic p = (class : ℕ) → IsAncestor p class class → ⊥

-- no class has the type of an earlier one or is its own ancestor, and this is the first that repeats a package-private method
-- of another package, and this the first of its methods that does
pub record IsSplitFirst (p : Program) (class method : ℕ) : Type 0 where
  pub once : (other : ℕ) → IsTwice p other → ⊥
  pub acyclic : IsAcyclic p
  pub is : IsFirstSplit p class method

-- the cause of a refusal: a second definition comes first, then a class that is its own ancestor, then a split override
abbrev pub IsCause : Program → HierarchyFault → Type 0
IsCause p NoMemory = Unit {0}
IsCause p (Cycle class) = IsFirstCycle p class
IsCause p (Twice class) = IsFirstTwice p class
IsCause p (SplitOverride class method) = IsSplitFirst p class method

-- what the numbers of fields and of methods resolve to
pub record AreTargets (p : Program) (t : Targets) : Type 0 where
  pub fields : t.fields.items ≡ map (λ f. field_by p (Some f)) p.fields
  pub methods : t.methods.items ≡ map (method_by p) p.methods

-- the tables are those of the program's classes, and the names, the initialisers, the classes without any and the classes under
-- each are found as the program's are
pub record IsResolved (p : Program) (h : Hierarchy) : Type 0 where
  pub of : IsOf p h
  pub targets : AreTargets p h.targets
  pub starts : HasStarts p h.starts.initialisers.items
  pub trivial : Marks (length p.classes) (is_trivial p) h.starts.trivial.items
  pub toured : IsToured p h.tour
