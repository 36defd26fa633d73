-- Classes and what stands above them (Dalvik executable format, "class_def_item"; for package-private methods, JVM specification,
-- "Method overriding").
use Rattle.std.specs.Prelude.{◌≡◌, ◌<◌, ℕ, List, [], ◌∷◌, Bool, true, not, ◌||◌, nat_eq, ◌==◌, Some, slice_get, if◌then◌else◌}
use Rattle.std.specs.List.{list_any}
use Rattle.program_model.specs.declared.flags.Flags.{Flags}
use Rattle.program_model.specs.declared.pools.MethodName.{MethodName}
use Rattle.program_model.specs.declared.program.Method.{Method}
use Rattle.program_model.specs.declared.program.Class.{Class}
use Rattle.program_model.specs.declared.program.Program.{Program}
use Rattle.program_model.specs.Texts.{type_text}
use Rattle.program_model.specs.MemberRules.{has_flag, is_direct}

-- classes are named by their places here

-- an earlier class has the same type
pub record IsTwice (p : Program) (class : ℕ) : Type 0 where
  pub earlier : ℕ
  pub before : earlier < class
  pub one : Class
  pub other : Class
  pub is_one : slice_get p.classes earlier ≡ Some one
  pub is_other : slice_get p.classes class ≡ Some other
  pub same : one.name ≡ other.name

-- the second class is the superclass of the first, or one of its interfaces
pub record IsAbove (p : Program) (class upper : ℕ) : Type 0 where
  pub c : Class
  pub u : Class
  pub is_class : slice_get p.classes class ≡ Some c
  pub is_upper : slice_get p.classes upper ≡ Some u
  pub names : (nat_eq c.superclass u.name || list_any (λ kind. nat_eq kind u.name) c.interfaces) ≡ true

pub record IsSuperclass (p : Program) (class upper : ℕ) : Type 0 where
  pub c : Class
  pub u : Class
  pub is_class : slice_get p.classes class ≡ Some c
  pub is_upper : slice_get p.classes upper ≡ Some u
  pub names : c.superclass ≡ u.name

-- one step or more, over these classes
abbrev pub StepsTo : (ℕ → ℕ → Type 0) → ℕ → List ℕ → ℕ → Type 0
StepsTo Is class [] upper = Is class upper
StepsTo Is class (mid ∷ mids) upper = Is class mid × StepsTo Is mid mids upper

pub record IsAncestor (p : Program) (class upper : ℕ) : Type 0 where
  pub mids : List ℕ
  pub steps : StepsTo (IsAbove p) class mids upper

-- a superclass, or one of a superclass
pub record IsUnder (p : Program) (class upper : ℕ) : Type 0 where
  pub mids : List ℕ
  pub steps : StepsTo (IsSuperclass p) class mids upper

-- the first class that is its own ancestor
pub record IsCycle (p : Program) (class : ℕ) : Type 0 where
  pub own : IsAncestor p class class
  pub first : (other : ℕ) → other < class → IsAncestor p other other → ⊥

-- ---- methods that repeat a package-private one

-- neither public nor private nor protected
abbrev pub is_package_private : Flags → Bool
is_package_private flags = not (has_flag flags 1 || (has_flag flags 2 || has_flag flags 4))

-- a descriptor up to its last /, which is the package of its class
abbrev pub package_of : List ℕ → List ℕ
package_of [] = []
package_of (u ∷ us) = if list_any (λ v. v == 47) (u ∷ us) then u ∷ package_of us else []

-- a virtual method of a class
pub record HasVirtual (p : Program) (class : ℕ) (c : Class) (m : Method) (name : MethodName) : Type 0 where
  pub is_class : slice_get p.classes class ≡ Some c
  pub place : ℕ
  pub is_method : slice_get c.methods place ≡ Some m
  pub is_virtual : is_direct p m ≡ not true
  pub named : slice_get p.methods m.name ≡ Some name

-- a virtual method repeats the name and the proto of a package-private one of a superclass in another package
pub record IsSplit (p : Program) (class method : ℕ) : Type 0 where
  pub c : Class
  pub m : Method
  pub name : MethodName
  pub has : HasVirtual p class c m name
  pub number : method ≡ m.name
  pub upper : ℕ
  pub under : IsUnder p class upper
  pub u : Class
  pub above : Method
  pub above_name : MethodName
  pub above_has : HasVirtual p upper u above above_name
  pub hidden : is_package_private above.flags ≡ true
  pub same_name : name.name ≡ above_name.name
  pub same_proto : name.proto ≡ above_name.proto
  pub apart : package_of (type_text p c.name) ≡ package_of (type_text p u.name) → ⊥
