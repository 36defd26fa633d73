-- What super calls find, by number (this project's profile: the bytecode page gives no order of resolution).
use Rattle.std.specs.Prelude.{◌≡◌, ℕ, Bool, true, false, ◌&&◌, List, [], ◌∷◌, ◌++◌, Option, Some, None, nat_eq, cond, slice_get, Contains}
use Rattle.std.specs.List.{list_any}
use Rattle.std.specs.Prelude.{Decides}
use Rattle.program_model.specs.declared.pools.MethodName.{MethodName}
use Rattle.program_model.specs.declared.program.Class.{Class}
use Rattle.program_model.specs.declared.program.MethodAt.{MethodAt}
use Rattle.program_model.specs.declared.program.Program.{Program}
use Rattle.program_model.specs.Lookups.{class_place}
use Rattle.class_defs.specs.Places.{super_place}
use Rattle.class_defs.specs.Members.{is_interface}
use Rattle.class_defs.specs.Finding.{candidates, finds_from, is_037, one_or_none}
use Rattle.insn_set.specs.declared.ops.InvokeKind.TheVariants as call
use Rattle.call_graph.specs.declared.facts.Fact.{Fact}
use Rattle.call_graph.specs.declared.named.Named.{Named}
use Rattle.call_graph.specs.declared.named.Named.TheVariants as named
use Rattle.call_graph.specs.Follows.{class_of}
use Rattle.call_graph.specs.Above.{Climbs}
use Rattle.call_graph.specs.Objects.{all_found, AllIn}

abbrev pub interfaces_in : Option Class → List ℕ
interfaces_in None = []
interfaces_in (Some c) = c.interfaces

-- whether the class of a type lists another type as an interface
abbrev pub lists_at : Program → ℕ → ℕ → Bool
lists_at p kind one = list_any (nat_eq kind) (interfaces_in (class_of p one))

-- the type stands in the interface list of a class, named by its type, or of a program class above it
pub record ListsAbove (p : Program) (class kind : ℕ) : Type 0 where
  pub top : ℕ
  pub climbs : Climbs p class top
  pub lists : lists_at p kind top ≡ true

-- the first method along the superclasses of a class
abbrev pub above_call : Program → ℕ → MethodName → List MethodAt
above_call p caller q = one_or_none (finds_from p q.name q.proto (super_place p caller))

abbrev pub interface_call : Program → ℕ → MethodName → ℕ → Bool → List MethodAt
interface_call p caller q place true = candidates p (place ∷ []) q.name q.proto
interface_call p caller q place false = above_call p caller q

-- by the class that the call names, and by whether that type is one of the framework in an interface list of the caller
abbrev pub super_037 : Program → ℕ → MethodName → Bool → Option ℕ → List MethodAt
super_037 p caller q lists (Some place) = interface_call p caller q place (is_interface (slice_get p.classes place))
super_037 p caller q lists None = cond lists [] (above_call p caller q)

-- what a super call in the class at a place may find: in version 037 all candidates of a program interface that it names,
-- nothing where that is an interface of the framework; else the first method along the superclasses
abbrev pub super_found : Program → ℕ → MethodName → Bool → List MethodAt
super_found p caller q lists = cond (is_037 p.version) (super_037 p caller q lists (class_place p q.class)) (above_call p caller q)

-- the facts of a super call in a class with this type and place
pub record SuperFacts (p : Program) (kind caller : ℕ) (q : MethodName) (facts : List Fact) : Type 0 where
  pub lists : Bool
  pub decided : is_037 p.version ≡ true → class_place p q.class ≡ None → Decides lists (ListsAbove p kind q.class)
  pub is : facts ≡ all_found p (super_found p caller q lists)

-- the call names no interface of which the candidates count
abbrev pub NamesNone : Program → MethodName → Type 0
NamesNone p q = (place : ℕ) → class_place p q.class ≡ Some place → (is_037 p.version && is_interface (slice_get p.classes place)) ≡ false

-- just the facts of a super call are added
pub record AddsSuper (p : Program) (kind caller : ℕ) (q : MethodName) (before out : List Fact) : Type 0 where
  pub facts : List Fact
  pub finds : SuperFacts p kind caller q facts
  pub adds : out ≡ before ++ facts

-- the facts of each super call among some names are of a list
pub record HasSuper (p : Program) (kind caller : ℕ) (q : MethodName) (out : List Fact) : Type 0 where
  pub facts : List Fact
  pub finds : SuperFacts p kind caller q facts
  pub has : AllIn facts out

abbrev pub AddsSupers : Program → ℕ → ℕ → List Named → List Fact → Type 0
AddsSupers p kind caller names out = (callee : ℕ) (q : MethodName) → Contains names (named.Call call.Super callee) → slice_get p.methods callee ≡ Some q → HasSuper p kind caller q out
