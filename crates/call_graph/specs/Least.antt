-- What follows from what the outside keeps, and nothing else (this project's profile: ProGuard manual, "Keep Options").
use Rattle.std.specs.Prelude.{◌≡◌, ◌⊎◌, ℕ, true, false, Bool, List, Some, slice_get, Contains}
use Rattle.program_model.specs.declared.pools.MethodName.{MethodName}
use Rattle.program_model.specs.declared.program.Class.{Class}
use Rattle.program_model.specs.declared.program.Method.{Method}
use Rattle.program_model.specs.declared.program.Program.{Program}
use Rattle.program_model.specs.declared.pass.Outside.{Outside}
use Rattle.program_model.specs.Lookups.{class_place}
use Rattle.program_model.specs.MemberRules.{is_direct}
use Rattle.class_defs.specs.Finding.{finds_virtual}
use Rattle.class_defs.specs.Members.{is_common}
use Rattle.insn_set.specs.declared.ops.InvokeKind.TheVariants as call
use Rattle.hierarchy.specs.Membership.{key_at}
use Rattle.hierarchy.specs.declared.build.Hierarchy.{Hierarchy}
use Rattle.call_graph.specs.declared.facts.Fact.{Fact}
use Rattle.call_graph.specs.declared.facts.Fact.TheVariants as fact
use Rattle.call_graph.specs.declared.facts.Facts.{Facts}
use Rattle.call_graph.specs.declared.live_set.LiveSet.{LiveSet}
use Rattle.call_graph.specs.declared.named.Named.{Named}
use Rattle.call_graph.specs.declared.named.Named.TheVariants as named
use Rattle.call_graph.specs.declared.notes.Notes.{Notes}
use Rattle.call_graph.specs.declared.tables.Tables.{Tables}
use Rattle.call_graph.specs.Above.{IsFrom, is_outer}
use Rattle.call_graph.specs.Closed.{kept_facts, Entails, Waits, has, is_live}
use Rattle.call_graph.specs.Lists.{row_of}
use Rattle.call_graph.specs.Objects.{answer_facts, inherited, open_facts}
use Rattle.call_graph.specs.Supers.{SuperFacts}
use Rattle.call_graph.specs.Tables.{AreTables}

-- ---- what the framework calls on a made class

-- What the framework may call on an object of the class at a place by a method of a class above it: what the class finds for the
-- method's name and proto, or that method.
pub record InheritedBy (p : Program) (shut : List Bool) (class above : ℕ) (m : Method) (y : Fact) : Type 0 where
  pub name : MethodName
  pub is_name : slice_get p.methods m.name ≡ Some name
  pub virtual : is_direct p m ≡ false
  pub is : Contains (open_facts p shut (inherited p class above name.name name.proto)) y

-- the same by one of some methods
pub record InheritedFrom (p : Program) (shut : List Bool) (class above : ℕ) (ms : List Method) (y : Fact) : Type 0 where
  pub method : Method
  pub is_in : Contains ms method
  pub by : InheritedBy p shut class above method y

-- by one of the methods of the class of a type
pub record Inherited (p : Program) (shut : List Bool) (class kind : ℕ) (y : Fact) : Type 0 where
  pub above : ℕ
  pub defined : Class
  pub place : class_place p kind ≡ Some above
  pub is_class : slice_get p.classes above ≡ Some defined
  pub from : InheritedFrom p shut class above defined.methods y

-- by one of the methods of the classes of some types
pub record InheritedAmong (p : Program) (shut : List Bool) (class : ℕ) (kinds : List ℕ) (y : Fact) : Type 0 where
  pub kind : ℕ
  pub is_in : Contains kinds kind
  pub from : Inherited p shut class kind y

-- what the class at a place finds for a method that each object has, unless it is shut
pub record FoundCommon (p : Program) (shut : List Bool) (class : ℕ) (y : Fact) : Type 0 where
  pub number : ℕ
  pub name : MethodName
  pub is_name : slice_get p.methods number ≡ Some name
  pub common : is_common p name.name name.proto ≡ true
  pub is : Contains (open_facts p shut (finds_virtual p name.name name.proto class)) y

-- ---- what follows

-- A fact follows: the outside keeps it, a fact that follows entails it, an object of a made class finds it for a method that is called
-- on a type above the class, or the framework calls it on a made class under a type of its own.
pub data Reached (p : Program) (o : Outside) (t : Tables) : Fact → Type 0 where
  Kept : (x : Fact) → Contains (kept_facts p o) x → Reached p o t x
  Entailed : (x y : Fact) → Reached p o t x → Entails p t x y → Reached p o t y
  Answered : (number kind class : ℕ) (q : MethodName) (y : Fact) → Reached p o t (fact.Called number) → slice_get p.methods number ≡ Some q → Reached p o t (fact.Made kind)
      → class_place p kind ≡ Some class → IsFrom p t.object kind q.class → Contains (answer_facts p number class) y → Reached p o t y
  CalledBack : (kind class top above : ℕ) (y : Fact) → Reached p o t (fact.Made kind) → class_place p kind ≡ Some class → IsFrom p t.object kind top → is_outer p t.object top ≡ true
      → IsFrom p t.object kind above → Inherited p t.shut.items class above y → Reached p o t y

abbrev pub AllReached : Program → Outside → Tables → List Fact → Type 0
AllReached p o t xs = (y : Fact) → Contains xs y → Reached p o t y

-- all that is live follows
pub record IsLeastSet (p : Program) (o : Outside) (s : LiveSet) : Type 0 where
  pub tables : Tables
  pub are : AreTables p o tables
  pub follows : (x : Fact) → is_live s x ≡ true → Reached p o tables x

-- ---- how the search keeps to it

-- nothing else is added
abbrev pub AddsOnly : (Fact → Type 0) → List Fact → List Fact → Type 0
AddsOnly P before after = (y : Fact) → Contains after y → Contains before y ⊎ P y

-- a key is that of a method that each object has
pub record IsCommonKey (p : Program) (h : Hierarchy) (key : ℕ) : Type 0 where
  pub number : ℕ
  pub name : MethodName
  pub is_name : slice_get p.methods number ≡ Some name
  pub common : is_common p name.name name.proto ≡ true
  pub keyed : key ≡ key_at h.named.method_keys.keys.items number

abbrev pub AreCommon : Program → Hierarchy → List ℕ → Type 0
AreCommon p h keys = (key : ℕ) → Contains keys key → IsCommonKey p h key

-- each of some methods has a name in the table
pub record IsNamed (p : Program) (m : Method) : Type 0 where
  pub name : MethodName
  pub is : slice_get p.methods m.name ≡ Some name

-- what the framework calls on an object of the class at a place, with these types above it
pub data CallsOn (p : Program) (object : ℕ) (shut : List Bool) (class : ℕ) (above : List ℕ) : Fact → Type 0 where
  Common : (y : Fact) → FoundCommon p shut class y → CallsOn p object shut class above y
  Inherits : (top : ℕ) (y : Fact) → Contains above top → is_outer p object top ≡ true → InheritedAmong p shut class above y → CallsOn p object shut class above y

-- what a super call among some names finds in a class
pub record SuperFrom (p : Program) (kind caller : ℕ) (names : List Named) (y : Fact) : Type 0 where
  pub callee : ℕ
  pub called : MethodName
  pub facts : List Fact
  pub calls : Contains names (named.Call call.Super callee)
  pub is_called : slice_get p.methods callee ≡ Some called
  pub finds : SuperFacts p kind caller called facts
  pub has : Contains facts y

-- a method that is called is noted on the type that it names
pub record IsCalledOn (p : Program) (o : Outside) (t : Tables) (number kind : ℕ) : Type 0 where
  pub name : MethodName
  pub is_name : slice_get p.methods number ≡ Some name
  pub on : name.class ≡ kind
  pub called : Reached p o t (fact.Called number)

-- the class at a place is made, and stands under a type
pub record IsMadeUnder (p : Program) (o : Outside) (t : Tables) (class kind : ℕ) : Type 0 where
  pub below : ℕ
  pub place : class_place p below ≡ Some class
  pub from : IsFrom p t.object below kind
  pub made : Reached p o t (fact.Made below)

-- what is noted follows
pub record AreReached (p : Program) (o : Outside) (t : Tables) (n : Notes) : Type 0 where
  pub called : (kind number : ℕ) → Contains (row_of n.called_on kind) number → IsCalledOn p o t number kind
  pub made : (kind class : ℕ) → Contains (row_of n.made_under kind) class → IsMadeUnder p o t class kind

-- what is noted follows, and what is added
pub record BothReached (p : Program) (o : Outside) (t : Tables) (n : Notes) (out : List Fact) : Type 0 where
  pub notes : AreReached p o t n
  pub facts : AllReached p o t out

-- what waits now waited before, or is one of some facts
abbrev pub WaitsAmong : Facts → Facts → List Fact → Type 0
WaitsAmong f g xs = (y : Fact) → Waits g y → Waits f y ⊎ Contains xs y

-- a fact that waited is taken
pub record IsTaken (f g : Facts) (x : Fact) : Type 0 where
  pub waited : Waits f x
  pub rest : (y : Fact) → Waits g y → Waits f y

-- what is known follows, and what waits
pub record AreKnownReached (p : Program) (o : Outside) (t : Tables) (f : Facts) : Type 0 where
  pub known : (x : Fact) → has f x ≡ true → Reached p o t x
  pub waits : (x : Fact) → Waits f x → Reached p o t x
