-- Typings of the methods of a program, by numbers (this project's profile).
use Rattle.std.specs.Prelude.{◌≡◌, ℕ, ◌<◌, Bool, true, ◌&&◌, not, take, length, All, Option, Some, None, slice_get, if◌then◌else◌}
use Rattle.hierarchy.specs.Shapes.{IsOf}
use Rattle.hierarchy.specs.declared.Hierarchy.{Hierarchy}
use Rattle.program_model.specs.declared.body.Body.{Body}
use Rattle.program_model.specs.declared.program.Class.{Class}
use Rattle.program_model.specs.declared.program.Method.{Method}
use Rattle.program_model.specs.declared.program.MethodAt.{MethodAt}
use Rattle.program_model.specs.declared.program.Program.{Program}
use Rattle.program_model.specs.Lookups.{method_at}
use Rattle.program_model.specs.MemberRules.{has_flag}
use Rattle.program_model.specs.ProgramRules.{is_well_formed}
use Rattle.verify.specs.declared.fault.TypeFault.{TypeFault}
use Rattle.verify.specs.declared.fault.TypeFault.TheVariants as fault
use Rattle.verify.specs.declared.kinds.Kind.{Kind}
use Rattle.verify.specs.declared.kinds.Kind.TheVariants as kind
use Rattle.verify.specs.declared.setting.Setting.{Setting}
use Rattle.verify.specs.declared.tables.Tables.{Tables}
use Rattle.verify.specs.declared.typed.Verifier.{Verifier}
use Rattle.verify.specs.Building.{AreChainsOf}
use Rattle.verify.specs.Descriptors.{AreTypesOf}
use Rattle.verify.specs.Entry.{begun}
use Rattle.verify.specs.Meeting.{IsMeeting}
use Rattle.verify.specs.Names.{parameters_of, result_of}
use Rattle.verify.specs.Supers.{Finds}
use Rattle.verify.specs.Types.{is_constructor}
use Rattle.verify.specs.Typings.{Table, IsLeastTyping, IsIllTyped}

abbrev pub constructs : Tables → Method → Bool
constructs t m = is_constructor t m.name && not (has_flag m.flags 8)

-- the receiver with which a method of the class at a place is entered
abbrev pub receiver_of : Class → ℕ → Method → Bool → Option Kind
receiver_of c at m begins =
    if has_flag m.flags 8 then None
    else if begins then Some kind.FreshThis
    else if has_flag c.flags 512 then Some kind.Reference
    else Some (kind.Program at)

-- what the code of a method is judged by
pub record IsSettingOf (v : Verifier) (c : Class) (at : ℕ) (m : Method) (s : Setting) : Type 0 where
  pub program : s.program.now ≡ v.program.now
  pub hierarchy : s.hierarchy.now ≡ v.hierarchy.now
  pub tables : s.tables.now ≡ v.tables
  pub class : s.class ≡ at
  pub kind : s.kind ≡ c.name
  pub superclass : s.superclass ≡ c.superclass
  pub result : s.result ≡ result_of v.program.now m.name
  pub begins : s.constructs ≡ constructs v.tables m

-- the least typing of the code of a method of the class at a place, by what its super calls find
pub record HasTyping (v : Verifier) (c : Class) (at : ℕ) (m : Method) (b : Body) (x : Table) : Type 0 where
  pub setting : Setting
  pub is : IsSettingOf v c at m setting
  pub finds : IsOf v.program.now v.hierarchy.now → Finds v.program.now at b.insns setting.found.now
  pub least : IsLeastTyping setting b (begun setting b (receiver_of c at m (constructs v.tables m)) (parameters_of v.program.now m.name)) x

-- the code of a method has none, and its least flow breaks first at this position and register
pub record HasNone (v : Verifier) (c : Class) (at : ℕ) (m : Method) (n r : ℕ) : Type 0 where
  pub setting : Setting
  pub is : IsSettingOf v c at m setting
  pub body : Body
  pub has : m.body ≡ Some body
  pub finds : IsOf v.program.now v.hierarchy.now → Finds v.program.now at body.insns setting.found.now
  pub ill : IsIllTyped setting body (begun setting body (receiver_of c at m (constructs v.tables m)) (parameters_of v.program.now m.name)) n r

-- what a refusal says of a method
abbrev pub Refuses : Verifier → Class → ℕ → Method → TypeFault → Type 0
Refuses v c at m fault.NoMemory = Unit
Refuses v c at m (fault.IllTyped k n r) = (k ≡ m.name) × HasNone v c at m n r

-- the code that a method is given has none, and its least flow breaks first at this position and register
pub record HasNoTyping (v : Verifier) (c : Class) (at : ℕ) (m : Method) (b : Body) (n r : ℕ) : Type 0 where
  pub setting : Setting
  pub is : IsSettingOf v c at m setting
  pub finds : IsOf v.program.now v.hierarchy.now → Finds v.program.now at b.insns setting.found.now
  pub ill : IsIllTyped setting b (begun setting b (receiver_of c at m (constructs v.tables m)) (parameters_of v.program.now m.name)) n r

-- what a refusal says of a method with the code that it is given
abbrev pub RefusesCode : Verifier → Class → ℕ → Method → Body → TypeFault → Type 0
RefusesCode v c at m b fault.NoMemory = Unit
RefusesCode v c at m b (fault.IllTyped k n r) = (k ≡ m.name) × HasNoTyping v c at m b n r

-- what an answer says of a method
abbrev pub Types : Verifier → Class → ℕ → Method → Table → Type 0
Types v c at m x = (b : Body) → m.body ≡ Some b → HasTyping v c at m b x

-- ---- all methods

-- some table is what an answer says
pub record HasTypings (v : Verifier) (c : Class) (at : ℕ) (m : Method) : Type 0 where
  pub table : Table
  pub types : Types v c at m table

-- the method at a place is refused
pub record RefusesAt (v : Verifier) (at : MethodAt) (e : TypeFault) : Type 0 where
  pub class : Class
  pub method : Method
  pub is_class : slice_get v.program.now.classes at.class ≡ Some class
  pub is_method : method_at v.program.now at ≡ Some method
  pub refuses : Refuses v class at.class method e

-- the answer for the method at a place
abbrev pub TypesAt : Verifier → MethodAt → Table → Type 0
TypesAt v at x = (c : Class) (m : Method) → slice_get v.program.now.classes at.class ≡ Some c → method_at v.program.now at ≡ Some m → Types v c at.class m x

-- the answer for the method at a place with another body
abbrev pub TypesWith : Verifier → MethodAt → Body → Table → Type 0
TypesWith v at b x = (c : Class) (m : Method) → slice_get v.program.now.classes at.class ≡ Some c → method_at v.program.now at ≡ Some m → HasTyping v c at.class m b x

-- the method at a place is refused with another body
pub record RefusesWith (v : Verifier) (at : MethodAt) (b : Body) (e : TypeFault) : Type 0 where
  pub class : Class
  pub method : Method
  pub is_class : slice_get v.program.now.classes at.class ≡ Some class
  pub is_method : method_at v.program.now at ≡ Some method
  pub refuses : RefusesCode v class at.class method b e

-- the first method of a class that is refused
pub record RefusesIn (v : Verifier) (c : Class) (at : ℕ) (e : TypeFault) : Type 0 where
  pub place : ℕ
  pub method : Method
  pub is : slice_get c.methods place ≡ Some method
  pub before : All (HasTypings v c at) (take place c.methods)
  pub refuses : Refuses v c at method e

-- all methods of the classes below a place have typings
abbrev pub AllBelow : Verifier → ℕ → Type 0
AllBelow v n = (k : ℕ) (c : Class) → k < n → slice_get v.program.now.classes k ≡ Some c → All (HasTypings v c k) c.methods

-- the first method, in class and method order, that is refused
pub record RefusesFirst (v : Verifier) (e : TypeFault) : Type 0 where
  pub at : ℕ
  pub class : Class
  pub is : slice_get v.program.now.classes at ≡ Some class
  pub before : AllBelow v at
  pub refuses : RefusesIn v class at e

-- the verifier of a program; its chains are those of the program's classes, and its tables say of types what their texts say
pub record IsFor (p : Program) (h : Hierarchy) (v : Verifier) : Type 0 where
  pub program : v.program.now ≡ p
  pub hierarchy : v.hierarchy.now ≡ h
  pub meets : IsMeeting v.tables
  pub chains : is_well_formed p ≡ true → IsOf p h → AreChainsOf p v.tables.chains
  pub types : is_well_formed p ≡ true → IsOf p h → AreTypesOf p v.tables

-- ---- by a verifier of the program

pub record TypesFor (p : Program) (h : Hierarchy) (at : MethodAt) (x : Table) : Type 0 where
  pub verifier : Verifier
  pub is : IsFor p h verifier
  pub types : TypesAt verifier at x

pub record RefusesFor (p : Program) (h : Hierarchy) (at : MethodAt) (e : TypeFault) : Type 0 where
  pub verifier : Verifier
  pub is : IsFor p h verifier
  pub refuses : RefusesAt verifier at e

pub record TypesAll (p : Program) (h : Hierarchy) : Type 0 where
  pub verifier : Verifier
  pub is : IsFor p h verifier
  pub types : AllBelow verifier (length p.classes)

pub record RefusesOne (p : Program) (h : Hierarchy) (e : TypeFault) : Type 0 where
  pub verifier : Verifier
  pub is : IsFor p h verifier
  pub refuses : RefusesFirst verifier e
