-- What virtual and interface calls of live bodies may find on objects of made classes, and what the framework may enter and need
-- before the program does anything, by number (this project's profile). A call finds by the class of its receiver.
use Rattle.std.specs.Prelude.{◌≡◌, ◌+◌, ◌*◌, ◌<◌, ◌⊎◌, ℕ, Bool, true, false, ◌&&◌, ◌||◌, List, length, Option, Some, None, is_some, nat_eq, cond, codes, slice_get, slice_index_or, Contains}
use Rattle.std.specs.List.{list_any}
use Rattle.insn_set.specs.declared.form.Insn.TheVariants as insn
use Rattle.insn_set.specs.declared.ops.InvokeKind.{InvokeKind}
use Rattle.insn_set.specs.declared.ops.InvokeKind.TheVariants as call
use Rattle.program_model.specs.declared.body.Body.{Body}
use Rattle.program_model.specs.declared.pass.Outside.{Outside}
use Rattle.program_model.specs.declared.pools.MethodName.{MethodName}
use Rattle.program_model.specs.declared.program.Class.{Class}
use Rattle.program_model.specs.declared.program.Method.{Method}
use Rattle.program_model.specs.declared.program.MethodAt.{MethodAt}
use Rattle.program_model.specs.declared.program.Program.{Program}
use Rattle.program_model.specs.Lookups.{class_place, method_at}
use Rattle.program_model.specs.MemberRules.{is_static, is_direct}
use Rattle.class_defs.specs.Members.{string_is, is_common, is_interface, has_code}
use Rattle.class_defs.specs.Finding.{Search, Nothing, Clash, Finds, finds_at}
use Rattle.class_defs.specs.Starts.{initialiser_place}
use Rattle.call_graph.specs.declared.live_set.LiveSet.{LiveSet}
use Rattle.call_graph.specs.Above.{IsFrom, is_outer}
use Rattle.call_graph.specs.Bases.{object_number}
use Rattle.call_graph.specs.Follows.{class_of, can_be_made}
use Rattle.call_targets.specs.declared.table.Link.{Link}
use Rattle.call_targets.specs.declared.table.Targets.{Targets}

-- ---- numbers

-- a number is marked
abbrev pub is_on : List Bool → ℕ → Bool
is_on marks n = slice_index_or marks n false

-- The number of the calls that name a method in the same way: they are counted two by two, the virtual one first.
abbrev pub call_at : ℕ → Bool → ℕ
call_at method interface = 2 * method + cond interface 1 0

-- a call that finds by the class of its receiver, and whether it is one of an interface
abbrev pub interface_of : InvokeKind → Option Bool
interface_of call.Virtual = Some false
interface_of call.Interface = Some true
interface_of kind = None

-- just so many numbers have a mark, and just those are marked of which the claim holds
pub record AreJust (size : ℕ) (P : ℕ → Type 0) (marks : List Bool) : Type 0 where
  pub long : length marks ≡ size
  pub all : (n : ℕ) → P n → is_on marks n ≡ true
  pub only : (n : ℕ) → is_on marks n ≡ true → P n

-- ---- what the outside keeps: what is kept under a condition counts as kept

abbrev pub keeps_class : Outside → ℕ → Bool
keeps_class o kind = list_any (nat_eq kind) o.classes || list_any (λ c. nat_eq kind c.class) o.classes_if

abbrev pub keeps_method : Outside → ℕ → Bool
keeps_method o number = list_any (nat_eq number) o.methods || list_any (nat_eq number) o.methods_if

abbrev pub is_shut : Outside → ℕ → Bool
is_shut o number = list_any (nat_eq number) o.shut

-- ---- calls on objects

-- a live body calls a method number on objects
pub record IsCalledOn (p : Program) (live : LiveSet) (interface : Bool) (method : ℕ) : Type 0 where
  pub at : MethodAt
  pub caller : Method
  pub body : Body
  pub kind : InvokeKind
  pub args : List ℕ
  pub is_caller : method_at p at ≡ Some caller
  pub live_caller : is_on live.methods.items caller.name ≡ true
  pub has_body : caller.body ≡ Some body
  pub calls : Contains body.insns (insn.Invoke kind method args)
  pub finds_by_object : interface_of kind ≡ Some interface

-- the class at a place, named by its type, is marked as made
pub record IsMade (p : Program) (live : LiveSet) (kind class : ℕ) : Type 0 where
  pub made : is_on live.made.items kind ≡ true
  pub is_class : class_place p kind ≡ Some class

-- a type stands under another by the program's own lists; each stands under Object
abbrev pub IsUnder : Program → ℕ → ℕ → Type 0
IsUnder p kind top = IsFrom p (object_number p) kind top

-- it stands under a type of the framework other than Object
pub record HasOuter (p : Program) (kind : ℕ) : Type 0 where
  pub top : ℕ
  pub under : IsUnder p kind top
  pub short : top < length p.types
  pub outer : is_outer p (object_number p) top ≡ true

-- a live call may be made on an object of a made class, which stands under the type that the call names
pub record IsAsked (p : Program) (live : LiveSet) (interface : Bool) (method : ℕ) (name : MethodName) (class : ℕ) : Type 0 where
  pub called : IsCalledOn p live interface method
  pub is_name : slice_get p.methods method ≡ Some name
  pub kind : ℕ
  pub made : IsMade p live kind class
  pub under : IsUnder p kind name.class

-- a link from a live call to a method with code that an object of a made class finds for it
pub record IsLink (p : Program) (live : LiveSet) (link : Link) : Type 0 where
  pub interface : Bool
  pub method : ℕ
  pub name : MethodName
  pub class : ℕ
  pub at : MethodAt
  pub found : Method
  pub asked : IsAsked p live interface method name class
  pub finds : finds_at p class name.name name.proto ≡ Finds at
  pub is_found : method_at p at ≡ Some found
  pub coded : is_some found.body ≡ true
  pub is_call : link.call ≡ call_at method interface
  pub is_method : link.method ≡ found.name

-- no method is found, or one without code; candidates that clash throw
abbrev pub IsBare : Program → Search → Type 0
IsBare p Nothing = Unit {0}
IsBare p Clash = ⊥
IsBare p (Finds at) = has_code (method_at p at) ≡ false

-- the type is an interface of the program
abbrev pub names_interface : Program → ℕ → Bool
names_interface p kind = is_interface (class_of p kind)

-- A call leaves by its name alone, where it is one of an interface, which an object needn't have, or where it names a class that
-- isn't the program's or an interface: types of interfaces admit any object, so the receiver needn't stand under it.
pub record LeavesByName (p : Program) (number : ℕ) : Type 0 where
  pub interface : Bool
  pub method : ℕ
  pub name : MethodName
  pub is_name : slice_get p.methods method ≡ Some name
  pub why : (interface ≡ true) ⊎ ((class_place p name.class ≡ None) ⊎ (names_interface p name.class ≡ true))
  pub is_call : number ≡ call_at method interface

-- an object of a made class finds no code for a live call
pub record LeavesBare (p : Program) (live : LiveSet) (number : ℕ) : Type 0 where
  pub interface : Bool
  pub method : ℕ
  pub name : MethodName
  pub class : ℕ
  pub asked : IsAsked p live interface method name class
  pub bare : IsBare p (finds_at p class name.name name.proto)
  pub is_call : number ≡ call_at method interface

-- a call, by its number, may leave the program's code
abbrev pub MayLeave : Program → LiveSet → ℕ → Type 0
MayLeave p live number = LeavesByName p number ⊎ LeavesBare p live number

-- ---- what the framework may enter

-- a method with code, by its number
pub record IsCoded (p : Program) (at : MethodAt) (method : Method) (name : MethodName) (number : ℕ) : Type 0 where
  pub is_method : method_at p at ≡ Some method
  pub is_name : slice_get p.methods method.name ≡ Some name
  pub coded : is_some method.body ≡ true
  pub is_number : number ≡ method.name

-- a kept static method that isn't the initialiser of its class
pub record IsEnteredStatic (p : Program) (o : Outside) (at : MethodAt) (number : ℕ) : Type 0 where
  pub method : Method
  pub name : MethodName
  pub is : IsCoded p at method name number
  pub static : is_static method.flags ≡ true
  pub plain : initialiser_place p at.class ≡ Some at.place → ⊥
  pub kept : keeps_method o number ≡ true

-- the class at a place stands above a made class, or is it
pub record StandsOver (p : Program) (live : LiveSet) (kind class above : ℕ) : Type 0 where
  pub made : IsMade p live kind class
  pub top : ℕ
  pub under : IsUnder p kind top
  pub is_above : class_place p top ≡ Some above

-- a kept method of a class above a made class, which isn't static
pub record IsEnteredKept (p : Program) (o : Outside) (live : LiveSet) (number : ℕ) : Type 0 where
  pub at : MethodAt
  pub method : Method
  pub name : MethodName
  pub kind : ℕ
  pub class : ℕ
  pub is : IsCoded p at method name number
  pub stands : StandsOver p live kind class at.class
  pub held : is_static method.flags ≡ false
  pub kept : keeps_method o number ≡ true

-- what an object of a made class finds for a kept virtual method of a class above it
pub record IsEnteredFor (p : Program) (o : Outside) (live : LiveSet) (number : ℕ) : Type 0 where
  pub at : MethodAt
  pub method : Method
  pub name : MethodName
  pub kept_at : MethodAt
  pub kept_method : Method
  pub kept_name : MethodName
  pub kind : ℕ
  pub class : ℕ
  pub is : IsCoded p at method name number
  pub is_kept : method_at p kept_at ≡ Some kept_method
  pub is_kept_name : slice_get p.methods kept_method.name ≡ Some kept_name
  pub stands : StandsOver p live kind class kept_at.class
  pub virtual : is_direct p kept_method ≡ false
  pub kept : keeps_method o kept_method.name ≡ true
  pub finds : finds_at p class kept_name.name kept_name.proto ≡ Finds at

-- A method of a class above a made class that an object of the made class finds for itself, and that the framework may call by its
-- own knowledge: every object has it, or the class stands under a type of the framework other than Object. Methods that are shut stay
-- out.
pub record IsCalledBack (p : Program) (o : Outside) (live : LiveSet) (number : ℕ) : Type 0 where
  pub at : MethodAt
  pub method : Method
  pub name : MethodName
  pub own_at : MethodAt
  pub own : Method
  pub kind : ℕ
  pub class : ℕ
  pub is : IsCoded p at method name number
  pub is_own : method_at p own_at ≡ Some own
  pub same : own.name ≡ number
  pub stands : StandsOver p live kind class own_at.class
  pub virtual : is_direct p own ≡ false
  pub unshut : is_shut o number ≡ false
  pub finds : finds_at p class name.name name.proto ≡ Finds at
  pub may : HasOuter p kind ⊎ (is_common p name.name name.proto ≡ true)

-- a method, by its number, that the framework may enter
abbrev pub IsEntered : Program → Outside → LiveSet → ℕ → Type 0
IsEntered p o live number = ((at : MethodAt) × IsEnteredStatic p o at number) ⊎ (IsEnteredKept p o live number ⊎ (IsEnteredFor p o live number ⊎ IsCalledBack p o live number))

-- ---- what the framework may need

abbrev pub is_constructor_name : Program → Option MethodName → Bool
is_constructor_name p None = false
is_constructor_name p (Some q) = string_is p q.name (codes "<init>")

abbrev pub keeps_constructor : Program → Outside → Class → Bool
keeps_constructor p o c = list_any (λ m. keeps_method o m.name && is_constructor_name p (slice_get p.methods m.name)) c.methods

-- The framework may make an object of a class that can have objects, where it is kept or a constructor of it.
abbrev pub may_be_made : Program → Outside → Class → Bool
may_be_made p o c = can_be_made c && (keeps_class o c.name || keeps_constructor p o c)

pub record IsMadeOutside (p : Program) (o : Outside) (class : ℕ) : Type 0 where
  pub is : Class
  pub is_class : slice_get p.classes class ≡ Some is
  pub may : may_be_made p o is ≡ true

-- the framework enters a static method of the class at a place
pub record IsEnteredAt (p : Program) (o : Outside) (class : ℕ) : Type 0 where
  pub at : MethodAt
  pub number : ℕ
  pub entered : IsEnteredStatic p o at number
  pub is_class : at.class ≡ class

-- a class, by its place, of which the framework may make an object or enter a static method
abbrev pub IsBegun : Program → Outside → ℕ → Type 0
IsBegun p o class = IsMadeOutside p o class ⊎ IsEnteredAt p o class

-- ---- the answer

-- just these links, calls that may leave, methods that the framework may enter, and classes that it may need
pub record IsTargeted (p : Program) (o : Outside) (live : LiveSet) (t : Targets) : Type 0 where
  pub links : (link : Link) → IsLink p live link → Contains t.links.items link
  pub only_links : (link : Link) → Contains t.links.items link → IsLink p live link
  pub leaves : AreJust (2 * length p.methods) (MayLeave p live) t.leaves.items
  pub entered : AreJust (length p.methods) (IsEntered p o live) t.entered.items
  pub begun : AreJust (length p.classes) (IsBegun p o) t.begun.items
