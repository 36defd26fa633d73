-- The calls of live bodies by the type that they name.
use Rattle.std.specs.Prelude.{◌≡◌, ◌<◌, ◌*◌, ◌⊎◌, ℕ, Bool, true, List, [], length, Option, Some, None, slice_get, Contains}
use Rattle.insn_set.specs.declared.form.Insn.{Insn}
use Rattle.insn_set.specs.declared.form.Insn.TheVariants as insn
use Rattle.insn_set.specs.declared.ops.InvokeKind.{InvokeKind}
use Rattle.program_model.specs.declared.body.Body.{Body}
use Rattle.program_model.specs.declared.pools.MethodName.{MethodName}
use Rattle.program_model.specs.declared.program.Class.{Class}
use Rattle.program_model.specs.declared.program.Method.{Method}
use Rattle.program_model.specs.declared.program.Program.{Program}
use Rattle.call_graph.specs.declared.live_set.LiveSet.{LiveSet}
use Rattle.call_targets.specs.Targeted.{is_on, call_at, interface_of, IsCalledOn}
use Rattle.call_targets.specs.declared.named.Call.{Call}
use Rattle.call_targets.specs.declared.named.Named.{Named}

abbrev pub row_in : Option (List Call) → List Call
row_in None = []
row_in (Some row) = row

-- the calls on a type
abbrev pub calls_on : Named → ℕ → List Call
calls_on n kind = row_in (slice_get n.on.items kind)

-- what is seen is listed under the type that it names
pub record AreSeen (p : Program) (n : Named) : Type 0 where
  pub rows : length n.on.items ≡ length p.types
  pub marks : length n.seen.items ≡ 2 * length p.methods
  pub listed : (interface : Bool) (method : ℕ) (name : MethodName) → slice_get p.methods method ≡ Some name → name.class < length p.types → is_on n.seen.items (call_at method interface) ≡ true
      → Contains (calls_on n name.class) (record { number = call_at method interface; method = method })

-- a call that is listed under a type
pub record IsListed (p : Program) (kind : ℕ) (call : Call) (interface : Bool) (method : ℕ) : Type 0 where
  pub name : MethodName
  pub is_name : slice_get p.methods method ≡ Some name
  pub is_kind : name.class ≡ kind
  pub is_number : call.number ≡ call_at method interface
  pub is_method : call.method ≡ method

-- a call that something makes
pub record ListedOf (p : Program) (Makes : Bool → ℕ → Type 0) (kind : ℕ) (call : Call) : Type 0 where
  pub interface : Bool
  pub method : ℕ
  pub makes : Makes interface method
  pub is : IsListed p kind call interface method

-- just the calls that something makes are noted
pub record NotesBy (p : Program) (Makes : Bool → ℕ → Type 0) (old new : Named) : Type 0 where
  pub are : AreSeen p new
  pub keeps : (n : ℕ) → is_on old.seen.items n ≡ true → is_on new.seen.items n ≡ true
  pub seen : (interface : Bool) (method : ℕ) (name : MethodName) → Makes interface method → slice_get p.methods method ≡ Some name → is_on new.seen.items (call_at method interface) ≡ true
  pub only : (kind : ℕ) (call : Call) → Contains (calls_on new kind) call → Contains (calls_on old kind) call ⊎ ListedOf p Makes kind call

-- it is this call
pub record IsThe (interface : Bool) (method : ℕ) (i : Bool) (m : ℕ) : Type 0 where
  pub same_way : i ≡ interface
  pub same_method : m ≡ method

-- the instruction calls a method number on objects
pub record Makes (one : Insn) (interface : Bool) (method : ℕ) : Type 0 where
  pub kind : InvokeKind
  pub args : List ℕ
  pub is : one ≡ insn.Invoke kind method args
  pub finds_by_object : interface_of kind ≡ Some interface

-- the call that the kind of an Invoke and its method number make on an object
abbrev pub call_by : Option Bool → ℕ → Option (Bool × ℕ)
call_by None method = None
call_by (Some interface) method = Some (interface, method)

-- the call that an instruction makes on an object: whether it is one of an interface, and the method that it names
abbrev pub object_call : Insn → Option (Bool × ℕ)
object_call (insn.Invoke kind method args) = call_by (interface_of kind) method
object_call one = None

-- one of some instructions does
pub record AmongInsns (insns : List Insn) (interface : Bool) (method : ℕ) : Type 0 where
  pub one : Insn
  pub there : Contains insns one
  pub makes : Makes one interface method

-- the body of a live method does
pub record InBody (live : LiveSet) (one : Method) (interface : Bool) (method : ℕ) : Type 0 where
  pub body : Body
  pub live_caller : is_on live.methods.items one.name ≡ true
  pub has_body : one.body ≡ Some body
  pub makes : AmongInsns body.insns interface method

-- that of one of the first so many methods does
pub record AmongMethods (live : LiveSet) (count : ℕ) (methods : List Method) (interface : Bool) (method : ℕ) : Type 0 where
  pub one : Method
  pub place : ℕ
  pub before : place < count
  pub there : slice_get methods place ≡ Some one
  pub makes : InBody live one interface method

-- that of a method of one of the first so many classes does
pub record AmongClasses (live : LiveSet) (count : ℕ) (classes : List Class) (interface : Bool) (method : ℕ) : Type 0 where
  pub one : Class
  pub place : ℕ
  pub before : place < count
  pub there : slice_get classes place ≡ Some one
  pub makes : AmongMethods live (length one.methods) one.methods interface method

-- just the calls of live bodies are listed, each under the type that it names
pub record AreNamed (p : Program) (live : LiveSet) (n : Named) : Type 0 where
  pub all : (interface : Bool) (method : ℕ) (name : MethodName) → IsCalledOn p live interface method → slice_get p.methods method ≡ Some name → name.class < length p.types
      → Contains (calls_on n name.class) (record { number = call_at method interface; method = method })
  pub only : (kind : ℕ) (call : Call) → Contains (calls_on n kind) call → ListedOf p (IsCalledOn p live) kind call
