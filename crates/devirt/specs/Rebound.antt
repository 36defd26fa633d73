-- Calls that name another method, one with code that all their receivers find, by number (Dalvik bytecode, "invoke-kind"; this
-- project's profile).
use Rattle.std.specs.Prelude.{◌≡◌, ◌⊎◌, ◌<◌, ℕ, ◌+◌, ◌&&◌, Bool, true, false, nat_eq, nat_le, List, [], ◌∷◌, ◌++◌, length, All, Contains, Option, Some, None, is_some, slice_get, option_and_then, if◌then◌else◌}
use Rattle.std.specs.List.{list_any}
use Rattle.insn_set.specs.declared.ops.InvokeKind.{InvokeKind}
use Rattle.insn_set.specs.declared.form.Insn.{Insn}
use Rattle.insn_set.specs.declared.form.Insn.TheVariants as insn
use Rattle.program_model.specs.declared.body.Body.{Body}
use Rattle.program_model.specs.declared.pass.Changed.{Changed}
use Rattle.program_model.specs.declared.pools.MethodName.{MethodName}
use Rattle.program_model.specs.declared.program.Method.{Method}
use Rattle.program_model.specs.declared.program.MethodAt.{MethodAt}
use Rattle.program_model.specs.declared.program.Program.{Program}
use Rattle.program_model.specs.Lookups.{class_place, method_at}
use Rattle.class_defs.specs.Members.{own_virtual}
use Rattle.class_defs.specs.Places.{is_under}
use Rattle.hierarchy.specs.declared.build.Hierarchy.{Hierarchy}
use Rattle.dom_frame.specs.Registers.{value_at}
use Rattle.dom_frame.specs.declared.frames.Frame.{Frame}
use Rattle.facts.specs.Lent.{frame_at}
use Rattle.facts.specs.declared.facts.Facts.{Facts}
use Rattle.verify.specs.Methods.{TypesFor, RefusesFor}
use Rattle.verify.specs.Typings.{Table, kind_before}
use Rattle.verify.specs.declared.fault.TypeFault.TheVariants as fault
use Rattle.verify.specs.declared.kinds.Kind.{Kind}
use Rattle.verify.specs.declared.kinds.Kind.TheVariants as kind
use Rattle.rewrite_pass.specs.declared.edit.Edit.{Edit}
use Rattle.rewrite_pass.specs.Plans.{IsPlan, IsRewrittenBy}
use Rattle.receivers.specs.Receiving.{found_by, interface_at, has_other}
use Rattle.devirt.specs.declared.binding.Bound.{Bound}
use Rattle.devirt.specs.declared.binding.Call.{Call}
use Rattle.devirt.specs.Binding.{kind_for, receives, may_rebind, falls, bound}
use Rattle.devirt.specs.Measure.{is_virtual_call}
use Rattle.devirt.specs.Reach.{may_access}

-- ---- what any call becomes

-- A virtual or interface call becomes another call that passes the same registers.
pub record IsRecalled (f g : Insn) : Type 0 where
  pub kind : InvokeKind
  pub kind' : InvokeKind
  pub method : ℕ
  pub method' : ℕ
  pub args : List ℕ
  pub form : f ≡ insn.Invoke kind method args
  pub virtual : is_virtual_call kind ≡ true
  pub new : g ≡ insn.Invoke kind' method' args

-- a call that passes these registers
pub record IsCallWith (args : List ℕ) (g : Insn) : Type 0 where
  pub kind : InvokeKind
  pub method : ℕ
  pub form : g ≡ insn.Invoke kind method args

pub record IsRecalledAt (b : Body) (e : Edit) : Type 0 where
  pub form : Insn
  pub there : slice_get b.insns e.position ≡ Some form
  pub recalled : IsRecalled form e.insn

-- ---- the method that a call is bound to

-- The call is bound to another method: one of the program with code, which the class that it names defines itself and as a
-- virtual one; by an interface call where that class is an interface, and else virtually. It has the name and the proto of the
-- old one, the receiver is one for it, the caller may reach it, and the call falls.
pub record IsBound (p : Program) (call : Call) (named renamed : MethodName) (at : MethodAt) (b : Bound) : Type 0 where
  pub target : Method
  pub there : method_at p at ≡ Some target
  pub coded : is_some target.body ≡ true
  pub method : b.method ≡ target.name
  pub entry : slice_get p.methods b.method ≡ Some renamed
  pub other : nat_eq b.method call.method ≡ false
  pub name : renamed.name ≡ named.name
  pub proto : renamed.proto ≡ named.proto
  pub class : class_place p renamed.class ≡ Some at.class
  pub own : own_virtual p renamed.name renamed.proto at.class ≡ Some at
  pub kind : b.kind ≡ kind_for (interface_at p at.class)
  pub receives : receives p call.receiver at.class ≡ true
  pub rebinds : may_rebind p call.method at.class ≡ true
  pub access : may_access p call.caller at.class target ≡ true
  pub falls : falls p call.kind named at.class ≡ true

-- an object of a class finds this method by both names
pub record FindsBoth (p : Program) (named renamed : MethodName) (at : MethodAt) (class : ℕ) : Type 0 where
  pub short : class < length p.classes
  pub first : found_by p named class ≡ Some at
  pub second : found_by p renamed class ≡ Some at

-- By facts: the facts have a frame at the position, and list classes in the receiver's register, which all find the method.
pub record FindsByFacts (p : Program) (facts : Facts) (method n on : ℕ) (named renamed : MethodName) (at : MethodAt) : Type 0 where
  pub frame : Frame
  pub there : frame_at facts.frames.items method n ≡ Some frame
  pub places : List ℕ
  pub classes : (value_at frame.registers on).classes ≡ Some places
  pub some : 0 < length places
  pub finds : (c : ℕ) → Contains places c → FindsBoth p named renamed at c

-- By kind: all classes under the receiver's, which is no interface, find the method.
pub record FindsByKind (p : Program) (receiver : Kind) (named renamed : MethodName) (at : MethodAt) : Type 0 where
  pub class : ℕ
  pub kind : receiver ≡ kind.Program class
  pub short : class < length p.classes
  pub plain : interface_at p class ≡ false
  pub finds : (c : ℕ) → c < length p.classes → is_under p c class ≡ true → FindsBoth p named renamed at c

-- What is written at a position of the body of a method in the class at a place: a call with the same registers of the method
-- that its receivers find, by the facts or by the kind of the receiver in a typing.
pub record IsRebindingOf (p : Program) (facts : Facts) (x : Table) (class method : ℕ) (b : Body) (n : ℕ) (g : Insn) : Type 0 where
  pub call : Call
  pub on : ℕ
  pub rest : List ℕ
  pub form : slice_get b.insns n ≡ Some (insn.Invoke call.kind call.method (on ∷ rest))
  pub virtual : is_virtual_call call.kind ≡ true
  pub caller : call.caller ≡ class
  pub receiver : call.receiver ≡ kind_before x n on
  pub named : MethodName
  pub is_named : slice_get p.methods call.method ≡ Some named
  pub renamed : MethodName
  pub at : MethodAt
  pub bound : Bound
  pub is : IsBound p call named renamed at bound
  pub finds : FindsByFacts p facts method n on named renamed at ⊎ FindsByKind p call.receiver named renamed at
  pub new : g ≡ insn.Invoke bound.kind bound.method (on ∷ rest)

abbrev pub IsRebinding : Program → Facts → Table → MethodAt → Method → Body → Edit → Type 0
IsRebinding p facts x at m b e = IsRebindingOf p facts x at.class m.name b e.position e.insn

-- ---- just what is written

-- the classes that the facts list in a register at a position of a method, if they do
abbrev pub classes_at : Facts → ℕ → ℕ → ℕ → Option (List ℕ)
classes_at facts method n on = option_and_then (λ (f : Frame). (value_at f.registers on).classes) (frame_at facts.frames.items method n)

abbrev pub called : Option Bound → List ℕ → Option Insn
called (Some b) args = Some (insn.Invoke b.kind b.method args)
called None args = None

-- an instruction that is written at a position, if there is one
abbrev pub edit_at : ℕ → Option Insn → List Edit
edit_at n (Some g) = record { position = n; insn = g } ∷ []
edit_at n None = []

module _ (p : Program) (facts : Facts) (class method : ℕ) (x : Table) where
  abbrev pub call_of : InvokeKind → ℕ → ℕ → ℕ → Call
  call_of kind named n on = record { caller = class; kind = kind; method = named; receiver = kind_before x n on }

  abbrev pub rebound_call : ℕ → InvokeKind → ℕ → List ℕ → Option Insn
  rebound_call n kind named [] = None
  rebound_call n kind named (on ∷ rest) = called (bound p (call_of kind named n on) (classes_at facts method n on)) (on ∷ rest)

  -- what is written over an instruction at a position
  abbrev pub rebound_at : ℕ → Insn → Option Insn
  rebound_at n (insn.Invoke kind named args) = if is_virtual_call kind then rebound_call n kind named args else None
  rebound_at n i = None

  -- what is written over instructions, of which the first stands at a position
  abbrev pub edits_from : ℕ → List Insn → List Edit
  edits_from n [] = []
  edits_from n (i ∷ is) = edit_at n (rebound_at n i) ++ edits_from (n + 1) is

-- there may be another method to call
abbrev pub is_open_name : Program → Option MethodName → Bool
is_open_name p (Some q) = has_other p q
is_open_name p None = false

abbrev pub is_open : Program → Insn → Bool
is_open p (insn.Invoke kind method args) = is_virtual_call kind && is_open_name p (slice_get p.methods method)
is_open p i = false

-- a body whose positions have numbers of 32 bits
abbrev pub is_numbered : Body → Bool
is_numbered b = nat_le (length b.insns) 4294967295

abbrev pub typed_edits : Program → Facts → ℕ → ℕ → Body → Option Table → List Edit
typed_edits p facts class method b (Some x) = if is_numbered b then edits_from p facts class method x 0 b.insns else []
typed_edits p facts class method b None = []

abbrev pub is_any_open : Program → Body → Bool
is_any_open p b = list_any (is_open p) b.insns

-- what is written over a body by the typing of its method: nothing where no call is open
abbrev pub edits_of : Program → Facts → ℕ → ℕ → Body → Option Table → List Edit
edits_of p facts class method b x = if is_any_open p b then typed_edits p facts class method b x else []

-- ---- methods and programs

-- the least typing of a method, or none where it is ill typed
abbrev pub IsJudged : Program → Hierarchy → MethodAt → Option Table → Type 0
IsJudged p h at (Some x) = TypesFor p h at x
IsJudged p h at None = (method : ℕ) × (position : ℕ) × (register : ℕ) × RefusesFor p h at (fault.IllTyped method position register)

abbrev pub AreRebindingsIn : Program → Facts → Option Table → MethodAt → Method → Body → List Edit → Type 0
AreRebindingsIn p facts (Some x) at m b es = All (IsRebinding p facts x at m b) es
AreRebindingsIn p facts None at m b es = es ≡ []

-- Just what the receivers' finding allows is written over the body of a method. The typing is the method's, where it has to be
-- asked.
pub record AreRebindings (p : Program) (h : Hierarchy) (facts : Facts) (at : MethodAt) (m : Method) (b : Body) (es : List Edit) : Type 0 where
  pub table : Option Table
  pub judged : is_any_open p b ≡ true → IsJudged p h at table
  pub are : es ≡ edits_of p facts at.class m.name b table
  pub each : AreRebindingsIn p facts table at m b es

-- So it is in all admitted methods.
abbrev pub IsRebindingPlan : Program → Hierarchy → Facts → List Bool → List (List (List Edit)) → Type 0
IsRebindingPlan p h facts admitted plan = IsPlan (AreRebindings p h facts) admitted p.classes plan

abbrev pub IsReboundBy : Program → Hierarchy → Facts → List Bool → Changed → Type 0
IsReboundBy p h facts admitted c = IsRewrittenBy (AreRebindings p h facts) admitted p c
