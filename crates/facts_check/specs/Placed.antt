-- What is asked of an instruction at a reached position.
use Rattle.std.specs.Prelude.{◌≡◌, ℕ, ◌+◌, ◌*◌, Bool, true, List, Option, Some, None, is_some, slice_get}
use Rattle.std.specs.List.{list_all}
use Rattle.insn_set.specs.declared.ops.InvokeKind.{InvokeKind}
use Rattle.insn_set.specs.declared.ops.InvokeKind.TheVariants as call
use Rattle.insn_set.specs.declared.form.Insn.{Insn}
use Rattle.insn_set.specs.declared.form.Insn.TheVariants as insn
use Rattle.insn_set.specs.Widths.{is_wide_slot}
use Rattle.program_model.specs.declared.body.Body.{Body}
use Rattle.program_model.specs.declared.program.Method.{Method}
use Rattle.program_model.specs.declared.program.MethodAt.{MethodAt}
use Rattle.program_model.specs.Lookups.{class_place, method_at}
use Rattle.class_defs.specs.Finding.{Nothing, Finds}
use Rattle.flow_cfg.specs.Walks.{thrown_to}
use Rattle.domains.specs.Values.{Parts, any_value}
use Rattle.value_ops.specs.Left.{of_class}
use Rattle.value_ops.specs.Numbers.{stored_value}
use Rattle.dom_frame.specs.Registers.{Registers, value_at, put_sized}
use Rattle.dom_frame.specs.Steps.{receiver}
use Rattle.closed_facts.specs.Tables.{IsBelow, parameter_at, result_at, field_at}
use Rattle.closed_facts.specs.Found.{finds_bound, names_interface, own_number, needs}
use Rattle.closed_facts.specs.Edges.{edges}
use Rattle.facts_check.specs.declared.known.Known.{Known}
use Rattle.facts_check.specs.declared.starts.Start.{Start}
use Rattle.facts_check.specs.Known.{is_marked, is_made, pool_at, answer_at}
use Rattle.facts_check.specs.Landing.{EachLands, EachGoes}

module _ (k : Known) where
  abbrev pub are_needed : Insn → Bool
  are_needed i = list_all (is_marked k.marks.now.needed.items) (needs k.program.now i)

  -- ---- puts and returns

  abbrev pub HoldsPut : Option ℕ → Parts → Type 0
  HoldsPut None v = Unit {0}
  HoldsPut (Some own) v = IsBelow v (field_at k.facts.now own)

  abbrev pub HoldsPuts : Insn → Registers → Type 0
  HoldsPuts (insn.InstancePut item from on field) x = HoldsPut (own_number k.program.now field) (stored_value item (value_at x from))
  HoldsPuts (insn.StaticPut item from field) x = HoldsPut (own_number k.program.now field) (stored_value item (value_at x from))
  HoldsPuts i x = Unit {0}

  abbrev pub HoldsReturn : ℕ → Insn → Registers → Type 0
  HoldsReturn method (insn.Return slot from) x = IsBelow (value_at x from) (result_at k.facts.now method)
  HoldsReturn method i x = Unit {0}

  -- ---- calls

  -- a method is passed these registers, and where it has code, its entry is marked
  pub record IsCalled (m : Method) (args : List ℕ) (x : Registers) : Type 0 where
    pub passed : (i r : ℕ) → slice_get args i ≡ Some r → IsBelow (value_at x r) (parameter_at k.facts.now m.name i)
    pub entered : is_some m.body ≡ true → is_marked k.marks.now.entered.items m.name ≡ true

  pub record IsBoundCall (class method : ℕ) (kind : InvokeKind) (args : List ℕ) (x : Registers) : Type 0 where
    pub calls : (at : MethodAt) (m : Method) → finds_bound k.program.now class method kind ≡ Finds at → method_at k.program.now at ≡ Some m → IsCalled m args x

  -- the pool of a number to which a run may come is passed these registers, one of which is the receiver
  pub record IsPooled (number : ℕ) (args : List ℕ) (x : Registers) : Type 0 where
    pub made : is_made k number ≡ true
    pub words : (i r : ℕ) → slice_get args i ≡ Some r → IsBelow (value_at x r) (value_at (pool_at k number) i)
    pub on : slice_get args 0 ≡ Some (receiver args)

  abbrev pub HoldsCall : ℕ → InvokeKind → ℕ → List ℕ → Registers → Type 0
  HoldsCall class call.Virtual method args x = IsPooled (2 * method) args x
  HoldsCall class call.Interface method args x = IsPooled (2 * method + 1) args x
  HoldsCall class kind method args x = IsBoundCall class method kind args x

  abbrev pub HoldsCalls : ℕ → Insn → Registers → Type 0
  HoldsCalls class (insn.Invoke kind method args) x = HoldsCall class kind method args x
  HoldsCalls class i x = Unit {0}

  -- ---- results

  -- what a static, direct or super call gives: anything where it finds nothing
  pub record IsBoundResult (class method : ℕ) (kind : InvokeKind) (v : Parts) : Type 0 where
    pub given : (at : MethodAt) (m : Method) → finds_bound k.program.now class method kind ≡ Finds at → method_at k.program.now at ≡ Some m → IsBelow (result_at k.facts.now m.name) v
    pub unfound : finds_bound k.program.now class method kind ≡ Nothing → IsBelow any_value v

  -- what a virtual call gives: anything where it names an interface
  pub record IsVirtualResult (method : ℕ) (v : Parts) : Type 0 where
    pub answered : IsBelow (answer_at k (2 * method)) v
    pub unlisted : names_interface k.program.now method ≡ true → IsBelow any_value v

  abbrev pub HoldsResult : ℕ → InvokeKind → ℕ → Parts → Type 0
  HoldsResult class call.Virtual method v = IsVirtualResult method v
  HoldsResult class call.Interface method v = IsBelow (answer_at k (2 * method + 1)) v
  HoldsResult class kind method v = IsBoundResult class method kind v

  -- what a move of a result may take behind an instruction
  abbrev pub HoldsResults : ℕ → Insn → Parts → Type 0
  HoldsResults class (insn.Invoke kind method args) v = HoldsResult class kind method v
  HoldsResults class (insn.FilledNewArray kind args) v = IsBelow (of_class (class_place k.program.now kind)) v
  HoldsResults class i v = Unit {0}

  abbrev pub HoldsBehind : ℕ → Option Insn → Parts → Type 0
  HoldsBehind class None v = Unit {0}
  HoldsBehind class (Some i) v = HoldsResults class i v

  -- a move of a result hands on what it takes
  pub record IsTaken (class : ℕ) (before : Option Insn) (wide : Bool) (to : ℕ) (x : Registers) (next : Option Registers) : Type 0 where
    pub value : Parts
    pub behind : HoldsBehind class before value
    pub handed : next ≡ Some (put_sized wide to value x)

  abbrev pub HoldsTaken : ℕ → Option Insn → Insn → Registers → Option Registers → Type 0
  HoldsTaken class before (insn.MoveResult slot to) x next = IsTaken class before (is_wide_slot slot) to x next
  HoldsTaken class before i x next = Unit {0}

  -- ---- together

  -- a position of the code of a method with a number, in the class at a place, with what it hands on to the next position
  pub record IsPlaced (class method : ℕ) (b : Body) (starts : List Start) (n : ℕ) (before : Option Insn) (i : Insn) (x : Registers) (next : Option Registers) : Type 0 where
    pub needed : are_needed i ≡ true
    pub puts : HoldsPuts i x
    pub returns : HoldsReturn method i x
    pub calls : HoldsCalls class i x
    pub thrown : EachLands starts x (thrown_to b.regions n i)
    pub goes : EachGoes starts n next (edges k.program.now k.facts.now n i x)
    pub taken : HoldsTaken class before i x next
