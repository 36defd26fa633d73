-- What is copied at the positions of a caller, by number and by name.
use Rattle.std.specs.Prelude.{◌≡◌, ℕ, suc, ◌+◌, ◌*◌, ◌≤◌, true, false, List, [], ◌∷◌, length, Option, Some, None, slice_get, Contains}
use Rattle.insn_set.specs.Flow.{targets_of}
use Rattle.insn_set.specs.declared.form.Insn.{Insn}
use Rattle.insn_set.specs.declared.ops.Slot.TheVariants as slot
use Rattle.program_model.specs.OperandRules.{registers_fit, are_registers}
use Rattle.program_model.specs.declared.body.Body.{Body}
use Rattle.program_model.specs.declared.body.Handler.{Handler}
use Rattle.program_model.specs.declared.body.Region.{Region}
use Rattle.program_model.specs.declared.program.Method.{Method}
use Rattle.program_model.specs.declared.program.Program.{Program}
use Rattle.dalvik_defs.specs.Names.{is_wide}
use Rattle.dalvik_defs.specs.Naming.{form_of, body_of, named_method, named}
use Rattle.dalvik_defs.specs.declared.names.MethodKey.{MethodKey}
use Rattle.dalvik_defs.specs.declared.program.NamedMethod.{NamedMethod}
use Rattle.pass_defs.specs.Inlined.{callee_of, slot_of, inlined}
use Rattle.pass_defs.specs.Inlined as by_name
use Rattle.splice.specs.declared.callee.Callee.{Callee}
use Rattle.splice.specs.Callees.{chosen_at, args_of}
use Rattle.splice.specs.Pieces.{body_spliced}

-- the positions at which a method is chosen, in order, from a number on
abbrev pub accepted_from : ℕ → List (Option Callee) → List ℕ
accepted_from n [] = []
accepted_from n (None ∷ cs) = accepted_from (suc n) cs
accepted_from n (Some c ∷ cs) = n ∷ accepted_from (suc n) cs

abbrev pub accepted_by : List (Option Callee) → List ℕ
accepted_by chosen = accepted_from 0 chosen

-- a callee by name that is one by number, in place of this instruction; its class's type is that of objects
pub record IsNamed (p : Program) (i : Insn) (c : Callee) (y : by_name.Callee) : Type 0 where
  pub receiver : slot_of y.key.class ≡ slot.Object
  pub narrow : is_wide y.key.class ≡ false
  pub method : y.method ≡ named_method p c.method.now
  pub body : y.body ≡ body_of p c.body.now
  pub args : y.args ≡ args_of i

-- A method is chosen at a position of a caller: the call there finds it by name. It is short, takes few registers, and its
-- targets are positions of its own.
pub record IsCopied (p : Program) (b : Body) (n : ℕ) (c : Callee) : Type 0 where
  pub insn : Insn
  pub here : slice_get b.insns n ≡ Some insn
  pub callee : by_name.Callee
  pub finds : callee_of (named p) (Some (form_of p insn)) ≡ Some callee
  pub is : IsNamed p insn c callee
  pub registers : b.registers + c.body.now.registers ≤ 65535
  pub passes : are_registers (args_of insn) b.registers ≡ true
  pub few : length (args_of insn) ≤ 16
  pub room : c.body.now.registers + 2 * length (args_of insn) ≤ 65535
  pub short : length c.body.now.insns ≤ 16
  pub targets : (j t : ℕ) (x : Insn) → slice_get c.body.now.insns j ≡ Some x → Contains (targets_of x) t → t ≤ length c.body.now.insns

-- the positions of a region are those of a body with so many, or its end
pub record RegionWithin (end : ℕ) (r : Region) : Type 0 where
  pub first : r.first ≤ end
  pub last : r.end ≤ end
  pub handlers : (h : Handler) → Contains r.handlers h → h.position ≤ end
  pub rest : (k : ℕ) → r.rest ≡ Some k → k ≤ end

-- what is asked of a caller: its registers, targets and regions are its own, and it has not too many positions
pub record IsWithin (b : Body) : Type 0 where
  pub registers : (n : ℕ) (i : Insn) → slice_get b.insns n ≡ Some i → registers_fit i b.registers ≡ true
  pub targets : (n t : ℕ) (i : Insn) → slice_get b.insns n ≡ Some i → Contains (targets_of i) t → t ≤ length b.insns
  pub regions : (r : Region) → Contains b.regions r → RegionWithin (length b.insns) r
  pub few_registers : b.registers ≤ 65535
  pub few : 48 * length b.insns ≤ 4294967295

abbrev pub AreCopied : Program → Body → List (Option Callee) → Type 0
AreCopied p b chosen = (n : ℕ) (c : Callee) → chosen_at chosen n ≡ Some c → IsCopied p b n c

abbrev pub IsSplicedByNumber : Type 0
IsSplicedByNumber = (p : Program) (k : MethodKey) (m : NamedMethod) (caller : Method) (b : Body) (chosen : List (Option Callee)) → IsWithin b → AreCopied p b chosen
    → body_of p (body_spliced p caller b chosen) ≡ inlined (named p) k m (body_of p b) (accepted_by chosen)
