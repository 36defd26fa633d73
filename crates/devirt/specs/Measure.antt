-- How far the calls of a program are from what they find: a virtual or interface call weighs less where it names a method with
-- code of the named class itself, where it names no interface, and where fewer classes stand under the class that it names.
use Rattle.std.specs.Prelude.{ℕ, ◌+◌, ◌||◌, Bool, true, false, List, [], ◌∷◌, length, filter, sum_by, Option, Some, None, slice_get, if◌then◌else◌}
use Rattle.std.specs.List.{range_with_len}
use Rattle.insn_set.specs.declared.ops.InvokeKind.{InvokeKind}
use Rattle.insn_set.specs.declared.ops.InvokeKind.TheVariants as call
use Rattle.insn_set.specs.declared.form.Insn.{Insn}
use Rattle.insn_set.specs.declared.form.Insn.TheVariants as insn
use Rattle.program_model.specs.declared.body.Body.{Body}
use Rattle.program_model.specs.declared.pools.MethodName.{MethodName}
use Rattle.program_model.specs.declared.program.Class.{Class}
use Rattle.program_model.specs.declared.program.Method.{Method}
use Rattle.program_model.specs.declared.program.MethodAt.{MethodAt}
use Rattle.program_model.specs.declared.program.Program.{Program}
use Rattle.program_model.specs.Lookups.{class_place, method_at}
use Rattle.class_defs.specs.Members.{own_virtual, has_code, is_interface}
use Rattle.class_defs.specs.Places.{is_under}

abbrev pub is_virtual_call : InvokeKind → Bool
is_virtual_call call.Virtual = true
is_virtual_call call.Interface = true
is_virtual_call kind = false

abbrev pub is_interface_call : InvokeKind → Bool
is_interface_call call.Interface = true
is_interface_call kind = false

-- ---- what a call names

abbrev pub is_coded : Program → Option MethodAt → Bool
is_coded p (Some at) = has_code (method_at p at)
is_coded p None = false

abbrev pub codes_own : Program → MethodName → Option ℕ → Bool
codes_own p q (Some c) = is_coded p (own_virtual p q.name q.proto c)
codes_own p q None = false

-- a virtual method with code which the named class itself defines
abbrev pub names_code : Program → MethodName → Bool
names_code p q = codes_own p q (class_place p q.class)

abbrev pub is_interface_place : Program → Option ℕ → Bool
is_interface_place p (Some c) = is_interface (slice_get p.classes c)
is_interface_place p None = false

-- an interface call, or a call of a method of an interface
abbrev pub names_interface : Program → InvokeKind → MethodName → Bool
names_interface p kind q = is_interface_call kind || is_interface_place p (class_place p q.class)

-- ---- weights

-- more than there are classes
abbrev pub bound_of : Program → ℕ
bound_of p = length p.classes + 1

-- how many classes stand under one by the program's own lists
abbrev pub count_under : Program → Option ℕ → ℕ
count_under p (Some c) = length (filter (λ d. is_under p d c) (range_with_len 0 (length p.classes)))
count_under p None = 0

abbrev pub weight_named : Program → InvokeKind → Option MethodName → ℕ
weight_named p kind (Some q) =
    (if names_code p q then 0 else bound_of p + bound_of p) + (if names_interface p kind q then bound_of p else 0) + count_under p (class_place p q.class)
weight_named p kind None = 0

abbrev pub call_weight : Program → InvokeKind → ℕ → ℕ
call_weight p kind method = if is_virtual_call kind then weight_named p kind (slice_get p.methods method) else 0

-- ---- a program, by the weight of each call

module _ (weight : InvokeKind → ℕ → ℕ) where
  abbrev pub insn_weight : Insn → ℕ
  insn_weight (insn.Invoke kind method args) = weight kind method
  insn_weight i = 0

  abbrev pub insns_weight : List Insn → ℕ
  insns_weight [] = 0
  insns_weight (i ∷ is) = insn_weight i + insns_weight is

  abbrev pub code_weight : Option Body → ℕ
  code_weight None = 0
  code_weight (Some b) = insns_weight b.insns

  abbrev pub method_weight : Method → ℕ
  method_weight m = code_weight m.body

  abbrev pub class_weight : Class → ℕ
  class_weight c = sum_by method_weight c.methods

  abbrev pub calls_by : Program → ℕ
  calls_by p = sum_by class_weight p.classes

abbrev pub calls_in : Program → ℕ
calls_in p = calls_by (call_weight p) p
