-- How much a program weighs: a pass that takes something out makes it lighter.
use Rattle.std.specs.Prelude.{ℕ, ◌+◌, List, [], ◌∷◌, sum_by, Option, None, Some}
use Rattle.insn_set.specs.declared.form.Insn.{Insn}
use Rattle.insn_set.specs.declared.form.Insn.TheVariants as insn
use Rattle.program_model.specs.declared.body.Body.{Body}
use Rattle.program_model.specs.declared.program.Class.{Class}
use Rattle.program_model.specs.declared.program.Method.{Method}
use Rattle.program_model.specs.declared.program.Program.{Program}

-- a nop weighs 1, and every other instruction 2
abbrev pub weight : Insn → ℕ
weight insn.Nop = 1
weight i = 2

abbrev pub insns_weight : List Insn → ℕ
insns_weight [] = 0
insns_weight (i ∷ is) = weight i + insns_weight is

abbrev pub code_weight : Option Body → ℕ
code_weight None = 0
code_weight (Some b) = insns_weight b.insns

abbrev pub method_weight : Method → ℕ
method_weight m = code_weight m.body

abbrev pub class_weight : Class → ℕ
class_weight c = sum_by method_weight c.methods

abbrev pub weight_of : Program → ℕ
weight_of p = sum_by class_weight p.classes
