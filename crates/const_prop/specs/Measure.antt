-- How much of a program may still be folded: instructions other than constants, gotos and nops. A fold lowers it, and a pass that
-- takes instructions away, empties them or gives them other registers, targets or callees never raises it.
use Rattle.std.specs.Prelude.{ℕ, ◌+◌, List, [], ◌∷◌, sum_by, Option, None, Some}
use Rattle.insn_set.specs.declared.form.Insn.{Insn}
use Rattle.insn_set.specs.declared.form.Insn.TheVariants as insn
use Rattle.program_model.specs.declared.body.Body.{Body}
use Rattle.program_model.specs.declared.program.Class.{Class}
use Rattle.program_model.specs.declared.program.Method.{Method}
use Rattle.program_model.specs.declared.program.Program.{Program}

abbrev pub open_form : Insn → ℕ
open_form insn.Nop = 0
open_form (insn.Const to value) = 0
open_form (insn.ConstWide to value) = 0
open_form (insn.Goto target) = 0
open_form i = 1

abbrev pub open_insns : List Insn → ℕ
open_insns [] = 0
open_insns (i ∷ is) = open_form i + open_insns is

abbrev pub open_code : Option Body → ℕ
open_code None = 0
open_code (Some b) = open_insns b.insns

abbrev pub open_method : Method → ℕ
open_method m = open_code m.body

abbrev pub open_class : Class → ℕ
open_class c = sum_by open_method c.methods

abbrev pub open_forms : Program → ℕ
open_forms p = sum_by open_class p.classes
