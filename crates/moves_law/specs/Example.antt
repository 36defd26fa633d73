-- A copy of a copy that is returned, and the same with the original returned.
use Rattle.std.specs.Prelude.{pos, List, [], ◌∷◌}
use Rattle.insn_set.specs.declared.ops.Slot.TheVariants.{Word}
use Rattle.insn_set.specs.declared.form.Insn.{Insn}
use Rattle.insn_set.specs.declared.form.Insn.TheVariants.{Move, Const, Return}
use Rattle.program_model.specs.declared.body.Body.{Body}

-- three registers and no arguments
abbrev pub plain : List Insn → Body
plain insns = record { registers = 3; ins = 0; insns = insns; regions = [] }

abbrev pub returns_copy : Body
returns_copy = plain (Const 0 (pos 1) ∷ Move Word 1 0 ∷ Move Word 2 1 ∷ Return Word 2 ∷ [])

abbrev pub returns_original : Body
returns_original = plain (Const 0 (pos 1) ∷ Move Word 1 0 ∷ Move Word 2 0 ∷ Return Word 0 ∷ [])
