-- A body that returns at once, with a handler at its end for a region that never throws.
use Rattle.std.specs.Prelude.{pos, [], ◌∷◌, Some}
use Rattle.insn_set.specs.declared.form.Insn.TheVariants as insn
use Rattle.program_model.specs.declared.body.Body.{Body}

abbrev pub guarded : Body
guarded = record {
  registers = 1;
  ins = 0;
  insns = insn.Const 0 (pos 5) ∷ insn.ReturnVoid ∷ insn.MoveException 0 ∷ insn.Throw 0 ∷ [];
  regions = record { first = 0; end = 1; handlers = []; rest = Some 2 } ∷ [];
}
