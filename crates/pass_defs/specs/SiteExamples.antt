-- The program of `PassExamples` in which two methods call a third one, by number, and what inlining makes of it.
use Rattle.std.specs.Prelude.{ℕ, pos, [], ◌∷◌, Some, None, codes}
use Rattle.insn_set.specs.declared.ops.Slot.TheVariants as slot
use Rattle.insn_set.specs.declared.ops.LiteralOp.TheVariants as literal
use Rattle.insn_set.specs.declared.ops.InvokeKind.TheVariants as call
use Rattle.insn_set.specs.declared.form.Insn.TheVariants as insn
use Rattle.program_model.specs.declared.body.Body.{Body}
use Rattle.program_model.specs.declared.program.Method.{Method}
use Rattle.program_model.specs.declared.program.Program.{Program}
use Rattle.program_model.specs.declared.program.Version.TheVariants.{V035}
use Rattle.dalvik_defs.specs.declared.program.NamedProgram.{NamedProgram}
use Rattle.pass_defs.specs.Site.{inlined_program}
use Rattle.pass_defs.specs.PassExamples.{both_call_q, gives_q, caller_m, caller_n}

abbrev pub gives_by_number : Body
gives_by_number = record {
  registers = 1;
  ins = 0;
  insns = insn.Const 0 (pos 1) ∷ insn.Invoke call.Static 2 (0 ∷ []) ∷ insn.MoveResult slot.Word 0 ∷ insn.Return slot.Word 0 ∷ [];
  regions = [];
}

abbrev pub inlined_by_number : Body
inlined_by_number = record {
  registers = 3;
  ins = 0;
  insns = insn.Const 2 (pos 1) ∷ insn.Move slot.Word 1 2 ∷ insn.Literal literal.AddInt 0 1 (pos 2) ∷ insn.Move slot.Word 2 0 ∷ insn.Goto 5 ∷ insn.Return slot.Word 2 ∷ [];
  regions = [];
}

abbrev pub adds_by_number : Body
adds_by_number = record { registers = 2; ins = 1; insns = insn.Literal literal.AddInt 0 1 (pos 2) ∷ insn.Return slot.Word 0 ∷ []; regions = [] }

abbrev pub method_by_number : ℕ → Body → Method
method_by_number name body = record { name = name; flags = record { 0 = 9 }; marks = []; parameter_marks = []; body = Some body; lines = [] }

-- LA; with m and n, which have this code, and q
abbrev pub by_number : Body → Body → Program
by_number m n = record {
  strings = codes "I" ∷ codes "II" ∷ codes "LA;" ∷ codes "Ljava/lang/Object;" ∷ codes "m" ∷ codes "n" ∷ codes "q" ∷ [];
  types = 0 ∷ 2 ∷ 3 ∷ [];
  protos = record { shorty = 0; result = 0; parameters = [] } ∷ record { shorty = 1; result = 0; parameters = 0 ∷ [] } ∷ [];
  fields = [];
  methods = record { class = 1; proto = 0; name = 4 } ∷ record { class = 1; proto = 0; name = 5 } ∷ record { class = 1; proto = 1; name = 6 } ∷ [];
  classes = record {
    name = 1;
    flags = record { 0 = 1 };
    superclass = 2;
    interfaces = [];
    source = None;
    marks = [];
    fields = [];
    methods = method_by_number 0 m ∷ method_by_number 1 n ∷ method_by_number 2 adds_by_number ∷ [];
  } ∷ [];
  version = V035;
}

-- m's call is inlined already
abbrev pub m_inlined : NamedProgram
m_inlined = inlined_program both_call_q both_call_q caller_m.key gives_q (1 ∷ [])

abbrev pub both_inlined : NamedProgram
both_inlined = inlined_program both_call_q m_inlined caller_n.key gives_q (1 ∷ [])
