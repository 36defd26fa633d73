-- A program in which a method doesn't need its receiver, by number, and what making it static makes of it.
use Rattle.std.specs.Prelude.{ℕ, List, [], ◌∷◌, Bool, Some, None, codes}
use Rattle.insn_set.specs.declared.ops.InvokeKind.{InvokeKind}
use Rattle.insn_set.specs.declared.ops.InvokeKind.TheVariants as call
use Rattle.insn_set.specs.declared.form.Insn.{Insn}
use Rattle.insn_set.specs.declared.form.Insn.TheVariants as insn
use Rattle.program_model.specs.declared.pools.Proto.{Proto}
use Rattle.program_model.specs.declared.body.Body.{Body}
use Rattle.program_model.specs.declared.program.Class.{Class}
use Rattle.program_model.specs.declared.program.Method.{Method}
use Rattle.program_model.specs.declared.program.Program.{Program}
use Rattle.program_model.specs.declared.program.Version.TheVariants.{V035}
use Rattle.dalvik_defs.specs.Names.{Text, method_eq}
use Rattle.dalvik_defs.specs.Naming.{named}
use Rattle.dalvik_defs.specs.Examples.{b_type}
use Rattle.dalvik_defs.specs.declared.names.MethodKey.{MethodKey}
use Rattle.dalvik_defs.specs.declared.program.NamedProgram.{NamedProgram}
use Rattle.pass_defs.specs.PassExamples.{nothing_key}

abbrev pub one_register : ℕ → List Insn → Body
one_register ins insns = record { registers = 1; ins = ins; insns = insns; regions = [] }

abbrev pub method_by_number : ℕ → ℕ → Body → Method
method_by_number name flags body = record { name = name; flags = record { 0 = flags }; marks = []; parameter_marks = []; body = Some body; lines = [] }

abbrev pub class_by_number : ℕ → List Method → Class
class_by_number name methods = record { name = name; flags = record { 0 = 1 }; superclass = 2; interfaces = []; source = None; marks = []; fields = []; methods = methods }

-- LA;'s m makes an object of LB; and calls q on it, by this kind; LB;'s q has these flags and this proto
abbrev pub makes_and_calls : List Text → List Proto → InvokeKind → ℕ → ℕ → Program
makes_and_calls more protos kind flags proto = record {
  strings = codes "LA;" ∷ codes "LB;" ∷ codes "Ljava/lang/Object;" ∷ codes "V" ∷ codes "m" ∷ codes "q" ∷ codes "<init>" ∷ more;
  types = 0 ∷ 1 ∷ 2 ∷ 3 ∷ [];
  protos = record { shorty = 3; result = 3; parameters = [] } ∷ protos;
  fields = [];
  methods = record { class = 0; proto = 0; name = 4 } ∷ record { class = 1; proto = 0; name = 6 } ∷ record { class = 1; proto = proto; name = 5 } ∷ record { class = 2; proto = 0; name = 6 } ∷ [];
  classes = class_by_number 0 (method_by_number 0 9 (one_register 0 (insn.NewInstance 0 1 ∷ insn.Invoke call.Direct 1 (0 ∷ []) ∷ insn.Invoke kind 2 (0 ∷ []) ∷ insn.ReturnVoid ∷ [])) ∷ [])
      ∷ class_by_number 1 (method_by_number 1 65537 (one_register 1 (insn.Invoke call.Direct 3 (0 ∷ []) ∷ insn.ReturnVoid ∷ [])) ∷ method_by_number 2 flags (one_register 1 (insn.ReturnVoid ∷ [])) ∷ [])
      ∷ [];
  version = V035;
}

abbrev pub needs_no_receiver : Program
needs_no_receiver = makes_and_calls [] [] call.Virtual 1 0

-- the class is the first parameter
abbrev pub made_static : Program
made_static = makes_and_calls (codes "VL" ∷ []) (record { shorty = 7; result = 3; parameters = 1 ∷ [] } ∷ []) call.Static 9 1

abbrev pub loose_program : NamedProgram
loose_program = named needs_no_receiver

abbrev pub is_q : MethodKey → Bool
is_q k = method_eq k (nothing_key b_type)
