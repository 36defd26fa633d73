-- Branches and the registers of calls (Dalvik bytecode, "Summary of bytecode set").
use Rattle.std.specs.Prelude.{ℕ, zero, suc, ◌-◌, ◌/◌, ◌%◌, ℤ, List, [], ◌∷◌, take, Bool, ◌||◌, ◌==◌, if◌then◌else◌}
use Rattle.insn_set.specs.declared.form.Insn.{Insn}
use Rattle.insn_set.specs.declared.form.Insn.TheVariants.{Goto, If, IfZero, FilledNewArray, Invoke}
use Rattle.code_read.specs.declared.fields.Fields.{Fields}
use Rattle.code_read.specs.Opcodes.{from_to, test_at, kind_at}
use Rattle.code_read.specs.Forms.{byte, short, word}

-- opcodes of branches, and of calls and filled arrays
abbrev pub is_branch : ℕ → Bool
is_branch op = from_to op 0x28 0x2a || from_to op 0x32 0x3d

abbrev pub is_call : ℕ → Bool
is_call op = from_to op 0x24 0x25 || (from_to op 0x6e 0x72 || from_to op 0x74 0x78)

-- how far a branch goes, in units from its first
abbrev pub offset_form : ℕ → Fields → ℤ
offset_form op f = if op == 0x28 then byte f.a
    else if op == 0x29 then short f.a
    else if op == 0x2a then word f.wide
    else if from_to op 0x32 0x37 then short f.c
    else short f.b

-- the branch to a position
abbrev pub branch_form : ℕ → Fields → ℕ → Insn
branch_form op f target = if from_to op 0x28 0x2a then Goto target
    else if from_to op 0x32 0x37 then If (test_at (op - 0x32)) f.a f.b target
    else IfZero (test_at (op - 0x38)) f.a target

-- the registers C, D, E, F and G of a call, as many as it has
abbrev pub nibbles_form : Fields → List ℕ
nibbles_form f = take f.a ((f.c % 16) ∷ (f.c / 16 % 16) ∷ (f.c / 256 % 16) ∷ (f.c / 4096) ∷ (f.wide % 16) ∷ [])

-- so many registers from this one on
abbrev pub registers_from : ℕ → ℕ → List ℕ
registers_from register zero = []
registers_from register (suc n) = register ∷ registers_from (suc register) n

-- calls by range have opcodes of their own
abbrev pub is_range : ℕ → Bool
is_range op = op == 0x25 || from_to op 0x74 0x78

abbrev pub words_form : ℕ → Fields → List ℕ
words_form op f = if is_range op then registers_from f.c f.a else nibbles_form f

-- at most five registers by nibbles, and a range that ends among the registers
abbrev pub most_words : ℕ → Fields → ℕ
most_words op f = if is_range op then 65536 - f.c else 5

abbrev pub call_form : ℕ → Fields → Insn
call_form op f = if from_to op 0x24 0x25 then FilledNewArray f.b (words_form op f)
    else if is_range op then Invoke (kind_at (op - 0x74)) f.b (words_form op f)
    else Invoke (kind_at (op - 0x6e)) f.b (words_form op f)
