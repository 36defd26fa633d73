-- The fates of positions, and what they leave.
use Rattle.std.specs.Prelude.{ℕ, suc, Bool, true, false, List, [], ◌∷◌, map}
use Rattle.insn_set.specs.declared.form.Insn.{Insn}
use Rattle.insn_set.specs.declared.form.Insn.TheVariants as insn
use Rattle.program_model.specs.declared.pass.Origin.{Origin}
use Rattle.pass_defs.specs.Thinned.{Stays, Empties, Goes, insn_retargeted, origins_from}
use Rattle.pass_defs.specs.Thinned.{Fate as Meant}
use Rattle.body_edit.specs.declared.fate.Fate.{Fate}
use Rattle.body_edit.specs.declared.fate.Fate.TheVariants as fate

abbrev pub fate_of : Fate → Meant
fate_of fate.Stays = Stays
fate_of fate.Empties = Empties
fate_of fate.Goes = Goes

abbrev pub fates_of : List Fate → List Meant
fates_of fs = map fate_of fs

abbrev pub is_left : Meant → Bool
is_left Goes = false
is_left f = true

-- a count of the positions that go, with one more position
abbrev pub counted : ℕ → Meant → ℕ
counted k Goes = suc k
counted k f = k

-- an instruction in its place, before positions go
abbrev pub edited : (ℕ → ℕ) → Meant → Insn → Insn
edited at Stays i = insn_retargeted at i
edited at Empties i = insn.Nop
edited at Goes i = i

abbrev pub all_edited : (ℕ → ℕ) → List Meant → List Insn → List Insn
all_edited at [] is = is
all_edited at (f ∷ fs) [] = []
all_edited at (f ∷ fs) (i ∷ is) = edited at f i ∷ all_edited at fs is

-- where the positions of a method that are left come from
abbrev pub origin_in : ℕ → ℕ → Origin
origin_in method n = record { method = method; position = n }

abbrev pub origins_of : ℕ → List Meant → List Origin
origins_of method fs = map (origin_in method) (origins_from 0 fs)

abbrev pub origin_at : ℕ → ℕ → Meant → List Origin
origin_at method n Goes = []
origin_at method n f = origin_in method n ∷ []
