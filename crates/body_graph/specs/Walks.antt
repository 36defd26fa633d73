-- Walks through the code of a method, and which registers they read (Dalvik bytecode, "Summary of bytecode set"; Dalvik
-- executable format, "try_item"). A walk goes from a position to the next one where the instruction goes on, to each
-- target, and, where it may throw, to each handler of the first region that covers it. A position that is left through a
-- handler has written nothing.
use Rattle.std.specs.Prelude.{◌≡◌, ℕ, Bool, true, false, List, ◌++◌, Option, Some, slice_get, Contains}
use Rattle.insn_set.specs.declared.form.Insn.{Insn}
use Rattle.insn_set.specs.Registers.{reads_of, writes_of}
use Rattle.insn_set.specs.Flow.{targets_of}
use Rattle.program_model.specs.declared.body.Body.{Body}
use Rattle.flow_cfg.specs.Walks.{next_of, thrown_to, successors_of}

abbrev pub insn_at : Body → ℕ → Option Insn
insn_at b n = slice_get b.insns n

-- where an instruction goes that doesn't throw, and where it goes that does
abbrev pub onward : Insn → ℕ → List ℕ
onward i n = next_of n i ++ targets_of i

abbrev pub caught : Body → Insn → ℕ → List ℕ
caught b i n = thrown_to b.regions n i

-- a walk along steps
pub data Walk (next : ℕ → List ℕ) : ℕ → ℕ → Type 0 where
  Stays : (n : ℕ) → Walk next n n
  Goes : (n m k : ℕ) → Contains (next n) m → Walk next m k → Walk next n k

-- some walk from the entry comes to a position
abbrev pub IsReached : Body → ℕ → Type 0
IsReached b n = Walk (successors_of b) 0 n

-- A walk from the first position comes to the second, which reads the register before any position on the way has
-- written it.
pub data IsReadAt (b : Body) (r : ℕ) : ℕ → ℕ → Type 0 where
  Here : (n : ℕ) (i : Insn) → insn_at b n ≡ Some i → reads_of i r ≡ true → IsReadAt b r n n
  Onward : (n m k : ℕ) (i : Insn) → insn_at b n ≡ Some i → writes_of i r ≡ false → Contains (onward i n) m → IsReadAt b r m k → IsReadAt b r n k
  Caught : (n m k : ℕ) (i : Insn) → insn_at b n ≡ Some i → Contains (caught b i n) m → IsReadAt b r m k → IsReadAt b r n k

-- some walk from a position reads the register before it is written
abbrev pub IsRead : Body → ℕ → ℕ → Type 0
IsRead b r n = (k : ℕ) × IsReadAt b r n k

-- some walk onward from a position does, also through its handlers
abbrev pub IsReadAfter : Body → ℕ → ℕ → Type 0
IsReadAfter b r n = (m : ℕ) × Contains (successors_of b n) m × IsRead b r m
