-- Conditional branches that go too far.
use Rattle.std.specs.Prelude.{ℕ, suc, ◌-◌, Bool, false, ◌||◌, nat_lt, Option, Some, None, List, [], ◌∷◌, if◌then◌else◌}
use Rattle.insn_set.specs.declared.form.Insn.{Insn}
use Rattle.insn_set.specs.declared.form.Insn.TheVariants.{If, IfZero}
use Rattle.relax.specs.Sizes.{start}

-- whether 16 signed bits have no room
abbrev pub spans_far : ℕ → ℕ → Bool
spans_far from to = nat_lt 32767 (to - from) || nat_lt 32768 (from - to)

abbrev pub is_far : List ℕ → ℕ → Insn → Bool
is_far sizes at (If test a b target) = spans_far (start sizes at) (start sizes target)
is_far sizes at (IfZero test a target) = spans_far (start sizes at) (start sizes target)
is_far sizes at insn = false

-- the first position from `at` on with such a branch
abbrev pub first_far : List ℕ → ℕ → List Insn → Option ℕ
first_far sizes at [] = None
first_far sizes at (insn ∷ insns) = if is_far sizes at insn then Some at else first_far sizes (suc at) insns
