-- One path from the entry to each position that a walk reaches. It is chosen by where instructions go and what catches them
-- alone, so that it is the same whatever registers they name.
use Rattle.std.specs.Prelude.{ℕ, zero, suc, Bool, true, false, nat_eq, List, [], ◌∷◌, ◌++◌, length, Option, Some, None}
use Rattle.std.specs.List.{list_any}
use Rattle.insn_set.specs.declared.form.Insn.{Insn}
use Rattle.program_model.specs.declared.body.Body.{Body}
use Rattle.body_graph.specs.Walks.{insn_at, onward, caught}
use Rattle.moves_law.specs.Histories.{Step}

-- the one step from a position, where it goes on or is caught
abbrev pub leaving : ℕ → Bool → Bool → Option (List Step)
leaving m true c = Some (record { position = m; thrown = false } ∷ [])
leaving m false true = Some (record { position = m; thrown = true } ∷ [])
leaving m false false = None

-- the one step from a position to another, where there is one
abbrev pub one_step : Body → ℕ → ℕ → Option Insn → Option (List Step)
one_step b m n None = None
one_step b m n (Some f) = leaving m (list_any (nat_eq n) (onward f m)) (list_any (nat_eq n) (caught b f m))

-- some steps, and behind them others
abbrev pub joined : Option (List Step) → Option (List Step) → Option (List Step)
joined (Some first) (Some others) = Some (others ++ first)
joined first others = None

abbrev pub or_else : Option (List Step) → Option (List Step) → Option (List Step)
or_else (Some ss) others = Some ss
or_else None others = others

-- Steps from one position to another, the last one first, between which they come only to positions below a bound.
abbrev pub between : Body → ℕ → ℕ → ℕ → Option (List Step)
between b zero m n = one_step b m n (insn_at b m)
between b (suc k) m n = or_else (between b k m n) (joined (between b k m k) (between b k k n))

-- the steps of a path from the entry to a position
abbrev pub path_to : Body → ℕ → Option (List Step)
path_to b zero = Some []
path_to b (suc n) = between b (length b.insns) 0 (suc n)
