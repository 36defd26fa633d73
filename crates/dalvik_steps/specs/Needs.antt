-- Which classes are ready where they are needed (this project's profile).
use Rattle.std.specs.Prelude.{ℕ, List, slice_index_or}
use Rattle.dalvik_state.specs.declared.state.Status.{Status}
use Rattle.dalvik_state.specs.declared.state.Status.TheVariants as status
use Rattle.dalvik_steps.specs.declared.starting.Need.{Need}
use Rattle.dalvik_steps.specs.declared.starting.Need.TheVariants as need
use Rattle.dalvik_steps.specs.declared.starting.Readied.{Readied}
use Rattle.dalvik_steps.specs.declared.starting.Readied.TheVariants as readied

-- how far the initialisation of a class is; one that there isn't is done
abbrev pub status_at : List Status → ℕ → Status
status_at statuses class = slice_index_or statuses class status.Done

-- a running or done class is no hindrance
abbrev pub need_at : Status → Need
need_at status.New = need.Fresh
need_at status.Running = need.Ready
need_at status.Done = need.Ready
need_at status.Failed = need.Broken

abbrev pub IsNoHindrance : Status → Type 0
IsNoHindrance status.New = ⊥
IsNoHindrance status.Running = Unit {0}
IsNoHindrance status.Done = Unit {0}
IsNoHindrance status.Failed = ⊥

-- what is ready was no hindrance
abbrev pub IsRight : Readied → Status → Type 0
IsRight readied.Ready s = IsNoHindrance s
IsRight readied.Started s = Unit {0}
IsRight (readied.Failed event) s = Unit {0}
