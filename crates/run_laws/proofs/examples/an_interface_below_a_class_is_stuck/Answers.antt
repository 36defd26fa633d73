use Rattle.std.proofs.Common.{◌≡◌, Bool, true, false, true≢false, ◌⊎◌, inl, inr, refl, sym, ap}
use Rattle.dalvik_defs.specs.Face.{bodies_of}
use Rattle.dalvik_defs.specs.State.{State, Ended}
use Rattle.dalvik_defs.specs.Step.{step, after}
use Rattle.dalvik_defs.specs.MayGo.{may_go}
use Rattle.run_laws.specs.Examples.{alone, enters_m, interface_below}
use Rattle.run_laws.proofs.examples.an_interface_below_a_class_is_stuck.Goals as goal

-- the state in which the field is read
abbrev last : State
last = after (alone interface_below) (bodies_of interface_below) enters_m 9

abbrev has_ended : State → Bool
has_ended Ended = true
has_ended t = false

pub returns-clause-typed : goal.returns-clause-typed
returns-clause-typed c = record { long = refl; entry = refl; reads = refl; right = refl; edges = refl }

pub returns-clause-stuck : goal.returns-clause-stuck
returns-clause-stuck c never = by (never 9)
  where
    by : (last ≡ Ended) ⊎ ((step (alone interface_below) (bodies_of interface_below) last).0 ≡ Ended → may_go (alone interface_below) last ≡ false) → ⊥
    by (inl e) = true≢false (sym (ap has_ended e))
    by (inr h) = true≢false (h refl)
