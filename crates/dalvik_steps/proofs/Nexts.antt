-- What a result says of a step, where look-ups are kept too.
use Rattle.std.proofs.Common.{◌≡◌, ℕ, List, Ok, Err, Option, Result}
use Rattle.std.specs.Prelude.{IfOk, OnErr, OnOk}
use Rattle.std.specs.declared.alloc.AllocError.{AllocError}
use Rattle.dalvik_defs.specs.State.{Next}
use Rattle.dalvik_defs.specs.declared.events.Event.{Event}
use Rattle.dalvik_defs.specs.declared.script.Move.{Move}
use Rattle.dalvik_lookups.specs.Walks.{IsKept}
use Rattle.dalvik_lookups.specs.declared.lookups.Lookups.{Lookups}
use Rattle.dalvik_lookups.specs.declared.memo.Memo.{Memo}
use Rattle.dalvik_state.specs.declared.state.State.{State}
use Rattle.dalvik_state.specs.Runs.{IsEvent, IsNext, IsRun, IsUndoneWith}
use Rattle.dalvik_steps.specs.Reaching.{IsReserved}
use Rattle.dalvik_steps.proofs.Reserved.{undone_run}

pub next_of : (l : Lookups) (steps : ℕ) (script : List Move) (m : Memo) (s : State) (to : Next) (result : Result (Option Event) AllocError) → IsKept l m → IfOk result (λ (e : Option Event). IsEvent l steps script s e to) → IfOk result (λ (e : Option Event). IsNext l steps script m s e to)
next_of l steps script m s to (Ok e) k h = record { event = h; kept = k }
next_of l steps script m s to (Err x) k h = h

pub undone_of : (l : Lookups) (m : Memo) (steps : ℕ) (old new : State) (result : Result (Option Event) AllocError) → IsRun l m steps old → OnErr result (IsReserved old new) → OnErr result (IsUndoneWith l steps m old new)
undone_of l m steps old new (Ok e) r h = h
undone_of l m steps old new (Err x) r h = undone_run l m steps old new h r

pub err_of : {X E : Type 0} (result : Result X E) (P : Type 0) → P → OnErr result P
err_of (Ok x) P p = tt
err_of (Err x) P p = p
