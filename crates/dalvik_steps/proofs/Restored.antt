-- A class whose status is set, and set back where memory runs out.
use Rattle.std.proofs.Common.{◌≡◌, ℕ, zero, suc, ◌+◌, List, [], ◌∷◌, length, ap, refl, sym, subst, ◌∙◌}
use Rattle.std.specs.Prelude.{◌^◌, slice_index_or, slice_set}
use Rattle.dalvik_lookups.specs.declared.lookups.Lookups.{Lookups}
use Rattle.dalvik_state.specs.declared.state.State.{State}
use Rattle.dalvik_state.specs.declared.state.Status.{Status}
use Rattle.dalvik_state.specs.declared.state.Status.TheVariants as status
use Rattle.dalvik_state.specs.declared.world.World.{World}
use Rattle.dalvik_state.specs.States.{IsRunning, IsSound}
use Rattle.dalvik_state.specs.Worlds.{spots_of}
use Rattle.dalvik_state.proofs.Running.{AreHeld, ArePaced, AreSoundWaiting, running_held, running_of, running_paced, running_stack}
use Rattle.dalvik_steps.specs.Turns.{IsAsItWas, IsReserved}
use Rattle.dalvik_steps.proofs.Turning.{put_back}

set_long : (xs : List Status) (i : ℕ) (s : Status) → length (slice_set xs i s) ≡ length xs
set_long [] i s = refl
set_long (x ∷ xs) zero s = refl
set_long (x ∷ xs) (suc i) s = ap suc (set_long xs i s)

-- a run goes on where only the status of a class has changed
pub running_set : (l : Lookups) (steps class : ℕ) (s : Status) (old new : State) → IsRunning l steps old → new.world ≡ old.world → new.stack ≡ old.stack → new.statuses.items ≡ slice_set old.statuses.items class s → IsRunning l steps new
running_set l steps class s old new run w st e = running_of l steps new (subst (IsSound l) (sym w) run.world) (ap length e ∙ set_long old.statuses.items class s ∙ run.classes)
    (subst (λ (u : World). AreSoundWaiting l (length (spots_of u)) new.stack.items) (sym w) (subst (λ v. AreSoundWaiting l (length (spots_of old.world)) v.items) (sym st) (running_stack l steps old run)))
    (subst (λ v. ArePaced (2 ^ 32 + steps) v.items) (sym st) (running_paced l steps old run))
    (subst (λ (u : World). AreHeld steps u.locks.entries) (sym w) (running_held l steps old run))

-- it is set, nothing else is done, and it is set back
pub restored : (old set tried new : State) (class : ℕ) (s : Status) → set.world ≡ old.world → set.stack ≡ old.stack → set.next ≡ old.next → set.ended ≡ old.ended → set.statuses.items ≡ slice_set old.statuses.items class s → IsReserved set tried
    → new.world ≡ tried.world → new.stack ≡ tried.stack → new.next ≡ tried.next → new.ended ≡ tried.ended → new.statuses.items ≡ slice_set tried.statuses.items class (slice_index_or old.statuses.items class status.Done) → IsReserved old new
restored old set tried new class s w st n e ss h w' st' n' e' ss' = record {
  world = subst (λ (u : World). IsAsItWas old.world u) (sym w') (subst (λ (u : World). IsAsItWas u tried.world) w h.world);
  statuses = ss' ∙ ap (λ (xs : List Status). slice_set xs class (slice_index_or old.statuses.items class status.Done)) (h.statuses ∙ ss) ∙ put_back old.statuses.items class s;
  stack = ap (λ v. v.items) st' ∙ h.stack ∙ ap (λ v. v.items) st;
  next = n' ∙ h.next ∙ n;
  ended = e' ∙ h.ended ∙ e;
}
