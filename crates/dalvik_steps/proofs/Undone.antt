-- Where memory runs out nothing has been done.
use Rattle.std.proofs.Common.{◌≡◌, ℕ, ◌+◌, ◌≤◌, Bool, true, false, List, length, map, arith, ap, refl, sym, subst, ◌∙◌}
use Rattle.std.specs.Prelude.{◌^◌, drop}
use Rattle.std.specs.Prelude.{Result, Ok, Err, OnErr}
use Rattle.dalvik_lookups.specs.declared.lookups.Lookups.{Lookups}
use Rattle.dalvik_defs.specs.State.{On, Ended, State as NamedState}
use Rattle.dalvik_defs.specs.declared.script.Move.{Move}
use Rattle.dalvik_state.specs.declared.state.State.{State}
use Rattle.dalvik_state.specs.declared.world.World.{World}
use Rattle.dalvik_state.specs.Runs.{IsUndone}
use Rattle.dalvik_state.specs.States.{classes_of, stack_of, state_of, IsRunning, IsSound}
use Rattle.dalvik_state.specs.Views.{Names, exposed_of, lock_in, names_in, static_in, things_from, world_of}
use Rattle.dalvik_state.specs.Worlds.{spots_of}
use Rattle.dalvik_state.proofs.Running.{AreHeld, ArePaced, AreSoundWaiting, running_held, running_of, running_paced, running_stack, stack_more}
use Rattle.dalvik_state.proofs.Sound.{shapes_same, sound_exposed}
use Rattle.dalvik_steps.specs.Turns.{IsAsItWas, IsReserved}

pub sound_same : (l : Lookups) (old new : World) → IsAsItWas old new → IsSound l old → IsSound l new
sound_same l old new h w = sound_exposed l old new (spots_of old) old.exposed.items h (shapes_same (spots_of old)) w.placed w

pub world_same : (n : Names) (old new : World) → IsAsItWas old new → world_of n new ≡ world_of n old
world_same n old new h = λ i. record {
  heap = things_from n (h.fields i).entries 0 (h.heap i);
  locks = lock_in n (h.locks i).entries;
  statics = static_in n (h.statics i).items;
  exposed = map exposed_of (h.exposed i);
}

pub running_same : (l : Lookups) (steps : ℕ) (old new : State) → IsRunning l steps old → IsReserved old new → IsRunning l steps new
running_same l steps old new r h =
    let size : length (spots_of new.world) ≡ length (spots_of old.world) = ap length h.world.heap in
    let more : length (spots_of old.world) ≤ length (spots_of new.world) = omega (arith, size) in
    running_of l steps new (sound_same l old.world new.world h.world r.world) (ap length h.statuses ∙ r.classes)
    (subst (AreSoundWaiting l (length (spots_of new.world))) (sym h.stack) (stack_more l (length (spots_of old.world)) (length (spots_of new.world)) old.stack.items more (running_stack l steps old r)))
    (subst (ArePaced (2 ^ 32 + steps)) (sym h.stack) (running_paced l steps old r))
    (subst (λ m. AreHeld steps m.entries) (sym h.world.locks) (running_held l steps old r))

pub state_same : (n : Names) (script : List Move) (old new : State) → IsReserved old new → state_of n script new ≡ state_of n script old
state_same n script old new h =
    ap (λ (b : Bool). elim b as (λ b. NamedState) [ true ↦ Ended | false ↦ On (world_of n new.world) (classes_of n.program new.statuses.items) (stack_of n script new.stack.items) (drop new.next script) ]) h.ended
    ∙ ap (λ (s : NamedState). elim old.ended as (λ b. NamedState) [ true ↦ Ended | false ↦ s ]) (λ i. On (world_same n old.world new.world h.world i) (classes_of n.program (h.statuses i)) (stack_of n script (h.stack i)) (drop (h.next i) script))

pub undone : (l : Lookups) (steps : ℕ) (old new : State) → IsRunning l steps old → old.ended ≡ false → IsReserved old new → IsUndone l steps old new
undone l steps old new r e h = record { state = λ script. state_same (names_in l) script old new h; running = running_same l steps old new r h; on = h.ended ∙ e }

-- nothing at all has changed
pub reserved_self : (s : State) → IsReserved s s
reserved_self s = record { world = record { heap = refl; fields = refl; statics = refl; locks = refl; exposed = refl }; statuses = refl; stack = refl; next = refl; ended = refl }

pub undone_self : (l : Lookups) (steps : ℕ) (s : State) → IsRunning l steps s → s.ended ≡ false → IsUndone l steps s s
undone_self l steps s r e = undone l steps s s r e (reserved_self s)

-- only what there is room for has changed in the world
pub reserved_world : (s : State) (w : World) → IsAsItWas s.world w → IsReserved s (record s { world = w })
reserved_world s w h = record { world = h; statuses = refl; stack = refl; next = refl; ended = refl }

pub undone_world : (l : Lookups) (steps : ℕ) (s : State) (w : World) → IsAsItWas s.world w → IsRunning l steps s → s.ended ≡ false → IsUndone l steps s (record s { world = w })
undone_world l steps s w h r e = undone l steps s (record s { world = w }) r e (reserved_world s w h)

-- what holds anyway holds after an error
pub on_err : {X Y : Type 0} (r : Result X Y) (P : Type 0) → P → OnErr r P
on_err (Ok x) P p = tt
on_err (Err e) P p = p
