-- Where memory runs out nothing has been done.
use Rattle.std.proofs.Common.{◌≡◌, ℕ, ◌+◌, ◌≤◌, ◌^◌, Bool, true, false, List, length, map, drop, arith, ap, refl, sym, subst, ◌∙◌}
use Rattle.std.specs.Prelude.{◌<◌, slice_get, Option, Some}
use Rattle.dalvik_lookups.specs.declared.lookups.Lookups.{Lookups}
use Rattle.dalvik_lookups.specs.declared.memo.Memo.{Memo}
use Rattle.dalvik_lookups.specs.Walks.{IsKept}
use Rattle.program_model.specs.declared.pass.Outside.{Outside}
use Rattle.dalvik_defs.specs.Happens.{happens}
use Rattle.dalvik_defs.specs.Outcome.{Outcome}
use Rattle.dalvik_defs.specs.State.{On, Ended, State as NamedState, World as NamedWorld}
use Rattle.dalvik_defs.specs.declared.tables.Floats.{Floats}
use Rattle.dalvik_defs.specs.declared.script.Move.{Move}
use Rattle.dalvik_state.specs.declared.datum.Datum.{Datum}
use Rattle.dalvik_state.specs.declared.frame.Frame.{Frame}
use Rattle.dalvik_state.specs.declared.state.State.{State}
use Rattle.dalvik_state.specs.declared.world.Exposed.{Exposed}
use Rattle.dalvik_state.specs.declared.world.World.{World}
use Rattle.dalvik_state.specs.Runs.{bodies_in, comes_of, setting_in, world_in, IsRun, IsUndone, IsUndoneWith}
use Rattle.dalvik_state.specs.States.{below_top, classes_of, stack_of, state_of, top_frame, AreKinds, ArePlaced, IsRunning, IsSound}
use Rattle.dalvik_state.specs.Views.{exposed_of, frame_of, lock_in, names_in, static_in, things_from, world_of, AreFineLocks, AreFineSpots, IsFine, Names}
use Rattle.dalvik_state.specs.Worlds.{spot_of, spots_of, IsHeap, IsShort, Spot}
use Rattle.dalvik_state.proofs.Running.{AreHeld, ArePaced, AreSoundWaiting, running_held, running_of, running_paced, running_stack}
use Rattle.dalvik_steps.specs.Reaching.{IsReserved, IsStep, IsUnwritten, SameItems}

-- ---- worlds

pub items_self : (w : World) → SameItems w w
items_self w = record { heap = refl; fields = refl; statics = refl; locks = refl; exposed = refl }

pub items_on : (u v w : World) → SameItems u v → SameItems v w → SameItems u w
items_on u v w f g = record { heap = g.heap ∙ f.heap; fields = g.fields ∙ f.fields; statics = g.statics ∙ f.statics; locks = g.locks ∙ f.locks; exposed = g.exposed ∙ f.exposed }

pub items_heap : (old new : World) → IsHeap old new (spots_of old) → SameItems old new
items_heap old new h = record {
  heap = h.heap;
  fields = ap (λ m. m.entries) h.fields;
  statics = ap (λ v. v.items) h.statics;
  locks = ap (λ m. m.entries) h.locks;
  exposed = ap (λ v. v.items) h.exposed;
}

pub items_named : (n : Names) (old new : World) → SameItems old new → world_of n new ≡ world_of n old
items_named n old new h = λ i. record {
  heap = things_from n (h.fields i) 0 (h.heap i);
  locks = lock_in n (h.locks i);
  statics = static_in n (h.statics i);
  exposed = map exposed_of (h.exposed i);
}

pub items_sound : (l : Lookups) (old new : World) → SameItems old new → IsSound l old → IsSound l new
items_sound l old new h w =
    let n = names_in l in
    record {
      fine = record {
        arrays = subst (λ (ss : List Spot). AreFineSpots n (length ss) ss) (sym h.heap) w.fine.arrays;
        fields = λ i e g. subst (λ (ss : List Spot). IsFine n (length ss) e.1) (sym h.heap) (w.fine.fields i e (ap (λ es. slice_get es i) (sym h.fields) ∙ g));
        statics = λ i d g. subst (λ (ss : List Spot). IsFine n (length ss) d) (sym h.heap) (w.fine.statics i d (ap (λ ds. slice_get ds i) (sym h.statics) ∙ g));
        locks = subst (λ (ss : List Spot). AreFineLocks n (length ss) new.locks.entries) (sym h.heap) (subst (λ es. AreFineLocks n (length (spots_of old)) es) (sym h.locks) w.fine.locks);
      };
      kinds = subst (λ (ss : List Spot). AreKinds l ss) (sym h.heap) w.kinds;
      placed = subst (λ (ss : List Spot). ArePlaced ss new.exposed.items) (sym h.heap) (subst (λ (es : List Exposed). ArePlaced (spots_of old) es) (sym h.exposed) w.placed);
      written = record { at = λ i e g. subst (λ (ss : List Spot). e.0.0 < length ss) (sym h.heap) (w.written.at i e (ap (λ es. slice_get es i) (sym h.fields) ∙ g)) };
      short = subst IsShort (sym h.heap) w.short;
      statics = ap length h.statics ∙ w.statics;
    }

-- ---- states

pub reserved_self : (s : State) → IsReserved s s
reserved_self s = record { world = items_self s.world; stack = refl; statuses = refl; next = refl; ended = refl }

pub reserved_on : (s t u : State) → IsReserved s t → IsReserved t u → IsReserved s u
reserved_on s t u f g = record { world = items_on s.world t.world u.world f.world g.world; stack = g.stack ∙ f.stack; statuses = g.statuses ∙ f.statuses; next = g.next ∙ f.next; ended = g.ended ∙ f.ended }

pub reserved_world : (s : State) (w : World) → SameItems s.world w → IsReserved s (record s { world = w })
reserved_world s w h = record { world = h; stack = refl; statuses = refl; next = refl; ended = refl }

pub reserved_running : (l : Lookups) (steps : ℕ) (old new : State) → IsReserved old new → IsRunning l steps old → IsRunning l steps new
reserved_running l steps old new h r = running_of l steps new
    (items_sound l old.world new.world h.world r.world)
    (ap (λ v. length v.items) h.statuses ∙ r.classes)
    (subst (AreSoundWaiting l (length (spots_of new.world))) (sym h.stack) (subst (λ (ss : List Spot). AreSoundWaiting l (length ss) old.stack.items) (sym h.world.heap) (running_stack l steps old r)))
    (subst (ArePaced (2 ^ 32 + steps)) (sym h.stack) (running_paced l steps old r))
    (subst (AreHeld steps) (sym h.world.locks) (running_held l steps old r))

reserved_named : (n : Names) (script : List Move) (old new : State) → IsReserved old new → state_of n script new ≡ state_of n script old
reserved_named n script old new h =
    ap (λ (b : Bool). elim b as (λ b. NamedState) [ true ↦ Ended | false ↦ On (world_of n new.world) (classes_of n.program new.statuses.items) (stack_of n script new.stack.items) (drop new.next script) ]) h.ended
    ∙ ap (λ (s : NamedState). elim old.ended as (λ b. NamedState) [ true ↦ Ended | false ↦ s ]) (λ i. On (items_named n old.world new.world h.world i) (classes_of n.program (h.statuses i).items) (stack_of n script (h.stack i)) (drop (h.next i) script))

pub undone : (l : Lookups) (steps : ℕ) (old new : State) → IsReserved old new → IsRunning l steps old → old.ended ≡ false → IsUndone l steps old new
undone l steps old new h r on = record {
  state = λ script. reserved_named (names_in l) script old new h;
  running = reserved_running l steps old new h r;
  on = h.ended ∙ on;
}

pub undone_run : (l : Lookups) (m : Memo) (steps : ℕ) (old new : State) → IsReserved old new → IsRun l m steps old → IsUndoneWith l steps m old new
undone_run l m steps old new h r = record { undone = undone l steps old new h r.state r.on; kept = r.kept }

-- a run with a frame on top
pub step_of : (l : Lookups) (m : Memo) (steps : ℕ) (s : State) (f : Frame) → IsRun l m steps s → top_frame s.stack.items ≡ Some f → IsStep l steps s f
step_of l m steps s f r top = record { right = r.right; state = r.state; early = r.early; on = r.on; top = top }

-- ---- what comes of an outcome after room was taken

pub reserved_step : (l : Lookups) (steps : ℕ) (old new : State) (f : Frame) → IsReserved old new → IsStep l steps old f → IsStep l steps new f
reserved_step l steps old new f h s = record { right = s.right; state = reserved_running l steps old new h s.state; early = s.early; on = h.ended ∙ s.on; top = ap top_frame h.stack ∙ s.top }

pub reserved_comes : (l : Lookups) (o : Outside) (floats : Floats) (script : List Move) (old new : State) (f : Frame) → IsReserved old new → (g : NamedWorld → Outcome) → comes_of l o floats script new f (g (world_in l new)) ≡ comes_of l o floats script old f (g (world_in l old))
reserved_comes l o floats script old new f h g =
    let n = names_in l in
    let w = items_named n old.world new.world h.world in
    λ i. happens (setting_in l o floats) (bodies_in l) (g (w i)) (w i) (classes_of l.program.now (h.statuses i).items) (frame_of n f) (stack_of n script (below_top (h.stack i))) (drop (h.next i) script)

pub reserved_heap : (s : State) (w : World) → IsHeap s.world w (spots_of s.world) → IsReserved s (record s { world = w })
reserved_heap s w h = reserved_world s w (items_heap s.world w h)

pub items_unwritten : (old new : World) → IsUnwritten old new → SameItems old new
items_unwritten old new h = record {
  heap = ap (λ hs. map spot_of hs.items) h.heap;
  fields = h.fields;
  statics = ap (λ v. v.items) h.statics;
  locks = ap (λ m. m.entries) h.locks;
  exposed = ap (λ v. v.items) h.exposed;
}

pub reserved_unwritten : (s : State) (w : World) → IsUnwritten s.world w → IsReserved s (record s { world = w })
reserved_unwritten s w h = reserved_world s w (items_unwritten s.world w h)
