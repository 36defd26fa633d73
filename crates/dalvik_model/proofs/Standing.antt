-- What a step of a run is by names, by what is on top of its stack.
use Rattle.std.proofs.Common.{◌≡◌, ℕ, zero, suc, ◌+◌, ◌-◌, ◌<◌, Bool, true, false, List, [], ◌∷◌, length, arith, ap, refl, sym, subst, ◌∙◌, Result, Ok, Err}
use Rattle.std.specs.Prelude.{◌^◌, drop, IfOk, OnErr, Option, Some, None, Vec, slice_get}
use Rattle.std.specs.Option.{option_and_then}
use Rattle.std.specs.declared.alloc.AllocError.{AllocError}
use Rattle.std.specs.declared.alloc.Global.{Global}
use Rattle.dalvik_defs.specs.Face.{Bodies, bodies_of}
use Rattle.dalvik_defs.specs.Happens.{Setting}
use Rattle.dalvik_defs.specs.Naming.{named}
use Rattle.dalvik_defs.specs.Outer.{outer_of}
use Rattle.dalvik_defs.specs.Stack.{ends}
use Rattle.dalvik_defs.specs.State.{On, Ended, State as NamedState, opening, quiet}
use Rattle.dalvik_defs.specs.Step.{setting_of, step}
use Rattle.dalvik_defs.specs.declared.events.Event.{Event}
use Rattle.dalvik_defs.specs.declared.script.Move.{Move}
use Rattle.dalvik_defs.specs.declared.state.Waiting.{Waiting}
use Rattle.dalvik_lookups.specs.declared.lookups.Lookups.{Lookups}
use Rattle.dalvik_lookups.specs.declared.memo.Memo.{Memo}
use Rattle.dalvik_lookups.specs.declared.types.Kind.{Kind}
use Rattle.dalvik_lookups.specs.Accepting.{IsAccepted}
use Rattle.dalvik_lookups.specs.Facing.{run_face}
use Rattle.dalvik_state.specs.Runs.{below_in, bodies_in, classes_in, script_in, setting_in, world_in, IsLeft, IsNext, IsRun, IsUndone, IsUndoneWith}
use Rattle.dalvik_state.specs.States.{below_top, class_text, classes_of, frame_in, stack_of, state_of, top_frame, waiting_of}
use Rattle.dalvik_state.specs.Views.{names_in, world_of, Names}
use Rattle.dalvik_state.specs.Worlds.{spots_of}
use Rattle.dalvik_state.specs.declared.frame.Frame.{Frame}
use Rattle.dalvik_state.specs.declared.state.State.{State}
use Rattle.dalvik_state.specs.declared.state.Tables.{Tables}
use Rattle.dalvik_state.specs.declared.state.Waiting.{Waiting as OwnWaiting}
use Rattle.dalvik_state.specs.declared.state.Waiting.TheVariants as waiting
use Rattle.dalvik_state.proofs.Running.{popped_named, top_sound}
use Rattle.dalvik_steps.specs.Backs.{last_of}
use Rattle.dalvik_model.specs.Doing.{NamesNext}
use Rattle.array_law.specs.Making.{MakesArray}
use Rattle.dalvik_model.specs.Standing.{bodies_for, setting_for, top_by, top_in, AreTablesOf, Begins, IsAtNext, IsRunOf, IsStepped, Runs, RunsNext, Subject}
use Rattle.dalvik_model.specs.declared.machine.Parts.{Parts}
use Rattle.dalvik_model.specs.declared.machine.Top.TheVariants as tops
use Rattle.dalvik_model.proofs.Making.{names_next}

-- ---- the setting

same_setting : (s : Subject) (t : Tables) → AreTablesOf s t → setting_in t.lookups s.outside s.floats ≡ setting_for s
same_setting s t h = λ i. setting_of (named (h.program i)) (outer_of (h.program i) s.outside) (h.framework i) s.floats

same_bodies : (s : Subject) (t : Tables) → AreTablesOf s t → bodies_in t.lookups ≡ bodies_for s
same_bodies s t h = λ i. bodies_of (named (h.program i))

-- ---- what is on top

-- an entry on top of a run that hasn't ended
pub record IsTop (s : State) (w : OwnWaiting) : Type 0 where
  pub on : s.ended ≡ false
  pub there : last_of s.stack.items ≡ Some w

pub record IsMethodTop (s : State) : Type 0 where
  pub frame : Frame
  pub stands : IsTop s (waiting.Method frame)

pub record IsInitialiserTop (s : State) : Type 0 where
  pub class : ℕ
  pub above : Vec ℕ Global
  pub next : ℕ
  pub stands : IsTop s (waiting.Initialiser class above next)

pub method_top : (s : State) → top_in s ≡ tops.Method → IsMethodTop s
method_top s e = by s.ended refl (last_of s.stack.items) refl e
  where
    by : (b : Bool) → s.ended ≡ b → (o : Option OwnWaiting) → last_of s.stack.items ≡ o → top_by b o ≡ tops.Method → IsMethodTop s
    by true on o there e = absurd (cc)
    by false on None there e = absurd (cc)
    by false on (Some (waiting.Method f)) there e = record { frame = f; stands = record { on = on; there = there } }
    by false on (Some (waiting.Initialiser class above next)) there e = absurd (cc)
    by false on (Some (waiting.Ending class)) there e = absurd (cc)
    by false on (Some (waiting.Outside owes pending)) there e = absurd (cc)

pub initialiser_top : (s : State) → top_in s ≡ tops.Initialiser → IsInitialiserTop s
initialiser_top s e = by s.ended refl (last_of s.stack.items) refl e
  where
    by : (b : Bool) → s.ended ≡ b → (o : Option OwnWaiting) → last_of s.stack.items ≡ o → top_by b o ≡ tops.Initialiser → IsInitialiserTop s
    by true on o there e = absurd (cc)
    by false on None there e = absurd (cc)
    by false on (Some (waiting.Method f)) there e = absurd (cc)
    by false on (Some (waiting.Initialiser class above next)) there e = record { class = class; above = above; next = next; stands = record { on = on; there = there } }
    by false on (Some (waiting.Ending class)) there e = absurd (cc)
    by false on (Some (waiting.Outside owes pending)) there e = absurd (cc)

pub ending_top : (s : State) (class : ℕ) → top_in s ≡ tops.Ending class → IsTop s (waiting.Ending class)
ending_top s class e = by s.ended refl (last_of s.stack.items) refl e
  where
    by : (b : Bool) → s.ended ≡ b → (o : Option OwnWaiting) → last_of s.stack.items ≡ o → top_by b o ≡ tops.Ending class → IsTop s (waiting.Ending class)
    by true on o there e = absurd (cc)
    by false on None there e = absurd (cc)
    by false on (Some (waiting.Method f)) there e = absurd (cc)
    by false on (Some (waiting.Initialiser other above next)) there e = absurd (cc)
    by false on (Some (waiting.Ending other)) there e = (let same : other ≡ class = cc in record { on = on; there = there ∙ ap (λ (c : ℕ). Some (waiting.Ending c)) same })
    by false on (Some (waiting.Outside owes pending)) there e = absurd (cc)

pub outside_top : (s : State) (owes : Option Kind) (pending : Option ℕ) → top_in s ≡ tops.Outside owes pending → IsTop s (waiting.Outside owes pending)
outside_top s owes pending e = by s.ended refl (last_of s.stack.items) refl e
  where
    by : (b : Bool) → s.ended ≡ b → (o : Option OwnWaiting) → last_of s.stack.items ≡ o → top_by b o ≡ tops.Outside owes pending → IsTop s (waiting.Outside owes pending)
    by true on o there e = absurd (cc)
    by false on None there e = absurd (cc)
    by false on (Some (waiting.Method f)) there e = absurd (cc)
    by false on (Some (waiting.Initialiser class above next)) there e = absurd (cc)
    by false on (Some (waiting.Ending class)) there e = absurd (cc)
    by false on (Some (waiting.Outside other place)) there e = (let same : other ≡ owes = cc in let at : place ≡ pending = cc in record { on = on; there = there ∙ (λ i. Some (waiting.Outside (same i) (at i))) })

-- nothing is on top where the run has ended or the stack is empty
got_there : (xs : List OwnWaiting) (i : ℕ) → i < length xs → slice_get xs i ≡ None → ⊥
got_there [] i h e = absurd (omega (arith, h))
got_there (x ∷ xs) zero h e = absurd (cc)
got_there (x ∷ xs) (suc i) h e = got_there xs i (omega (arith, h)) e

no_last : (xs : List OwnWaiting) → last_of xs ≡ None → xs ≡ []
no_last [] e = refl
no_last (x ∷ xs) e = absurd (got_there (x ∷ xs) (length (x ∷ xs) - 1) (omega arith) e)

abbrev state_by : Names → List Move → State → Bool → List Waiting → NamedState
state_by n script s ended stack = elim ended as (λ b. NamedState) [ true ↦ Ended | false ↦ On (world_of n s.world) (classes_of n.program s.statuses.items) stack (drop s.next script) ]

pub nothing_top : (to : Setting) (find : Bodies) (n : Names) (script : List Move) (s : State) → top_in s ≡ tops.Nothing → step to find (state_of n script s) ≡ quiet Ended
nothing_top to find n script s e = by s.ended refl (last_of s.stack.items) refl e
  where
    by : (b : Bool) → s.ended ≡ b → (o : Option OwnWaiting) → last_of s.stack.items ≡ o → top_by b o ≡ tops.Nothing → step to find (state_of n script s) ≡ quiet Ended
    by true on o there e = ap (λ (b : Bool). step to find (state_by n script s b (stack_of n script s.stack.items))) on
    by false on None there e = (let none = no_last s.stack.items there in λ i. step to find (state_by n script s (on i) (stack_of n script (none i))))
    by false on (Some (waiting.Method f)) there e = absurd (cc)
    by false on (Some (waiting.Initialiser class above next)) there e = absurd (cc)
    by false on (Some (waiting.Ending class)) there e = absurd (cc)
    by false on (Some (waiting.Outside owes pending)) there e = absurd (cc)

-- a state that goes on, by its last entry
on_top : (n : Names) (script : List Move) (s : State) (w : OwnWaiting) → s.ended ≡ false → last_of s.stack.items ≡ Some w
    → state_of n script s ≡ On (world_of n s.world) (classes_of n.program s.statuses.items) (waiting_of n script w ∷ stack_of n script (below_top s.stack.items)) (drop s.next script)
on_top n script s w on top =
    ap (λ (b : Bool). elim b as (λ b. NamedState) [ true ↦ Ended | false ↦ On (world_of n s.world) (classes_of n.program s.statuses.items) (stack_of n script s.stack.items) (drop s.next script) ]) on
    ∙ ap (λ (ws : List Waiting). On (world_of n s.world) (classes_of n.program s.statuses.items) ws (drop s.next script)) (popped_named n script s.stack.items w top)

module _ (s : Subject) (steps : ℕ) (p : Parts) (from : NamedState) (h : IsRunOf s steps p from) where
  abbrev l : Lookups
  l = p.tables.lookups

  abbrev Steps : Memo → State → Option Event → NamedState → Type 0
  Steps m new e to = IsNext l steps s.script m new e (step (setting_in l s.outside s.floats) (bodies_in l) to)

  pub is_run : p.state.ended ≡ false → steps < 2 ^ 32 → IsRun l p.memo steps p.state
  is_run on early = record { right = h.tables.right; kept = h.kept; state = h.running on; early = early; on = on }

  -- a frame that is on top
  pub frame_top : (f : Frame) → IsTop p.state (waiting.Method f) → top_frame p.state.stack.items ≡ Some f
  frame_top f t = ap (option_and_then frame_in) t.there

  -- a step by the tables is one of the program
  pub stepped : (m : Memo) (new : State) (e : Option Event) → Steps m new e (state_of (names_in l) s.script p.state) → IsStepped s steps (record p { memo = m; state = new }) e from
  stepped m new e next =
      let same : step (setting_in l s.outside s.floats) (bodies_in l) (state_of (names_in l) s.script p.state) ≡ step (setting_for s) (bodies_for s) from =
      λ i. step (same_setting s p.tables h.tables i) (same_bodies s p.tables h.tables i) (h.state i) in
      let is = subst (IsNext l steps s.script m new e) same next in
      record {
        run = record { tables = h.tables; kept = is.kept; state = is.event.left.state; running = is.event.left.running };
        shown = is.event.shown;
      }

  -- of what is on top
  pub stepped_on : (w : OwnWaiting) → p.state.ended ≡ false → last_of p.state.stack.items ≡ Some w → (m : Memo) (new : State) (r : Result (Option Event) AllocError)
      → IfOk r (λ (e : Option Event). Steps m new e (On (world_in l p.state) (classes_in l p.state) (waiting_of (names_in l) s.script w ∷ below_in l s.script p.state) (script_in s.script p.state)))
      → IfOk r (λ (e : Option Event). IsStepped s steps (record p { memo = m; state = new }) e from)
  stepped_on w on top m new (Ok e) next = stepped m new e (subst (Steps m new e) (sym (on_top (names_in l) s.script p.state w on top)) next)
  stepped_on w on top m new (Err x) next = next

  -- where memory runs out the run is as it was
  pub unstepped : (m : Memo) (new : State) (r : Result (Option Event) AllocError) → OnErr r (IsUndoneWith l steps m p.state new) → OnErr r (IsRunOf s steps (record p { memo = m; state = new }) from)
  unstepped m new (Ok e) u = u
  unstepped m new (Err x) u = record { tables = h.tables; kept = u.kept; state = u.undone.state s.script ∙ h.state; running = λ on. u.undone.running }

  -- the frame on top names the type of an array where it makes one
  pub next_of : (f : Frame) → p.state.ended ≡ false → last_of p.state.stack.items ≡ Some (waiting.Method f) → MakesArray (bodies_for s) from → NamesNext l.program.now f
  next_of f on top makes =
      let there : from ≡ On (world_in l p.state) (classes_in l p.state) (waiting_of (names_in l) s.script (waiting.Method f) ∷ below_in l s.script p.state) (script_in s.script p.state) = sym h.state ∙ on_top (names_in l) s.script p.state (waiting.Method f) on top in
      let form = subst (λ (find : Bodies). MakesArray find (On (world_in l p.state) (classes_in l p.state) (waiting_of (names_in l) s.script (waiting.Method f) ∷ below_in l s.script p.state) (script_in s.script p.state))) (sym (same_bodies s p.tables h.tables)) (subst (MakesArray (bodies_for s)) there makes) in
      names_next l h.tables.right (length (spots_of p.state.world)) f (top_sound l steps p.state f (h.running on) (ap (option_and_then frame_in) top)) form

  -- nothing is on top: the run ends
  pub stepped_over : (new : State) → top_in p.state ≡ tops.Nothing → new ≡ record p.state { ended = true } → IsStepped s steps (record p { state = new }) None from
  stepped_over new none is =
      let over : IsNext l steps s.script p.memo (record p.state { ended = true }) None (quiet Ended) = record {
        event = record { left = record { state = refl; running = λ on. absurd (cc) }; shown = refl };
        kept = h.kept;
      } in
      stepped p.memo new None (subst (λ (x : State). Steps p.memo x None (state_of (names_in l) s.script p.state)) (sym is)
      (subst (IsNext l steps s.script p.memo (record p.state { ended = true }) None) (sym (nothing_top (setting_in l s.outside s.floats) (bodies_in l) (names_in l) s.script p.state none)) over))

  -- a class on top stands in the table
  pub class_low : (class : ℕ) → IsTop p.state (waiting.Ending class) → class < length l.program.now.classes
  class_low class t = let r = h.running t.on in (r.stack (length p.state.stack.items - 1) (waiting.Ending class) t.there).at 0 class refl

  -- a class ends
  pub stepped_end : (class : ℕ) (new : State) → IsTop p.state (waiting.Ending class) → IsLeft l steps s.script new (ends (run_face l) (bodies_in l) (world_in l p.state) (classes_in l p.state) (class_text l.program.now class) (below_in l s.script p.state) (script_in s.script p.state))
      → IsStepped s steps (record p { state = new }) None from
  stepped_end class new t left = stepped_on (waiting.Ending class) t.on t.there p.memo new (Ok None) (record { event = record { left = left; shown = refl }; kept = h.kept })

  -- where memory runs out and nothing else was remembered
  pub unstepped_end : (new : State) → IsUndone l steps p.state new → IsRunOf s steps (record p { state = new }) from
  unstepped_end new u = record { tables = h.tables; kept = h.kept; state = u.state s.script ∙ h.state; running = λ on. u.running }

-- ---- machines

pub next_at : (s : Subject) (steps : ℕ) (run : Option Parts) (e : Option Event) (from : NamedState) → RunsNext s steps run e from → IsAtNext s (record { steps = steps + 1; run = run }) e from
next_at s steps None e from h = absurd h
next_at s steps (Some p) e from h = record { at = record { run = h.run }; shown = h.shown }

-- by results
pub begun : (s : Subject) → IsAccepted s.program → (r : Result Parts AllocError) → IfOk r (λ (p : Parts). IsRunOf s 0 p (opening s.script)) → IfOk r (λ (p : Parts). Begins s (Some p))
begun s a (Ok p) h = (a, h)
begun s a (Err x) h = h

pub begins_at : (s : Subject) (run : Option Parts) → IsAccepted s.program → Begins s run → Runs s 0 run (opening s.script)
begins_at s None a h = h a
begins_at s (Some p) a h = h.1

pub begins_idle : (s : Subject) (run : Option Parts) → (IsAccepted s.program → ⊥) → Begins s run → run ≡ None
begins_idle s None refused h = refl
begins_idle s (Some p) refused h = absurd (refused h.0)
