-- A step of a class that is being initialised, by numbers and by names.
use Rattle.std.proofs.Common.{◌≡◌, ℕ, zero, suc, ◌+◌, ◌-◌, ◌<◌, List, [], ◌∷◌, length, take, drop, ap, arith, refl, sym, subst, ◌∙◌, ◌⊎◌, inl, inr}
use Rattle.std.specs.Prelude.{Option, Some, None, Vec, slice_get}
use Rattle.std.specs.Option.{is_some, option_and_then, option_map}
use Rattle.std.specs.declared.alloc.Global.{Global}
use Rattle.program_model.specs.declared.program.Class.{Class}
use Rattle.name_bridge.proofs.Tables.{entry_at}
use Rattle.dalvik_defs.specs.Happens.{first_needed, initialises, Setting}
use Rattle.dalvik_defs.specs.Known.{no_class}
use Rattle.dalvik_defs.specs.Names.{Text}
use Rattle.dalvik_defs.specs.Outcome as name
use Rattle.dalvik_defs.specs.Stack.{goes_on, left_of, starts, throws_new}
use Rattle.dalvik_defs.specs.State.{Classes, World, Status, Next, quiet}
use Rattle.dalvik_defs.specs.declared.script.Move.{Move}
use Rattle.dalvik_defs.specs.declared.state.Waiting.{Waiting}
use Rattle.dalvik_defs.specs.declared.state.Waiting.TheVariants.{Initialiser}
use Rattle.dalvik_lookups.specs.Facing.{run_face}
use Rattle.dalvik_lookups.specs.Tables.{IsRight}
use Rattle.dalvik_lookups.specs.declared.lookups.Lookups.{Lookups}
use Rattle.dalvik_lookups.proofs.Facing.{right_face}
use Rattle.dalvik_state.specs.declared.state.State.{State}
use Rattle.dalvik_state.specs.declared.state.Status.{Status as OwnStatus}
use Rattle.dalvik_state.specs.declared.state.Status.TheVariants as status
use Rattle.dalvik_state.specs.declared.state.Waiting.TheVariants as waiting
use Rattle.dalvik_state.specs.Runs.{below_in, bodies_in, classes_in, need_in, stack_in, world_in}
use Rattle.dalvik_state.specs.States.{class_text, stack_of, status_at, status_of, AreClasses, IsRunning}
use Rattle.dalvik_state.specs.Views.{names_in}
use Rattle.dalvik_state.proofs.Running.{popped_named}
use Rattle.dalvik_steps.specs.declared.starting.Need.TheVariants as need
use Rattle.dalvik_steps.specs.Needs.{need_at}
use Rattle.dalvik_steps.proofs.Turning.{own_class, status_named, texts}

next_drop : (cs : List ℕ) (n c : ℕ) → slice_get cs n ≡ Some c → drop n cs ≡ c ∷ drop (suc n) cs
next_drop [] n c e = absurd (cc)
next_drop (x ∷ xs) zero c e = let same : x ≡ c = cc in ap (λ (y : ℕ). y ∷ xs) same
next_drop (x ∷ xs) (suc n) c e = next_drop xs n c e

-- by how far the first of the classes is that come before
pub initialises_at : (l : Lookups) (setting : Setting) (w : World) (classes : Classes) (c : Text) (above : List ℕ) (next first : ℕ) (s : Status) (rest : List Waiting) (script : List Move) → slice_get above next ≡ Some first → classes (class_text l.program.now first) ≡ s
    → initialises setting (bodies_in l) w classes c (texts l (drop next above)) rest script ≡ first_needed setting (bodies_in l) w classes c (class_text l.program.now first) (texts l (drop (suc next) above)) s rest script
initialises_at l setting w classes c above next first s rest script e h =
    ap (λ (cs : List ℕ). initialises setting (bodies_in l) w classes c (texts l cs) rest script) (next_drop above next first e)
    ∙ ap (λ (t : Status). first_needed setting (bodies_in l) w classes c (class_text l.program.now first) (texts l (drop (suc next) above)) t rest script) h

-- nothing comes before it
pub nothing_first : (cs : List ℕ) (n : ℕ) → slice_get cs n ≡ None → drop n cs ≡ []
nothing_first [] zero e = refl
nothing_first [] (suc n) e = refl
nothing_first (x ∷ xs) zero e = absurd (cc)
nothing_first (x ∷ xs) (suc n) e = nothing_first xs n e

-- a class and others
pub classes_with : (l : Lookups) (class : ℕ) (cs : List ℕ) → class < length l.program.now.classes → AreClasses l cs → AreClasses l (class ∷ cs)
classes_with l class cs low h = record { at = λ i c e. by i c e }
  where
    by : (i c : ℕ) → slice_get (class ∷ cs) i ≡ Some c → c < length l.program.now.classes
    by zero c e = let same : class ≡ c = cc in subst (λ (x : ℕ). x < length l.program.now.classes) same low
    by (suc i) c e = h.at i c e

-- ---- whether a class is ready

need_test : (l : Lookups) → IsRight l → (s : State) (class : ℕ) → class < length l.program.now.classes → need_in l s (class_text l.program.now class) ≡ name.need_at (status_of (status_at s.statuses.items class))
need_test l r s class low =
    let p = l.program.now in
    let k = entry_at p.classes class low in
    let flags = (right_face l r).flags (class_text p class)
    ∙ ap (λ (o : Option ℕ). option_map (λ (d : Class). d.flags.0) (option_and_then (slice_get p.classes) o)) (own_class l r class low)
    ∙ ap (option_map (λ (d : Class). d.flags.0)) k.1 in
    (λ i. name.need_if (is_some (flags i)) (status_named l r s.statuses.items class low i))

ready_by : (s : OwnStatus) → need_at s ≡ need.Ready → name.need_at (status_of s) ≡ name.Ready
ready_by status.New e = absurd (cc)
ready_by status.Running e = refl
ready_by status.Done e = refl
ready_by status.Failed e = absurd (cc)

fresh_by : (s : OwnStatus) → need_at s ≡ need.Fresh → name.need_at (status_of s) ≡ name.Fresh
fresh_by status.New e = refl
fresh_by status.Running e = absurd (cc)
fresh_by status.Done e = absurd (cc)
fresh_by status.Failed e = absurd (cc)

broken_by : (s : OwnStatus) → need_at s ≡ need.Broken → name.need_at (status_of s) ≡ name.Broken
broken_by status.New e = absurd (cc)
broken_by status.Running e = absurd (cc)
broken_by status.Done e = absurd (cc)
broken_by status.Failed e = refl

pub passed_by : (s : OwnStatus) → (s ≡ status.Running) ⊎ (s ≡ status.Done) → need_at s ≡ need.Ready
passed_by s (inl e) = ap need_at e
passed_by s (inr e) = ap need_at e

pub class_ready : (l : Lookups) → IsRight l → (s : State) (class : ℕ) → class < length l.program.now.classes → need_at (status_at s.statuses.items class) ≡ need.Ready → need_in l s (class_text l.program.now class) ≡ name.Ready
class_ready l r s class low e = need_test l r s class low ∙ ready_by (status_at s.statuses.items class) e

pub class_fresh : (l : Lookups) → IsRight l → (s : State) (class : ℕ) → class < length l.program.now.classes → need_at (status_at s.statuses.items class) ≡ need.Fresh → need_in l s (class_text l.program.now class) ≡ name.Fresh
class_fresh l r s class low e = need_test l r s class low ∙ fresh_by (status_at s.statuses.items class) e

pub class_broken : (l : Lookups) → IsRight l → (s : State) (class : ℕ) → class < length l.program.now.classes → need_at (status_at s.statuses.items class) ≡ need.Broken → need_in l s (class_text l.program.now class) ≡ name.Broken
class_broken l r s class low e = need_test l r s class low ∙ broken_by (status_at s.statuses.items class) e

-- ---- the first of the classes that come before one on top of the stack

pub first_there : (l : Lookups) (steps : ℕ) (s : State) (class : ℕ) (above : Vec ℕ Global) (next first : ℕ) → IsRunning l steps s → slice_get s.stack.items (length s.stack.items - 1) ≡ Some (waiting.Initialiser class above next) → slice_get above.items next ≡ Some first
    → first < length l.program.now.classes
first_there l steps s class above next first run there e =
    let are : AreClasses l (class ∷ above.items) = run.stack (length s.stack.items - 1) (waiting.Initialiser class above next) there in
    are.at (suc next) first e

module _ (l : Lookups) (setting : Setting) (face : setting.face ≡ run_face l) (old : State) (class : ℕ) (above : Vec ℕ Global) (next : ℕ) (moves script : List Move) (there : slice_get old.stack.items (length old.stack.items - 1) ≡ Some (waiting.Initialiser class above next)) where
  abbrev Looking : Next
  Looking = initialises setting (bodies_in l) (world_in l old) (classes_in l old) (class_text l.program.now class) (texts l (drop next above.items)) (below_in l moves old) script

  stacked : (first : ℕ) → slice_get above.items next ≡ Some first → Initialiser (class_text l.program.now class) (texts l (first ∷ drop (suc next) above.items)) ∷ below_in l moves old ≡ stack_in l moves old
  stacked first e =
      ap (λ (cs : List ℕ). Initialiser (class_text l.program.now class) (texts l cs) ∷ below_in l moves old) (sym (next_drop above.items next first e))
      ∙ sym (popped_named (names_in l) moves old.stack.items (waiting.Initialiser class above next) there)

  first_by : IsRight l → (first : ℕ) (s : OwnStatus) → first < length l.program.now.classes → slice_get above.items next ≡ Some first → status_at old.statuses.items first ≡ s
      → Looking ≡ first_needed setting (bodies_in l) (world_in l old) (classes_in l old) (class_text l.program.now class) (class_text l.program.now first) (texts l (drop (suc next) above.items)) (status_of s) (below_in l moves old) script
  first_by r first s low e is =
      initialises_at l setting (world_in l old) (classes_in l old) (class_text l.program.now class) above.items next first (status_of s) (below_in l moves old) script e (status_named l r old.statuses.items first low ∙ ap status_of is)

  -- it is new
  pub first_new : IsRight l → (first : ℕ) → first < length l.program.now.classes → slice_get above.items next ≡ Some first → status_at old.statuses.items first ≡ status.New
      → quiet (starts (run_face l) (bodies_in l) (world_in l old) (classes_in l old) (class_text l.program.now first) (stack_in l moves old) script) ≡ Looking
  first_new r first low e is =
      sym (first_by r first status.New low e is
      ∙ (λ i. quiet (starts (face i) (bodies_in l) (world_in l old) (classes_in l old) (class_text l.program.now first) (stacked first e i) script)))

  -- it has failed
  pub first_failed : IsRight l → (first : ℕ) → first < length l.program.now.classes → slice_get above.items next ≡ Some first → status_at old.statuses.items first ≡ status.Failed
      → throws_new (run_face l) (bodies_in l) (world_in l old) (classes_in l old) no_class (stack_in l moves old) script ≡ Looking
  first_failed r first low e is =
      sym (first_by r first status.Failed low e is
      ∙ (λ i. throws_new (face i) (bodies_in l) (world_in l old) (classes_in l old) no_class (stacked first e i) script))

  -- what goes on from a place on
  abbrev Going : ℕ → ℕ → Next
  Going from top = quiet (goes_on (run_face l) (bodies_in l) (world_in l old) (classes_in l old) (class_text l.program.now class) (left_of (classes_in l old) (texts l (drop from above.items))) (stack_of (names_in l) moves (take top old.stack.items)) script)

  -- it is running or done
  pub first_passed : IsRight l → (first top : ℕ) → first < length l.program.now.classes → slice_get above.items next ≡ Some first → need_at (status_at old.statuses.items first) ≡ need.Ready → top ≡ length old.stack.items - 1
      → Going (next + 1) top ≡ Looking
  first_passed r first top low e is at =
      let from : next + 1 ≡ suc next = omega arith in
      (λ i. Going (from i) (at i)) ∙ sym (by (status_at old.statuses.items first) refl is)
    where
      by : (s : OwnStatus) → status_at old.statuses.items first ≡ s → need_at s ≡ need.Ready → Looking ≡ Going (suc next) (length old.stack.items - 1)
      by status.New h n = absurd (cc)
      by status.Running h n = first_by r first status.Running low e h ∙ (λ i. quiet (goes_on (face i) (bodies_in l) (world_in l old) (classes_in l old) (class_text l.program.now class) (left_of (classes_in l old) (texts l (drop (suc next) above.items))) (below_in l moves old) script))
      by status.Done h n = first_by r first status.Done low e h ∙ (λ i. quiet (goes_on (face i) (bodies_in l) (world_in l old) (classes_in l old) (class_text l.program.now class) (left_of (classes_in l old) (texts l (drop (suc next) above.items))) (below_in l moves old) script))
      by status.Failed h n = absurd (cc)

  -- there is none
  pub none_first : (top : ℕ) → slice_get above.items next ≡ None → top ≡ length old.stack.items - 1 → Going (next + 0) top ≡ Looking
  none_first top e at =
      let from : next + 0 ≡ next = omega arith in
      let nothing = nothing_first above.items next e in
      (λ i. Going (from i) (at i))
      ∙ ap (λ (cs : List ℕ). quiet (goes_on (run_face l) (bodies_in l) (world_in l old) (classes_in l old) (class_text l.program.now class) (left_of (classes_in l old) (texts l cs)) (below_in l moves old) script)) nothing
      ∙ (λ i. quiet (goes_on (sym face i) (bodies_in l) (world_in l old) (classes_in l old) (class_text l.program.now class) [] (below_in l moves old) script))
      ∙ ap (λ (cs : List ℕ). initialises setting (bodies_in l) (world_in l old) (classes_in l old) (class_text l.program.now class) (texts l cs) (below_in l moves old) script) (sym nothing)
