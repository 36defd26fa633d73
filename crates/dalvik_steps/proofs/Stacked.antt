-- What a class's turn and a class that waits leave of a run.
use Rattle.std.proofs.Common.{◌≡◌, ℕ, zero, suc, ◌+◌, ◌-◌, ◌<◌, ◌≤◌, Bool, true, false, true≢false, List, [], ◌∷◌, ◌++◌, length, map, take, drop, min, inl, inr, arith, ap, refl, sym, subst, ◌∙◌}
use Rattle.std.specs.Prelude.{◌^◌, Option, Some, None, Vec, slice_get, slice_set}
use Rattle.std.specs.declared.alloc.Global.{Global}
use Rattle.std.proofs.lemmas.Bool.{cases_lt}
use Rattle.dalvik_defs.specs.Names.{Text}
use Rattle.dalvik_defs.specs.Stack.{goes_on, left_of, resumes, runs}
use Rattle.dalvik_defs.specs.State.{Classes, On, State as NamedState, World as NamedWorld}
use Rattle.dalvik_defs.specs.declared.names.MethodKey.{MethodKey}
use Rattle.dalvik_defs.specs.declared.script.Move.{Move}
use Rattle.dalvik_defs.specs.declared.state.Waiting.{Waiting as NamedWaiting}
use Rattle.dalvik_defs.specs.declared.state.Waiting.TheVariants.{Ending, Initialiser}
use Rattle.dalvik_lookups.specs.Facing.{run_face}
use Rattle.dalvik_lookups.specs.Tables.{IsRight}
use Rattle.dalvik_lookups.specs.declared.lookups.Lookups.{Lookups}
use Rattle.dalvik_state.specs.declared.frame.Frame.{Frame}
use Rattle.dalvik_state.specs.declared.state.State.{State}
use Rattle.dalvik_state.specs.declared.state.Status.{Status}
use Rattle.dalvik_state.specs.declared.state.Waiting.{Waiting}
use Rattle.dalvik_state.specs.declared.state.Waiting.TheVariants as waiting
use Rattle.dalvik_state.specs.declared.world.World.{World}
use Rattle.dalvik_state.specs.Runs.{bodies_in, classes_in, script_in, stack_in, world_in, IsLeft}
use Rattle.dalvik_state.specs.States.{below_top, class_text, classes_of, stack_of, waiting_of, AreClasses, IsRunning, IsSound, KeepsRest}
use Rattle.dalvik_state.specs.Views.{names_in, world_of}
use Rattle.dalvik_state.specs.Worlds.{spots_of}
use Rattle.dalvik_state.proofs.Running.{AreHeld, ArePaced, AreSoundWaiting, paced_below, paced_more, paced_pushed, popped_named, pushed_named, running_held, running_more, running_of, running_paced, running_stack, sound_below, sound_pushed}
use Rattle.dalvik_steps.specs.Backs.{last_of}
use Rattle.dalvik_steps.specs.Turns.{is_initialiser, left_in, turn_entries, HasNoTurn, IsLook, IsTurn, LeftAt, Looks}
use Rattle.dalvik_steps.proofs.Handing.{no_running, nothing_last, state_on, state_over}
use Rattle.dalvik_steps.proofs.Taking.{not_entered}
use Rattle.dalvik_steps.proofs.Turning.{classes_drop, has_more, left_named, nothing_more, texts, turn_paced, turn_sound, turn_stack, waits_named}

module _ (l : Lookups) (r : IsRight l) (steps : ℕ) (script : List Move) (old : State) (run : IsRunning l steps old) (on : old.ended ≡ false) where
  -- only the stack has changed
  pub stack_left : (new : State) → KeepsRest old new → AreSoundWaiting l (length (spots_of old.world)) new.stack.items → ArePaced (2 ^ 32 + steps) new.stack.items → IsLeft l steps script new (On (world_in l old) (classes_in l old) (stack_in l script new) (script_in script old))
  stack_left new k sound paced =
      let more = running_more l steps old run in
      record {
        state = state_on l script new (k.ended ∙ on) ∙ (λ i. On (world_of (names_in l) (k.world i)) (classes_of l.program.now (k.statuses i).items) (stack_in l script new) (drop (k.next i) script));
        running = λ go. running_of l (steps + 1) new (subst (IsSound l) (sym k.world) run.world) (ap (λ v. length v.items) k.statuses ∙ run.classes)
            (subst (λ (w : World). AreSoundWaiting l (length (spots_of w)) new.stack.items) (sym k.world) sound)
            (paced_more (2 ^ 32 + steps) (2 ^ 32 + (steps + 1)) new.stack.items (omega arith) paced)
            (subst (λ (w : World). AreHeld (steps + 1) w.locks.entries) (sym k.world) (running_held l (steps + 1) old more));
      }

  -- some entries are gone
  pub below_left : (new : State) (k : ℕ) → KeepsRest old new → new.stack.items ≡ take k old.stack.items → IsLeft l steps script new (On (world_in l old) (classes_in l old) (stack_of (names_in l) script (take k old.stack.items)) (script_in script old))
  below_left new k keeps e =
      subst (λ (xs : List Waiting). IsLeft l steps script new (On (world_in l old) (classes_in l old) (stack_of (names_in l) script xs) (script_in script old))) e
      (stack_left new keeps (subst (AreSoundWaiting l (length (spots_of old.world))) (sym e) (sound_below l (length (spots_of old.world)) k old.stack.items (running_stack l steps old run)))
      (subst (ArePaced (2 ^ 32 + steps)) (sym e) (paced_below (2 ^ 32 + steps) k old.stack.items (running_paced l steps old run))))

  -- the turn of a class has come
  pub turn_left : (new : State) (k class : ℕ) (o : Option Frame) → KeepsRest old new → class < length l.program.now.classes → IsTurn l (length (spots_of old.world)) class o → new.stack.items ≡ take k old.stack.items ++ turn_entries class o
      → IsLeft l steps script new (runs (bodies_in l) (world_in l old) (classes_in l old) (class_text l.program.now class) ((run_face l).initialiser (class_text l.program.now class)) (stack_of (names_in l) script (take k old.stack.items)) (script_in script old))
  turn_left new k class o keeps low turn e =
      let size = length (spots_of old.world) in
      let below = take k old.stack.items in
      subst (IsLeft l steps script new) (ap (λ (xs : List Waiting). On (world_in l old) (classes_in l old) (stack_of (names_in l) script xs) (script_in script old)) e ∙ sym (turn_stack l below class o (world_in l old) (classes_in l old) size script (script_in script old) turn))
      (stack_left new keeps
      (subst (AreSoundWaiting l size) (sym e) (turn_sound l size below class o (sound_below l size k old.stack.items (running_stack l steps old run)) low turn))
      (subst (ArePaced (2 ^ 32 + steps)) (sym e) (turn_paced l size (2 ^ 32 + steps) below class o (paced_below (2 ^ 32 + steps) k old.stack.items (running_paced l steps old run)) turn)))

  -- a class that waits for those before it
  waiting_paced : (most class next : ℕ) (above : Vec ℕ Global) → ArePaced most (waiting.Initialiser class above next ∷ [])
  waiting_paced most class next above = record { at = λ i f e. by i f e }
    where
      by : (i : ℕ) (f : Frame) → slice_get (waiting.Initialiser class above next ∷ []) i ≡ Some (waiting.Method f) → f.position ≤ most
      by zero f e = absurd (cc)
      by (suc i) f e = absurd (cc)

  pub wait_left : (new : State) (below : List Waiting) (class next from : ℕ) (above : Vec ℕ Global) → KeepsRest old new → AreSoundWaiting l (length (spots_of old.world)) below → ArePaced (2 ^ 32 + steps) below → AreClasses l (class ∷ above.items)
      → new.stack.items ≡ below ++ waiting.Initialiser class above next ∷ [] → drop next above.items ≡ left_in old.statuses.items (drop from above.items) → next < length above.items
      → IsLeft l steps script new (goes_on (run_face l) (bodies_in l) (world_in l old) (classes_in l old) (class_text l.program.now class) (left_of (classes_in l old) (texts l (drop from above.items))) (stack_of (names_in l) script below) (script_in script old))
  wait_left new below class next from above keeps sound paced classes e left low =
      let size = length (spots_of old.world) in
      let rest : AreClasses l above.items = record { at = λ i c g. classes.at (suc i) c g } in
      let more = has_more next above.items low in
      let names = left_named l r old.statuses.items (drop from above.items) (classes_drop l from above.items rest) in
      let named : left_of (classes_in l old) (texts l (drop from above.items)) ≡ texts l (drop next above.items) = names ∙ ap (texts l) (sym left) in
      subst (IsLeft l steps script new)
      (ap (λ (xs : List Waiting). On (world_in l old) (classes_in l old) (stack_of (names_in l) script xs) (script_in script old)) e
      ∙ ap (λ (ws : List NamedWaiting). On (world_in l old) (classes_in l old) ws (script_in script old)) (pushed_named (names_in l) script below (waiting.Initialiser class above next))
      ∙ sym (waits_named (run_face l) l (world_in l old) (classes_in l old) (class_text l.program.now class) (drop next above.items) more.first more.behind (stack_of (names_in l) script below) (script_in script old) more.is)
      ∙ ap (λ (ts : List Text). goes_on (run_face l) (bodies_in l) (world_in l old) (classes_in l old) (class_text l.program.now class) ts (stack_of (names_in l) script below) (script_in script old)) (sym named))
      (stack_left new keeps
      (subst (AreSoundWaiting l size) (sym e) (sound_pushed l size below (waiting.Initialiser class above next) sound classes))
      (subst (ArePaced (2 ^ 32 + steps)) (sym e) (paced_pushed (2 ^ 32 + steps) below (waiting.Initialiser class above next) paced (waiting_paced (2 ^ 32 + steps) class next above))))

  -- nothing is left: it is the class's turn
  pub nothing_left : (new : State) (class from : ℕ) (above : Vec ℕ Global) (stack : List NamedWaiting) → AreClasses l (class ∷ above.items) → left_in old.statuses.items (drop from above.items) ≡ []
      → IsLeft l steps script new (runs (bodies_in l) (world_in l old) (classes_in l old) (class_text l.program.now class) ((run_face l).initialiser (class_text l.program.now class)) stack (script_in script old))
      → IsLeft l steps script new (goes_on (run_face l) (bodies_in l) (world_in l old) (classes_in l old) (class_text l.program.now class) (left_of (classes_in l old) (texts l (drop from above.items))) stack (script_in script old))
  nothing_left new class from above stack classes left h =
      let rest : AreClasses l above.items = record { at = λ i c g. classes.at (suc i) c g } in
      let names = left_named l r old.statuses.items (drop from above.items) (classes_drop l from above.items rest) in
      subst (λ (ts : List Text). IsLeft l steps script new (goes_on (run_face l) (bodies_in l) (world_in l old) (classes_in l old) (class_text l.program.now class) ts stack (script_in script old))) (sym (names ∙ ap (texts l) left)) h

-- the initialiser of a class whose turn has come can't be entered
pub no_turn_left : (l : Lookups) (steps : ℕ) (script : List Move) (old new : State) (k class : ℕ) → new ≡ record old { ended = true } → HasNoTurn l class
    → IsLeft l steps script new (runs (bodies_in l) (world_in l old) (classes_in l old) (class_text l.program.now class) ((run_face l).initialiser (class_text l.program.now class)) (stack_of (names_in l) script (take k old.stack.items)) (script_in script old))
no_turn_left l steps script old new k class e h =
    let c = class_text l.program.now class in
    let stack = stack_of (names_in l) script (take k old.stack.items) in
    let ended : new.ended ≡ true = ap (λ (s : State). s.ended) e in
    record {
      state = state_over l script new ended
          ∙ sym (ap (λ (o : Option MethodKey). runs (bodies_in l) (world_in l old) (classes_in l old) c o stack (script_in script old)) h.is
          ∙ not_entered (bodies_in l h.key) (world_in l old) (classes_in l old) h.key [] (Ending c ∷ stack) (script_in script old) h.not);
      running = no_running l (steps + 1) new ended;
    }

-- ---- places

-- a list has no more behind the largest number
pub drop_far : (xs : List ℕ) (n : ℕ) → length xs ≤ 18446744073709551615 → drop (min n 18446744073709551615) xs ≡ drop n xs
drop_far xs n h = elim (cases_lt n 18446744073709551615) [
  | inl low ↦ (let e : min n 18446744073709551615 ≡ n = omega (arith, low) in ap (λ (k : ℕ). drop k xs) e)
  | inr high ↦ (let a : length xs ≤ min n 18446744073709551615 = omega (arith, high, h) in let b : length xs ≤ n = omega (arith, high, h) in nothing_more (min n 18446744073709551615) xs a ∙ sym (nothing_more n xs b))
]

-- the entry at a place is changed, and all above it is gone
pub set_taken : (xs : List Waiting) (k : ℕ) (w v : Waiting) → slice_get xs k ≡ Some w → slice_set (take (suc k) xs) k v ≡ take k xs ++ v ∷ []
set_taken [] k w v e = absurd (cc)
set_taken (x ∷ xs) zero w v e = refl
set_taken (x ∷ xs) (suc k) w v e = ap (λ (ys : List Waiting). x ∷ ys) (set_taken xs k w v e)

pub get_taken : (xs : List Waiting) (k : ℕ) (w : Waiting) → slice_get xs k ≡ Some w → slice_get (take (suc k) xs) k ≡ Some w
get_taken [] k w e = absurd (cc)
get_taken (x ∷ xs) zero w e = e
get_taken (x ∷ xs) (suc k) w e = get_taken xs k w e

pub take_twice : (xs : List Waiting) (j k : ℕ) → j ≤ k → take j (take k xs) ≡ take j xs
take_twice xs zero k h = refl
take_twice [] (suc j) zero h = refl
take_twice [] (suc j) (suc k) h = refl
take_twice (x ∷ xs) (suc j) zero h = absurd (omega (arith, h))
take_twice (x ∷ xs) (suc j) (suc k) h = ap (λ (ys : List Waiting). x ∷ ys) (take_twice xs j k (omega (arith, h)))

-- ---- what waits at a place of the stack

pub looks_is : (statuses : List Status) (more : ℕ) (o : Option Waiting) (found : Option (ℕ × Option ℕ)) (class : ℕ) (above : Vec ℕ Global) (next : ℕ) → Looks statuses more o found → o ≡ Some (waiting.Initialiser class above next) → IsLook statuses class above.items (next + more) found
looks_is statuses more o found class above next h e = subst (λ (x : Option Waiting). Looks statuses more x found) e h

pub looks_other : (statuses : List Status) (more : ℕ) (o : Option Waiting) (found : Option (ℕ × Option ℕ)) → Looks statuses more o found → is_initialiser o ≡ false → found ≡ None
looks_other statuses more None found h e = h
looks_other statuses more (Some (waiting.Method f)) found h e = h
looks_other statuses more (Some (waiting.Initialiser class above next)) found h e = absurd (true≢false e)
looks_other statuses more (Some (waiting.Ending class)) found h e = h
looks_other statuses more (Some (waiting.Outside owes pending)) found h e = h

-- what is found of a class that is being initialised, and of no other
pub record IsFound (statuses : List Status) (class : ℕ) (above : List ℕ) (from : ℕ) (c : ℕ) (rest : Option ℕ) : Type 0 where
  pub same : c ≡ class
  pub left : LeftAt above (left_in statuses (drop from above)) rest

pub found_is : (statuses : List Status) (class : ℕ) (above : List ℕ) (from : ℕ) (found : Option (ℕ × Option ℕ)) (c : ℕ) (rest : Option ℕ) → IsLook statuses class above from found → found ≡ Some (c, rest) → IsFound statuses class above from c rest
found_is statuses class above from found c rest h e =
    let both : Some (class, h.rest) ≡ Some (c, rest) = sym h.is ∙ e in
    let pair : (class, h.rest) ≡ (c, rest) = cc in
    let first : class ≡ c = ap (λ (x : ℕ × Option ℕ). x.0) pair in
    let second : h.rest ≡ rest = ap (λ (x : ℕ × Option ℕ). x.1) pair in
    record { same = sym first; left = subst (LeftAt above (left_in statuses (drop from above))) second h.left }

-- what stands below the top of a stack
pub below_at : (xs : List Waiting) (k : ℕ) → suc (suc k) ≡ length xs → last_of (below_top xs) ≡ slice_get xs k
below_at xs k e =
    let long = taken_long xs (suc k) (omega (arith, e)) in
    let count : length xs - 1 ≡ suc k = omega (arith, e) in
    let place : length (take (suc k) xs) - 1 ≡ k = omega (arith, long) in
    ap (λ (n : ℕ). last_of (take n xs)) count ∙ ap (slice_get (take (suc k) xs)) place ∙ got xs k (omega (arith, e))
  where
    taken_long : (ys : List Waiting) (n : ℕ) → n ≤ length ys → length (take n ys) ≡ n
    taken_long ys zero h = refl
    taken_long [] (suc n) h = absurd (omega arith)
    taken_long (y ∷ ys) (suc n) h = ap suc (taken_long ys n (omega arith))

    got : (ys : List Waiting) (n : ℕ) → n < length ys → slice_get (take (suc n) ys) n ≡ slice_get ys n
    got [] n h = absurd (omega arith)
    got (y ∷ ys) zero h = refl
    got (y ∷ ys) (suc n) h = got ys n (omega arith)

pub not_initialiser : (l : Lookups) (w : NamedWorld) (classes : Classes) (xs : List Waiting) (moves script : List Move) → is_initialiser (last_of xs) ≡ false → resumes (run_face l) (bodies_in l) w classes (stack_of (names_in l) moves xs) script ≡ On w classes (stack_of (names_in l) moves xs) script
not_initialiser l w classes xs moves script h = by (last_of xs) refl h
  where
    at : (x : Waiting) → last_of xs ≡ Some x → resumes (run_face l) (bodies_in l) w classes (waiting_of (names_in l) moves x ∷ stack_of (names_in l) moves (below_top xs)) script ≡ On w classes (waiting_of (names_in l) moves x ∷ stack_of (names_in l) moves (below_top xs)) script
        → resumes (run_face l) (bodies_in l) w classes (stack_of (names_in l) moves xs) script ≡ On w classes (stack_of (names_in l) moves xs) script
    at x e f = subst (λ (ws : List NamedWaiting). resumes (run_face l) (bodies_in l) w classes ws script ≡ On w classes ws script) (sym (popped_named (names_in l) moves xs x e)) f

    by : (o : Option Waiting) → last_of xs ≡ o → is_initialiser o ≡ false → resumes (run_face l) (bodies_in l) w classes (stack_of (names_in l) moves xs) script ≡ On w classes (stack_of (names_in l) moves xs) script
    by None e g = ap (λ (ys : List Waiting). resumes (run_face l) (bodies_in l) w classes (stack_of (names_in l) moves ys) script) (nothing_last xs e) ∙ sym (ap (λ (ys : List Waiting). On w classes (stack_of (names_in l) moves ys) script) (nothing_last xs e))
    by (Some (waiting.Method f)) e g = at (waiting.Method f) e refl
    by (Some (waiting.Initialiser class above next)) e g = absurd (true≢false g)
    by (Some (waiting.Ending class)) e g = at (waiting.Ending class) e refl
    by (Some (waiting.Outside owes pending)) e g = at (waiting.Outside owes pending) e refl
