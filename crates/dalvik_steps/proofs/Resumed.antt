-- What waits below a class that has ended goes on, by numbers and by names.
use Rattle.std.proofs.Common.{◌≡◌, ℕ, zero, suc, ◌+◌, ◌-◌, ◌<◌, ◌≤◌, Bool, true, false, List, [], ◌∷◌, length, take, drop, arith, ap, refl, sym, subst, ◌∙◌}
use Rattle.std.specs.Prelude.{Option, Some, None, OnOk, Result, Vec, slice_get}
use Rattle.std.specs.declared.alloc.Global.{Global}
use Rattle.dalvik_defs.specs.Stack.{goes_on, left_of, resumes}
use Rattle.dalvik_defs.specs.State.{Classes, On, State as NamedState, World}
use Rattle.dalvik_defs.specs.declared.script.Move.{Move}
use Rattle.dalvik_defs.specs.declared.state.Waiting.{Waiting as NamedWaiting}
use Rattle.dalvik_lookups.specs.Facing.{run_face}
use Rattle.dalvik_lookups.specs.declared.lookups.Lookups.{Lookups}
use Rattle.dalvik_state.specs.declared.state.State.{State}
use Rattle.dalvik_state.specs.declared.state.Waiting.{Waiting}
use Rattle.dalvik_state.specs.declared.state.Waiting.TheVariants as waiting
use Rattle.dalvik_state.specs.Runs.{bodies_in, IsLeft}
use Rattle.dalvik_state.specs.States.{below_top, class_text, stack_of}
use Rattle.dalvik_state.specs.Views.{names_in}
use Rattle.dalvik_state.proofs.Running.{popped_named}
use Rattle.dalvik_steps.specs.Backs.{last_of}
use Rattle.dalvik_steps.specs.Turns.{is_initialiser}
use Rattle.dalvik_steps.proofs.Stacked.{below_at, not_initialiser, take_twice}
use Rattle.dalvik_steps.proofs.Turning.{texts}

taken_long : (ys : List Waiting) (n : ℕ) → n ≤ length ys → length (take n ys) ≡ n
taken_long ys zero h = refl
taken_long [] (suc n) h = absurd (omega arith)
taken_long (y ∷ ys) (suc n) h = ap suc (taken_long ys n (omega arith))

-- two entries are gone
below_twice : (xs : List Waiting) (k : ℕ) → suc (suc k) ≡ length xs → below_top (below_top xs) ≡ take k xs
below_twice xs k e =
    let count : length xs - 1 ≡ suc k = omega (arith, e) in
    let long = taken_long xs (suc k) (omega (arith, e)) in
    let place : length (take (suc k) xs) - 1 ≡ k = omega (arith, long) in
    ap (λ (n : ℕ). below_top (take n xs)) count ∙ ap (λ (n : ℕ). take n (take (suc k) xs)) place ∙ take_twice xs k (suc k) (omega arith)

module _ (l : Lookups) (steps : ℕ) (script rest : List Move) (new : State) {X Y : Type 0} (res : Result X Y) (w : World) (classes : Classes) (xs : List Waiting) (place : ℕ) (long : suc (suc place) ≡ length xs) where
  abbrev Left : NamedState → Type 0
  Left s = OnOk res (IsLeft l steps script new s)

  pub resumes_left :
      ((class : ℕ) (above : Vec ℕ Global) (next : ℕ) → slice_get xs place ≡ Some (waiting.Initialiser class above next) → Left (goes_on (run_face l) (bodies_in l) w classes (class_text l.program.now class) (left_of classes (texts l (drop (next + 0) above.items))) (stack_of (names_in l) script (take place xs)) rest))
      → (place < length xs → is_initialiser (slice_get xs place) ≡ false → Left (On w classes (stack_of (names_in l) script (take (place + 1) xs)) rest))
      → Left (resumes (run_face l) (bodies_in l) w classes (stack_of (names_in l) script (below_top xs)) rest)
  resumes_left is other = by (slice_get xs place) refl
    where
      passes : is_initialiser (slice_get xs place) ≡ false → Left (resumes (run_face l) (bodies_in l) w classes (stack_of (names_in l) script (below_top xs)) rest)
      passes e =
          let count : place + 1 ≡ length xs - 1 = omega (arith, long) in
          let named = not_initialiser l w classes (below_top xs) script rest (ap is_initialiser (below_at xs place long) ∙ e) in
          subst Left (ap (λ (n : ℕ). On w classes (stack_of (names_in l) script (take n xs)) rest) count ∙ sym named) (other (omega (arith, long)) e)

      by : (o : Option Waiting) → slice_get xs place ≡ o → Left (resumes (run_face l) (bodies_in l) w classes (stack_of (names_in l) script (below_top xs)) rest)
      by (Some (waiting.Initialiser class above next)) e =
          let n = names_in l in
          let stack = popped_named n script (below_top xs) (waiting.Initialiser class above next) (below_at xs place long ∙ e) in
          let from : next + 0 ≡ next = omega arith in
          subst Left
          (ap (λ (k : ℕ). goes_on (run_face l) (bodies_in l) w classes (class_text l.program.now class) (left_of classes (texts l (drop k above.items))) (stack_of n script (take place xs)) rest) from
          ∙ ap (λ (ys : List Waiting). goes_on (run_face l) (bodies_in l) w classes (class_text l.program.now class) (left_of classes (texts l (drop next above.items))) (stack_of n script ys) rest) (sym (below_twice xs place long))
          ∙ sym (ap (λ (ws : List NamedWaiting). resumes (run_face l) (bodies_in l) w classes ws rest) stack)) (is class above next e)
      by None e = passes (ap is_initialiser e)
      by (Some (waiting.Method f)) e = passes (ap is_initialiser e)
      by (Some (waiting.Ending class)) e = passes (ap is_initialiser e)
      by (Some (waiting.Outside owes pending)) e = passes (ap is_initialiser e)
