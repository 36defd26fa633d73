-- The next move of the script is taken, and comes next again where there was no memory for it.
use Rattle.std.proofs.Common.{◌≡◌, ℕ, zero, suc, ◌+◌, ◌-◌, ◌<◌, Bool, true, false, List, [], ◌∷◌, length, arith, ap, refl, sym, ◌∙◌}
use Rattle.std.specs.Prelude.{drop, slice_get, slice_set, Option, Some, None}
use Rattle.std.specs.Option.{option_map}
use Rattle.std.proofs.lemmas.List.{length-set}
use Rattle.program_model.specs.declared.pass.Outside.{Outside}
use Rattle.dalvik_defs.specs.Face.{Bodies}
use Rattle.dalvik_defs.specs.Happens.{Setting}
use Rattle.dalvik_defs.specs.Moves.{moves}
use Rattle.dalvik_defs.specs.Names.{Text}
use Rattle.dalvik_defs.specs.State.{Classes, On, State as NamedState, World as NamedWorld}
use Rattle.dalvik_defs.specs.declared.script.Move.{Move}
use Rattle.dalvik_defs.specs.declared.state.Waiting.{Waiting as NamedWaiting}
use Rattle.dalvik_lookups.specs.declared.lookups.Lookups.{Lookups}
use Rattle.dalvik_lookups.specs.declared.memo.Memo.{Memo}
use Rattle.dalvik_lookups.specs.declared.types.Kind.{Kind}
use Rattle.dalvik_state.specs.declared.state.State.{State}
use Rattle.dalvik_state.specs.declared.state.Waiting.{Waiting}
use Rattle.dalvik_state.specs.declared.state.Waiting.TheVariants as waiting
use Rattle.dalvik_state.specs.Runs.{below_in, classes_in, script_in, stack_in, world_in, IsUndoneWith}
use Rattle.dalvik_state.specs.States.{below_top, classes_of, move_of, pending_top, stack_of, state_of, waiting_of, with_pending}
use Rattle.dalvik_state.specs.Views.{names_in, world_of, Names}
use Rattle.dalvik_state.proofs.Running.{pending_named, pending_there, popped_named, topped_by}
use Rattle.dalvik_steps.specs.Backs.{last_of}
use Rattle.dalvik_moves.specs.Moving.{waits_with, IsMoving, IsTaking, IsTurned}
use Rattle.dalvik_moves.proofs.Moved.{state_on, turned_runs}

-- ---- the entry on top

set_there : (xs : List Waiting) (i : ℕ) (w v : Waiting) → slice_get xs i ≡ Some w → slice_get (slice_set xs i v) i ≡ Some v
set_there [] i w v e = absurd (cc)
set_there (x ∷ xs) zero w v e = refl
set_there (x ∷ xs) (suc i) w v e = set_there xs i w v e

last_set : (xs : List Waiting) (w v : Waiting) → last_of xs ≡ Some w → last_of (slice_set xs (length xs - 1) v) ≡ Some v
last_set xs w v e = ap (λ (k : ℕ). slice_get (slice_set xs (length xs - 1) v) (k - 1)) (length-set xs (length xs - 1) v) ∙ set_there xs (length xs - 1) w v e

got_there : (xs : List Waiting) (i : ℕ) → i < length xs → slice_get xs i ≡ None → ⊥
got_there [] i h e = absurd (omega (arith, h))
got_there (x ∷ xs) zero h e = absurd (cc)
got_there (x ∷ xs) (suc i) h e = got_there xs i (omega (arith, h)) e

no_last : (xs : List Waiting) → last_of xs ≡ None → xs ≡ []
no_last [] e = refl
no_last (x ∷ xs) e = absurd (got_there (x ∷ xs) (length (x ∷ xs) - 1) (omega arith) e)

-- by names the framework's frame on top waits with the move at another place, whatever stands there
again : (n : Names) (script : List Move) (place : Option ℕ) (w : Waiting) (below : List NamedWaiting) → waiting_of n script (with_pending place w) ∷ below ≡ waits_with (move_of script place) (waiting_of n script w ∷ below)
again n script place (waiting.Method f) below = refl
again n script place (waiting.Initialiser class above next) below = refl
again n script place (waiting.Ending class) below = refl
again n script place (waiting.Outside owes before) below = refl

waits_again : (n : Names) (script : List Move) (place : Option ℕ) (xs : List Waiting) → stack_of n script (pending_top place xs) ≡ waits_with (move_of script place) (stack_of n script xs)
waits_again n script place xs = by (last_of xs) refl
  where
    by : (o : Option Waiting) → last_of xs ≡ o → stack_of n script (pending_top place xs) ≡ waits_with (move_of script place) (stack_of n script xs)
    by None e = (let none = no_last xs e in ap (λ (ys : List Waiting). stack_of n script (pending_top place ys)) none ∙ sym (ap (λ (ys : List Waiting). waits_with (move_of script place) (stack_of n script ys)) none))
    by (Some w) e =
        ap (stack_of n script) (pending_there place xs w e)
        ∙ topped_by n script xs w (with_pending place w) e
        ∙ again n script place w (stack_of n script (below_top xs))
        ∙ sym (ap (waits_with (move_of script place)) (popped_named n script xs w e))

-- ---- the move is taken

module _ (l : Lookups) (o : Outside) (m : Memo) (script : List Move) (steps : ℕ) (old mid : State) (owes : Option Kind) (pending : Option ℕ) (first : Move) (rest : List Move) (next : ℕ)
    (h : IsTaking l o m script steps old owes pending first rest) (t : IsTurned (Some old.next) next old mid) where
  taken_top : last_of mid.stack.items ≡ Some (waiting.Outside owes (Some old.next))
  taken_top =
      ap last_of (t.stack ∙ pending_there (Some old.next) old.stack.items (waiting.Outside owes pending) h.top)
      ∙ last_set old.stack.items (waiting.Outside owes pending) (waiting.Outside owes (Some old.next)) h.top

  pub taken_moves : next ≡ old.next + 1 → IsMoving l o m script steps mid owes first rest
  taken_moves is = record {
    run = record { right = h.run.right; kept = h.run.kept; state = turned_runs l steps old mid (Some old.next) next t h.run.state; early = h.run.early; on = t.ended ∙ h.run.on };
    reach = h.reach;
    place = old.next;
    top = taken_top;
    waits = h.next;
    left = ap (λ (k : ℕ). drop k script) (t.next ∙ is) ∙ h.left;
  }

  taken_below : below_in l script mid ≡ below_in l script old
  taken_below = rest_same (sym (popped_named (names_in l) script mid.stack.items (waiting.Outside owes (Some old.next)) taken_top)
      ∙ ap (stack_of (names_in l) script) t.stack
      ∙ pending_named (names_in l) script (Some old.next) old.stack.items owes pending h.top)
    where
      rest_same : {x y : NamedWaiting} {xs ys : List NamedWaiting} → x ∷ xs ≡ y ∷ ys → xs ≡ ys
      rest_same e = cc

  pub taken_named : (s : Setting) (find : Bodies) (owed : Option Text) → moves s find (world_in l mid) (classes_in l mid) owed first (below_in l script mid) rest ≡ moves s find (world_in l old) (classes_in l old) owed first (below_in l script old) rest
  taken_named s find owed = λ i. moves s find (world_of (names_in l) (t.world i)) (classes_of l.program.now (t.statuses i).items) owed first (taken_below i) rest

-- ---- without memory it comes next again

-- states that go on and are the same, by their parts
record AreSame (w v : NamedWorld) (c d : Classes) (k j : List NamedWaiting) : Type 0 where
  pub world : w ≡ v
  pub classes : c ≡ d
  pub stack : k ≡ j

are_same : (w v : NamedWorld) (c d : Classes) (k j : List NamedWaiting) (ms ns : List Move) → On w c k ms ≡ On v d j ns → AreSame w v c d k j
are_same w v c d k j ms ns e = record { world = cc; classes = cc; stack = cc }

pub untaken : (l : Lookups) (k : Memo) (steps : ℕ) (old mid new back : State) (owes : Option Kind) (pending place : Option ℕ) (next : ℕ) → last_of old.stack.items ≡ Some (waiting.Outside owes pending) → old.ended ≡ false
    → IsTurned place next old mid → IsUndoneWith l steps k mid new → IsTurned pending old.next new back → IsUndoneWith l steps k old back
untaken l k steps old mid new back owes pending place next top on t u b = record {
  undone = record {
    state = λ script. same script;
    running = turned_runs l steps new back pending old.next b u.undone.running;
    on = b.ended ∙ u.undone.on;
  };
  kept = u.kept;
}
  where
    same : (script : List Move) → state_of (names_in l) script back ≡ state_of (names_in l) script old
    same script =
        let mid_on : mid.ended ≡ false = t.ended ∙ on in
        let parts = are_same (world_in l new) (world_in l mid) (classes_in l new) (classes_in l mid) (stack_in l script new) (stack_in l script mid) (script_in script new) (script_in script mid)
        (sym (state_on l script new u.undone.on) ∙ u.undone.state script ∙ state_on l script mid mid_on) in
        let world : world_in l back ≡ world_in l old = ap (λ w. world_of (names_in l) w) b.world ∙ parts.world ∙ ap (λ w. world_of (names_in l) w) t.world in
        let classes : classes_in l back ≡ classes_in l old = ap (λ v. classes_of l.program.now v.items) b.statuses ∙ parts.classes ∙ ap (λ v. classes_of l.program.now v.items) t.statuses in
        let stack : stack_in l script back ≡ stack_in l script old =
        ap (stack_of (names_in l) script) b.stack
        ∙ waits_again (names_in l) script pending new.stack.items
        ∙ ap (waits_with (move_of script pending)) (parts.stack ∙ ap (stack_of (names_in l) script) t.stack ∙ pending_named (names_in l) script place old.stack.items owes pending top)
        ∙ sym (popped_named (names_in l) script old.stack.items (waiting.Outside owes pending) top) in
        state_on l script back (b.ended ∙ u.undone.on)
        ∙ (λ i. On (world i) (classes i) (stack i) (drop (b.next i) script))
        ∙ sym (state_on l script old on)
