-- The top of the stack.
use Rattle.std.proofs.Common.{◌≡◌, ℕ, zero, suc, ◌-◌, ◌<◌, ◌≤◌, List, [], ◌∷◌, ◌++◌, length, map, take, arith, ap, refl, sym, subst, ◌∙◌}
use Rattle.std.specs.Prelude.{◌^◌, Option, Some, None, slice_get, slice_set}
use Rattle.std.specs.Option.{option_and_then}
use Rattle.std.proofs.lemmas.List.{reverse-append}
use Rattle.insn_set.specs.declared.ops.Item.{Item}
use Rattle.dalvik_defs.specs.Effect.{go, next, write_item}
use Rattle.dalvik_defs.specs.Naming.{method_at}
use Rattle.dalvik_defs.specs.declared.script.Move.{Move}
use Rattle.dalvik_defs.specs.declared.state.Frame.{Frame as NamedFrame}
use Rattle.dalvik_defs.specs.declared.state.Waiting.TheVariants.{Method as InMethod}
use Rattle.dalvik_state.specs.declared.datum.Datum.{Datum}
use Rattle.dalvik_state.specs.declared.frame.Frame.{Frame}
use Rattle.dalvik_state.specs.declared.state.Waiting.{Waiting as OwnWaiting}
use Rattle.dalvik_state.specs.declared.state.Waiting.TheVariants as waiting
use Rattle.dalvik_state.specs.Frames.{with_item, GoesOn, Handles}
use Rattle.dalvik_state.specs.States.{below_top, frame_in, stack_of, top_frame, waiting_of, ChangesIn, ChangesTop, IsInMethod, IsReplaced, IsTopped}
use Rattle.dalvik_state.specs.Views.{Names, frame_of, value_of, values_of}
use Rattle.dalvik_state.proofs.Named.{item_is, with_cells}

-- ---- by numbers

pub set_own : (xs : List OwnWaiting) (i : ℕ) (w : OwnWaiting) → slice_get xs i ≡ Some w → slice_set xs i w ≡ xs
set_own [] i w e = refl
set_own (x ∷ xs) zero w e = let same : x ≡ w = cc in ap (λ (y : OwnWaiting). y ∷ xs) (sym same)
set_own (x ∷ xs) (suc i) w e = ap (λ (ys : List OwnWaiting). x ∷ ys) (set_own xs i w e)

-- the frame on top of a stack whose last entry is known
top_is : (xs : List OwnWaiting) (w : OwnWaiting) (o : Option Frame) → slice_get xs (length xs - 1) ≡ Some w → top_frame xs ≡ o → frame_in w ≡ o
top_is xs w o e f = sym (ap (option_and_then frame_in) e) ∙ f

topped : (changes : Frame → Frame → Type 0) (xs : List OwnWaiting) (f g : Frame) (v : OwnWaiting) → IsInMethod (changes f) v → Some f ≡ Some g → IsTopped (changes g) xs (slice_set xs (length xs - 1) v)
topped changes xs f g v h e =
    let same : f ≡ g = cc in
    subst (λ (x : Frame). IsTopped (changes x) xs (slice_set xs (length xs - 1) v)) same (record { frame = h.frame; stack = ap (slice_set xs (length xs - 1)) h.is; so = h.so })

stayed : (xs : List OwnWaiting) (w v : OwnWaiting) → slice_get xs (length xs - 1) ≡ Some w → v ≡ w → slice_set xs (length xs - 1) v ≡ xs
stayed xs w v e h = ap (slice_set xs (length xs - 1)) h ∙ set_own xs (length xs - 1) w e

-- the last entry is changed
pub changes_top : (changes : Frame → Frame → Type 0) (xs : List OwnWaiting) (w v : OwnWaiting) → slice_get xs (length xs - 1) ≡ Some w → ChangesIn changes w v → ChangesTop changes xs (slice_set xs (length xs - 1) v)
changes_top changes xs (waiting.Method f) v e h = record {
  top = λ g t. topped changes xs f g v h (top_is xs (waiting.Method f) (Some g) e t);
  other = λ t. absurd (let no : Some f ≡ None = top_is xs (waiting.Method f) None e t in cc);
}
changes_top changes xs (waiting.Initialiser class above next) v e h = record {
  top = λ g t. absurd (let no : None ≡ Some g = top_is xs (waiting.Initialiser class above next) (Some g) e t in cc);
  other = λ t. stayed xs (waiting.Initialiser class above next) v e h;
}
changes_top changes xs (waiting.Ending class) v e h = record {
  top = λ g t. absurd (let no : None ≡ Some g = top_is xs (waiting.Ending class) (Some g) e t in cc);
  other = λ t. stayed xs (waiting.Ending class) v e h;
}
changes_top changes xs (waiting.Outside owes pending) v e h = record {
  top = λ g t. absurd (let no : None ≡ Some g = top_is xs (waiting.Outside owes pending) (Some g) e t in cc);
  other = λ t. stayed xs (waiting.Outside owes pending) v e h;
}

-- by its place
pub changes_at : (changes : Frame → Frame → Type 0) (xs : List OwnWaiting) (k : ℕ) (w v : OwnWaiting) → k ≡ length xs - 1 → slice_get xs k ≡ Some w → ChangesIn changes w v → ChangesTop changes xs (slice_set xs k v)
changes_at changes xs k w v e g h = subst (λ (i : ℕ). ChangesTop changes xs (slice_set xs i v)) (sym e) (changes_top changes xs w v (ap (slice_get xs) (sym e) ∙ g) h)

-- an empty stack stays
pub changes_none : (changes : Frame → Frame → Type 0) (xs : List OwnWaiting) → length xs ≤ 0 → ChangesTop changes xs xs
changes_none changes [] le = record { top = λ f e. absurd (let no : None ≡ Some f = e in cc); other = λ e. refl }
changes_none changes (x ∷ xs) le = absurd (omega (arith, le))

-- ---- by names

set_last : (xs : List OwnWaiting) (k : ℕ) (v : OwnWaiting) → suc k ≡ length xs → slice_set xs k v ≡ take k xs ++ v ∷ []
set_last [] k v h = absurd (omega (arith, h))
set_last (x ∷ []) zero v h = refl
set_last (x ∷ y ∷ ys) zero v h = absurd (omega (arith, h))
set_last (x ∷ xs) (suc k) v h = ap (λ (zs : List OwnWaiting). x ∷ zs) (set_last xs k v (omega (arith, h)))

pub split_last : (xs : List OwnWaiting) (w : OwnWaiting) → slice_get xs (length xs - 1) ≡ Some w → (v : OwnWaiting) → slice_set xs (length xs - 1) v ≡ take (length xs - 1) xs ++ v ∷ []
split_last [] w e v = absurd (cc)
split_last (x ∷ xs) w e v = set_last (x ∷ xs) (length (x ∷ xs) - 1) v (omega arith)

pub last_named : (n : Names) (script : List Move) (below : List OwnWaiting) (v : OwnWaiting) → stack_of n script (below ++ v ∷ []) ≡ waiting_of n script v ∷ stack_of n script below
last_named n script below v = ap (map (waiting_of n script)) (reverse-append below (v ∷ []))

pub top_there : (xs : List OwnWaiting) (f : Frame) → top_frame xs ≡ Some f → slice_get xs (length xs - 1) ≡ Some (waiting.Method f)
top_there xs f e = by (slice_get xs (length xs - 1)) e
  where
    by : (o : Option OwnWaiting) → option_and_then frame_in o ≡ Some f → o ≡ Some (waiting.Method f)
    by None h = absurd (cc)
    by (Some (waiting.Method g)) h = (let same : g ≡ f = cc in ap (λ (x : Frame). Some (waiting.Method x)) same)
    by (Some (waiting.Initialiser class above next)) h = absurd (cc)
    by (Some (waiting.Ending class)) h = absurd (cc)
    by (Some (waiting.Outside owes pending)) h = absurd (cc)

-- a frame on top stands on top by names
pub top_named : (n : Names) (script : List Move) (xs : List OwnWaiting) (f : Frame) → top_frame xs ≡ Some f → stack_of n script xs ≡ InMethod (frame_of n f) ∷ stack_of n script (below_top xs)
top_named n script xs f e =
    let there = top_there xs f e in
    ap (stack_of n script) (sym (set_own xs (length xs - 1) (waiting.Method f) there) ∙ split_last xs (waiting.Method f) there (waiting.Method f))
    ∙ last_named n script (below_top xs) (waiting.Method f)

-- a frame that has changed stands there, and all below it stays
pub topped_named : (n : Names) (script : List Move) (is_so : Frame → Type 0) (xs ys : List OwnWaiting) (f : Frame) → top_frame xs ≡ Some f → (h : IsTopped is_so xs ys) → stack_of n script ys ≡ InMethod (frame_of n h.frame) ∷ stack_of n script (below_top xs)
topped_named n script is_so xs ys f e h =
    ap (stack_of n script) (h.stack ∙ split_last xs (waiting.Method f) (top_there xs f e) (waiting.Method h.frame))
    ∙ last_named n script (below_top xs) (waiting.Method h.frame)

-- a frame that goes on
pub goes_on_named : (n : Names) (f g : Frame) (cells : List Datum) → f.position < 2 ^ 63 → GoesOn f g cells → frame_of n g ≡ next (with_cells n f cells)
goes_on_named n f g cells low h = λ i. record {
  method = method_at n.program (h.code.method i);
  position = h.position low i;
  registers = values_of n (h.registers i);
  result = value_of n (h.result i);
  caught = value_of n (h.caught i);
}

-- a frame that goes on with an item in a register
pub goes_on_with_named : (n : Names) (f g : Frame) (item : Item) (register : ℕ) (d : Datum) → f.position < 2 ^ 63 → GoesOn f g (with_item item f.registers.items register d) → frame_of n g ≡ next (write_item item (frame_of n f) register (value_of n d))
goes_on_with_named n f g item register d low h = goes_on_named n f g (with_item item f.registers.items register d) low h ∙ ap next (item_is n f item register d)

-- a frame that goes on at a handler
pub handles_named : (n : Names) (f g : Frame) (at : ℕ) (d : Datum) → Handles f g at d → frame_of n g ≡ record (go (frame_of n f) at) { caught = value_of n d }
handles_named n f g at d h = λ i. record {
  method = method_at n.program (h.code.method i);
  position = h.position i;
  registers = values_of n (h.registers i);
  result = value_of n (h.result i);
  caught = value_of n (h.caught i);
}

-- ---- what is on top

replaced : (n : Names) (script : List Move) (is_so : Frame → Type 0) (xs ys : List OwnWaiting) (f : Frame) (b : NamedFrame) → top_frame xs ≡ Some f → (h : IsTopped is_so xs ys) → frame_of n h.frame ≡ b → IsReplaced n script xs ys (frame_of n f) b
replaced n script is_so xs ys f b e h same = record {
  was = top_named n script xs f e;
  is = topped_named n script is_so xs ys f e h ∙ ap (λ (g : NamedFrame). InMethod g ∷ stack_of n script (below_top xs)) same;
}

pub stack_goes_on : (n : Names) (script : List Move) (xs ys : List OwnWaiting) (f : Frame) → top_frame xs ≡ Some f → f.position < 2 ^ 63 → ChangesTop (λ (f g : Frame). GoesOn f g f.registers.items) xs ys → IsReplaced n script xs ys (frame_of n f) (next (frame_of n f))
stack_goes_on n script xs ys f e low h =
    let t = h.top f e in
    replaced n script (λ (g : Frame). GoesOn f g f.registers.items) xs ys f (next (frame_of n f)) e t (goes_on_named n f t.frame f.registers.items low t.so)

pub stack_goes_on_with : (n : Names) (script : List Move) (xs ys : List OwnWaiting) (f : Frame) (item : Item) (register : ℕ) (d : Datum) → top_frame xs ≡ Some f → f.position < 2 ^ 63 → ChangesTop (λ (f g : Frame). GoesOn f g (with_item item f.registers.items register d)) xs ys → IsReplaced n script xs ys (frame_of n f) (next (write_item item (frame_of n f) register (value_of n d)))
stack_goes_on_with n script xs ys f item register d e low h =
    let t = h.top f e in
    replaced n script (λ (g : Frame). GoesOn f g (with_item item f.registers.items register d)) xs ys f (next (write_item item (frame_of n f) register (value_of n d))) e t (goes_on_with_named n f t.frame item register d low t.so)

pub stack_handles : (n : Names) (script : List Move) (xs ys : List OwnWaiting) (f : Frame) (at : ℕ) (d : Datum) → top_frame xs ≡ Some f → ChangesTop (λ (f g : Frame). Handles f g at d) xs ys → IsReplaced n script xs ys (frame_of n f) (record (go (frame_of n f) at) { caught = value_of n d })
stack_handles n script xs ys f at d e h =
    let t = h.top f e in
    replaced n script (λ (g : Frame). Handles f g at d) xs ys f (record (go (frame_of n f) at) { caught = value_of n d }) e t (handles_named n f t.frame at d t.so)
