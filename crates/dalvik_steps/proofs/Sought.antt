-- What a call finds from the frame on top, by numbers and by names.
use Rattle.std.proofs.Common.{◌≡◌, ℕ, ◌<◌, List, [], length, ap, sym, subst, ◌∙◌, ◌⊎◌, inl, inr, Ok, Err, Result}
use Rattle.std.specs.Prelude.{IfOk, Option, Some, None, slice_get}
use Rattle.std.specs.declared.alloc.AllocError.{AllocError}
use Rattle.class_defs.specs.Finding.{finds_static, finds_super}
use Rattle.insn_set.specs.declared.ops.InvokeKind.{InvokeKind}
use Rattle.insn_set.specs.declared.ops.InvokeKind.TheVariants as call
use Rattle.program_model.specs.declared.pools.MethodName.{MethodName}
use Rattle.dalvik_defs.specs.Names.{Text}
use Rattle.dalvik_defs.specs.Naming.{method_at, type_at}
use Rattle.dalvik_defs.specs.Outcome.{receiver}
use Rattle.dalvik_defs.specs.State.{kind_of}
use Rattle.dalvik_defs.specs.declared.names.MethodKey.{MethodKey}
use Rattle.dalvik_lookups.specs.Facing.{named_search, run_face}
use Rattle.dalvik_lookups.specs.Tables.{place_named, search_of, IsRight}
use Rattle.dalvik_lookups.specs.Views.{type_text}
use Rattle.dalvik_lookups.specs.Walks.{found_of, search_by}
use Rattle.dalvik_lookups.specs.declared.finds.Search.{Search}
use Rattle.dalvik_lookups.specs.declared.lookups.Lookups.{Lookups}
use Rattle.dalvik_lookups.specs.declared.types.Kind.{Kind}
use Rattle.dalvik_lookups.proofs.Facing.{right_face}
use Rattle.dalvik_lookups.proofs.Interned.{got_short}
use Rattle.dalvik_state.specs.States.{class_text, top_frame, IsRunning, IsSound, IsSoundFrame}
use Rattle.dalvik_state.specs.Runs.{world_in}
use Rattle.dalvik_state.specs.Views.{frame_of, names_in, value_of, values_of, world_of}
use Rattle.dalvik_state.specs.Worlds.{kind_in, spots_of}
use Rattle.dalvik_state.specs.declared.datum.Datum.{Datum}
use Rattle.dalvik_state.specs.declared.frame.Frame.{Frame}
use Rattle.dalvik_state.specs.declared.state.State.{State}
use Rattle.dalvik_state.specs.declared.world.World.{World}
use Rattle.dalvik_steps.specs.Invoking.{receiver_in, searched}
use Rattle.dalvik_steps.proofs.Invoked.{receiver_named}
use Rattle.dalvik_steps.proofs.Leaving.{top_sound}
use Rattle.dalvik_steps.proofs.Searching.{super_named, virtually_some}

pub virtually_of : (l : Lookups) → IsRight l → (w : World) (d : Datum) (k : Kind) (m : ℕ) → IsSound l w → m < length l.program.now.methods → kind_in (spots_of w) d ≡ Some k → (r : Result Search AllocError)
    → ((q : MethodName) → slice_get l.program.now.methods m ≡ Some q → IfOk r (λ (s : Search). s ≡ found_of l (place_named l.program.now (type_text l.types k)) q))
    → IfOk r (λ (s : Search). named_search l.program.now s ≡ (run_face l).virtually (kind_of (world_of (names_in l) w) (value_of (names_in l) d)) (method_at l.program.now m))
virtually_of l right w d k m s low e (Ok found) h = virtually_some l right w d k m found s low e h
virtually_of l right w d k m s low e (Err x) h = tt

pub super_of : (l : Lookups) → IsRight l → (c m : ℕ) → c < length l.program.now.classes → m < length l.program.now.methods → (r : Result Search AllocError) → IfOk r (λ (s : Search). s ≡ search_by (finds_super l.program.now c m))
    → IfOk r (λ (s : Search). named_search l.program.now s ≡ (run_face l).above (class_text l.program.now c) (method_at l.program.now m))
super_of l right c m lc lm (Ok found) h = super_named l right c m found lc lm h
super_of l right c m lc lm (Err x) h = tt

pub static_named : (l : Lookups) → IsRight l → (m : ℕ) (s : Search) → m < length l.program.now.methods → s ≡ search_of (finds_static l.program.now m) → named_search l.program.now s ≡ (run_face l).statically (method_at l.program.now m)
static_named l right m s low e = ap (named_search l.program.now) e ∙ sym ((right_face l right).statically m low)

-- ---- the class of the frame on top

pub class_named : (l : Lookups) (size : ℕ) (f : Frame) → IsSoundFrame l size f → (frame_of (names_in l) f).method.class ≡ class_text l.program.now f.at.class
class_named l size f h = sym h.of_class ∙ sym (ap (λ o. elim o as (λ o. Text) [ Some d ↦ type_at l.program.now d.name | None ↦ [] ]) h.within)

pub class_low : (l : Lookups) (size : ℕ) (f : Frame) → IsSoundFrame l size f → f.at.class < length l.program.now.classes
class_low l size f h = got_short l.program.now.classes f.at.class h.class h.within

pub step_low : (l : Lookups) (steps : ℕ) (s : State) (f : Frame) (own : ℕ) → IsRunning l steps s → top_frame s.stack.items ≡ Some f → f.at.class ≡ own → own < length l.program.now.classes
step_low l steps s f own r top e = subst (λ (c : ℕ). c < length l.program.now.classes) e (class_low l (length (spots_of s.world)) f (top_sound l steps s f r top))

pub found_named : (l : Lookups) (steps : ℕ) (s : State) (f : Frame) (own : ℕ) (kind : InvokeKind) (key : MethodKey) (values : List Datum) → IsRunning l steps s → top_frame s.stack.items ≡ Some f → f.at.class ≡ own
    → searched (run_face l) kind key (kind_of (world_in l s) (value_of (names_in l) (receiver_in values))) (class_text l.program.now own)
    ≡ searched (run_face l) kind key (kind_of (world_in l s) (receiver (values_of (names_in l) values))) (frame_of (names_in l) f).method.class
found_named l steps s f own kind key values r top e =
    let class = ap (class_text l.program.now) (sym e) ∙ sym (class_named l (length (spots_of s.world)) f (top_sound l steps s f r top)) in
    λ i. searched (run_face l) kind key (kind_of (world_in l s) (sym (receiver_named (names_in l) values) i)) (class i)

-- a static or direct call
pub static_searched : (l : Lookups) → IsRight l → (m : ℕ) (s : Search) (kind : InvokeKind) (t c : Text) → (kind ≡ call.Static) ⊎ (kind ≡ call.Direct) → m < length l.program.now.methods → s ≡ search_of (finds_static l.program.now m) → named_search l.program.now s ≡ searched (run_face l) kind (method_at l.program.now m) t c
static_searched l right m s kind t c (inl k) low e = static_named l right m s low e ∙ ap (λ (x : InvokeKind). searched (run_face l) x (method_at l.program.now m) t c) (sym k)
static_searched l right m s kind t c (inr k) low e = static_named l right m s low e ∙ ap (λ (x : InvokeKind). searched (run_face l) x (method_at l.program.now m) t c) (sym k)
