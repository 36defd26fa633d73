-- What the frame on top passes, by numbers and by names.
use Rattle.std.proofs.Common.{◌≡◌, ℕ, Bool, true, false, List, length, map, ap, refl, sym, subst, ◌∙◌}
use Rattle.std.specs.Prelude.{◌&&◌, Some}
use Rattle.dalvik_defs.specs.Effect.{register}
use Rattle.dalvik_defs.specs.Outcome.{receiver}
use Rattle.dalvik_defs.specs.State.{is_null}
use Rattle.dalvik_defs.specs.declared.state.Value.{Value}
use Rattle.dalvik_lookups.specs.declared.lookups.Lookups.{Lookups}
use Rattle.dalvik_state.specs.Frames.{is_null_in}
use Rattle.dalvik_state.specs.States.{top_frame, IsRunning}
use Rattle.dalvik_state.specs.Views.{frame_of, names_in, values_of, AreFine, Names}
use Rattle.dalvik_state.specs.Worlds.{spots_of}
use Rattle.dalvik_state.specs.declared.datum.Datum.{Datum}
use Rattle.dalvik_state.specs.declared.frame.Frame.{Frame}
use Rattle.dalvik_state.specs.declared.state.State.{State}
use Rattle.dalvik_state.proofs.Fine.{fine_cells, fine_read}
use Rattle.dalvik_state.proofs.Named.{null_named}
use Rattle.dalvik_steps.specs.Invoking.{receiver_in, FramesPass}
use Rattle.dalvik_steps.proofs.Invoked.{passed_named, receiver_named}
use Rattle.dalvik_steps.proofs.Leaving.{top_sound}

pub values_passed : (n : Names) (f : Frame) (args : List ℕ) (values : List Datum) (on : Datum) (own : ℕ) → FramesPass f args values on own → map (register (frame_of n f)) args ≡ values_of n values
values_passed n f args values on own h = passed_named n f args ∙ ap (values_of n) (sym h.all)

pub null_passed : (n : Names) (f : Frame) (args : List ℕ) (values : List Datum) (on : Datum) (own : ℕ) (b c : Bool) → FramesPass f args values on own → b ≡ is_null_in on → b ≡ c → is_null (receiver (values_of n values)) ≡ c
null_passed n f args values on own b c h e same = ap is_null (receiver_named n values) ∙ null_named n (receiver_in values) ∙ ap is_null_in (sym h.first) ∙ sym e ∙ same

pub fine_passed : (l : Lookups) (steps : ℕ) (s : State) (f : Frame) (args : List ℕ) (values : List Datum) (on : Datum) (own : ℕ) → IsRunning l steps s → top_frame s.stack.items ≡ Some f → FramesPass f args values on own → AreFine (names_in l) (length (spots_of s.world)) values
fine_passed l steps s f args values on own r top h =
    let size = length (spots_of s.world) in
    subst (AreFine (names_in l) size) (sym h.all) (fine_read (names_in l) size f.registers.items args (fine_cells (names_in l) size f (top_sound l steps s f r top).fine))

pub no_second : (a b : Bool) → b ≡ false → (a && b) ≡ false
no_second true b e = e
no_second false b e = refl
