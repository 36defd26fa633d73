-- A value that comes back to a frame, by numbers and by names.
use Rattle.std.proofs.Common.{◌≡◌, ℕ, ◌+◌, ◌<◌, ◌≤◌, List, arith, ap, refl, sym, subst, ◌∙◌}
use Rattle.std.specs.Prelude.{◌^◌, Option, Some, None, slice_get}
use Rattle.std.specs.Option.{option_map}
use Rattle.insn_set.specs.declared.form.Insn.{Insn}
use Rattle.insn_set.specs.declared.form.Insn.TheVariants as insn
use Rattle.dalvik_defs.specs.Effect.{next}
use Rattle.dalvik_defs.specs.Naming.{form_of, method_at}
use Rattle.dalvik_defs.specs.Stack.{back, receives}
use Rattle.dalvik_defs.specs.declared.forms.Form.{Form}
use Rattle.dalvik_defs.specs.declared.state.Frame.{Frame as NamedFrame}
use Rattle.dalvik_lookups.specs.Tables.{IsRight}
use Rattle.dalvik_lookups.specs.declared.lookups.Lookups.{Lookups}
use Rattle.dalvik_state.specs.declared.datum.Datum.{Datum}
use Rattle.dalvik_state.specs.declared.datum.Datum.TheVariants as datum
use Rattle.dalvik_state.specs.declared.frame.Frame.{Frame}
use Rattle.dalvik_state.specs.Frames.{cell}
use Rattle.dalvik_state.specs.Runs.{bodies_in}
use Rattle.dalvik_state.specs.States.{IsSoundFrame}
use Rattle.dalvik_state.specs.Views.{Names, frame_of, names_in, value_of, values_of, IsFine}
use Rattle.dalvik_state.proofs.Bodies.{frame_form}
use Rattle.dalvik_state.proofs.Fine.{fine_cells, fine_item}
use Rattle.dalvik_state.proofs.Running.{sound_goes_on, sound_same_code}
use Rattle.dalvik_state.proofs.Tops.{goes_on_with_named}
use Rattle.dalvik_steps.specs.Backs.{asked_by, Backs, BacksBy, TakesResult}

-- ---- by names

takes_named : (n : Names) (f g : Frame) (d : Datum) → f.position < 2 ^ 63 → TakesResult f g d → frame_of n g ≡ next (record (frame_of n f) { result = value_of n d })
takes_named n f g d low h = λ i. record {
  method = method_at n.program (h.code.method i);
  position = h.position low i;
  registers = values_of n (h.registers i);
  result = value_of n (h.result i);
  caught = value_of n (h.caught i);
}

received : (n : Names) (f g : Frame) (d : Datum) (o : Option Insn) → f.position < 2 ^ 63 → BacksBy (Some d) (asked_by o) f g → frame_of n g ≡ receives (option_map (form_of n.program) o) (frame_of n f) (value_of n d)
received n f g d (Some (insn.InstanceGet item to on field)) low h = goes_on_with_named n f g item to d low h
received n f g d (Some (insn.StaticGet item to field)) low h = goes_on_with_named n f g item to d low h
received n f g d None low h = takes_named n f g d low h
received n f g d (Some other) low h = takes_named n f g d low h

pub backs_named : (l : Lookups) → IsRight l → (size : ℕ) (f g : Frame) (value : Option Datum) → IsSoundFrame l size f → f.position < 2 ^ 63 → Backs value f g
    → frame_of (names_in l) g ≡ back (bodies_in l) (frame_of (names_in l) f) (option_map (value_of (names_in l)) value)
backs_named l r size f g None s low h = takes_named (names_in l) f g (datum.Word 0) low h.backs
backs_named l r size f g (Some d) s low h =
    received (names_in l) f g d (slice_get f.body.now.insns f.position) low h.backs
    ∙ sym (ap (λ (o : Option Form). receives o (frame_of (names_in l) f) (value_of (names_in l) d)) (frame_form l r size f s))

-- ---- what a run keeps

-- a value that may be none is fine
abbrev pub FineMaybe : Names → ℕ → Option Datum → Type 0
FineMaybe n size None = Unit {0}
FineMaybe n size (Some d) = IsFine n size d

sound_takes : (l : Lookups) (size : ℕ) (f g : Frame) (d : Datum) → IsSoundFrame l size f → IsFine (names_in l) size d → TakesResult f g d → IsSoundFrame l size g
sound_takes l size f g d s fine h = sound_same_code l size f g s h.code (record {
  registers = λ r. subst (λ (ds : List Datum). IsFine (names_in l) size (cell ds r)) (sym h.registers) (s.fine.registers r);
  result = subst (IsFine (names_in l) size) (sym h.result) fine;
  caught = subst (IsFine (names_in l) size) (sym h.caught) s.fine.caught;
})

sound_received : (l : Lookups) (size : ℕ) (f g : Frame) (d : Datum) (o : Option Insn) → IsSoundFrame l size f → IsFine (names_in l) size d → BacksBy (Some d) (asked_by o) f g → IsSoundFrame l size g
sound_received l size f g d (Some (insn.InstanceGet item to on field)) s fine h = sound_goes_on l size f g _ s h (fine_item (names_in l) size item f.registers.items to d (fine_cells (names_in l) size f s.fine) fine)
sound_received l size f g d (Some (insn.StaticGet item to field)) s fine h = sound_goes_on l size f g _ s h (fine_item (names_in l) size item f.registers.items to d (fine_cells (names_in l) size f s.fine) fine)
sound_received l size f g d None s fine h = sound_takes l size f g d s fine h
sound_received l size f g d (Some other) s fine h = sound_takes l size f g d s fine h

pub backs_sound : (l : Lookups) (size : ℕ) (f g : Frame) (value : Option Datum) → IsSoundFrame l size f → FineMaybe (names_in l) size value → Backs value f g → IsSoundFrame l size g
backs_sound l size f g None s fine h = sound_takes l size f g (datum.Word 0) s tt h.backs
backs_sound l size f g (Some d) s fine h = sound_received l size f g d (slice_get f.body.now.insns f.position) s fine h.backs

paced_received : (f g : Frame) (d : Datum) (o : Option Insn) → f.position < 2 ^ 63 → BacksBy (Some d) (asked_by o) f g → g.position ≡ f.position + 1
paced_received f g d (Some (insn.InstanceGet item to on field)) low h = h.position low
paced_received f g d (Some (insn.StaticGet item to field)) low h = h.position low
paced_received f g d None low h = h.position low
paced_received f g d (Some other) low h = h.position low

pub backs_paced : (f g : Frame) (value : Option Datum) → f.position < 2 ^ 63 → Backs value f g → g.position ≡ f.position + 1
backs_paced f g None low h = h.backs.position low
backs_paced f g (Some d) low h = paced_received f g d (slice_get f.body.now.insns f.position) low h.backs
