-- Registers and frames by names.
use Rattle.std.proofs.Common.{◌≡◌, ℕ, ◌+◌, List, ap, refl, sym, ◌∙◌}
use Rattle.std.specs.Prelude.{slice_get, slice_set, slice_index_or}
use Rattle.insn_set.specs.declared.ops.Item.{Item}
use Rattle.insn_set.specs.declared.ops.Item.TheVariants as item
use Rattle.insn_set.specs.declared.ops.Slot.{Slot}
use Rattle.insn_set.specs.declared.ops.Slot.TheVariants as slot
use Rattle.std.proofs.lemmas.List.{map-set}
use lib.ListN.{get_or-map}
use Rattle.dalvik_defs.specs.Naming.{method_at}
use Rattle.dalvik_defs.specs.State.{word_of, is_null}
use Rattle.dalvik_defs.specs.declared.state.Value.{Value}
use Rattle.dalvik_defs.specs.declared.state.Value.TheVariants.{Word, Low, High}
use Rattle.dalvik_defs.specs.declared.state.Frame.{Frame as NamedFrame}
use Rattle.dalvik_defs.specs.Effect.{register, write, write_wide, write_slot, write_item, next, go}
use Rattle.dalvik_state.specs.declared.datum.Datum.{Datum}
use Rattle.dalvik_state.specs.declared.datum.Datum.TheVariants as datum
use Rattle.dalvik_state.specs.declared.frame.Frame.{Frame}
use Rattle.dalvik_state.specs.Frames.{cell, number_in, is_null_in, with_wide, with_slot, with_item, IsWritten, IsMoved}
use Rattle.dalvik_state.specs.Views.{Names, value_of, values_of, frame_of}

-- ---- values

pub number_named : (n : Names) (d : Datum) → word_of (value_of n d) ≡ number_in d
number_named n (datum.Word x) = refl
number_named n (datum.Low x) = refl
number_named n (datum.High x) = refl
number_named n (datum.Object x) = refl
number_named n (datum.Literal x) = refl
number_named n (datum.Class x) = refl

pub null_named : (n : Names) (d : Datum) → is_null (value_of n d) ≡ is_null_in d
null_named n (datum.Word x) = refl
null_named n (datum.Low x) = refl
null_named n (datum.High x) = refl
null_named n (datum.Object x) = refl
null_named n (datum.Literal x) = refl
null_named n (datum.Class x) = refl

-- ---- registers

pub cell_named : (n : Names) (f : Frame) (r : ℕ) → register (frame_of n f) r ≡ value_of n (cell f.registers.items r)
cell_named n f r = get_or-map (value_of n) f.registers.items r (datum.Word 0)

-- registers that are written
abbrev pub with_cells : Names → Frame → List Datum → NamedFrame
with_cells n f cells = record (frame_of n f) { registers = values_of n cells }

set_named : (n : Names) (f : Frame) (cells : List Datum) (r : ℕ) (d : Datum) → with_cells n f (slice_set cells r d) ≡ write (with_cells n f cells) r (value_of n d)
set_named n f cells r d = ap (λ (vs : List Value). record (frame_of n f) { registers = vs }) (map-set (value_of n) cells r d)

pub set_is : (n : Names) (f : Frame) (r : ℕ) (d : Datum) → with_cells n f (slice_set f.registers.items r d) ≡ write (frame_of n f) r (value_of n d)
set_is n f r d = set_named n f f.registers.items r d

pub wide_is : (n : Names) (f : Frame) (r x : ℕ) → with_cells n f (with_wide f.registers.items r x) ≡ write_wide (frame_of n f) r x
wide_is n f r x = set_named n f (slice_set f.registers.items r (datum.Low x)) (r + 1) (datum.High x) ∙ ap (λ (g : NamedFrame). write g (r + 1) (High x)) (set_is n f r (datum.Low x))

pub pair_is : (n : Names) (f : Frame) (r : ℕ) (d e : Datum) → with_cells n f (slice_set (slice_set f.registers.items r d) (r + 1) e) ≡ write (write (frame_of n f) r (value_of n d)) (r + 1) (value_of n e)
pair_is n f r d e = set_named n f (slice_set f.registers.items r d) (r + 1) e ∙ ap (λ (g : NamedFrame). write g (r + 1) (value_of n e)) (set_is n f r d)

whole_is : (n : Names) (f : Frame) (r : ℕ) (d : Datum) → with_cells n f (with_wide f.registers.items r (number_in d)) ≡ write_wide (frame_of n f) r (word_of (value_of n d))
whole_is n f r d = wide_is n f r (number_in d) ∙ ap (write_wide (frame_of n f) r) (sym (number_named n d))

pub slot_is : (n : Names) (f : Frame) (s : Slot) (r : ℕ) (d : Datum) → with_cells n f (with_slot s f.registers.items r d) ≡ write_slot s (frame_of n f) r (value_of n d)
slot_is n f slot.Word r d = set_is n f r d
slot_is n f slot.Object r d = set_is n f r d
slot_is n f slot.Wide r d = whole_is n f r d

pub item_is : (n : Names) (f : Frame) (i : Item) (r : ℕ) (d : Datum) → with_cells n f (with_item i f.registers.items r d) ≡ write_item i (frame_of n f) r (value_of n d)
item_is n f item.Wide r d = whole_is n f r d
item_is n f item.Plain r d = set_is n f r d
item_is n f item.Object r d = set_is n f r d
item_is n f item.Boolean r d = set_is n f r d
item_is n f item.Byte r d = set_is n f r d
item_is n f item.Char r d = set_is n f r d
item_is n f item.Short r d = set_is n f r d

-- ---- frames

pub written_named : (n : Names) (f g : Frame) (cells : List Datum) → IsWritten f g cells → frame_of n g ≡ with_cells n f cells
written_named n f g cells h = λ i. record {
  method = method_at n.program (h.code.method i);
  position = h.position i;
  registers = values_of n (h.registers i);
  result = value_of n (h.result i);
  caught = value_of n (h.caught i);
}

pub moved_named : (n : Names) (f g : Frame) (at : ℕ) → IsMoved f g at → frame_of n g ≡ go (frame_of n f) at
moved_named n f g at h = λ i. record {
  method = method_at n.program (h.code.method i);
  position = h.position i;
  registers = values_of n (h.registers i);
  result = value_of n (h.result i);
  caught = value_of n (h.caught i);
}

-- written, and on at the next position
pub next_named : (n : Names) (f g h : Frame) (cells : List Datum) → IsWritten f g cells → IsMoved g h (g.position + 1) → frame_of n h ≡ next (with_cells n f cells)
next_named n f g h cells w m = moved_named n g h (g.position + 1) m ∙ ap next (written_named n f g cells w)
