-- Going on in a frame, by names.
use Rattle.std.proofs.Common.{◌≡◌, ℕ, ◌+◌, ap, ◌∙◌}
use Rattle.std.specs.Prelude.{List, slice_set}
use Rattle.insn_set.specs.declared.ops.Item.{Item}
use Rattle.insn_set.specs.declared.ops.Slot.{Slot}
use Rattle.dalvik_defs.specs.State.{World}
use Rattle.dalvik_defs.specs.declared.state.Frame.{Frame as NamedFrame}
use Rattle.dalvik_defs.specs.Effect.{Goes, next, go, sets, sets_wide, write_slot, write_item, write}
use Rattle.dalvik_state.specs.declared.datum.Datum.{Datum}
use Rattle.dalvik_state.specs.declared.frame.Frame.{Frame}
use Rattle.dalvik_state.specs.Frames.{with_wide, with_slot, with_item, IsWritten, IsMoved}
use Rattle.dalvik_state.specs.Views.{Names, value_of, frame_of}
use Rattle.dalvik_state.proofs.Named.{with_cells, next_named, moved_named, set_is, wide_is, pair_is, slot_is, item_is}

module _ (n : Names) (f g h : Frame) (w : World) (m : IsMoved g h (g.position + 1)) where
  on_with : (cells : List Datum) (to : NamedFrame) → IsWritten f g cells → with_cells n f cells ≡ to → Goes w (frame_of n h) ≡ Goes w (next to)
  on_with cells to s e = ap (Goes w) (next_named n f g h cells s m ∙ ap next e)

  pub on_set : (r : ℕ) (d : Datum) → IsWritten f g (slice_set f.registers.items r d) → Goes w (frame_of n h) ≡ sets w (frame_of n f) r (value_of n d)
  on_set r d s = on_with _ _ s (set_is n f r d)

  pub on_wide : (r x : ℕ) → IsWritten f g (with_wide f.registers.items r x) → Goes w (frame_of n h) ≡ sets_wide w (frame_of n f) r x
  on_wide r x s = on_with _ _ s (wide_is n f r x)

  pub on_pair : (r : ℕ) (d e : Datum) → IsWritten f g (slice_set (slice_set f.registers.items r d) (r + 1) e) → Goes w (frame_of n h) ≡ Goes w (next (write (write (frame_of n f) r (value_of n d)) (r + 1) (value_of n e)))
  on_pair r d e s = on_with _ _ s (pair_is n f r d e)

  pub on_slot : (s : Slot) (r : ℕ) (d : Datum) → IsWritten f g (with_slot s f.registers.items r d) → Goes w (frame_of n h) ≡ Goes w (next (write_slot s (frame_of n f) r (value_of n d)))
  on_slot s r d e = on_with _ _ e (slot_is n f s r d)

  pub on_item : (i : Item) (r : ℕ) (d : Datum) → IsWritten f g (with_item i f.registers.items r d) → Goes w (frame_of n h) ≡ Goes w (next (write_item i (frame_of n f) r (value_of n d)))
  on_item i r d e = on_with _ _ e (item_is n f i r d)

pub on_next : (n : Names) (f h : Frame) (w : World) → IsMoved f h (f.position + 1) → Goes w (frame_of n h) ≡ Goes w (next (frame_of n f))
on_next n f h w m = ap (Goes w) (moved_named n f h (f.position + 1) m)

pub on_go : (n : Names) (f h : Frame) (w : World) (at : ℕ) → IsMoved f h at → Goes w (frame_of n h) ≡ Goes w (go (frame_of n f) at)
on_go n f h w at m = ap (Goes w) (moved_named n f h at m)
