-- Frames that go on stay fine.
use Rattle.std.proofs.Common.{◌≡◌, ℕ, ◌+◌, ◌<◌, ◌≤◌, List, arith, refl, subst, sym, ◌∙◌}
use Rattle.std.specs.Prelude.{◌^◌, slice_set}
use Rattle.insn_set.specs.declared.ops.Item.{Item}
use Rattle.insn_set.specs.declared.ops.Slot.{Slot}
use Rattle.dalvik_lookups.specs.declared.lookups.Lookups.{Lookups}
use Rattle.dalvik_state.specs.declared.datum.Datum.{Datum}
use Rattle.dalvik_state.specs.declared.effect.Effect.{Effect}
use Rattle.dalvik_state.specs.declared.effect.Effect.TheVariants as effect
use Rattle.dalvik_state.specs.declared.frame.Frame.{Frame}
use Rattle.dalvik_state.specs.Frames.{cell, with_item, with_slot, with_wide, IsMoved, IsSameCode, IsWritten}
use Rattle.dalvik_state.specs.Views.{AreFine, IsFine, IsFineFrame, names_in}
use Rattle.dalvik_state.proofs.Fine.{fine_cells, fine_item, fine_moved, fine_set, fine_slot, fine_wide, fine_written}
use Rattle.dalvik_act.specs.Acted.{IsFineEffect, IsPassed, IsSafe}

pub code_same : (f : Frame) → IsSameCode f f
code_same f = record { at = refl; method = refl; body = refl }

pub code_on : (f g h : Frame) → IsSameCode f g → IsSameCode g h → IsSameCode f h
code_on f g h a b = record { at = b.at ∙ a.at; method = b.method ∙ a.method; body = b.body ∙ a.body }

module _ (l : Lookups) (size : ℕ) where
  pub passed_same : (f : Frame) → IsFineFrame (names_in l) size f → IsPassed l size f f
  passed_same f h = record { fine = h; code = code_same f; paced = λ steps k. omega (arith, k) }

  -- what doesn't go on
  pub stays : (f : Frame) (e : Effect) → IsFineFrame (names_in l) size f → IsFineEffect l size e → IsSafe l size f f e
  stays f e h k = record { frame = passed_same f h; effect = k }

  -- to a target
  pub on_go : (f h : Frame) (at : ℕ) → at < 2 ^ 32 → IsFineFrame (names_in l) size f → IsMoved f h at → IsSafe l size f h effect.Goes
  on_go f h at low k m = record {
    frame = record {
      fine = fine_moved (names_in l) size f h at k m;
      code = m.code;
      paced = λ steps p. let e = m.position in omega (arith, e, low);
    };
    effect = tt;
  }

  -- to the next position
  pub on_next : (f h : Frame) → f.position < 2 ^ 63 → IsFineFrame (names_in l) size f → (f.position < 2 ^ 63 → IsMoved f h (f.position + 1)) → IsSafe l size f h effect.Goes
  on_next f h low k m = record {
    frame = record {
      fine = fine_moved (names_in l) size f h (f.position + 1) k (m low);
      code = (m low).code;
      paced = λ steps p. let e = (m low).position in omega (arith, e, p);
    };
    effect = tt;
  }

  -- to the next position with other registers
  pub on_cells : (f g h : Frame) (cells : List Datum) → f.position < 2 ^ 63 → IsFineFrame (names_in l) size f → IsWritten f g cells → AreFine (names_in l) size cells → (g.position < 2 ^ 63 → IsMoved g h (g.position + 1)) → IsSafe l size f h effect.Goes
  on_cells f g h cells low k w c m =
      let same = w.position in
      let below : g.position < 2 ^ 63 = omega (arith, same, low) in
      let fine = fine_written (names_in l) size f g cells k w c in
      record {
        frame = record {
          fine = fine_moved (names_in l) size g h (g.position + 1) fine (m below);
          code = code_on f g h w.code (m below).code;
          paced = λ steps p. let e = (m below).position in omega (arith, e, p, same);
        };
        effect = tt;
      }

  pub on_set : (f g h : Frame) (r : ℕ) (d : Datum) → IsFine (names_in l) size d → f.position < 2 ^ 63 → IsFineFrame (names_in l) size f → IsWritten f g (slice_set f.registers.items r d) → (g.position < 2 ^ 63 → IsMoved g h (g.position + 1)) → IsSafe l size f h effect.Goes
  on_set f g h r d v low k w m = on_cells f g h (slice_set f.registers.items r d) low k w (fine_set (names_in l) size f.registers.items r d (fine_cells (names_in l) size f k) v) m

  pub on_wide : (f g h : Frame) (r x : ℕ) → f.position < 2 ^ 63 → IsFineFrame (names_in l) size f → IsWritten f g (with_wide f.registers.items r x) → (g.position < 2 ^ 63 → IsMoved g h (g.position + 1)) → IsSafe l size f h effect.Goes
  on_wide f g h r x low k w m = on_cells f g h (with_wide f.registers.items r x) low k w (fine_wide (names_in l) size f.registers.items r x (fine_cells (names_in l) size f k)) m

  pub on_slot : (f g h : Frame) (s : Slot) (r : ℕ) (d : Datum) → IsFine (names_in l) size d → f.position < 2 ^ 63 → IsFineFrame (names_in l) size f → IsWritten f g (with_slot s f.registers.items r d) → (g.position < 2 ^ 63 → IsMoved g h (g.position + 1)) → IsSafe l size f h effect.Goes
  on_slot f g h s r d v low k w m = on_cells f g h (with_slot s f.registers.items r d) low k w (fine_slot (names_in l) size s f.registers.items r d (fine_cells (names_in l) size f k) v) m

  pub on_item : (f g h : Frame) (i : Item) (r : ℕ) (d : Datum) → IsFine (names_in l) size d → f.position < 2 ^ 63 → IsFineFrame (names_in l) size f → IsWritten f g (with_item i f.registers.items r d) → (g.position < 2 ^ 63 → IsMoved g h (g.position + 1)) → IsSafe l size f h effect.Goes
  on_item f g h i r d v low k w m = on_cells f g h (with_item i f.registers.items r d) low k w (fine_item (names_in l) size i f.registers.items r d (fine_cells (names_in l) size f k) v) m

  pub on_pair : (f g h : Frame) (r : ℕ) (d e : Datum) → IsFine (names_in l) size d → IsFine (names_in l) size e → f.position < 2 ^ 63 → IsFineFrame (names_in l) size f → IsWritten f g (slice_set (slice_set f.registers.items r d) (r + 1) e) → (g.position < 2 ^ 63 → IsMoved g h (g.position + 1)) → IsSafe l size f h effect.Goes
  on_pair f g h r d e v u low k w m =
      let n = names_in l in
      on_cells f g h (slice_set (slice_set f.registers.items r d) (r + 1) e) low k w (fine_set n size (slice_set f.registers.items r d) (r + 1) e (fine_set n size f.registers.items r d (fine_cells n size f k) v) u) m

  -- what a register holds
  pub held_fine : (f : Frame) (r : ℕ) (d : Datum) → IsFineFrame (names_in l) size f → d ≡ cell f.registers.items r → IsFine (names_in l) size d
  held_fine f r d k e = subst (IsFine (names_in l) size) (sym e) (k.registers r)
