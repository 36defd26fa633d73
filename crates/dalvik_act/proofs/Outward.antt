-- What leaves a frame, by names.
use Rattle.std.proofs.Common.{◌≡◌, ℕ, ap, sym, ◌∙◌}
use Rattle.std.specs.Prelude.{Some, None}
use Rattle.insn_set.specs.declared.ops.Item.{Item}
use Rattle.dalvik_defs.specs.Items.{stored}
use Rattle.dalvik_defs.specs.declared.state.Value.{Value}
use Rattle.dalvik_defs.specs.Effect.{Throws, Gives, Reads, Writes, register, unless_null}
use Rattle.dalvik_defs.specs.declared.names.FieldKey.{FieldKey}
use Rattle.dalvik_state.specs.declared.datum.Datum.{Datum}
use Rattle.dalvik_state.specs.declared.frame.Frame.{Frame}
use Rattle.dalvik_state.specs.Frames.{cell}
use Rattle.dalvik_state.specs.Views.{Names, value_of, frame_of}
use Rattle.dalvik_state.proofs.Named.{cell_named}

module _ (n : Names) (f : Frame) where
  pub held : (r : ℕ) → value_of n (cell f.registers.items r) ≡ register (frame_of n f) r
  held r = sym (cell_named n f r)

  pub gives_named : (r : ℕ) → Gives (Some (value_of n (cell f.registers.items r))) ≡ Gives (Some (register (frame_of n f) r))
  gives_named r = ap (λ (v : Value). Gives (Some v)) (held r)

  pub throws_named : (r : ℕ) → unless_null (value_of n (cell f.registers.items r)) (Throws (value_of n (cell f.registers.items r))) ≡ unless_null (register (frame_of n f) r) (Throws (register (frame_of n f) r))
  throws_named r = ap (λ (v : Value). unless_null v (Throws v)) (held r)

  pub reads_named : (item : Item) (to r : ℕ) (k : FieldKey) → unless_null (value_of n (cell f.registers.items r)) (Reads item to k (Some (value_of n (cell f.registers.items r)))) ≡ unless_null (register (frame_of n f) r) (Reads item to k (Some (register (frame_of n f) r)))
  reads_named item to r k = ap (λ (v : Value). unless_null v (Reads item to k (Some v))) (held r)

  -- a value that is stored
  kept : (item : Item) (from : ℕ) (d : Datum) → value_of n d ≡ stored item (value_of n (cell f.registers.items from)) → value_of n d ≡ stored item (register (frame_of n f) from)
  kept item from d e = e ∙ ap (stored item) (held from)

  pub writes_named : (item : Item) (from r : ℕ) (k : FieldKey) (d : Datum) → value_of n d ≡ stored item (value_of n (cell f.registers.items from))
      → unless_null (value_of n (cell f.registers.items r)) (Writes k (Some (value_of n (cell f.registers.items r))) (value_of n d))
      ≡ unless_null (register (frame_of n f) r) (Writes k (Some (register (frame_of n f) r)) (stored item (register (frame_of n f) from)))
  writes_named item from r k d e = ap (λ (v : Value). unless_null v (Writes k (Some v) (value_of n d))) (held r) ∙ ap (λ (v : Value). unless_null (register (frame_of n f) r) (Writes k (Some (register (frame_of n f) r)) v)) (kept item from d e)

  pub puts_named : (item : Item) (from : ℕ) (k : FieldKey) (d : Datum) → value_of n d ≡ stored item (value_of n (cell f.registers.items from))
      → Writes k None (value_of n d) ≡ Writes k None (stored item (register (frame_of n f) from))
  puts_named item from k d e = ap (Writes k None) (kept item from d e)
