-- Numbers that instructions answer, by names.
use Rattle.std.proofs.Common.{◌≡◌, ℕ, ◌%◌, ◌^◌, true, false, ap, refl, sym, ◌∙◌}
use Rattle.std.specs.Prelude.{ℤ, Option, Some, None}
use Rattle.std.specs.Option.{option_map}
use Rattle.std.specs.Int.{w32, cast_unsigned}
use Rattle.insn_set.specs.declared.ops.BinaryOp.{BinaryOp}
use Rattle.insn_set.specs.declared.ops.LiteralOp.{LiteralOp}
use Rattle.dalvik_defs.specs.Arith.{answer, literal_answer}
use Rattle.dalvik_defs.specs.Operators.{Sort, OnWord, OnWide, Shifts, OnFloat, OnDouble, Number, OneWord, OneWide, sort_of}
use Rattle.dalvik_defs.specs.State.{World, word_of}
use Rattle.dalvik_defs.specs.declared.state.Frame.{Frame as NamedFrame}
use Rattle.dalvik_defs.specs.ActNumber.{number, word, gives_word, gives_wide, binary, literal}
use Rattle.dalvik_defs.specs.declared.tables.Floats.{Floats}
use Rattle.dalvik_numbers.specs.Kinds.{answered}
use Rattle.dalvik_state.specs.declared.frame.Frame.{Frame}
use Rattle.dalvik_state.specs.Frames.{cell, number_in}
use Rattle.dalvik_state.specs.Views.{Names, frame_of}
use Rattle.dalvik_state.proofs.Named.{cell_named, number_named}
use Rattle.dalvik_act.specs.Acting.{gives}

-- what a register's number is
pub number_at : (n : Names) (f : Frame) (r : ℕ) → number_in (cell f.registers.items r) ≡ number (frame_of n f) r
number_at n f r = sym (ap word_of (cell_named n f r) ∙ number_named n (cell f.registers.items r))

pub word_given : (o : Option ℕ) (w : World) (f : NamedFrame) (to : ℕ) → gives (option_map OneWord o) w f to ≡ gives_word o w f to
word_given None w f to = refl
word_given (Some x) w f to = refl

wide_given : (o : Option ℕ) (w : World) (f : NamedFrame) (to : ℕ) → gives (option_map OneWide o) w f to ≡ gives_wide o w f to
wide_given None w f to = refl
wide_given (Some x) w f to = refl

sorted : (floats : Floats) (s : Sort) (w : World) (f : NamedFrame) (to a b : ℕ) → gives (answered floats s (number f a) (number f b)) w f to ≡ binary floats s w f to a b
sorted floats (OnWord k) w f to a b = word_given (answer k false (word f a) (word f b)) w f to
sorted floats (OnWide k) w f to a b = wide_given (answer k true (number f a) (number f b)) w f to
sorted floats (Shifts k) w f to a b = wide_given (answer k true (number f a) (number f b)) w f to
sorted floats (OnFloat op) w f to a b = refl
sorted floats (OnDouble op) w f to a b = refl

module _ (n : Names) (f : Frame) (w : World) where
  -- a number that two registers give
  pub binary_gives : (floats : Floats) (op : BinaryOp) (to a b : ℕ) (o : Option Number)
      → o ≡ answered floats (sort_of op) (number_in (cell f.registers.items a)) (number_in (cell f.registers.items b))
      → gives o w (frame_of n f) to ≡ binary floats (sort_of op) w (frame_of n f) to a b
  binary_gives floats op to a b o e =
      ap (λ (x : Option Number). gives x w (frame_of n f) to) (e ∙ (λ i. answered floats (sort_of op) (number_at n f a i) (number_at n f b i)))
      ∙ sorted floats (sort_of op) w (frame_of n f) to a b

  -- a word that a register and a literal give
  pub literal_gives : (op : LiteralOp) (to a : ℕ) (z : ℤ) (o : Option Number)
      → o ≡ option_map OneWord (literal_answer op (number_in (cell f.registers.items a) % 2 ^ 32) (cast_unsigned w32 z))
      → gives o w (frame_of n f) to ≡ literal op w (frame_of n f) to a z
  literal_gives op to a z o e =
      ap (λ (x : Option Number). gives x w (frame_of n f) to) (e ∙ ap (λ (x : ℕ). option_map OneWord (literal_answer op (x % 2 ^ 32) (cast_unsigned w32 z))) (number_at n f a))
      ∙ word_given (literal_answer op (word (frame_of n f) a) (cast_unsigned w32 z)) w (frame_of n f) to
