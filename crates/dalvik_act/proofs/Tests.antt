-- Tests and switches, by names.
use Rattle.std.proofs.Common.{◌≡◌, ℕ, ◌+◌, ◌-◌, ◌%◌, ◌^◌, Bool, false, arith, ap, sym, subst, ◌∙◌}
use Rattle.std.specs.Prelude.{ℤ, List, not, int_lt, int_le, slice_get}
use Rattle.std.specs.Int.{w32, cast_signed, cast_unsigned}
use Rattle.insn_set.specs.declared.ops.Test.{Test}
use Rattle.insn_set.specs.declared.ops.Test.TheVariants.{Eq, Ne, Lt, Ge, Gt, Le}
use Rattle.dalvik_defs.specs.Arith.{passes, signed}
use Rattle.dalvik_defs.specs.ActPlain.{packed_target}
use Rattle.dalvik_defs.specs.State.{word_of}
use Rattle.dalvik_state.specs.declared.datum.Datum.{Datum}
use Rattle.dalvik_defs.specs.Effect.{register}
use Rattle.dalvik_defs.specs.declared.state.Value.{Value}
use Rattle.dalvik_defs.specs.declared.state.Value.TheVariants.{Word}
use Rattle.dalvik_state.specs.declared.datum.Datum.TheVariants as datum
use Rattle.dalvik_state.specs.declared.frame.Frame.{Frame}
use Rattle.dalvik_state.specs.Frames.{cell, number_in}
use Rattle.dalvik_state.specs.Views.{IsFine, IsFineFrame, Names, TellsApart, frame_of, value_of}
use Rattle.dalvik_act.specs.Acting.{passes_in}
use Rattle.dalvik_act.proofs.Outward.{held}
use Rattle.dalvik_state.proofs.Named.{number_named}
use Rattle.dalvik_state.proofs.Sameness.{same_named}

cut_twice : (x : ℕ) → x % 2 ^ 32 % 2 ^ 32 ≡ x % 2 ^ 32
cut_twice x = omega arith

-- a signed number is spelled by the low bits alone
pub signed_cut : (x : ℕ) → signed false (x % 2 ^ 32) ≡ signed false x
signed_cut x = ap (cast_signed w32) (cut_twice x)

module _ (n : Names) where
  whole : (d : Datum) → signed false (number_in d % 2 ^ 32) ≡ signed false (word_of (value_of n d))
  whole d = signed_cut (number_in d) ∙ ap (signed false) (sym (number_named n d))

  by_numbers : (f : ℤ → ℤ → Bool) (c d : Datum) → f (signed false (number_in c % 2 ^ 32)) (signed false (number_in d % 2 ^ 32)) ≡ f (signed false (word_of (value_of n c))) (signed false (word_of (value_of n d)))
  by_numbers f c d = λ i. f (whole c i) (whole d i)

  pub passes_named : (size : ℕ) (test : Test) (a b : Datum) → TellsApart n → IsFine n size a → IsFine n size b → passes_in test a b ≡ passes test (value_of n a) (value_of n b)
  passes_named size Eq a b t h k = sym (same_named n size a b t h k)
  passes_named size Ne a b t h k = ap not (sym (same_named n size a b t h k))
  passes_named size Lt a b t h k = by_numbers int_lt a b
  passes_named size Ge a b t h k = by_numbers int_le b a
  passes_named size Gt a b t h k = by_numbers int_lt b a
  passes_named size Le a b t h k = by_numbers int_le a b

-- what a test of registers asks, in a frame whose values are fine
module _ (n : Names) (f : Frame) (size : ℕ) (apart : TellsApart n) (fine : IsFineFrame n size f) (test : Test) (a : ℕ) (d : Datum) (read : d ≡ cell f.registers.items a) where
  sound : IsFine n size d
  sound = subst (IsFine n size) (sym read) (fine.registers a)

  named : value_of n d ≡ register (frame_of n f) a
  named = ap (value_of n) read ∙ held n f a

  pub tests_zero : (holds : Bool) → holds ≡ passes_in test d (datum.Word 0) → holds ≡ passes test (register (frame_of n f) a) (Word 0)
  tests_zero holds e = e ∙ passes_named n size test d (datum.Word 0) apart sound tt ∙ ap (λ (v : Value). passes test v (Word 0)) named

  pub tests_two : (b : ℕ) (x : Datum) (holds : Bool) → x ≡ cell f.registers.items b → holds ≡ passes_in test d x → holds ≡ passes test (register (frame_of n f) a) (register (frame_of n f) b)
  tests_two b x holds r e = e ∙ passes_named n size test d x apart sound (subst (IsFine n size) (sym r) (fine.registers b)) ∙ (λ i. passes test (named i) ((ap (value_of n) r ∙ held n f b) i))

cut_first : (x k : ℕ) → (x % 2 ^ 32 + k) % 2 ^ 32 ≡ (x + k) % 2 ^ 32
cut_first x k = omega arith

-- a switch looks at the low bits alone
pub packed_cut : (x : ℕ) (first : ℤ) (targets : List ℕ) → packed_target (x % 2 ^ 32) first targets ≡ packed_target x first targets
packed_cut x first targets = ap (slice_get targets) (cut_first x (2 ^ 32 - cast_unsigned w32 first))
