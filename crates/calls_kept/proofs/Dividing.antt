-- An operation that never throws by what is known of its second operand writes a number into its registers, and goes on.
use Rattle.std.proofs.Common.{◌≡◌, ◌⊎◌, inl, inr, ℕ, ◌+◌, ◌<◌, ℤ, pos, Bool, true, false, true≢false, List, [], ◌∷◌, Option, Some, None, refl, sym, ap, ◌∙◌, subst, arith, nat_eq}
use Rattle.std.specs.Prelude.{◌%◌, ◌^◌, ◌==◌, ◌||◌, not, if◌then◌else◌, is_some, slice_set}
use Rattle.std.specs.Int.{w32, cast_unsigned}
use Rattle.std.specs.Option.{option_map}
use Rattle.std.specs.Ordering.{int_eq}
use Rattle.std.proofs.lemmas.Bool.{eqb-true, eq-eqb}
use Rattle.std.proofs.lemmas.Int.{ints}
use Rattle.insn_set.specs.Flow.{divides, divides_by_literal}
use Rattle.insn_set.specs.Registers.{in_operand}
use Rattle.insn_set.specs.Widths.{binary_is_wide, second_is_wide}
use Rattle.insn_set.specs.declared.ops.BinaryOp.{BinaryOp}
use Rattle.insn_set.specs.declared.ops.BinaryOp.TheVariants as binaries
use Rattle.insn_set.specs.declared.ops.LiteralOp.{LiteralOp}
use Rattle.insn_set.specs.declared.ops.LiteralOp.TheVariants as literals
use Rattle.dalvik_defs.specs.Names.{Text}
use Rattle.dalvik_defs.specs.Arith.{Kind, Div, Rem, answer, literal_answer}
use Rattle.dalvik_defs.specs.Operators.{Sort, OnWord, OnWide, Shifts, OnFloat, OnDouble, sort_of, float_word, float_wide}
use Rattle.dalvik_defs.specs.State.{World, kind_of, word_of}
use Rattle.dalvik_defs.specs.declared.state.Value.{Value}
use Rattle.dalvik_defs.specs.declared.state.Value.TheVariants as machine
use Rattle.dalvik_defs.specs.declared.state.Frame.{Frame}
use Rattle.dalvik_defs.specs.Effect.{Effect, Goes, register}
use Rattle.dalvik_defs.specs.ActNumber.{number, word, gives_word, gives_wide, binary, literal}
use Rattle.dalvik_defs.specs.declared.program.NamedProgram.{NamedProgram}
use Rattle.dalvik_defs.specs.declared.tables.Floats.{Floats}
use Rattle.domains.specs.Values.{Parts, value_holds, known_of, known_wide_of}
use Rattle.value_ops.specs.Left.{is_nothing}
use Rattle.program_laws.specs.Agree.{Agree}
use Rattle.program_laws.proofs.Agree.{agree_on, agree_write}
use Rattle.lemmas.proofs.Bools.{not_true, or_cases, or_false_left, or_false_right}
use Rattle.run_laws.proofs.Forms.{sort_divides, sort_throws, divides_op, literal_divides}
use Rattle.run_facts.specs.ValueAnalysis.{datum_of}
use Rattle.cover_law.specs.Sound.{IsSmall, IsWord, NumberOf}
use Rattle.const_prop.specs.declared.numbers.Number.TheVariants.{Word, Wide}
use Rattle.const_prop.specs.Known.{number_of, only_number, zero_number}
use Rattle.facts_kept.specs.Known.{IsNumber}
use Rattle.facts_kept.proofs.Only.{only, nothing_held}
use Rattle.quiet_methods.specs.Forms.{is_other_than_zero, is_no_zero, never_throws}

-- ---- a value that is known other than 0

not_zero : (v : Value) (n : ℕ) → IsNumber (Wide n) v → not (n == 0) ≡ true → nat_eq (word_of v) 0 ≡ false
not_zero (machine.Low m) n k e = ap (λ j. nat_eq j 0) k ∙ not_true (nat_eq n 0) e
not_zero (machine.High m) n k e = ap (λ j. nat_eq j 0) k ∙ not_true (nat_eq n 0) e
not_zero (machine.Word m) n k e = absurd k
not_zero (machine.Object m) n k e = absurd k
not_zero (machine.Literal t) n k e = absurd k
not_zero (machine.Class t) n k e = absurd k

module _ (p : NamedProgram) (v : Parts) (k : Text) (u : Value) (held : value_holds v (datum_of p k u)) where
  by_number : (b : Bool) (o : Option ℕ) → only_number b v ≡ option_map (if b then Wide else Word) o → is_nothing v ≡ false → is_other_than_zero o ≡ true → nat_eq (word_of u) 0 ≡ false
  by_number b None e i j = absurd (true≢false (sym j))
  by_number true (Some n) e i j = not_zero u n (only p v true (Wide n) (ap (λ c. if c then Some (zero_number true) else only_number true v) i ∙ e) k u held) j
  by_number false (Some n) e i j = ap (λ z. nat_eq (word_of z) 0) (only p v false (Word n) (ap (λ c. if c then Some (zero_number false) else only_number false v) i ∙ e) k u held) ∙ not_true (nat_eq n 0) j

  pub something : is_nothing v ≡ false
  something = by (is_nothing v) refl
    where
      by : (c : Bool) → is_nothing v ≡ c → c ≡ false
      by true e = absurd (nothing_held v (datum_of p k u) e held)
      by false e = refl

  pub other_than_zero : is_no_zero v ≡ true → nat_eq (word_of u) 0 ≡ false
  other_than_zero e = by (or_cases (is_other_than_zero (known_of v)) (is_other_than_zero (known_wide_of v)) (sym (ap (λ c. c || (is_other_than_zero (known_of v) || is_other_than_zero (known_wide_of v))) something) ∙ e))
    where
      by : (is_other_than_zero (known_of v) ≡ true) ⊎ (is_other_than_zero (known_wide_of v) ≡ true) → nat_eq (word_of u) 0 ≡ false
      by (inl z) = by_number false (known_of v) refl something z
      by (inr z) = by_number true (known_wide_of v) refl something z

-- ---- divisions

divided : (c : Bool) (n : ℕ) → (elim c as (λ c. Option ℕ) [ true ↦ None | false ↦ Some n ]) ≡ None → c ≡ true
divided true n i = refl
divided false n i = absurd (cc)

unanswered_zero : (k : Kind) (b : Bool) (x y : ℕ) → answer k b x y ≡ None → nat_eq y 0 ≡ true
unanswered_zero Div b x y e = divided (nat_eq y 0) _ e
unanswered_zero Rem b x y e = divided (nat_eq y 0) _ e
unanswered_zero k b x y e = absurd (true≢false (ap (λ o. is_some o) e))

literal_zero : (op : LiteralOp) (x y : ℕ) → literal_answer op x y ≡ None → nat_eq y 0 ≡ true
literal_zero literals.DivInt x y e = unanswered_zero Div false x y e
literal_zero literals.RemInt x y e = unanswered_zero Rem false x y e
literal_zero op x y e = absurd (true≢false (ap (λ o. is_some o) e))

abbrev second_wide : Sort → Bool
second_wide (OnWord k) = false
second_wide (OnWide k) = true
second_wide (Shifts k) = false
second_wide (OnFloat op) = false
second_wide (OnDouble op) = true

second_sort : (op : BinaryOp) → second_is_wide op ≡ second_wide (sort_of op)
second_sort binaries.AddInt = refl
second_sort op = refl

abbrev wide_sort : Sort → Bool
wide_sort (OnWord k) = false
wide_sort (OnWide k) = true
wide_sort (Shifts k) = true
wide_sort (OnFloat op) = false
wide_sort (OnDouble op) = true

sort_wide : (op : BinaryOp) → binary_is_wide op ≡ wide_sort (sort_of op)
sort_wide binaries.AddInt = refl
sort_wide op = refl

small_word : (v : Value) → IsWord v → word_of v < 2 ^ 32
small_word (machine.Word n) l = l
small_word (machine.Low n) l = absurd l
small_word (machine.High n) l = absurd l
small_word (machine.Object n) l = absurd l
small_word (machine.Literal t) l = absurd l
small_word (machine.Class t) l = absurd l

cut_zero : (n : ℕ) → n < 2 ^ 32 → nat_eq (n % 2 ^ 32) 0 ≡ true → nat_eq n 0 ≡ true
cut_zero n l e = let z : n % 2 ^ 32 ≡ 0 = eqb-true (n % 2 ^ 32) 0 e in eq-eqb n 0 (omega (arith, l, z))

nonzero_literal : (z : ℤ) → IsSmall z → nat_eq (cast_unsigned w32 z) 0 ≡ true → int_eq z (pos 0) ≡ true
nonzero_literal z l e = by z l (eqb-true (cast_unsigned w32 z) 0 e)
  where
    by : (z : ℤ) → IsSmall z → cast_unsigned w32 z ≡ 0 → int_eq z (pos 0) ≡ true
    by z l e = let i : z ≡ pos 0 = omega (arith, ints, l.0, l.1, e) in rw i refl

-- ---- what is written

module _ (floats : Floats) (w : World) (g : Frame) where
  -- the effect writes registers of its own, and goes on
  pub record Writes (wide : Bool) (to : ℕ) (e : Effect) : Type 0 where
    pub registers : List Value
    pub is : e ≡ Goes w (record g { position = g.position + 1; registers = registers })
    pub others : Agree (λ r. in_operand wide to r ≡ false) g.registers registers

  word_writes : (n : Option ℕ) (to : ℕ) → (n ≡ None → ⊥) → Writes false to (gives_word n w g to)
  word_writes None to f = absurd (f refl)
  word_writes (Some n) to f = record {
    registers = slice_set g.registers to (machine.Word n);
    is = refl;
    others = agree_write (λ r. in_operand false to r ≡ false) g.registers to (machine.Word n) (λ r k. k);
  }

  wide_writes : (n : Option ℕ) (to : ℕ) → (n ≡ None → ⊥) → Writes true to (gives_wide n w g to)
  wide_writes None to f = absurd (f refl)
  wide_writes (Some n) to f = record {
    registers = slice_set (slice_set g.registers to (machine.Low n)) (to + 1) (machine.High n);
    is = refl;
    others = agree_on (λ r. in_operand true to r ≡ false) (λ r. in_operand true to r ≡ false) (λ r k. k) g.registers (slice_set g.registers to (machine.Low n))
        (slice_set (slice_set g.registers to (machine.Low n)) (to + 1) (machine.High n))
        (agree_write (λ r. in_operand true to r ≡ false) g.registers to (machine.Low n) (λ r k. or_false_left (nat_eq r to) (nat_eq r (to + 1)) k))
        (agree_write (λ r. in_operand true to r ≡ false) (slice_set g.registers to (machine.Low n)) (to + 1) (machine.High n) (λ r k. or_false_right (nat_eq r to) (nat_eq r (to + 1)) k));
  }

  abbrev Answers : Sort → ℕ → ℕ → Type 0
  Answers (OnWord k) a b = answer k false (word g a) (word g b) ≡ None → ⊥
  Answers (OnWide k) a b = answer k true (number g a) (number g b) ≡ None → ⊥
  Answers (Shifts k) a b = answer k true (number g a) (number g b) ≡ None → ⊥
  Answers s a b = Unit {0}

  sort_writes : (s : Sort) (to a b : ℕ) → Answers s a b → Writes (wide_sort s) to (binary floats s w g to a b)
  sort_writes (OnWord k) to a b f = word_writes (answer k false (word g a) (word g b)) to f
  sort_writes (OnWide k) to a b f = wide_writes (answer k true (number g a) (number g b)) to f
  sort_writes (Shifts k) to a b f = wide_writes (answer k true (number g a) (number g b)) to f
  sort_writes (OnFloat op) to a b f = word_writes (Some (float_word floats op (number g a) (number g b))) to (λ e. cc)
  sort_writes (OnDouble op) to a b f = wide_writes (Some (float_wide floats op (number g a) (number g b))) to (λ e. cc)

  plain_sort : (s : Sort) (a b : ℕ) → sort_divides s ≡ false → Answers s a b
  plain_sort (OnWord k) a b e = λ i. true≢false (sym (divides_op k false (word g a) (word g b) i) ∙ e)
  plain_sort (OnWide k) a b e = λ i. true≢false (sym (divides_op k true (number g a) (number g b) i) ∙ e)
  plain_sort (Shifts k) a b e = λ i. true≢false (sym (divides_op k true (number g a) (number g b) i) ∙ e)
  plain_sort (OnFloat op) a b e = tt
  plain_sort (OnDouble op) a b e = tt

  nonzero_sort : (s : Sort) (a b : ℕ) → NumberOf (second_wide s) (register g b) → nat_eq (number g b) 0 ≡ false → Answers s a b
  nonzero_sort (OnWord k) a b l e = λ i. true≢false (sym (cut_zero (number g b) (small_word (register g b) l) (unanswered_zero k false (word g a) (word g b) i)) ∙ e)
  nonzero_sort (OnWide k) a b l e = λ i. true≢false (sym (unanswered_zero k true (number g a) (number g b) i) ∙ e)
  nonzero_sort (Shifts k) a b l e = λ i. true≢false (sym (unanswered_zero k true (number g a) (number g b) i) ∙ e)
  nonzero_sort (OnFloat op) a b l e = tt
  nonzero_sort (OnDouble op) a b l e = tt

  module _ (p : NamedProgram) (op : BinaryOp) (to a b : ℕ) (v : Parts) (l : NumberOf (second_is_wide op) (register g b)) (held : value_holds v (datum_of p (kind_of w (register g b)) (register g b))) where
    nonzero_answers : is_no_zero v ≡ true → Answers (sort_of op) a b
    nonzero_answers e = nonzero_sort (sort_of op) a b (subst (λ c. NumberOf c (register g b)) (second_sort op) l) (other_than_zero p v (kind_of w (register g b)) (register g b) held e)

    answers : never_throws op v ≡ true → Answers (sort_of op) a b
    answers e = elim (or_cases (not (divides op)) (is_no_zero v) e) [
      | inl d ↦ plain_sort (sort_of op) a b (sort_throws op ∙ not_true (divides op) d)
      | inr z ↦ nonzero_answers z
    ]

    widened : Writes (wide_sort (sort_of op)) to (binary floats (sort_of op) w g to a b) → Writes (binary_is_wide op) to (binary floats (sort_of op) w g to a b)
    widened h = subst (λ c. Writes c to (binary floats (sort_of op) w g to a b)) (sym (sort_wide op)) h

    pub binary_writes : never_throws op v ≡ true → Writes (binary_is_wide op) to (binary floats (sort_of op) w g to a b)
    binary_writes e = widened (sort_writes (sort_of op) to a b (answers e))

    pub division_writes : is_no_zero v ≡ true → Writes (binary_is_wide op) to (binary floats (sort_of op) w g to a b)
    division_writes e = widened (sort_writes (sort_of op) to a b (nonzero_answers e))

  pub literal_writes : (op : LiteralOp) (to a : ℕ) (z : ℤ) → IsSmall z → (not (divides_by_literal op) || not (int_eq z (pos 0))) ≡ true → Writes false to (literal op w g to a z)
  literal_writes op to a z l e = word_writes (literal_answer op (word g a) (cast_unsigned w32 z)) to through
    where
      through : literal_answer op (word g a) (cast_unsigned w32 z) ≡ None → ⊥
      through i = elim (or_cases (not (divides_by_literal op)) (not (int_eq z (pos 0))) e) [
        | inl j ↦ true≢false (sym (literal_divides op (word g a) (cast_unsigned w32 z) i) ∙ not_true (divides_by_literal op) j)
        | inr j ↦ true≢false (sym (nonzero_literal z l (literal_zero op (word g a) (cast_unsigned w32 z) i)) ∙ not_true (int_eq z (pos 0)) j)
      ]
