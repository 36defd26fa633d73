-- A form whose result is known does what a constant does.
use Rattle.std.proofs.Common.{◌≡◌, ℕ, ◌+◌, ◌<◌, ℤ, pos, negsuc, Bool, true, false, true≢false, List, [], ◌∷◌, Option, Some, None, refl, sym, ap, ◌∙◌, subst, arith, nat_eq}
use Rattle.std.specs.Prelude.{◌%◌, ◌^◌, ◌||◌, not, if◌then◌else◌, is_some}
use Rattle.std.specs.Int.{w32, cast_unsigned}
use Rattle.std.specs.Option.{unwrap_or}
use Rattle.std.specs.Ordering.{int_eq}
use Rattle.std.proofs.lemmas.Bool.{eqb-true, eq-eqb}
use Rattle.std.proofs.lemmas.Int.{ints}
use Rattle.insn_set.specs.Flow.{divides, divides_by_literal}
use Rattle.insn_set.specs.Widths.{unary_reads_wide, binary_is_wide, second_is_wide, compares_wide}
use Rattle.insn_set.specs.declared.ops.BinaryOp.{BinaryOp}
use Rattle.insn_set.specs.declared.ops.BinaryOp.TheVariants as binaries
use Rattle.insn_set.specs.declared.ops.CmpOp.{CmpOp}
use Rattle.insn_set.specs.declared.ops.LiteralOp.{LiteralOp}
use Rattle.insn_set.specs.declared.ops.LiteralOp.TheVariants as literals
use Rattle.insn_set.specs.declared.ops.UnaryOp.{UnaryOp}
use Rattle.dalvik_defs.specs.Names.{Text}
use Rattle.dalvik_defs.specs.Arith.{Kind, Div, Rem, answer, literal_answer}
use Rattle.dalvik_defs.specs.Operators.{Number as Answer, OneWord, OneWide, Sort, OnWord, OnWide, Shifts, OnFloat, OnDouble, sort_of, unary_answer, comparison, float_word, float_wide}
use Rattle.dalvik_defs.specs.State.{World, kind_of, word_of}
use Rattle.dalvik_defs.specs.declared.state.Value.{Value}
use Rattle.dalvik_defs.specs.declared.state.Value.TheVariants as machine
use Rattle.dalvik_defs.specs.declared.state.Frame.{Frame}
use Rattle.dalvik_defs.specs.Effect.{Effect, Goes, register, write, next, sets, sets_wide}
use Rattle.dalvik_defs.specs.ActNumber.{number, word, gives_word, gives_wide, binary, sets_number}
use Rattle.dalvik_defs.specs.Act.{act}
use Rattle.dalvik_defs.specs.declared.forms.Form.TheVariants as form
use Rattle.dalvik_defs.specs.declared.program.NamedProgram.{NamedProgram}
use Rattle.dalvik_defs.specs.declared.tables.Floats.{Floats}
use Rattle.domains.specs.Ranges.{first_word, last_word}
use Rattle.domains.specs.Values.{Parts, value_holds, least_value}
use Rattle.value_ops.specs.Left.{is_nothing}
use Rattle.value_ops.specs.Numbers.{binary_value, compared_value, literal_value, unary_value}
use Rattle.pass_defs.specs.Analysis.{Analysis, Holds, on_number, on_sort}
use Rattle.form_laws.specs.Changes.{Sets, changed}
use Rattle.run_laws.proofs.Forms.{sort_divides, sort_throws, divides_op, literal_divides}
use Rattle.run_facts.specs.ValueAnalysis.{datum_of, value_analysis}
use Rattle.cover_law.specs.Sound.{IsSoundOn, IsSmall, IsWord, IsWide, NumberOf}
use Rattle.cover_law.specs.Operators.{operators}
use Rattle.const_prop.specs.declared.numbers.Number.{Number}
use Rattle.const_prop.specs.declared.numbers.Number.TheVariants.{Word, Wide}
use Rattle.const_prop.specs.Known.{number_of, is_other_than_zero, never_throws}
use Rattle.facts_kept.specs.Known.{values_of, IsNumber, Only}
use Rattle.facts_kept.proofs.Only.{only, nothing_held}

clash : (b : Bool) {A : Type 0} → b ≡ true → b ≡ false → A
clash b e f = absurd (true≢false (sym e ∙ f))

-- ---- divisions

divided : (c : Bool) (n : ℕ) → (elim c as (λ c. Option ℕ) [ true ↦ None | false ↦ Some n ]) ≡ None → c ≡ true
divided true n i = refl
divided false n i = absurd (cc)

unanswered_zero : (k : Kind) (b : Bool) (x y : ℕ) → answer k b x y ≡ None → nat_eq y 0 ≡ true
unanswered_zero Div b x y e = divided (nat_eq y 0) _ e
unanswered_zero Rem b x y e = divided (nat_eq y 0) _ e
unanswered_zero k b x y e = absurd (true≢false (ap (λ o. is_some o) e))

literal_zero : (op : LiteralOp) (x y : ℕ) → literal_answer op x y ≡ None → nat_eq y 0 ≡ true
literal_zero literals.DivInt x y e = unanswered_zero Div false x y e
literal_zero literals.RemInt x y e = unanswered_zero Rem false x y e
literal_zero op x y e = absurd (true≢false (ap (λ o. is_some o) e))

-- whether the second operand of a sort is wide
abbrev second_wide : Sort → Bool
second_wide (OnWord k) = false
second_wide (OnWide k) = true
second_wide (Shifts k) = false
second_wide (OnFloat op) = false
second_wide (OnDouble op) = true

second_sort : (op : BinaryOp) → second_is_wide op ≡ second_wide (sort_of op)
second_sort binaries.AddInt = refl
second_sort op = refl

small_word : (v : Value) → IsWord v → word_of v < 2 ^ 32
small_word (machine.Word n) l = l
small_word (machine.Low n) l = absurd l
small_word (machine.High n) l = absurd l
small_word (machine.Object n) l = absurd l
small_word (machine.Literal t) l = absurd l
small_word (machine.Class t) l = absurd l

cut_zero : (n : ℕ) → n < 2 ^ 32 → nat_eq (n % 2 ^ 32) 0 ≡ true → nat_eq n 0 ≡ true
cut_zero n l e = let z : n % 2 ^ 32 ≡ 0 = eqb-true (n % 2 ^ 32) 0 e in eq-eqb n 0 (omega (arith, l, z))

not_false : (b : Bool) → not b ≡ true → b ≡ false
not_false false e = refl
not_false true e = absurd (true≢false (sym e))

or_both : (a b : Bool) {C : Type 0} → (a || b) ≡ true → (a ≡ true → C) → (b ≡ true → C) → C
or_both true b e f g = f refl
or_both false b e f g = g e

nonzero_literal : (z : ℤ) → IsSmall z → nat_eq (cast_unsigned w32 z) 0 ≡ true → int_eq z (pos 0) ≡ true
nonzero_literal z l e = by z l (eqb-true (cast_unsigned w32 z) 0 e)
  where
    by : (z : ℤ) → IsSmall z → cast_unsigned w32 z ≡ 0 → int_eq z (pos 0) ≡ true
    by z l e = let i : z ≡ pos 0 = omega (arith, ints, l.0, l.1, e) in rw i refl

-- ---- forms that write a number

module _ (p : NamedProgram) (under : Text → Text → Bool) (floats : Floats) (sound : IsSoundOn (value_analysis p operators) under floats) (w : World) (g : Frame) (x : ℕ → Parts) where
  abbrev A : Analysis Parts
  A = value_analysis p operators

  abbrev pub Seen : ℕ → Type 0
  Seen r = value_holds (x r) (datum_of p (kind_of w (register g r)) (register g r))

  -- the effect is that of the constant
  abbrev pub Does : Number → ℕ → Effect → Type 0
  Does num to e = e ≡ Goes w (changed (Sets (values_of num)) to g)

  word_sets : (num : Number) (to m : ℕ) → IsNumber num (machine.Word m) → Does num to (sets w g to (machine.Word m))
  word_sets (Word n) to m e = ap (λ u. sets w g to u) e
  word_sets (Wide n) to m e = absurd e

  wide_sets : (num : Number) (to m : ℕ) → IsNumber num (machine.Low m) → Does num to (sets_wide w g to m)
  wide_sets (Word n) to m e = absurd (cc)
  wide_sets (Wide n) to m e = ap (λ k. sets_wide w g to k) e

  number_sets : (a : Answer) (num : Number) (to : ℕ) → IsNumber num (on_number a) → Does num to (sets_number a w g to)
  number_sets (OneWord m) num to h = word_sets num to m h
  number_sets (OneWide m) num to h = wide_sets num to m h

  pub unary_does : (op : UnaryOp) (to from : ℕ) (num : Number) → NumberOf (unary_reads_wide op) (register g from) → Seen from → Only p (unary_value op (x from)) num → Does num to (act under floats (form.Unary op to from) w g)
  unary_does op to from num l s h = number_sets (unary_answer floats op (number g from)) num to
      (h [] (on_number (unary_answer floats op (number g from))) (sound.unaries op (x from) (kind_of w (register g from)) [] (register g from) l s))

  pub cmp_does : (op : CmpOp) (to a b : ℕ) (num : Number) → NumberOf (compares_wide op) (register g a) → NumberOf (compares_wide op) (register g b) → Seen a → Seen b → Only p (compared_value op (x a) (x b)) num → Does num to (act under floats (form.Cmp op to a b) w g)
  cmp_does op to a b num l m s t h = word_sets num to (comparison floats op (number g a) (number g b))
      (h [] (machine.Word (comparison floats op (number g a) (number g b))) (sound.comparisons op (x a) (x b) (kind_of w (register g a)) (kind_of w (register g b)) [] (register g a) (register g b) l m s t))

  answered : (o : Option Parts) (k : Text) (v : Value) → Holds A o k v → value_holds (unwrap_or o least_value) (datum_of p k v)
  answered None k v h = absurd h
  answered (Some y) k v h = h

  words : (o : Option Parts) (n : Option ℕ) (num : Number) (to : ℕ) → (n ≡ None → ⊥) → ((m : ℕ) → n ≡ Some m → Holds A o [] (machine.Word m)) → Only p (unwrap_or o least_value) num → Does num to (gives_word n w g to)
  words o None num to f h k = absurd (f refl)
  words o (Some m) num to f h k = word_sets num to m (k [] (machine.Word m) (answered o [] (machine.Word m) (h m refl)))

  wides : (o : Option Parts) (n : Option ℕ) (num : Number) (to : ℕ) → (n ≡ None → ⊥) → ((m : ℕ) → n ≡ Some m → Holds A o [] (machine.Low m)) → Only p (unwrap_or o least_value) num → Does num to (gives_wide n w g to)
  wides o None num to f h k = absurd (f refl)
  wides o (Some m) num to f h k = wide_sets num to m (k [] (machine.Low m) (answered o [] (machine.Low m) (h m refl)))

  -- there is an answer
  abbrev Answers : Sort → ℕ → ℕ → Type 0
  Answers (OnWord k) a b = answer k false (word g a) (word g b) ≡ None → ⊥
  Answers (OnWide k) a b = answer k true (number g a) (number g b) ≡ None → ⊥
  Answers (Shifts k) a b = answer k true (number g a) (number g b) ≡ None → ⊥
  Answers s a b = Unit {0}

  sorts : (s : Sort) (to a b : ℕ) (o : Option Parts) (num : Number) → Answers s a b → ((z : Value) → on_sort floats s (number g a) (number g b) ≡ Some z → Holds A o [] z) → Only p (unwrap_or o least_value) num → Does num to (binary floats s w g to a b)
  sorts (OnWord k) to a b o num f h only = words o (answer k false (word g a) (word g b)) num to f (λ m e. h (machine.Word m) (ap (λ n. elim n as (λ n. Option Value) [ Some i ↦ Some (machine.Word i) | None ↦ None ]) e)) only
  sorts (OnWide k) to a b o num f h only = wides o (answer k true (number g a) (number g b)) num to f (λ m e. h (machine.Low m) (ap (λ n. elim n as (λ n. Option Value) [ Some i ↦ Some (machine.Low i) | None ↦ None ]) e)) only
  sorts (Shifts k) to a b o num f h only = wides o (answer k true (number g a) (number g b)) num to f (λ m e. h (machine.Low m) (ap (λ n. elim n as (λ n. Option Value) [ Some i ↦ Some (machine.Low i) | None ↦ None ]) e)) only
  sorts (OnFloat op) to a b o num f h only = word_sets num to (float_word floats op (number g a) (number g b)) (only [] _ (answered o [] _ (h (machine.Word (float_word floats op (number g a) (number g b))) refl)))
  sorts (OnDouble op) to a b o num f h only = wide_sets num to (float_wide floats op (number g a) (number g b)) (only [] _ (answered o [] _ (h (machine.Low (float_wide floats op (number g a) (number g b))) refl)))

  plain_sort : (s : Sort) (a b : ℕ) → sort_divides s ≡ false → Answers s a b
  plain_sort (OnWord k) a b e = λ i. true≢false (sym (divides_op k false (word g a) (word g b) i) ∙ e)
  plain_sort (OnWide k) a b e = λ i. true≢false (sym (divides_op k true (number g a) (number g b) i) ∙ e)
  plain_sort (Shifts k) a b e = λ i. true≢false (sym (divides_op k true (number g a) (number g b) i) ∙ e)
  plain_sort (OnFloat op) a b e = tt
  plain_sort (OnDouble op) a b e = tt

  nonzero_sort : (s : Sort) (a b : ℕ) → NumberOf (second_wide s) (register g b) → nat_eq (number g b) 0 ≡ false → Answers s a b
  nonzero_sort (OnWord k) a b l e = λ i. true≢false (sym (cut_zero (number g b) (small_word (register g b) l) (unanswered_zero k false (word g a) (word g b) i)) ∙ e)
  nonzero_sort (OnWide k) a b l e = λ i. true≢false (sym (unanswered_zero k true (number g a) (number g b) i) ∙ e)
  nonzero_sort (Shifts k) a b l e = λ i. true≢false (sym (unanswered_zero k true (number g a) (number g b) i) ∙ e)
  nonzero_sort (OnFloat op) a b l e = tt
  nonzero_sort (OnDouble op) a b l e = tt

  -- a register that is known to hold another number than 0
  other_than_zero : (b : Bool) (r : ℕ) (o : Option Number) → number_of (x r) b ≡ o → is_other_than_zero o ≡ true → Seen r → nat_eq (number g r) 0 ≡ false
  other_than_zero b r None e i s = absurd (true≢false (sym i))
  other_than_zero b r (Some (Word n)) e i s = ap (λ v. nat_eq (word_of v) 0) (only p (x r) b (Word n) e (kind_of w (register g r)) (register g r) s) ∙ not_false (nat_eq n 0) i
  other_than_zero b r (Some (Wide n)) e i s = by (register g r) (only p (x r) b (Wide n) e (kind_of w (register g r)) (register g r) s)
    where
      by : (v : Value) → IsNumber (Wide n) v → nat_eq (word_of v) 0 ≡ false
      by (machine.Low m) k = ap (λ j. nat_eq j 0) k ∙ not_false (nat_eq n 0) i
      by (machine.High m) k = ap (λ j. nat_eq j 0) k ∙ not_false (nat_eq n 0) i
      by (machine.Word m) k = absurd k
      by (machine.Object m) k = absurd k
      by (machine.Literal t) k = absurd k
      by (machine.Class t) k = absurd k

  goes_through : (op : BinaryOp) (a b : ℕ) → never_throws op (x b) ≡ true → NumberOf (second_is_wide op) (register g b) → Seen b → Answers (sort_of op) a b
  goes_through op a b e l s = by (divides op) refl e
    where
      by : (c : Bool) → divides op ≡ c → (if c then is_nothing (x b) || is_other_than_zero (number_of (x b) (second_is_wide op)) else true) ≡ true → Answers (sort_of op) a b
      by false i k = plain_sort (sort_of op) a b (sort_throws op ∙ i)
      by true i k = or_both (is_nothing (x b)) (is_other_than_zero (number_of (x b) (second_is_wide op))) k
          (λ n. absurd (nothing_held (x b) (datum_of p (kind_of w (register g b)) (register g b)) n s))
          (λ z. nonzero_sort (sort_of op) a b (subst (λ c. NumberOf c (register g b)) (second_sort op) l) (other_than_zero (second_is_wide op) b (number_of (x b) (second_is_wide op)) refl z s))

  pub binary_does : (op : BinaryOp) (to a b : ℕ) (num : Number) → NumberOf (binary_is_wide op) (register g a) → NumberOf (second_is_wide op) (register g b) → Seen a → Seen b → never_throws op (x b) ≡ true
      → Only p (unwrap_or (binary_value op (x a) (x b)) least_value) num → Does num to (act under floats (form.Binary op to a b) w g)
  binary_does op to a b num l m s t e h = sorts (sort_of op) to a b (binary_value op (x a) (x b)) num (goes_through op a b e m t)
      (λ z i. sound.binaries op (x a) (x b) (kind_of w (register g a)) (kind_of w (register g b)) [] (register g a) (register g b) z l m s t i) h

  pub literal_does : (op : LiteralOp) (to a : ℕ) (z : ℤ) (num : Number) → IsWord (register g a) → IsSmall z → Seen a → (not (divides_by_literal op) || not (int_eq z (pos 0))) ≡ true
      → Only p (unwrap_or (literal_value op (x a) z) least_value) num → Does num to (act under floats (form.Literal op to a z) w g)
  literal_does op to a z num l m s e h = words (literal_value op (x a) z) (literal_answer op (word g a) (cast_unsigned w32 z)) num to through
      (λ n i. sound.literals op (x a) z (kind_of w (register g a)) [] (register g a) n l m s i) h
    where
      through : literal_answer op (word g a) (cast_unsigned w32 z) ≡ None → ⊥
      through i = or_both (not (divides_by_literal op)) (not (int_eq z (pos 0))) e
          (λ j. true≢false (sym (literal_divides op (word g a) (cast_unsigned w32 z) i) ∙ not_false (divides_by_literal op) j))
          (λ j. true≢false (sym (nonzero_literal z m (literal_zero op (word g a) (cast_unsigned w32 z) i)) ∙ not_false (int_eq z (pos 0)) j))

  -- a move of one register
  pub move_does : (to from n : ℕ) → Seen from → Only p (x from) (Word n) → Goes w (next (write g to (register g from))) ≡ Goes w (changed (Sets (values_of (Word n))) to g)
  move_does to from n s h = ap (λ u. sets w g to u) (h (kind_of w (register g from)) (register g from) s)
