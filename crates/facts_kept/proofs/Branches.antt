-- A branch whose way is known goes that way.
use Rattle.std.proofs.Common.{◌≡◌, ℕ, zero, suc, ◌+◌, ◌<◌, ℤ, pos, Bool, true, false, true≢false, List, [], ◌∷◌, length, Option, Some, None, refl, sym, ap, ap₂, ◌∙◌, subst, arith, nat_eq}
use Rattle.std.specs.Prelude.{◌%◌, ◌^◌, ◌==◌, ◌||◌, not, if◌then◌else◌, cond, nat_lt, int_lt, position, slice_get}
use Rattle.std.specs.List.{position_or_len}
use Rattle.std.specs.Int.{w32, cast_signed, cast_unsigned}
use Rattle.std.specs.Option.{option_map, unwrap_or}
use Rattle.std.specs.Ordering.{int_eq}
use Rattle.std.specs.FinMap as finite
use Rattle.std.proofs.lemmas.Bool.{eqb-true, eq-eqb}
use Rattle.std.proofs.lemmas.Int.{ints}
use Rattle.insn_set.specs.declared.ops.Test.{Test}
use Rattle.insn_set.specs.declared.form.Insn.{Insn}
use Rattle.insn_set.specs.declared.form.Insn.TheVariants as insn
use Rattle.dalvik_defs.specs.Names.{Text}
use Rattle.dalvik_defs.specs.Arith.{signed, passes}
use Rattle.dalvik_defs.specs.State.{World, kind_of, word_of}
use Rattle.dalvik_defs.specs.declared.state.Value.{Value}
use Rattle.dalvik_defs.specs.declared.state.Value.TheVariants as machine
use Rattle.dalvik_defs.specs.declared.state.Frame.{Frame}
use Rattle.dalvik_defs.specs.Effect.{Effect, Goes, register, next, go}
use Rattle.dalvik_defs.specs.ActNumber.{number}
use Rattle.dalvik_defs.specs.ActPlain.{branch, goes_to, switch_target, packed_target}
use Rattle.dalvik_defs.specs.declared.program.NamedProgram.{NamedProgram}
use Rattle.dalvik_defs.specs.declared.tables.Floats.{Floats}
use Rattle.domains.specs.Values.{Parts, value_holds, constant_value}
use Rattle.value_ops.specs.Left.{is_nothing}
use Rattle.value_ops.specs.Tests.{tested_values}
use Rattle.dom_frame.specs.Registers.{Registers, value_at, put, refined, refined_both}
use Rattle.dom_frame.proofs.Reading.{value_put, value_none}
use Rattle.pass_defs.specs.Analysis.{Analysis, Holds, HoldsBoth}
use Rattle.pass_defs.specs.Demands.{is_equality}
use Rattle.run_facts.specs.ValueAnalysis.{datum_of, value_analysis}
use Rattle.cover_law.specs.Sound.{IsSoundOn, IsWord, TestedOf}
use Rattle.cover_law.specs.Operators.{operators}
use Rattle.const_prop.specs.declared.choices.Way.{Way}
use Rattle.const_prop.specs.declared.choices.Way.TheVariants.{Open, Next, To}
use Rattle.const_prop.specs.declared.numbers.Number.{Number}
use Rattle.const_prop.specs.declared.numbers.Number.TheVariants.{Word, Wide}
use Rattle.const_prop.specs.Choices.{way_at, way_if, target_at, place_of, way_of}
use Rattle.const_prop.specs.Known.{number_of, word_in, word_of as known_word_of, is_impossible, is_closed, way_on, known_way, refined_way, way_or, way_from}
use Rattle.facts_kept.specs.Known.{IsNumber, Only}
use Rattle.facts_kept.proofs.Only.{only, nothing_held}
use Rattle.facts_kept.proofs.Acts.{Seen}

clash : (b : Bool) {A : Type 0} → b ≡ true → b ≡ false → A
clash b e f = absurd (true≢false (sym e ∙ f))

or_both : (a b : Bool) {C : Type 0} → (a || b) ≡ true → (a ≡ true → C) → (b ≡ true → C) → C
or_both true b e f g = f refl
or_both false b e f g = g e

-- ---- registers

pub put_there : (to : ℕ) (v : Parts) (x : Registers) → value_at (put to v x) to ≡ v
put_there to v x = value_put to v x to ∙ ap (λ b. if b then v else value_at x to) (eq-eqb to to refl)

-- a word that is known
pub word_known : (p : NamedProgram) (v : Parts) (n : ℕ) → known_word_of v ≡ Some n → Only p v (Word n)
word_known p v n e = by (number_of v false) refl e
  where
    by : (o : Option Number) → number_of v false ≡ o → word_in o ≡ Some n → Only p v (Word n)
    by None i j = absurd (cc)
    by (Some (Wide m)) i j = absurd (cc)
    by (Some (Word m)) i j = let k : m ≡ n = cc in subst (λ z. Only p v (Word z)) k (only p v false (Word m) i)

-- ---- switches

no_target : (o : Option ℕ) → target_at [] o ≡ None
no_target None = refl
no_target (Some n) = refl

below_suc : (m l : ℕ) → nat_lt (suc m) (suc l) ≡ nat_lt m l
below_suc m l = grind arith

one_more : (m : ℕ) → 1 + m ≡ suc m
one_more m = omega arith

later_place : (t : ℕ) (ts : List ℕ) (m l : ℕ) → target_at (t ∷ ts) (cond (nat_lt (1 + m) (suc l)) (Some (1 + m)) None) ≡ target_at ts (cond (nat_lt m l) (Some m) None)
later_place t ts m l = ap (λ n. target_at (t ∷ ts) (cond (nat_lt n (suc l)) (Some n) None)) (one_more m) ∙ (ap (λ b. target_at (t ∷ ts) (cond b (Some (suc m)) None)) (below_suc m l) ∙ by (nat_lt m l))
  where
    by : (b : Bool) → target_at (t ∷ ts) (cond b (Some (suc m)) None) ≡ target_at ts (cond b (Some m) None)
    by true = refl
    by false = refl

below_first : (l : ℕ) → nat_lt 0 (suc l) ≡ true
below_first l = grind arith

one_int : (z k : ℤ) → int_eq k z ≡ true → (int_lt z k || int_lt k z) ≡ false
one_int z k e = grind (arith, ints)

other_int : (z k : ℤ) → int_eq k z ≡ false → (int_lt z k || int_lt k z) ≡ true
other_int z k e = grind (arith, ints)

pub same_switch : (z : ℤ) (ks : List ℤ) (ts : List ℕ) → target_at ts (place_of z ks) ≡ switch_target z ks ts
same_switch z [] ts = refl
same_switch z (k ∷ ks) [] = no_target (place_of z (k ∷ ks))
same_switch z (k ∷ ks) (t ∷ ts) = by (same_switch z ks ts) (int_eq k z) refl
  where
    by : target_at ts (place_of z ks) ≡ switch_target z ks ts → (b : Bool) → int_eq k z ≡ b → target_at (t ∷ ts) (place_of z (k ∷ ks)) ≡ switch_target z (k ∷ ks) (t ∷ ts)
    by h true e = ap (λ b. target_at (t ∷ ts) (cond (nat_lt (cond (not b) (1 + position_or_len (λ j. int_eq j z) ks) 0) (length (k ∷ ks))) (Some (cond (not b) (1 + position_or_len (λ j. int_eq j z) ks) 0)) None)) e
        ∙ (ap (λ b. target_at (t ∷ ts) (cond b (Some 0) None)) (below_first (length ks)) ∙ sym (ap (λ b. elim b as (λ b. Option ℕ) [ true ↦ switch_target z ks ts | false ↦ Some t ]) (one_int z k e)))
    by h false e = ap (λ b. target_at (t ∷ ts) (cond (nat_lt (cond (not b) (1 + position_or_len (λ j. int_eq j z) ks) 0) (length (k ∷ ks))) (Some (cond (not b) (1 + position_or_len (λ j. int_eq j z) ks) 0)) None)) e
        ∙ (later_place t ts (position_or_len (λ j. int_eq j z) ks) (length ks) ∙ h)
        ∙ sym (ap (λ b. elim b as (λ b. Option ℕ) [ true ↦ switch_target z ks ts | false ↦ Some t ]) (other_int z k e))

whole : (n : ℕ) → n < 2 ^ 32 → n % 2 ^ 32 ≡ n
whole n l = omega (arith, l)

-- ---- ways

module _ (p : NamedProgram) (under : Text → Text → Bool) (floats : Floats) (sound : IsSoundOn (value_analysis p operators) under floats) (w : World) (g : Frame) (x : Registers) where
  abbrev A : Analysis Parts
  A = value_analysis p operators

  abbrev S : ℕ → Type 0
  S r = Seen p under floats sound w g (value_at x) r

  abbrev pub Follows : Way → Effect → Type 0
  Follows Open e = Unit {0}
  Follows Next e = e ≡ Goes w (next g)
  Follows (To t) e = e ≡ Goes w (go g t)

  follows_or : (u v : Way) (e : Effect) → Follows u e → Follows v e → Follows (way_or u v) e
  follows_or Open v e h k = k
  follows_or Next v e h k = h
  follows_or (To t) v e h k = h

  nothing_there : (r : ℕ) → S r → is_nothing (value_at x r) ≡ true → ⊥
  nothing_there r s e = nothing_held (value_at x r) (datum_of p (kind_of w (register g r)) (register g r)) e s

  follows_if : (c : Bool) (target : ℕ) → Follows (way_if c target) (branch c w g target)
  follows_if true target = refl
  follows_if false target = refl

  follows_at : (o : Option ℕ) → Follows (way_at o) (goes_to o w g)
  follows_at None = refl
  follows_at (Some t) = refl

  -- what is known of a register, of what it holds
  here : (r n : ℕ) → S r → known_word_of (value_at x r) ≡ Some n → register g r ≡ machine.Word n
  here r n s e = word_known p (value_at x r) n e (kind_of w (register g r)) (register g r) s

  -- ---- a side that can't be taken isn't

  abbrev Holding : Registers → ℕ → Type 0
  Holding z r = value_holds (value_at z r) (datum_of p (kind_of w (register g r)) (register g r))

  held_both : (a b : ℕ) (y : Parts × Parts) → value_holds y.0 (datum_of p (kind_of w (register g a)) (register g a)) → value_holds y.1 (datum_of p (kind_of w (register g b)) (register g b))
      → Holding (put b y.1 (put a y.0 x)) a × Holding (put b y.1 (put a y.0 x)) b
  held_both a b y h k = (first (a == b) refl, subst (λ v. value_holds v (datum_of p (kind_of w (register g b)) (register g b))) (sym (put_there b y.1 (put a y.0 x))) k)
    where
      first : (c : Bool) → (a == b) ≡ c → Holding (put b y.1 (put a y.0 x)) a
      first true e = subst (λ r. Holding (put b y.1 (put a y.0 x)) r) (sym (eqb-true a b e)) (subst (λ v. value_holds v (datum_of p (kind_of w (register g b)) (register g b))) (sym (put_there b y.1 (put a y.0 x))) k)
      first false e = subst (λ v. value_holds v (datum_of p (kind_of w (register g a)) (register g a)))
          (sym (value_put b y.1 (put a y.0 x) a ∙ ap (λ c. if c then y.1 else value_at (put a y.0 x) a) e ∙ put_there a y.0 x)) h

  open_if : (c : Bool) (test : Test) (a b target : ℕ) (o : Option (Parts × Parts)) → tested_values c test (value_at x a) (value_at x b) ≡ o
      → HoldsBoth A o (kind_of w (register g a)) (register g a) (kind_of w (register g b)) (register g b) → is_impossible (unwrap_or (refined_both a b o x) finite.empty) (insn.If test a b target) ≡ true → ⊥
  open_if c test a b target None e h i = h
  open_if c test a b target (Some y) e h i = let z = held_both a b y h.0 h.1 in
      or_both (is_nothing (value_at (put b y.1 (put a y.0 x)) a)) (is_nothing (value_at (put b y.1 (put a y.0 x)) b)) i
      (λ j. nothing_held (value_at (put b y.1 (put a y.0 x)) a) (datum_of p (kind_of w (register g a)) (register g a)) j z.0)
      (λ j. nothing_held (value_at (put b y.1 (put a y.0 x)) b) (datum_of p (kind_of w (register g b)) (register g b)) j z.1)

  open_zero : (c : Bool) (test : Test) (a target : ℕ) (o : Option (Parts × Parts))
      → HoldsBoth A o (kind_of w (register g a)) (register g a) [] (machine.Word 0) → is_impossible (unwrap_or (refined a (option_map (λ v. v.0) o) x) finite.empty) (insn.IfZero test a target) ≡ true → ⊥
  open_zero c test a target None h i = h
  open_zero c test a target (Some y) h i = nothing_held (value_at (put a y.0 x) a) (datum_of p (kind_of w (register g a)) (register g a)) i
      (subst (λ v. value_holds v (datum_of p (kind_of w (register g a)) (register g a))) (sym (put_there a y.0 x)) h.0)

  -- by what the test answers
  refined_by : (f : Insn) (target : ℕ) (c : Bool) → ((d : Bool) → c ≡ d → is_closed d x f ≡ true → ⊥) → Follows (refined_way x f (Some target)) (branch c w g target)
  refined_by f target c opens = by (is_closed true x f) (is_closed false x f) refl refl
    where
      by : (u v : Bool) → is_closed true x f ≡ u → is_closed false x f ≡ v → Follows (if u then Next else (if v then To target else Open)) (branch c w g target)
      by true v e i = passed c (λ k. opens true k e)
        where
          passed : (c : Bool) → (c ≡ true → ⊥) → branch c w g target ≡ Goes w (next g)
          passed true k = absurd (k refl)
          passed false k = refl
      by false true e i = taken c (λ k. opens false k i)
        where
          taken : (c : Bool) → (c ≡ false → ⊥) → branch c w g target ≡ Goes w (go g target)
          taken true k = refl
          taken false k = absurd (k refl)
      by false false e i = tt

  known_if : (test : Test) (a b target : ℕ) → S a → S b → (o q : Option ℕ) → known_word_of (value_at x a) ≡ o → known_word_of (value_at x b) ≡ q
      → Follows (way_on (insn.If test a b target) o q) (branch (passes test (register g a) (register g b)) w g target)
  known_if test a b target s t None q e i = tt
  known_if test a b target s t (Some n) None e i = tt
  known_if test a b target s t (Some n) (Some m) e i = subst (λ c. Follows (way_if (passes test (machine.Word n) (machine.Word m)) target) (branch c w g target))
      (sym (ap₂ (λ u v. passes test u v) (here a n s e) (here b m t i))) (follows_if (passes test (machine.Word n) (machine.Word m)) target)

  known_zero : (test : Test) (a target : ℕ) → S a → (o : Option ℕ) → known_word_of (value_at x a) ≡ o → Follows (way_on (insn.IfZero test a target) o (Some 0)) (branch (passes test (register g a) (machine.Word 0)) w g target)
  known_zero test a target s None e = tt
  known_zero test a target s (Some n) e = subst (λ c. Follows (way_if (passes test (machine.Word n) (machine.Word 0)) target) (branch c w g target))
      (sym (ap (λ u. passes test u (machine.Word 0)) (here a n s e))) (follows_if (passes test (machine.Word n) (machine.Word 0)) target)

  zero_tested : (b : Bool) → TestedOf b (machine.Word 0)
  zero_tested true = omega arith
  zero_tested false = omega arith

  -- ---- each branch goes the way that is known

  pub if_follows : (test : Test) (a b target : ℕ) → TestedOf (is_equality test) (register g a) → TestedOf (is_equality test) (register g b) → S a → S b
      → Follows (way_from x (insn.If test a b target)) (branch (passes test (register g a) (register g b)) w g target)
  if_follows test a b target l m s t = by (is_impossible x (insn.If test a b target)) refl
    where
      f : Insn
      f = insn.If test a b target

      opens : (d : Bool) → passes test (register g a) (register g b) ≡ d → is_closed d x (insn.If test a b target) ≡ true → ⊥
      opens d e i = open_if d test a b target (tested_values d test (value_at x a) (value_at x b)) refl
          (subst (λ c. HoldsBoth A (tested_values c test (value_at x a) (value_at x b)) (kind_of w (register g a)) (register g a) (kind_of w (register g b)) (register g b)) e
          (sound.tests test (value_at x a) (value_at x b) (kind_of w (register g a)) (kind_of w (register g b)) (register g a) (register g b) l m s t)) i

      by : (c : Bool) → is_impossible x (insn.If test a b target) ≡ c
          → Follows (if c then Next else way_or (known_way x (insn.If test a b target)) (refined_way x (insn.If test a b target) (Some target))) (branch (passes test (register g a) (register g b)) w g target)
      by true e = absurd (or_both (is_nothing (value_at x a)) (is_nothing (value_at x b)) e (nothing_there a s) (nothing_there b t))
      by false e = follows_or (known_way x (insn.If test a b target)) (refined_way x (insn.If test a b target) (Some target)) (branch (passes test (register g a) (register g b)) w g target)
          (known_if test a b target s t (known_word_of (value_at x a)) (known_word_of (value_at x b)) refl refl)
          (refined_by (insn.If test a b target) target (passes test (register g a) (register g b)) opens)

  pub zero_follows : (test : Test) (a target : ℕ) → TestedOf (is_equality test) (register g a) → S a → Follows (way_from x (insn.IfZero test a target)) (branch (passes test (register g a) (machine.Word 0)) w g target)
  zero_follows test a target l s = by (is_impossible x (insn.IfZero test a target)) refl
    where
      opens : (d : Bool) → passes test (register g a) (machine.Word 0) ≡ d → is_closed d x (insn.IfZero test a target) ≡ true → ⊥
      opens d e i = open_zero d test a target (tested_values d test (value_at x a) (constant_value 0))
          (subst (λ c. HoldsBoth A (tested_values c test (value_at x a) (constant_value 0)) (kind_of w (register g a)) (register g a) [] (machine.Word 0)) e
          (sound.tests test (value_at x a) (constant_value 0) (kind_of w (register g a)) [] (register g a) (machine.Word 0) l (zero_tested (is_equality test)) s (sound.knows [] (machine.Word 0)))) i

      by : (c : Bool) → is_impossible x (insn.IfZero test a target) ≡ c
          → Follows (if c then Next else way_or (known_way x (insn.IfZero test a target)) (refined_way x (insn.IfZero test a target) (Some target))) (branch (passes test (register g a) (machine.Word 0)) w g target)
      by true e = absurd (nothing_there a s e)
      by false e = follows_or (known_way x (insn.IfZero test a target)) (refined_way x (insn.IfZero test a target) (Some target)) (branch (passes test (register g a) (machine.Word 0)) w g target)
          (known_zero test a target s (known_word_of (value_at x a)) refl)
          (refined_by (insn.IfZero test a target) target (passes test (register g a) (machine.Word 0)) opens)

  pub packed_follows : (on : ℕ) (first : ℤ) (targets : List ℕ) → S on → Follows (way_from x (insn.PackedSwitch on first targets)) (goes_to (packed_target (number g on) first targets) w g)
  packed_follows on first targets s = by (is_nothing (value_at x on)) refl
    where
      known : (o : Option ℕ) → known_word_of (value_at x on) ≡ o → Follows (way_on (insn.PackedSwitch on first targets) o (Some 0)) (goes_to (packed_target (number g on) first targets) w g)
      known None e = tt
      known (Some n) e = subst (λ v. Follows (way_at (packed_target n first targets)) (goes_to (packed_target (word_of v) first targets) w g)) (sym (here on n s e)) (follows_at (packed_target n first targets))

      by : (c : Bool) → is_nothing (value_at x on) ≡ c
          → Follows (if c then Next else way_or (known_way x (insn.PackedSwitch on first targets)) Open) (goes_to (packed_target (number g on) first targets) w g)
      by true e = absurd (nothing_there on s e)
      by false e = follows_or (known_way x (insn.PackedSwitch on first targets)) Open (goes_to (packed_target (number g on) first targets) w g) (known (known_word_of (value_at x on)) refl) tt

  pub sparse_follows : (on : ℕ) (keys : List ℤ) (targets : List ℕ) → IsWord (register g on) → S on → Follows (way_from x (insn.SparseSwitch on keys targets)) (goes_to (switch_target (signed false (number g on)) keys targets) w g)
  sparse_follows on keys targets l s = by (is_nothing (value_at x on)) refl
    where
      same : (n : ℕ) → register g on ≡ machine.Word n → switch_target (signed false (number g on)) keys targets ≡ target_at targets (place_of (cast_signed w32 n) keys)
      same n e = ap (λ v. switch_target (signed false (word_of v)) keys targets) e
          ∙ ap (λ m. switch_target (cast_signed w32 m) keys targets) (whole n (subst IsWord e l))
          ∙ sym (same_switch (cast_signed w32 n) keys targets)

      known : (o : Option ℕ) → known_word_of (value_at x on) ≡ o → Follows (way_on (insn.SparseSwitch on keys targets) o (Some 0)) (goes_to (switch_target (signed false (number g on)) keys targets) w g)
      known None e = tt
      known (Some n) e = subst (λ t. Follows (way_at (target_at targets (place_of (cast_signed w32 n) keys))) (goes_to t w g)) (sym (same n (here on n s e))) (follows_at (target_at targets (place_of (cast_signed w32 n) keys)))

      by : (c : Bool) → is_nothing (value_at x on) ≡ c
          → Follows (if c then Next else way_or (known_way x (insn.SparseSwitch on keys targets)) Open) (goes_to (switch_target (signed false (number g on)) keys targets) w g)
      by true e = absurd (nothing_there on s e)
      by false e = follows_or (known_way x (insn.SparseSwitch on keys targets)) Open (goes_to (switch_target (signed false (number g on)) keys targets) w g) (known (known_word_of (value_at x on)) refl) tt
