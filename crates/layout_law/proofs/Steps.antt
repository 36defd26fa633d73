-- What instructions need, and where conditional branches go.
use Rattle.std.proofs.Common.{◌≡◌, inl, inr, ℕ, suc, ◌-◌, ◌≤◌, ◌<◌, Bool, true, false, List, [], ◌∷◌, length, Option, Some, None, refl, sym, ap, ◌∙◌, arith}
use Rattle.std.specs.Prelude.{pos, nat_eq, nat_lt, nat_le, if◌then◌else◌}
use Rattle.std.proofs.lemmas.Bool.{cases_lt, le-leb, lt-leb, lt-ltb, le-ltb, ne_eqb, ltb-false, or_parts}
use Rattle.lemmas.proofs.Bools.{clash}
use Rattle.lemmas.proofs.Options.{none_some}
use Rattle.insn_set.specs.Formats.{format_units}
use Rattle.insn_set.specs.Spelling.{shortest, units_of}
use Rattle.insn_set.specs.declared.format.Format.{Format}
use Rattle.insn_set.specs.declared.format.Format.TheVariants.{F10x}
use Rattle.insn_set.specs.declared.form.Insn.{Insn}
use Rattle.insn_set.specs.declared.form.Insn.TheVariants as insn
use Rattle.relax.specs.declared.step.Step.{Step}
use Rattle.relax.specs.declared.step.Step.TheVariants.{Fixed, Jump}
use Rattle.relax.specs.Sizes.{start, forward, backward, need, RoomFrom}
use Rattle.relax.specs.Far.{spans_far, is_far, first_far}
use Rattle.dex_defs.specs.LaysOut.{step_of}
use Rattle.layout_law.specs.Shorter.{condition_of, is_goto, least_units}

-- ---- how far gotos go

pub forward_rises : (a b : ℕ) → a ≤ b → forward a ≤ forward b
forward_rises a b l =
    elim (cases_lt 32767 b) [
      | inl c ↦ (let d : 127 < b = omega (arith, c) in rw (lt-leb b 127 d, lt-leb b 32767 c) (most (nat_le a 127) (nat_le a 32767)))
      | inr c ↦ elim (cases_lt 127 b) [
        | inl d ↦ (let e : a ≤ 32767 = omega (arith, l, c) in rw (lt-leb b 127 d, le-leb b 32767 c, le-leb a 32767 e) (two (nat_le a 127)))
        | inr d ↦ (let e : a ≤ 127 = omega (arith, l, d) in rw (le-leb b 127 d, le-leb a 127 e) (omega arith))
      ]
    ]
  where
    most : (p q : Bool) → (if p then 1 else if q then 2 else 3) ≤ 3
    most true q = omega arith
    most false true = omega arith
    most false false = omega arith

    two : (p : Bool) → (if p then 1 else 2) ≤ 2
    two true = omega arith
    two false = omega arith

pub backward_rises : (a b : ℕ) → a ≤ b → backward a ≤ backward b
backward_rises a b l =
    elim (cases_lt 32768 b) [
      | inl c ↦ (let d : 128 < b = omega (arith, c) in rw (lt-leb b 128 d, lt-leb b 32768 c) (most (nat_le a 128) (nat_le a 32768)))
      | inr c ↦ elim (cases_lt 128 b) [
        | inl d ↦ (let e : a ≤ 32768 = omega (arith, l, c) in rw (lt-leb b 128 d, le-leb b 32768 c, le-leb a 32768 e) (two (nat_le a 128)))
        | inr d ↦ (let e : a ≤ 128 = omega (arith, l, d) in rw (le-leb b 128 d, le-leb a 128 e) (omega arith))
      ]
    ]
  where
    most : (p q : Bool) → (if p then 1 else if q then 2 else 3) ≤ 3
    most true q = omega arith
    most false true = omega arith
    most false false = omega arith

    two : (p : Bool) → (if p then 1 else 2) ≤ 2
    two true = omega arith
    two false = omega arith

some_unit : (ss : List ℕ) (n target : ℕ) → 1 ≤ need ss n (Jump target)
some_unit ss n target = few (nat_eq target n) (nat_lt n target) (nat_le (start ss target - start ss n) 127) (nat_le (start ss target - start ss n) 32767)
    (nat_le (start ss n - start ss target) 128) (nat_le (start ss n - start ss target) 32768)
  where
    few : (a b p q r s : Bool) → 1 ≤ (if a then 3 else if b then (if p then 1 else if q then 2 else 3) else (if r then 1 else if s then 2 else 3))
    few true b p q r s = omega arith
    few false true true q r s = omega arith
    few false true false true r s = omega arith
    few false true false false r s = omega arith
    few false false p q true s = omega arith
    few false false p q false true = omega arith
    few false false p q false false = omega arith

-- a goto that goes no farther than a conditional branch can
pub near_goto : (ss : List ℕ) (n target : ℕ) → (target ≡ n → ⊥) → spans_far (start ss n) (start ss target) ≡ false → need ss n (Jump target) ≤ 2
near_goto ss n target d e =
    let f = or_parts (nat_lt 32767 (start ss target - start ss n)) (nat_lt 32768 (start ss n - start ss target)) e in
    let a = ltb-false 32767 (start ss target - start ss n) f.0 in
    let b = ltb-false 32768 (start ss n - start ss target) f.1 in
    elim (cases_lt n target) [
      | inl l ↦ rw (ne_eqb target n d, lt-ltb n target l, le-leb (start ss target - start ss n) 32767 a) (two (nat_le (start ss target - start ss n) 127))
      | inr m ↦ rw (ne_eqb target n d, le-ltb n target m, le-leb (start ss n - start ss target) 32768 b) (two (nat_le (start ss n - start ss target) 128))
    ]
  where
    two : (p : Bool) → (if p then 1 else 2) ≤ 2
    two true = omega arith
    two false = omega arith

-- ---- steps

pub fixed_step : (i : Insn) → is_goto i ≡ false → step_of i ≡ Fixed (units_of i (pos 0))
fixed_step (insn.Goto target) e = clash true refl e
fixed_step i e = refl

pub least_need : (ss : List ℕ) (n : ℕ) (i : Insn) → least_units i ≤ need ss n (step_of i)
least_need ss n (insn.Goto target) = some_unit ss n target
least_need ss n i = omega arith

one_unit : (f : Format) → 1 ≤ format_units f
one_unit F10x = omega arith
one_unit f = omega arith

pub few_units : (i : Insn) → 1 ≤ least_units i
few_units (insn.Goto target) = omega arith
few_units i = one_unit (shortest i (pos 0))

pub some_units : (ss : List ℕ) (n : ℕ) (i : Insn) → 1 ≤ need ss n (step_of i)
some_units ss n i = omega (arith, least_need ss n i, few_units i)

pub two_units : (i : Insn) (target : ℕ) → condition_of i ≡ Some target → step_of i ≡ Fixed 2
two_units (insn.If test a b t) target e = refl
two_units (insn.IfZero test a t) target e = refl
two_units i target e = none_some target e

-- ---- branches

abbrev pub goes_far : List ℕ → ℕ → Option ℕ → Bool
goes_far ss n None = false
goes_far ss n (Some target) = spans_far (start ss n) (start ss target)

pub far_by : (ss : List ℕ) (n : ℕ) (i : Insn) → is_far ss n i ≡ goes_far ss n (condition_of i)
far_by ss n (insn.If test a b target) = refl
far_by ss n (insn.IfZero test a target) = refl
far_by ss n i = refl

pub none_far : (ss : List ℕ) (n : ℕ) (i : Insn) (is : List Insn) → first_far ss n (i ∷ is) ≡ None → (is_far ss n i ≡ false) × (first_far ss (suc n) is ≡ None)
none_far ss n i is e = by (is_far ss n i) (first_far ss (suc n) is) e
  where
    by : (b : Bool) (o : Option ℕ) → (if b then Some n else o) ≡ None → (b ≡ false) × (o ≡ None)
    by true o e = none_some n (sym e)
    by false o e = (refl, e)

pub none_further : (ss : List ℕ) (n : ℕ) (i : Insn) (is : List Insn) → is_far ss n i ≡ false → first_far ss (suc n) is ≡ None → first_far ss n (i ∷ is) ≡ None
none_further ss n i is e d = ap (λ (b : Bool). if b then Some n else first_far ss (suc n) is) e ∙ d

pub room_long : (sizes : List ℕ) (n : ℕ) (fs : List Step) (ss : List ℕ) → RoomFrom sizes n fs ss → length fs ≡ length ss
room_long sizes n [] [] r = refl
room_long sizes n [] (s ∷ ss) r = absurd r
room_long sizes n (f ∷ fs) [] r = absurd r
room_long sizes n (f ∷ fs) (s ∷ ss) r = ap suc (room_long sizes (suc n) fs ss r.1)
