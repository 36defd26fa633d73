-- An instruction that is found to continue into none does so.
use Rattle.std.proofs.Common.{◌≡◌, ◌≤◌, ◌<◌, inl, inr, ℕ, zero, suc, ◌+◌, Bool, true, false, cond, leb, eqb, List, [], ◌∷◌, length, take, drop, Some, None, refl, sym, ap, subst, ◌∙◌, arith, true≢false}
use Rattle.std.specs.Prelude.{◌&&◌, ◌||◌, ◌%◌, not, slice_get, slice_index}
use Rattle.std.specs.List.{AllByRecursion, list_any, enumerate_from}
use Rattle.std.specs.Option.{option_map}
use Rattle.std.proofs.lemmas.Bool.{leb-true, eqb-true, eq-eqb}
use Rattle.std.proofs.lemmas.List.{get_or-drop}
use Rattle.std.proofs.lemmas.List.Quantifiers.{position-Some}
use Rattle.std.proofs.lemmas.Option.{slice_get-get_or}
use Rattle.lemmas.proofs.Bools.{not_false, or_false_left, and_parts}
use Rattle.lemmas.proofs.Options.{some_same}
use Rattle.insn_set.specs.declared.form.Insn.{Insn}
use Rattle.insn_set.specs.declared.form.Insn.TheVariants.{Nop}
use Rattle.insn_set.specs.Flow.{goes_on}
use Rattle.insn_set.specs.Formats.{format_units}
use Rattle.code_read.specs.declared.fields.Fields.{Fields}
use Rattle.code_read.specs.Branches as c
use Rattle.code_read.specs.Code.{units_or_none, size_at, is_gap, first_gap}
use Rattle.code_read.specs.Forms.{plain}
use Rattle.code_read.specs.Opcodes.{format_at, from_to}
use Rattle.code_read.specs.Payloads.{has_payload, payload_size}
use Rattle.code_read.specs.Sweep.{Piece, piece_size, payload_kind, first_unit, is_payload, is_nop, only_fills, instructions}
use Rattle.dex_defs.specs.Sweep.{Places, PiecesTo, starts_of}
use Rattle.dex_defs.specs.CodeFaults.{continues}
use Rattle.file_laws.proofs.Sweeping.{Lies}
use Rattle.file_laws.proofs.Insns.{IsKind, ACall, ABranch, ATable, APlain}
use Rattle.spelled_law.proofs.Starts.{some_piece}
use Rattle.refused_code.proofs.Reading.{either_true}

pub unequal : (a b : ℕ) → (a ≡ b → ⊥) → eqb a b ≡ false
unequal a b h = by_test (eqb a b) refl
  where
    by_test : (t : Bool) → eqb a b ≡ t → t ≡ false
    by_test true e = absurd (h (eqb-true a b e))
    by_test false e = refl

-- ---- instructions one behind another

abbrev pub ApartFrom : ℕ → List Piece → Type 0
ApartFrom low [] = Unit {0}
ApartFrom low (p ∷ ps) = (low ≤ p.start) × (0 < length p.text) × ApartFrom (p.start + length p.text) ps

lower : (low high : ℕ) (ps : List Piece) → low ≤ high → ApartFrom high ps → ApartFrom low ps
lower low high [] le h = tt
lower low high (p ∷ ps) le h = (omega (arith, le, h.0), h.1, h.2)

by_fill : (low : ℕ) (b : Bool) (p : Piece) (ps : List Piece) → ApartFrom low ps → ApartFrom low (p ∷ ps) → ApartFrom low (cond b ps (p ∷ ps))
by_fill low true p ps h g = h
by_fill low false p ps h g = g

pub are_apart : (units : List ℕ) (at : ℕ) (ps : List Piece) (stop : ℕ) → PiecesTo units at ps stop → ApartFrom at (instructions ps)
are_apart units at [] stop h = tt
are_apart units at (p ∷ ps) stop h =
    let rest = are_apart units (at + length p.text) ps stop h.1 in
    let start : p.start ≡ at = h.0.start in
    let on : at ≤ at + length p.text = omega arith in
    let low : at ≤ p.start = omega (arith, start) in
    by_fill at (only_fills (p ∷ ps)) p (instructions ps) (lower at (at + length p.text) (instructions ps) on rest)
    (low, some_piece (drop at units) (length p.text) h.0.size, subst (λ (n : ℕ). ApartFrom (n + length p.text) (instructions ps)) (sym start) rest)

later_none : (ps : List Piece) (low end : ℕ) → ApartFrom low ps → end < low → list_any (λ u. eqb u end) (starts_of ps) ≡ false
later_none [] low end h less = refl
later_none (p ∷ ps) low end h less = ap (λ (b : Bool). b || list_any (λ u. eqb u end) (starts_of ps)) (unequal p.start end (λ is. omega (arith, is, less, h.0)))
    ∙ later_none ps (p.start + length p.text) end h.2 (omega (arith, less, h.0))

none_behind : (ps : List Piece) (end : ℕ) → ApartFrom end ps → ((t : Piece) → slice_get ps 0 ≡ Some t → t.start ≡ end → ⊥) → list_any (λ u. eqb u end) (starts_of ps) ≡ false
none_behind [] end h next = refl
none_behind (p ∷ ps) end h next =
    let other : p.start ≡ end → ⊥ = next p refl in
    ap (λ (b : Bool). b || list_any (λ u. eqb u end) (starts_of ps)) (unequal p.start end other)
    ∙ later_none ps (p.start + length p.text) end h.2 (omega (arith, h.0, h.1))

got_low : (ps : List Piece) (low k : ℕ) (p : Piece) → ApartFrom low ps → slice_get ps k ≡ Some p → (low ≤ p.start) × (0 < length p.text)
got_low [] low k p h there = absurd cc
got_low (q ∷ ps) low zero p h there = subst (λ (x : Piece). (low ≤ x.start) × (0 < length x.text)) (some_same q p there) (h.0, h.1)
got_low (q ∷ ps) low (suc k) p h there = let rest = got_low ps (q.start + length q.text) k p h.2 there in (omega (arith, h.0, rest.0), rest.1)

pub none_begins : (ps : List Piece) (low k : ℕ) (p : Piece) → ApartFrom low ps → slice_get ps k ≡ Some p → ((t : Piece) → slice_get ps (suc k) ≡ Some t → t.start ≡ p.start + length p.text → ⊥)
    → list_any (λ u. eqb u (p.start + length p.text)) (starts_of ps) ≡ false
none_begins [] low k p h there next = absurd cc
none_begins (q ∷ ps) low zero p h there next =
    let same : q ≡ p = some_same q p there in
    let apart : ApartFrom (p.start + length p.text) ps = subst (λ (x : Piece). ApartFrom (x.start + length x.text) ps) same h.2 in
    let some : 0 < length p.text = subst (λ (x : Piece). 0 < length x.text) same h.1 in
    let start : q.start ≡ p.start = ap (λ (x : Piece). x.start) same in
    ap (λ (b : Bool). b || list_any (λ u. eqb u (p.start + length p.text)) (starts_of ps)) (unequal q.start (p.start + length p.text) (λ is. omega (arith, is, some, start)))
    ∙ none_behind ps (p.start + length p.text) apart next
none_begins (q ∷ ps) low (suc k) p h there next =
    let after = got_low ps (q.start + length q.text) k p h.2 there in
    ap (λ (b : Bool). b || list_any (λ u. eqb u (p.start + length p.text)) (starts_of ps)) (unequal q.start (p.start + length p.text) (λ is. omega (arith, is, after.0, after.1, h.1)))
    ∙ none_begins ps (q.start + length q.text) k p h.2 there next

-- ---- how many units an instruction has

abbrev pub Sized : List ℕ → Piece → Type 0
Sized units p = size_at units p.start ≡ length p.text

front_first : (u : ℕ) (us : List ℕ) (n : ℕ) → 0 < n → slice_index (take n (u ∷ us)) 0 ≡ u
front_first u us zero h = absurd (omega (arith, h))
front_first u us (suc n) h = refl

none_some : {n : ℕ} → None ≡ Some n → ⊥
none_some e = absurd cc

by_front : (us : List ℕ) (p : Piece) → piece_size us ≡ Some (length p.text) → p.text ≡ take (length p.text) us → 0 < length p.text → is_payload p ≡ false → units_or_none (option_map format_units (format_at (slice_index us 0 % 256))) ≡ length p.text
by_front [] p size text some other = absurd (none_some size)
by_front (u ∷ us) p size text some other =
    let first : first_unit p ≡ u = ap (λ (xs : List ℕ). slice_index xs 0) text ∙ front_first u us (length p.text) some in
    let kind : eqb (payload_kind u) 0 ≡ true = not_false (eqb (payload_kind u) 0) (ap (λ (k : ℕ). not (eqb (payload_kind k) 0)) (sym first) ∙ other) in
    ap units_or_none (sym (ap (λ (b : Bool). cond b (option_map format_units (format_at (u % 256))) (payload_size (payload_kind u) (u ∷ us))) kind) ∙ size)

sized : (units : List ℕ) (p : Piece) → Lies units p → is_payload p ≡ false → Sized units p
sized units p lies other =
    let on : p.start + 0 ≡ p.start = omega arith in
    let here : slice_index (drop p.start units) 0 ≡ slice_index units p.start = get_or-drop p.start units 0 0 ∙ ap (λ (i : ℕ). slice_index units i) on in
    subst (λ (u : ℕ). units_or_none (option_map format_units (format_at (u % 256))) ≡ length p.text) here (by_front (drop p.start units) p lies.is.size lies.is.text lies.some other)

by_fills : (P : List Piece → Type 0) (b : Bool) (x y : List Piece) → P x → (b ≡ false → P y) → P (cond b x y)
by_fills P true x y f g = f
by_fills P false x y f g = g refl

pub are_sized : (units : List ℕ) (ps : List Piece) → AllByRecursion (Lies units) ps → AllByRecursion (Sized units) (instructions ps)
are_sized units [] h = tt
are_sized units (p ∷ ps) h =
    let rest = are_sized units ps h.1 in
    by_fills (AllByRecursion (Sized units)) (only_fills (p ∷ ps)) (instructions ps) (p ∷ instructions ps) rest (λ e. (sized units p h.0 (or_false_left (is_payload p) (is_nop p && only_fills ps) e), rest))

-- ---- what continues

module _ (places : Places) (start : ℕ) (f : Fields) (insn : Insn) where
  one_ends : (op : ℕ) → c.is_call op ≡ false → has_payload op ≡ false → ((t : ℕ) → c.is_branch op ≡ true → goes_on (c.branch_form op f t) ≡ false) → (c.is_branch op ≡ false → goes_on (plain op f) ≡ false) → IsKind places start op f insn → goes_on insn ≡ false
  one_ends op a b branch other (ACall is most e) = absurd (true≢false (sym is ∙ a))
  one_ends op a b branch other (ABranch is e) = ap goes_on e ∙ branch _ is
  one_ends op a b branch other (ATable is e) = absurd (true≢false (sym is ∙ b))
  one_ends op a b branch other (APlain call is table e) = ap goes_on e ∙ other is

  four : (P : ℕ → Type 0) (low op : ℕ) → low ≤ op → op ≤ low + 3 → P low → P (low + 1) → P (low + 2) → P (low + 3) → P op
  four P low op a b p0 p1 p2 p3 = by_tests (eqb op low) (eqb op (low + 1)) (eqb op (low + 2)) refl refl refl
    where
      by_tests : (x y z : Bool) → eqb op low ≡ x → eqb op (low + 1) ≡ y → eqb op (low + 2) ≡ z → P op
      by_tests true y z ex ey ez = subst P (sym (eqb-true op low ex)) p0
      by_tests false true z ex ey ez = subst P (sym (eqb-true op (low + 1) ey)) p1
      by_tests false false true ex ey ez = subst P (sym (eqb-true op (low + 2) ez)) p2
      by_tests false false false ex ey ez =
          let n0 : op ≡ low → ⊥ = λ is. true≢false (sym (eq-eqb op low is) ∙ ex) in
          let n1 : op ≡ low + 1 → ⊥ = λ is. true≢false (sym (eq-eqb op (low + 1) is) ∙ ey) in
          let n2 : op ≡ low + 2 → ⊥ = λ is. true≢false (sym (eq-eqb op (low + 2) is) ∙ ez) in
          let last : low + 3 ≡ op = omega (arith, a, b, n0, n1, n2) in subst P last p3

  abbrev Stops : ℕ → Type 0
  Stops op = IsKind places start op f insn → goes_on insn ≡ false

  returns : (op : ℕ) → from_to op 0x0e 0x11 ≡ true → Stops op
  unfolding plain
  returns op h = let both = and_parts (leb 0x0e op) (leb op 0x11) h in four Stops 0x0e op (leb-true 0x0e op both.0) (leb-true op 0x11 both.1)
      (one_ends 0x0e refl refl (λ t is. absurd (true≢false (sym is))) (λ _. refl)) (one_ends 0x0f refl refl (λ t is. absurd (true≢false (sym is))) (λ _. refl))
      (one_ends 0x10 refl refl (λ t is. absurd (true≢false (sym is))) (λ _. refl)) (one_ends 0x11 refl refl (λ t is. absurd (true≢false (sym is))) (λ _. refl))

  leaps : (op : ℕ) → from_to op 0x27 0x2a ≡ true → Stops op
  unfolding plain
  leaps op h = let both = and_parts (leb 0x27 op) (leb op 0x2a) h in four Stops 0x27 op (leb-true 0x27 op both.0) (leb-true op 0x2a both.1)
      (one_ends 0x27 refl refl (λ t is. absurd (true≢false (sym is))) (λ _. refl)) (one_ends 0x28 refl refl (λ t is. refl) (λ is. absurd (true≢false is)))
      (one_ends 0x29 refl refl (λ t is. refl) (λ is. absurd (true≢false is))) (one_ends 0x2a refl refl (λ t is. refl) (λ is. absurd (true≢false is)))

  stops : (op : ℕ) → continues op ≡ false → Stops op
  stops op h = elim (either_true (from_to op 0x0e 0x11) (from_to op 0x27 0x2a) (not_false (from_to op 0x0e 0x11 || from_to op 0x27 0x2a) h) (returns op) (leaps op)) [ inl s ↦ s | inr s ↦ s ]

  pub continuing : (op : ℕ) → IsKind places start op f insn → goes_on insn ≡ true → continues op ≡ true
  continuing op kind on = by_test (continues op) refl
    where
      by_test : (b : Bool) → continues op ≡ b → b ≡ true
      by_test true e = refl
      by_test false e = absurd (true≢false (sym on ∙ stops op e kind))

-- ---- places in lists

pub numbered : (from : ℕ) (insns : List Insn) (k : ℕ) (x : ℕ × Insn) → slice_get (enumerate_from from insns) k ≡ Some x → (x.0 ≡ from + k) × (slice_get insns k ≡ Some x.1)
numbered from [] k x h = absurd cc
numbered from (i ∷ is) zero x h = let same : (from, i) ≡ x = some_same (from, i) x h in let on : from ≡ from + 0 = omega arith in (ap (λ (y : ℕ × Insn). y.0) (sym same) ∙ on, ap (λ (y : ℕ × Insn). Some y.1) same)
numbered from (i ∷ is) (suc k) x h = let rest = numbered (from + 1) is k x h in let on : from + 1 + k ≡ from + suc k = omega arith in (rest.0 ∙ on, rest.1)

gap_from : (units starts : List ℕ) (insns : List Insn) (k : ℕ) (x : ℕ × Insn) → slice_get (enumerate_from 0 insns) k ≡ Some x → is_gap units starts x ≡ true → (insn : Insn) × (slice_get insns k ≡ Some insn) × (is_gap units starts (k, insn) ≡ true)
gap_from units starts insns k x is g =
    let at = numbered 0 insns k x is in
    let on : 0 + k ≡ k = omega arith in
    (x.1, at.1, subst (λ (n : ℕ). is_gap units starts (n, x.1) ≡ true) (at.0 ∙ on) g)

pub gap_there : (units starts : List ℕ) (insns : List Insn) (k : ℕ) → first_gap units starts insns ≡ Some k → (insn : Insn) × (slice_get insns k ≡ Some insn) × (is_gap units starts (k, insn) ≡ true)
gap_there units starts insns k h =
    let got = position-Some (is_gap units starts) (enumerate_from 0 insns) k (0, Nop) h in
    gap_from units starts insns k _ (slice_get-get_or (enumerate_from 0 insns) k (0, Nop) got.0) got.1
