-- Originals are registers of the body, and of wide operands both are.
use Rattle.std.proofs.Common.{◌≡◌, ◌⊎◌, inl, inr, ℕ, ◌+◌, ◌<◌, Bool, true, false, true≢false, List, [], ◌∷◌, ◌++◌, refl, sym, ap, ◌∙◌, subst, arith, eqb-true, eq-eqb}
use Rattle.std.specs.Prelude.{◌&&◌, ◌||◌, not, nat_eq, if◌then◌else◌, All}
use Rattle.std.specs.List.{list_any}
use Rattle.std.proofs.lemmas.Bool.{or_left, or_right}
use Rattle.std.proofs.lemmas.List.Elements.{All-head, All-tail}
use Rattle.insn_set.specs.Registers.{in_operand, reads_of, writes_of}
use Rattle.insn_set.specs.Widths.{is_wide_slot, is_wide_item, compares_wide, unary_reads_wide, binary_is_wide, second_is_wide}
use Rattle.insn_set.specs.declared.form.Insn.{Insn}
use Rattle.insn_set.specs.declared.form.Insn.TheVariants as insn
use Rattle.program_model.specs.OperandRules.{registers_fit}
use Rattle.program_model.specs.declared.body.Body.{Body}
use Rattle.form_laws.proofs.Demanded.{and_behind}
use Rattle.form_laws.proofs.Operands.{reads_below, writes_below}
use Rattle.insn_regs.specs.Remade.{remade}
use Rattle.insn_regs.specs.Wides.{first_if, wides_read}
use Rattle.compact.specs.Renamed.{HasRegisters}
use Rattle.copy_prop.specs.Stale.{IsStaleBy}
use Rattle.form_laws.specs.Reread.{Copied, substituted}
use Rattle.bodies_kept.proofs.CopyRegisters.{wide_operands, fits}

pub clash : {A : Type 0} (b : Bool) → b ≡ true → b ≡ false → A
clash b e f = absurd (true≢false (sym e ∙ f))

in_first : (v : Bool) (r : ℕ) → in_operand v r r ≡ true
in_first true r = or_left (nat_eq r r) (nat_eq r (r + 1)) (eq-eqb r r refl)
in_first false r = eq-eqb r r refl

in_second : (r : ℕ) → in_operand true r (r + 1) ≡ true
in_second r = or_right (nat_eq (r + 1) r) (nat_eq (r + 1) (r + 1)) (eq-eqb (r + 1) (r + 1) refl)

-- ---- wide operands

pub only : (x a : ℕ) → (nat_eq x a || false) ≡ true → x ≡ a
only x a e = by (nat_eq x a) refl e
  where
    by : (u : Bool) → nat_eq x a ≡ u → (u || false) ≡ true → x ≡ a
    by true i e = eqb-true x a i
    by false i e = absurd (true≢false (sym e))

pub first_or : (v : Bool) (a x : ℕ) (ys : List ℕ) → list_any (nat_eq x) (first_if v a ++ ys) ≡ true → (list_any (nat_eq x) (first_if v a) ≡ true) ⊎ (list_any (nat_eq x) ys ≡ true)
first_or true a x ys e = by (nat_eq x a) refl e
  where
    by : (u : Bool) → nat_eq x a ≡ u → (u || list_any (nat_eq x) ys) ≡ true → ((nat_eq x a || false) ≡ true) ⊎ (list_any (nat_eq x) ys ≡ true)
    by true i e = inl (or_left (nat_eq x a) false i)
    by false i e = inr e
first_or false a x ys e = inr e

second_in : (v : Bool) (a x : ℕ) → list_any (nat_eq x) (first_if v a) ≡ true → in_operand v a (x + 1) ≡ true
second_in true a x e = subst (λ y. in_operand true y (x + 1) ≡ true) (only x a e) (in_second x)
second_in false a x e = absurd (true≢false (sym e))

second_of_two : (v u : Bool) (a c x : ℕ) → list_any (nat_eq x) (first_if v a ++ first_if u c) ≡ true → (in_operand v a (x + 1) || in_operand u c (x + 1)) ≡ true
second_of_two v u a c x e = elim (first_or v a x (first_if u c) e) [
  | inl i ↦ or_left (in_operand v a (x + 1)) (in_operand u c (x + 1)) (second_in v a x i)
  | inr i ↦ or_right (in_operand v a (x + 1)) (in_operand u c (x + 1)) (second_in u c x i)
]

-- both registers of a wide operand are read
reads_second : (f : Insn) (x : ℕ) → list_any (nat_eq x) (wide_operands f) ≡ true → reads_of f (x + 1) ≡ true
reads_second (insn.Move slot to from) x e = second_in (is_wide_slot slot) from x e
reads_second (insn.Return slot from) x e = second_in (is_wide_slot slot) from x e
reads_second (insn.Cmp op to a b) x e = second_of_two (compares_wide op) (compares_wide op) a b x e
reads_second (insn.ArrayPut item from array index) x e =
    or_left (in_operand (is_wide_item item) from (x + 1) || nat_eq (x + 1) array) (nat_eq (x + 1) index) (or_left (in_operand (is_wide_item item) from (x + 1)) (nat_eq (x + 1) array) (second_in (is_wide_item item) from x e))
reads_second (insn.InstancePut item from on field) x e = or_left (in_operand (is_wide_item item) from (x + 1)) (nat_eq (x + 1) on) (second_in (is_wide_item item) from x e)
reads_second (insn.StaticPut item from field) x e = second_in (is_wide_item item) from x e
reads_second (insn.Unary op to from) x e = second_in (unary_reads_wide op) from x e
reads_second (insn.Binary op to a b) x e = second_of_two (binary_is_wide op) (second_is_wide op) a b x e
reads_second insn.Nop x e = absurd (true≢false (sym e))
reads_second f x e = absurd (true≢false (sym e))

-- a wide operand is one of those that are read
is_read : (w : List (List Bool)) (f : Insn) (x : ℕ) → list_any (nat_eq x) (wide_operands f) ≡ true → list_any (nat_eq x) (wides_read w f) ≡ true
is_read w (insn.Invoke kind method args) x e = absurd (true≢false (sym e))
is_read w insn.Nop x e = e
is_read w f x e = e

-- the wide operands of an instruction that may have two
abbrev pub two_wides : Insn → List ℕ
two_wides (insn.Cmp op to a b) = first_if (compares_wide op) a ++ first_if (compares_wide op) b
two_wides (insn.Binary op to a b) = first_if (binary_is_wide op) a ++ first_if (second_is_wide op) b
two_wides f = []

one_only : (v : Bool) (a x : ℕ) → list_any (nat_eq x) (first_if v a) ≡ true → list_any (nat_eq (x + 1)) (first_if v a) ≡ true → ⊥
one_only true a x e f = let i = only x a e in let j = only (x + 1) a f in omega (arith, i, j)
one_only false a x e f = true≢false (sym e)

-- only such an instruction has wide operands that overlap
overlapping : (w : List (List Bool)) (f : Insn) (x : ℕ) → list_any (nat_eq x) (wides_read w f) ≡ true → list_any (nat_eq (x + 1)) (wide_operands f) ≡ true → list_any (nat_eq (x + 1)) (two_wides f) ≡ true
overlapping w (insn.Move slot to from) x e i = absurd (one_only (is_wide_slot slot) from x e i)
overlapping w (insn.Return slot from) x e i = absurd (one_only (is_wide_slot slot) from x e i)
overlapping w (insn.Cmp op to a b) x e i = i
overlapping w (insn.ArrayPut item from array index) x e i = absurd (one_only (is_wide_item item) from x e i)
overlapping w (insn.InstancePut item from on field) x e i = absurd (one_only (is_wide_item item) from x e i)
overlapping w (insn.StaticPut item from field) x e i = absurd (one_only (is_wide_item item) from x e i)
overlapping w (insn.Unary op to from) x e i = absurd (one_only (unary_reads_wide op) from x e i)
overlapping w (insn.Binary op to a b) x e i = i
overlapping w insn.Nop x e i = i
overlapping w f x e i = i

-- a wide operand that a register stands in
covered : (x r : ℕ) (ws : List ℕ) → in_operand true x r ≡ true → list_any (nat_eq x) ws ≡ true → list_any (λ at. in_operand true at r) ws ≡ true
covered x r [] i e = absurd (true≢false (sym e))
covered x r (w ∷ ws) i e = by (covered x r ws i) (nat_eq x w) refl e
  where
    by : (list_any (nat_eq x) ws ≡ true → list_any (λ at. in_operand true at r) ws ≡ true) → (b : Bool) → nat_eq x w ≡ b → (b || list_any (nat_eq x) ws) ≡ true → list_any (λ at. in_operand true at r) (w ∷ ws) ≡ true
    by more true j e = or_left (in_operand true w r) (list_any (λ at. in_operand true at r) ws) (subst (λ y. in_operand true y r ≡ true) (eqb-true x w j) i)
    by more false j e = or_right (in_operand true w r) (list_any (λ at. in_operand true at r) ws) (more e)

-- ---- copies

-- the read at a position is stale by the copy
abbrev pub IsAmong : List (List Bool) → Body → ℕ → Insn → Copied → Type 0
IsAmong w b n f c = IsStaleBy w b n f c.at c.slot c.to c.from

module _ (w : List (List Bool)) (b : Body) (has : HasRegisters b) (n : ℕ) (f : Insn) where
  abbrev reads_wide : Bool → ℕ → Bool
  reads_wide v r = elim v as (λ v. Bool) [ true ↦ list_any (nat_eq r) (wides_read w f) | false ↦ reads_of f r && not (list_any (λ at. in_operand true at r) (wides_read w f)) ]

  wide_read : (c : Copied) → IsAmong w b n f c → is_wide_slot c.slot ≡ true → list_any (nat_eq c.to) (wides_read w f) ≡ true
  wide_read c s e = ap (λ v. reads_wide v c.to) (sym e) ∙ s.stands.read

  -- a narrow copy is no wide operand
  narrow_read : (c : Copied) → IsAmong w b n f c → is_wide_slot c.slot ≡ false → list_any (nat_eq c.to) (wides_read w f) ≡ true → ⊥
  narrow_read c s e l = clash (not (list_any (λ at. in_operand true at c.to) (wides_read w f)))
      (and_behind (reads_of f c.to) (not (list_any (λ at. in_operand true at c.to) (wides_read w f))) (ap (λ v. reads_wide v c.to) (sym e) ∙ s.stands.read))
      (ap not (covered c.to c.to (wides_read w f) (in_first true c.to) l))

  from_below : (c : Copied) → IsAmong w b n f c → c.from < b.registers
  from_below c s = has c.at c.from (insn.Move c.slot c.to c.from) s.copy (or_left (in_operand (is_wide_slot c.slot) c.from c.from) (writes_of (insn.Move c.slot c.to c.from) c.from) (in_first (is_wide_slot c.slot) c.from))

  next_below : (c : Copied) → IsAmong w b n f c → is_wide_slot c.slot ≡ true → c.from + 1 < b.registers
  next_below c s e = has c.at (c.from + 1) (insn.Move c.slot c.to c.from) s.copy
      (or_left (in_operand (is_wide_slot c.slot) c.from (c.from + 1)) (writes_of (insn.Move c.slot c.to c.from) (c.from + 1)) (subst (λ v. in_operand v c.from (c.from + 1) ≡ true) (sym e) (in_second c.from)))

  below : (cs : List Copied) → All (IsAmong w b n f) cs → (r : ℕ) → r < b.registers → substituted cs r < b.registers
  below [] h r lt = lt
  below (c ∷ cs) h r lt = by (nat_eq r c.to) (is_wide_slot c.slot) (nat_eq r (c.to + 1)) refl (below cs (All-tail (IsAmong w b n f) c cs h) r lt)
    where
      head : IsAmong w b n f c
      head = All-head (IsAmong w b n f) c cs h

      by : (u v z : Bool) → is_wide_slot c.slot ≡ v → substituted cs r < b.registers → (if u then c.from else if v && z then c.from + 1 else substituted cs r) < b.registers
      by true v z e more = from_below c head
      by false true true e more = next_below c head e
      by false true false e more = more
      by false false z e more = more

  -- where wide operands don't overlap
  module _ (apart : (c : Copied) → IsAmong w b n f c → is_wide_slot c.slot ≡ true → list_any (nat_eq (c.to + 1)) (two_wides f) ≡ true → ⊥) where
    pair_below : (x : ℕ) → list_any (nat_eq x) (wide_operands f) ≡ true → x + 1 < b.registers → (cs : List Copied) → All (IsAmong w b n f) cs → substituted cs x + 1 < b.registers
    pair_below x i lt [] h = lt
    pair_below x i lt (c ∷ cs) h = by (nat_eq x c.to) (is_wide_slot c.slot) (nat_eq x (c.to + 1)) refl refl refl (pair_below x i lt cs (All-tail (IsAmong w b n f) c cs h))
      where
        head : IsAmong w b n f c
        head = All-head (IsAmong w b n f) c cs h

        by : (u v z : Bool) → nat_eq x c.to ≡ u → is_wide_slot c.slot ≡ v → nat_eq x (c.to + 1) ≡ z → substituted cs x + 1 < b.registers → (if u then c.from else if v && z then c.from + 1 else substituted cs x) + 1 < b.registers
        by true true z j e k more = next_below c head e
        by true false z j e k more = absurd (narrow_read c head e (subst (λ y. list_any (nat_eq y) (wides_read w f) ≡ true) (eqb-true x c.to j) (is_read w f x i)))
        by false true true j e k more = absurd (apart c head e (overlapping w f c.to (wide_read c head e) (subst (λ y. list_any (nat_eq y) (wide_operands f) ≡ true) (eqb-true x (c.to + 1) k) i)))
        by false true false j e k more = more
        by false false z j e k more = more

    pub still_fits : (cs : List Copied) → All (IsAmong w b n f) cs → registers_fit f b.registers ≡ true → registers_fit (remade (substituted cs) (λ r. r) f) b.registers ≡ true
    still_fits cs h k = fits (substituted cs) b.registers f
        (λ r e. below cs h r (reads_below b.registers r f k e))
        (λ r e. writes_below b.registers r f k e)
        (λ x i. pair_below x i (reads_below b.registers (x + 1) f k (reads_second f x i)) cs h)
