-- A propagated body reads what went through no more Moves.
use Rattle.std.proofs.Common.{◌≡◌, ◌⊎◌, inl, inr, ℕ, suc, ◌+◌, ◌<◌, ◌≤◌, Bool, true, false, true≢false, nat_eq, List, [], ◌∷◌, Option, Some, None, refl, sym, ap, ap₂, ◌∙◌, subst, arith, eqb-true, eq-eqb}
use Rattle.std.specs.Prelude.{◌&&◌, ◌||◌, not, if◌then◌else◌, All}
use Rattle.std.proofs.lemmas.List.Elements.{All-head, All-tail}
use Rattle.insn_set.specs.Registers.{in_operand}
use Rattle.insn_set.specs.Widths.{is_wide_slot}
use Rattle.insn_set.specs.declared.ops.Slot.{Slot}
use Rattle.insn_set.specs.declared.ops.Slot.TheVariants as slots
use Rattle.insn_set.specs.declared.form.Insn.{Insn}
use Rattle.insn_set.specs.declared.form.Insn.TheVariants as insn
use Rattle.program_model.specs.declared.body.Body.{Body}
use Rattle.insn_regs.specs.Remade.{remade}
use Rattle.insn_regs.specs.Wides.{reads_as}
use Rattle.body_graph.specs.Walks.{insn_at}
use Rattle.copy_prop.specs.Stale.{IsStaleBy}
use Rattle.copy_prop.specs.Rereading.{IsReread}
use Rattle.copy_prop.specs.Rereading as pass
use Rattle.copy_prop.specs.Propagated.{IsPropagated}
use Rattle.moves_law.specs.Histories.{Step, IsPath, moves, ReadsNoLater}
use Rattle.moves_law.proofs.Standing.{clash, untrue, some_same, in_first, in_second, stands}

-- ---- a wide Move

or_none : (a : Bool) → (a || false) ≡ true → a ≡ true
or_none true e = refl
or_none false e = e

never : (a : Bool) {A : Type 0} → (a && not (a || false)) ≡ true → A
never true e = absurd (true≢false (sym e))
never false e = absurd (true≢false (sym e))

whole : (w : List (List Bool)) (s : Slot) (to from r : ℕ) → reads_as w s (insn.Move slots.Wide to from) r ≡ true → (is_wide_slot s ≡ true) × (from ≡ r)
whole w slots.Wide to from r e = (refl, sym (eqb-true r from (or_none (nat_eq r from) e)))
whole w slots.Word to from r e = never (in_operand true from r) e
whole w slots.Object to from r e = never (in_operand true from r) e

-- ---- copies, by what is asked of one

module _ {C : Type 0} (sub : List C → ℕ → ℕ) (at : C → ℕ) (slot : C → Slot) (to from : C → ℕ) (none : (r : ℕ) → sub [] r ≡ r)
    (more : (c : C) (cs : List C) (r : ℕ) → sub (c ∷ cs) r ≡ (if nat_eq r (to c) then from c else if is_wide_slot (slot c) && nat_eq r (to c + 1) then from c + 1 else sub cs r))
    (w : List (List Bool)) (b : Body) (n : ℕ) (f : Insn) where
  abbrev Among : C → Type 0
  Among c = IsStaleBy w b n f (at c) (slot c) (to c) (from c)

  module _ (ss : List Step) (path : IsPath b ss n) where
    low : (c : C) → Among c → moves b ss (to c) ≡ suc (moves b ss (from c))
    low c y = stands b (at c) (slot c) (to c) (from c) y.copy y.stands.apart ss n path y.stands.kept (to c) (in_first (is_wide_slot (slot c)) (to c))
        ∙ ap (λ u. suc (moves b ss (if u then from c else if is_wide_slot (slot c) && nat_eq (to c) (to c + 1) then from c + 1 else to c))) (eq-eqb (to c) (to c) refl)

    next_apart : (x : ℕ) → nat_eq (x + 1) x ≡ false
    next_apart x = untrue (nat_eq (x + 1) x) (λ e. let i = eqb-true (x + 1) x e in omega (arith, i))

    high : (c : C) → Among c → is_wide_slot (slot c) ≡ true → moves b ss (to c + 1) ≡ suc (moves b ss (from c + 1))
    high c y wide = stands b (at c) (slot c) (to c) (from c) y.copy y.stands.apart ss n path y.stands.kept (to c + 1) (subst (λ v. in_operand v (to c) (to c + 1) ≡ true) (sym wide) (in_second (to c)))
        ∙ ap (λ u. suc (moves b ss (if u then from c else if is_wide_slot (slot c) && nat_eq (to c + 1) (to c + 1) then from c + 1 else to c + 1))) (next_apart (to c))
        ∙ ap₂ (λ v z. suc (moves b ss (if v && z then from c + 1 else to c + 1))) wide (eq-eqb (to c + 1) (to c + 1) refl)

    no_more : (cs : List C) → All Among cs → (r : ℕ) → moves b ss (sub cs r) ≤ moves b ss r
    no_more [] h r = subst (λ x. moves b ss x ≤ moves b ss r) (sym (none r)) (omega arith)
    no_more (c ∷ cs) h r = subst (λ x. moves b ss x ≤ moves b ss r) (sym (more c cs r)) (by (nat_eq r (to c)) (is_wide_slot (slot c)) (nat_eq r (to c + 1)) refl refl refl (no_more cs (All-tail Among c cs h) r))
      where
        head : Among c
        head = All-head Among c cs h

        by : (u v z : Bool) → nat_eq r (to c) ≡ u → is_wide_slot (slot c) ≡ v → nat_eq r (to c + 1) ≡ z → moves b ss (sub cs r) ≤ moves b ss r
            → moves b ss (if u then from c else if v && z then from c + 1 else sub cs r) ≤ moves b ss r
        by true v z i j k rest = subst (λ x. moves b ss (from c) ≤ moves b ss x) (sym (eqb-true r (to c) i)) (let e = low c head in omega (arith, e))
        by false true true i j k rest = subst (λ x. moves b ss (from c + 1) ≤ moves b ss x) (sym (eqb-true r (to c + 1) k)) (let e = high c head j in omega (arith, e))
        by false true false i j k rest = rest
        by false false z i j k rest = rest

    -- what is read is the same, or went through fewer
    pub same_or_fewer : (cs : List C) → All Among cs → (r : ℕ) → (sub cs r ≡ r) ⊎ (moves b ss (sub cs r) < moves b ss r)
    same_or_fewer [] h r = inl (none r)
    same_or_fewer (c ∷ cs) h r = subst (λ x. (x ≡ r) ⊎ (moves b ss x < moves b ss r)) (sym (more c cs r))
        (by (nat_eq r (to c)) (is_wide_slot (slot c)) (nat_eq r (to c + 1)) refl refl refl (same_or_fewer cs (All-tail Among c cs h) r))
      where
        head : Among c
        head = All-head Among c cs h

        by : (u v z : Bool) → nat_eq r (to c) ≡ u → is_wide_slot (slot c) ≡ v → nat_eq r (to c + 1) ≡ z → (sub cs r ≡ r) ⊎ (moves b ss (sub cs r) < moves b ss r)
            → ((if u then from c else if v && z then from c + 1 else sub cs r) ≡ r) ⊎ (moves b ss (if u then from c else if v && z then from c + 1 else sub cs r) < moves b ss r)
        by true v z i j k rest = inr (subst (λ x. moves b ss (from c) < moves b ss x) (sym (eqb-true r (to c) i)) (let e = low c head in omega (arith, e)))
        by false true true i j k rest = inr (subst (λ x. moves b ss (from c + 1) < moves b ss x) (sym (eqb-true r (to c + 1) k)) (let e = high c head j in omega (arith, e)))
        by false true false i j k rest = rest
        by false false z i j k rest = rest

  together : (cs : List C) → All Among cs → (x y : ℕ) → f ≡ insn.Move slots.Wide x y → sub cs (y + 1) ≡ sub cs y + 1
  together [] h x y e = none (y + 1) ∙ ap (λ z. z + 1) (sym (none y))
  together (c ∷ cs) h x y e =
      let head : Among c = All-head Among c cs h in
      let u = whole w (slot c) x y (to c) (subst (λ g. reads_as w (slot c) g (to c) ≡ true) e head.stands.read) in
      let first : nat_eq y (to c) ≡ true = eq-eqb y (to c) u.1 in
      let second : nat_eq (y + 1) (to c + 1) ≡ true = eq-eqb (y + 1) (to c + 1) (ap (λ z. z + 1) u.1) in
      let apart : nat_eq (y + 1) (to c) ≡ false = untrue (nat_eq (y + 1) (to c)) (λ z. let i = eqb-true (y + 1) (to c) z in let j = u.1 in omega (arith, i, j)) in
      more c cs (y + 1)
      ∙ ap (λ v. if v then from c else if is_wide_slot (slot c) && nat_eq (y + 1) (to c + 1) then from c + 1 else sub cs (y + 1)) apart
      ∙ ap₂ (λ v z. if v && z then from c + 1 else sub cs (y + 1)) u.0 second
      ∙ sym (ap (λ z. z + 1) (more c cs y ∙ ap (λ v. if v then from c else if is_wide_slot (slot c) && nat_eq y (to c + 1) then from c + 1 else sub cs y) first))

-- ---- bodies

module _ (w : List (List Bool)) (b d : Body) (x : IsPropagated w b d) where
  record Known (n : ℕ) (o : Option Insn) : Type 0 where
    new : ℕ → ℕ
    insns : (f : Insn) → o ≡ Some f → insn_at d n ≡ Some (remade new (λ r. r) f)
    fewer : (ss : List Step) → IsPath b ss n → (r : ℕ) → moves b ss (new r) ≤ moves b ss r
    pairs : (to from : ℕ) → o ≡ Some (insn.Move slots.Wide to from) → new (from + 1) ≡ new from + 1

  known : (n : ℕ) (o : Option Insn) → insn_at b n ≡ o → Known n o
  known n None e = record {
    new = λ r. r;
    insns = λ f i. clash true refl (ap (λ o. elim o as (λ o. Bool) [ Some y ↦ false | None ↦ true ]) i);
    fewer = λ ss p r. omega arith;
    pairs = λ to from i. refl;
  }
  known n (Some f) e =
      let u = x.insns n f e in
      let y : IsReread w b n f u.0 = u.2 in
      record {
        new = pass.substituted y.copies;
        insns = λ g i. subst (λ z. insn_at d n ≡ Some (remade (pass.substituted y.copies) (λ r. r) z)) (some_same f g i) (u.1 ∙ ap Some y.form);
        fewer = λ ss p r. no_more pass.substituted (λ c. c.at) (λ c. c.slot) (λ c. c.to) (λ c. c.from) (λ r. refl) (λ c cs r. refl) w b n f ss p y.copies y.stale r;
        pairs = λ to from i. together pass.substituted (λ c. c.at) (λ c. c.slot) (λ c. c.to) (λ c. c.from) (λ r. refl) (λ c cs r. refl) w b n f y.copies y.stale to from (some_same f (insn.Move slots.Wide to from) i);
      }

  known_at : (n : ℕ) → Known n (insn_at b n)
  known_at n = known n (insn_at b n) refl

  pub reads_no_later : ReadsNoLater b d
  reads_no_later = record {
    new = λ n. (known_at n).new;
    insns = λ n f e. (known_at n).insns f e;
    fewer = λ ss n p r. (known_at n).fewer ss p r;
    pairs = λ n to from e. (known_at n).pairs to from e;
  }
