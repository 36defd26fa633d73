-- What is found to do nothing does nothing, and the other way round.
use Rattle.std.proofs.Common.{◌≡◌, ◌↔◌, ◌⊎◌, inl, inr, ℕ, zero, suc, ◌+◌, ◌<◌, Bool, true, false, not, ◌&&◌, ◌||◌, List, [], ◌∷◌, ◌++◌, length, Option, Some, None, nat_eq, nat_lt, Contains, refl, sym, ap, ◌∙◌, subst, arith, lt-ltb, ltb-true}
use Rattle.std.specs.Prelude.{slice_get}
use Rattle.std.specs.List.{list_any}
use Rattle.std.proofs.lemmas.Bool.{false≢true, and_parts, and_from, or_cases, or_left, or_right, not-true, not_from_false, false_from_ne_true, eqb-true, eq-eqb}
use Rattle.lemmas.proofs.Lists.{any_at}
use Rattle.lemmas.proofs.Bools.{clash}
use Rattle.insn_set.specs.Flow.{divides}
use Rattle.insn_set.specs.Registers.{in_operand}
use Rattle.insn_set.specs.Widths.{binary_is_wide}
use Rattle.insn_set.specs.declared.ops.BinaryOp.{BinaryOp}
use Rattle.insn_set.specs.declared.form.Insn.{Insn}
use Rattle.insn_set.specs.declared.form.Insn.TheVariants as insn
use Rattle.program_model.specs.declared.body.Body.{Body}
use Rattle.program_model.specs.declared.program.Program.{Program}
use Rattle.flow_cfg.specs.Walks.{successors_of}
use Rattle.body_graph.specs.Walks.{IsRead, IsReadAfter}
use Rattle.body_graph.proofs.Members as members
use Rattle.live_regs.specs.Live.{is_live}
use Rattle.live_regs.specs.declared.table.Live.{Live}
use Rattle.dom_frame.specs.declared.frames.Frame.{Frame}
use Rattle.quiet_code.specs.Calls.{is_idle_call}
use Rattle.quiet_code.specs.Idle.{divides_well, IsUnread, takes_result, DoesNothing, is_live_after, unread_by, unread_at, division_at, does_nothing, is_division, LiveIn}

-- ---- lists

any_from : (t : ℕ → Bool) (ns : List ℕ) → list_any t ns ≡ true → (m : ℕ) × Contains ns m × (t m ≡ true)
any_from t [] h = absurd (false≢true h)
any_from t (n ∷ ns) h = elim (or_cases (t n) (list_any t ns) h) [
  | inl here ↦ (n, members.first n ns, here)
  | inr more ↦ (let w = any_from t ns more in (w.0, members.there n ns w.0 w.1, w.2))
]

any_to : (t : ℕ → Bool) (ns : List ℕ) (m : ℕ) → Contains ns m → t m ≡ true → list_any t ns ≡ true
any_to t [] m c h = absurd (members.none m c)
any_to t (n ∷ ns) m c h = elim (members.split n ns m c) [
  | inl e ↦ or_left (t n) (list_any t ns) (subst (λ (k : ℕ). t k ≡ true) (sym e) h)
  | inr d ↦ or_right (t n) (list_any t ns) (any_to t ns m d h)
]

-- ---- registers

first_in : (wide : Bool) (to : ℕ) → in_operand wide to to ≡ true
first_in false to = eq-eqb to to refl
first_in true to = or_left (nat_eq to to) (nat_eq to (to + 1)) (eq-eqb to to refl)

second_in : (to : ℕ) → in_operand true to (to + 1) ≡ true
second_in to = or_right (nat_eq (to + 1) to) (nat_eq (to + 1) (to + 1)) (eq-eqb (to + 1) (to + 1) refl)

record Unread (after : ℕ → Bool) (registers r : ℕ) : Type 0 where
  inside : r < registers
  dead : after r ≡ false

unread_of : (after : ℕ → Bool) (registers to : ℕ) (wide : Bool) → unread_by after registers wide to ≡ true → (r : ℕ) → in_operand wide to r ≡ true → Unread after registers r
unread_of after registers to false h r at =
    let both = and_parts (nat_lt to registers) (not (after to)) h in
    let same : r ≡ to = eqb-true r to at in
    subst (Unread after registers) (sym same) (record { inside = ltb-true to registers both.0; dead = not-true (after to) both.1 })
unread_of after registers to true h r at =
    let both = and_parts (nat_lt (to + 1) registers && not (after to)) (not (after (to + 1))) h in
    let front = and_parts (nat_lt (to + 1) registers) (not (after to)) both.0 in
    let low : to + 1 < registers = ltb-true (to + 1) registers front.0 in
    elim (or_cases (nat_eq r to) (nat_eq r (to + 1)) at) [
      | inl e ↦ (let same : r ≡ to = eqb-true r to e in
          subst (Unread after registers) (sym same) (record { inside = omega (arith, low); dead = not-true (after to) front.1 }))
      | inr e ↦ (let same : r ≡ to + 1 = eqb-true r (to + 1) e in
          subst (Unread after registers) (sym same) (record { inside = low; dead = not-true (after (to + 1)) both.1 }))
    ]

unread_to : (after : ℕ → Bool) (registers to : ℕ) (wide : Bool) → ((r : ℕ) → in_operand wide to r ≡ true → Unread after registers r) → unread_by after registers wide to ≡ true
unread_to after registers to false h =
    let u = h to (first_in false to) in
    and_from (nat_lt to registers) (not (after to)) (lt-ltb to registers u.inside) (not_from_false (after to) u.dead)
unread_to after registers to true h =
    let u = h to (first_in true to) in
    let v = h (to + 1) (second_in to) in
    and_from (nat_lt (to + 1) registers && not (after to)) (not (after (to + 1)))
    (and_from (nat_lt (to + 1) registers) (not (after to)) (lt-ltb (to + 1) registers v.inside) (not_from_false (after to) u.dead))
    (not_from_false (after (to + 1)) v.dead)

-- ---- what is read later

module _ (b : Body) (live : Live) (is : LiveIn b (Some live)) (n : ℕ) where
  not_read : (r : ℕ) → Unread (is_live_after live b n) b.registers r → IsReadAfter b r n → ⊥
  not_read r u w = clash (is_live_after live b n r) (any_to (λ m. is_live live m r) (successors_of b n) w.0 w.1 ((is w.0 r u.inside).1 w.2)) u.dead

  not_live : (r : ℕ) → r < b.registers → (IsReadAfter b r n → ⊥) → Unread (is_live_after live b n) b.registers r
  not_live r lt h = record {
    inside = lt;
    dead = false_from_ne_true (is_live_after live b n r) (λ on. let w = any_from (λ m. is_live live m r) (successors_of b n) on in h (w.0, w.1, (is w.0 r lt).0 w.2));
  }

  unread_is : (wide : Bool) (to : ℕ) → (unread_by (is_live_after live b n) b.registers wide to ≡ true) ↔ IsUnread b n wide to
  unread_is wide to = (
    (λ h. record {
      inside = λ r at. (unread_of (is_live_after live b n) b.registers to wide h r at).inside;
      unread = λ r at. not_read r (unread_of (is_live_after live b n) b.registers to wide h r at);
    }),
    (λ u. unread_to (is_live_after live b n) b.registers to wide (λ r at. not_live r (u.inside r at) (u.unread r at))),
  )

-- ---- instructions

module _ (p : Program) (quiet : List Bool) (o : Option Frame) (b : Body) (n : ℕ) where
  division_is : (live : Option Live) → LiveIn b live → (op : BinaryOp) (to x y : ℕ) → slice_get b.insns n ≡ Some (insn.Binary op to x y)
      → (division_at o live b n op to y ≡ true) ↔ DoesNothing p quiet o b n (insn.Binary op to x y)
  division_is None is op to x y at = (
    (λ h. absurd (false≢true ((and_parts (divides op && divides_well o y) false h).1))),
    (λ w. clash (list_any is_division b.insns) (any_at is_division b.insns n (insn.Binary op to x y) at w.0) is),
  )
  division_is (Some live) is op to x y at = (
    (λ h.
        (let outer = and_parts (divides op && divides_well o y) (unread_by (is_live_after live b n) b.registers (binary_is_wide op) to) h in
        let inner = and_parts (divides op) (divides_well o y) outer.0 in
        (inner.0, inner.1, (unread_is b live is n (binary_is_wide op) to).0 outer.1))),
    (λ w. and_from (divides op && divides_well o y) (unread_by (is_live_after live b n) b.registers (binary_is_wide op) to) (and_from (divides op) (divides_well o y) w.0 w.1)
        ((unread_is b live is n (binary_is_wide op) to).1 w.2)),
  )

  other_is : (false ≡ true) ↔ ⊥
  other_is = ((λ h. false≢true h), (λ w. absurd w))

  pub nothing_is : (live : Option Live) → LiveIn b live → (i : Insn) → slice_get b.insns n ≡ Some i → (does_nothing p quiet o live b n i ≡ true) ↔ DoesNothing p quiet o b n i
  nothing_is live is (insn.Invoke kind method args) at = (
    (λ h.
        (let w = and_parts (not (takes_result (slice_get b.insns (n + 1)))) (is_idle_call p quiet o kind method args) h in
        (not-true (takes_result (slice_get b.insns (n + 1))) w.0, w.1))),
    (λ w. and_from (not (takes_result (slice_get b.insns (n + 1)))) (is_idle_call p quiet o kind method args) (not_from_false (takes_result (slice_get b.insns (n + 1))) w.0) w.1),
  )
  nothing_is live is (insn.Binary op to x y) at = division_is live is op to x y at
  nothing_is live is i at = other_is
