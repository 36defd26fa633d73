-- A write of one kind into two frames, one below the other, leaves the one below the other.
use Rattle.std.proofs.Common.{◌≡◌, ℕ, zero, suc, ◌+◌, ◌-◌, ◌<◌, ◌≤◌, Bool, true, false, nat_eq, List, [], ◌∷◌, length, inl, inr, refl, sym, ap, ◌∙◌, subst, arith}
use Rattle.std.specs.Prelude.{slice_set, if◌then◌else◌}
use Rattle.std.proofs.lemmas.Bool.{cases_lt, eqb-true, eqb-false}
use Rattle.std.proofs.Math.ListN.{length-set}
use Rattle.verify.specs.declared.kinds.Kind.{Kind}
use Rattle.verify.specs.declared.kinds.Kind.TheVariants.{Undefined, Word, WideLow, WideHigh, Fresh, Program, Array}
use Rattle.verify.specs.declared.tables.Tables.{Tables}
use Rattle.verify.specs.Frames.{Kinds, kind_at, cleared, split, written_one, written_pair, written_kinds, written}
use Rattle.verify.specs.Kinds.{same_kind, is_number, is_initialised, is_moved}
use Rattle.verify.specs.Typings.{Below, IsBelow}
use Rattle.verify.proofs.Raises.{below_itself, kind_itself}
use Rattle.verify.proofs.Lattice.{same_is, joins, alike, numbers, objects, apart}

-- frames of one length, each register below the other
pub record AreBelow (t : Tables) (a b : List Kind) : Type 0 where
  pub long : length a ≡ length b
  pub each : (r : ℕ) → Below t (kind_at a r) (kind_at b r)

set_same : (ks : List Kind) (r : ℕ) (k : Kind) → r < length ks → kind_at (slice_set ks r k) r ≡ k
set_same [] r k h = absurd (omega (arith, h))
set_same (x ∷ ks) zero k h = refl
set_same (x ∷ ks) (suc r) k h = set_same ks r k (omega (arith, h))

set_past : (ks : List Kind) (r : ℕ) (k : Kind) → length ks ≤ r → slice_set ks r k ≡ ks
set_past [] r k h = refl
set_past (x ∷ ks) zero k h = absurd (omega (arith, h))
set_past (x ∷ ks) (suc r) k h = ap (λ l. x ∷ l) (set_past ks r k (omega (arith, h)))

set_other : (ks : List Kind) (r q : ℕ) (k : Kind) → (q ≡ r → ⊥) → kind_at (slice_set ks r k) q ≡ kind_at ks q
set_other [] r q k n = refl
set_other (x ∷ ks) zero zero k n = absurd (n refl)
set_other (x ∷ ks) zero (suc q) k n = refl
set_other (x ∷ ks) (suc r) zero k n = refl
set_other (x ∷ ks) (suc r) (suc q) k n = set_other ks r q k (λ e. n (ap suc e))

set_itself : (ks : List Kind) (r : ℕ) → slice_set ks r (kind_at ks r) ≡ ks
set_itself [] r = refl
set_itself (x ∷ ks) zero = refl
set_itself (x ∷ ks) (suc r) = ap (λ l. x ∷ l) (set_itself ks r)

module _ (t : Tables) where
  set_below : (a b : List Kind) (r : ℕ) (k l : Kind) → Below t k l → AreBelow t a b → AreBelow t (slice_set a r k) (slice_set b r l)
  set_below a b r k l h f = record { long = length-set a r k ∙ f.long ∙ sym (length-set b r l); each = each }
    where
      each : (q : ℕ) → Below t (kind_at (slice_set a r k) q) (kind_at (slice_set b r l) q)
      each q = elim (cases_lt r (length a)) [
        | inr p ↦ (
            let u = set_past a r k p in
            let w = set_past b r l (let g = f.long in omega (arith, g, p)) in
            subst (λ x. Below t (kind_at x q) (kind_at (slice_set b r l) q)) (sym u) (subst (λ x. Below t (kind_at a q) (kind_at x q)) (sym w) (f.each q)))
        | inl p ↦ at (nat_eq q r) refl p
      ]
        where
          at : (e : Bool) → nat_eq q r ≡ e → r < length a → Below t (kind_at (slice_set a r k) q) (kind_at (slice_set b r l) q)
          at true e p =
              let g = f.long in
              let u = set_same a r k p in
              let w = set_same b r l (omega (arith, g, p)) in
              subst (λ n. Below t (kind_at (slice_set a r k) n) (kind_at (slice_set b r l) n)) (sym (eqb-true q r e))
              (subst (λ x. Below t x (kind_at (slice_set b r l) r)) (sym u) (subst (λ x. Below t k x) (sym w) h))
          at false e p =
              let n = eqb-false q r e in
              subst (λ x. Below t x (kind_at (slice_set b r l) q)) (sym (set_other a r q k n)) (subst (λ x. Below t (kind_at a q) x) (sym (set_other b r q l n)) (f.each q))

  -- halves of a wide are at or below themselves and undefined kinds alone
  module _ (half : Kind) (p : is_number half ≡ false) (q : is_initialised half ≡ false) (n : half ≡ Undefined → ⊥) where
    not_number : is_number half ≡ true → ⊥
    not_number e = absurd (cc)

    not_made : is_initialised half ≡ true → ⊥
    not_made e = absurd (cc)

    below_half : (k : Kind) → Below t k half → k ≡ half
    below_half k h = elim (joins t k half) [
      | alike e j ↦ e
      | numbers e f g j ↦ absurd (not_number g)
      | objects e f g j o ↦ absurd (not_made g)
      | apart e f g j ↦ absurd (n (sym h ∙ j))
    ]

    above_half : (k : Kind) → Below t half k → same_kind k half ≡ false → k ≡ Undefined
    above_half k h d = elim (joins t half k) [
      | alike e j ↦ absurd (let u : same_kind half half ≡ false = subst (λ x. same_kind x half ≡ false) (sym e) d in let w = kind_itself half in cc)
      | numbers e f g j ↦ absurd (not_number f)
      | objects e f g j o ↦ absurd (not_made f)
      | apart e f g j ↦ sym h ∙ j
    ]

    cleared_below : (r : ℕ) (a b : List Kind) → AreBelow t a b → AreBelow t (cleared r half a) (cleared r half b)
    cleared_below r a b f = go (same_kind (kind_at a r) half) (same_kind (kind_at b r) half) refl refl
      where
        go : (x y : Bool) → same_kind (kind_at a r) half ≡ x → same_kind (kind_at b r) half ≡ y → AreBelow t (if x then slice_set a r Undefined else a) (if y then slice_set b r Undefined else b)
        go true true e g = set_below a b r Undefined Undefined refl f
        go false false e g = f
        go true false e g =
            let u : kind_at a r ≡ half = same_is (kind_at a r) half e in
            let w : kind_at b r ≡ Undefined = above_half (kind_at b r) (subst (λ k. Below t k (kind_at b r)) u (f.each r)) g in
            let h : Below t Undefined (kind_at b r) = subst (Below t Undefined) (sym w) refl in
            subst (AreBelow t (slice_set a r Undefined)) (set_itself b r) (set_below a b r Undefined (kind_at b r) h f)
        go false true e g =
            let u : kind_at b r ≡ half = same_is (kind_at b r) half g in
            let w : kind_at a r ≡ half = below_half (kind_at a r) (subst (Below t (kind_at a r)) u (f.each r)) in
            absurd (let v : same_kind half half ≡ false = subst (λ k. same_kind k half ≡ false) w e in let i = kind_itself half in cc)

  split_below : (r : ℕ) (a b : List Kind) → AreBelow t a b → AreBelow t (split r a) (split r b)
  split_below r a b f = cleared_below WideLow refl refl (λ e. absurd (cc)) (r - 1) (cleared (r + 1) WideHigh a) (cleared (r + 1) WideHigh b) (cleared_below WideHigh refl refl (λ e. absurd (cc)) (r + 1) a b f)

  one_below : (r : ℕ) (k l : Kind) (a b : List Kind) → Below t k l → AreBelow t a b → AreBelow t (written_one r k a) (written_one r l b)
  one_below r k l a b h f = set_below (split r a) (split r b) r k l h (split_below r a b f)

  pair_below : (r : ℕ) (a b : List Kind) → AreBelow t a b → AreBelow t (written_pair r a) (written_pair r b)
  pair_below r a b f =
      set_below (slice_set (split (r + 1) (split r a)) r WideLow) (slice_set (split (r + 1) (split r b)) r WideLow) (r + 1) WideHigh WideHigh refl
      (set_below (split (r + 1) (split r a)) (split (r + 1) (split r b)) r WideLow WideLow refl (split_below (r + 1) (split r a) (split r b) (split_below r a b f)))

  kinds_below : (r : ℕ) (k : Kind) (a b : List Kind) → AreBelow t a b → AreBelow t (written_kinds r k a) (written_kinds r k b)
  kinds_below r WideLow a b f = pair_below r a b f
  kinds_below r Word a b f = one_below r Word Word a b (below_itself t Word) f
  kinds_below r (Fresh c n) a b f = one_below r (Fresh c n) (Fresh c n) a b (below_itself t (Fresh c n)) f
  kinds_below r (Program c) a b f = one_below r (Program c) (Program c) a b (below_itself t (Program c)) f
  kinds_below r (Array n i) a b f = one_below r (Array n i) (Array n i) a b (below_itself t (Array n i)) f
  kinds_below r k a b f = one_below r k k a b (below_itself t k) f

pub written_below : (t : Tables) (r : ℕ) (k : Kind) (a b : Kinds) → IsBelow t a b → IsBelow t (written r k a) (written r k b)
written_below t r k a b h =
    let f = kinds_below t r k a.registers b.registers (record { long = h.long; each = h.registers }) in
    record { long = f.long; registers = f.each; result = h.result; caught = h.caught; receiver = h.receiver }

-- a kind that a move reads is written into one register
one_is : (r : ℕ) (k : Kind) (ks : List Kind) → is_moved k ≡ true → written_kinds r k ks ≡ written_one r k ks
one_is r WideLow ks e = absurd (cc)
one_is r k ks e = refl

-- a write of two such kinds, one below the other
pub moved_on : (t : Tables) (r : ℕ) (k l : Kind) (a b : Kinds) → is_moved k ≡ true → is_moved l ≡ true → Below t k l → IsBelow t a b → IsBelow t (written r k a) (written r l b)
moved_on t r k l a b p q e h =
    let f : AreBelow t (written_one r k a.registers) (written_one r l b.registers) = one_below t r k l a.registers b.registers e (record { long = h.long; each = h.registers }) in
    let g : AreBelow t (written_kinds r k a.registers) (written_kinds r l b.registers) = subst (λ u. AreBelow t u (written_kinds r l b.registers)) (sym (one_is r k a.registers p)) (subst (AreBelow t (written_one r k a.registers)) (sym (one_is r l b.registers q)) f) in
    record { long = g.long; registers = g.each; result = h.result; caught = h.caught; receiver = h.receiver }
