-- In a straight program what a plain class finds stands as a call needs it.
use Rattle.std.proofs.Common.{◌≡◌, inl, inr, ℕ, zero, suc, ◌<◌, Bool, true, false, nat_eq, length, Option, Some, None, refl, sym, ap, ◌∙◌, subst}
use Rattle.std.specs.Prelude.{◌||◌, Contains, cond, not, slice_get}
use Rattle.std.specs.List.{list_all, list_any, range_with_len}
use Rattle.lemmas.proofs.Bools.{and_both, clash, or_left, or_right}
use Rattle.lemmas.proofs.Numbers.{same_number}
use Rattle.program_model.specs.declared.program.Program.{Program}
use Rattle.class_defs.specs.Members.{is_interface}
use Rattle.class_defs.specs.Places.{chain_from, interface_places, super_place}
use Rattle.hierarchy.specs.Climbing.{In}
use Rattle.receivers.specs.Receiving.{interface_at, is_straight, is_straight_at, super_is}
use Rattle.receivers.proofs.Covered.{free}
use Rattle.receivers.proofs.Ranges.{all_pass, in_contains}
use Rattle.receivers.proofs.Walks.{super_short}

-- the class directly above one, none above an interface
abbrev pub up_from : Program → ℕ → Option ℕ
up_from p c = cond (is_interface (slice_get p.classes c)) None (super_place p c)

module _ (p : Program) (straight : is_straight p ≡ true) where
  -- above an interface stand interfaces alone
  above_interface : (n c u : ℕ) → c < length p.classes → interface_at p c ≡ true → In u (chain_from (super_place p) n (Some c)) → interface_at p u ≡ true
  above_interface zero c u l i j = absurd j
  above_interface (suc n) c u l i (inl s) = subst (λ x. interface_at p x ≡ true) (sym s) i
  above_interface (suc n) c u l i (inr j) = by (super_place p c) refl j (λ d k g h. above_interface n d u k g h)
    where
      none : (n : ℕ) → In u (chain_from (super_place p) n None) → ⊥
      none zero h = h
      none (suc n) h = h

      by : (o : Option ℕ) → super_place p c ≡ o → In u (chain_from (super_place p) n o) → ((d : ℕ) → d < length p.classes → interface_at p d ≡ true → In u (chain_from (super_place p) n (Some d)) → interface_at p u ≡ true) → interface_at p u ≡ true
      by None f h more = absurd (none n h)
      by (Some d) f h more = more d (super_short p c d f) (free p straight c d l i f) h

  -- a plain class along superclasses is reached without an interface in between
  pub in_line_so : (n c u : ℕ) → c < length p.classes → interface_at p u ≡ false → In u (chain_from (super_place p) n (Some c)) → list_any (nat_eq u) (chain_from (up_from p) n (Some c)) ≡ true
  in_line_so zero c u l plain j = absurd j
  in_line_so (suc n) c u l plain (inl s) = or_left (nat_eq u c) (list_any (nat_eq u) (chain_from (up_from p) n (up_from p c))) (ap (nat_eq u) (sym s) ∙ same_number u)
  in_line_so (suc n) c u l plain (inr j) = or_right (nat_eq u c) (list_any (nat_eq u) (chain_from (up_from p) n (up_from p c))) (by (super_place p c) refl j (λ d k h. in_line_so n d u k plain h))
    where
      none : (n : ℕ) → In u (chain_from (super_place p) n None) → ⊥
      none zero h = h
      none (suc n) h = h

      on : (d : ℕ) → super_place p c ≡ Some d → In u (chain_from (super_place p) n (Some d)) → (b : Bool) → is_interface (slice_get p.classes c) ≡ b → list_any (nat_eq u) (chain_from (up_from p) n (Some d)) ≡ true
          → list_any (nat_eq u) (chain_from (up_from p) n (cond b None (super_place p c))) ≡ true
      on d f h true i k = clash (interface_at p u) (above_interface n d u (super_short p c d f) (free p straight c d l i f) h) plain
      on d f h false i k = ap (λ o. list_any (nat_eq u) (chain_from (up_from p) n o)) f ∙ k

      by : (o : Option ℕ) → super_place p c ≡ o → In u (chain_from (super_place p) n o) → ((d : ℕ) → d < length p.classes → In u (chain_from (super_place p) n (Some d)) → list_any (nat_eq u) (chain_from (up_from p) n (Some d)) ≡ true)
          → list_any (nat_eq u) (chain_from (up_from p) n (up_from p c)) ≡ true
      by None f h more = absurd (none n h)
      by (Some d) f h more = on d f h (is_interface (slice_get p.classes c)) refl (more d (super_short p c d f) h)

-- Where lists of interfaces have interfaces alone, and nothing plain stands above an interface, a program is straight.
pub straight_of : (p : Program) → ((c u : ℕ) → Contains (interface_places p c) u → interface_at p u ≡ true) → ((c u : ℕ) → interface_at p c ≡ true → super_place p c ≡ Some u → interface_at p u ≡ true) → is_straight p ≡ true
straight_of p listed free = all_pass (is_straight_at p) (range_with_len 0 (length p.classes)) (λ c i. at c)
  where
    above : (c : ℕ) (b : Bool) → interface_at p c ≡ b → (o : Option ℕ) → super_place p c ≡ o → (not b || super_is p o) ≡ true
    above c false e o f = refl
    above c true e None f = refl
    above c true e (Some u) f = free c u e f

    at : (c : ℕ) → is_straight_at p c ≡ true
    at c = and_both (list_all (interface_at p) (interface_places p c)) (not (interface_at p c) || super_is p (super_place p c))
        (all_pass (interface_at p) (interface_places p c) (λ u j. listed c u (in_contains (interface_places p c) u j))) (above c (interface_at p c) refl (super_place p c) refl)
