-- Which reads are stale by a Move.
use Rattle.std.proofs.Common.{◌≡◌, ℕ, zero, suc, Bool, true, false, List, [], ◌∷◌, length, replicate, refl, inl, inr, ◌+◌, ◌<◌, ◌≤◌, sym, ◌∙◌, subst, arith, ◌⊎◌}
use Rattle.std.specs.Prelude.{All, ◌↔◌, ◌&&◌, nat_eq}
use Rattle.std.specs.List.{list_any}
use Rattle.std.proofs.lemmas.Bool.{both_ways, or_parts, eqb-true, eq-eqb, or_cases, or_left, or_right, and_parts, and_from}
use Rattle.std.proofs.lemmas.List.{length-replicate}
use Rattle.std.proofs.lemmas.Option.{slice_get_within}
use Rattle.program_model.specs.declared.body.Body.{Body}
use Rattle.walk_marks.specs.Walks.{is_on}
use Rattle.copy_prop.specs.Stale.{IsCopy, IsWorthIt}
use Rattle.copy_prop.specs.Stale as stale
use Rattle.copy_prop.specs.Searches.{AreGood, AreStaleBy, IsWorth, StandsBehind}
use Rattle.copy_prop.specs.declared.copied.Copied.{Copied}
use Rattle.insn_set.specs.Registers.{in_operand}
use Rattle.insn_set.specs.Widths.{is_wide_slot}

module _ (w : List (List Bool)) (b : Body) (c : Copied) (copy : IsCopy b c.at c.slot c.to c.from) (good : List Bool) (are : AreGood w b c (length b.insns) good) where
  worth_is : IsWorth b c good → IsWorthIt w b c.at c.slot c.to c.from
  worth_is (inl lt) = stale.Lower lt
  worth_is (inr all) = stale.All (λ r m n f i j read h. (are.are n f (slice_get_within b.insns n f h) h).0 (all r i m n f j read h))

  is_worth : IsWorthIt w b c.at c.slot c.to c.from → IsWorth b c good
  is_worth (stale.Lower lt) = inl lt
  is_worth (stale.All all) = inr (λ r i m n f j read h. (are.are n f (slice_get_within b.insns n f h) h).1 (all r m n f i j read h))

  pub all_stale : IsWorth b c good → AreStaleBy w b c good
  all_stale worth = record { long = are.long; are = λ n f lt h. (λ on. record { copy = copy; stands = (are.are n f lt h).0 on; worth = worth_is worth }, λ by. (are.are n f lt h).1 by.stands) }

  no_mark : (xs : List Bool) (n : ℕ) → list_any (λ mark. mark) xs ≡ false → is_on xs n ≡ true → ⊥
  no_mark [] n h on = both_ways false refl on
  no_mark (x ∷ xs) zero h on = both_ways x (or_parts x (list_any (λ mark. mark) xs) h).0 on
  no_mark (x ∷ xs) (suc n) h on = no_mark xs n (or_parts x (list_any (λ mark. mark) xs) h).1 on

  pub none_good : list_any (λ mark. mark) good ≡ false → AreStaleBy w b c good
  none_good h = record { long = are.long; are = λ n f lt i. (λ on. absurd (no_mark good n h on), λ by. (are.are n f lt i).1 by.stands) }

  off : (k n : ℕ) → is_on (replicate k false) n ≡ false
  off zero n = refl
  off (suc k) zero = refl
  off (suc k) (suc n) = off k n

  pub none_stale : (marks : List Bool) → marks ≡ replicate (length b.insns) false → (IsWorth b c good → ⊥) → AreStaleBy w b c marks
  none_stale marks is worth = rw is record {
    long = length-replicate (length b.insns) false;
    are = λ n f lt h. (λ on. absurd (both_ways (is_on (replicate (length b.insns) false) n) (off (length b.insns) n) on), λ by. absurd (worth (is_worth by.worth)));
  }

-- ---- whether each read behind is good

module _ (b : Body) (c : Copied) (good : List Bool) (high : c.to ≤ c.from) (first : Bool) (found : (first ≡ true) ↔ StandsBehind b c.at c.to good) where
  narrow_at : (v : Bool) → v ≡ false → (r : ℕ) → in_operand v c.to r ≡ true → c.to ≡ r
  narrow_at true e r i = absurd (both_ways true e refl)
  narrow_at false e r i = sym (eqb-true r c.to i)

  to_in : (v : Bool) → in_operand v c.to c.to ≡ true
  to_in false = eq-eqb c.to c.to refl
  to_in true = or_left (nat_eq c.to c.to) (nat_eq c.to (c.to + 1)) (eq-eqb c.to c.to refl)

  pub worth_narrow : is_wide_slot c.slot ≡ false → (first ≡ true) ↔ IsWorth b c good
  worth_narrow wide = (to, from)
    where
      to : first ≡ true → IsWorth b c good
      to e = inr (λ r i. subst (λ k. StandsBehind b c.at k good) (narrow_at (is_wide_slot c.slot) wide r i) (found.0 e))

      from : IsWorth b c good → first ≡ true
      from (inl lt) = absurd (omega arith)
      from (inr all) = found.1 (all c.to (to_in (is_wide_slot c.slot)))

  pub worth_wide : (second whole : Bool) → is_wide_slot c.slot ≡ true → (second ≡ true) ↔ StandsBehind b c.at (c.to + 1) good → whole ≡ (first && second) → (whole ≡ true) ↔ IsWorth b c good
  worth_wide second whole wide also is = (to, from)
    where
      at : (v : Bool) → v ≡ true → StandsBehind b c.at c.to good → StandsBehind b c.at (c.to + 1) good → (r : ℕ) → in_operand v c.to r ≡ true → StandsBehind b c.at r good
      at true e x y r i = elim (or_cases (nat_eq r c.to) (nat_eq r (c.to + 1)) i) [
        | inl j ↦ subst (λ k. StandsBehind b c.at k good) (sym (eqb-true r c.to j)) x
        | inr j ↦ subst (λ k. StandsBehind b c.at k good) (sym (eqb-true r (c.to + 1) j)) y
      ]
      at false e x y r i = absurd (both_ways false refl e)

      to : whole ≡ true → IsWorth b c good
      to e = let p : (first ≡ true) × (second ≡ true) = and_parts first second (sym is ∙ e) in inr (λ r i. at (is_wide_slot c.slot) wide (found.0 p.0) (also.0 p.1) r i)

      next_in : (v : Bool) → v ≡ true → in_operand v c.to (c.to + 1) ≡ true
      next_in true e = or_right (nat_eq (c.to + 1) c.to) (nat_eq (c.to + 1) (c.to + 1)) (eq-eqb (c.to + 1) (c.to + 1) refl)
      next_in false e = absurd (both_ways false refl e)

      from : IsWorth b c good → whole ≡ true
      from (inl lt) = absurd (omega arith)
      from (inr all) = is ∙ and_from first second (found.1 (all c.to (to_in (is_wide_slot c.slot)))) (also.1 (all (c.to + 1) (next_in (is_wide_slot c.slot) wide)))
