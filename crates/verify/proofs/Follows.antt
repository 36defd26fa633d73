-- What the chains of a program's classes say, by the program's own links.
use Rattle.std.proofs.Common.{◌≡◌, ℕ, zero, suc, ◌<◌, ◌≤◌, Bool, true, false, ◌||◌, nat_eq, ◌∷◌, length, Option, Some, None, ◌⊎◌, inl, inr, refl, sym, ap, ◌∙◌, subst, arith}
use Rattle.std.specs.Prelude.{find, cond}
use Rattle.std.proofs.lemmas.Bool.{cases_lt, eqb-true, eqb-false}
use Rattle.class_defs.specs.Places.{chain_from}
use Rattle.hierarchy.specs.Ranks.{IsRanked}
use Rattle.program_model.specs.declared.program.Program.{Program}
use Rattle.verify.specs.declared.chains.Chains.{Chains}
use Rattle.verify.specs.Building.{class_above, AreChainsOf, chain_above, is_among, FollowsClasses}
use Rattle.verify.specs.Chains.{above, depth, is_in_chain, nearest}
use Rattle.verify.proofs.Chained as chained
use Rattle.verify.proofs.Ranked.{above_past, above_super, rank_below, rank_falls}

or_both : (a b : Bool) → (a || b) ≡ true → (a ≡ true) ⊎ (b ≡ true)
or_both true b e = inl refl
or_both false b e = inr e

or_right : (a b : Bool) → b ≡ true → (a || b) ≡ true
or_right true b e = refl
or_right false b e = e

same_tests : (a b : Bool) → (a ≡ true → b ≡ true) → (b ≡ true → a ≡ true) → a ≡ b
same_tests true b f g = sym (f refl)
same_tests false true f g = g refl
same_tests false false f g = refl

module _ (p : Program) (q : IsRanked p) (c : Chains) (w : AreChainsOf p c) where
  falls : (k x : ℕ) → above c k ≡ Some x → q.rank x < q.rank k
  falls k x e = elim (cases_lt k (length p.classes)) [
    | inl h ↦ rank_falls p q k x h (above_super p k x (sym (w.above k) ∙ e))
    | inr h ↦ absurd (let z : None ≡ Some x = sym (above_past p k h) ∙ sym (w.above k) ∙ e in cc)
  ]

  low_step : (k : ℕ) (o : Option ℕ) → above c k ≡ o → ((x : ℕ) → above c k ≡ Some x → depth c x ≤ q.rank x) → depth c k ≤ q.rank k
  low_step k None e f = let d = chained.top_depth c w.sound k e in omega (arith, d)
  low_step k (Some x) e f = let d = chained.above_depth c w.sound k x e in let l = f x e in let r = falls k x e in omega (arith, d, l, r)

  low : (n k : ℕ) → q.rank k ≤ n → depth c k ≤ q.rank k
  low zero k h = low_step k (above c k) refl (λ x e. absurd (let r = falls k x e in omega (arith, h, r)))
  low (suc n) k h = low_step k (above c k) refl (λ x e. low n x (let r = falls k x e in omega (arith, h, r)))

  short : (k : ℕ) → k < length p.classes → depth c k < length p.classes
  short k h = let l = low (q.rank k) k (omega arith) in let b = rank_below p q k h in omega (arith, l, b)

  -- ---- what is above a class

  among_step : (n k x : ℕ) (o : Option ℕ) → above c k ≡ o → chained.Up c w.sound k x → (k ≡ x → ⊥) → ((y : ℕ) → above c k ≡ Some y → chained.Up c w.sound y x → is_among (chain_from (class_above p) n (Some y)) x ≡ true) → is_among (chain_from (class_above p) n o) x ≡ true
  among_step n k x None e u ne f = absurd (ne (chained.up_top c w.sound k x e u))
  among_step n k x (Some y) e u ne f = f y e (chained.up_next c w.sound k x y u ne e)

  among : (n k x : ℕ) → depth c k < n → chained.Up c w.sound k x → is_among (chain_from (class_above p) n (Some k)) x ≡ true
  among zero k x h u = absurd (omega (arith, h))
  among (suc n) k x h u = go (nat_eq x k) refl (λ ne. subst (λ o. is_among (chain_from (class_above p) n o) x ≡ true) (w.above k) (among_step n k x (above c k) refl u ne (λ y e v. among n y x (let d = chained.above_depth c w.sound k y e in omega (arith, d, h)) v)))
    where
      go : (b : Bool) → nat_eq x k ≡ b → ((k ≡ x → ⊥) → is_among (chain_from (class_above p) n (class_above p k)) x ≡ true) → (b || is_among (chain_from (class_above p) n (class_above p k)) x) ≡ true
      go true e f = refl
      go false e f = f (λ z. eqb-false x k e (sym z))

  above_of : (n k x : ℕ) (o : Option ℕ) → above c k ≡ o → is_among (chain_from (class_above p) n o) x ≡ true → ((y : ℕ) → is_among (chain_from (class_above p) n (Some y)) x ≡ true → chained.Up c w.sound y x) → chained.Up c w.sound k x
  above_of zero k x o e h f = absurd (cc)
  above_of (suc n) k x None e h f = absurd (cc)
  above_of (suc n) k x (Some y) e h f = chained.up_on c w.sound k y x (chained.above_up c w.sound k y e) (f y h)

  above_in : (n k x : ℕ) → is_among (chain_from (class_above p) n (Some k)) x ≡ true → chained.Up c w.sound k x
  above_in zero k x h = absurd (cc)
  above_in (suc n) k x h = elim (or_both (nat_eq x k) (is_among (chain_from (class_above p) n (class_above p k)) x) h) [
    | inl e ↦ subst (chained.Up c w.sound k) (sym (eqb-true x k e)) (chained.up_itself c w.sound k)
    | inr e ↦ above_of n k x (above c k) refl (subst (λ o. is_among (chain_from (class_above p) n o) x ≡ true) (sym (w.above k)) e) (λ y v. above_in n y x v)
  ]

  pub in_chain_is : (a b : ℕ) → a < length p.classes → is_in_chain c a b ≡ is_among (chain_above p a) b
  in_chain_is a b h = same_tests (is_in_chain c a b) (is_among (chain_above p a) b)
      (λ e. among (length p.classes) a b (short a h) (chained.from_chain c w.sound a b e))
      (λ e. chained.in_chain c w.sound a b (above_in (length p.classes) a b e))

  -- ---- where two classes meet

  module _ (b : ℕ) (hb : b < length p.classes) where
    common : (k : ℕ) → is_among (chain_above p b) k ≡ true → chained.Up c w.sound b k
    common k e = above_in (length p.classes) b k e

    other : (k : ℕ) → chained.Up c w.sound b k → is_among (chain_above p b) k ≡ false → ⊥
    other k u e = let f : is_among (chain_above p b) k ≡ true = among (length p.classes) b k (short b hb) u in absurd (cc)

    here : (k : ℕ) (r : Option ℕ) → chained.Up c w.sound b k → chained.Meets c w.sound k b r → Some k ≡ r
    here k None u m = absurd (m k (chained.up_itself c w.sound k) u)
    here k (Some x) u m = ap Some (chained.up_both c w.sound k x m.left (m.least k (chained.up_itself c w.sound k) u))

    on : (k y : ℕ) (r : Option ℕ) → above c k ≡ Some y → (chained.Up c w.sound b k → ⊥) → chained.Meets c w.sound k b r → chained.Meets c w.sound y b r
    on k y None e ne m = λ z u v. m z (chained.up_on c w.sound k y z (chained.above_up c w.sound k y e) u) v
    on k y (Some x) e ne m = record {
      left = chained.up_next c w.sound k x y m.left (λ z. ne (subst (chained.Up c w.sound b) (sym z) m.right)) e;
      right = m.right;
      least = λ z u v. m.least z (chained.up_on c w.sound k y z (chained.above_up c w.sound k y e) u) v;
    }

    ends : (k : ℕ) (r : Option ℕ) → above c k ≡ None → (chained.Up c w.sound b k → ⊥) → chained.Meets c w.sound k b r → None ≡ r
    ends k None e ne m = refl
    ends k (Some x) e ne m = absurd (ne (subst (chained.Up c w.sound b) (sym (chained.up_top c w.sound k x e m.left)) m.right))

    none_found : (n : ℕ) → find (is_among (chain_above p b)) (chain_from (class_above p) n None) ≡ None
    none_found zero = refl
    none_found (suc n) = refl

    found_on : (n k : ℕ) (r o : Option ℕ) → above c k ≡ o → (chained.Up c w.sound b k → ⊥) → chained.Meets c w.sound k b r → ((y : ℕ) → above c k ≡ Some y → chained.Meets c w.sound y b r → find (is_among (chain_above p b)) (chain_from (class_above p) n (Some y)) ≡ r) → find (is_among (chain_above p b)) (chain_from (class_above p) n o) ≡ r
    found_on n k r None e ne m f = none_found n ∙ ends k r e ne m
    found_on n k r (Some y) e ne m f = f y e (on k y r e ne m)

    found : (n k : ℕ) (r : Option ℕ) → depth c k < n → chained.Meets c w.sound k b r → find (is_among (chain_above p b)) (chain_from (class_above p) n (Some k)) ≡ r
    found zero k r h m = absurd (omega (arith, h))
    found (suc n) k r h m = go (is_among (chain_above p b) k) refl (λ ne. subst (λ o. find (is_among (chain_above p b)) (chain_from (class_above p) n o) ≡ r) (w.above k) (found_on n k r (above c k) refl ne m (λ y e v. found n y r (let d = chained.above_depth c w.sound k y e in omega (arith, d, h)) v)))
      where
        go : (x : Bool) → is_among (chain_above p b) k ≡ x → ((chained.Up c w.sound b k → ⊥) → find (is_among (chain_above p b)) (chain_from (class_above p) n (class_above p k)) ≡ r) → find (is_among (chain_above p b)) (k ∷ chain_from (class_above p) n (class_above p k)) ≡ r
        go true e f = ap (λ x. cond x (Some k) (find (is_among (chain_above p b)) (chain_from (class_above p) n (class_above p k)))) e ∙ here k r (common k e) m
        go false e f = ap (λ x. cond x (Some k) (find (is_among (chain_above p b)) (chain_from (class_above p) n (class_above p k)))) e ∙ f (λ u. other k u e)

  pub meets_at : (a b : ℕ) → a < length p.classes → b < length p.classes → nearest c a b ≡ find (is_among (chain_above p b)) (chain_above p a)
  meets_at a b ha hb = sym (found b hb (length p.classes) a (nearest c a b) (short a ha) (chained.meeting c w.sound a b))

pub follows : (p : Program) (c : Chains) → IsRanked p → AreChainsOf p c → FollowsClasses p c
follows p c q w = record { in_chain = in_chain_is p q c w; meets = meets_at p q c w }
