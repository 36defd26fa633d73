-- Classes are linked to those above them, from the highest down.
use Rattle.std.proofs.Common.{◌≡◌, ℕ, zero, suc, ◌+◌, ◌-◌, ◌<◌, ◌≤◌, Bool, true, false, ◌&&◌, nat_eq, nat_le, nat_lt, List, [], ◌∷◌, length, Option, Some, None, refl, sym, ap, ◌∙◌, subst, arith}
use Rattle.std.specs.Prelude.{slice_index_or, slice_set, if◌then◌else◌}
use Rattle.std.proofs.lemmas.Bool.{eqb-true, eqb-false, eq-eqb, le-leb, lt-ltb}
use Rattle.std.proofs.Math.ListN.{length-set}
use Rattle.verify.specs.declared.chains.Chains.{Chains}
use Rattle.verify.specs.Building.{is_done, depth_under, jump_under, Notes, IsLinkedAt, IsSettled, Settles, IsDoneBelow, IsSoundFor}
use Rattle.verify.specs.Chains.{above, depth, jump, jump_over, is_linked, is_sound_at, longest}
use Rattle.verify.specs.Flow.{greatest}

set_same : {A : Type 0} (xs : List A) (x : ℕ) (v d : A) → x < length xs → slice_index_or (slice_set xs x v) x d ≡ v
set_same [] x v d h = absurd (omega (arith, h))
set_same (y ∷ xs) zero v d h = refl
set_same (y ∷ xs) (suc x) v d h = set_same xs x v d (omega (arith, h))

set_other : {A : Type 0} (xs : List A) (x q : ℕ) (v d : A) → (q ≡ x → ⊥) → slice_index_or (slice_set xs x v) q d ≡ slice_index_or xs q d
set_other [] x q v d n = refl
set_other (y ∷ xs) zero zero v d n = absurd (n refl)
set_other (y ∷ xs) zero (suc q) v d n = refl
set_other (y ∷ xs) (suc x) zero v d n = refl
set_other (y ∷ xs) (suc x) (suc q) v d n = set_other xs x q v d (λ e. n (ap suc e))

over_by : (x y z : ℕ) (s p : ℕ) (x' y' z' s' : ℕ) → x ≡ x' → y ≡ y' → z ≡ z' → s ≡ s' → (if nat_eq (x - y) (y - z) then s else p) ≡ (if nat_eq (x' - y') (y' - z') then s' else p)
over_by x y z s p x' y' z' s' e f g h = rw (e, f, g, h) refl

-- one more class is noted
module _ (n : ℕ) (r : ℕ → ℕ) (c c' : Chains) (k : ℕ) (w : IsSettled n r c) (small : n ≤ greatest) (lt : k < n) (over : (p : ℕ) → above c k ≡ Some p → is_done c p ≡ true) (e : Notes c c' k (depth_under c (above c k)) (jump_under c k (above c k))) where
  above_same : (q : ℕ) → above c' q ≡ above c q
  above_same q = ap (λ x. slice_index_or x.items q None) e.supers

  depth_here : depth c' k ≡ depth_under c (above c k)
  depth_here = ap (λ x. slice_index_or x k 0) e.depths ∙ set_same c.depths.items k (depth_under c (above c k)) 0 (let l = w.depths in omega (arith, l, lt))

  jump_here : jump c' k ≡ jump_under c k (above c k)
  jump_here = ap (λ x. slice_index_or x k k) e.jumps ∙ set_same c.jumps.items k (jump_under c k (above c k)) k (let l = w.jumps in omega (arith, l, lt))

  pub done_here : is_done c' k ≡ true
  done_here = ap (λ x. slice_index_or x k true) e.done ∙ set_same c.done.items k true true (let l = w.long in omega (arith, l, lt))

  depth_there : (q : ℕ) → (q ≡ k → ⊥) → depth c' q ≡ depth c q
  depth_there q ne = ap (λ x. slice_index_or x q 0) e.depths ∙ set_other c.depths.items k q (depth_under c (above c k)) 0 ne

  jump_there : (q : ℕ) → (q ≡ k → ⊥) → jump c' q ≡ jump c q
  jump_there q ne = ap (λ x. slice_index_or x q q) e.jumps ∙ set_other c.jumps.items k q (jump_under c k (above c k)) q ne

  done_there : (q : ℕ) → (q ≡ k → ⊥) → is_done c' q ≡ is_done c q
  done_there q ne = ap (λ x. slice_index_or x q true) e.done ∙ set_other c.done.items k q true true ne

  -- what is given to the class is what stood there where it was done
  below_greatest : (p : ℕ) → above c k ≡ Some p → depth c p + 1 ≤ greatest
  below_greatest p a = let x = w.low p (over p a) in let y = w.falls k p a in let z = w.bound k lt in omega (arith, x, y, z, small)

  given_depth : (o : Option ℕ) → above c k ≡ o → IsLinkedAt c k o → depth_under c o ≡ depth c k
  given_depth None a l = sym l.0
  given_depth (Some p) a l = let x = below_greatest p a in let y = l.0 in omega (arith, x, y)

  given_jump : (o : Option ℕ) → IsLinkedAt c k o → jump_under c k o ≡ jump c k
  given_jump None l = sym l.1
  given_jump (Some p) l = sym l.1

  depth_same : (q : ℕ) → is_done c q ≡ true → depth c' q ≡ depth c q
  depth_same q d = go (nat_eq q k) refl
    where
      go : (b : Bool) → nat_eq q k ≡ b → depth c' q ≡ depth c q
      go true f = let g : q ≡ k = eqb-true q k f in subst (λ x. depth c' x ≡ depth c x) (sym g) (depth_here ∙ given_depth (above c k) refl (w.linked k (subst (λ x. is_done c x ≡ true) g d)))
      go false f = depth_there q (eqb-false q k f)

  jump_same : (q : ℕ) → is_done c q ≡ true → jump c' q ≡ jump c q
  jump_same q d = go (nat_eq q k) refl
    where
      go : (b : Bool) → nat_eq q k ≡ b → jump c' q ≡ jump c q
      go true f = let g : q ≡ k = eqb-true q k f in subst (λ x. jump c' x ≡ jump c x) (sym g) (jump_here ∙ given_jump (above c k) (w.linked k (subst (λ x. is_done c x ≡ true) g d)))
      go false f = jump_there q (eqb-false q k f)

  pub kept : (q : ℕ) → is_done c q ≡ true → is_done c' q ≡ true
  kept q d = go (nat_eq q k) refl
    where
      go : (b : Bool) → nat_eq q k ≡ b → is_done c' q ≡ true
      go true f = subst (λ x. is_done c' x ≡ true) (sym (eqb-true q k f)) done_here
      go false f = done_there q (eqb-false q k f) ∙ d

  -- the jump of what is done stays
  over_same : (p : ℕ) → is_done c p ≡ true → jump_over c' p ≡ jump_over c p
  over_same p d =
      let dj = w.jumped p d in
      let j : jump c' p ≡ jump c p = jump_same p d in
      let jj : jump c' (jump c' p) ≡ jump c (jump c p) = ap (jump c') j ∙ jump_same (jump c p) dj in
      over_by (depth c' p) (depth c' (jump c' p)) (depth c' (jump c' (jump c' p))) (jump c' (jump c' p)) p (depth c p) (depth c (jump c p)) (depth c (jump c (jump c p))) (jump c (jump c p))
      (depth_same p d) (ap (depth c') j ∙ depth_same (jump c p) dj) (ap (depth c') jj ∙ depth_same (jump c (jump c p)) (w.jumped (jump c p) dj)) jj

  over_done : (p : ℕ) → is_done c p ≡ true → is_done c (jump_over c p) ≡ true
  over_done p d = go (nat_eq (depth c p - depth c (jump c p)) (depth c (jump c p) - depth c (jump c (jump c p))))
    where
      go : (b : Bool) → is_done c (if b then jump c (jump c p) else p) ≡ true
      go true = w.jumped (jump c p) (w.jumped p d)
      go false = d

  linked_here : (o : Option ℕ) → above c k ≡ o → depth c' k ≡ depth_under c o → jump c' k ≡ jump_under c k o → IsLinkedAt c' k o
  linked_here None a f g = (f, g)
  linked_here (Some p) a f g =
      let x = below_greatest p a in
      let y = depth_same p (over p a) in
      (omega (arith, f, x, y), g ∙ sym (over_same p (over p a)))

  linked_there : (q : ℕ) (o : Option ℕ) → is_done c q ≡ true → above c q ≡ o → IsLinkedAt c q o → IsLinkedAt c' q o
  linked_there q None d a l = (depth_same q d ∙ l.0, jump_same q d ∙ l.1)
  linked_there q (Some p) d a l =
      let u = w.up q p d a in
      (depth_same q d ∙ l.0 ∙ ap suc (sym (depth_same p u)), jump_same q d ∙ l.1 ∙ sym (over_same p u))

  linked_on : (q : ℕ) → is_done c' q ≡ true → IsLinkedAt c' q (above c' q)
  linked_on q d = subst (IsLinkedAt c' q) (sym (above_same q)) (go (nat_eq q k) refl)
    where
      go : (b : Bool) → nat_eq q k ≡ b → IsLinkedAt c' q (above c q)
      go true f = subst (λ x. IsLinkedAt c' x (above c x)) (sym (eqb-true q k f)) (linked_here (above c k) refl depth_here jump_here)
      go false f = let g = sym (done_there q (eqb-false q k f)) ∙ d in linked_there q (above c q) g refl (w.linked q g)

  low_here : (o : Option ℕ) → above c k ≡ o → depth_under c o ≤ r k
  low_here None a = omega arith
  low_here (Some p) a = let x = w.low p (over p a) in let y = w.falls k p a in omega (arith, x, y)

  low_on : (q : ℕ) → is_done c' q ≡ true → depth c' q ≤ r q
  low_on q d = go (nat_eq q k) refl
    where
      go : (b : Bool) → nat_eq q k ≡ b → depth c' q ≤ r q
      go true f = subst (λ x. depth c' x ≤ r x) (sym (eqb-true q k f)) (let x = low_here (above c k) refl in let y = depth_here in omega (arith, x, y))
      go false f = let g = sym (done_there q (eqb-false q k f)) ∙ d in let x = w.low q g in let y = depth_same q g in omega (arith, x, y)

  up_on : (q p : ℕ) → is_done c' q ≡ true → above c' q ≡ Some p → is_done c' p ≡ true
  up_on q p d a = go (nat_eq q k) refl
    where
      a' : above c q ≡ Some p
      a' = sym (above_same q) ∙ a

      go : (b : Bool) → nat_eq q k ≡ b → is_done c' p ≡ true
      go true f = kept p (over p (subst (λ x. above c x ≡ Some p) (eqb-true q k f) a'))
      go false f = kept p (w.up q p (sym (done_there q (eqb-false q k f)) ∙ d) a')

  jumped_here : (o : Option ℕ) → above c k ≡ o → jump c' k ≡ jump_under c k o → is_done c' (jump c' k) ≡ true
  jumped_here None a f = subst (λ x. is_done c' x ≡ true) (sym f) done_here
  jumped_here (Some p) a f = subst (λ x. is_done c' x ≡ true) (sym f) (kept (jump_over c p) (over_done p (over p a)))

  jumped_on : (q : ℕ) → is_done c' q ≡ true → is_done c' (jump c' q) ≡ true
  jumped_on q d = go (nat_eq q k) refl
    where
      go : (b : Bool) → nat_eq q k ≡ b → is_done c' (jump c' q) ≡ true
      go true f = subst (λ x. is_done c' (jump c' x) ≡ true) (sym (eqb-true q k f)) (jumped_here (above c k) refl jump_here)
      go false f = let g = sym (done_there q (eqb-false q k f)) ∙ d in subst (λ x. is_done c' x ≡ true) (sym (jump_same q g)) (kept (jump c q) (w.jumped q g))

  pub noted : Settles n r c c'
  noted = record {
    settled = record {
      supers = ap (λ x. length x.items) e.supers ∙ w.supers;
      depths = ap length e.depths ∙ length-set c.depths.items k (depth_under c (above c k)) ∙ w.depths;
      jumps = ap length e.jumps ∙ length-set c.jumps.items k (jump_under c k (above c k)) ∙ w.jumps;
      long = ap length e.done ∙ length-set c.done.items k true ∙ w.long;
      falls = λ q p a. w.falls q p (sym (above_same q) ∙ a);
      bound = w.bound;
      low = low_on;
      linked = linked_on;
      up = up_on;
      jumped = jumped_on;
    };
    supers = e.supers;
    kept = kept;
  }

-- ---- where all are done

both : (a b : Bool) → a ≡ true → b ≡ true → (a && b) ≡ true
both a b p q = rw (p, q) refl

module _ (n : ℕ) (r : ℕ → ℕ) (c : Chains) (w : IsDoneBelow n r c n) (small : n < longest) where
  is_linked_at : (k : ℕ) (o : Option ℕ) → IsLinkedAt c k o → is_linked c k o ≡ true
  is_linked_at k None l = both (nat_eq (depth c k) 0) (nat_eq (jump c k) k) (eq-eqb (depth c k) 0 l.0) (eq-eqb (jump c k) k l.1)
  is_linked_at k (Some p) l =
      let d = l.0 in
      both (nat_lt 0 (depth c k) && nat_eq (depth c k - 1) (depth c p)) (nat_eq (jump c k) (jump_over c p))
      (both (nat_lt 0 (depth c k)) (nat_eq (depth c k - 1) (depth c p)) (lt-ltb 0 (depth c k) (omega (arith, d))) (eq-eqb (depth c k - 1) (depth c p) (omega (arith, d))))
      (eq-eqb (jump c k) (jump_over c p) l.1)

  sound_at : (k : ℕ) → k < n → is_sound_at c k ≡ true
  sound_at k h =
      let d = w.done k h in
      let l = w.settled.low k d in
      let b = w.settled.bound k h in
      let s = w.settled.supers in
      both (is_linked c k (above c k) && nat_le (depth c k) (length c.supers.items)) (nat_lt (depth c k) longest)
      (both (is_linked c k (above c k)) (nat_le (depth c k) (length c.supers.items)) (is_linked_at k (above c k) (w.settled.linked k d)) (le-leb (depth c k) (length c.supers.items) (omega (arith, l, b, s))))
      (lt-ltb (depth c k) longest (omega (arith, l, b, small)))

  pub sound_for : IsSoundFor n c
  sound_for = record { supers = w.settled.supers; depths = w.settled.depths; jumps = w.settled.jumps; below = sound_at }
