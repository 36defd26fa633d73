-- Where the chains of two classes meet is the nearest class of both.
use Rattle.std.proofs.Common.{◌≡◌, ℕ, zero, suc, ◌+◌, ◌-◌, ◌<◌, ◌≤◌, Bool, true, false, ◌&&◌, not, nat_eq, nat_le, nat_lt, min, List, [], ◌∷◌, length, Option, Some, None, ◌⊎◌, inl, inr, refl, sym, ap, ◌∙◌, subst, arith}
use Rattle.std.specs.Prelude.{slice_index_or, if◌then◌else◌}
use Rattle.std.proofs.lemmas.Bool.{cases_lt, eqb-true, eqb-false, eq-eqb, leb-true, leb-false, le-leb, ltb-true}
use Rattle.verify.specs.declared.chains.Chains.{Chains}
use Rattle.verify.specs.Chains.{above, above_or, depth, jump, step, lifted, lift, is_in_chain, both_above, stepped_both, meets, nearest, IsChains, SoundBelow, is_linked, is_sound_at, jump_over, longest}

left_true : (a b : Bool) → (a && b) ≡ true → a ≡ true
left_true true b e = refl
left_true false b e = e

right_true : (a b : Bool) → (a && b) ≡ true → b ≡ true
right_true true b e = e
right_true false b e = absurd (cc)

-- so many steps up
abbrev pub walk : ℕ → Chains → ℕ → ℕ
walk zero c k = k
walk (suc n) c k = walk n c (above_or (above c k) k)

pub past : {A : Type 0} (xs : List A) (k : ℕ) (d : A) → length xs ≤ k → slice_index_or xs k d ≡ d
past [] k d h = refl
past (x ∷ xs) zero d h = absurd (omega (arith, h))
past (x ∷ xs) (suc k) d h = past xs k d (omega (arith, h))

-- what is past the end is sound
sound_past : (c : Chains) (k : ℕ) → length c.supers.items ≤ k → length c.depths.items ≤ k → length c.jumps.items ≤ k → is_sound_at c k ≡ true
sound_past c k p q r =
    let a : above c k ≡ None = past c.supers.items k None p in
    let b : depth c k ≡ 0 = past c.depths.items k 0 q in
    let e : jump c k ≡ k = past c.jumps.items k k r in
    let f : nat_eq k k ≡ true = eq-eqb k k refl in
    let l : is_linked c k (above c k) ≡ true = rw a (rw b (rw e (rw f refl))) in
    let m : nat_le 0 (length c.supers.items) ≡ true = le-leb 0 (length c.supers.items) (omega arith) in
    rw l (rw b (rw m refl))

-- chains are sound where those of all classes are
pub chains_of : (c : Chains) (n : ℕ) → length c.supers.items ≡ n → length c.depths.items ≡ n → length c.jumps.items ≡ n → SoundBelow c n → IsChains c
chains_of c n p q r s = record {
  sound = λ k. elim (cases_lt k n) [
    | inl h ↦ s k h
    | inr h ↦ sound_past c k (omega (arith, p, h)) (omega (arith, q, h)) (omega (arith, r, h))
  ];
}

walk_plus : (c : Chains) (m n q k : ℕ) → q ≡ m + n → walk q c k ≡ walk n c (walk m c k)
walk_plus c zero n q k e = let h : q ≡ n = omega (arith, e) in ap (λ x. walk x c k) h
walk_plus c (suc m) n zero k e = absurd (omega (arith, e))
walk_plus c (suc m) n (suc q) k e = walk_plus c m n q (above_or (above c k) k) (omega (arith, e))

abbrev met_at : ℕ → Chains → Option (ℕ × ℕ) → Option ℕ
met_at n c o = elim o [ Some q ↦ meets n c q.0 q.1 | None ↦ None ]

upper_of : Option ℕ → ℕ
upper_of None = 0
upper_of (Some n) = n

upper_is : (a b : ℕ) → Some a ≡ Some b → a ≡ b
unfolding upper_of
upper_is a b e = ap upper_of e

module _ (c : Chains) (s : IsChains c) where
  data Linked (k : ℕ) : Type 0 where
    root : above c k ≡ None → depth c k ≡ 0 → jump c k ≡ k → Linked k
    under : (p : ℕ) → above c k ≡ Some p → depth c k ≡ suc (depth c p) → jump c k ≡ jump_over c p → Linked k

  linked : (k : ℕ) → Linked k
  linked k = go (above c k) refl
    where
      all : is_linked c k (above c k) ≡ true
      all = left_true (is_linked c k (above c k)) (nat_le (depth c k) (length c.supers.items)) (left_true (is_linked c k (above c k) && nat_le (depth c k) (length c.supers.items)) (nat_lt (depth c k) longest) (s.sound k))

      go : (o : Option ℕ) → above c k ≡ o → Linked k
      go None e =
          let h : (nat_eq (depth c k) 0 && nat_eq (jump c k) k) ≡ true = subst (λ x. is_linked c k x ≡ true) e all in
          root e (eqb-true (depth c k) 0 (left_true (nat_eq (depth c k) 0) (nat_eq (jump c k) k) h)) (eqb-true (jump c k) k (right_true (nat_eq (depth c k) 0) (nat_eq (jump c k) k) h))
      go (Some p) e =
          let h : ((nat_lt 0 (depth c k) && nat_eq (depth c k - 1) (depth c p)) && nat_eq (jump c k) (jump_over c p)) ≡ true = subst (λ x. is_linked c k x ≡ true) e all in
          let l = left_true (nat_lt 0 (depth c k) && nat_eq (depth c k - 1) (depth c p)) (nat_eq (jump c k) (jump_over c p)) h in
          let a = ltb-true 0 (depth c k) (left_true (nat_lt 0 (depth c k)) (nat_eq (depth c k - 1) (depth c p)) l) in
          let b = eqb-true (depth c k - 1) (depth c p) (right_true (nat_lt 0 (depth c k)) (nat_eq (depth c k - 1) (depth c p)) l) in
          under p e (omega (arith, a, b)) (eqb-true (jump c k) (jump_over c p) (right_true (nat_lt 0 (depth c k) && nat_eq (depth c k - 1) (depth c p)) (nat_eq (jump c k) (jump_over c p)) h))

  pub top_depth : (k : ℕ) → above c k ≡ None → depth c k ≡ 0
  top_depth k n = elim (linked k) [
    | root e d j ↦ d
    | under p e d j ↦ absurd (let u : None ≡ Some p = sym n ∙ e in cc)
  ]

  pub above_depth : (k p : ℕ) → above c k ≡ Some p → depth c k ≡ suc (depth c p)
  above_depth k p n = elim (linked k) [
    | root e d j ↦ absurd (let u : None ≡ Some p = sym e ∙ n in cc)
    | under q e d j ↦ (let u : q ≡ p = upper_is q p (sym e ∙ n) in subst (λ x. depth c k ≡ suc (depth c x)) u d)
  ]

  shallow : (k : ℕ) → depth c k ≤ length c.supers.items
  shallow k = leb-true (depth c k) (length c.supers.items) (right_true (is_linked c k (above c k)) (nat_le (depth c k) (length c.supers.items)) (left_true (is_linked c k (above c k) && nat_le (depth c k) (length c.supers.items)) (nat_lt (depth c k) longest) (s.sound k)))

  pub short : (k : ℕ) → depth c k < longest
  short k = ltb-true (depth c k) longest (right_true (is_linked c k (above c k) && nat_le (depth c k) (length c.supers.items)) (nat_lt (depth c k) longest) (s.sound k))

  walk_depth : (n k : ℕ) → n ≤ depth c k → depth c (walk n c k) + n ≡ depth c k
  walk_depth zero k h = omega arith
  walk_depth (suc n) k h = elim (linked k) [
    | root e d j ↦ absurd (omega (arith, h, d))
    | under p e d j ↦ (
        let i = walk_depth n p (omega (arith, h, d)) in
        let w : walk (suc n) c k ≡ walk n c p = rw e refl in
        let v = ap (depth c) w in
        omega (arith, i, d, v))
  ]

  -- ---- what stands above

  pub record Up (k x : ℕ) : Type 0 where
    pub steps : ℕ
    pub fits : steps ≤ depth c k
    pub is : walk steps c k ≡ x

  up_depth : (k x : ℕ) (u : Up k x) → depth c x + u.steps ≡ depth c k
  up_depth k x u = let w = walk_depth u.steps k u.fits in let v = ap (depth c) u.is in omega (arith, w, v)

  pub up_itself : (k : ℕ) → Up k k
  up_itself k = record { steps = 0; fits = omega arith; is = refl }

  up_same : (k x : ℕ) → k ≡ x → Up k x
  up_same k x e = subst (Up k) e (up_itself k)

  pub up_on : (k x y : ℕ) → Up k x → Up x y → Up k y
  up_on k x y u v = record {
    steps = u.steps + v.steps;
    fits = (let d = up_depth k x u in let f = v.fits in omega (arith, d, f));
    is = walk_plus c u.steps v.steps (u.steps + v.steps) k refl ∙ ap (walk v.steps c) u.is ∙ v.is;
  }

  up_one : (k p : ℕ) → above c k ≡ Some p → depth c k ≡ suc (depth c p) → Up k p
  up_one k p e d = record { steps = 1; fits = omega (arith, d); is = rw e refl }

  pub above_up : (k p : ℕ) → above c k ≡ Some p → Up k p
  above_up k p e = up_one k p e (above_depth k p e)

  no_steps : (k x n : ℕ) → n ≡ 0 → walk n c k ≡ x → k ≡ x
  no_steps k x n e w = subst (λ m. walk m c k ≡ x) e w

  up_level : (k x : ℕ) → Up k x → depth c k ≡ depth c x → k ≡ x
  up_level k x u d = let e = up_depth k x u in no_steps k x u.steps (omega (arith, e, d)) u.is

  up_least : (k x : ℕ) → Up k x → depth c x ≤ depth c k
  up_least k x u = let e = up_depth k x u in omega (arith, e)

  pub up_both : (k x : ℕ) → Up k x → Up x k → k ≡ x
  up_both k x u v = let a = up_least k x u in let b = up_least x k v in up_level k x u (omega (arith, a, b))

  -- of two above one class the higher is above the lower
  pub up_between : (k x y : ℕ) → Up k x → Up k y → depth c x ≤ depth c y → Up y x
  up_between k x y u v d = record {
    steps = u.steps - v.steps;
    fits = (let a = up_depth k x u in let b = up_depth k y v in omega (arith, a, b, d));
    is = (
        let a = up_depth k x u in
        let b = up_depth k y v in
        let w = walk_plus c v.steps (u.steps - v.steps) u.steps k (omega (arith, a, b, d)) in
        ap (walk (u.steps - v.steps) c) (sym v.is) ∙ sym w ∙ u.is);
  }

  -- one step towards what is above
  pub up_next : (k x p : ℕ) → Up k x → (k ≡ x → ⊥) → above c k ≡ Some p → Up p x
  up_next k x p u n e = up_between k x p u (above_up k p e) (let d = up_depth k x u in let f = above_depth k p e in go u.steps refl d f)
    where
      go : (m : ℕ) → u.steps ≡ m → depth c x + u.steps ≡ depth c k → depth c k ≡ suc (depth c p) → depth c x ≤ depth c p
      go zero q d f = absurd (n (no_steps k x u.steps q u.is))
      go (suc m) q d f = omega (arith, q, d, f)

  -- nothing is above the highest
  pub up_top : (k x : ℕ) → above c k ≡ None → Up k x → k ≡ x
  up_top k x e u = up_level k x u (let d = top_depth k e in let f = up_depth k x u in omega (arith, d, f))

  -- ---- jumps

  over_up : (p k : ℕ) → Up k p → Up p (jump c p) → Up (jump c p) (jump c (jump c p)) → Up k (jump_over c p)
  over_up p k u v w = go (nat_eq (depth c p - depth c (jump c p)) (depth c (jump c p) - depth c (jump c (jump c p))))
    where
      go : (b : Bool) → Up k (if b then jump c (jump c p) else p)
      go true = up_on k p (jump c (jump c p)) u (up_on p (jump c p) (jump c (jump c p)) v w)
      go false = u

  jump_up_in : (n k : ℕ) → depth c k ≤ n → Up k (jump c k)
  jump_up_in zero k h = elim (linked k) [
    | root e d j ↦ up_same k (jump c k) (sym j)
    | under p e d j ↦ absurd (omega (arith, h, d))
  ]
  jump_up_in (suc n) k h = elim (linked k) [
    | root e d j ↦ up_same k (jump c k) (sym j)
    | under p e d j ↦ (
        let v = jump_up_in n p (omega (arith, h, d)) in
        let l = up_least p (jump c p) v in
        let w = jump_up_in n (jump c p) (omega (arith, h, d, l)) in
        subst (Up k) (sym j) (over_up p k (up_one k p e d) v w))
  ]

  pub jump_up : (k : ℕ) → Up k (jump c k)
  jump_up k = jump_up_in (depth c k) k (omega arith)

  over_depth : (p : ℕ) → depth c (jump_over c p) ≡ (if nat_eq (depth c p - depth c (jump c p)) (depth c (jump c p) - depth c (jump c (jump c p))) then depth c (jump c (jump c p)) else depth c p)
  over_depth p = go (nat_eq (depth c p - depth c (jump c p)) (depth c (jump c p) - depth c (jump c (jump c p))))
    where
      go : (b : Bool) → depth c (if b then jump c (jump c p) else p) ≡ (if b then depth c (jump c (jump c p)) else depth c p)
      go true = refl
      go false = refl

  same_ends : (a b x y u v : ℕ) → a ≡ x → b ≡ y → u ≡ v → (if nat_eq (a - b) (b - u) then u else a) ≡ (if nat_eq (x - y) (y - v) then v else x)
  same_ends a b x y u v e f g = rw (e, f, g) refl

  jump_same_in : (n a b : ℕ) → depth c a ≤ n → depth c a ≡ depth c b → depth c (jump c a) ≡ depth c (jump c b)
  jump_same_in zero a b h d = elim (linked a) [
    | root e f j ↦ (let q = up_least b (jump c b) (jump_up b) in let i = ap (depth c) j in omega (arith, i, f, q, d))
    | under p e f j ↦ absurd (omega (arith, h, f))
  ]
  jump_same_in (suc n) a b h d = elim (linked a) [
    | root e f j ↦ (let q = up_least b (jump c b) (jump_up b) in let i = ap (depth c) j in omega (arith, i, f, q, d))
    | under p e f j ↦ elim (linked b) [
      | root g l i ↦ absurd (omega (arith, f, l, d))
      | under q g l i ↦ (
          let z : depth c p ≡ depth c q = omega (arith, f, l, d) in
          let y = jump_same_in n p q (omega (arith, h, f)) z in
          let r = up_least p (jump c p) (jump_up p) in
          let x = jump_same_in n (jump c p) (jump c q) (omega (arith, h, f, r)) y in
          ap (depth c) j ∙ over_depth p ∙ same_ends (depth c p) (depth c (jump c p)) (depth c q) (depth c (jump c q)) (depth c (jump c (jump c p))) (depth c (jump c (jump c q))) z y x ∙ sym (over_depth q) ∙ sym (ap (depth c) i))
    ]
  ]

  jump_same : (a b : ℕ) → depth c a ≡ depth c b → depth c (jump c a) ≡ depth c (jump c b)
  jump_same a b d = jump_same_in (depth c a) a b (omega arith) d

  -- ---- lifts

  record Lifts (k d x : ℕ) : Type 0 where
    up : Up k x
    to : depth c x ≡ min (depth c k) d

  record Steps (k d x : ℕ) : Type 0 where
    up : Up k x
    above : d ≤ depth c x
    falls : depth c x < depth c k

  steps_up : (k d : ℕ) → d < depth c k → Steps k d (step c k d)
  steps_up k d h = go (nat_le d (depth c (jump c k)) && nat_lt (depth c (jump c k)) (depth c k)) refl
    where
      one : Steps k d (above_or (above c k) k)
      one = elim (linked k) [
        | root e f j ↦ absurd (omega (arith, h, f))
        | under p e f j ↦ subst (λ o. Steps k d (above_or o k)) (sym e) (record { up = up_one k p e f; above = omega (arith, h, f); falls = omega (arith, f) })
      ]

      go : (b : Bool) → (nat_le d (depth c (jump c k)) && nat_lt (depth c (jump c k)) (depth c k)) ≡ b → Steps k d (if b then jump c k else above_or (above c k) k)
      go true e = record {
        up = jump_up k;
        above = leb-true d (depth c (jump c k)) (left_true (nat_le d (depth c (jump c k))) (nat_lt (depth c (jump c k)) (depth c k)) e);
        falls = ltb-true (depth c (jump c k)) (depth c k) (right_true (nat_le d (depth c (jump c k))) (nat_lt (depth c (jump c k)) (depth c k)) e);
      }
      go false e = one

  lifts_step : (n k d : ℕ) → ((x : ℕ) → depth c x ≤ n + d → Lifts x d (lifted n c x d)) → depth c k ≤ suc n + d → Lifts k d (lifted (suc n) c k d)
  lifts_step n k d ih h = go (nat_le (depth c k) d) refl
    where
      on : (x : ℕ) → Steps k d x → Lifts k d (lifted n c x d)
      on x w =
          let f = w.falls in
          let a = w.above in
          let i = ih x (omega (arith, h, f)) in
          let e = i.to in
          record { up = up_on k x (lifted n c x d) w.up i.up; to = omega (arith, e, f, a) }

      go : (b : Bool) → nat_le (depth c k) d ≡ b → Lifts k d (if b then k else lifted n c (step c k d) d)
      go true e = let l = leb-true (depth c k) d e in record { up = up_itself k; to = omega (arith, l) }
      go false e = on (step c k d) (steps_up k d (leb-false (depth c k) d e))

  lifts_in : (n k d : ℕ) → depth c k ≤ n + d → Lifts k d (lifted n c k d)
  lifts_in zero k d h = record { up = up_itself k; to = omega (arith, h) }
  lifts_in (suc n) k d h = lifts_step n k d (λ x l. lifts_in n x d l) (omega (arith, h))

  lifts : (k d : ℕ) → Lifts k d (lift c k d)
  lifts k d = lifts_in (length c.supers.items + 1) k d (let l = shallow k in omega (arith, l))

  pub in_chain : (k x : ℕ) → Up k x → is_in_chain c k x ≡ true
  in_chain k x u =
      let l = lifts k (depth c x) in
      let t = l.to in
      let m = up_least k x u in
      let e = up_level (lift c k (depth c x)) x (up_between k x (lift c k (depth c x)) u l.up (omega (arith, t, m))) (omega (arith, t, m)) in
      eq-eqb (lift c k (depth c x)) x e

  pub from_chain : (k x : ℕ) → is_in_chain c k x ≡ true → Up k x
  from_chain k x e = let l = lifts k (depth c x) in subst (Up k) (eqb-true (lift c k (depth c x)) x e) l.up

  -- ---- where two chains meet

  pub record Least (a b x : ℕ) : Type 0 where
    pub left : Up a x
    pub right : Up b x
    pub least : (y : ℕ) → Up a y → Up b y → Up x y

  abbrev pub Meets : ℕ → ℕ → Option ℕ → Type 0
  Meets a b (Some x) = Least a b x
  Meets a b None = (y : ℕ) → Up a y → Up b y → ⊥

  -- two classes further up have the same in common
  further : (a b a' b' : ℕ) → Up a a' → Up b b' → ((y : ℕ) → Up a y → Up b y → Up a' y × Up b' y) → (r : Option ℕ) → Meets a' b' r → Meets a b r
  further a b a' b' u v f (Some x) m = record {
    left = up_on a a' x u m.left;
    right = up_on b b' x v m.right;
    least = λ y p q. m.least y (f y p q).0 (f y p q).1;
  }
  further a b a' b' u v f None m = λ y p q. m y (f y p q).0 (f y p q).1

  meets_step : (n a b : ℕ) → ((x y : ℕ) → depth c x < n → depth c x ≡ depth c y → Meets x y (meets n c x y)) → depth c a ≤ n → depth c a ≡ depth c b → Meets a b (meets (suc n) c a b)
  meets_step n a b ih h d = go (nat_eq a b) refl
    where
      same : a ≡ b → Meets a b (Some a)
      same e = record { left = up_itself a; right = up_same b a (sym e); least = λ y p q. p }

      top : depth c a ≡ 0 → (a ≡ b → ⊥) → (y : ℕ) → Up a y → Up b y → ⊥
      top z ne y p q =
          let l = up_least a y p in
          let i = up_level a y p (omega (arith, z, l)) in
          let k = up_least b y q in
          let j = up_level b y q (omega (arith, z, l, k, d)) in
          ne (i ∙ sym j)

      far : (jump c a ≡ jump c b → ⊥) → (0 < depth c a) → depth c (jump c a) < depth c a → Meets a b (meets n c (jump c a) (jump c b))
      far ne z f = further a b (jump c a) (jump c b) (jump_up a) (jump_up b) both (meets n c (jump c a) (jump c b)) (ih (jump c a) (jump c b) (omega (arith, h, f)) (jump_same a b d))
        where
          both : (y : ℕ) → Up a y → Up b y → Up (jump c a) y × Up (jump c b) y
          both y p q = elim (cases_lt (depth c (jump c a)) (depth c y)) [
            | inl l ↦ absurd (
                let i = up_between a (jump c a) y (jump_up a) p (omega (arith, l)) in
                let s' = jump_same a b d in
                let j = up_between b (jump c b) y (jump_up b) q (omega (arith, l, s')) in
                let k = up_between y (jump c a) (jump c b) i j (omega (arith, s')) in
                ne (sym (up_level (jump c b) (jump c a) k (sym s'))))
            | inr l ↦ (let s' = jump_same a b d in (up_between a y (jump c a) p (jump_up a) (omega (arith, l)), up_between b y (jump c b) q (jump_up b) (omega (arith, l, s'))))
          ]

      jump_falls : 0 < depth c a → depth c (jump c a) < depth c a
      jump_falls z = elim (linked a) [
        | root e f j ↦ absurd (omega (arith, z, f))
        | under p e f j ↦ (
            let l = up_least p (jump_over c p) (over_up p p (up_itself p) (jump_up p) (jump_up (jump c p))) in
            let i = ap (depth c) j in
            omega (arith, f, l, i))
      ]

      near : (a ≡ b → ⊥) → 0 < depth c a → Meets a b (met_at n c (both_above (above c a) (above c b)))
      near ne z = elim (linked a) [
        | root e f j ↦ absurd (omega (arith, z, f))
        | under p e f j ↦ elim (linked b) [
          | root g l i ↦ absurd (omega (arith, z, l, d))
          | under q g l i ↦ (
              let m = further a b p q (up_one a p e f) (up_one b q g l) (both p q e f g l) (meets n c p q) (ih p q (omega (arith, h, f)) (omega (arith, f, l, d))) in
              subst (λ o. Meets a b (met_at n c (both_above o (above c b)))) (sym e) (subst (λ o. Meets a b (met_at n c (both_above (Some p) o))) (sym g) m))
        ]
      ]
        where
          both : (p q : ℕ) → above c a ≡ Some p → depth c a ≡ suc (depth c p) → above c b ≡ Some q → depth c b ≡ suc (depth c q) → (y : ℕ) → Up a y → Up b y → Up p y × Up q y
          both p q e f g l y u v = elim (cases_lt (depth c y) (depth c a)) [
            | inl k ↦ (up_between a y p u (up_one a p e f) (omega (arith, k, f)), up_between b y q v (up_one b q g l) (omega (arith, k, f, l, d)))
            | inr k ↦ absurd (
                let x = up_least a y u in
                let w = up_least b y v in
                ne (up_level a y u (omega (arith, k, x)) ∙ sym (up_level b y v (omega (arith, k, x, w, d)))))
          ]

      jumps : (j : Bool) → nat_eq (jump c a) (jump c b) ≡ j → (a ≡ b → ⊥) → 0 < depth c a → Meets a b (met_at n c (if not j then Some (jump c a, jump c b) else both_above (above c a) (above c b)))
      jumps true e ne z = near ne z
      jumps false e ne z = far (eqb-false (jump c a) (jump c b) e) z (jump_falls z)

      stepped : (z : Bool) → nat_eq (depth c a) 0 ≡ z → (a ≡ b → ⊥) → Meets a b (met_at n c (if z then None else if not (nat_eq (jump c a) (jump c b)) then Some (jump c a, jump c b) else both_above (above c a) (above c b)))
      stepped true e ne = top (eqb-true (depth c a) 0 e) ne
      stepped false e ne = jumps (nat_eq (jump c a) (jump c b)) refl ne (let w = eqb-false (depth c a) 0 e in pos (depth c a) w)
        where
          pos : (x : ℕ) → (x ≡ 0 → ⊥) → 0 < x
          pos zero w = absurd (w refl)
          pos (suc x) w = omega arith

      go : (e : Bool) → nat_eq a b ≡ e → Meets a b (if e then Some a else elim (stepped_both c a b) [ Some q ↦ meets n c q.0 q.1 | None ↦ None ])
      go true e = same (eqb-true a b e)
      go false e = stepped (nat_eq (depth c a) 0) refl (eqb-false a b e)

  meets_in : (n a b : ℕ) → depth c a < n → depth c a ≡ depth c b → Meets a b (meets n c a b)
  meets_in zero a b h d = absurd (omega (arith, h))
  meets_in (suc n) a b h d = meets_step n a b (λ x y l e. meets_in n x y l e) (omega (arith, h)) d

  pub meeting : (a b : ℕ) → Meets a b (nearest c a b)
  meeting a b = further a b (lift c a (min (depth c a) (depth c b))) (lift c b (min (depth c a) (depth c b))) (lifts a (min (depth c a) (depth c b))).up (lifts b (min (depth c a) (depth c b))).up both (nearest c a b) (meets_in (length c.supers.items + 1) (lift c a (min (depth c a) (depth c b))) (lift c b (min (depth c a) (depth c b))) (let s' = shallow a in let t = (lifts a (min (depth c a) (depth c b))).to in omega (arith, s', t)) (same_to (lifts a (min (depth c a) (depth c b))) (lifts b (min (depth c a) (depth c b)))))
    where
      same_to : Lifts a (min (depth c a) (depth c b)) (lift c a (min (depth c a) (depth c b))) → Lifts b (min (depth c a) (depth c b)) (lift c b (min (depth c a) (depth c b))) → depth c (lift c a (min (depth c a) (depth c b))) ≡ depth c (lift c b (min (depth c a) (depth c b)))
      same_to la lb = let t = la.to in let u = lb.to in omega (arith, t, u)

      both : (y : ℕ) → Up a y → Up b y → Up (lift c a (min (depth c a) (depth c b))) y × Up (lift c b (min (depth c a) (depth c b))) y
      both y p q =
          let la = lifts a (min (depth c a) (depth c b)) in
          let lb = lifts b (min (depth c a) (depth c b)) in
          let x = up_least a y p in
          let w = up_least b y q in
          let t = la.to in
          let u = lb.to in
          (up_between a y (lift c a (min (depth c a) (depth c b))) p la.up (omega (arith, x, w, t)), up_between b y (lift c b (min (depth c a) (depth c b))) q lb.up (omega (arith, x, w, u)))

  -- ---- laws of the nearest class

  pub least_left : (a b x : ℕ) → nearest c a b ≡ Some x → Up a x
  least_left a b x e = go (subst (Meets a b) e (meeting a b))
    where
      go : Least a b x → Up a x
      go m = m.left

  pub itself : (a : ℕ) → nearest c a a ≡ Some a
  itself a = go (nearest c a a) (meeting a a)
    where
      go : (r : Option ℕ) → Meets a a r → r ≡ Some a
      go None m = absurd (m a (up_itself a) (up_itself a))
      go (Some x) m = ap Some (up_both x a (m.least a (up_itself a) (up_itself a)) m.left)

  pub swaps : (a b : ℕ) → nearest c a b ≡ nearest c b a
  swaps a b = go (nearest c a b) (nearest c b a) (meeting a b) (meeting b a)
    where
      go : (r q : Option ℕ) → Meets a b r → Meets b a q → r ≡ q
      go None None m n = refl
      go None (Some x) m n = absurd (m x n.right n.left)
      go (Some x) None m n = absurd (n x m.right m.left)
      go (Some x) (Some y) m n = ap Some (up_both x y (m.least y n.right n.left) (n.least x m.right m.left))

  pub falls : (a b x : ℕ) → nearest c a b ≡ Some x → (x ≡ a) ⊎ depth c x < depth c a
  falls a b x e = go (subst (Meets a b) e (meeting a b))
    where
      end : (u : Up a x) (n : ℕ) → u.steps ≡ n → (x ≡ a) ⊎ depth c x < depth c a
      end u zero f = inl (sym (no_steps a x u.steps f u.is))
      end u (suc n) f = inr (let d = up_depth a x u in omega (arith, d, f))

      go : Least a b x → (x ≡ a) ⊎ depth c x < depth c a
      go m = end m.left m.left.steps refl

  record Nearest (a b d x : ℕ) : Type 0 where
    first : Up a x
    other : Up b x
    third : Up d x
    least : (y : ℕ) → Up a y → Up b y → Up d y → Up x y

  abbrev Three : ℕ → ℕ → ℕ → Option ℕ → Type 0
  Three a b d (Some x) = Nearest a b d x
  Three a b d None = (y : ℕ) → Up a y → Up b y → Up d y → ⊥

  one_three : (a b d : ℕ) (r q : Option ℕ) → Three a b d r → Three a b d q → r ≡ q
  one_three a b d None None m n = refl
  one_three a b d None (Some x) m n = absurd (m x n.first n.other n.third)
  one_three a b d (Some x) None m n = absurd (n x m.first m.other m.third)
  one_three a b d (Some x) (Some y) m n = ap Some (up_both x y (m.least y n.first n.other n.third) (n.least x m.first m.other m.third))

  from_left : (a b d x : ℕ) → Least a b x → (r : Option ℕ) → Meets x d r → Three a b d r
  from_left a b d x l None m = λ y p q s'. m y (l.least y p q) s'
  from_left a b d x l (Some z) m = record {
    first = up_on a x z l.left m.left;
    other = up_on b x z l.right m.left;
    third = m.right;
    least = λ y p q s'. m.least y (l.least y p q) s';
  }

  from_right : (a b d x : ℕ) → Least b d x → (r : Option ℕ) → Meets a x r → Three a b d r
  from_right a b d x l None m = λ y p q s'. m y p (l.least y q s')
  from_right a b d x l (Some z) m = record {
    first = m.left;
    other = up_on b x z l.left m.right;
    third = up_on d x z l.right m.right;
    least = λ y p q s'. m.least y p (l.least y q s');
  }

  -- the nearest of a nearest and another one
  abbrev pub then_right : Option ℕ → ℕ → Option ℕ
  then_right None d = None
  then_right (Some x) d = nearest c x d

  abbrev pub then_left : ℕ → Option ℕ → Option ℕ
  then_left a None = None
  then_left a (Some x) = nearest c a x

  left_three : (a b d : ℕ) (r : Option ℕ) → Meets a b r → Three a b d (then_right r d)
  left_three a b d None m = λ y p q s'. m y p q
  left_three a b d (Some x) m = from_left a b d x m (nearest c x d) (meeting x d)

  right_three : (a b d : ℕ) (r : Option ℕ) → Meets b d r → Three a b d (then_left a r)
  right_three a b d None m = λ y p q s'. m y q s'
  right_three a b d (Some x) m = from_right a b d x m (nearest c a x) (meeting a x)

  pub groups : (a b d : ℕ) → then_right (nearest c a b) d ≡ then_left a (nearest c b d)
  groups a b d = one_three a b d (then_right (nearest c a b) d) (then_left a (nearest c b d)) (left_three a b d (nearest c a b) (meeting a b)) (right_three a b d (nearest c b d) (meeting b d))
