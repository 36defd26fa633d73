-- What trees have at their keys.
use Rattle.std.specs.Prelude.{◌≡◌, ℕ, Bool, true, false, ◌==◌, ◌+◌, ◌*◌, ◌/◌, ◌%◌, ◌^◌, ◌<◌, ◌≤◌, ◌↔◌, if◌then◌else◌, Option, Some, None, Result, Ok, Err, IfOk, refl}
use Rattle.std.proofs.Common.{sym, ◌∙◌, arith, inl, inr, subst, ap}
use Rattle.std.proofs.lemmas.Grind.{common_steps}
use Rattle.std.proofs.lemmas.Nat.{shr-shr, pow-add}
use Rattle.std.proofs.Math.Nat.{mul-le-mul_right, pow-le-pow_right}
use Rattle.std.proofs.lemmas.Bool.{cases_lt}
use Rattle.pat_map.specs.declared.nodes.Node.{Node, Leaf, Branch'}
use Rattle.pat_map.specs.Trees.{at, Inside, Fits, Halves, IsTree, IsBranch, one_of, with_other, either, BelowAt}

pub half : (k s : ℕ) → k / 2 ^ (s + 1) ≡ k / 2 ^ s / 2
half k s = sym (shr-shr k s 1)

-- a number and its parity
pub parity : {P : Type 0} (n : ℕ) → ((n % 2 == 0) ≡ true → n % 2 ≡ 0 → P) → ((n % 2 == 0) ≡ false → n % 2 ≡ 1 → P) → P
parity {P = P} n even odd = by (n % 2 == 0) refl
  where
    by : (b : Bool) → (n % 2 == 0) ≡ b → P
    by true e = even e (grind (arith, common_steps))
    by false e = odd e (grind (arith, common_steps))

pub same_or_not : {P : Type 0} (a b : ℕ) → ((a == b) ≡ true → a ≡ b → P) → ((a == b) ≡ false → (a ≡ b → ⊥) → P) → P
same_or_not {P = P} a b same other = by (a == b) refl
  where
    by : (t : Bool) → (a == b) ≡ t → P
    by true e = same e (grind (arith, common_steps))
    by false e = other e (λ s. grind (arith, common_steps))

-- a block of words other than block 0 has fewer bits than a word
pub bit_below : (bit d : ℕ) → 0 < d → Fits bit d → bit < 32
bit_below bit d some fits = elim (cases_lt bit 32) [
  | inl lt ↦ lt
  | inr ge ↦
      let up : 2 ^ 32 ≤ 2 ^ bit = pow-le-pow_right (omega arith) ge in
      let times : 1 * 2 ^ bit ≤ d * 2 ^ bit = mul-le-mul_right (2 ^ bit) some in
      absurd (omega arith)
]

pub fork_below : (bit a b : ℕ) → (a ≡ b → ⊥) → Fits bit a → Fits bit b → bit < 32
fork_below bit a b ne fa fb = same_or_not a 0
    (λ e i. bit_below bit b (same_or_not b 0 (λ t j. absurd (ne (i ∙ sym j))) (λ t j. omega arith)) fb)
    (λ e i. bit_below bit a (omega arith) fa)

-- the block of which it is a half
pub wider : (bit h d : ℕ) → 2 * h ≤ d → Fits bit d → Fits (bit + 1) h
wider bit h d le fits =
    let times : (2 * h) * 2 ^ bit ≤ d * 2 ^ bit = mul-le-mul_right (2 ^ bit) le in
    let e : 2 ^ (bit + 1) ≡ 2 ^ bit * 2 = pow-add 2 bit 1 in
    rw e (omega arith)

-- what follows from an answer's fact
pub ok_so : {A E : Type 0} (r : Result A E) (P Q : A → Type 0) → IfOk r P → ((x : A) → P x → Q x) → IfOk r Q
ok_so (Ok x) P Q h f = f x h
ok_so (Err e) P Q h f = tt

module _ {V : Type 0} where
  -- what is true of each node over two trees is true of this one
  pub over : (P : Node V → Type 0) (bit block : ℕ) (low high n : Node V) → IsBranch bit block low high n → ((p q : _) → P (Branch' bit block p low q high)) → P n
  over P bit block low high (Leaf key value) e f = absurd e
  over P bit block low high (Branch' b c p l q h) e f =
      subst (λ x. P (Branch' x c p l q h)) (sym e.0)
      (subst (λ x. P (Branch' bit x p l q h)) (sym e.1)
      (subst (λ x. P (Branch' bit block p x q h)) (sym e.2)
      (subst (λ x. P (Branch' bit block p low q x)) (sym e.3) (f p q))))

  pub one_none : (x : Option V) → one_of x None ≡ x
  one_none None = refl
  one_none (Some v) = refl

  -- a block of one more bit
  pub inside_half : (s b : ℕ) (n : Node V) → Inside s b n → Inside (s + 1) (b / 2) n
  inside_half s b n h k ne = h k (λ e. ne (half k s ∙ ap (λ q. q / 2) e))

  at_low : (bit block : ℕ) (p q : _) (low high : Node V) (k : ℕ) → ((k / 2 ^ bit) % 2 == 0) ≡ true → at (Branch' bit block p low q high) k ≡ at low k
  at_low bit block p q low high k e = rw e refl

  at_high : (bit block : ℕ) (p q : _) (low high : Node V) (k : ℕ) → ((k / 2 ^ bit) % 2 == 0) ≡ false → at (Branch' bit block p low q high) k ≡ at high k
  at_high bit block p q low high k e = rw e refl

  leaf_inside : (key : ℕ) (v : V) → Inside 0 key (Leaf key v)
  leaf_inside key v k ne = same_or_not k key (λ e s. absurd (ne (omega arith))) (λ e s. rw e refl)

  branch_inside : (bit block : ℕ) (p q : _) (low high : Node V) → Halves bit block low high → Inside (bit + 1) block (Branch' bit block p low q high)
  branch_inside bit block p q low high h k ne = parity (k / 2 ^ bit)
      (λ e r. rw e (h.low_in k (λ s. ne (half k bit ∙ omega arith))))
      (λ e r. rw e (h.high_in k (λ s. ne (half k bit ∙ omega arith))))

  -- ---- one key more

  abbrev pub Sets : ℕ → V → Node V → Node V → Type 0
  Sets key v old new = (k : ℕ) → at new k ≡ (if k == key then Some v else at old k)

  pub sets_leaf : (key : ℕ) (v w : V) → Sets key v (Leaf key w) (Leaf key v)
  sets_leaf key v w k = same_or_not k key (λ e s. rw e refl) (λ e s. rw e refl)

  -- a key of one half leaves the other half as it is
  pub sets_low : (bit block key : ℕ) (p p' q q' : _) (v : V) (low low' high : Node V) → (key / 2 ^ bit) % 2 ≡ 0 → Sets key v low low' → Sets key v (Branch' bit block p low q high) (Branch' bit block p' low' q' high)
  sets_low bit block key p p' q q' v low low' high side s k = parity (k / 2 ^ bit)
      (λ e r. rw e (s k))
      (λ e r. rw e (same_or_not k key (λ t i. absurd (let o : (key / 2 ^ bit) % 2 ≡ 1 = subst (λ n. (n / 2 ^ bit) % 2 ≡ 1) i r in omega arith)) (λ t i. rw t refl)))

  pub sets_high : (bit block key : ℕ) (p p' q q' : _) (v : V) (low high high' : Node V) → (key / 2 ^ bit) % 2 ≡ 1 → Sets key v high high' → Sets key v (Branch' bit block p low q high) (Branch' bit block p' low q' high')
  sets_high bit block key p p' q q' v low high high' side s k = parity (k / 2 ^ bit)
      (λ e r. rw e (same_or_not k key (λ t i. absurd (let o : (key / 2 ^ bit) % 2 ≡ 0 = subst (λ n. (n / 2 ^ bit) % 2 ≡ 0) i r in omega arith)) (λ t i. rw t refl)))
      (λ e r. rw e (s k))

  -- a key of the block, set, is still in the block
  pub inside_set : (size block key : ℕ) (v : V) (old new : Node V) → key / 2 ^ size ≡ block → Sets key v old new → Inside size block old → Inside size block new
  inside_set size block key v old new i s h k ne = same_or_not k key
      (λ e t. absurd (ne (ap (λ n. n / 2 ^ size) t ∙ i)))
      (λ e t. let o : at new k ≡ at old k = rw e at (s k) in o ∙ h k ne)

  -- ---- two trees apart

  -- the tree of two blocks that are the halves of one
  pub linked : (bit c d : ℕ) (p q : _) (x y : Node V) → Inside bit c x → Inside bit d y → c < d → c / 2 ≡ d / 2 → Fits bit d → IsTree x → IsTree y
      → IsTree (Branch' bit (c / 2) p x q y) × ((k : ℕ) → (at (Branch' bit (c / 2) p x q y) k ≡ one_of (at x k) (at y k)) × (at (Branch' bit (c / 2) p x q y) k ≡ one_of (at y k) (at x k)))
  linked bit c d p q x y hx hy lt same fits tx ty = (
    (
      record {
        bit_fits = bit_below bit d (omega arith) fits;
        fits = wider bit (c / 2) d (omega arith) fits;
        low_in = let e : c ≡ 2 * (c / 2) = omega arith in subst (λ b. Inside bit b x) e hx;
        high_in = let e : d ≡ 2 * (c / 2) + 1 = omega arith in subst (λ b. Inside bit b y) e hy;
      },
      tx,
      ty,
    ),
    λ k. parity (k / 2 ^ bit)
        (λ e r. let none : at y k ≡ None = hy k (λ s. absurd (omega arith)) in rw (e, none) (sym (one_none (at x k)), refl))
        (λ e r. let none : at x k ≡ None = hx k (λ s. absurd (omega arith)) in rw (e, none) (refl, sym (one_none (at y k)))),
  )

  -- the same of a node that is made of them, and the other way round
  pub link_tree : (bit c d : ℕ) (x y n : Node V) → Inside bit c x → Inside bit d y → c < d → c / 2 ≡ d / 2 → Fits bit d → IsTree x → IsTree y → IsBranch bit (c / 2) x y n → IsTree n
  link_tree bit c d x y n hx hy lt same fits tx ty e = over IsTree bit (c / 2) x y n e (λ p q. (linked bit c d p q x y hx hy lt same fits tx ty).0)

  pub link_joins : (bit c d : ℕ) (x y n : Node V) → Inside bit c x → Inside bit d y → c < d → c / 2 ≡ d / 2 → Fits bit d → IsTree x → IsTree y → IsBranch bit (c / 2) x y n
      → (k : ℕ) → (at n k ≡ one_of (at x k) (at y k)) × (at n k ≡ one_of (at y k) (at x k))
  link_joins bit c d x y n hx hy lt same fits tx ty e k = over (λ m. (at m k ≡ one_of (at x k) (at y k)) × (at m k ≡ one_of (at y k) (at x k))) bit (c / 2) x y n e (λ p q. (linked bit c d p q x y hx hy lt same fits tx ty).1 k)

  -- a node whose one half has one key more
  pub put_low : (bit block key : ℕ) (v : V) (low low' high old n : Node V) → Halves bit block low high → key / 2 ^ (bit + 1) ≡ block → ((key / 2 ^ bit) % 2 == 0) ≡ true → IsTree low' → IsTree high → Sets key v low low' → IsBranch bit block low high old → IsBranch bit block low' high n → IsTree n × Sets key v old n
  put_low bit block key v low low' high old n h own side tl th s eo en = (tree, sets)
    where
      even : (key / 2 ^ bit) % 2 ≡ 0
      even = grind (arith, common_steps)

      in_low : key / 2 ^ bit ≡ 2 * block
      in_low = let e : key / 2 ^ (bit + 1) ≡ key / 2 ^ bit / 2 = half key bit in omega (arith, even)

      tree : IsTree n
      tree = over IsTree bit block low' high n en (λ p q. (record { bit_fits = h.bit_fits; fits = h.fits; low_in = inside_set bit (2 * block) key v low low' in_low s h.low_in; high_in = h.high_in }, tl, th))

      sets : Sets key v old n
      sets k = over (λ o. at n k ≡ (if k == key then Some v else at o k)) bit block low high old eo (λ p q. over (λ m. at m k ≡ (if k == key then Some v else at (Branch' bit block p low q high) k)) bit block low' high n en (λ p' q'. sets_low bit block key p p' q q' v low low' high even s k))

  pub put_high : (bit block key : ℕ) (v : V) (low high high' old n : Node V) → Halves bit block low high → key / 2 ^ (bit + 1) ≡ block → ((key / 2 ^ bit) % 2 == 0) ≡ false → IsTree low → IsTree high' → Sets key v high high' → IsBranch bit block low high old → IsBranch bit block low high' n → IsTree n × Sets key v old n
  put_high bit block key v low high high' old n h own side tl th s eo en = (tree, sets)
    where
      odd : (key / 2 ^ bit) % 2 ≡ 1
      odd = parity (key / 2 ^ bit) (λ e r. absurd (cc)) (λ e r. r)

      in_high : key / 2 ^ bit ≡ 2 * block + 1
      in_high = let e : key / 2 ^ (bit + 1) ≡ key / 2 ^ bit / 2 = half key bit in omega (arith, odd)

      tree : IsTree n
      tree = over IsTree bit block low high' n en (λ p q. (record { bit_fits = h.bit_fits; fits = h.fits; low_in = h.low_in; high_in = inside_set bit (2 * block + 1) key v high high' in_high s h.high_in }, tl, th))

      sets : Sets key v old n
      sets k = over (λ o. at n k ≡ (if k == key then Some v else at o k)) bit block low high old eo (λ p q. over (λ m. at m k ≡ (if k == key then Some v else at (Branch' bit block p low q high) k)) bit block low high' n en (λ p' q'. sets_high bit block key p p' q q' v low high high' odd s k))

  -- a node's parts, and its block
  pub parts_of : (bit block : ℕ) (low high n : Node V) → IsBranch bit block low high n → IsTree n → Halves bit block low high × IsTree low × IsTree high
  parts_of bit block low high n e t = over (λ m. IsTree m → Halves bit block low high × IsTree low × IsTree high) bit block low high n e (λ p q t. t) t

  pub block_of_branch : (bit block : ℕ) (low high n m : Node V) → IsBranch bit block low high n → IsTree n → m ≡ n → Inside (bit + 1) block m
  block_of_branch bit block low high n m e t i = subst (Inside (bit + 1) block) (sym i) (over (λ m. Inside (bit + 1) block m) bit block low high n e (λ p q. branch_inside bit block p q low high (parts_of bit block low high n e t).0))

  -- a node of the same halves, but for a copy of one
  pub same_halves : (bit block : ℕ) (low low' high high' n : Node V) → low' ≡ low → high' ≡ high → IsBranch bit block low' high' n → IsBranch bit block low high n
  same_halves bit block low low' high high' n i j e = subst (λ l. IsBranch bit block l high n) i (subst (λ h. IsBranch bit block low' h n) j e)

  -- a node over the halves of another one, but for one
  pub with_low : (a b bit block : ℕ) (l h low high half n m : Node V) → IsBranch a b l h n → IsBranch bit block low high n → IsBranch a b half h m → IsBranch bit block half high m
  with_low a b bit block l h low high half (Leaf key value) m own is new = absurd own
  with_low a b bit block l h low high half (Branch' ob oc p ol q oh) m own is new =
      subst (λ x. IsBranch x block half high m) (sym own.0 ∙ is.0)
      (subst (λ x. IsBranch a x half high m) (sym own.1 ∙ is.1)
      (subst (λ x. IsBranch a b half x m) (sym own.3 ∙ is.3) new))

  pub with_high : (a b bit block : ℕ) (l h low high half n m : Node V) → IsBranch a b l h n → IsBranch bit block low high n → IsBranch a b l half m → IsBranch bit block low half m
  with_high a b bit block l h low high half (Leaf key value) m own is new = absurd own
  with_high a b bit block l h low high half (Branch' ob oc p ol q oh) m own is new =
      subst (λ x. IsBranch x block low half m) (sym own.0 ∙ is.0)
      (subst (λ x. IsBranch a x low half m) (sym own.1 ∙ is.1)
      (subst (λ x. IsBranch a b x half m) (sym own.2 ∙ is.2) new))

  -- a leaf beside a tree without its key
  pub sets_apart : (s a key : ℕ) (v : V) (x t : Node V) → Inside s a x → (key / 2 ^ s ≡ a → ⊥) → ((k : ℕ) → at t k ≡ one_of (at x k) (at (Leaf key v) k)) → Sets key v x t
  sets_apart s a key v x t hx ne h k = h k ∙ same_or_not k key
      (λ e i. let none : at x k ≡ None = hx k (λ j. ne (ap (λ n. n / 2 ^ s) (sym i) ∙ j)) in rw (none, e) refl)
      (λ e i. rw e (one_none (at x k)))

  pub sets_linked : (s a key : ℕ) (v : V) (x x' l t : Node V) → x' ≡ x → l ≡ Leaf key v → Inside s a x' → (key / 2 ^ s ≡ a → ⊥) → ((k : ℕ) → at t k ≡ one_of (at x' k) (at l k)) → Sets key v x t
  sets_linked s a key v x x' l t i j h ne m =
      subst (λ o. Sets key v o t) i (sets_apart s a key v x' t h ne (λ k. m k ∙ ap (λ o. one_of (at x' k) (at o k)) j))

  -- ---- two trees as one

  abbrev pub Joins : (V → V → V) → Node V → Node V → Node V → Type 0
  Joins f x y t = (k : ℕ) → at t k ≡ either f (at x k) (at y k)

  pub joins_leaf : (f : V → V → V) (x n t : Node V) (key : ℕ) (w u : V) → n ≡ Leaf key w → u ≡ with_other f (at x key) w → Sets key u x t → Joins f x n t
  joins_leaf f x n t key w u i j s k = s k ∙ same_or_not k key
      (λ e r. rw (i, e) (ap Some (j ∙ ap (λ m. with_other f (at x m) w) (sym r))))
      (λ e r. rw (i, e) refl)

  pub joins_branch : (f : V → V → V) (bit block : ℕ) (x low high n t u : Node V) → IsBranch bit block low high n → IsTree n → Joins f x low t → Joins f t high u → Joins f x n u
  joins_branch f bit block x low high n t u e tree i j k = over (λ m. at u k ≡ either f (at x k) (at m k)) bit block low high n e (λ p q. parity (k / 2 ^ bit)
      (λ b r. let none : at high k ≡ None = h.high_in k (λ s. absurd (omega arith)) in rw b (j k ∙ rw none (i k)))
      (λ b r. let none : at low k ≡ None = h.low_in k (λ s. absurd (omega arith)) in rw b (j k ∙ ap (λ o. either f o (at high k)) (i k ∙ rw none refl))))
    where
      h : Halves bit block low high
      h = (parts_of bit block low high n e tree).0

  -- ---- one tree below another

  abbrev pub Below : (V → V → Type 0) → Node V → Node V → Type 0
  Below below x y = (k : ℕ) → BelowAt below (at x k) (at y k)

  pub below_leaf : (below : V → V → Type 0) (n y : Node V) (key : ℕ) (v : V) (o : Option V) → n ≡ Leaf key v → o ≡ at y key → BelowAt below (Some v) o ↔ Below below n y
  below_leaf below n y key v o i j = (forth, back)
    where
      forth : BelowAt below (Some v) o → Below below n y
      forth h k = same_or_not k key
          (λ e r. rw (i, e) (subst (BelowAt below (Some v)) (j ∙ ap (at y) (sym r)) h))
          (λ e r. rw (i, e) tt)

      back : Below below n y → BelowAt below (Some v) o
      back h =
          let e : (key == key) ≡ true = grind (arith, common_steps) in
          let own : at n key ≡ Some v = rw (i, e) refl in
          subst (BelowAt below (Some v)) (sym j) (subst (λ a. BelowAt below a (at y key)) own (h key))

  pub below_branch : (below : V → V → Type 0) (bit block : ℕ) (low high n y : Node V) → IsBranch bit block low high n → IsTree n → (Below below low y × Below below high y) ↔ Below below n y
  below_branch below bit block low high n y e tree = over (λ m. (Below below low y × Below below high y) ↔ Below below m y) bit block low high n e (λ p q. (
    λ b k. parity (k / 2 ^ bit) (λ t r. rw t (b.0 k)) (λ t r. rw t (b.1 k)),
    λ b. (
      λ k. parity (k / 2 ^ bit)
          (λ t r. rw t at (b k))
          (λ t r. let none : at low k ≡ None = h.low_in k (λ s. absurd (omega arith)) in rw none tt),
      λ k. parity (k / 2 ^ bit)
          (λ t r. let none : at high k ≡ None = h.high_in k (λ s. absurd (omega arith)) in rw none tt)
          (λ t r. rw t at (b k)),
    ),
  ))
    where
      h : Halves bit block low high
      h = (parts_of bit block low high n e tree).0

  -- ---- a key that is there

  pub record SomeKey (n : Node V) : Type 0 where
    pub key : ℕ
    pub value : V
    pub is : at n key ≡ Some value

  -- a key of a tree is in its block
  pub in_block : (s b : ℕ) (n : Node V) → Inside s b n → (k : ℕ) (v : V) → at n k ≡ Some v → k / 2 ^ s ≡ b
  in_block s b n h k v e = same_or_not (k / 2 ^ s) b (λ t i. i) (λ t i. let none : at n k ≡ None = h k i in absurd (cc))

  pub some_key : (n : Node V) → IsTree n → SomeKey n
  some_key (Leaf key value) t = record { key = key; value = value; is = let e : (key == key) ≡ true = grind (arith, common_steps) in rw e refl }
  some_key (Branch' bit block p low q high) t = lift (some_key low t.1)
    where
      lift : SomeKey low → SomeKey (Branch' bit block p low q high)
      lift s =
          let b : s.key / 2 ^ bit ≡ 2 * block = in_block bit (2 * block) low t.0.low_in s.key s.value s.is in
          let e : ((s.key / 2 ^ bit) % 2 == 0) ≡ true = grind (arith, common_steps) in
          record { key = s.key; value = s.value; is = rw e s.is }
