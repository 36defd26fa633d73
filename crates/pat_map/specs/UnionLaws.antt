-- Two trees joined branch by branch.
use Rattle.std.specs.Prelude.{◌≡◌, ℕ, ◌+◌, ◌-◌, ◌*◌, ◌/◌, ◌^◌, ◌<◌, ◌≤◌, Option, Some, None, refl}
use Rattle.std.proofs.Common.{sym, ◌∙◌, arith, subst, ap}
use Rattle.std.proofs.lemmas.Nat.{shr-shr, pow-add}
use Rattle.std.proofs.Math.Nat.{mul-le-mul_right, div-mul-le_self}
use Rattle.pat_map.specs.declared.nodes.Node.{Node, Leaf, Branch'}
use Rattle.pat_map.specs.Trees.{at, Inside, Fits, Halves, IsTree, IsBranch, one_of, with_newer, either}
use Rattle.pat_map.specs.TreeLaws.{parity, same_or_not, over, one_none, parts_of, half, Sets, Joins}
use Rattle.pat_map.specs.Placings.{LiesIn}

-- ---- blocks

-- a block of one more bit
pub lies_half : (size s b : ℕ) → s ≤ size → b / 2 ^ ((size + 1) - s) ≡ b / 2 ^ (size - s) / 2
lies_half size s b le = let e : (size + 1) - s ≡ (size - s) + 1 = omega arith in ap (λ n. b / 2 ^ n) e ∙ half b (size - s)

pub lies_itself : (s b : ℕ) → b / 2 ^ (s - s) ≡ b
lies_itself s b = let e : s - s ≡ 0 = omega arith in rw e (grind arith)

-- a block with a smaller one that is apart from it
pub apart_held : (bit block other_bit other_block h : ℕ) → other_bit < bit → h ≡ other_block / 2 ^ (bit - (other_bit + 1)) → LiesIn (bit + 1) block (bit + 1) block × LiesIn (bit + 1) (h / 2) (other_bit + 1) other_block
apart_held bit block other_bit other_block h lt e = (
  (let r : bit + 1 ≤ bit + 1 = omega arith in (r, lies_itself (bit + 1) block)),
  (let r : other_bit + 1 ≤ bit + 1 = omega arith in (r, lies_half bit (other_bit + 1) other_block (omega arith) ∙ ap (λ n. n / 2) (sym e))),
)

-- the block in which it lies still fits
pub lies_fits : (size a s b : ℕ) → LiesIn size a s b → Fits s b → Fits size a
lies_fits size a s b l fits =
    let d = size - s in
    let e : s + d ≡ size = let le = l.0 in omega (arith, le) in
    let p : 2 ^ size ≡ 2 ^ s * 2 ^ d = ap (λ n. 2 ^ n) (sym e) ∙ pow-add 2 s d in
    let q : b / 2 ^ d * 2 ^ d ≤ b = div-mul-le_self b (2 ^ d) in
    let times : (b / 2 ^ d * 2 ^ d) * 2 ^ s ≤ b * 2 ^ s = mul-le-mul_right (2 ^ s) q in
    let least : b / 2 ^ d * 2 ^ size < 2 ^ 32 = rw p (omega (arith, times, fits)) in
    subst (λ c. c * 2 ^ size < 2 ^ 32) l.1 least

module _ {V : Type 0} where
  pub inside_wider : (s d b : ℕ) (n : Node V) → Inside s b n → Inside (s + d) (b / 2 ^ d) n
  inside_wider s d b n h k ne = h k (λ e. ne (sym (shr-shr k s d) ∙ ap (λ q. q / 2 ^ d) e))

  -- a tree is in each block in which its own block lies
  pub inside_in : (size a s b : ℕ) (n : Node V) → LiesIn size a s b → Inside s b n → Inside size a n
  inside_in size a s b n l h =
      let e : s + (size - s) ≡ size = let le = l.0 in omega (arith, le) in
      subst (λ c. Inside size c n) l.1 (subst (λ t. Inside t (b / 2 ^ (size - s)) n) e (inside_wider s (size - s) b n h))

  pub inside_joins : (f : V → V → V) (s b : ℕ) (x y t : Node V) → Inside s b x → Inside s b y → Joins f x y t → Inside s b t
  inside_joins f s b x y t hx hy j k ne =
      let nx : at x k ≡ None = hx k ne in
      let ny : at y k ≡ None = hy k ne in
      j k ∙ rw (nx, ny) refl

  either_none : (f : V → V → V) (o : Option V) → either f None o ≡ o
  either_none f None = refl
  either_none f (Some v) = refl

  newer_either : (f : V → V → V) (w : V) (o : Option V) → Some (with_newer f w o) ≡ either f (Some w) o
  newer_either f w None = refl
  newer_either f w (Some v) = refl

  -- one key, joined with a tree
  pub leaf_joins : (f : V → V → V) (x y t : Node V) (key : ℕ) (w u : V) → x ≡ Leaf key w → u ≡ with_newer f w (at y key) → Sets key u y t → Joins f x y t
  leaf_joins f x y t key w u i j s k = s k ∙ same_or_not k key
      (λ e r. rw (i, e) (ap Some j ∙ newer_either f w (at y key) ∙ ap (λ m. either f (Some w) (at y m)) (sym r)))
      (λ e r. rw (i, e) (sym (either_none f (at y k))))

  -- two trees of different blocks
  pub joins_apart : (f : V → V → V) (s a b : ℕ) (x y t : Node V) → Inside s a x → Inside s b y → (a ≡ b → ⊥) → ((k : ℕ) → at t k ≡ one_of (at x k) (at y k)) → Joins f x y t
  joins_apart f s a b x y t hx hy ne h k = h k ∙ same_or_not (k / 2 ^ s) a
      (λ e i. let none : at y k ≡ None = hy k (λ j. ne (sym i ∙ j)) in rw none (one_none (at x k)))
      (λ e i. let none : at x k ≡ None = hx k i in rw none (sym (either_none f (at y k))))

  -- two trees of one block, half by half
  pub joins_both : (f : V → V → V) (bit block : ℕ) (low high low2 high2 low' high' x y n : Node V) → IsBranch bit block low high x → IsBranch bit block low2 high2 y → IsBranch bit block low' high' n → IsTree x → IsTree y → IsTree low' → IsTree high' → Joins f low low2 low' → Joins f high high2 high' → IsTree n × Joins f x y n
  joins_both f bit block low high low2 high2 low' high' x y n ex ey en tx ty tl th jl jh = (tree, joins)
    where
      h : Halves bit block low high
      h = (parts_of bit block low high x ex tx).0

      i : Halves bit block low2 high2
      i = (parts_of bit block low2 high2 y ey ty).0

      tree : IsTree n
      tree = over IsTree bit block low' high' n en (λ p q. (record { bit_fits = h.bit_fits; fits = h.fits; low_in = inside_joins f bit (2 * block) low low2 low' h.low_in i.low_in jl; high_in = inside_joins f bit (2 * block + 1) high high2 high' h.high_in i.high_in jh }, tl, th))

      joins : Joins f x y n
      joins k = over (λ a. at n k ≡ either f (at a k) (at y k)) bit block low high x ex (λ p q. over (λ b. at n k ≡ either f (at (Branch' bit block p low q high) k) (at b k)) bit block low2 high2 y ey (λ p2 q2. over (λ m. at m k ≡ either f (at (Branch' bit block p low q high) k) (at (Branch' bit block p2 low2 q2 high2) k)) bit block low' high' n en (λ p' q'. parity (k / 2 ^ bit) (λ e r. rw e (jl k)) (λ e r. rw e (jh k)))))

  -- a tree whose keys are in one half of the other
  pub joins_low : (f : V → V → V) (bit block : ℕ) (low high low' x y n : Node V) → IsBranch bit block low high x → IsBranch bit block low' high n → IsTree x → Inside bit (2 * block) y → IsTree low' → Joins f low y low' → IsTree n × Joins f x y n
  joins_low f bit block low high low' x y n ex en tx iy tl j = (tree, joins)
    where
      parts : Halves bit block low high × IsTree low × IsTree high
      parts = parts_of bit block low high x ex tx

      tree : IsTree n
      tree = over IsTree bit block low' high n en (λ p q. (record { bit_fits = parts.0.bit_fits; fits = parts.0.fits; low_in = inside_joins f bit (2 * block) low y low' parts.0.low_in iy j; high_in = parts.0.high_in }, tl, parts.2))

      joins : Joins f x y n
      joins k = over (λ a. at n k ≡ either f (at a k) (at y k)) bit block low high x ex (λ p q. over (λ m. at m k ≡ either f (at (Branch' bit block p low q high) k) (at y k)) bit block low' high n en (λ p' q'. parity (k / 2 ^ bit)
          (λ e r. rw e (j k))
          (λ e r. let none : at y k ≡ None = iy k (λ s. absurd (omega arith)) in rw (e, none) refl)))

  pub joins_high : (f : V → V → V) (bit block : ℕ) (low high high' x y n : Node V) → IsBranch bit block low high x → IsBranch bit block low high' n → IsTree x → Inside bit (2 * block + 1) y → IsTree high' → Joins f high y high' → IsTree n × Joins f x y n
  joins_high f bit block low high high' x y n ex en tx iy th j = (tree, joins)
    where
      parts : Halves bit block low high × IsTree low × IsTree high
      parts = parts_of bit block low high x ex tx

      tree : IsTree n
      tree = over IsTree bit block low high' n en (λ p q. (record { bit_fits = parts.0.bit_fits; fits = parts.0.fits; low_in = parts.0.low_in; high_in = inside_joins f bit (2 * block + 1) high y high' parts.0.high_in iy j }, parts.1, th))

      joins : Joins f x y n
      joins k = over (λ a. at n k ≡ either f (at a k) (at y k)) bit block low high x ex (λ p q. over (λ m. at m k ≡ either f (at (Branch' bit block p low q high) k) (at y k)) bit block low high' n en (λ p' q'. parity (k / 2 ^ bit)
          (λ e r. let none : at y k ≡ None = iy k (λ s. absurd (omega arith)) in rw (e, none) refl)
          (λ e r. rw e (j k))))

  -- the other way round
  pub joins_under_low : (f : V → V → V) (bit block : ℕ) (low high low' x y n : Node V) → IsBranch bit block low high y → IsBranch bit block low' high n → IsTree y → Inside bit (2 * block) x → IsTree low' → Joins f x low low' → IsTree n × Joins f x y n
  joins_under_low f bit block low high low' x y n ey en ty ix tl j = (tree, joins)
    where
      parts : Halves bit block low high × IsTree low × IsTree high
      parts = parts_of bit block low high y ey ty

      tree : IsTree n
      tree = over IsTree bit block low' high n en (λ p q. (record { bit_fits = parts.0.bit_fits; fits = parts.0.fits; low_in = inside_joins f bit (2 * block) x low low' ix parts.0.low_in j; high_in = parts.0.high_in }, tl, parts.2))

      joins : Joins f x y n
      joins k = over (λ a. at n k ≡ either f (at x k) (at a k)) bit block low high y ey (λ p q. over (λ m. at m k ≡ either f (at x k) (at (Branch' bit block p low q high) k)) bit block low' high n en (λ p' q'. parity (k / 2 ^ bit)
          (λ e r. rw e (j k))
          (λ e r. let none : at x k ≡ None = ix k (λ s. absurd (omega arith)) in rw (e, none) (sym (either_none f (at high k))))))

  pub joins_under_high : (f : V → V → V) (bit block : ℕ) (low high high' x y n : Node V) → IsBranch bit block low high y → IsBranch bit block low high' n → IsTree y → Inside bit (2 * block + 1) x → IsTree high' → Joins f x high high' → IsTree n × Joins f x y n
  joins_under_high f bit block low high high' x y n ey en ty ix th j = (tree, joins)
    where
      parts : Halves bit block low high × IsTree low × IsTree high
      parts = parts_of bit block low high y ey ty

      tree : IsTree n
      tree = over IsTree bit block low high' n en (λ p q. (record { bit_fits = parts.0.bit_fits; fits = parts.0.fits; low_in = parts.0.low_in; high_in = inside_joins f bit (2 * block + 1) x high high' ix parts.0.high_in j }, parts.1, th))

      joins : Joins f x y n
      joins k = over (λ a. at n k ≡ either f (at x k) (at a k)) bit block low high y ey (λ p q. over (λ m. at m k ≡ either f (at x k) (at (Branch' bit block p low q high) k)) bit block low high' n en (λ p' q'. parity (k / 2 ^ bit)
          (λ e r. let none : at x k ≡ None = ix k (λ s. absurd (omega arith)) in rw (e, none) (sym (either_none f (at low k))))
          (λ e r. rw e (j k))))
