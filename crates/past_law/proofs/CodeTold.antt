-- Lists of different things, told apart by one of the numbers that name them.
use Rattle.std.proofs.Common.{◌≡◌, ◌≤◌, ◌<◌, ℕ, zero, suc, ◌+◌, ◌*◌, List, [], ◌∷◌, arith}
use Rattle.dex_base.specs.Decides.{Each}
use Rattle.past_law.specs.Told.{Told}
use Rattle.past_law.proofs.Told.{none, together, wider, fewer, one}

-- ---- things

pub renamed : {Is In Out : List ℕ → Type 0} {n : ℕ} (m : ℕ) → Told Is In n → ((way : List ℕ) → In way → Out way) → m ≤ n → Told Is Out m
renamed m t to enough = fewer m (wider t to) enough

pub join : {Is In Other Out : List ℕ → Type 0} {n m : ℕ} (total : ℕ) → Told Is In n → Told Is Other m → ((way : List ℕ) → In way → Other way → ⊥) → ((way : List ℕ) → In way → Out way) → ((way : List ℕ) → Other way → Out way) → total ≤ n + m
    → Told Is Out total
join total a b apart left right enough = fewer total (together a b apart left right) enough

-- ---- things by a number of theirs

abbrev pub total : List ℕ → ℕ
total [] = 0
total (n ∷ ns) = n + total ns

abbrev pub WithKey : (List ℕ → Type 0) → (List ℕ → ℕ) → ℕ → List ℕ → Type 0
WithKey In key k way = In way × (key way ≡ k)

abbrev pub FromKey : (List ℕ → Type 0) → (List ℕ → ℕ) → ℕ → List ℕ → Type 0
FromKey In key k way = In way × (k ≤ key way)

pub first_key : {Is : List ℕ → Type 0} (In : List ℕ → Type 0) (key : List ℕ → ℕ) (k n m sum : ℕ) → Told Is (WithKey In key k) n → Told Is (FromKey In key (suc k)) m → sum ≤ n + m → Told Is (FromKey In key k) sum
first_key In key k n m sum a b enough = join sum a b (λ way h g. (let is = h.1 in let low = g.1 in omega (arith, is, low))) (λ way h. (h.0, (let is = h.1 in omega (arith, is)))) (λ way h. (h.0, (let low = h.1 in omega (arith, low)))) enough

-- for each number so many things
pub piled : {Is : List ℕ → Type 0} (In : List ℕ → Type 0) (key : List ℕ → ℕ) (from : ℕ) (counts : List ℕ) → Each (λ k n. Told Is (WithKey In key k) n) from counts → Told Is (FromKey In key from) (total counts)
piled In key from [] h = none
piled In key from (n ∷ ns) h = first_key In key from n (total ns) (n + total ns) h.0 (piled In key (suc from) ns h.1) (omega arith)

no_rows : (m : ℕ) → 0 * m ≤ 0
no_rows m = grind arith

more_rows : (n m : ℕ) → suc n * m ≤ m + n * m
more_rows n m = grind arith

-- for each of so many numbers as many things
pub rows : {Is : List ℕ → Type 0} (In : List ℕ → Type 0) (key : List ℕ → ℕ) (from n m : ℕ) → ((k : ℕ) → from ≤ k → k < from + n → Told Is (WithKey In key k) m) → Told Is (FromKey In key from) (n * m)
rows In key from zero m h = fewer (0 * m) none (no_rows m)
rows In key from (suc n) m h = first_key In key from m (n * m) (suc n * m) (h from (omega arith) (omega arith)) (rows In key (suc from) n m (λ k low less. h k (omega (arith, low)) (omega (arith, less)))) (more_rows n m)

-- a thing for each of so many numbers
pub lined : {Is : List ℕ → Type 0} (In : List ℕ → Type 0) (key : List ℕ → ℕ) (name : ℕ → List ℕ) (from n : ℕ) → ((k : ℕ) → from ≤ k → k < from + n → Is (name k) × In (name k) × (key (name k) ≡ k)) → Told Is (FromKey In key from) n
lined In key name from zero h = none
lined In key name from (suc n) h = let here = h from (omega arith) (omega arith) in
    first_key In key from 1 n (suc n) (one (name from) here.0 (here.1, here.2)) (lined In key name (suc from) n (λ k low less. h k (omega (arith, low)) (omega (arith, less)))) (omega arith)
