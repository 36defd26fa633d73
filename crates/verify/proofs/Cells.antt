-- Cells that are raised one at a time.
use Rattle.std.proofs.Common.{◌≡◌, ℕ, zero, suc, ◌+◌, ◌<◌, ◌≤◌, Bool, true, false, ◌||◌, List, [], ◌∷◌, take, set, min, length, get_or, refl, sym, ap, ◌∙◌, add-one, arith}
use Rattle.verify.specs.declared.kinds.Kind.{Kind}
use Rattle.verify.specs.declared.tables.Tables.{Tables}
use Rattle.verify.specs.Flow.{rises, raised, raised_all, rises_any}
use Rattle.verify.proofs.Raises.{raised_all_long}

cell_at : (t : Tables) (ks os : List Kind) (i : ℕ) (d : Kind) → i < length os → get_or (raised_all t (take i ks) os) i d ≡ get_or os i d
cell_at t ks [] i d lt = absurd (omega arith)
cell_at t ks (o ∷ os) zero d lt = refl
cell_at t [] (o ∷ os) (suc i) d lt = refl
cell_at t (k ∷ ks) (o ∷ os) (suc i) d lt = cell_at t ks os i d (omega arith)

set_cell : (t : Tables) (ks os : List Kind) (i : ℕ) (d : Kind) → i < length ks → i < length os → set (raised_all t (take i ks) os) i (raised t (get_or ks i d) (get_or os i d)) ≡ raised_all t (take (suc i) ks) os
set_cell t [] os i d lt le = absurd (omega arith)
set_cell t (k ∷ ks) [] i d lt le = absurd (omega arith)
set_cell t (k ∷ []) (o ∷ os) zero d lt le = refl
set_cell t (k ∷ k' ∷ ks) (o ∷ []) zero d lt le = refl
set_cell t (k ∷ k' ∷ ks) (o ∷ o' ∷ os) zero d lt le = refl
set_cell t (k ∷ ks) (o ∷ os) (suc i) d lt le = ap (λ x. raised t k o ∷ x) (set_cell t ks os i d (omega arith) (omega arith))

or_group : (a b c : Bool) → (a || (b || c)) ≡ ((a || b) || c)
or_group true b c = refl
or_group false b c = refl

or_false : (a : Bool) → (a || false) ≡ a
or_false true = refl
or_false false = refl

any_cell : (t : Tables) (ks os : List Kind) (i : ℕ) (d : Kind) → i < length ks → i < length os → (rises_any t (take i ks) os || rises t (get_or ks i d) (get_or os i d)) ≡ rises_any t (take (suc i) ks) os
any_cell t [] os i d lt le = absurd (omega arith)
any_cell t (k ∷ ks) [] i d lt le = absurd (omega arith)
any_cell t (k ∷ ks) (o ∷ os) zero d lt le = sym (or_false (rises t k o))
any_cell t (k ∷ ks) (o ∷ os) (suc i) d lt le = sym (or_group (rises t k o) (rises_any t (take i ks) os) (rises t (get_or ks i d) (get_or os i d))) ∙ ap (λ x. rises t k o || x) (any_cell t ks os i d (omega arith) (omega arith))

all_cells : (t : Tables) (ks os : List Kind) (n : ℕ) → min (length os) (length ks) ≤ n → raised_all t (take n ks) os ≡ raised_all t ks os
all_cells t [] [] zero le = refl
all_cells t [] (o ∷ os) zero le = refl
all_cells t (k ∷ ks) [] zero le = refl
all_cells t (k ∷ ks) (o ∷ os) zero le = absurd (omega arith)
all_cells t [] os (suc n) le = refl
all_cells t (k ∷ ks) [] (suc n) le = refl
all_cells t (k ∷ ks) (o ∷ os) (suc n) le = ap (λ x. raised t k o ∷ x) (all_cells t ks os n (omega arith))

any_cells : (t : Tables) (ks os : List Kind) (n : ℕ) → min (length os) (length ks) ≤ n → rises_any t (take n ks) os ≡ rises_any t ks os
any_cells t [] [] zero le = refl
any_cells t [] (o ∷ os) zero le = refl
any_cells t (k ∷ ks) [] zero le = refl
any_cells t (k ∷ ks) (o ∷ os) zero le = absurd (omega arith)
any_cells t [] os (suc n) le = refl
any_cells t (k ∷ ks) [] (suc n) le = refl
any_cells t (k ∷ ks) (o ∷ os) (suc n) le = ap (λ x. rises t k o || x) (any_cells t ks os n (omega arith))

-- one more cell is raised
pub cells_on : (t : Tables) (ks os cells : List Kind) (i : ℕ) (d k c : Kind) → i < length ks → i < length os → cells ≡ raised_all t (take i ks) os → k ≡ get_or ks i d → c ≡ get_or cells i d → set cells i (raised t k c) ≡ raised_all t (take (i + 1) ks) os
cells_on t ks os cells i d k c lt le e p q =
    let q' : c ≡ get_or os i d = q ∙ ap (λ x. get_or x i d) e ∙ cell_at t ks os i d le in
    rw (e, p, q', add-one) (set_cell t ks os i d lt le)

pub rose_on : (t : Tables) (ks os cells : List Kind) (i : ℕ) (d k c : Kind) (rose : Bool) → i < length ks → i < length os → cells ≡ raised_all t (take i ks) os → rose ≡ rises_any t (take i ks) os → k ≡ get_or ks i d → c ≡ get_or cells i d → (rose || rises t k c) ≡ rises_any t (take (i + 1) ks) os
rose_on t ks os cells i d k c rose lt le e r p q =
    let q' : c ≡ get_or os i d = q ∙ ap (λ x. get_or x i d) e ∙ cell_at t ks os i d le in
    rw (r, p, q', add-one) (any_cell t ks os i d lt le)

pub cells_end : (t : Tables) (ks os cells : List Kind) (n : ℕ) → min (length os) (length ks) ≤ n → cells ≡ raised_all t (take n ks) os → cells ≡ raised_all t ks os
cells_end t ks os cells n le e = e ∙ all_cells t ks os n le

pub rose_end : (t : Tables) (ks os : List Kind) (rose : Bool) (n : ℕ) → min (length os) (length ks) ≤ n → rose ≡ rises_any t (take n ks) os → rose ≡ rises_any t ks os
rose_end t ks os rose n le e = e ∙ any_cells t ks os n le

pub cells_long : (t : Tables) (ks os cells : List Kind) → cells ≡ raised_all t ks os → length cells ≡ length os
cells_long t ks os cells e = ap length e ∙ raised_all_long t ks os
