-- Arguments and items one at a time, and lists changed in place.
use Rattle.std.proofs.Common.{◌≡◌, ℕ, zero, suc, ◌+◌, ◌<◌, List, [], ◌∷◌, ◌++◌, map, take, drop, set, length, get_or, Option, refl, ap, ◌∙◌, drop-cons, add-one, arith}
use Rattle.verify.specs.declared.kinds.Kind.{Kind}
use Rattle.verify.specs.declared.setting.Setting.{Setting}
use Rattle.verify.specs.Demands.{lower, unless}
use Rattle.verify.specs.Fits.{fits_item}
use Rattle.verify.specs.Frames.{kind_at}
use Rattle.verify.specs.Reads.{refused_argument, behind, refused_from, refused_items_from}

-- one more type is passed
pub refused_on : (s : Setting) (ks : List Kind) (so r : Option ℕ) (types rs : List ℕ) (i t : ℕ) → i < length types → t ≡ get_or types i 0 → refused_from s ks so (drop i types) rs ≡ r → refused_from s ks (lower so (refused_argument s ks t rs)) (drop (i + 1) types) (behind s t rs) ≡ r
refused_on s ks so r types rs i t lt e inv =
    let d : drop i types ≡ get_or types i 0 ∷ drop (suc i) types = drop-cons types i 0 lt in
    let v : refused_from s ks so (get_or types i 0 ∷ drop (suc i) types) rs ≡ r = rw d at inv in
    rw (add-one, e) v

-- one more register is an item
pub items_on : (s : Setting) (ks : List Kind) (so r : Option ℕ) (type : ℕ) (rs : List ℕ) (i q : ℕ) → i < length rs → q ≡ get_or rs i 0 → refused_items_from s ks so type (drop i rs) ≡ r → refused_items_from s ks (lower so (unless (fits_item s.tables.now (kind_at ks q) type) q)) type (drop (i + 1) rs) ≡ r
items_on s ks so r type rs i q lt e inv =
    let d : drop i rs ≡ get_or rs i 0 ∷ drop (suc i) rs = drop-cons rs i 0 lt in
    let v : refused_items_from s ks so type (get_or rs i 0 ∷ drop (suc i) rs) ≡ r = rw d at inv in
    rw (add-one, e) v

-- the item that is changed next is as it was
pub get_map : {X : Type 0} (f : X → X) (xs : List X) (i : ℕ) (d : X) → i < length xs → get_or (map f (take i xs) ++ drop i xs) i d ≡ get_or xs i d
get_map f [] i d lt = absurd (omega arith)
get_map f (x ∷ xs) zero d lt = refl
get_map f (x ∷ xs) (suc i) d lt = get_map f xs i d (omega arith)

-- one more item is changed
pub set_map : {X : Type 0} (f : X → X) (xs : List X) (i : ℕ) (d : X) → i < length xs → set (map f (take i xs) ++ drop i xs) i (f (get_or xs i d)) ≡ map f (take (suc i) xs) ++ drop (suc i) xs
set_map f [] i d lt = absurd (omega arith)
set_map f (x ∷ xs) zero d lt = refl
set_map f (x ∷ xs) (suc i) d lt = ap (λ t. f x ∷ t) (set_map f xs i d (omega arith))

-- the list with one more item changed
pub map_on : {X : Type 0} (f : X → X) (xs ys : List X) (i : ℕ) (v d : X) → i < length xs → ys ≡ map f (take i xs) ++ drop i xs → v ≡ f (get_or ys i d) → set ys i v ≡ map f (take (i + 1) xs) ++ drop (i + 1) xs
map_on f xs ys i v d lt e q =
    let g : get_or ys i d ≡ get_or xs i d = rw e (get_map f xs i d lt) in
    let v' : v ≡ f (get_or xs i d) = q ∙ ap f g in
    rw (e, v', add-one) (set_map f xs i d lt)
