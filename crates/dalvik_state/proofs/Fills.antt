-- Arrays that are filled item by item.
use Rattle.std.proofs.Common.{◌≡◌, ℕ, zero, suc, ◌+◌, ◌<◌, ◌≤◌, List, [], ◌∷◌, ◌++◌, length, take, drop, map, arith, ap, refl, sym, ◌∙◌}
use Rattle.std.specs.Prelude.{slice_set, slice_index_or}
use Rattle.insn_set.specs.declared.ops.Item.{Item}
use Rattle.dalvik_state.specs.declared.datum.Datum.{Datum}
use Rattle.dalvik_state.specs.Frames.{fill_in, filled_in}

one_more : (i : Item) (ns : List ℕ) (ds : List Datum) (k : ℕ) → k < length ns → slice_set (fill_in i (take k ns) ds) k (filled_in i (slice_index_or ns k 0)) ≡ fill_in i (take (suc k) ns) ds
one_more i [] ds k h = absurd (omega arith)
one_more i (n ∷ ns) [] zero h = refl
one_more i (n ∷ ns) [] (suc k) h = refl
one_more i (n ∷ ns) (d ∷ ds) zero h = refl
one_more i (n ∷ ns) (d ∷ ds) (suc k) h = ap (λ (es : List Datum). filled_in i n ∷ es) (one_more i ns ds k (omega arith))

-- one more item is filled
pub fill_more : (i : Item) (ns : List ℕ) (ds : List Datum) (k : ℕ) → k < length ns → slice_set (fill_in i (take k ns) ds) k (filled_in i (slice_index_or ns k 0)) ≡ fill_in i (take (k + 1) ns) ds
fill_more i ns ds k h = let e : suc k ≡ k + 1 = omega arith in one_more i ns ds k h ∙ ap (λ (j : ℕ). fill_in i (take j ns) ds) e

-- where there is room for all
pub fill_all : (i : Item) (ns : List ℕ) (ds : List Datum) → length ns ≤ length ds → fill_in i ns ds ≡ map (filled_in i) ns ++ drop (length ns) ds
fill_all i [] ds h = refl
fill_all i (n ∷ ns) [] h = absurd (omega arith)
fill_all i (n ∷ ns) (d ∷ ds) h = ap (λ (es : List Datum). filled_in i n ∷ es) (fill_all i ns ds (omega arith))
