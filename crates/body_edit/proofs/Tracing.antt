-- The list of positions that are left, one after another.
use Rattle.std.proofs.Common.{◌≡◌, ℕ, suc, ◌+◌, ◌<◌, List, [], ◌∷◌, ◌++◌, map, length, get_or, drop, refl, sym, ap, ◌∙◌, append_assoc, add-one, arith}
use Rattle.std.proofs.lemmas.List.{drop_more}
use Rattle.program_model.specs.declared.pass.Origin.{Origin}
use Rattle.pass_defs.specs.Thinned.{origins_from}
use Rattle.body_edit.specs.Fates.{fate_of, fates_of, origin_in, origin_at}
use Rattle.body_edit.specs.declared.fate.Fate.{Fate}
use Rattle.body_edit.specs.declared.fate.Fate.TheVariants as fate

module _ (m : ℕ) where
  one_more : (i : ℕ) (f : Fate) (fs : List Fate) → map (origin_in m) (origins_from i (fates_of (f ∷ fs))) ≡ origin_at m i (fate_of f) ++ map (origin_in m) (origins_from (suc i) (fates_of fs))
  one_more i fate.Stays fs = refl
  one_more i fate.Empties fs = refl
  one_more i fate.Goes fs = refl

  pub traced_more : (os ps qs : List Origin) (fs : List Fate) (i : ℕ) (d : Fate) → i < length fs → os ++ map (origin_in m) (origins_from i (fates_of (drop i fs))) ≡ qs
      → ps ≡ os ++ origin_at m i (fate_of (get_or fs i d)) → ps ++ map (origin_in m) (origins_from (i + 1) (fates_of (drop (i + 1) fs))) ≡ qs
  traced_more os ps qs fs i d h e r = rw r (append_assoc os (origin_at m i (fate_of (get_or fs i d))) (map (origin_in m) (origins_from (i + 1) (fates_of (drop (i + 1) fs))))
      ∙ ap (λ l. os ++ l) (ap (λ n. origin_at m i (fate_of (get_or fs i d)) ++ map (origin_in m) (origins_from n (fates_of (drop (i + 1) fs)))) (add-one i) ∙ sym (one_more i (get_or fs i d) (drop (i + 1) fs))
      ∙ ap (λ l. map (origin_in m) (origins_from i (fates_of l))) (sym (drop_more fs i d h))) ∙ e)
