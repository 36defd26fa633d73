-- Methods that numbers name lose their marks.
use Rattle.std.proofs.Common.{◌≡◌, ℕ, ◌+◌, ◌<◌, Bool, true, false, List, [], ◌∷◌, length, take, slice_index, Option, refl, sym, ap, ◌∙◌}
use Rattle.std.specs.Prelude.{◌&&◌, ◌||◌, not}
use Rattle.std.specs.List.{list_any}
use Rattle.std.proofs.lemmas.List.{take_more}
use Rattle.std.proofs.lemmas.List.Folds.{list_any-append}
use Rattle.class_defs.specs.Finding.{resolves_method}
use Rattle.program_model.specs.declared.program.Program.{Program}
use Rattle.loose_methods.specs.Loose.{is_this, names_it, named_by}

pub named_more : (p : Program) (n : ℕ) (xs : List ℕ) (i : ℕ) (old now new : Bool) (named : Option ℕ) → i < length xs → named ≡ named_by p (slice_index xs i) (resolves_method p (slice_index xs i))
    → now ≡ (old && not (list_any (names_it p n) (take i xs))) → new ≡ (now && not (is_this n named)) → new ≡ (old && not (list_any (names_it p n) (take (i + 1) xs)))
named_more p n xs i old now new named lt e f g =
    g ∙ ap (λ b. b && not (is_this n named)) f ∙ ap (λ o. (old && not (list_any (names_it p n) (take i xs))) && not (is_this n o)) e
    ∙ by old (list_any (names_it p n) (take i xs)) (names_it p n (slice_index xs i))
    ∙ ap (λ b. old && not b) (sym (list_any-append (names_it p n) (take i xs) (slice_index xs i ∷ [])) ∙ ap (list_any (names_it p n)) (sym (take_more xs i 0 lt)))
  where
    by : (a b d : Bool) → ((a && not b) && not d) ≡ (a && not (b || (d || false)))
    by true true d = refl
    by true false true = refl
    by true false false = refl
    by false b d = refl

pub named_none : (old : Bool) → old ≡ (old && true)
named_none true = refl
named_none false = refl
