-- What clap lists under a name.
use Rattle.std.proofs.Common.{◌≡◌, List, [], map, Option, Some, None, option_map, bytes_eq, refl, sym, ap, ◌∙◌, Bor, ℕ}
use Rattle.std.specs.Prelude.{find}
use Rattle.clap.specs.Matches.{matched_of, raw_values}
use Rattle.clap.specs.Walk.{Row, Text, all_of, rows_of}
use Rattle.clap.specs.declared.parser.matches.Found.{Found}
use Rattle.clap.proofs.WalkLemmas.{raw_values-rows}
use Rattle.command_line.specs.Parsing.{listed}

of_all : (id : Text) (rows : List Row) (o : Option (List Text)) → all_of id rows ≡ o → (texts : List Text) → o ≡ Some texts → listed id rows ≡ texts
of_all id rows o is texts some = by_row (find (λ r. bytes_eq r.id id) rows) refl
  where
    by_row : (r : Option Row) → find (λ r. bytes_eq r.id id) rows ≡ r → listed id rows ≡ texts
    by_row None e = let bad : None ≡ Some texts = sym (rw e refl) ∙ is ∙ some in cc
    by_row (Some row) e = let same : Some row.values ≡ Some texts = sym (rw e refl) ∙ is ∙ some in rw e cc

of_none : (id : Text) (rows : List Row) → all_of id rows ≡ None → listed id rows ≡ []
of_none id rows is = by_row (find (λ r. bytes_eq r.id id) rows) refl
  where
    by_row : (r : Option Row) → find (λ r. bytes_eq r.id id) rows ≡ r → listed id rows ≡ []
    by_row None e = rw e refl
    by_row (Some row) e = let bad : Some row.values ≡ None = sym (rw e refl) ∙ is in cc

pub listed_some : (f : Found) (id : Text) (r : Option (Bor (List (Bor Text)))) (texts : Bor (List (Bor Text)))
    → option_map (λ s. map (λ v. v.now) s.now) r ≡ option_map raw_values (matched_of f id) → r ≡ Some texts → listed id (rows_of f) ≡ map (λ v. v.now) texts.now
listed_some f id r texts gives is =
    of_all id (rows_of f) (Some (map (λ v. v.now) texts.now)) (sym (raw_values-rows f id) ∙ sym gives ∙ ap (option_map (λ s. map (λ v. v.now) s.now)) is) (map (λ v. v.now) texts.now) refl

pub listed_none : (f : Found) (id : Text) (r : Option (Bor (List (Bor Text)))) → option_map (λ s. map (λ v. v.now) s.now) r ≡ option_map raw_values (matched_of f id) → r ≡ None → listed id (rows_of f) ≡ []
listed_none f id r gives is = of_none id (rows_of f) (sym (raw_values-rows f id) ∙ sym gives ∙ ap (option_map (λ s. map (λ v. v.now) s.now)) is)
