-- The table of first letters says what the types' texts say.
use Rattle.std.proofs.Common.{◌≡◌, ◌≤◌, ℕ, zero, suc, List, [], ◌∷◌, length, map, get_or, slice_get, refl, sym, ap, ◌∙◌}
use Rattle.std.proofs.lemmas.List.{get_or_past}
use Rattle.program_model.specs.Texts.{first_unit, string_text, text_or_none, type_text, letter_of}
use Rattle.program_model.specs.declared.program.Program.{Program}
use Rattle.dex_read.specs.Tables.{letters_in}

letter_in : (p : Program) (ts : List ℕ) (k : ℕ) → get_or (map (λ s. first_unit (string_text p s)) ts) k 0 ≡ first_unit (text_or_none p (slice_get ts k))
letter_in p [] k = refl
letter_in p (t ∷ ts) zero = refl
letter_in p (t ∷ ts) (suc k) = letter_in p ts k

pub letter_is : (p : Program) (letters : List ℕ) (kind : ℕ) → letters ≡ letters_in p → get_or letters kind 0 ≡ letter_of p kind
unfolding letter_of type_text
letter_is p letters kind e = ap (λ (xs : List ℕ). get_or xs kind 0) e ∙ letter_in p p.types kind

pub letter_past : (p : Program) (letters : List ℕ) (kind : ℕ) → letters ≡ letters_in p → length letters ≤ kind → letter_of p kind ≡ 0
letter_past p letters kind e le = sym (letter_is p letters kind e) ∙ get_or_past letters kind 0 le
