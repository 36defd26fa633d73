-- A parse by clap gives what the words say, and fails only where they say nothing.
use Rattle.std.proofs.Common.{◌≡◌, ◌≢◌, ◌==◌, ◌+◌, ℕ, Bool, true, false, cond, List, [], ◌∷◌, ◌++◌, map, length, Option, Some, None, option_map, option_and_then, codes, bytes_eq, inl, inr, IfSome, Result, Ok, Err, refl, sym, ap, subst, ◌∙◌, arith}
use Rattle.std.specs.Prelude.{◌&&◌, ◌||◌, ◌⊎◌, not, if◌then◌else◌}
use Rattle.std.specs.List.{filter_map, list_all}
use Rattle.clap.specs.Kinds.{FailsBy, HasKind, IsAmong, Kinds}
use Rattle.clap.specs.Faults.{fault_of, is_simple_and_free}
use Rattle.clap.specs.Simple.{is_simple, matches_of}
use Rattle.clap.specs.Values.{kind_of}
use Rattle.clap.specs.Walk.{Row, Text}
use Rattle.clap.specs.declared.error.Error.{Error}
use Rattle.clap.specs.declared.error.kind.ErrorKind.{ErrorKind}
use Rattle.clap.specs.declared.error.kind.ErrorKind.TheVariants as kind
use Rattle.command_line.specs.declared.command.Tell.{Tell}
use Rattle.command_line.specs.declared.command.Tell.TheVariants as tell
use Rattle.command_line.specs.declared.sorted.Sorted.{Sorted}
use Rattle.command_line.specs.Spelling.{Valued, Spare, AtMost, Library, Piece, Plain, Advice, Inline, FromLibrary, sorted_of}
use Rattle.command_line.specs.Parsing.{Raw, plain, given, flag, Place, free, app_for, are_apt, is_full, is_whole, listed, operand_text, spare_text, at_most_text, library_text, inline_text, raws_from, IsParsed}
use Rattle.command_line.specs.Reading.{full_word, number_of, numbers_of, piece_of, pieces_of, piece_given, said, small}
use Rattle.command_line.proofs.Walked.{pass, run, uses_from}
use Rattle.command_line.proofs.Taken.{all_rules, operand, taken}
use Rattle.command_line.proofs.Raws.{agrees, unapt-none, uses_of, use_of}
use Rattle.command_line.proofs.Rows.{after_all, all-listed, operands, spares, at_mosts, libraries, inlines, run-is}

-- the rows of what the words say
abbrev pub rows_for : Option (List Raw) → Option (List Row)
rows_for None = None
rows_for (Some rs) = if list_all is_full rs then Some (after_all [] rs) else None

run-rows : (o : Option (List Raw)) → run false [] (uses_of o) ≡ rows_for o
run-rows None = refl
run-rows (Some rs) = run-is rs []

pub parse-rows : (name first : Text) (words : List Text) → are_apt words ≡ true
    → pass (fault_of (app_for name) (first ∷ words)) (Some (matches_of (app_for name) (first ∷ words))) ≡ rows_for (raws_from free words)
parse-rows name first words apt = taken name first words apt ∙ ap (run false []) (agrees words apt free) ∙ run-rows (raws_from free words)

-- ---- a parse that succeeds

rows-parsed : (words : List Text) (rows : List Row) (o : Option (List Raw)) → raws_from free words ≡ o → Some rows ≡ rows_for o → IsParsed words rows
rows-parsed words rows None is h = cc
rows-parsed words rows (Some rs) is h = by_full (list_all is_full rs) refl h
  where
    by_full : (b : Bool) → list_all is_full rs ≡ b → Some rows ≡ (if b then Some (after_all [] rs) else None) → IsParsed words rows
    by_full true e k = let same : rows ≡ after_all [] rs = cc in record {
      raws = rs;
      said = is;
      full = e;
      operands = ap (listed (codes "operand")) same ∙ all-listed (codes "operand") operand_text operands rs [];
      spares = ap (listed (codes "spare")) same ∙ all-listed (codes "spare") spare_text spares rs [];
      at_mosts = ap (listed (codes "at-most")) same ∙ all-listed (codes "at-most") at_most_text at_mosts rs [];
      libraries = ap (listed (codes "library")) same ∙ all-listed (codes "library") library_text libraries rs [];
      inlines = ap (listed (codes "inline")) same ∙ all-listed (codes "inline") inline_text inlines rs [];
    }
    by_full false e k = cc

pub parsed-ok : (name first : Text) (words : List Text) → are_apt words ≡ true → fault_of (app_for name) (first ∷ words) ≡ []
    → IsParsed words (matches_of (app_for name) (first ∷ words))
parsed-ok name first words apt none =
    rows-parsed words (matches_of (app_for name) (first ∷ words)) (raws_from free words) refl
    (let p = parse-rows name first words apt in rw none at p)

-- ---- a parse that fails

whole-is : (text : Text) → is_whole text ≡ false → full_word text ≡ None
whole-is [] h = refl
whole-is (c ∷ cs) h = cc

given-none : (n : Valued) (v : Text) → is_whole v ≡ false → piece_given n v ≡ None
given-none Spare [] h = refl
given-none AtMost [] h = refl
given-none Library [] h = refl
given-none n (c ∷ cs) h = cc

raw-none : (r : Raw) → is_full r ≡ false → piece_of r ≡ None
raw-none (plain word) h = rw (whole-is word h) refl
raw-none (given n v) h = given-none n v h
raw-none flag h = cc

none-behind : (o : Option Piece) → option_and_then (λ p. option_map (λ ps. p ∷ ps) None) o ≡ None
none-behind None = refl
none-behind (Some p) = refl

unfull-none : (rs : List Raw) → list_all is_full rs ≡ false → pieces_of rs ≡ None
unfull-none [] h = cc
unfull-none (r ∷ rs) h = by_full (is_full r) refl (unfull-none rs) h
  where
    by_full : (b : Bool) → is_full r ≡ b → (list_all is_full rs ≡ false → pieces_of rs ≡ None) → (b && list_all is_full rs) ≡ false → pieces_of (r ∷ rs) ≡ None
    by_full true e rest k = rw (rest k) (none-behind (piece_of r))
    by_full false e rest k = rw (raw-none r e) refl

rows-none : (words : List Text) (o : Option (List Raw)) → raws_from free words ≡ o → None ≡ rows_for o → said words ≡ None
rows-none words None is h = rw is refl
rows-none words (Some rs) is h = by_full (list_all is_full rs) refl h
  where
    by_full : (b : Bool) → list_all is_full rs ≡ b → None ≡ (if b then Some (after_all [] rs) else None) → said words ≡ None
    by_full true e k = cc
    by_full false e k = rw is (unfull-none rs e)

among-some : (k : ErrorKind) (ks : Kinds) (rows : List Row) → IsAmong k ks → pass ks (Some rows) ≡ None
among-some k [] rows h = absurd h
among-some k (x ∷ xs) rows h = refl

pub parsed-err : (name first : Text) (words : List Text) (e : Error) → are_apt words ≡ true → HasKind (fault_of (app_for name) (first ∷ words)) e → kind_of e ≢ kind.OutOfMemory
    → said words ≡ None
parsed-err name first words e apt has other = elim has [
  | inl memory ↦ absurd (other memory)
  | inr among ↦ rows-none words (raws_from free words) refl
      (sym (among-some (kind_of e) (fault_of (app_for name) (first ∷ words)) (matches_of (app_for name) (first ∷ words)) among) ∙ parse-rows name first words apt)
]

pub unapt-said : (words : List Text) → are_apt words ≡ false → said words ≡ None
unapt-said words h = rw ((unapt-none words h).0) refl

pub simple-app : (name : Text) → is_simple (app_for name) ≡ true
simple-app name = refl

pub simple-free-app : (name : Text) → is_simple_and_free (app_for name) ≡ true
simple-free-app name = refl
