-- What the rows of a parse list.
use Rattle.std.proofs.Common.{◌≡◌, ℕ, Bool, true, false, cond, List, [], ◌∷◌, ◌++◌, map, Option, Some, None, option_map, codes, bytes_eq, refl, sym, ap, subst, ◌∙◌, arith, append-nil, append_assoc, length, nat_lt, lt-ltb}
use Rattle.std.specs.Prelude.{◌&&◌, ◌||◌, not, find, if◌then◌else◌}
use Rattle.std.specs.List.{cons_option, filter_map, list_all}
use Rattle.std.specs.Option.{option_map_or, option_to_list}
use Rattle.std.proofs.lemmas.Slice.Eq.{bytes_eq-Decides}
use Rattle.clap.specs.declared.builder.value_parser.Reading.{Reading}
use Rattle.clap.specs.declared.parser.matches.ValueSource.{ValueSource}
use Rattle.clap.specs.Walk.{Row, Rule, Text, with_values, used}
use Rattle.clap.specs.Faults.{use_fault}
use Rattle.command_line.specs.Spelling.{Valued, Spare, AtMost, Library}
use Rattle.command_line.specs.Parsing.{Raw, plain, given, flag, listed, operand_text, spare_text, at_most_text, library_text, inline_text, is_whole, is_full}
use Rattle.command_line.proofs.Walked.{Use, pass, run_all}
use Rattle.command_line.proofs.Raws.{use_of, rule_for}

self : (x : Text) → bytes_eq x x ≡ true
self x = (bytes_eq-Decides x x).1 refl

same : (x y : Text) → bytes_eq x y ≡ true → x ≡ y
same x y e = (bytes_eq-Decides x y).0 e

listed-same : (id : Text) (how : Reading) (s : ValueSource) (values : List Text) (rows : List Row) → listed id (with_values id how s values rows) ≡ listed id rows ++ values
listed-same id how s values [] = rw (self id) refl
listed-same id how s values (r ∷ rows) = by_id (bytes_eq r.id id) refl (listed-same id how s values rows)
  where
    by_id : (b : Bool) → bytes_eq r.id id ≡ b → listed id (with_values id how s values rows) ≡ listed id rows ++ values
        → listed id (with_values id how s values (r ∷ rows)) ≡ listed id (r ∷ rows) ++ values
    by_id true e behind = rw (e, e) refl
    by_id false e behind = rw (e, e) behind

listed-other : (id other : Text) (how : Reading) (s : ValueSource) (values : List Text) (rows : List Row) → bytes_eq id other ≡ false
    → listed other (with_values id how s values rows) ≡ listed other rows
listed-other id other how s values [] apart = rw apart refl
listed-other id other how s values (r ∷ rows) apart = by_ids (bytes_eq r.id id) (bytes_eq r.id other) refl refl (listed-other id other how s values rows apart)
  where
    by_ids : (b d : Bool) → bytes_eq r.id id ≡ b → bytes_eq r.id other ≡ d → listed other (with_values id how s values rows) ≡ listed other rows
        → listed other (with_values id how s values (r ∷ rows)) ≡ listed other (r ∷ rows)
    by_ids true true e f behind = let both : bytes_eq id other ≡ true = rw (← same r.id id e) f in cc
    by_ids true false e f behind = rw (e, f) refl
    by_ids false true e f behind = rw (e, f) refl
    by_ids false false e f behind = rw (e, f) behind

-- what a raw says of a kind, listed under the kind's name
pub record IsListed (id : Text) (text : Raw → Option Text) : Type 0 where
  pub word : (w : Text) (rows : List Row) → listed id (used (use_of (plain w)).0 (use_of (plain w)).1 rows) ≡ listed id rows ++ option_to_list (text (plain w))
  pub value : (n : Valued) (v : Text) (rows : List Row) → listed id (used (use_of (given n v)).0 (use_of (given n v)).1 rows) ≡ listed id rows ++ option_to_list (text (given n v))
  pub flags : (rows : List Row) → listed id (used (use_of flag).0 (use_of flag).1 rows) ≡ listed id rows ++ option_to_list (text flag)

kept : (id other : Text) (how : Reading) (s : ValueSource) (values : List Text) (rows : List Row) → bytes_eq id other ≡ false
    → listed other (with_values id how s values rows) ≡ listed other rows ++ []
kept id other how s values rows apart = listed-other id other how s values rows apart ∙ sym (append-nil (listed other rows))

pub operands : IsListed (codes "operand") operand_text
operands = record {
  word = λ w rows. listed-same (codes "operand") _ _ (w ∷ []) rows;
  value = λ n v rows. by_name n v rows;
  flags = λ rows. kept (codes "inline") (codes "operand") _ _ _ rows refl;
}
  where
    by_name : (n : Valued) (v : Text) (rows : List Row) → listed (codes "operand") (used (rule_for n) (v ∷ []) rows) ≡ listed (codes "operand") rows ++ option_to_list (operand_text (given n v))
    by_name Spare v rows = kept (codes "spare") (codes "operand") _ _ _ rows refl
    by_name AtMost v rows = kept (codes "at-most") (codes "operand") _ _ _ rows refl
    by_name Library v rows = kept (codes "library") (codes "operand") _ _ _ rows refl

pub spares : IsListed (codes "spare") spare_text
spares = record {
  word = λ w rows. kept (codes "operand") (codes "spare") _ _ _ rows refl;
  value = λ n v rows. by_name n v rows;
  flags = λ rows. kept (codes "inline") (codes "spare") _ _ _ rows refl;
}
  where
    by_name : (n : Valued) (v : Text) (rows : List Row) → listed (codes "spare") (used (rule_for n) (v ∷ []) rows) ≡ listed (codes "spare") rows ++ option_to_list (spare_text (given n v))
    by_name Spare v rows = listed-same (codes "spare") _ _ (v ∷ []) rows
    by_name AtMost v rows = kept (codes "at-most") (codes "spare") _ _ _ rows refl
    by_name Library v rows = kept (codes "library") (codes "spare") _ _ _ rows refl

pub at_mosts : IsListed (codes "at-most") at_most_text
at_mosts = record {
  word = λ w rows. kept (codes "operand") (codes "at-most") _ _ _ rows refl;
  value = λ n v rows. by_name n v rows;
  flags = λ rows. kept (codes "inline") (codes "at-most") _ _ _ rows refl;
}
  where
    by_name : (n : Valued) (v : Text) (rows : List Row) → listed (codes "at-most") (used (rule_for n) (v ∷ []) rows) ≡ listed (codes "at-most") rows ++ option_to_list (at_most_text (given n v))
    by_name Spare v rows = kept (codes "spare") (codes "at-most") _ _ _ rows refl
    by_name AtMost v rows = listed-same (codes "at-most") _ _ (v ∷ []) rows
    by_name Library v rows = kept (codes "library") (codes "at-most") _ _ _ rows refl

pub libraries : IsListed (codes "library") library_text
libraries = record {
  word = λ w rows. kept (codes "operand") (codes "library") _ _ _ rows refl;
  value = λ n v rows. by_name n v rows;
  flags = λ rows. kept (codes "inline") (codes "library") _ _ _ rows refl;
}
  where
    by_name : (n : Valued) (v : Text) (rows : List Row) → listed (codes "library") (used (rule_for n) (v ∷ []) rows) ≡ listed (codes "library") rows ++ option_to_list (library_text (given n v))
    by_name Spare v rows = kept (codes "spare") (codes "library") _ _ _ rows refl
    by_name AtMost v rows = kept (codes "at-most") (codes "library") _ _ _ rows refl
    by_name Library v rows = listed-same (codes "library") _ _ (v ∷ []) rows

pub inlines : IsListed (codes "inline") inline_text
inlines = record {
  word = λ w rows. kept (codes "operand") (codes "inline") _ _ _ rows refl;
  value = λ n v rows. by_name n v rows;
  flags = λ rows. listed-same (codes "inline") _ _ (codes "inline" ∷ []) rows;
}
  where
    by_name : (n : Valued) (v : Text) (rows : List Row) → listed (codes "inline") (used (rule_for n) (v ∷ []) rows) ≡ listed (codes "inline") rows ++ option_to_list (inline_text (given n v))
    by_name Spare v rows = kept (codes "spare") (codes "inline") _ _ _ rows refl
    by_name AtMost v rows = kept (codes "at-most") (codes "inline") _ _ _ rows refl
    by_name Library v rows = kept (codes "library") (codes "inline") _ _ _ rows refl

some_length : (x : ℕ) (xs : Text) → nat_lt 0 (length (x ∷ xs)) ≡ true
some_length x xs = lt-ltb 0 (length (x ∷ xs)) (omega arith)

-- one raw: its use passes where its text is not empty
pub full-passes : (r : Raw) (rows : List Row) → is_full r ≡ true → use_fault false (use_of r).0 (use_of r).1 rows ≡ []
full-passes (plain []) rows h = cc
full-passes (plain (x ∷ xs)) rows h = rw (some_length x xs) refl
full-passes (given n []) rows h = cc
full-passes (given Spare (x ∷ xs)) rows h = rw (some_length x xs) refl
full-passes (given AtMost (x ∷ xs)) rows h = rw (some_length x xs) refl
full-passes (given Library (x ∷ xs)) rows h = rw (some_length x xs) refl
full-passes flag rows h = refl

pub empty-fails : (r : Raw) (rows : List Row) (o : Option (List Row)) → is_full r ≡ false → pass (use_fault false (use_of r).0 (use_of r).1 rows) o ≡ None
empty-fails (plain []) rows o h = refl
empty-fails (plain (x ∷ xs)) rows o h = cc
empty-fails (given Spare []) rows o h = refl
empty-fails (given AtMost []) rows o h = refl
empty-fails (given Library []) rows o h = refl
empty-fails (given n (x ∷ xs)) rows o h = cc
empty-fails flag rows o h = cc

pub one-listed : (id : Text) (text : Raw → Option Text) → IsListed id text → (r : Raw) (rows : List Row)
    → listed id (used (use_of r).0 (use_of r).1 rows) ≡ listed id rows ++ option_to_list (text r)
one-listed id text is (plain w) rows = is.word w rows
one-listed id text is (given n v) rows = is.value n v rows
one-listed id text is flag rows = is.flags rows

abbrev pub after_all : List Row → List Raw → List Row
after_all rows [] = rows
after_all rows (r ∷ rs) = after_all (used (use_of r).0 (use_of r).1 rows) rs

filter_map-cons : (text : Raw → Option Text) (r : Raw) (rs : List Raw) → filter_map text (r ∷ rs) ≡ option_to_list (text r) ++ filter_map text rs
filter_map-cons text r rs = by_text (text r)
  where
    by_text : (o : Option Text) → cons_option o (filter_map text rs) ≡ option_to_list o ++ filter_map text rs
    by_text None = refl
    by_text (Some x) = refl

pub all-listed : (id : Text) (text : Raw → Option Text) → IsListed id text → (rs : List Raw) (rows : List Row)
    → listed id (after_all rows rs) ≡ listed id rows ++ filter_map text rs
all-listed id text is [] rows = sym (append-nil (listed id rows))
all-listed id text is (r ∷ rs) rows =
    all-listed id text is rs (used (use_of r).0 (use_of r).1 rows) ∙ ap (λ xs. xs ++ filter_map text rs) (one-listed id text is r rows)
    ∙ append_assoc (listed id rows) (option_to_list (text r)) (filter_map text rs) ∙ ap (λ xs. listed id rows ++ xs) (sym (filter_map-cons text r rs))

pub run-is : (rs : List Raw) (rows : List Row) → run_all false rows (map use_of rs) ≡ (if list_all is_full rs then Some (after_all rows rs) else None)
run-is [] rows = refl
run-is (r ∷ rs) rows = by_full (is_full r) refl (run-is rs (used (use_of r).0 (use_of r).1 rows))
  where
    by_full : (b : Bool) → is_full r ≡ b → run_all false (used (use_of r).0 (use_of r).1 rows) (map use_of rs) ≡ (if list_all is_full rs then Some (after_all (used (use_of r).0 (use_of r).1 rows) rs) else None)
        → run_all false rows (map use_of (r ∷ rs)) ≡ (if b && list_all is_full rs then Some (after_all rows (r ∷ rs)) else None)
    by_full true e behind = rw (full-passes r rows e) behind
    by_full false e behind = empty-fails r rows _ e
