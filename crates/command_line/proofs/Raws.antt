-- The uses that words make are what the words say.
use Rattle.std.proofs.Common.{◌≡◌, ℕ, Bool, true, false, cond, List, [], ◌∷◌, ◌++◌, map, Option, Some, None, option_map, option_and_then, codes, bytes_eq, is_some, refl, sym, ap, subst, ◌∙◌, arith}
use Rattle.std.specs.Prelude.{◌&&◌, ◌||◌, not, if◌then◌else◌}
use Rattle.clap.specs.Lexer.{long_of}
use Rattle.clap.specs.Walk.{Rule, Text, arg_by_long}
use Rattle.command_line.specs.Spelling.{Valued, Spare, AtMost, Library}
use Rattle.command_line.specs.Parsing.{Raw, plain, given, flag, Place, more_raw, by_value, by_flag, by_name, by_long, raw_at, raw_end, raws_from, has_one_dash, are_apt}
use Rattle.command_line.specs.Parsing.{free as place_free, closed as place_closed, wants as place_wants}
use Rattle.command_line.proofs.Walked.{Stand, Use, free, closed, wants, more, valued, flagged, named, longed, opened, wanted, uses_from}
use Rattle.command_line.proofs.Taken.{all_rules, operand, spare, at_most, library, inline}

abbrev pub rule_for : Valued → Rule
rule_for Spare = spare
rule_for AtMost = at_most
rule_for Library = library

abbrev pub use_of : Raw → Use
use_of (plain word) = (operand, word ∷ [])
use_of (given n v) = (rule_for n, v ∷ [])
use_of flag = (inline, [])

abbrev pub stand_of : Place → Stand
stand_of place_free = free
stand_of place_closed = closed
stand_of (place_wants n) = wants (rule_for n)

abbrev pub uses_of : Option (List Raw) → Option (List Use)
uses_of = option_map (map use_of)

more-uses : (r : Raw) (o : Option (List Raw)) → more (use_of r) (uses_of o) ≡ uses_of (more_raw r o)
more-uses r None = refl
more-uses r (Some rs) = refl

or_false : (b : Bool) → (b || false) ≡ b
or_false true = refl
or_false false = refl

-- behind the words, the same
abbrev Agrees : List Text → Place → Type 0
Agrees words here = uses_from all_rules operand (stand_of here) words ≡ uses_of (raws_from here words)

closed-agrees : (words : List Text) → Agrees words place_closed
closed-agrees [] = refl
closed-agrees (word ∷ rest) = ap (more (operand, word ∷ [])) (closed-agrees rest) ∙ more-uses (plain word) (raws_from place_closed rest)

module _ (rest : List Text) (any : (here : Place) → Agrees rest here) where
  valued-agrees : (n : Valued) (v : Option Text) → valued (rule_for n) v (λ go. uses_from all_rules operand go rest) ≡ uses_of (by_value n v (λ go. raws_from go rest))
  valued-agrees n (Some v) = ap (more (rule_for n, v ∷ [])) (any place_free) ∙ more-uses (given n v) (raws_from place_free rest)
  valued-agrees n None = any (place_wants n)

  flagged-agrees : (v : Option Text) → flagged inline v (λ go. uses_from all_rules operand go rest) ≡ uses_of (by_flag v (λ go. raws_from go rest))
  flagged-agrees (Some v) = refl
  flagged-agrees None = ap (more (inline, [])) (any place_free) ∙ more-uses flag (raws_from place_free rest)

  named-agrees : (name : Text) (v : Option Text) → named (arg_by_long all_rules name) v (λ go. uses_from all_rules operand go rest) ≡ uses_of (by_name name v (λ go. raws_from go rest))
  named-agrees name v =
      by_tests (bytes_eq (codes "spare") name) (bytes_eq (codes "at-most") name) (bytes_eq (codes "library") name) (bytes_eq (codes "inline") name)
    where
      by_tests : (a b d e : Bool) → named (if a || false then Some spare else (if b || false then Some at_most else (if d || false then Some library else (if e || false then Some inline else None)))) v
          (λ go. uses_from all_rules operand go rest)
          ≡ uses_of (if a then by_value Spare v (λ go. raws_from go rest) else (if b then by_value AtMost v (λ go. raws_from go rest)
          else (if d then by_value Library v (λ go. raws_from go rest) else (if e then by_flag v (λ go. raws_from go rest) else None))))
      by_tests true b d e = valued-agrees Spare v
      by_tests false true d e = valued-agrees AtMost v
      by_tests false false true e = valued-agrees Library v
      by_tests false false false true = flagged-agrees v
      by_tests false false false false = refl

  long-agrees : (word : Text) (l : Option (Text × Option Text)) → longed all_rules operand word l (λ go. uses_from all_rules operand go rest) ≡ uses_of (by_long word l (λ go. raws_from go rest))
  long-agrees word None = ap (more (operand, word ∷ [])) (any place_free) ∙ more-uses (plain word) (raws_from place_free rest)
  long-agrees word (Some p) = named-agrees p.0 p.1

  free-agrees : (word : Text) → has_one_dash word ≡ false → Agrees (word ∷ rest) place_free
  free-agrees word one = by_dashes (bytes_eq word (codes "--"))
    where
      by_dashes : (b : Bool) → (if b then uses_from all_rules operand closed rest else longed all_rules operand word (long_of word) (λ go. uses_from all_rules operand go rest))
          ≡ uses_of (if b then raws_from place_closed rest else (if has_one_dash word then None else by_long word (long_of word) (λ go. raws_from go rest)))
      by_dashes true = closed-agrees rest
      by_dashes false = rw one (long-agrees word (long_of word))

  wants-agrees : (n : Valued) (word : Text) → has_one_dash word ≡ false → Agrees (word ∷ rest) (place_wants n)
  wants-agrees n word one = by_tests (bytes_eq word (codes "--")) (is_some (long_of word))
    where
      by_tests : (b d : Bool) → (if b then None else (if d then None else more (rule_for n, word ∷ []) (uses_from all_rules operand free rest)))
          ≡ uses_of (if b then None else (if has_one_dash word then None else (if d then None else more_raw (given n word) (raws_from place_free rest))))
      by_tests true d = refl
      by_tests false true = rw one refl
      by_tests false false = rw one (ap (more (rule_for n, word ∷ [])) (any place_free) ∙ more-uses (given n word) (raws_from place_free rest))

-- where `--` comes next, nothing is asked of the words behind it
dashes-agree : (word : Text) (rest : List Text) (here : Place) → bytes_eq word (codes "--") ≡ true → Agrees (word ∷ rest) here
dashes-agree word rest place_free e = rw e (closed-agrees rest)
dashes-agree word rest place_closed e = closed-agrees (word ∷ rest)
dashes-agree word rest (place_wants n) e = rw e refl

pub agrees : (words : List Text) → are_apt words ≡ true → (here : Place) → Agrees words here
agrees [] apt place_free = refl
agrees [] apt place_closed = refl
agrees [] apt (place_wants n) = refl
agrees (word ∷ rest) apt here = by_dashes (λ k. agrees rest k) (bytes_eq word (codes "--")) (has_one_dash word) refl refl apt
  where
    by_place : ((at : Place) → Agrees rest at) → (at : Place) → has_one_dash word ≡ false → Agrees (word ∷ rest) at
    by_place behind place_free one = free-agrees rest behind word one
    by_place behind place_closed one = closed-agrees (word ∷ rest)
    by_place behind (place_wants n) one = wants-agrees rest behind n word one

    by_dashes : (are_apt rest ≡ true → (at : Place) → Agrees rest at) → (b d : Bool) → bytes_eq word (codes "--") ≡ b → has_one_dash word ≡ d
        → (b || (not d && are_apt rest)) ≡ true → Agrees (word ∷ rest) here
    by_dashes behind true d e one k = dashes-agree word rest here e
    by_dashes behind false true e one k = cc
    by_dashes behind false false e one k = by_place (behind k) here one

-- words that are not apt say nothing
none-more : (r : Raw) (o : Option (List Raw)) → o ≡ None → more_raw r o ≡ None
none-more r o e = rw e refl

abbrev SaysNone : List Text → Type 0
SaysNone words = (raws_from place_free words ≡ None) × ((n : Valued) → raws_from (place_wants n) words ≡ None)

module _ (rest : List Text) (none : SaysNone rest) where
  value-none : (n : Valued) (v : Option Text) → by_value n v (λ go. raws_from go rest) ≡ None
  value-none n (Some v) = none-more (given n v) (raws_from place_free rest) none.0
  value-none n None = none.1 n

  flag-none : (v : Option Text) → by_flag v (λ go. raws_from go rest) ≡ None
  flag-none (Some v) = refl
  flag-none None = none-more flag (raws_from place_free rest) none.0

  name-none : (name : Text) (v : Option Text) → by_name name v (λ go. raws_from go rest) ≡ None
  name-none name v = by_tests (bytes_eq (codes "spare") name) (bytes_eq (codes "at-most") name) (bytes_eq (codes "library") name) (bytes_eq (codes "inline") name)
    where
      by_tests : (a b d e : Bool) → (if a then by_value Spare v (λ go. raws_from go rest) else (if b then by_value AtMost v (λ go. raws_from go rest)
          else (if d then by_value Library v (λ go. raws_from go rest) else (if e then by_flag v (λ go. raws_from go rest) else None)))) ≡ None
      by_tests true b d e = value-none Spare v
      by_tests false true d e = value-none AtMost v
      by_tests false false true e = value-none Library v
      by_tests false false false true = flag-none v
      by_tests false false false false = refl

  long-none : (word : Text) (l : Option (Text × Option Text)) → by_long word l (λ go. raws_from go rest) ≡ None
  long-none word None = none-more (plain word) (raws_from place_free rest) none.0
  long-none word (Some p) = name-none p.0 p.1

  word-none : (word : Text) → bytes_eq word (codes "--") ≡ false → SaysNone (word ∷ rest)
  word-none word e = (rw e (by_dash (has_one_dash word) _ (long-none word (long_of word))), λ n. rw e (by_dash (has_one_dash word) _ (by_dash (is_some (long_of word)) _ (none-more (given n word) (raws_from place_free rest) none.0))))
    where
      by_dash : (b : Bool) (o : Option (List Raw)) → o ≡ None → (if b then None else o) ≡ None
      by_dash true o h = refl
      by_dash false o h = h

pub unapt-none : (words : List Text) → are_apt words ≡ false → SaysNone words
unapt-none [] h = cc
unapt-none (word ∷ rest) h = by_dashes (λ k. unapt-none rest k) (bytes_eq word (codes "--")) (has_one_dash word) refl refl h
  where
    by_dashes : (are_apt rest ≡ false → SaysNone rest) → (b d : Bool) → bytes_eq word (codes "--") ≡ b → has_one_dash word ≡ d
        → (b || (not d && are_apt rest)) ≡ false → SaysNone (word ∷ rest)
    by_dashes behind true d e one k = cc
    by_dashes behind false true e one k = (rw (e, one) refl, λ n. rw (e, one) refl)
    by_dashes behind false false e one k = word-none rest (behind k) word e
