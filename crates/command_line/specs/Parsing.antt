-- How clap is asked to parse the words behind a command, and what it gives.
use Rattle.std.specs.Prelude.{◌≡◌, ℕ, Bool, true, false, not, ◌==◌, ◌&&◌, ◌||◌, List, [], ◌∷◌, ◌++◌, map, Option, Some, None, option_map, option_and_then, is_some, codes, find, if◌then◌else◌}
use Rattle.std.specs.List.{filter_map, list_all}
use Rattle.std.specs.Option.{option_map_or}
use Rattle.std.specs.Str.{bytes_eq}
use Rattle.clap.specs.Lexer.{long_of}
use Rattle.clap.specs.Walk.{Row, Rule, Text}
use Rattle.clap.specs.Simple.{App, Shape, new_app, new_rule, on_top, with_rule}
use Rattle.clap.specs.declared.builder.action.ArgAction.TheVariants.{Append}
use Rattle.clap.specs.declared.builder.value_parser.ValueParser.TheVariants as vp
use Rattle.command_line.specs.declared.command.Tell.{Tell}
use Rattle.command_line.specs.declared.command.Tell.TheVariants as tell
use Rattle.command_line.specs.Spelling.{Valued, Spare, AtMost, Library}

-- ---- the command that clap parses

-- the operands, which are not empty
abbrev pub operand_rule : Rule
operand_rule = record (new_rule (codes "operand")) { action = Some Append; parser = Some vp.NonEmptyString }

-- `--name VALUE`, whose value is not empty
abbrev pub valued_rule : Text → Rule
valued_rule name = record (new_rule name) { long = Some name; action = Some Append; parser = Some vp.NonEmptyString }

-- `--name`
abbrev pub flag_rule : Text → Rule
flag_rule name = record (new_rule name) {
  long = Some name;
  action = Some Append;
  range = Some (record { start_inclusive = 0; end_inclusive = 0 });
  missing = name ∷ [];
  parser = Some vp.NonEmptyString;
}

-- a command without a help flag
abbrev pub bare_app : Text → App
bare_app name = on_top (λ s. record s { disable_help_flag = true }) (new_app name)

abbrev pub app_for : Text → App
app_for name = with_rule (with_rule (with_rule (with_rule (with_rule (bare_app name) operand_rule) (valued_rule (codes "spare"))) (valued_rule (codes "at-most")))
    (valued_rule (codes "library"))) (flag_rule (codes "inline"))

-- the values of an id, in the order of the words
abbrev pub listed : Text → List Row → List Text
listed id rows = option_map_or (λ r. r.values) (find (λ r. bytes_eq r.id id) rows) []

-- ---- what the words say to it

-- an operand, an option with its value, or `--inline`
pub data Raw : Type 0 where
  plain : Text → Raw
  given : Valued → Text → Raw
  flag : Raw

-- where the reading stands: any word may come, `--` has come, or the value of an option must come
pub data Place : Type 0 where
  free : Place
  closed : Place
  wants : Valued → Place

abbrev pub more_raw : Raw → Option (List Raw) → Option (List Raw)
more_raw r = option_map (λ rs. r ∷ rs)

abbrev pub by_value : Valued → Option Text → (Place → Option (List Raw)) → Option (List Raw)
by_value n (Some v) go = more_raw (given n v) (go free)
by_value n None go = go (wants n)

abbrev pub by_flag : Option Text → (Place → Option (List Raw)) → Option (List Raw)
by_flag (Some v) go = None
by_flag None go = more_raw flag (go free)

-- the option of this name
abbrev pub by_name : Text → Option Text → (Place → Option (List Raw)) → Option (List Raw)
by_name name v go = if bytes_eq (codes "spare") name then by_value Spare v go
    else (if bytes_eq (codes "at-most") name then by_value AtMost v go
    else (if bytes_eq (codes "library") name then by_value Library v go
    else (if bytes_eq (codes "inline") name then by_flag v go else None)))

abbrev pub by_long : Text → Option (Text × Option Text) → (Place → Option (List Raw)) → Option (List Raw)
by_long word None go = more_raw (plain word) (go free)
by_long word (Some p) go = by_name p.0 p.1 go

-- a word that begins with one `-` (45)
abbrev pub has_one_dash : Text → Bool
has_one_dash [] = false
has_one_dash (c ∷ []) = c == 45
has_one_dash (c ∷ d ∷ rest) = c == 45 && not (d == 45)

abbrev pub raw_at : Place → Text → (Place → Option (List Raw)) → Option (List Raw)
raw_at free word go = if bytes_eq word (codes "--") then go closed
    else (if has_one_dash word then None else by_long word (long_of word) go)
raw_at closed word go = more_raw (plain word) (go closed)
raw_at (wants n) word go = if bytes_eq word (codes "--") then None
    else (if has_one_dash word then None else (if is_some (long_of word) then None else more_raw (given n word) (go free)))

abbrev pub raw_end : Place → Option (List Raw)
raw_end free = Some []
raw_end closed = Some []
raw_end (wants n) = None

-- what the words say from here on
abbrev pub raws_from : Place → List Text → Option (List Raw)
raws_from here [] = raw_end here
raws_from here (word ∷ rest) = raw_at here word (λ go. raws_from go rest)

-- the words before `--` begin with no `-` or with two
abbrev pub are_apt : List Text → Bool
are_apt [] = true
are_apt (word ∷ rest) = bytes_eq word (codes "--") || (not (has_one_dash word) && are_apt rest)

-- ---- the texts of each kind, in the order of the words

abbrev pub operand_text : Raw → Option Text
operand_text (plain word) = Some word
operand_text _ = None

abbrev pub spare_text : Raw → Option Text
spare_text (given Spare v) = Some v
spare_text _ = None

abbrev pub at_most_text : Raw → Option Text
at_most_text (given AtMost v) = Some v
at_most_text _ = None

abbrev pub library_text : Raw → Option Text
library_text (given Library v) = Some v
library_text _ = None

abbrev pub inline_text : Raw → Option Text
inline_text flag = Some (codes "inline")
inline_text _ = None

-- no text is empty
abbrev pub is_whole : Text → Bool
is_whole [] = false
is_whole (c ∷ cs) = true

abbrev pub is_full : Raw → Bool
is_full (plain word) = is_whole word
is_full (given n v) = is_whole v
is_full flag = true

-- what follows `front` in the word
abbrev pub after_front : Text → Text → Option Text
after_front [] word = Some word
after_front (x ∷ front) [] = None
after_front (x ∷ front) (y ∷ word) = if x == y then after_front front word else None

abbrev pub ends_name : Option Text → Bool
ends_name None = false
ends_name (Some []) = true
ends_name (Some (c ∷ value)) = c == 61

-- the word is the option, alone or with `=` (61) and a value
abbrev pub names : Text → Text → Bool
names option word = ends_name (after_front option word)

-- what the next prefix and the next number tell
abbrev pub tell_spares : List Text → List Tell
tell_spares [] = []
tell_spares (s ∷ ss) = tell.Spare s ∷ []

abbrev pub tell_numbers : List ℕ → List Tell
tell_numbers [] = []
tell_numbers (n ∷ ns) = tell.AtMost n ∷ []

abbrev pub rest_of : {X : Type 0} → List X → List X
rest_of [] = []
rest_of (x ∷ xs) = xs

-- what is told, in the order of the words, by these prefixes and numbers
abbrev pub tells_in : List Text → List Text → List ℕ → List Tell
tells_in [] ss ns = []
tells_in (word ∷ rest) ss ns = if bytes_eq word (codes "--") then []
    else (if names (codes "--spare") word then tell_spares ss ++ tells_in rest (rest_of ss) ns
    else (if names (codes "--at-most") word then tell_numbers ns ++ tells_in rest ss (rest_of ns) else tells_in rest ss ns))

-- ---- what a parse gives

-- the lists of a parse are those of what the words say, in which no text is empty
pub record IsParsed (words : List Text) (rows : List Row) : Type 0 where
  pub raws : List Raw
  pub said : raws_from free words ≡ Some raws
  pub full : list_all is_full raws ≡ true
  pub operands : listed (codes "operand") rows ≡ filter_map operand_text raws
  pub spares : listed (codes "spare") rows ≡ filter_map spare_text raws
  pub at_mosts : listed (codes "at-most") rows ≡ filter_map at_most_text raws
  pub libraries : listed (codes "library") rows ≡ filter_map library_text raws
  pub inlines : listed (codes "inline") rows ≡ filter_map inline_text raws
