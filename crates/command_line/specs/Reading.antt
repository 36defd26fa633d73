-- How words are read from the front, one after the other: what the contracts of the private functions cite.
use Rattle.std.specs.Prelude.{◌==◌, ◌&&◌, ◌^◌, ℕ, List, [], ◌∷◌, ◌++◌, length, Option, Some, None, Bool, codes, if◌then◌else◌, nat_lt, nat_le, option_map, option_and_then, option_to_list, bytes_eq, is_none, count_by}
use Rattle.std.specs.List.{list_all}
use Rattle.std.specs.Char.{digit_value}
use Rattle.std.specs.Str.Parse.{digits_value}
use Rattle.command_line.specs.Spelling.{Valued, Spare, AtMost, Library, Piece, Plain, Advice, Inline, FromLibrary, is_at_most, sorted_of}
use Rattle.command_line.specs.Parsing.{Raw, plain, given, flag, free, raws_from}
use Rattle.command_line.specs.declared.command.CommandWords.{CommandWords}
use Rattle.command_line.specs.declared.command.CommandWords.TheVariants.{Nothing, Optimise, Check, Live, Trace, Workload}
use Rattle.command_line.specs.declared.command.OptimiseWords.{OptimiseWords}
use Rattle.command_line.specs.declared.sorted.Sorted.{Sorted}
use Rattle.command_line.specs.declared.verb.Verb.{Verb}
use Rattle.command_line.specs.declared.verb.Verb.TheVariants as verb
use Rattle.command_line.specs.declared.command.Tell.TheVariants as tell

abbrev pub is_decimal : List ℕ → Bool
is_decimal text = list_all (λ c. nat_lt (digit_value c) 10) text

-- the number that one to ten decimal digits write
abbrev pub number_of : List ℕ → Option ℕ
number_of text = if nat_lt 0 (length text) && (nat_le (length text) 10 && is_decimal text) then Some (digits_value 10 text) else None

-- the word as a text that is not empty
abbrev pub full_word : List ℕ → Option (List ℕ)
full_word [] = None
full_word (c ∷ cs) = Some (c ∷ cs)

-- at most the greatest number of 32 bits
abbrev pub small : ℕ → Option ℕ
small n = if nat_lt n (2 ^ 32) then Some n else None

-- what an option with this value says
abbrev pub piece_given : Valued → List ℕ → Option Piece
piece_given Spare value = option_map (λ word. Advice (tell.Spare word)) (full_word value)
piece_given AtMost value = option_map (λ n. Advice (tell.AtMost n)) (option_and_then small (number_of value))
piece_given Library value = option_map FromLibrary (full_word value)

-- the numbers of 32 bits that the texts write
abbrev pub numbers_of : List (List ℕ) → Option (List ℕ)
numbers_of [] = Some []
numbers_of (text ∷ rest) = option_and_then (λ n. option_map (λ ns. n ∷ ns) (numbers_of rest)) (option_and_then small (number_of text))

-- what a raw says
abbrev pub piece_of : Raw → Option Piece
piece_of (plain word) = option_map Plain (full_word word)
piece_of (given n v) = piece_given n v
piece_of flag = Some Inline

abbrev pub pieces_of : List Raw → Option (List Piece)
pieces_of [] = Some []
pieces_of (r ∷ rs) = option_and_then (λ p. option_map (λ ps. p ∷ ps) (pieces_of rs)) (piece_of r)

-- what the words behind the command say
abbrev pub said : List (List ℕ) → Option (List Piece)
said words = option_and_then pieces_of (raws_from free words)

-- ---- the commands

abbrev pub verb_of : List ℕ → Option Verb
verb_of name = if bytes_eq name (codes "optimise") then Some verb.Optimise
    else (if bytes_eq name (codes "check") then Some verb.Check
    else (if bytes_eq name (codes "live") then Some verb.Live
    else (if bytes_eq name (codes "trace") then Some verb.Trace
    else (if bytes_eq name (codes "workload") then Some verb.Workload else None))))

-- the only word
abbrev pub one_word : List (List ℕ) → Option (List ℕ)
one_word (a ∷ []) = Some a
one_word _ = None

abbrev pub two_words : List (List ℕ) → Option (List ℕ × List ℕ)
two_words (a ∷ b ∷ []) = Some (a, b)
two_words _ = None

abbrev pub three_words : List (List ℕ) → Option (List ℕ × List ℕ × List ℕ)
three_words (a ∷ b ∷ c ∷ []) = Some (a, b, c)
three_words _ = None

abbrev pub four_words : List (List ℕ) → Option (List ℕ × List ℕ × List ℕ × List ℕ)
four_words (a ∷ b ∷ c ∷ d ∷ []) = Some (a, b, c, d)
four_words _ = None

-- none, or the only one
abbrev pub one_at_most : List (List ℕ) → Option (Option (List ℕ))
one_at_most [] = Some None
one_at_most (a ∷ []) = Some (Some a)
one_at_most _ = None

-- a number from `low` to `high`
abbrev pub number_within : ℕ → ℕ → List ℕ → Option ℕ
number_within low high text = option_and_then (λ n. if nat_le low n && nat_le n high then Some n else None) (number_of text)

-- three files, and one `--at-most`, one `--inline` and one `--library` at most
abbrev pub optimise_from : Sorted → Option OptimiseWords
optimise_from s = if nat_le (count_by is_at_most s.tells) 1 && nat_le s.inlines 1 then
    option_and_then (λ files. option_map (λ library. record {
      rules = files.0;
      input = files.1;
      output = files.2;
      tells = s.tells;
      inline = s.inlines == 1;
      library = library;
    }) (one_at_most s.libraries)) (three_words s.plain) else None

-- the plain words and the library, where no other option stands
abbrev pub with_library : Sorted → Option (List (List ℕ) × Option (List ℕ))
with_library s = if length s.tells == 0 && s.inlines == 0 then option_map (λ library. (s.plain, library)) (one_at_most s.libraries) else None

-- the plain words, where no option stands
abbrev pub without_options : Sorted → Option (List (List ℕ))
without_options s = option_and_then (λ asked. if is_none asked.1 then Some asked.0 else None) (with_library s)

abbrev pub live_from : Sorted → Option CommandWords
live_from s = option_and_then (λ asked. option_map (λ files. Live files.0 files.1 asked.1) (two_words asked.0)) (with_library s)

abbrev pub trace_from : Sorted → Option CommandWords
trace_from s = option_and_then (λ asked. option_and_then (λ files.
    option_map (λ steps. Trace files.0 files.1 files.2 steps asked.1) (number_within 0 1000000 files.3)) (four_words asked.0)) (with_library s)

abbrev pub workload_from : Sorted → Option CommandWords
workload_from s = option_and_then (λ plain. option_map Workload (option_and_then (number_within 1 2000) (one_word plain))) (without_options s)

abbrev pub check_from : Sorted → Option CommandWords
check_from s = option_and_then (λ plain. option_map Check (one_word plain)) (without_options s)

abbrev pub command_from : Verb → Sorted → Option CommandWords
command_from verb.Optimise s = option_map Optimise (optimise_from s)
command_from verb.Check s = check_from s
command_from verb.Live s = live_from s
command_from verb.Trace s = trace_from s
command_from verb.Workload s = workload_from s

-- what the words spell
abbrev pub command_of : List (List ℕ) → Option CommandWords
command_of [] = Some Nothing
command_of (name ∷ rest) = option_and_then (λ v. option_and_then (command_from v) (option_map sorted_of (said rest))) (verb_of name)
