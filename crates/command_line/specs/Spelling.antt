-- How words spell a command. A word is its UTF-8 bytes.
use Rattle.std.specs.Prelude.{◌≡◌, ◌≢◌, ◌≤◌, ◌<◌, ◌^◌, ℕ, List, [], ◌∷◌, ◌++◌, map, length, All, Option, Some, None, Bool, true, false, codes, count_by, if◌then◌else◌}
use Rattle.std.specs.List.{filter_map}
use Rattle.std.specs.Option.{option_to_list}
use Rattle.std.specs.Str.Parse.{IsNumeral, digits_value}
use Rattle.command_line.specs.declared.command.CommandWords.{CommandWords}
use Rattle.command_line.specs.declared.command.CommandWords.TheVariants.{Nothing, Optimise, Check, Live, Trace, Workload}
use Rattle.command_line.specs.declared.command.OptimiseWords.{OptimiseWords}
use Rattle.command_line.specs.declared.command.Tell.{Tell}
use Rattle.command_line.specs.declared.command.Tell.TheVariants as tell
use Rattle.command_line.specs.declared.sorted.Sorted.{Sorted}

-- An option that takes a value.
pub data Valued : Type 0 where
  Spare : Valued
  AtMost : Valued
  Library : Valued

-- What a plain word or an option says: a file's name or a number, `--spare PREFIX` or `--at-most N`, `--inline`, `--library FILE`.
pub data Piece : Type 0 where
  Plain : List ℕ → Piece
  Advice : Tell → Piece
  Inline : Piece
  FromLibrary : List ℕ → Piece

-- the word is not empty
abbrev pub IsFull : List ℕ → Type 0
IsFull word = word ≢ []

-- A plain word before `--`, or a value in a word of its own: it is not empty, and its first byte is not `-` (45).
abbrev pub IsPlain : List ℕ → Type 0
IsPlain [] = ⊥
IsPlain (c ∷ cs) = c ≢ 45

-- one to ten decimal digits, and their value
pub record IsNumber (text : List ℕ) (n : ℕ) : Type 0 where
  pub digits : IsNumeral 10 text
  pub short : length text ≤ 10
  pub value : n ≡ digits_value 10 text

-- the name of an option that takes a value
abbrev pub option_name : Valued → List ℕ
option_name Spare = codes "--spare"
option_name AtMost = codes "--at-most"
option_name Library = codes "--library"

-- What the option says with this value. Where the value is in the option's own word, it may begin with `-`.
abbrev pub Gives : Valued → List ℕ → Piece → Type 0
Gives Spare value p = IsFull value × (p ≡ Advice (tell.Spare value))
Gives AtMost value p = (n : ℕ) × IsNumber value n × (n < 2 ^ 32) × (p ≡ Advice (tell.AtMost n))
Gives Library value p = IsFull value × (p ≡ FromLibrary value)

-- The words behind the command say these pieces, in this order. Nothing else says anything: not `--inline=x`, not `-x`, not
-- an empty word.
pub data Says : List (List ℕ) → List Piece → Type 0 where
  nothing : Says [] []
  -- `--` ends the options: every later word is a plain one
  closed : (rest : List (List ℕ)) → All IsFull rest → Says (codes "--" ∷ rest) (map Plain rest)
  plain : (word : List ℕ) (rest : List (List ℕ)) (more : List Piece) → IsPlain word → Says rest more
      → Says (word ∷ rest) (Plain word ∷ more)
  inline : (rest : List (List ℕ)) (more : List Piece) → Says rest more
      → Says (codes "--inline" ∷ rest) (Inline ∷ more)
  -- `--name=value`; 61 is `=`
  joined : (name : Valued) (value : List ℕ) (p : Piece) (rest : List (List ℕ)) (more : List Piece) → Gives name value p
      → Says rest more → Says ((option_name name ++ 61 ∷ value) ∷ rest) (p ∷ more)
  -- `--name value`
  apart : (name : Valued) (value : List ℕ) (p : Piece) (rest : List (List ℕ)) (more : List Piece) → IsPlain value
      → Gives name value p → Says rest more → Says (option_name name ∷ value ∷ rest) (p ∷ more)

-- ---- what the pieces say together

abbrev pub plain_word : Piece → Option (List ℕ)
plain_word (Plain word) = Some word
plain_word _ = None

abbrev pub tell_of : Piece → Option Tell
tell_of (Advice t) = Some t
tell_of _ = None

abbrev pub library_of : Piece → Option (List ℕ)
library_of (FromLibrary name) = Some name
library_of _ = None

abbrev pub is_inline : Piece → Bool
is_inline Inline = true
is_inline _ = false

abbrev pub is_at_most : Tell → Bool
is_at_most (tell.AtMost n) = true
is_at_most _ = false

-- the plain words, what is told, how often `--inline` stands and what libraries are named, each in the order of the words
abbrev pub sorted_of : List Piece → Sorted
sorted_of ps = record {
  plain = filter_map plain_word ps;
  tells = filter_map tell_of ps;
  inlines = count_by is_inline ps;
  libraries = filter_map library_of ps;
}

-- ---- the commands

-- what `optimise` is asked for: three files, one `--at-most`, one `--inline` and one `--library` at most
pub record AsksOptimise (s : Sorted) (o : OptimiseWords) : Type 0 where
  pub files : s.plain ≡ o.rules ∷ o.input ∷ o.output ∷ []
  pub tells : s.tells ≡ o.tells
  pub once : count_by is_at_most s.tells ≤ 1
  pub inline : s.inlines ≡ (if o.inline then 1 else 0)
  pub libraries : s.libraries ≡ option_to_list o.library

-- these plain words and no option but `--library`, which stands at most once
pub record Asks (s : Sorted) (plain : List (List ℕ)) (library : Option (List ℕ)) : Type 0 where
  pub files : s.plain ≡ plain
  pub tells : s.tells ≡ []
  pub inline : s.inlines ≡ 0
  pub libraries : s.libraries ≡ option_to_list library

-- what is asked for by what stands behind the command
abbrev pub AsksFor : Sorted → CommandWords → Type 0
AsksFor s Nothing = ⊥
AsksFor s (Optimise o) = AsksOptimise s o
AsksFor s (Check input) = Asks s (input ∷ []) None
AsksFor s (Live rules input library) = Asks s (rules ∷ input ∷ []) library
AsksFor s (Trace rules input script steps library) =
    (number : List ℕ) × Asks s (rules ∷ input ∷ script ∷ number ∷ []) library × IsNumber number steps × (steps ≤ 1000000)
AsksFor s (Workload count) = (number : List ℕ) × Asks s (number ∷ []) None × IsNumber number count × (1 ≤ count) × (count ≤ 2000)

abbrev pub command_name : CommandWords → List ℕ
command_name Nothing = []
command_name (Optimise o) = codes "optimise"
command_name (Check input) = codes "check"
command_name (Live rules input library) = codes "live"
command_name (Trace rules input script steps library) = codes "trace"
command_name (Workload count) = codes "workload"

-- The command is the first word, and its options stand anywhere behind it. No words at all spell `Nothing`.
pub data Spells : List (List ℕ) → CommandWords → Type 0 where
  silent : Spells [] Nothing
  command : (c : CommandWords) (rest : List (List ℕ)) (ps : List Piece) → Says rest ps → AsksFor (sorted_of ps) c
      → Spells (command_name c ∷ rest) c
