-- Lines, and the words of a line (this project's profile). A word is its bytes.
use Rattle.std.specs.Prelude.{ℕ, ◌==◌, Bool, List, [], ◌∷◌, ◌++◌, Option, Some, None, option_and_then, if◌then◌else◌}
use Rattle.std.specs.List.{slice_split}

-- each line ends with a newline or the end of the text
abbrev pub lines_of : List ℕ → List (List ℕ)
lines_of text = slice_split (λ c. c == 10) text

-- the words of a line, with one space between; no word of a grammar is empty
abbrev pub words_of : List ℕ → List (List ℕ)
words_of line = slice_split (λ c. c == 32) line

-- what stands behind the front of a word
abbrev pub behind : List ℕ → List ℕ → Option (List ℕ)
behind [] word = Some word
behind (x ∷ front) [] = None
behind (x ∷ front) (c ∷ word) = if c == x then behind front word else None

-- where the word begins so, what the rest of it is, else the other
abbrev pub either : {X : Type 0} → Option (List ℕ) → (List ℕ → Option X) → Option X → Option X
either None next other = other
either (Some rest) next other = next rest

-- these, and what each of the words says
abbrev pub with_all : {X : Type 0} → (List ℕ → Option X) → List X → List (List ℕ) → Option (List X)
with_all read xs [] = Some xs
with_all read xs (word ∷ words) = option_and_then (λ x. with_all read (xs ++ x ∷ []) words) (read word)

abbrev pub all_of : {X : Type 0} → (List ℕ → Option X) → List (List ℕ) → Option (List X)
all_of read words = with_all read [] words

-- ---- words that are so many

abbrev pub one_of : List (List ℕ) → Option (List ℕ)
one_of (a ∷ []) = Some a
one_of words = None

abbrev pub two_of : List (List ℕ) → Option (List ℕ × List ℕ)
two_of (a ∷ b ∷ []) = Some (a, b)
two_of words = None

abbrev pub three_of : List (List ℕ) → Option (List ℕ × List ℕ × List ℕ)
three_of (a ∷ b ∷ c ∷ []) = Some (a, b, c)
three_of words = None

-- three words, and those behind them
abbrev pub front_of : List (List ℕ) → Option (List ℕ × List ℕ × List ℕ × List (List ℕ))
front_of (a ∷ b ∷ c ∷ words) = Some (a, b, c, words)
front_of words = None
