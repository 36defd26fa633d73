-- What the wildcards of a class specification matched: of the ways to match a name the first, in which each wildcard from the left takes as
-- few characters as it can. A name is written as Java writes it.
use Rattle.std.specs.Prelude.{ℕ, ◌-◌, ◌/◌, Bool, if◌then◌else◌, nat_eq, List, [], ◌∷◌, ◌++◌, map, take, drop, length, codes}
use Rattle.rule_text.specs.declared.pattern.Named.{Named}
use Rattle.rule_text.specs.declared.pattern.Named.TheVariants as named
use Rattle.rule_text.specs.declared.pattern.Piece.{Piece}
use Rattle.rule_text.specs.declared.pattern.Piece.TheVariants as piece
use Rattle.rule_text.specs.Glob.{read_of, begins_pair, matches_of}
use Rattle.rule_text.specs.Pieces.{characters, pieces_of, merged, primitives, is_primitive_word}
use Rattle.rule_text.specs.Rules.{Arguments, Any, These, What, Init, Field, Method}
use Rattle.rule_text.specs.Spelling.{word_eq}
use Rattle.rule_text.specs.Tokens.{Word}
use Rattle.rule_defs.specs.Patterns.{inner}
use Rattle.dalvik_defs.specs.Names.{Text, item_of}
use Rattle.dalvik_defs.specs.declared.names.Signature.{Signature}
use Rattle.if_text.specs.Wildcards.{is_wild, bare}

-- ---- names

-- up to the first place from which the rest is matched
abbrev pub star_taken : (List ℕ → Bool) → Text → Text
star_taken rest [] = []
star_taken rest (u ∷ us) = if rest (u ∷ us) then [] else u ∷ star_taken rest us

-- what a piece takes at the front, where these are behind it
abbrev pub taken : Named → Piece → List Piece → Text → Text
taken n (piece.Exactly u) ps text = take 1 text
taken n piece.One ps text = if begins_pair text then take 2 text else take 1 text
taken n piece.Star ps text = star_taken (matches_of n ps) text
taken n piece.Stars ps text = star_taken (matches_of n ps) text

abbrev pub own_texts : Named → Piece → Text → List Text
own_texts n p text = if is_wild p then map (read_of n) text ∷ [] else []

abbrev pub glob_texts : Named → List Piece → Text → List Text
glob_texts n [] text = []
glob_texts n (p ∷ ps) text = own_texts n p (taken n p ps text) ++ glob_texts n ps (drop (length (taken n p ps text)) text)

abbrev pub name_texts : Named → Word → Text → List Text
name_texts n w text = glob_texts n (merged (pieces_of (characters w))) text

-- ---- types

abbrev pub dotted : ℕ → ℕ
dotted u = if nat_eq u 47 then 46 else u

-- the name of a primitive type by its letter
abbrev pub named_by : ℕ → List (Word × List ℕ) → Word
named_by u [] = []
named_by u (q ∷ qs) = if word_eq q.1 (u ∷ []) then q.0 else named_by u qs

-- a type as Java writes it
abbrev pub java : Text → Text
java [] = []
java (u ∷ us) = if nat_eq u 91 then java us ++ codes "[]" else if nat_eq u 76 then map dotted (inner us) else named_by u primitives

abbrev pub item_texts : Word → Text → List Text
item_texts w t =
    if word_eq w (codes "***") then java t ∷ []
    else if word_eq w (codes "%") then java t ∷ []
    else if is_primitive_word w then []
    else name_texts named.Class w (inner (item_of t))

-- how many brackets stand behind a type
abbrev pub depth_of : Word → ℕ
depth_of w = (length w - length (bare w)) / 2

abbrev pub type_texts : Word → Text → List Text
type_texts w t = item_texts (bare w) (drop (depth_of w) t)

abbrev pub types_texts : List Word → List Text → List Text
types_texts [] ts = []
types_texts (w ∷ ws) [] = []
types_texts (w ∷ ws) (t ∷ ts) = type_texts w t ++ types_texts ws ts

abbrev pub argument_texts : Arguments → List Text → List Text
argument_texts Any ts = []
argument_texts (These ws) ts = types_texts ws ts

-- ---- members and classes

abbrev pub method_texts : What → Text → Signature → List Text
method_texts (Init arguments) name s = argument_texts arguments s.parameters
method_texts (Method result word arguments) name s = type_texts result s.result ++ (name_texts named.Member word name ++ argument_texts arguments s.parameters)
method_texts what name s = []

abbrev pub field_texts : What → Text → Text → List Text
field_texts (Field type word) name kind = type_texts type kind ++ name_texts named.Member word name
field_texts what name kind = []

-- of the class of a descriptor, where there is one name alone
abbrev pub class_texts : List Word → Text → List Text
class_texts [] t = []
class_texts (w ∷ []) t = name_texts named.Class w (inner (item_of t))
class_texts (w ∷ v ∷ ws) t = []
