-- The wildcards of a class specification, in the order of its text, and what a reference may name of them (ProGuard manual, "Class
-- specifications"). Wildcards are `?`, `*` and `**` in names, and `***` and `%` as types; stars side by side are one. `...`, and a `*`
-- that names all members, are none.
use Rattle.std.specs.Prelude.{ℕ, zero, suc, ◌+◌, ◌-◌, Bool, true, false, ◌&&◌, if◌then◌else◌, nat_eq, nat_lt, List, [], ◌∷◌, ◌++◌, replicate, codes, Option, Some, None, slice_index_or}
use Rattle.std.specs.List.{flat_map}
use Rattle.rule_text.specs.declared.pattern.Piece.{Piece}
use Rattle.rule_text.specs.declared.pattern.Piece.TheVariants as piece
use Rattle.rule_text.specs.Pieces.{characters, pieces_of, merged, is_primitive_word}
use Rattle.rule_text.specs.Rules.{Condition, Mark, Has, Arguments, Any, These, What, All, Fields, Methods, Init, Field, Method, MemberRule, Above, ClassRule}
use Rattle.rule_text.specs.Spelling.{word_eq}
use Rattle.rule_text.specs.Tokens.{Word}
use Rattle.if_text.specs.declared.parts.Part.{Part}
use Rattle.if_text.specs.declared.parts.Part.TheVariants.{Byte, Ref}
use Rattle.if_text.specs.declared.slots.Source.{Source}
use Rattle.if_text.specs.declared.slots.Source.TheVariants.{Nothing, Name, Line}

-- ---- how many there are

abbrev pub is_wild : Piece → Bool
is_wild (piece.Exactly u) = false
is_wild p = true

abbrev pub wild_count : List Piece → ℕ
wild_count [] = 0
wild_count (p ∷ ps) = (if is_wild p then 1 else 0) + wild_count ps

abbrev pub name_wilds : Word → ℕ
name_wilds w = wild_count (merged (pieces_of (characters w)))

-- nothing but pairs of brackets
abbrev pub are_brackets : Word → Bool
are_brackets [] = true
are_brackets (c ∷ []) = false
are_brackets (c ∷ d ∷ cs) = nat_eq c 91 && nat_eq d 93 && are_brackets cs

-- the word of a type without the brackets behind it
abbrev pub bare : Word → Word
bare [] = []
bare (c ∷ cs) = if are_brackets (c ∷ cs) then [] else c ∷ bare cs

abbrev pub item_wilds : Word → ℕ
item_wilds w = if word_eq w (codes "***") then 1 else if word_eq w (codes "%") then 1 else if is_primitive_word w then 0 else name_wilds w

abbrev pub type_wilds : Word → ℕ
type_wilds w = item_wilds (bare w)

abbrev pub types_wilds : List Word → ℕ
types_wilds [] = 0
types_wilds (w ∷ ws) = type_wilds w + types_wilds ws

abbrev pub argument_wilds : Arguments → ℕ
argument_wilds Any = 0
argument_wilds (These ws) = types_wilds ws

abbrev pub what_wilds : What → ℕ
what_wilds All = 0
what_wilds Fields = 0
what_wilds Methods = 0
what_wilds (Init arguments) = argument_wilds arguments
what_wilds (Field kind name) = type_wilds kind + name_wilds name
what_wilds (Method result name arguments) = type_wilds result + (name_wilds name + argument_wilds arguments)

-- ---- what a reference may name

abbrev pub blanks : ℕ → List Source
blanks n = replicate n Nothing

-- so many in their order, from a number on
abbrev pub numbered : (ℕ → Source) → ℕ → ℕ → List Source
numbered make from zero = []
numbered make from (suc n) = make from ∷ numbered make (suc from) n

-- an annotation's wildcards count, and no reference may name one
abbrev pub condition_slots : Condition → List Source
condition_slots (Mark name) = blanks (name_wilds name)
condition_slots (Has negated access) = []

-- those of the name of the class, where there is one name alone
abbrev pub name_slots : List Word → List Source
name_slots [] = []
name_slots (w ∷ []) = numbered (λ i. Name i) 0 (name_wilds w)
name_slots (w ∷ v ∷ ws) = flat_map (λ w. blanks (name_wilds w)) (w ∷ v ∷ ws)

abbrev pub mark_slots : Option Word → List Source
mark_slots (Some name) = blanks (name_wilds name)
mark_slots None = []

abbrev pub above_slots : Option Above → List Source
above_slots (Some a) = mark_slots a.mark ++ blanks (name_wilds a.name)
above_slots None = []

-- those of what a line names, where there is one line alone
abbrev pub line_slots : MemberRule → List Source
line_slots m = flat_map condition_slots m.conditions ++ numbered (λ i. Line i) 0 (what_wilds m.what)

abbrev pub lines_slots : List MemberRule → List Source
lines_slots [] = []
lines_slots (m ∷ []) = line_slots m
lines_slots (m ∷ k ∷ ms) = []

abbrev pub members_slots : Option (List MemberRule) → List Source
members_slots (Some ms) = lines_slots ms
members_slots None = []

abbrev pub slots : ClassRule → List Source
slots c = flat_map condition_slots c.conditions ++ (name_slots c.names ++ (above_slots c.above ++ members_slots c.members))

-- Numbers count from 1.
abbrev pub source_in : List Source → ℕ → Source
source_in ss n = if nat_lt 0 n && nat_lt n 1000 then slice_index_or ss (n - 1) Nothing else Nothing

abbrev pub source_of : ClassRule → ℕ → Source
source_of c n = source_in (slots c) n

abbrev pub is_something : Source → Bool
is_something Nothing = false
is_something s = true

abbrev pub is_good_in : List Source → Part → Bool
is_good_in ss (Byte c) = true
is_good_in ss (Ref n) = is_something (source_in ss n)
