-- What names and types with wildcards match (ProGuard manual, "Class specifications"). In the name of a class `?` is one
-- character other than a dot, `*` any characters without a dot and `**` any characters; `*` alone matches every class.
-- In the name of a member `?` and `*` match any characters.
use Rattle.std.specs.Prelude.{ℕ, zero, suc, Bool, true, false, ◌&&◌, ◌||◌, if◌then◌else◌, List, [], ◌∷◌, map, length, codes}
use Rattle.std.specs.List.{list_any}
use Rattle.rule_text.specs.declared.pattern.Named.{Named}
use Rattle.rule_text.specs.declared.pattern.Named.TheVariants as named
use Rattle.rule_text.specs.Glob.{matches_of}
use Rattle.rule_text.specs.Pieces.{characters, pieces_of, primitives, is_primitive_word, ends_in_brackets}
use Rattle.dalvik_defs.specs.Names.{Text, text_eq, is_array, is_class_type, item_of}
use Rattle.rule_text.specs.Tokens.{Word}
use Rattle.rule_text.specs.Rules.{Arguments, Any, These}
use Rattle.rule_text.specs.Spelling.{word_eq}

abbrev pub matches : Named → Word → Text → Bool
matches kind word text = matches_of kind (pieces_of (characters word)) text

-- ---- classes

-- the name in the descriptor of a class
abbrev pub inner : Text → Text
inner [] = []
inner (u ∷ []) = []
inner (u ∷ v ∷ us) = u ∷ inner (v ∷ us)

abbrev pub is_star : Word → Bool
is_star w = word_eq (characters w) (codes "*")

-- whether a name matches the class of a descriptor
abbrev pub class_name_fits : Word → Text → Bool
class_name_fits w t = is_class_type t && (is_star w || matches named.Class w (inner (item_of t)))

abbrev pub some_name_fits : List Word → Text → Bool
some_name_fits ws t = list_any (λ w. class_name_fits w t) ws

abbrev pub member_name_fits : Word → Text → Bool
member_name_fits w t = matches named.Member w t

-- ---- types

abbrev pub is_primitive_of : Word → Text → Bool
is_primitive_of w t = list_any (λ q. word_eq q.0 w && text_eq q.1 t) primitives

abbrev pub is_primitive : Text → Bool
is_primitive t = list_any (text_eq t) (map (λ u. u ∷ []) (codes "ZBCSIJFD"))

-- The word of a type's item
abbrev pub without_brackets : Word → Word
without_brackets [] = []
without_brackets (c ∷ []) = c ∷ []
without_brackets (c ∷ d ∷ []) = []
without_brackets (c ∷ d ∷ e ∷ cs) = c ∷ without_brackets (d ∷ e ∷ cs)

-- `***` is any type, `%` any primitive type but void; wildcards match class types alone
abbrev pub item_fits : Word → Text → Bool
item_fits w t =
    if word_eq w (codes "***") then true
    else if word_eq w (codes "%") then is_primitive t
    else if is_primitive_word w then is_primitive_of w t
    else is_class_type t && matches named.Class w (inner (item_of t))

-- a type of at most so many dimensions
abbrev pub type_fits_in : ℕ → Word → Text → Bool
type_fits_in zero w t = item_fits w t
type_fits_in (suc n) w t = if ends_in_brackets w then is_array t && type_fits_in n (without_brackets w) (item_of t) else item_fits w t

abbrev pub type_fits : Word → Text → Bool
type_fits w t = type_fits_in (length w) w t

-- one for each
abbrev pub types_fit : List Word → List Text → Bool
types_fit [] [] = true
types_fit [] (t ∷ ts) = false
types_fit (w ∷ ws) [] = false
types_fit (w ∷ ws) (t ∷ ts) = type_fits w t && types_fit ws ts

abbrev pub arguments_fit : Arguments → List Text → Bool
arguments_fit Any ts = true
arguments_fit (These ws) ts = types_fit ws ts
