-- The rows of a script: types of the framework, and what float arithmetic answers (this project's profile).
use Rattle.std.specs.Prelude.{ℕ, Bool, true, false, List, [], ◌∷◌, Option, Some, None, codes, option_map, option_and_then, if◌then◌else◌}
use Rattle.dalvik_defs.specs.Names.{Text, text_eq}
use Rattle.dalvik_defs.specs.declared.tables.FloatOp.{FloatOp}
use Rattle.dalvik_defs.specs.declared.tables.FloatRow.{FloatRow}
use Rattle.dalvik_defs.specs.declared.tables.FrameworkType.{FrameworkType}
use Rattle.text_defs.specs.Escapes.{name_of}
use Rattle.text_defs.specs.Words.{all_of}
use Rattle.text_defs.specs.Values.{word_of, wide_of}
use Rattle.text_defs.specs.FloatNames.{float_named, takes_wides, gives_wide, takes_one}

-- `class` or `interface`
abbrev pub is_interface_word : List ℕ → Option Bool
is_interface_word word = if text_eq word (codes "class") then Some false
    else if text_eq word (codes "interface") then Some true else None

abbrev pub row_of : Text → Bool → Text → List Text → FrameworkType
row_of name interface superclass interfaces = record { name = name; interface = interface; superclass = superclass; interfaces = interfaces }

-- TYPE, what it is, its superclass and its interfaces
abbrev pub framework_row : List (List ℕ) → Option FrameworkType
framework_row (name ∷ which ∷ superclass ∷ interfaces) =
    option_and_then (λ n. option_and_then (λ i. option_and_then (λ s. option_map (row_of n i s) (all_of name_of interfaces))
    (name_of superclass)) (is_interface_word which)) (name_of name)
framework_row words = None

-- a value of this width
abbrev pub number_as : Bool → List ℕ → Option ℕ
number_as wide word = if wide then wide_of word else word_of word

abbrev pub float_row_of : FloatOp → ℕ → ℕ → ℕ → FloatRow
float_row_of op a b result = record { op = op; a = a; b = b; result = result }

abbrev pub one_operand : FloatOp → List (List ℕ) → Option FloatRow
one_operand op (a ∷ result ∷ []) =
    option_and_then (λ x. option_map (float_row_of op x 0) (number_as (gives_wide op) result)) (number_as (takes_wides op) a)
one_operand op words = None

abbrev pub two_operands : FloatOp → List (List ℕ) → Option FloatRow
two_operands op (a ∷ b ∷ result ∷ []) =
    option_and_then (λ x. option_and_then (λ y. option_map (float_row_of op x y) (number_as (gives_wide op) result))
    (number_as (takes_wides op) b)) (number_as (takes_wides op) a)
two_operands op words = None

-- an operation, its operands and its result
abbrev pub float_row : List (List ℕ) → Option FloatRow
float_row [] = None
float_row (name ∷ numbers) = option_and_then (λ op. if takes_one op then one_operand op numbers else two_operands op numbers) (float_named name)
