-- What clap gives for a command: the uses that the words make, where each value may stand.
use Rattle.std.proofs.Common.{◌≡◌, ℕ, Bool, true, false, cond, List, [], ◌∷◌, ◌++◌, map, Option, Some, None, option_map, option_and_then, codes, bytes_eq, is_some, inl, inr, refl, sym, ap, subst, ◌∙◌, arith}
use Rattle.std.specs.Prelude.{◌&&◌, ◌||◌, not, fold, find, if◌then◌else◌, ⊤, ◌⊎◌}
use Rattle.std.specs.Option.{option_map_or}
use Rattle.clap.specs.Walk.{Held, Row, Rule, Text, Walk, arg_by_long, arg_by_index, arg_by_id, finished, has_row, nothing_held, settled, walk, walk_from, with_default}
use Rattle.clap.specs.Simple.{App, Shape, argument_words, built, entered, filled, matches_of, with_index}
use Rattle.clap.specs.Kinds.{Kinds, or_else}
use Rattle.clap.specs.Faults.{check_fault, defaults_fault, default_fault, entered_fault, fault_of, settle_fault, walk_fault}
use Rattle.command_line.specs.Spelling.{Valued, Spare, AtMost, Library}
use Rattle.command_line.specs.Parsing.{app_for, are_apt, flag_rule, operand_rule, valued_rule}
use Rattle.command_line.proofs.Walked.{IsOption, Serves, outcome, pass, pass-or, run, uses_from, free, walked-uses}

abbrev pub shape_for : Text → Shape
shape_for name = (built (app_for name)).top

-- the arguments, built
abbrev pub operand : Rule
operand = with_index 1 (filled operand_rule)

abbrev pub spare : Rule
spare = filled (valued_rule (codes "spare"))

abbrev pub at_most : Rule
at_most = filled (valued_rule (codes "at-most"))

abbrev pub library : Rule
library = filled (valued_rule (codes "library"))

abbrev pub inline : Rule
inline = filled (flag_rule (codes "inline"))

abbrev pub all_rules : List Rule
all_rules = operand ∷ spare ∷ at_most ∷ library ∷ inline ∷ []

rules_are : (name : Text) → (shape_for name).rules ≡ all_rules
rules_are name = refl

is_spare : (name : Text) → IsOption (shape_for name) spare
is_spare name = record { by_id = refl; one = λ h. refl; refuses = λ h rows o. refl }

is_at_most : (name : Text) → IsOption (shape_for name) at_most
is_at_most name = record { by_id = refl; one = λ h. refl; refuses = λ h rows o. refl }

is_library : (name : Text) → IsOption (shape_for name) library
is_library name = record { by_id = refl; one = λ h. refl; refuses = λ h rows o. refl }

is_inline : (name : Text) → IsOption (shape_for name) inline
is_inline name = record { by_id = refl; one = λ h. cc; refuses = λ h rows o. cc }

one_of_two : {X : Type 0} (b : Bool) (x a : X) (rest : Option X) → (if b then Some x else rest) ≡ Some a → (x ≡ a) ⊎ (rest ≡ Some a)
one_of_two true x a rest h = inl cc
one_of_two false x a rest h = inr h

options_are : (name long : Text) (a : Rule) → arg_by_long (shape_for name).rules long ≡ Some a → IsOption (shape_for name) a
options_are name long a h = elim (one_of_two (bytes_eq (codes "spare") long || false) spare a _ h) [
  | inl is ↦ subst (IsOption (shape_for name)) is (is_spare name)
  | inr h2 ↦ elim (one_of_two (bytes_eq (codes "at-most") long || false) at_most a _ h2) [
    | inl is ↦ subst (IsOption (shape_for name)) is (is_at_most name)
    | inr h3 ↦ elim (one_of_two (bytes_eq (codes "library") long || false) library a _ h3) [
      | inl is ↦ subst (IsOption (shape_for name)) is (is_library name)
      | inr h4 ↦ elim (one_of_two (bytes_eq (codes "inline") long || false) inline a _ h4) [
        | inl is ↦ subst (IsOption (shape_for name)) is (is_inline name)
        | inr h5 ↦ cc
      ]
    ]
  ]
]

pub serves : (name : Text) → Serves (shape_for name) operand
serves name = record { operand = refl; operand_id = refl; several = refl; appends = refl; trailing = refl; options = options_are name }

-- ---- no argument has a default

abbrev NoDefaults : List Rule → Type 0
NoDefaults [] = ⊤
NoDefaults (a ∷ rest) = (a.defaults ≡ []) × NoDefaults rest

no_defaults : NoDefaults all_rules
no_defaults = (refl, (refl, (refl, (refl, (refl, tt)))))

or_true : (b : Bool) → (b || true) ≡ true
or_true true = refl
or_true false = refl

same_rows : (b : Bool) (rows : List Row) → (if b then rows else rows) ≡ rows
same_rows true rows = refl
same_rows false rows = refl

default-same : (rows : List Row) (a : Rule) → a.defaults ≡ [] → with_default rows a ≡ rows
default-same rows a e = rw e (same_rows (has_row a.id rows) rows)

defaults-same : (rules : List Rule) (rows : List Row) → NoDefaults rules → fold with_default rows rules ≡ rows
defaults-same [] rows h = refl
defaults-same (a ∷ rest) rows h = rw (default-same rows a h.0) (defaults-same rest rows h.1)

default_fault-none : (rows : List Row) (a : Rule) → a.defaults ≡ [] → default_fault rows a ≡ []
default_fault-none rows a e = rw (e, or_true (has_row a.id rows)) refl

defaults_fault-none : (rules : List Rule) (rows : List Row) → NoDefaults rules → defaults_fault rows rules ≡ []
unfolding defaults_fault
defaults_fault-none [] rows h = refl
defaults_fault-none (a ∷ rest) rows h = rw (default_fault-none rows a h.0) (defaults_fault-none rest (with_default rows a) h.1)

-- ---- the whole parse

entered-none : (name : Text) (stop : Option (Text × List Text)) → entered (built (app_for name)) stop ≡ None
entered-none name None = refl
entered-none name (Some p) = refl

entered_fault-none : (name : Text) (stop : Option (Text × List Text)) → entered_fault (built (app_for name)) stop ≡ []
entered_fault-none name None = refl
entered_fault-none name (Some p) = refl

check_fault-none : (name : Text) (rows : List Row) → check_fault (shape_for name) rows false ≡ []
check_fault-none name rows = refl

-- the words behind the command give rows, or a kind of error
pub taken : (name first : Text) (words : List Text) → are_apt words ≡ true
    → pass (fault_of (app_for name) (first ∷ words)) (Some (matches_of (app_for name) (first ∷ words))) ≡ run false [] (uses_from all_rules operand free words)
taken name first words apt =
    let end : Held = (walk (shape_for name).rules [] nothing_held words).held in
    let stop : Option (Text × List Text) = (walk (shape_for name).rules [] nothing_held words).stopped in
    let f : Kinds = walk_fault (shape_for name) [] (walk_from nothing_held) words in
    let g : Kinds = settle_fault (shape_for name).rules false end in
    let rows : List Row = (settled (shape_for name).rules end).rows in
    let shown : fault_of (app_for name) (first ∷ words) ≡ or_else f (or_else g []) =
    rw (entered-none name stop, entered_fault-none name stop, defaults_fault-none all_rules rows no_defaults) refl in
    let made : matches_of (app_for name) (first ∷ words) ≡ rows = defaults-same all_rules rows no_defaults in
    rw (shown, made) (pass-or f (or_else g []) (Some rows) ∙ ap (pass f) (pass-or g [] (Some rows)) ∙ walked-uses (shape_for name) operand (serves name) words apt)
