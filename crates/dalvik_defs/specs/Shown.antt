-- When two programs show the same (this project's profile).
use Rattle.std.specs.Prelude.{◌≡◌, ℕ, ◌^◌, Bool, true, false, ◌&&◌, ◌||◌, not, List, [], ◌∷◌, ◌++◌, map, Option, Some, None, nat_lt}
use Rattle.std.specs.List.{list_any, list_all}
use Rattle.dalvik_defs.specs.Names.{Text, base_of, object_type, string_type, class_type}
use Rattle.dalvik_defs.specs.Known.{known_rows}
use Rattle.dalvik_defs.specs.Under.{defines}
use Rattle.dalvik_defs.specs.Outer.{Outer}
use Rattle.dalvik_defs.specs.Step.{shows}
use Rattle.dalvik_defs.specs.declared.script.Given.{Given}
use Rattle.dalvik_defs.specs.declared.script.Given.TheVariants as given
use Rattle.dalvik_defs.specs.declared.script.Move.{Move}
use Rattle.dalvik_defs.specs.declared.script.Move.TheVariants as move
use Rattle.dalvik_defs.specs.declared.events.Event.{Event}
use Rattle.dalvik_defs.specs.declared.program.NamedProgram.{NamedProgram}
use Rattle.dalvik_defs.specs.declared.tables.FrameworkType.{FrameworkType}
use Rattle.dalvik_defs.specs.declared.tables.Framework.{Framework}
use Rattle.dalvik_defs.specs.declared.tables.Floats.{Floats}

-- the types that a row has or names
abbrev pub named_by : FrameworkType → List Text
named_by r = r.name ∷ r.superclass ∷ r.interfaces

-- the classes whose names the machine itself gives a meaning
abbrev pub reserved : List Text
reserved = object_type ∷ string_type ∷ class_type ∷ map (λ r. r.name) known_rows

-- no value asks for a class of the program that isn't kept
abbrev pub fit_given : NamedProgram → Outer → Given → Bool
fit_given p o (given.New kind) = not (defines p (base_of kind)) || o.classes (base_of kind)
fit_given p o (given.Array item size) = not (defines p (base_of item)) || o.classes (base_of item)
fit_given p o g = true

abbrev pub fit_option : NamedProgram → Outer → Option Given → Bool
fit_option p o (Some g) = fit_given p o g
fit_option p o None = true

abbrev pub fit_move : NamedProgram → Outer → Move → Bool
fit_move p o (move.Enter c n q gs) = list_all (fit_given p o) gs
fit_move p o (move.Make c) = true
fit_move p o (move.Return g) = fit_option p o g
fit_move p o (move.Throw g) = fit_given p o g
fit_move p o (move.Get c n k on) = fit_option p o on
fit_move p o (move.Put c n k on g) = fit_option p o on && fit_given p o g
fit_move p o (move.ArrayGet on n) = fit_given p o on
fit_move p o (move.ArrayPut on n g) = fit_given p o on && fit_given p o g
fit_move p o (move.ArrayLength on) = fit_given p o on

-- a word of 32 bits, a wide of 64, and an array of fewer than 2^31 items
abbrev pub is_ranged_given : Given → Bool
is_ranged_given (given.Word n) = nat_lt n (2 ^ 32)
is_ranged_given (given.Wide n) = nat_lt n (2 ^ 64)
is_ranged_given (given.Array item size) = nat_lt size (2 ^ 31)
is_ranged_given g = true

abbrev pub is_ranged_option : Option Given → Bool
is_ranged_option (Some g) = is_ranged_given g
is_ranged_option None = true

abbrev pub is_ranged_move : Move → Bool
is_ranged_move (move.Enter c n q gs) = list_all is_ranged_given gs
is_ranged_move (move.Make c) = true
is_ranged_move (move.Return g) = is_ranged_option g
is_ranged_move (move.Throw g) = is_ranged_given g
is_ranged_move (move.Get c n k on) = is_ranged_option on
is_ranged_move (move.Put c n k on g) = is_ranged_option on && is_ranged_given g
is_ranged_move (move.ArrayGet on n) = is_ranged_given on
is_ranged_move (move.ArrayPut on n g) = is_ranged_given on && is_ranged_given g
is_ranged_move (move.ArrayLength on) = is_ranged_given on

-- A framework and a script fit a program where no row has or names a class of it, it defines no reserved class, no
-- value of the script asks for one of its classes that isn't kept, and each is of its width.
pub record Fit (p : NamedProgram) (o : Outer) (f : Framework) (script : List Move) : Type 0 where
  pub rows : list_all (λ r. not (list_any (defines p) (named_by r))) f.rows ≡ true
  pub classes : list_any (defines p) reserved ≡ false
  pub values : list_all (fit_move p o) script ≡ true
  pub ranged : list_all is_ranged_move script ≡ true

abbrev pub IsPrefixOf : List Event → List Event → Type 0
IsPrefixOf xs ys = (rest : List Event) × (xs ++ rest ≡ ys)

-- What the one shows within any number of steps the other shows within some number, and conversely, for every framework
-- and script that fit the first, and all float arithmetic.
pub record SameShown (p q : NamedProgram) (o : Outer) : Type 0 where
  pub there : (f : Framework) (a : Floats) (script : List Move) (n : ℕ) → Fit p o f script → (m : ℕ) × IsPrefixOf (shows p o f a script n) (shows q o f a script m)
  pub back : (f : Framework) (a : Floats) (script : List Move) (n : ℕ) → Fit p o f script → (m : ℕ) × IsPrefixOf (shows q o f a script n) (shows p o f a script m)
