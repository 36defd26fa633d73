-- The words of a script that fits have 32 bits, and its arrays fewer than 2^31 items.
use Rattle.std.proofs.Common.{◌≡◌, true, List, [], ◌∷◌, Option, Some, None}
use Rattle.std.specs.Prelude.{ℕ, ◌<◌, ◌^◌, nat_lt}
use Rattle.std.specs.List.{list_all}
use Rattle.std.proofs.lemmas.Bool.{ltb-true}
use Rattle.dalvik_defs.specs.Shown.{is_ranged_given, is_ranged_option, is_ranged_move}
use Rattle.dalvik_defs.specs.declared.script.Given.{Given}
use Rattle.dalvik_defs.specs.declared.script.Given.TheVariants as given
use Rattle.dalvik_defs.specs.declared.script.Move.{Move}
use Rattle.dalvik_defs.specs.declared.script.Move.TheVariants as move
use Rattle.run_laws.specs.Holds.{Each}
use Rattle.run_laws.proofs.Registers.{and_left, and_right}
use Rattle.cover_law.specs.Known.{RangedGiven, MaybeGiven, RangedMove}

below : (a b : ℕ) → nat_lt a b ≡ true → a < b
below a b e = ltb-true a b e

ranged_given : (g : Given) → is_ranged_given g ≡ true → RangedGiven g
ranged_given given.Null e = tt
ranged_given (given.Word n) e = below n (2 ^ 32) e
ranged_given (given.Wide n) e = tt
ranged_given (given.Exposed n) e = tt
ranged_given (given.New kind) e = tt
ranged_given (given.Array item size) e = below size (2 ^ 31) e
ranged_given (given.Literal t) e = tt
ranged_given (given.Class t) e = tt

ranged_option : (g : Option Given) → is_ranged_option g ≡ true → MaybeGiven g
ranged_option None e = tt
ranged_option (Some g) e = ranged_given g e

each_given : (gs : List Given) → list_all is_ranged_given gs ≡ true → Each RangedGiven gs
each_given [] e = tt
each_given (g ∷ gs) e = (ranged_given g (and_left (is_ranged_given g) (list_all is_ranged_given gs) e), each_given gs (and_right (is_ranged_given g) (list_all is_ranged_given gs) e))

ranged_move : (x : Move) → is_ranged_move x ≡ true → RangedMove x
ranged_move (move.Enter c n q gs) e = each_given gs e
ranged_move (move.Make c) e = tt
ranged_move (move.Return g) e = ranged_option g e
ranged_move (move.Throw g) e = ranged_given g e
ranged_move (move.Get c n k on) e = ranged_option on e
ranged_move (move.Put c n k on g) e = (ranged_option on (and_left (is_ranged_option on) (is_ranged_given g) e), ranged_given g (and_right (is_ranged_option on) (is_ranged_given g) e))
ranged_move (move.ArrayGet on n) e = tt
ranged_move (move.ArrayPut on n g) e = ranged_given g (and_right (is_ranged_given on) (is_ranged_given g) e)
ranged_move (move.ArrayLength on) e = tt

pub ranged_moves : (xs : List Move) → list_all is_ranged_move xs ≡ true → Each RangedMove xs
ranged_moves [] e = tt
ranged_moves (x ∷ xs) e = (ranged_move x (and_left (is_ranged_move x) (list_all is_ranged_move xs) e), ranged_moves xs (and_right (is_ranged_move x) (list_all is_ranged_move xs) e))
