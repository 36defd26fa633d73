-- Where a run may go on: a frame and a class always, the framework where its move is legal (this project's profile). The
-- move that waits for a class is tested again when the class is initialised.
use Rattle.std.specs.Prelude.{ℕ, Bool, true, false, ◌&&◌, List, [], ◌∷◌, length, Option, Some, None, slice_get, is_some, nat_lt}
use Rattle.dalvik_defs.specs.Names.{Text}
use Rattle.dalvik_defs.specs.Find.{Found}
use Rattle.dalvik_defs.specs.Face.{Place}
use Rattle.dalvik_defs.specs.State.{World, Thing, Instance, Items, Waiting, Method, Initialiser, Ending, Outside, State, On, Ended, thing_at}
use Rattle.dalvik_defs.specs.Happens.{Setting}
use Rattle.dalvik_defs.specs.Gives.{gets, gets_all, fits, may_throw}
use Rattle.dalvik_defs.specs.Legal.{may_enter, may_make, may_answer, on_fits, is_exposed}
use Rattle.dalvik_defs.specs.Moves.{got, key_of}
use Rattle.dalvik_defs.specs.declared.names.FieldKey.{FieldKey}
use Rattle.dalvik_defs.specs.declared.script.Given.{Given}
use Rattle.dalvik_defs.specs.declared.script.Move.{Move}
use Rattle.dalvik_defs.specs.declared.script.Move.TheVariants as move

abbrev pub legal_enter : Setting → World → Option Found → List Given → Bool
legal_enter s w None gs = false
legal_enter s w (Some f) gs = may_enter s.face s.outer w (gets_all w gs).0 f gs (gets_all w gs).1

abbrev pub legal_answer : Setting → World → Option Text → Option Given → Bool
legal_answer s w None g = false
legal_answer s w (Some kind) g = may_answer s.face s.outer w kind g

abbrev pub legal_throw : Setting → World → Option Text → Given → Bool
legal_throw s w None g = false
legal_throw s w (Some kind) g = may_throw s.face s.outer w (gets w g).0 g (gets w g).1

abbrev pub legal_read : Setting → World → FieldKey → Option Place → Option Given → Bool
legal_read s w k None on = false
legal_read s w k (Some place) on = s.outer.fields k && on_fits s.face s.outer w (got w on).0 k place on (got w on).1

abbrev pub legal_write : Setting → World → FieldKey → Option Place → Option Given → Given → Bool
legal_write s w k None on g = false
legal_write s w k (Some place) on g = let a = got w on in let b = gets a.0 g in
    s.outer.fields k && on_fits s.face s.outer w a.0 k place on a.1 && fits s.face s.outer a.0 b.0 g b.1 k.kind

abbrev pub has_item : Option Thing → ℕ → Bool
has_item (Some (Items kind vs)) n = is_some (slice_get vs n)
has_item (Some (Instance c fields)) n = false
has_item None n = false

abbrev pub legal_item : Setting → World → Option Thing → ℕ → Given → Bool
legal_item s w (Some (Items kind vs)) n g = fits s.face s.outer w (gets w g).0 g (gets w g).1 kind && nat_lt n (length vs)
legal_item s w (Some (Instance c fields)) n g = false
legal_item s w None n g = false

abbrev pub is_items : Option Thing → Bool
is_items (Some (Items kind vs)) = true
is_items (Some (Instance c fields)) = false
is_items None = false

-- a move is legal where the framework on top owes this
abbrev pub is_legal : Setting → World → Option Text → Move → Bool
is_legal s w owes (move.Enter t n q gs) = legal_enter s w (s.face.declared t n q) gs
is_legal s w owes (move.Make t) = may_make s.face s.outer t
is_legal s w owes (move.Return g) = legal_answer s w owes g
is_legal s w owes (move.Throw g) = legal_throw s w owes g
is_legal s w owes (move.Get t n k on) = legal_read s w (key_of t n k) (s.face.own_field (key_of t n k)) on
is_legal s w owes (move.Put t n k on g) = legal_write s w (key_of t n k) (s.face.own_field (key_of t n k)) on g
is_legal s w owes (move.ArrayGet g n) = is_exposed w g && has_item (thing_at w (gets w g).1) n
is_legal s w owes (move.ArrayPut on n g) = is_exposed w on && legal_item s w (thing_at w (gets w on).1) n g
is_legal s w owes (move.ArrayLength g) = is_exposed w g && is_items (thing_at w (gets w g).1)

-- the move that waits with the framework's frame, else the next one of the script
abbrev pub may_move : Setting → World → Option Text → Option Move → List Move → Bool
may_move s w owes (Some m) script = is_legal s w owes m
may_move s w owes None [] = false
may_move s w owes None (m ∷ rest) = is_legal s w owes m

-- A run goes on from a state, as far as the framework's moves go: its frames and classes may always.
abbrev pub may_go : Setting → State → Bool
may_go s Ended = true
may_go s (On w c [] script) = true
may_go s (On w c (Method f ∷ r) script) = true
may_go s (On w c (Initialiser t a ∷ r) script) = true
may_go s (On w c (Ending t ∷ r) script) = true
may_go s (On w c (Outside owes pending ∷ r) script) = may_move s w owes pending script
