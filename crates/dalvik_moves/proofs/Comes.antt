-- What each move comes to, with the framework's frame on top of the stack.
use Rattle.std.proofs.Common.{◌≡◌, ℕ, List, ◌∷◌, ap, refl, sym, subst, ◌∙◌}
use Rattle.std.specs.Prelude.{Option, Some, None}
use Rattle.dalvik_defs.specs.Face.{Bodies}
use Rattle.dalvik_defs.specs.Happens.{Setting}
use Rattle.dalvik_defs.specs.Moves.{answers, array_get, array_length, array_put, enter, key_of, make, moves, reads, throws, writes}
use Rattle.dalvik_defs.specs.Names.{Text}
use Rattle.dalvik_defs.specs.State.{Classes, Next, World}
use Rattle.dalvik_defs.specs.declared.script.Given.{Given}
use Rattle.dalvik_defs.specs.declared.script.Move.{Move}
use Rattle.dalvik_defs.specs.declared.script.Move.TheVariants as move
use Rattle.dalvik_defs.specs.declared.state.Waiting.{Waiting}
use Rattle.dalvik_defs.specs.declared.state.Waiting.TheVariants.{Outside}
use Rattle.dalvik_moves.specs.Moving.{waits_with}

module _ (s : Setting) (find : Bodies) (w : World) (classes : Classes) (owes : Option Text) (below stack : List Waiting) (first : Move) (rest : List Move) (top : stack ≡ Outside owes (Some first) ∷ below) where
  abbrev all : Move → Next
  all m = moves s find w classes owes m below rest

  pub enter_moves : (c n q : Text) (gs : List Given) → first ≡ move.Enter c n q gs → enter s find w classes (s.face.declared c n q) gs stack (waits_with None stack) rest ≡ all first
  enter_moves c n q gs e = ap (λ (ws : List Waiting). enter s find w classes (s.face.declared c n q) gs ws (waits_with None ws) rest) top
      ∙ subst (λ (m : Move). enter s find w classes (s.face.declared c n q) gs (Outside owes (Some m) ∷ below) (Outside owes None ∷ below) rest ≡ all m) (sym e) refl

  pub make_moves : (c : Text) → first ≡ move.Make c → make s find w classes c stack (waits_with None stack) rest ≡ all first
  make_moves c e = ap (λ (ws : List Waiting). make s find w classes c ws (waits_with None ws) rest) top
      ∙ subst (λ (m : Move). make s find w classes c (Outside owes (Some m) ∷ below) (Outside owes None ∷ below) rest ≡ all m) (sym e) refl

  pub answers_moves : (g : Option Given) → first ≡ move.Return g → answers s find w classes owes g below rest ≡ all first
  answers_moves g e = subst (λ (m : Move). answers s find w classes owes g below rest ≡ all m) (sym e) refl

  pub throws_moves : (g : Given) → first ≡ move.Throw g → throws s find w classes owes g below rest ≡ all first
  throws_moves g e = subst (λ (m : Move). throws s find w classes owes g below rest ≡ all m) (sym e) refl

  pub reads_moves : (c n k : Text) (on : Option Given) → first ≡ move.Get c n k on → reads s w classes (key_of c n k) (s.face.own_field (key_of c n k)) on (waits_with None stack) rest ≡ all first
  reads_moves c n k on e = ap (λ (ws : List Waiting). reads s w classes (key_of c n k) (s.face.own_field (key_of c n k)) on (waits_with None ws) rest) top
      ∙ subst (λ (m : Move). reads s w classes (key_of c n k) (s.face.own_field (key_of c n k)) on (Outside owes None ∷ below) rest ≡ all m) (sym e) refl

  pub writes_moves : (c n k : Text) (on : Option Given) (g : Given) → first ≡ move.Put c n k on g → writes s w classes (key_of c n k) (s.face.own_field (key_of c n k)) on g (waits_with None stack) rest ≡ all first
  writes_moves c n k on g e = ap (λ (ws : List Waiting). writes s w classes (key_of c n k) (s.face.own_field (key_of c n k)) on g (waits_with None ws) rest) top
      ∙ subst (λ (m : Move). writes s w classes (key_of c n k) (s.face.own_field (key_of c n k)) on g (Outside owes None ∷ below) rest ≡ all m) (sym e) refl

  pub gets_moves : (g : Given) (n : ℕ) → first ≡ move.ArrayGet g n → array_get w classes g n (waits_with None stack) rest ≡ all first
  gets_moves g n e = ap (λ (ws : List Waiting). array_get w classes g n (waits_with None ws) rest) top
      ∙ subst (λ (m : Move). array_get w classes g n (Outside owes None ∷ below) rest ≡ all m) (sym e) refl

  pub puts_moves : (on g : Given) (n : ℕ) → first ≡ move.ArrayPut on n g → array_put s w classes on n g (waits_with None stack) rest ≡ all first
  puts_moves on g n e = ap (λ (ws : List Waiting). array_put s w classes on n g (waits_with None ws) rest) top
      ∙ subst (λ (m : Move). array_put s w classes on n g (Outside owes None ∷ below) rest ≡ all m) (sym e) refl

  pub lengths_moves : (g : Given) → first ≡ move.ArrayLength g → array_length w classes g (waits_with None stack) rest ≡ all first
  lengths_moves g e = ap (λ (ws : List Waiting). array_length w classes g (waits_with None ws) rest) top
      ∙ subst (λ (m : Move). array_length w classes g (Outside owes None ∷ below) rest ≡ all m) (sym e) refl
