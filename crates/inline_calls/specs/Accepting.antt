-- What is asked about the calls of one caller, and what is accepted.
use Rattle.std.specs.Prelude.{◌≡◌, ℕ, ◌+◌, ◌≤◌, Bool, true, false, List, [], ◌∷◌, ◌++◌, Option, Some, None, length}
use Rattle.program_model.specs.Cells.{capped}
use Rattle.program_model.specs.Texts.{type_text}
use Rattle.program_model.specs.declared.program.Program.{Program}
use Rattle.redex_outside.specs.declared.adviser.Ask.{Ask}
use Rattle.splice.specs.declared.callee.Callee.{Callee}
use Rattle.splice.specs.declared.spliced.Spliced.{Spliced}
use Rattle.splice.specs.Shifted.{word}
use Rattle.inline_calls.specs.declared.site.Caller.{Caller}
use Rattle.inline_calls.specs.declared.caller.Inliner.{Inliner}
use Rattle.inline_calls.specs.declared.caller.Accepted.{Accepted}
use Rattle.inline_calls.specs.Asked.{Row, is_agreed, agreed_count, signature_text}
use Rattle.inline_calls.specs.Candidates.{IsCandidate, IsUnsuited, IsWith, name_units}
use Rattle.inline_calls.specs.Rooms.{HasRoom, LacksRoom, spliced_by, new_of}

-- the ask about a call: the caller's names, the position, and how many instructions the method has that is called there
abbrev pub ask_of : Program → Caller → ℕ → Callee → Ask
ask_of p c n y = record {
  class = type_text p c.class.now.name;
  name = name_units p c.method.now.name;
  proto = signature_text p c.method.now.name;
  instructions = word (length y.body.now.insns);
  site = Some (word n);
}

-- this was asked, and every adviser says yes or some one no
pub record IsAsked (p : Program) (c : Caller) (n : ℕ) (y : Callee) (yes : Bool) (rows : List Row) : Type 0 where
  pub row : Row
  pub one : rows ≡ row ∷ []
  pub ask : row.ask ≡ ask_of p c n y
  pub agreed : yes ≡ is_agreed row

-- A call that may be a site is asked about where the caller has room with these methods copied. It gives the new body where
-- every adviser says yes.
pub data Weighs (i : Inliner) (c : Caller) (cells n : ℕ) (y : Callee) (chosen : List (Option Callee)) : List Row → Option Spliced → Type 0 where
  Unasked : LacksRoom i c cells (spliced_by i c chosen).body → Weighs i c cells n y chosen [] None
  Refused : (row : Row) → HasRoom i c cells (spliced_by i c chosen).body → row.ask ≡ ask_of i.known.program.now c n y → is_agreed row ≡ false → Weighs i c cells n y chosen (row ∷ []) None
  Agreed : (row : Row) → HasRoom i c cells (spliced_by i c chosen).body → row.ask ≡ ask_of i.known.program.now c n y → is_agreed row ≡ true → Weighs i c cells n y chosen (row ∷ []) (Some (spliced_by i c chosen))

-- what is chosen behind an ask
abbrev pub chosen_by : Option Spliced → List (Option Callee) → List (Option Callee) → List (Option Callee)
chosen_by None old new = old
chosen_by (Some s) old new = new

-- What is asked about a position and what is chosen then: nothing new where no method is a candidate, and else a candidate
-- more where it is accepted.
pub data Tries (i : Inliner) (c : Caller) (cells n : ℕ) (old : List (Option Callee)) : List Row → List (Option Callee) → Type 0 where
  Unsuited : IsUnsuited i.known c n → Tries i c cells n old [] old
  Suited : (y : Callee) (new : List (Option Callee)) (rows : List Row) (s : Option Spliced) → IsCandidate i.known c n y → IsWith old n y new → Weighs i c cells n y new rows s → Tries i c cells n old rows (chosen_by s old new)

-- the same of the first positions, one after the other
pub data HasTried (i : Inliner) (c : Caller) (cells : ℕ) : ℕ → List Row → List (Option Callee) → Type 0 where
  Untried : HasTried i c cells 0 [] []
  Tried : (n : ℕ) (rows more : List Row) (old new : List (Option Callee)) → HasTried i c cells n rows old → Tries i c cells n old more new → HasTried i c cells (n + 1) (rows ++ more) new

-- what is accepted of the first positions
pub record IsAccepted (i : Inliner) (c : Caller) (cells n : ℕ) (a : Accepted) (rows : List Row) : Type 0 where
  pub within : n ≤ length c.body.now.insns
  pub tried : HasTried i c cells n rows a.chosen.items
  pub spliced : a.spliced ≡ new_of i c a.chosen.items
  pub count : a.count ≡ capped (agreed_count rows)

-- one position more
pub record GoesOn (i : Inliner) (c : Caller) (cells n : ℕ) (a b : Accepted) (rows : List Row) : Type 0 where
  pub tries : Tries i c cells n a.chosen.items rows b.chosen.items
  pub spliced : a.spliced ≡ new_of i c a.chosen.items → b.spliced ≡ new_of i c b.chosen.items
  pub count : (k : ℕ) → a.count ≡ capped k → b.count ≡ capped (k + agreed_count rows)
