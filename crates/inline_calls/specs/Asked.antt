-- What is asked about calls, and what the asks add to the answers of a panel.
use Rattle.std.specs.Prelude.{◌≡◌, ℕ, ◌+◌, Bool, if◌then◌else◌, List, [], ◌∷◌, ◌++◌, length, map, flat_map, All, Option, Some, None, slice_get}
use Rattle.std.specs.List.{list_all}
use Rattle.program_model.specs.Texts.{string_text, type_text}
use Rattle.program_model.specs.declared.pools.MethodName.{MethodName}
use Rattle.program_model.specs.declared.program.Program.{Program}
use Rattle.redex_outside.specs.declared.adviser.Ask.{Ask}
use Rattle.redex_outside.specs.Turns.{Turn, Weighed}
use Rattle.redex_outside.specs.Voices.{Voice}
use Rattle.redex_outside.specs.Panels.{EachReplied}

-- ---- the texts of an ask

-- `(PARAMETERS)RESULT`, empty where there is no such proto
abbrev pub proto_text : Program → ℕ → List ℕ
proto_text p n = elim (slice_get p.protos n) [ Some q ↦ 40 ∷ (flat_map (type_text p) q.parameters ++ 41 ∷ type_text p q.result) | None ↦ [] ]

-- the proto of a method, empty where there is none
abbrev pub signature_of : Program → Option MethodName → List ℕ
signature_of p (Some m) = proto_text p m.proto
signature_of p None = []

abbrev pub signature_text : Program → ℕ → List ℕ
signature_text p method = signature_of p (slice_get p.methods method)

-- ---- asks and their answers

-- one ask, with an answer of each adviser
pub record Row : Type 0 where
  pub ask : Ask
  pub answers : List Bool

abbrev pub answers_of : Row → List Bool
answers_of r = r.answers

-- every adviser says yes
abbrev pub is_agreed : Row → Bool
is_agreed r = list_all (λ yes. yes) r.answers

-- how many of the asks every adviser answers with yes
abbrev pub agreed : Row → ℕ
agreed r = if is_agreed r then 1 else 0

abbrev pub agreed_count : List Row → ℕ
agreed_count [] = 0
agreed_count (r ∷ rs) = agreed r + agreed_count rs

abbrev pub turn_of : Row → Turn
turn_of r = Weighed r.ask

-- These advisers were asked, one ask after the other: behind the answers before stand those to each ask, one of each adviser. Read
-- by adviser, the answers are what it would have replied at the beginning to these asks in order.
pub record AreAnswered (rows : List Row) (olds news : List Voice) (before after : List Bool) : Type 0 where
  pub grown : after ≡ before ++ flat_map answers_of rows
  pub each_adviser : All (λ r. length (answers_of r) ≡ length olds) rows
  pub replied : EachReplied (map turn_of rows) olds (map answers_of rows) news

-- the same of some asks for which this holds
pub record Asks (olds news : List Voice) (before after : List Bool) (P : List Row → Type 0) : Type 0 where
  pub rows : List Row
  pub answered : AreAnswered rows olds news before after
  pub holds : P rows

abbrev pub NoAsks : List Row → Type 0
NoAsks rows = rows ≡ []
