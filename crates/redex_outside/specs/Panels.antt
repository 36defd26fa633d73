-- What a panel of advisers answers.
use Rattle.std.specs.Prelude.{◌≡◌, ◌<◌, ℕ, Bool, false, List, [], ◌∷◌, ◌++◌, length, take, drop, map, All}
use Rattle.std.specs.List.{list_all, flat_map}
use Rattle.redex_outside.specs.declared.adviser.Ask.{Ask}
use Rattle.redex_outside.specs.Turns.{Turn, weigh_count}
use Rattle.redex_outside.specs.Voices.{Voice, HasTaken, SameVoice, HasAnswered, HasReplied}

-- Each adviser has taken this turn.
abbrev pub AllTold : Turn → List Voice → List Voice → Type 0
AllTold turn [] [] = Unit {0}
AllTold turn (old ∷ olds) (new ∷ news) = HasTaken turn old new × AllTold turn olds news
AllTold turn _ _ = ⊥

-- Each adviser was asked, and gave the answer at its place.
abbrev pub AllAnswered : Ask → List Voice → List Bool → List Voice → Type 0
AllAnswered ask [] [] [] = Unit {0}
AllAnswered ask (old ∷ olds) (answer ∷ answers) (new ∷ news) = HasAnswered ask old answer new × AllAnswered ask olds answers news
AllAnswered ask _ _ _ = ⊥

-- Each adviser replies as before.
abbrev pub AllUnchanged : List Voice → List Voice → Type 0
AllUnchanged [] [] = Unit {0}
AllUnchanged (old ∷ olds) (new ∷ news) = SameVoice old new × AllUnchanged olds news
AllUnchanged _ _ = ⊥

-- The advisers before one of them have taken this turn, and from that one on they reply as before.
pub record SomeTold (turn : Turn) (olds news : List Voice) : Type 0 where
  pub place : ℕ
  pub within : place < length olds
  pub told : AllTold turn (take place olds) (take place news)
  pub untold : AllUnchanged (drop place olds) (drop place news)

-- Each adviser was asked. The answers went behind those before, in order, and this is true where all of them are yes.
pub record AskedAll (ask : Ask) (olds news : List Voice) (before after : List Bool) (all : Bool) : Type 0 where
  pub given : List Bool
  pub grown : after ≡ before ++ given
  pub answered : AllAnswered ask olds given news
  pub all_yes : all ≡ list_all (λ answer. answer) given

-- The first answer of a row.
abbrev pub first_of : List Bool → Bool
first_of [] = false
first_of (answer ∷ answers) = answer

-- The answers of the first adviser, and those of the others, where each row has the answers to one ask.
abbrev pub first_answers : List (List Bool) → List Bool
first_answers rows = map first_of rows

abbrev pub other_answers : List (List Bool) → List (List Bool)
other_answers rows = map (drop 1) rows

-- Each adviser gave the answers at its place in the rows, in order, to the asks among these turns.
abbrev pub EachReplied : List Turn → List Voice → List (List Bool) → List Voice → Type 0
EachReplied turns [] rows [] = Unit {0}
EachReplied turns (old ∷ olds) rows (new ∷ news) =
    HasReplied turns old (first_answers rows) new × EachReplied turns olds (other_answers rows) news
EachReplied turns _ rows _ = ⊥

-- The advisers took these turns. Behind the answers before there is a row for each ask among them, which has an
-- answer of each adviser, in order. Read by adviser, the answers are its replies to these turns.
pub record HasRun (turns : List Turn) (olds news : List Voice) (before after : List Bool) : Type 0 where
  pub rows : List (List Bool)
  pub grown : after ≡ before ++ flat_map (λ row. row) rows
  pub each_ask : length rows ≡ weigh_count turns
  pub each_adviser : All (λ row. length row ≡ length olds) rows
  pub replied : EachReplied turns olds rows news
