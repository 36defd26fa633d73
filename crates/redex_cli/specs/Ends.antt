-- How a run of words ends, why, and what it leaves.
use Rattle.std.specs.Prelude.{◌≡◌, ◌⊎◌, ◌++◌, ℕ, List, Bool, IsTrue}
use Rattle.program_model.specs.declared.limits.Counted.{Counted}
use Rattle.redex_outside.specs.Held.{Held}
use Rattle.redex_outside.specs.Voices.{Voice}
use Rattle.redex_cli.specs.Commands.{Puts, SpellsNothing}
use Rattle.redex_cli.specs.Fetching.{Failures}
use Rattle.redex_cli.specs.Finished.{Results}
use Rattle.redex_cli.specs.Refusals.{CouldNotFetch, CouldNotPut, CouldNotSay, EndsTooLong, EndsUnspelled, HasBadLine, HasFileFault, HasRulesFault, HoldsSummed, OutputBy, PassesLimit, ReadsAll, TooLong}
use Rattle.redex_cli.specs.Said.{Said}
use Rattle.redex_cli.specs.Stays.{Stays}
use Rattle.redex_cli.specs.declared.status.Status.{Status}
use Rattle.redex_cli.specs.declared.status.Status.TheVariants.{Done, Usage, BadRules, BadDex, Limit, ReadFault, WriteFault, NoMemory, BadScript}

-- Why a run of these words ends with this status: what its counts say, and the faults that are carried. Where the shelf tells what it holds,
-- nothing that comes before in the order of refusals is refused.
abbrev pub Caused : List (List ℕ) → Bool → Held → Failures → Failures → Failures → Failures → ℕ → ℕ → Status → Type 0
Caused words tells held fetches_old fetches_new puts_old puts_new notes_old notes_new Done = Unit {0}
Caused words tells held fetches_old fetches_new puts_old puts_new notes_old notes_new Usage = SpellsNothing words
Caused words tells held fetches_old fetches_new puts_old puts_new notes_old notes_new (BadRules fault) = HasRulesFault words tells held fault
Caused words tells held fetches_old fetches_new puts_old puts_new notes_old notes_new (BadDex fault) = HasFileFault words tells held fault
Caused words tells held fetches_old fetches_new puts_old puts_new notes_old notes_new (Limit fault) = PassesLimit words tells held fault
Caused words tells held fetches_old fetches_new puts_old puts_new notes_old notes_new ReadFault = CouldNotFetch words tells held fetches_old fetches_new
Caused words tells held fetches_old fetches_new puts_old puts_new notes_old notes_new WriteFault =
    CouldNotPut words tells held puts_old puts_new ⊎ CouldNotSay words tells held notes_old notes_new
Caused words tells held fetches_old fetches_new puts_old puts_new notes_old notes_new NoMemory = Unit {0}
Caused words tells held fetches_old fetches_new puts_old puts_new notes_old notes_new (BadScript line) = HasBadLine words tells held line

-- The whole result of the words' command was said, and the name that it has put, if it has one, holds the finished
-- output that this result sums up.
pub record Delivers (words : List (List ℕ)) (voices : List Voice) (tells : Bool) (old new : Held) (said_old said_new : List ℕ) : Type 0 where
  pub text : List ℕ
  pub answer : Results words voices tells old text
  pub said : said_new ≡ said_old ++ text
  pub put : (name : List ℕ) → Puts words name → HoldsSummed (OutputBy words voices tells old) text (new name)

-- All of it together.
pub record Ends (words : List (List ℕ)) (voices : List Voice) (tells : Bool) (old new : Held) (fetches_old fetches_new puts_old puts_new : Failures)
    (notes_tell : Bool) (said_old said_new : List ℕ) (notes_old notes_new : ℕ) (status : Status) : Type 0 where
  pub cause : Caused words tells old fetches_old fetches_new puts_old puts_new notes_old notes_new status
  pub unspelled : SpellsNothing words → EndsUnspelled status
  pub too_long : (counted : Counted) → IsTrue tells → TooLong words old counted → EndsTooLong counted status
  pub stays : IsTrue tells → Stays (Puts words) (OutputBy words voices tells old) status puts_old puts_new old new
  pub said : IsTrue notes_tell → Said (Results words voices tells old) status notes_old notes_new said_old said_new
  pub read : status ≡ Done → IsTrue tells → ReadsAll words old
  pub done : status ≡ Done → IsTrue tells → IsTrue notes_tell → Delivers words voices tells old new said_old said_new
