-- What comes of fetching names one after another, each within the limit of what its bytes are counted as.
use Rattle.std.specs.Prelude.{◌≡◌, ◌⊎◌, ◌+◌, ◌<◌, ◌≤◌, ℕ, List, [], ◌∷◌, length, Bool, IsTrue, Option, Some, Err}
use Rattle.program_model.specs.Limits.{limit_of}
use Rattle.program_model.specs.declared.limits.Counted.{Counted}
use Rattle.program_model.specs.declared.limits.LimitFault.{LimitFault}
use Rattle.redex_outside.specs.Counts.{Rose, NoneFell}
use Rattle.redex_outside.specs.Held.{Held, AllSame, OldOrPrefix}
use Rattle.text_defs.specs.Plays.{play_of}
use Rattle.text_defs.specs.declared.fault.ScriptFault.TheVariants as script
use Rattle.redex_cli.specs.Commands.{Fetch, counted_as}
use Rattle.redex_cli.specs.declared.fetching.Kind.TheVariants as kind
use Rattle.redex_cli.specs.declared.status.Status.{Status}
use Rattle.redex_cli.specs.declared.status.Status.TheVariants.{Limit, ReadFault, WriteFault, NoMemory}

-- How often something of each name has failed.
abbrev pub Failures : Type 0
Failures = List ℕ → ℕ

-- The name holds bytes that keep their limit.
pub record HoldsWithin (held : Held) (fetch : Fetch) : Type 0 where
  pub bytes : List ℕ
  pub there : held fetch.name ≡ Some bytes
  pub within : length bytes ≤ limit_of (counted_as fetch.kind)

-- The name holds bytes that pass their limit.
pub record HoldsTooMuch (held : Held) (fetch : Fetch) : Type 0 where
  pub bytes : List ℕ
  pub there : held fetch.name ≡ Some bytes
  pub passed : limit_of (counted_as fetch.kind) < length bytes

-- Each of these names holds bytes that keep their limit.
abbrev pub AllWithin : Held → List Fetch → Type 0
AllWithin held [] = Unit {0}
AllWithin held (fetch ∷ later) = HoldsWithin held fetch × AllWithin held later

-- The bytes of the first of these names that holds too much are counted as this.
abbrev pub FirstTooLong : Held → List Fetch → Counted → Type 0
FirstTooLong held [] counted = ⊥
FirstTooLong held (fetch ∷ later) counted =
    (HoldsTooMuch held fetch × (counted_as fetch.kind ≡ counted)) ⊎ (HoldsWithin held fetch × FirstTooLong held later counted)

-- The count of one of these names rose.
abbrev pub OneRose : Failures → Failures → List Fetch → Type 0
OneRose old new [] = ⊥
OneRose old new (fetch ∷ later) = Rose (old fetch.name) (new fetch.name) ⊎ OneRose old new later

-- The count of one of these names rose, and each name before it holds bytes that keep their limit.
abbrev pub FirstFailed : Held → Failures → Failures → List Fetch → Type 0
FirstFailed held old new [] = ⊥
FirstFailed held old new (fetch ∷ later) = Rose (old fetch.name) (new fetch.name) ⊎ (HoldsWithin held fetch × FirstFailed held old new later)

-- The bytes of one of these names are counted as this.
abbrev pub OneCounts : List Fetch → Counted → Type 0
OneCounts [] counted = ⊥
OneCounts (fetch ∷ later) counted = (counted_as fetch.kind ≡ counted) ⊎ OneCounts later counted

-- A fetch took one byte more than its limit, behind fetches that kept theirs, where the shelf tells what it holds.
pub record PassesByOne (tells : Bool) (held : Held) (fetches : List Fetch) (fault : LimitFault) : Type 0 where
  pub number : fault.number ≡ limit_of fault.counted + 1
  pub counts : OneCounts fetches fault.counted
  pub first : IsTrue tells → FirstTooLong held fetches fault.counted

-- A fetch failed, behind fetches that kept their limits, where the shelf tells what it holds.
pub record FetchFailed (tells : Bool) (held : Held) (old new : Failures) (fetches : List Fetch) : Type 0 where
  pub rose : OneRose old new fetches
  pub first : IsTrue tells → FirstFailed held old new fetches

-- Why the fetching ended with this status.
abbrev pub FetchRefused : Bool → Held → Failures → Failures → List Fetch → Status → Type 0
FetchRefused tells held old new fetches ReadFault = FetchFailed tells held old new fetches
FetchRefused tells held old new fetches (Limit fault) = PassesByOne tells held fetches fault
FetchRefused tells held old new fetches NoMemory = Unit {0}
FetchRefused tells held old new fetches _ = ⊥

-- Between two moments of a shelf its names were fetched at most: they hold what they held, and no count fell.
pub record OnlyFetched (tells_old tells_new : Bool) (old new : Held) (fetches_old fetches_new puts_old puts_new : Failures)
    : Type 0 where
  pub tells : tells_new ≡ tells_old
  pub held : IsTrue tells_old → AllSame old new
  pub fetches : NoneFell fetches_old fetches_new
  pub puts : NoneFell puts_old puts_new

-- Why a put of these bytes ended with this status, and what its name holds.
abbrev pub PutRefused : Bool → ℕ → ℕ → Option (List ℕ) → Option (List ℕ) → List ℕ → Status → Type 0
PutRefused tells faults_old faults_new old new bytes WriteFault =
    Rose faults_old faults_new × (IsTrue tells → OldOrPrefix old new bytes)
PutRefused tells faults_old faults_new old new bytes NoMemory = IsTrue tells → new ≡ old
PutRefused tells faults_old faults_new old new bytes _ = ⊥

-- The name is fetched as a script, and holds a text whose first line outside the grammar is this one.
pub record HoldsBadLine (held : Held) (fetch : Fetch) (line : ℕ) : Type 0 where
  pub is_script : fetch.kind ≡ kind.Script
  pub bytes : List ℕ
  pub there : held fetch.name ≡ Some bytes
  pub says : play_of bytes ≡ Err (script.Line line)

-- One of these names holds such a script.
abbrev pub OneBadLine : Held → List Fetch → ℕ → Type 0
OneBadLine held [] line = ⊥
OneBadLine held (fetch ∷ later) line = HoldsBadLine held fetch line ⊎ OneBadLine held later line
