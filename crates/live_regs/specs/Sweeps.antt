-- Words that are filled by sweeps over a body, until none changes.
use Rattle.std.specs.Prelude.{◌≡◌, ◌↔◌, ℕ, ◌<◌, Bool, true, false, not, ◌&&◌, ◌||◌, List, length, Some, slice_get, slice_index, slice_set, Contains}
use Rattle.insn_set.specs.declared.form.Insn.{Insn}
use Rattle.insn_set.specs.Registers.{reads_of, writes_of}
use Rattle.insn_set.specs.Flow.{throws}
use Rattle.program_model.specs.declared.body.Body.{Body}
use Rattle.program_model.specs.declared.body.Region.{Region}
use Rattle.flow_cfg.specs.Walks.{handlers_in}
use Rattle.body_graph.specs.Walks.{insn_at, onward, IsRead}
use Rattle.body_graph.specs.Graph.{covering}
use Rattle.live_regs.specs.Words.{has, IsMask, word_at, has_any}

-- The register is read at a position, or it is live where a walk goes from there without a throw and isn't written there,
-- or at a handler of the region at a place where the instruction may throw.
abbrev pub flows : List ℕ → List ℕ → ℕ → ℕ → Insn → ℕ → Bool
flows before caught k n i r = (reads_of i r || (has_any before r (onward i n) && not (writes_of i r))) || (throws i && has (word_at caught k) r)

-- a word was put at a place
pub record IsPut (test : ℕ → Bool) (place : ℕ) (old new : List ℕ) (changed : Bool) : Type 0 where
  pub word : ℕ
  pub mask : IsMask test word
  pub is : new ≡ slice_set old place word
  pub same : changed ≡ false → new ≡ old

-- what the words of the positions have is read from there, and what those of the regions have from a handler
abbrev pub AreRead : Body → List ℕ → Type 0
AreRead b before = (n r : ℕ) → r < 64 → has (word_at before n) r ≡ true → IsRead b r n

pub record IsReadCaught (b : Body) (r k : ℕ) : Type 0 where
  pub handler : ℕ
  pub region : Region
  pub is_region : slice_get b.regions k ≡ Some region
  pub handles : Contains (handlers_in region) handler
  pub read : IsRead b r handler

abbrev pub AreReadCaught : Body → List ℕ → Type 0
AreReadCaught b caught = (k r : ℕ) → r < 64 → has (word_at caught k) r ≡ true → IsReadCaught b r k

-- the words of the positions and those of the regions, one for each, have what is read from there
pub record AreSoFar (b : Body) (caught before : List ℕ) : Type 0 where
  pub long : length before ≡ length b.insns
  pub regions_long : length caught ≡ length b.regions
  pub read : AreRead b before
  pub read_caught : AreReadCaught b caught

-- the place of the region that covers each position
pub record AreCovers (b : Body) (covers : List ℕ) : Type 0 where
  pub long : length covers ≡ length b.insns
  pub each : (n : ℕ) → n < length b.insns → slice_index covers n ≡ covering b.regions n

-- the words have all that flows there
abbrev pub HaveFlowed : Body → List ℕ → List ℕ → Type 0
HaveFlowed b before caught = (n : ℕ) (i : Insn) → insn_at b n ≡ Some i → IsMask (flows before caught (covering b.regions n) n i) (word_at before n)

abbrev pub HaveCaught : Body → List ℕ → List ℕ → Type 0
HaveCaught b before caught = (k : ℕ) (s : Region) → slice_get b.regions k ≡ Some s → IsMask (λ r. has_any before r (handlers_in s)) (word_at caught k)

-- the words have exactly what is live before each position
abbrev pub AreWords : Body → List ℕ → Type 0
AreWords b words = (n r : ℕ) → r < 64 → (has (word_at words n) r ≡ true) ↔ IsRead b r n

-- the same of the registers of a body
abbrev pub AreLiveWords : Body → List ℕ → Type 0
AreLiveWords b words = (n r : ℕ) → r < b.registers → (has (word_at words n) r ≡ true) ↔ IsRead b r n
