-- What the searches through a body begin with, and what they find.
use Rattle.std.specs.Prelude.{◌≡◌, ◌↔◌, ℕ, zero, suc, ◌+◌, ◌<◌, ◌⊎◌, Bool, true, false, ◌&&◌, ◌||◌, not, if◌then◌else◌, nat_eq, nat_le, List, [], ◌∷◌, ◌++◌, length, Option, Some, None, slice_get, slice_index_or, ◌^◌, Contains, All}
use Rattle.std.specs.List.{list_any}
use Rattle.insn_set.specs.Registers.{reads_of, writes_of}
use Rattle.insn_set.specs.Spelling.{is_encodable}
use Rattle.insn_set.specs.Widths.{is_wide_slot}
use Rattle.insn_set.specs.declared.ops.Slot.{Slot}
use Rattle.insn_set.specs.declared.form.Insn.{Insn}
use Rattle.insn_set.specs.declared.form.Insn.TheVariants.{Move}
use Rattle.program_model.specs.declared.body.Body.{Body}
use Rattle.flow_cfg.specs.Walks.{successors_of}
use Rattle.insn_regs.specs.Wides.{reads_as}
use Rattle.walk_marks.specs.Walks.{is_on, row_of}
use Rattle.body_graph.specs.Walks.{insn_at, onward, caught, IsReached, IsReadAt}
use Rattle.copy_prop.specs.Stale.{in_copy, casts, is_cast, reading, units, overlaps, IsCopy, IsSpoilt, StandsFor, IsWorthIt, IsStaleBy}
use Rattle.copy_prop.specs.declared.steps.Steps.{Steps}
use Rattle.copy_prop.specs.declared.copied.Copied.{Copied}
pub use Rattle.register_criteria.specs.Copies.{touches}

abbrev pub onward_from : Option Insn → ℕ → List ℕ
onward_from None n = []
onward_from (Some f) n = onward f n

abbrev pub caught_from : Body → Option Insn → ℕ → List ℕ
caught_from b None n = []
caught_from b (Some f) n = caught b f n

-- the rows of the steps from the first positions
pub record AreRows (b : Body) (upto : ℕ) (rows fronts backs : List (List ℕ)) : Type 0 where
  pub rows_long : length rows ≡ upto
  pub fronts_long : length fronts ≡ upto
  pub backs_long : length backs ≡ upto
  pub rows_are : (n : ℕ) → n < upto → row_of rows n ≡ successors_of b n
  pub fronts_are : (n : ℕ) → n < upto → row_of fronts n ≡ onward_from (insn_at b n) n
  pub backs_are : (n : ℕ) → n < upto → row_of backs n ≡ caught_from b (insn_at b n) n

pub record AreSteps (b : Body) (s : Steps) : Type 0 where
  pub rows : AreRows b (length b.insns) s.rows.items s.fronts.items s.backs.items
  pub reached_long : length s.reached.items ≡ length b.insns
  pub reached : (n : ℕ) → n < length b.insns → (is_on s.reached.items n ≡ true) ↔ IsReached b n

-- ---- where a copy is spoilt

abbrev pub when : Bool → List ℕ → List ℕ
when true xs = xs
when false xs = []

-- where a copy is spoilt behind a position
abbrev pub spoils : Body → List Bool → Copied → ℕ → Option Insn → List ℕ
spoils b reached c n None = []
spoils b reached c n (Some f) = when (is_on reached n && (not (nat_eq n c.at) && touches (writes_of f) c.slot c.to c.from)) (onward f n)
    ++ when (is_on reached n && touches (casts f) c.slot c.to c.from) (successors_of b n)

-- the entry, and where it is spoilt behind the first positions
abbrev pub seeds_to : Body → List Bool → Copied → ℕ → List ℕ
seeds_to b reached c zero = 0 ∷ []
seeds_to b reached c (suc n) = seeds_to b reached c n ++ spoils b reached c n (insn_at b n)

pub record AreSpoilt (b : Body) (c : Copied) (marks : List Bool) : Type 0 where
  pub long : length marks ≡ length b.insns
  pub are : (n : ℕ) → n < length b.insns → (is_on marks n ≡ true) ↔ IsSpoilt b c.at c.slot c.to c.from n

-- ---- for which reads it stands

-- the instruction can read the original in place of the copy
abbrev pub can_read : List (List Bool) → Copied → Insn → Bool
can_read w c f = reads_as w c.slot f c.to && (not (is_cast f) && (is_encodable (reading c.slot c.to c.from f) && nat_le (units (reading c.slot c.to c.from f)) (units f)))

pub record AreGood (w : List (List Bool)) (b : Body) (c : Copied) (upto : ℕ) (marks : List Bool) : Type 0 where
  pub long : length marks ≡ upto
  pub are : (n : ℕ) (f : Insn) → n < upto → insn_at b n ≡ Some f → (is_on marks n ≡ true) ↔ StandsFor w b c.at c.slot c.to c.from n f

-- which edges a walk takes that doesn't pass a write of a register
abbrev pub writes_in : ℕ → Option Insn → Bool
writes_in r None = false
writes_in r (Some f) = writes_of f r

abbrev pub passes : List Insn → List (List ℕ) → ℕ → ℕ → ℕ → Bool
passes insns backs r n m = not (writes_in r (slice_get insns n)) || list_any (nat_eq m) (row_of backs n)

-- whether each marked position of the first ones that reads a register is good
abbrev pub reads_in : ℕ → Option Insn → Bool
reads_in r None = false
reads_in r (Some f) = reads_of f r

abbrev pub AllGood : Body → ℕ → List Bool → List Bool → ℕ → Type 0
AllGood b r marks good upto = (n : ℕ) → n < upto → is_on marks n ≡ true → reads_in r (insn_at b n) ≡ true → is_on good n ≡ true

-- each read of a register behind a position is good
abbrev pub StandsBehind : Body → ℕ → ℕ → List Bool → Type 0
StandsBehind b at r good = (m n : ℕ) (f : Insn) → Contains (successors_of b at) m → IsReadAt b r m n → insn_at b n ≡ Some f → is_on good n ≡ true

abbrev pub IsWorth : Body → Copied → List Bool → Type 0
IsWorth b c good = (c.from < c.to) ⊎ ((r : ℕ) → in_copy c.slot c.to r ≡ true → StandsBehind b c.at r good)

-- the reads that are stale by a Move
pub record AreStaleBy (w : List (List Bool)) (b : Body) (c : Copied) (marks : List Bool) : Type 0 where
  pub long : length marks ≡ length b.insns
  pub are : (n : ℕ) (f : Insn) → n < length b.insns → insn_at b n ≡ Some f → (is_on marks n ≡ true) ↔ IsStaleBy w b n f c.at c.slot c.to c.from

-- ---- all copies

-- a Move that isn't of registers that overlap, and whose pair is one of registers
pub record IsPlain (b : Body) (at : ℕ) (slot : Slot) (to from : ℕ) : Type 0 where
  pub copy : IsCopy b at slot to from
  pub apart : overlaps slot to from ≡ false
  pub room : is_wide_slot slot ≡ true → from + 1 < 2 ^ 16

-- the copies by which the read at a position is stale
abbrev pub IsAmong : List (List Bool) → Body → ℕ → Insn → Copied → Type 0
IsAmong w b n f c = IsStaleBy w b n f c.at c.slot c.to c.from

pub record AreCopies (w : List (List Bool)) (b : Body) (upto : ℕ) (table : List (List Copied)) : Type 0 where
  pub long : length table ≡ length b.insns
  pub sound : (n : ℕ) (f : Insn) → insn_at b n ≡ Some f → All (IsAmong w b n f) (slice_index_or table n [])
  pub all : (at : ℕ) (slot : Slot) (to from n : ℕ) (f : Insn) → at < upto → IsPlain b at slot to from → insn_at b n ≡ Some f → IsStaleBy w b n f at slot to from → slice_index_or table n [] ≡ [] → ⊥

-- what is found of a Move at a position
abbrev pub IsCopied : Insn → ℕ → Option Copied → Type 0
IsCopied f at (Some c) = (c.at ≡ at) × (f ≡ Move c.slot c.to c.from)
IsCopied f at None = (slot : Slot) (to from : ℕ) → f ≡ Move slot to from → overlaps slot to from ≡ false → (is_wide_slot slot ≡ true → from + 1 < 2 ^ 16) → ⊥

-- a copy was added to the marked rows
pub record Adds (c : Copied) (marks : List Bool) (old new : List (List Copied)) : Type 0 where
  pub long : length new ≡ length old
  pub rows : (n : ℕ) → n < length old → slice_index_or new n [] ≡ (if is_on marks n then slice_index_or old n [] ++ c ∷ [] else slice_index_or old n [])

-- at the first positions stands no Move by which a read can be stale
abbrev pub HasNoCopy : Body → ℕ → Type 0
HasNoCopy b upto = (n : ℕ) (f : Insn) → n < upto → insn_at b n ≡ Some f → IsCopied f n None
