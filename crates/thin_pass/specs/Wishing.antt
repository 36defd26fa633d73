-- The fates that come of what a pass wishes for the positions of a body (this project's profile).
use Rattle.std.specs.Prelude.{◌≡◌, ℕ, zero, suc, ◌+◌, ◌<◌, ◌^◌, Bool, true, false, ◌&&◌, not, nat_le, nat_lt, if◌then◌else◌, List, [], ◌∷◌, length, replicate, Option, Some, None, slice_get, slice_index_or}
use Rattle.std.specs.List.{list_any}
use Rattle.insn_set.specs.Flow.{targets_of}
use Rattle.insn_set.specs.declared.form.Insn.{Insn}
use Rattle.insn_set.specs.declared.form.Insn.TheVariants as insn
use Rattle.program_model.specs.declared.body.Body.{Body}
use Rattle.program_model.specs.declared.program.Method.{Method}
use Rattle.body_edit.specs.declared.fate.Fate.{Fate}
use Rattle.body_edit.specs.declared.fate.Fate.TheVariants.{Stays, Empties, Goes}

-- what is wished for a position; one without a wish stays
abbrev pub wish_at : List Fate → ℕ → Fate
wish_at ws n = slice_index_or ws n Stays

-- the wishes that a pass has for each position and its instruction
pub record AreWished (want : ℕ → Insn → Fate) (is : List Insn) (ws : List Fate) : Type 0 where
  pub long : length ws ≡ length is
  pub each : (n : ℕ) (i : Insn) → slice_get is n ≡ Some i → wish_at ws n ≡ want n i

abbrev pub goes : Fate → Bool
goes Goes = true
goes f = false

-- the position is to go
abbrev pub is_to_go : List Fate → ℕ → Bool
is_to_go ws n = goes (wish_at ws n)

abbrev pub is_between : ℕ → ℕ → ℕ → Bool
is_between first last n = nat_le first n && nat_le n last

-- a branch that has a target in a range of positions, its end included
abbrev pub leads_into : ℕ → ℕ → Insn → Bool
leads_into first last i = list_any (is_between first last) (targets_of i)

abbrev pub holds : Bool → ℕ → ℕ → Option Insn → Bool
holds going first last None = false
holds going first last (Some i) = not going && leads_into first last i

-- The next position is not to go and is a branch to one of the positions from the start up to this one: would all of these go,
-- it would lead to itself.
abbrev pub is_held : List Insn → List Fate → ℕ → ℕ → Bool
is_held is ws start n = holds (is_to_go ws (n + 1)) start n (slice_get is (n + 1))

-- a nop stays, and another form becomes one
abbrev pub emptied : Insn → Fate
emptied insn.Nop = Stays
emptied i = Empties

abbrev pub fate_of : Fate → Bool → Insn → Fate
fate_of Stays held i = Stays
fate_of Empties held i = emptied i
fate_of Goes false i = Goes
fate_of Goes true i = emptied i

abbrev pub fate_if : Fate → Bool → Option Insn → Fate
fate_if wish held None = Stays
fate_if wish held (Some i) = fate_of wish held i

abbrev pub fate_at : List Insn → List Fate → ℕ → ℕ → Fate
fate_at is ws start n = fate_if (wish_at ws n) (is_held is ws start n) (slice_get is n)

-- where the positions begin that are to go, up to a position behind this one
abbrev pub start_behind : List Fate → ℕ → ℕ → ℕ
start_behind ws start n = if is_to_go ws n then start else suc n

-- the fates of so many positions from one on, where those before it that are to go begin at the start
abbrev pub fates_upto : List Insn → List Fate → ℕ → ℕ → ℕ → List Fate
fates_upto is ws start n zero = []
fates_upto is ws start n (suc k) = fate_at is ws start n ∷ fates_upto is ws (start_behind ws start n) (suc n) k

abbrev pub fates_from : List Insn → List Fate → ℕ → ℕ → List Fate
fates_from is ws n k = fates_upto is ws n n k

-- ---- methods

abbrev pub room_in : Option Body → ℕ
room_in None = 0
room_in (Some b) = length b.insns + length b.regions

-- 32 bits number all positions and regions
abbrev pub is_small : Method → Bool
is_small m = nat_lt (room_in m.body) (2 ^ 32)

-- the fates that come of what a pass wishes for a body
pub record WishedFates (wishes : Body → List Fate → Type 0) (b : Body) (fs : List Fate) : Type 0 where
  pub wished : List Fate
  pub are : wishes b wished
  pub fates : fs ≡ fates_from b.insns wished 0 (length b.insns)

abbrev pub FatesIn : (Body → List Fate → Type 0) → Bool → Option Body → List Fate → Type 0
FatesIn wishes admitted None fs = fs ≡ []
FatesIn wishes false (Some b) fs = fs ≡ replicate (length b.insns) Stays
FatesIn wishes true (Some b) fs = WishedFates wishes b fs

abbrev pub FatesIf : (Body → List Fate → Type 0) → Bool → Bool → Option Body → List Fate → Type 0
FatesIf wishes admitted false o fs = fs ≡ []
FatesIf wishes admitted true o fs = FatesIn wishes admitted o fs

-- The fates of a method's positions: where it isn't admitted, all stay. A body whose positions and regions 32 bits don't
-- number has none, and is left alone.
abbrev pub HasFates : (Body → List Fate → Type 0) → List Bool → Method → List Fate → Type 0
HasFates wishes admitted m fs = FatesIf wishes (slice_index_or admitted m.name false) (is_small m) m.body fs
