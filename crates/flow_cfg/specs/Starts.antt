-- Where the blocks of the code of a method begin.
use Rattle.std.specs.Prelude.{◌≡◌, ℕ, suc, ◌+◌, ◌<◌, ◌⊎◌, Bool, true, false, not, ◌||◌, List, [], ◌∷◌, ◌++◌, length, Contains, MatchOption, slice_get, slice_set, if◌then◌else◌}
use Rattle.std.specs.List.{flat_map}
use Rattle.insn_set.specs.declared.form.Insn.{Insn}
use Rattle.insn_set.specs.declared.form.Insn.TheVariants.{Goto, If, IfZero, PackedSwitch, SparseSwitch}
use Rattle.insn_set.specs.Flow.{throws, goes_on, targets_of}
use Rattle.program_model.specs.declared.body.Body.{Body}
use Rattle.program_model.specs.declared.body.Region.{Region}
use Rattle.flow_cfg.specs.Walks.{handlers_in}

abbrev pub branches : Insn → Bool
branches (Goto target) = true
branches (If test a b target) = true
branches (IfZero test a target) = true
branches (PackedSwitch on first targets) = true
branches (SparseSwitch on keys targets) = true
branches insn = false

-- a branch, a form that may throw, or one that doesn't go on
abbrev pub ends_block : Insn → Bool
ends_block insn = branches insn || throws insn || not (goes_on insn)

-- the position stands behind an instruction with which a block ends
abbrev pub IsBehind : List Insn → ℕ → Type 0
IsBehind insns p = (q : ℕ) × (p ≡ q + 1) × MatchOption (slice_get insns q) ⊥ (λ insn. ends_block insn ≡ true)

-- a block begins at the position
abbrev pub IsFirst : Body → ℕ → Type 0
IsFirst b p = (p < length b.insns) × ((p ≡ 0) ⊎ (Contains (flat_map targets_of b.insns) p ⊎ (Contains (flat_map handlers_in b.regions) p ⊎ IsBehind b.insns p)))

-- ---- the positions in the order in which they are found

abbrev pub behind : ℕ → Insn → List ℕ
behind at insn = if ends_block insn then (at + 1) ∷ [] else []

abbrev pub starts_from : ℕ → List Insn → List ℕ
starts_from at [] = []
starts_from at (insn ∷ insns) = (targets_of insn ++ behind at insn) ++ starts_from (suc at) insns

abbrev pub regions_starts : List Region → List ℕ
regions_starts regions = flat_map handlers_in regions

abbrev pub starts_of : Body → List ℕ
starts_of b = (0 ∷ starts_from 0 b.insns) ++ regions_starts b.regions

abbrev pub marked : List Bool → List ℕ → List Bool
marked marks [] = marks
marked marks (p ∷ ps) = marked (slice_set marks p true) ps

-- the places of the marks, the first of which has this number
abbrev pub places_from : ℕ → List Bool → List ℕ
places_from at [] = []
places_from at (mark ∷ marks) = if mark then at ∷ places_from (suc at) marks else places_from (suc at) marks
