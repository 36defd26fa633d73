-- How blocks of keys lie to one another.
use Rattle.std.specs.Prelude.{◌≡◌, ℕ, ◌+◌, ◌-◌, ◌*◌, ◌/◌, ◌^◌, ◌≤◌}
use Rattle.pat_map.specs.declared.nodes.Placing.{Placing}
use Rattle.pat_map.specs.declared.nodes.Placing.TheVariants.{Same, Low, High, UnderLow, UnderHigh, Apart}

-- the keys of block `b` without their lowest `s` bits are block `a` without their lowest `size` bits
abbrev pub LiesIn : ℕ → ℕ → ℕ → ℕ → Type 0
LiesIn size a s b = (s ≤ size) × (b / 2 ^ (size - s) ≡ a)

-- how the block of a branch at `bit` lies to that of another branch
abbrev pub IsPlaced : ℕ → ℕ → ℕ → ℕ → Placing → Type 0
IsPlaced bit block other_bit other_block Same = (bit ≡ other_bit) × (block ≡ other_block)
IsPlaced bit block other_bit other_block Low = LiesIn bit (2 * block) (other_bit + 1) other_block
IsPlaced bit block other_bit other_block High = LiesIn bit (2 * block + 1) (other_bit + 1) other_block
IsPlaced bit block other_bit other_block UnderLow = LiesIn other_bit (2 * other_block) (bit + 1) block
IsPlaced bit block other_bit other_block UnderHigh = LiesIn other_bit (2 * other_block + 1) (bit + 1) block
IsPlaced bit block other_bit other_block (Apart size own theirs) =
    (size ≤ 32) × (own ≡ theirs → ⊥) × LiesIn size own (bit + 1) block × LiesIn size theirs (other_bit + 1) other_block
