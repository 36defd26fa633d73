-- Numbers of 32 bits, and places in a file.
use Rattle.std.specs.Prelude.{◌≡◌, ℕ, ◌+◌, ◌-◌, ◌%◌, List, [], ◌∷◌, length, nat_eq, nat_lt, if◌then◌else◌, slice_index_or}
use Rattle.std.specs.List.{flat_map, count_by, concat}
use Rattle.std.specs.Int.{w32, to_le_bytes}
use Rattle.dex_write.specs.declared.numbers.Items.{Items}

-- numbers one behind another
unfoldable pub words : List ℕ → List ℕ
words ns = flat_map (to_le_bytes w32) ns

-- how far the next multiple of four is, and which it is
abbrev pub gap : ℕ → ℕ
gap at = (4 - at % 4) % 4

abbrev pub up : ℕ → ℕ
up at = at + gap at

-- where an item stands that begins at the first place and ends at the second, 0 where nothing stands there
abbrev pub offset_of : ℕ → ℕ → ℕ → ℕ
offset_of base begin end = if nat_eq begin end then 0 else base + begin

-- the entry of a list, 0 where there is none
abbrev pub at_place : List ℕ → ℕ → ℕ
at_place ns place = slice_index_or ns place 0

-- texts one behind another: where each stands, the first from this place on, 0 for an empty one
abbrev pub text_offsets : ℕ → List (List ℕ) → List ℕ
text_offsets at [] = []
text_offsets at (text ∷ texts) = (if nat_eq (length text) 0 then 0 else at) ∷ text_offsets (at + length text) texts

-- how many offsets are not 0
abbrev pub count_some : List ℕ → ℕ
count_some offsets = count_by (λ offset. nat_lt 0 offset) offsets

-- the texts, and where each stands
pub record Placed (base : ℕ) (texts : List (List ℕ)) (items : Items) : Type 0 where
  pub bytes : items.bytes ≡ concat texts
  pub offsets : items.offsets ≡ text_offsets base texts
