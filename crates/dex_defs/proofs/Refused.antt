-- What no valid file has: an item that stands out of turn, a pointer of a method without lines, a code item of two methods, a gap of ffff.
use Rattle.std.proofs.Common.{◌≡◌, ◌≤◌, ◌<◌, ◌+◌, ◌*◌, ◌∙◌, ℕ, List, [], ◌∷◌, length, map, refl, ap, arith}
use Rattle.std.specs.Prelude.{slice_index}
use Rattle.dex_base.specs.Word.{Is32}
use Rattle.dex_base.specs.Decides.{Each}
use Rattle.dex_base.specs.Leb.{uleb_text, bits_text}
use Rattle.program_model.specs.declared.program.Program.{Program}
use Rattle.dex_defs.specs.Here.{Here}
use Rattle.dex_defs.specs.Arranged.{IsAt, Nothing, Something, Lie}
use Rattle.dex_defs.specs.Texts.{string_text}
use Rattle.dex_defs.specs.CodeTexts.{code_text}
use Rattle.dex_defs.specs.Valid.{IsValidFor}
use Rattle.dex_defs.proofs.Computing.{here_at}
use Rattle.dex_defs.specs.Examples.{escaping_file, caught_body, caught_item}

-- where something is named, it lies behind what ended, and ends behind itself
lies_behind : (bytes : List ℕ) (align from offset : ℕ) (text : List ℕ) (stop : ℕ) → IsAt bytes align from offset text stop → 0 < offset → (from ≤ offset) × (offset < stop)
lies_behind bytes align from offset text stop (Nothing a b c) some = absurd (omega (arith, a, some))
lies_behind bytes align from offset text stop (Something a long next zeros here ends) some = (next.behind, omega (arith, long, ends))

-- two items of a kind stand in the order in which they are named
pub ascends : (bytes : List ℕ) (align from a b : ℕ) (offsets : List ℕ) (texts : List (List ℕ)) (to : ℕ) → Lie bytes align from (a ∷ b ∷ offsets) texts to → 0 < a → 0 < b → a < b
ascends bytes align from a b offsets [] to lie x y = absurd lie
ascends bytes align from a b offsets (t ∷ []) to lie x y = absurd lie.2
ascends bytes align from a b offsets (t ∷ u ∷ texts) to lie x y =
    let first = lies_behind bytes align from a t lie.0 lie.1 x in
    let second = lies_behind bytes align lie.0 b u lie.2.0 lie.2.1 y in
    omega (arith, first.1, second.0)

-- no two methods have one code item
pub not_shared : (bytes : List ℕ) (from a : ℕ) (offsets : List ℕ) (texts : List (List ℕ)) (to : ℕ) → 0 < a → Lie bytes 4 from (a ∷ a ∷ offsets) texts to → ⊥
not_shared bytes from a offsets texts to x lie = omega (arith, ascends bytes 4 from a a offsets texts to lie x x)

-- what has no text is named by 0
pub not_wild : (bytes : List ℕ) (align from offset stop : ℕ) → 0 < offset → IsAt bytes align from offset [] stop → ⊥
not_wild bytes align from offset stop x (Nothing a b c) = omega (arith, a, x)
not_wild bytes align from offset stop x (Something a long next zeros here ends) = omega (arith, long)

-- the first two string_ids of this file lead downwards
pub no_escape : (p : Program) → IsValidFor escaping_file p → ⊥
no_escape p v = by_offsets v.parts.strings v.are.strings.0 v.are.strings.1 v.lie.strings
  where
    count : length p.strings ≡ 5
    count = v.spelled.pools.strings.0 ∙ v.spelled.pools.stand.strings.size.spelled

    by_offsets : (offsets : List ℕ) → length offsets ≡ length p.strings → Each (λ i at. Is32 escaping_file (112 + 4 * i) at) 0 offsets → Lie escaping_file 1 v.stops.members offsets (map string_text p.strings) v.stops.strings → ⊥
    by_offsets [] long each lie = omega (arith, long, count)
    by_offsets (a ∷ []) long each lie = omega (arith, long, count)
    by_offsets (a ∷ b ∷ rest) long each lie =
        let x : a ≡ 222 = each.0.spelled in
        let y : b ≡ 190 = each.1.0.spelled in
        omega (arith, x, y, ascends escaping_file 1 v.stops.members a b rest (map string_text p.strings) v.stops.strings lie (omega (arith, x)) (omega (arith, y)))

-- ---- the gap

abbrev item_text : List ℕ
item_text = code_text (1 ∷ 1 ∷ 1 ∷ []) ((0x0027 ∷ []) ∷ (0x000d ∷ []) ∷ (0x0027 ∷ []) ∷ []) 0 caught_body

pub zero_gap : Here (caught_item 0) 0 item_text
unfolding uleb_text bits_text
zero_gap = here_at (caught_item 0) 0 item_text refl refl

pub no_other_gap : Here (caught_item 65535) 0 item_text → ⊥
unfolding uleb_text bits_text
no_other_gap h = omega (arith, ap (λ (l : List ℕ). slice_index l 22) h.is)
