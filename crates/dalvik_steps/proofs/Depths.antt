-- Types of a well-formed program have few brackets, and are never empty.
use Rattle.std.proofs.Common.{◌≡◌, ℕ, zero, suc, ◌+◌, ◌<◌, ◌≤◌, ◌^◌, Bool, true, false, true≢false, List, [], ◌∷◌, ◌++◌, length, replicate, arith, ap, refl, sym, ◌∙◌, leb-true, length-append}
use Rattle.std.specs.Prelude.{◌&&◌, fold, slice_get, is_ok, Option, Some, None}
use Rattle.std.specs.List.{sum_by}
use Rattle.std.proofs.lemmas.List.{length-replicate}
use Rattle.class_defs.proofs.WellFormed.{Sound, all_at, and_left, and_right, sound}
use Rattle.dex_base.specs.Descriptor.{descriptor_of}
use Rattle.program_model.specs.ProgramRules.{is_well_formed}
use Rattle.program_model.proofs.Formed.{formed}
use Rattle.program_model.specs.TableRules.{entries_differ, entries_fit, tables_are_short, tables_fit, texts_are_short, type_fits}
use Rattle.program_model.specs.Texts.{has_string, string_text}
use Rattle.program_model.specs.declared.program.Program.{Program}
use Rattle.name_bridge.proofs.Found.{text_same}
use Rattle.name_bridge.proofs.Tables.{entry_at, type_string}
use Rattle.dalvik_defs.specs.Names.{Text}
use Rattle.dalvik_defs.specs.Naming.{text_at, type_at}
use Rattle.dalvik_lookups.specs.declared.lookups.Lookups.{Lookups}
use Rattle.dalvik_lookups.specs.Tables.{kind_in, IsRight}
use Rattle.dalvik_lookups.specs.Views.{name_at, type_text}
use Rattle.dalvik_state.specs.States.{IsFineKind}

-- ---- lengths

mono : (acc : ℕ) (xs : List Text) → acc ≤ fold (λ (a : ℕ) (x : Text). a + length x) acc xs
mono acc [] = omega arith
mono acc (x ∷ xs) = let h = mono (acc + length x) xs in omega (arith, h)

one_of : (acc : ℕ) (xs : List Text) (i : ℕ) (x : Text) → slice_get xs i ≡ Some x → length x ≤ fold (λ (a : ℕ) (x : Text). a + length x) acc xs
one_of acc [] i x e = absurd (cc)
one_of acc (y ∷ ys) zero x e =
    let same : y ≡ x = cc in
    let long : length y ≡ length x = ap length same in
    let h = mono (acc + length y) ys in
    omega (arith, h, long)
one_of acc (y ∷ ys) (suc i) x e = one_of (acc + length y) ys i x e

short_texts : (p : Program) → is_well_formed p ≡ true → sum_by length p.strings ≤ 16777216
unfolding tables_fit texts_are_short
short_texts p h = leb-true (sum_by length p.strings) 16777216 (and_right (tables_are_short p) (texts_are_short p) (and_left (tables_are_short p && texts_are_short p) (entries_fit p && entries_differ p) (formed p h).tables))

type_there : (p : Program) → Sound p → (n : ℕ) → n < length p.types → (i : ℕ) × ((t : Text) × ((slice_get p.strings i ≡ Some t) × (type_at p n ≡ t)))
type_there p s n low =
    let i = entry_at p.types n low in
    let t = entry_at p.strings i.0 (type_string p s n i.0 i.1) in
    (i.0, (t.0, (t.1, ap (λ (o : Option ℕ). elim o as (λ o. Text) [ Some k ↦ text_at p k | None ↦ [] ]) i.1 ∙ ap (λ (o : Option Text). elim o as (λ o. Text) [ Some x ↦ x | None ↦ [] ]) t.1)))

short_type : (p : Program) → is_well_formed p ≡ true → (n : ℕ) → n < length p.types → length (type_at p n) ≤ 16777216
short_type p w n low =
    let t = type_there p (sound p w) n low in
    let one = one_of 0 p.strings t.0 t.1.0 t.1.1.0 in
    let all = short_texts p w in
    let long : length (type_at p n) ≡ length t.1.0 = ap length t.1.1.1 in
    omega (arith, one, all, long)

pub fine_type : (l : Lookups) → IsRight l → (n : ℕ) → n < length l.program.now.types → IsFineKind l (kind_in l.kinds.items n)
fine_type l r n low =
    let k = kind_in l.kinds.items n in
    let is = r.tabled.named.kinds n low in
    let short = short_type l.program.now r.well n low in
    let long : length (type_text l.types k) ≡ length (type_at l.program.now n) = ap length is.text in
    let brackets : Text = replicate k.depth 91 in
    let unit : ℕ = 91 in
    let parts : length (type_text l.types k) ≡ length brackets + length (name_at l.types k.base) = length-append brackets (name_at l.types k.base) in
    let many : length brackets ≡ k.depth = length-replicate k.depth unit in
    record { there = is.kind; deep = omega (arith, short, long, parts, many) }

-- ---- no type is empty

some_unit : (t : Text) → t ≡ [] → is_ok (descriptor_of t) ≡ true → ⊥
unfolding descriptor_of
some_unit [] s e = true≢false (sym e)
some_unit (u ∷ us) s e = absurd (cc)

descriptor_there : (p : Program) → Sound p → (n : ℕ) → n < length p.types → is_ok (descriptor_of (type_at p n)) ≡ true
descriptor_there p s n low =
    let i = entry_at p.types n low in
    ap (λ (t : Text). is_ok (descriptor_of t)) (ap (λ (o : Option ℕ). elim o as (λ o. Text) [ Some t ↦ text_at p t | None ↦ [] ]) i.1 ∙ text_same p i.0)
    ∙ and_right (has_string p i.0) (is_ok (descriptor_of (string_text p i.0))) (all_at (type_fits p) p.types n i.0 s.types_fit i.1)

pub never_empty : (p : Program) → Sound p → (n : ℕ) → n < length p.types → type_at p n ≡ [] → ⊥
never_empty p s n low e = some_unit (type_at p n) e (descriptor_there p s n low)
