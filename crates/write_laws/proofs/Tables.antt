-- Types, fields and methods, protos and type lists are spelled where their words stand.
use Rattle.std.proofs.Common.{◌≡◌, ◌≤◌, ◌<◌, ◌+◌, ◌*◌, ◌^◌, ℕ, suc, List, [], ◌∷◌, ◌++◌, length, refl, subst, ◌∙◌, length-append, arith}
use Rattle.std.specs.Int.{w16, w32, to_le_bytes}
use Rattle.std.specs.List.{AllByRecursion, flat_map}
use Rattle.dex_base.specs.Word.{Is16, Is32}
use Rattle.dex_base.specs.Decides.{Each}
use Rattle.dex_pools.specs.declared.header.Extents.{Extents}
use Rattle.dex_pools.specs.Spelled.{IsHalfIndex, IsType, IsTypeList, IsField, IsMethod}
use Rattle.program_model.specs.declared.pools.FieldName.{FieldName}
use Rattle.program_model.specs.declared.pools.MethodName.{MethodName}
use Rattle.dex_write.specs.Numbers.{words}
use Rattle.dex_write.specs.Tables.{pair}
use Rattle.dex_defs.specs.Here.{Here}
use Rattle.dex_defs.specs.Texts as defs
use Rattle.write_laws.specs.Fits.{FitsType, FitsField, FitsMethod, Halved}
use Rattle.dex_defs.specs.Texts.{type_list_text}
use Rattle.write_laws.proofs.Here.{here_left, here_right, here_is, here_same, here_32}
use Rattle.write_laws.proofs.Numbers.{here_16, first_word, other_words, words_cons}

-- ---- two numbers of 16 bits in a word

pair_bytes : (low high : ℕ) → low < 65536 → high < 65536 → to_le_bytes w32 (pair low high) ≡ to_le_bytes w16 low ++ to_le_bytes w16 high
pair_bytes low high a b = same_four _ _ _ _ _ _ _ _ (omega (arith, a, b)) (omega (arith, a, b)) (omega (arith, a, b)) (omega (arith, a, b))
  where
    same_four : (a b c d x y z w : ℕ) → a ≡ x → b ≡ y → c ≡ z → d ≡ w → a ∷ b ∷ c ∷ d ∷ [] ≡ x ∷ y ∷ z ∷ w ∷ []
    same_four a b c d x y z w p q r s = cc

record Halves (bytes : List ℕ) (at low high : ℕ) : Type 0 where
  pub low_is : Is16 bytes at low
  pub high_is : Is16 bytes (at + 2) high

halves : (bytes : List ℕ) (at low high : ℕ) → low < 65536 → high < 65536 → Here bytes at (to_le_bytes w32 (pair low high)) → Halves bytes at low high
halves bytes at low high a b h =
    let both : Here bytes at (to_le_bytes w16 low ++ to_le_bytes w16 high) = here_same bytes at _ _ (pair_bytes low high a b) h in
    record { low_is = here_16 bytes at low (omega (arith, a)) (here_left bytes at (to_le_bytes w16 low) (to_le_bytes w16 high) both); high_is = here_16 bytes (at + 2) high (omega (arith, b)) (here_right bytes at (to_le_bytes w16 low) (to_le_bytes w16 high) both) }

-- ---- types

pub types_spelled : (bytes : List ℕ) (t : Extents) (strings : List (List ℕ)) (i : ℕ) (types : List ℕ) → t.strings.size ≡ length strings → AllByRecursion (FitsType strings) types → Here bytes (t.types.offset + 4 * i) (words types) → Each (IsType bytes t strings) i types
types_spelled bytes t strings i [] size fit h = tt
types_spelled bytes t strings i (n ∷ ns) size fit h = (
  record { string = record { is = first_word bytes (t.types.offset + 4 * i) n ns fit.0.few h; below = rw size fit.0.below }; kind = fit.0.kind; describes = fit.0.describes },
  types_spelled bytes t strings (suc i) ns size fit.1 (here_is bytes (t.types.offset + 4 * i + 4) (t.types.offset + 4 * suc i) (words ns) (omega arith) (other_words bytes (t.types.offset + 4 * i) n ns h)),
)

-- ---- fields and methods

pub field_words : FieldName → List ℕ
field_words f = pair f.class f.kind ∷ f.name ∷ []

two_words : (bytes : List ℕ) (at a b : ℕ) (rest : List ℕ) → Here bytes at (words (a ∷ b ∷ [] ++ rest)) → Here bytes at (to_le_bytes w32 a)
two_words bytes at a b rest h = here_left bytes at (to_le_bytes w32 a) (words (b ∷ rest)) (subst (λ l. Here bytes at l) (words_cons a (b ∷ rest)) h)

pub fields_spelled : (bytes : List ℕ) (t : Extents) (letters : List ℕ) (i : ℕ) (fields : List FieldName) → t.types.size ≤ 65536 → t.strings.size < 2 ^ 32 → AllByRecursion (FitsField t.strings.size t.types.size letters) fields
    → Here bytes (t.fields.offset + 8 * i) (words (flat_map (λ f. pair f.class f.kind ∷ f.name ∷ []) fields)) → Each (IsField bytes t letters) i fields
fields_spelled bytes t letters i [] few many fit h = tt
fields_spelled bytes t letters i (f ∷ fs) few many fit h =
    let at : ℕ = t.fields.offset + 8 * i in
    let rest : List ℕ = flat_map (λ f. pair f.class f.kind ∷ f.name ∷ []) fs in
    let x : FitsField t.strings.size t.types.size letters f = fit.0 in
    let k : x.class ≡ x.class = refl in
    let two : Halves bytes at f.class f.kind = halves bytes at f.class f.kind (omega (arith, few, x.class)) (omega (arith, few, x.kind)) (two_words bytes at (pair f.class f.kind) f.name rest h) in
    let name : Is32 bytes (at + 4) f.name = first_word bytes (at + 4) f.name rest (omega (arith, many, x.name)) (other_words bytes at (pair f.class f.kind) (f.name ∷ rest) h) in (
      record { class = record { is = two.low_is; below = x.class }; kind = record { is = two.high_is; below = x.kind }; name = record { is = name; below = x.name }; some = x.some },
      fields_spelled bytes t letters (suc i) fs few many fit.1 (here_is bytes (at + 4 + 4) (t.fields.offset + 8 * suc i) (words rest) (omega arith) (other_words bytes (at + 4) f.name rest (other_words bytes at (pair f.class f.kind) (f.name ∷ rest) h))),
    )

pub methods_spelled : (bytes : List ℕ) (t : Extents) (i : ℕ) (methods : List MethodName) → t.types.size ≤ 65536 → t.protos.size ≤ 65536 → t.strings.size < 2 ^ 32 → AllByRecursion (FitsMethod t.strings.size t.types.size t.protos.size) methods
    → Here bytes (t.methods.offset + 8 * i) (words (flat_map (λ m. pair m.class m.proto ∷ m.name ∷ []) methods)) → Each (IsMethod bytes t) i methods
methods_spelled bytes t i [] few fewer many fit h = tt
methods_spelled bytes t i (m ∷ ms) few fewer many fit h =
    let at : ℕ = t.methods.offset + 8 * i in
    let rest : List ℕ = flat_map (λ m. pair m.class m.proto ∷ m.name ∷ []) ms in
    let x : FitsMethod t.strings.size t.types.size t.protos.size m = fit.0 in
    let two : Halves bytes at m.class m.proto = halves bytes at m.class m.proto (omega (arith, few, x.class)) (omega (arith, fewer, x.proto)) (two_words bytes at (pair m.class m.proto) m.name rest h) in
    let name : Is32 bytes (at + 4) m.name = first_word bytes (at + 4) m.name rest (omega (arith, many, x.name)) (other_words bytes at (pair m.class m.proto) (m.name ∷ rest) h) in (
      record { class = record { is = two.low_is; below = x.class }; proto = record { is = two.high_is; below = x.proto }; name = record { is = name; below = x.name } },
      methods_spelled bytes t (suc i) ms few fewer many fit.1 (here_is bytes (at + 4 + 4) (t.methods.offset + 8 * suc i) (words rest) (omega arith) (other_words bytes (at + 4) m.name rest (other_words bytes at (pair m.class m.proto) (m.name ∷ rest) h))),
    )

-- ---- type lists

half_list : (bytes : List ℕ) (at size i : ℕ) (list : List ℕ) → size ≤ 65536 → Halved size list → Here bytes (at + 2 * i) (flat_map (to_le_bytes w16) list) → Each (λ k n. IsHalfIndex bytes (at + 2 * k) size n) i list
half_list bytes at size i [] few fit h = tt
half_list bytes at size i (n ∷ ns) few fit h = (
  record { is = here_16 bytes (at + 2 * i) n (omega (arith, few, fit.0)) (here_left bytes (at + 2 * i) (to_le_bytes w16 n) (flat_map (to_le_bytes w16) ns) h); below = fit.0 },
  half_list bytes at size (suc i) ns few fit.1 (here_is bytes (at + 2 * i + length (to_le_bytes w16 n)) (at + 2 * suc i) _ (omega arith) (here_right bytes (at + 2 * i) (to_le_bytes w16 n) (flat_map (to_le_bytes w16) ns) h)),
)

halves_length : (list : List ℕ) → length (flat_map (to_le_bytes w16) list) ≡ 2 * length list
halves_length [] = refl
halves_length (n ∷ ns) = length-append (to_le_bytes w16 n) (flat_map (to_le_bytes w16) ns) ∙ omega (arith, halves_length ns)

pub list_spelled : (bytes : List ℕ) (at size : ℕ) (list : List ℕ) → size ≤ 65536 → length list < 2 ^ 32 → Halved size list → Here bytes at (type_list_text list) → IsTypeList bytes at size list
list_spelled bytes at size list few short fit h =
    let count : List ℕ = defs.words (length list ∷ []) in
    let rest : Here bytes (at + 4) (flat_map (to_le_bytes w16) list) = here_right bytes at count (flat_map (to_le_bytes w16) list) h in
    record {
      count = here_32 bytes at (length list) short (here_left bytes at count (flat_map (to_le_bytes w16) list) h);
      inside = omega (arith, rest.inside, halves_length list);
      entries = (refl, half_list bytes (at + 4) size 0 list few fit (here_is bytes (at + 4) (at + 4 + 2 * 0) _ (omega arith) rest));
    }
