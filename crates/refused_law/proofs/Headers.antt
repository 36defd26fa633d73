-- A fault of the header that is answered stands there.
use Rattle.std.proofs.Common.{◌≡◌, ◌<◌, ◌*◌, ◌≤◌, ℕ, ◌+◌, Bool, true, false, cond, eqb, List, length, take, drop, Ok, Err, refl, sym, subst, ◌∙◌, arith, true≢false}
use Rattle.std.specs.Int.{w32, from_le_bytes}
use Rattle.std.specs.List.{starts_with}
use Rattle.std.specs.Prelude.{nat_eq}
use Rattle.std.proofs.lemmas.Bool.{leb-false, eq-eqb}
use Rattle.dex_base.specs.Adler.{adler_of}
use Rattle.dex_base.specs.Word.{Is32}
use Rattle.dex_base.proofs.Decides.{not_both}
use Rattle.program_model.specs.declared.limits.Counted.{Counted}
use Rattle.program_model.specs.declared.limits.Counted.TheVariants.{Types, Protos, Fields, Methods}
use Rattle.program_model.specs.declared.program.Version.{Version}
use Rattle.program_model.specs.declared.program.Version.TheVariants.{V035, V037}
use Rattle.dex_defs.specs.Parts.{Bytes}
use Rattle.dex_defs.specs.Placed.{IsPlaced, TheHeader}
use Rattle.dex_defs.specs.Placed as placed
use Rattle.dex_defs.specs.Faults.{IsFixed, FileSize, HeaderSize, EndianTag, LinkSize, BadMagic, BadField, BadSum}
use Rattle.dex_defs.specs.ClassFaults.{BadPart, BadHeader}
use Rattle.dex_read.specs.declared.fault.DexFault.{DexFault}
use Rattle.dex_read.specs.declared.fault.DexFault.TheVariants as dex
use Rattle.dex_read.specs.Header.{need_at, version_at, fixed_at, sum_at, size_at, header_at, past, magic_035, magic_037}
use Rattle.dex_read.specs.Word.{word_at}
use Rattle.file_laws.proofs.Headers.{finds_version, finds_header}
use Rattle.file_laws.proofs.Words.{finds_word, finds_need}
use Rattle.refused_law.specs.Just.{IsJust}
use Rattle.refused_law.proofs.Failing.{Fails, sound, fails_with, stands, unless, fails_next}

other_than : (m n : ℕ) → eqb m n ≡ false → m ≡ n → ⊥
other_than m n e is = true≢false (sym (eq-eqb m n is) ∙ e)

-- four bytes that are there
pub fails_word : (bytes : List ℕ) (at : ℕ) → at + 4 ≤ length bytes → {Has : DexFault → Type 0} → Fails Has (word_at bytes at)
fails_word bytes at inside = stands (word_at bytes at) (finds_word bytes at) (from_le_bytes w32 (take 4 (drop at bytes))) (record { inside = inside; spelled = refl })

-- so many bytes of a placed part
pub fails_need : (bytes : List ℕ) (at count : ℕ) → IsPlaced bytes (Bytes at count) → Fails (IsJust bytes) (need_at bytes at count)
unfolding need_at
fails_need bytes at count placed = unless (dex.Short at) (λ no. BadPart (Bytes at count) placed (leb-false (at + count) (length bytes) no, refl)) (λ _. sound tt)

-- the table of classes, where it has some
pub fails_class_table : (bytes : List ℕ) (count offset : ℕ) → Is32 bytes 96 count → Is32 bytes 100 offset → 0 < count → Fails (IsJust bytes) (need_at bytes offset (32 * count))
fails_class_table bytes count offset size place some =
    fails_need bytes offset (32 * count) (placed.Tables (placed.TheTable 96 32 (record { size = count; offset = offset }) (placed.Classes refl refl) (record { size = size; offset = place }) some))

module _ (bytes : List ℕ) where
  by_tests : (a b : Bool) → Fails (λ e. e ≡ dex.Magic) (cond a (Ok V035) (cond b (Ok V037) (Err dex.Magic)))
  by_tests true b = sound V035
  by_tests false true = sound V037
  by_tests false false = fails_with dex.Magic refl

  version_err : Fails (λ e. e ≡ dex.Magic) (version_at bytes)
  unfolding version_at
  version_err = by_tests (starts_with nat_eq bytes magic_035) (starts_with nat_eq bytes magic_037)

  fails_version : 112 ≤ length bytes → Fails (IsJust bytes) (version_at bytes)
  fails_version whole = record {
    fault = λ e h. subst (IsJust bytes) (sym (version_err.fault e h))
        (BadHeader (BadMagic whole (λ v is. not_both e v (sym h ∙ (finds_version bytes).again v is)) refl));
  }

  module _ (whole : 112 ≤ length bytes) where
    fails_fixed : (at wanted : ℕ) → at + 4 ≤ 112 → IsFixed bytes at wanted → Fails (IsJust bytes) (fixed_at bytes at wanted)
    unfolding fixed_at
    fails_fixed at wanted inside fixed = fails_next (fails_word bytes at (omega (arith, whole, inside))) (λ n h.
        unless (dex.Header at) (λ no. BadHeader (BadField at wanted n whole fixed ((finds_word bytes at).found n h) (other_than n wanted no) refl)) (λ _. sound tt))

    fails_sum : Fails (IsJust bytes) (sum_at bytes)
    unfolding sum_at
    fails_sum = fails_next (fails_word bytes 8 (omega (arith, whole))) (λ n h.
        unless (dex.Checksum n (adler_of (drop 12 bytes))) (λ no. BadHeader (BadSum n ((finds_word bytes 8).found n h) (other_than n (adler_of (drop 12 bytes)) no) refl)) (λ _. sound tt))

    fails_size : (at : ℕ) (counted : Counted) → at + 4 ≤ 112 → Fails (IsJust bytes) (size_at bytes at counted)
    unfolding size_at
    fails_size at counted inside = fails_next (fails_word bytes at (omega (arith, whole, inside))) (λ n _. unless (past counted) (λ _. tt) (λ _. sound tt))

  pub fails_header : Fails (IsJust bytes) (header_at bytes)
  unfolding header_at
  fails_header =
      fails_next (fails_need bytes 0 112 (placed.Tables TheHeader)) (λ u h. let whole : 112 ≤ length bytes = (finds_need bytes 0 112).found u h in
      fails_next (fails_version whole) (λ version _.
      fails_next (fails_fixed whole 32 (length bytes) (omega arith) (FileSize refl refl)) (λ _ _.
      fails_next (fails_fixed whole 36 112 (omega arith) (HeaderSize refl refl)) (λ _ _.
      fails_next (fails_fixed whole 40 0x12345678 (omega arith) (EndianTag refl refl)) (λ _ _.
      fails_next (fails_fixed whole 44 0 (omega arith) (LinkSize refl refl)) (λ _ _.
      fails_next (fails_sum whole) (λ _ _.
      fails_next (fails_size whole 64 Types (omega arith)) (λ _ _.
      fails_next (fails_size whole 72 Protos (omega arith)) (λ _ _.
      fails_next (fails_size whole 80 Fields (omega arith)) (λ _ _.
      fails_next (fails_size whole 88 Methods (omega arith)) (λ _ _. sound version)))))))))))

-- a header that is read is whole
pub header_whole : (bytes : List ℕ) (version : Version) → header_at bytes ≡ Ok version → 112 ≤ length bytes
header_whole bytes version h = ((finds_header bytes).found version h).header.whole
