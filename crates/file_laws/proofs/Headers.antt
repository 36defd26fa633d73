-- The header is read exactly where it stands.
use Rattle.std.proofs.Common.{◌≡◌, ℕ, Bool, true, false, cond, eqb, leb, List, length, take, drop, Ok, Err, refl, sym, ap, subst, ◌∙◌, nat_eq, true≢false}
use Rattle.std.proofs.lemmas.Bool.{leb-true, le-leb, eqb-true, eq-eqb}
use Rattle.std.specs.Prelude.{slice_index}
use Rattle.std.specs.Cmp.Lexicographic.{pointwise, bytes_decides}
use Rattle.dex_base.specs.Adler.{adler_of}
use Rattle.dex_base.specs.Word.{Is32}
use Rattle.dex_base.proofs.Decides.{not_both}
use Rattle.dex_pools.specs.Finds.{Finds}
use Rattle.dex_pools.proofs.Finding.{same, pure}
use Rattle.program_model.specs.declared.limits.Counted.{Counted}
use Rattle.program_model.specs.declared.limits.Counted.TheVariants.{Types, Protos, Fields, Methods}
use Rattle.program_model.specs.declared.program.Version.{Version}
use Rattle.program_model.specs.declared.program.Version.TheVariants.{V035, V037}
use Rattle.program_model.specs.Limits.{limit_of}
use Rattle.dex_defs.specs.Header.{magic_of}
use Rattle.dex_read.specs.declared.fault.DexFault.TheVariants as fault
use Rattle.dex_read.specs.Header.{version_at, fixed_at, sum_at, size_at, header_at, past, magic_035, magic_037}
use Rattle.file_laws.specs.Header.{KeepsSize, IsReadHeader}
use Rattle.file_laws.proofs.Words.{finds_word, finds_need, tested, step}

pub finds_fixed : (bytes : List ℕ) (at wanted : ℕ) → Finds (λ u. Is32 bytes at wanted) (fixed_at bytes at wanted)
unfolding fixed_at
finds_fixed bytes at wanted = same (fixed_at bytes at wanted) (step (finds_word bytes at) (λ n h. tested (eqb n wanted) (fault.Header at) (eqb-true n wanted) (eq-eqb n wanted)))
    (λ y p. subst (λ k. Is32 bytes at k) p.2 p.1)
    (λ y h. (wanted, h, refl))

pub finds_sum : (bytes : List ℕ) → Finds (λ u. Is32 bytes 8 (adler_of (drop 12 bytes))) (sum_at bytes)
unfolding sum_at
finds_sum bytes = same (sum_at bytes) (step (finds_word bytes 8) (λ n h. tested (eqb n (adler_of (drop 12 bytes))) (fault.Checksum n (adler_of (drop 12 bytes))) (eqb-true n (adler_of (drop 12 bytes))) (eq-eqb n (adler_of (drop 12 bytes)))))
    (λ y p. subst (λ k. Is32 bytes 8 k) p.2 p.1)
    (λ y h. (adler_of (drop 12 bytes), h, refl))

pub finds_size : (bytes : List ℕ) (at : ℕ) (counted : Counted) → Finds (λ u. KeepsSize bytes at counted) (size_at bytes at counted)
unfolding size_at
finds_size bytes at counted = step (finds_word bytes at) (λ n h. tested (leb n (limit_of counted)) (past counted) (leb-true n (limit_of counted)) (le-leb n (limit_of counted)))

-- ---- the version

is_magic : (bytes magic : List ℕ) → pointwise nat_eq magic (take 8 bytes) ≡ true → take 8 bytes ≡ magic
is_magic bytes magic h = sym ((bytes_decides magic (take 8 bytes)).0 h)

magic_is : (bytes magic : List ℕ) → take 8 bytes ≡ magic → pointwise nat_eq magic (take 8 bytes) ≡ true
magic_is bytes magic h = (bytes_decides magic (take 8 bytes)).1 (sym h)

is_five : List ℕ → Bool
is_five bytes = eqb (slice_index bytes 6) 53

differ : is_five (magic_of V035) ≡ is_five (magic_of V037) → ⊥
unfolding is_five
differ e = true≢false e

once : (v w : Version) → magic_of v ≡ magic_of w → v ≡ w
once V035 V035 e = refl
once V037 V037 e = refl
once V035 V037 e = absurd (differ (ap is_five e))
once V037 V035 e = absurd (differ (ap is_five (sym e)))

no_version : (bytes : List ℕ) (v : Version) → take 8 bytes ≡ magic_of v → pointwise nat_eq magic_035 (take 8 bytes) ≡ false → pointwise nat_eq magic_037 (take 8 bytes) ≡ false → ⊥
no_version bytes V035 h a b = true≢false (sym (magic_is bytes magic_035 h) ∙ a)
no_version bytes V037 h a b = true≢false (sym (magic_is bytes magic_037 h) ∙ b)

by_version : (bytes : List ℕ) (a b : Bool) → pointwise nat_eq magic_035 (take 8 bytes) ≡ a → pointwise nat_eq magic_037 (take 8 bytes) ≡ b
    → Finds (λ v. take 8 bytes ≡ magic_of v) (cond a (Ok V035) (cond b (Ok V037) (Err fault.Magic)))
by_version bytes true b ea eb = same (Ok V035) (pure V035)
    (λ v p. subst (λ w. take 8 bytes ≡ magic_of w) (sym p) (is_magic bytes magic_035 ea))
    (λ v h. once v V035 (sym h ∙ is_magic bytes magic_035 ea))
by_version bytes false true ea eb = same (Ok V037) (pure V037)
    (λ v p. subst (λ w. take 8 bytes ≡ magic_of w) (sym p) (is_magic bytes magic_037 eb))
    (λ v h. once v V037 (sym h ∙ is_magic bytes magic_037 eb))
by_version bytes false false ea eb = record { found = λ v h. absurd (not_both fault.Magic v h); again = λ v h. absurd (no_version bytes v h ea eb) }

pub finds_version : (bytes : List ℕ) → Finds (λ v. take 8 bytes ≡ magic_of v) (version_at bytes)
unfolding version_at
finds_version bytes = by_version bytes (pointwise nat_eq magic_035 (take 8 bytes)) (pointwise nat_eq magic_037 (take 8 bytes)) refl refl

-- ---- the header

pub finds_header : (bytes : List ℕ) → Finds (IsReadHeader bytes) (header_at bytes)
unfolding header_at
finds_header bytes = same (header_at bytes)
    (step (finds_need bytes 0 112) (λ u1 _.
    step (finds_version bytes) (λ version _.
    step (finds_fixed bytes 32 (length bytes)) (λ u2 _.
    step (finds_fixed bytes 36 112) (λ u3 _.
    step (finds_fixed bytes 40 0x12345678) (λ u4 _.
    step (finds_fixed bytes 44 0) (λ u5 _.
    step (finds_sum bytes) (λ u6 _.
    step (finds_size bytes 64 Types) (λ u7 _.
    step (finds_size bytes 72 Protos) (λ u8 _.
    step (finds_size bytes 80 Fields) (λ u9 _.
    step (finds_size bytes 88 Methods) (λ u10 _. pure version))))))))))))
    (λ y p.
    let v = p.2 in let sizes = v.2.2.2.2.2.2 in
    rw sizes.2.2.2.2 (record {
      header = record { whole = p.1; magic = v.1; file_size = v.2.1; header_size = v.2.2.1; endian_tag = v.2.2.2.1; link_size = v.2.2.2.2.1; checksum = v.2.2.2.2.2.1 };
      types = sizes.1;
      protos = sizes.2.1;
      fields = sizes.2.2.1;
      methods = sizes.2.2.2.1;
    }))
    (λ y h. (
      tt,
      h.header.whole,
      (
        y,
        h.header.magic,
        (
          tt,
          h.header.file_size,
          (
            tt,
            h.header.header_size,
            (
              tt,
              h.header.endian_tag,
              (
                tt,
                h.header.link_size,
                (
                  tt,
                  h.header.checksum,
                  (tt, h.types, (tt, h.protos, (tt, h.fields, (tt, h.methods, refl)))),
                ),
              ),
            ),
          ),
        ),
      ),
    ))
