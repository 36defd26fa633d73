-- What stands at the front of a sealed file.
use Rattle.std.specs.Prelude.{Vec, Result, Ok, Err, IfOk, OnOk}
use Rattle.std.specs.declared.alloc.Global.{Global}
use Rattle.std.specs.declared.alloc.AllocError.{AllocError}
use Rattle.std.proofs.Common.{◌≡◌, ℕ, ◌+◌, ◌^◌, ◌<◌, List, [], ◌∷◌, ◌++◌, length, take, drop, refl, sym, subst, ◌∙◌, append_assoc, length-append, arith}
use Rattle.std.specs.Int.{w32, to_le_bytes}
use Rattle.std.proofs.lemmas.List.{take_at, drop_at, append-nil}
use Rattle.std.proofs.lemmas.List.Concat.{flat_map-cons}
use Rattle.std.proofs.lemmas.Nat.{from_le_bytes-to_le_bytes_4}
use Rattle.sha1.specs.Sha1.{sha1}
use Rattle.dex_base.specs.Adler.{adler_of}
use Rattle.dex_base.specs.Word.{Is32}
use Rattle.program_model.specs.declared.program.Version.{Version}
use Rattle.program_model.specs.declared.program.Version.TheVariants.{V035, V037}
use Rattle.dex_write.specs.Numbers.{words}
use Rattle.dex_write.specs.File.{magic_of, file_text, IsSealed}

one_word : (n : ℕ) → words (n ∷ []) ≡ to_le_bytes w32 n
unfolding words
one_word n = flat_map-cons (to_le_bytes w32) n [] ∙ append-nil (to_le_bytes w32 n)

behind_two : (a b rest : List ℕ) (n : ℕ) → length a + length b ≡ n → drop n (a ++ (b ++ rest)) ≡ rest
behind_two a b rest n h = rw (← append_assoc a b rest) (drop_at (a ++ b) rest n (length-append a b ∙ h))

behind_three : (a b c rest : List ℕ) (n : ℕ) → length a + length b + length c ≡ n → drop n (a ++ (b ++ (c ++ rest))) ≡ rest
behind_three a b c rest n h = rw (← append_assoc a b (c ++ rest)) (behind_two (a ++ b) c rest n (omega (arith, h, length-append a b)))

word_at : (a rest : List ℕ) (n at : ℕ) → n < 2 ^ 32 → length a ≡ at → Is32 (a ++ (to_le_bytes w32 n ++ rest)) at n
word_at a rest n at lt h =
    let after : drop at (a ++ (to_le_bytes w32 n ++ rest)) ≡ to_le_bytes w32 n ++ rest = drop_at a (to_le_bytes w32 n ++ rest) at h in
    let four : take 4 (drop at (a ++ (to_le_bytes w32 n ++ rest))) ≡ to_le_bytes w32 n = rw after (take_at (to_le_bytes w32 n) rest 4 refl) in
    record {
      inside = omega (arith, h, length-append a (to_le_bytes w32 n ++ rest), length-append (to_le_bytes w32 n) rest);
      spelled = rw four (sym (from_le_bytes-to_le_bytes_4 n lt));
    }

magic_length : (v : Version) → length (magic_of v) ≡ 8
magic_length V035 = refl
magic_length V037 = refl

sum_fits : (bytes : List ℕ) → adler_of bytes < 2 ^ 32
unfolding adler_of
sum_fits bytes = omega arith

sealed_parts : (v : Version) (magic sig body : List ℕ) → magic ≡ magic_of v → sig ≡ sha1 body → length magic ≡ 8 → length sig ≡ 20
    → IsSealed v (magic ++ (to_le_bytes w32 (adler_of (sig ++ body)) ++ (sig ++ body)))
sealed_parts v magic sig body e s m l =
    let sum = to_le_bytes w32 (adler_of (sig ++ body)) in
    let twelve : drop 12 (magic ++ (sum ++ (sig ++ body))) ≡ sig ++ body = behind_two magic sum (sig ++ body) 12 (omega (arith, m)) in
    let rest : drop 32 (magic ++ (sum ++ (sig ++ body))) ≡ body = behind_three magic sum sig body 32 (omega (arith, m, l)) in
    record {
      magic = take_at magic (sum ++ (sig ++ body)) 8 m ∙ e;
      checksum = rw twelve (word_at magic (sig ++ body) (adler_of (sig ++ body)) 8 (sum_fits (sig ++ body)) m);
      signature = rw (twelve, rest) (take_at sig body 20 l ∙ s);
    }

-- a file is sealed, whatever its bytes from 32 on
pub file_is_sealed : (v : Version) (body : List ℕ) → length (sha1 body) ≡ 20 → IsSealed v (file_text v body)
unfolding file_text
file_is_sealed v body l = rw (one_word (adler_of (sha1 body ++ body))) (sealed_parts v (magic_of v) (sha1 body) body refl refl (magic_length v) l)

pub ok_is_sealed : (r : Result (Vec ℕ Global) AllocError) (v : Version) (body : List ℕ) → IfOk r (λ x. x.items ≡ file_text v body) → OnOk r (length (sha1 body) ≡ 20) → IfOk r (λ x. IsSealed v x.items)
ok_is_sealed (Ok x) v body e l = subst (λ (b : List ℕ). IsSealed v b) (sym e) (file_is_sealed v body l)
ok_is_sealed (Err x) v body e l = tt
