-- Numbers one behind another.
use Rattle.std.proofs.Common.{◌≡◌, ◌<◌, ◌+◌, ◌*◌, ◌^◌, ℕ, zero, suc, List, [], ◌∷◌, ◌++◌, length, refl, sym, ap, subst, ◌∙◌, length-append, arith}
use Rattle.std.specs.Int.{w16, w32, from_le_bytes, to_le_bytes}
use Rattle.std.specs.List.{AllByRecursion}
use Rattle.std.proofs.lemmas.List.Concat.{flat_map-append}
use Rattle.std.proofs.lemmas.Nat.{from_le_bytes-to_le_bytes_2}
use Rattle.sha1.specs.Sha1.{sha1, digest_bytes}
use Rattle.dex_base.specs.Decides.{Each, Entries}
use Rattle.dex_base.specs.Word.{Is16, Is32}
use Rattle.dex_write.specs.Numbers.{words}
use Rattle.dex_defs.specs.Here.{Here}
use Rattle.dex_defs.specs.Texts as defs
use Rattle.write_laws.proofs.Here.{here_left, here_right, here_32, here_is}

pub same_words : (ns : List ℕ) → words ns ≡ defs.words ns
unfolding words
same_words ns = refl

pub words_cons : (n : ℕ) (ns : List ℕ) → words (n ∷ ns) ≡ to_le_bytes w32 n ++ words ns
unfolding words
words_cons n ns = refl

pub words_append : (ms ns : List ℕ) → words (ms ++ ns) ≡ words ms ++ words ns
unfolding words
words_append ms ns = flat_map-append (to_le_bytes w32) ms ns

pub words_length : (ns : List ℕ) → length (words ns) ≡ 4 * length ns
unfolding words
words_length [] = refl
words_length (n ∷ ns) = length-append (to_le_bytes w32 n) (words ns) ∙ omega (arith, words_length ns)

pub here_16 : (bytes : List ℕ) (at n : ℕ) → n < 2 ^ 16 → Here bytes at (to_le_bytes w16 n) → Is16 bytes at n
here_16 bytes at n lt h = record { inside = h.inside; spelled = sym (ap (λ (l : List ℕ). from_le_bytes w16 l) h.is ∙ from_le_bytes-to_le_bytes_2 n lt) }

-- each of these is below 2 ^ 32
abbrev pub Few : List ℕ → Type 0
Few ns = AllByRecursion (λ n. n < 2 ^ 32) ns

each_word : (bytes : List ℕ) (at from : ℕ) (ns : List ℕ) → Few ns → Here bytes (at + 4 * from) (words ns) → Each (λ i n. Is32 bytes (at + 4 * i) n) from ns
each_word bytes at from [] few h = tt
each_word bytes at from (n ∷ ns) few h =
    let both : Here bytes (at + 4 * from) (to_le_bytes w32 n ++ words ns) = subst (λ l. Here bytes (at + 4 * from) l) (words_cons n ns) h in (
      here_32 bytes (at + 4 * from) n few.0 (here_left bytes (at + 4 * from) (to_le_bytes w32 n) (words ns) both),
      each_word bytes at (suc from) ns few.1 (here_is bytes (at + 4 * from + length (to_le_bytes w32 n)) (at + 4 * suc from) (words ns) (omega arith) (here_right bytes (at + 4 * from) (to_le_bytes w32 n) (words ns) both)),
    )

-- numbers one behind another are the entries of a table
pub here_words : (bytes : List ℕ) (at : ℕ) (ns : List ℕ) → Few ns → Here bytes at (words ns) → Entries (length ns) (λ i n. Is32 bytes (at + 4 * i) n) ns
here_words bytes at ns few h = (refl, each_word bytes at 0 ns few (here_is bytes at (at + 4 * 0) (words ns) (omega arith) h))

-- the first number, and the others behind it
pub first_word : (bytes : List ℕ) (at n : ℕ) (ns : List ℕ) → n < 2 ^ 32 → Here bytes at (words (n ∷ ns)) → Is32 bytes at n
first_word bytes at n ns lt h = here_32 bytes at n lt (here_left bytes at (to_le_bytes w32 n) (words ns) (subst (λ l. Here bytes at l) (words_cons n ns) h))

pub other_words : (bytes : List ℕ) (at n : ℕ) (ns : List ℕ) → Here bytes at (words (n ∷ ns)) → Here bytes (at + 4) (words ns)
other_words bytes at n ns h = here_right bytes at (to_le_bytes w32 n) (words ns) (subst (λ l. Here bytes at l) (words_cons n ns) h)

-- ---- the signature

digest_length : (h : List ℕ) (n : ℕ) → length (digest_bytes h n) ≡ 4 * n
unfolding digest_bytes
digest_length h zero = refl
digest_length h (suc n) = length-append (digest_bytes h n) _ ∙ omega (arith, digest_length h n)

pub sha1_length : (m : List ℕ) → length (sha1 m) ≡ 20
unfolding sha1
sha1_length m = digest_length _ 5
