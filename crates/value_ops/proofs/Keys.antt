-- A value without one key more.
use Rattle.std.proofs.Common.{◌≡◌, ℕ, zero, suc, ◌+◌, ◌<◌, arith, ℤ, List, [], ◌∷◌, ◌++◌, length, take, get_or, refl, sym, ◌∙◌, ap, add-one}
use Rattle.std.specs.Prelude.{fold}
use Rattle.std.specs.Int.{w32, cast_unsigned}
use Rattle.std.proofs.lemmas.Int.{of_z-to_z}
use Rattle.std.proofs.lemmas.List.{take_more}
use Rattle.std.proofs.lemmas.List.Sums.{fold-append}
use Rattle.domains.specs.Values.{Parts}
use Rattle.value_ops.specs.Left.{goes_on, without}
use Rattle.value_ops.specs.Tests.{without_all, unkeyed_value, key_word, key_at, consecutive, without_run, unpacked_value}

pub more_keys : (zs : List ℤ) (i : ℕ) (d : ℤ) (x v w : Parts) → i < length zs → v ≡ without_all (take i zs) x → w ≡ without (cast_unsigned w32 (get_or zs i d)) v → w ≡ without_all (take (i + 1) zs) x
more_keys zs i d x v w l e k =
    k ∙ ap (without (cast_unsigned w32 (get_or zs i d))) e
    ∙ sym (ap (λ (ks : List ℤ). without_all ks x) (take_more zs i d l) ∙ fold-append (λ v z. without (cast_unsigned w32 z) v) x (take i zs) (get_or zs i d ∷ []))

pub next_word : (start n : ℕ) (x v w : Parts) → v ≡ without_run start n x → w ≡ without (key_word start n) v → w ≡ without_run start (n + 1) x
next_word start n x v w e k = rw add-one (k ∙ ap (without (key_word start n)) e)

-- consecutive words are the keys of a packed switch
pub run_is : (first : ℤ) (n : ℕ) (x : Parts) → without_run (cast_unsigned w32 first) n x ≡ without_all (consecutive first n) x
run_is first zero x = refl
run_is first (suc n) x =
    ap (λ m. without m (without_run (cast_unsigned w32 first) n x)) (sym (of_z-to_z w32 (key_word (cast_unsigned w32 first) n) (omega arith)))
    ∙ ap (without (cast_unsigned w32 (key_at first n))) (run_is first n x)
    ∙ sym (fold-append (λ v z. without (cast_unsigned w32 z) v) x (consecutive first n) (key_at first n ∷ []))

pub unpacked_is : (first : ℤ) (n : ℕ) (x : Parts) → unpacked_value first n x ≡ unkeyed_value (consecutive first n) x
unpacked_is first n x = ap goes_on (run_is first n x)
