-- Numbers of four bytes are below 2 ^ 32, and so is the number of classes.
use Rattle.std.proofs.Common.{◌≡◌, zero, suc, ◌^◌, ◌+◌, ◌*◌, ◌<◌, ℕ, List, [], ◌∷◌, length, take, drop, Bool, true, false, eqb, Result, Ok, refl, sym, ap, subst, ◌∙◌, arith, if◌then◌else◌}
use Rattle.std.specs.Prelude.{slice_index}
use Rattle.std.specs.Int.{w32, from_le_bytes}
use Rattle.std.proofs.lemmas.Bool.{eqb-true}
use Rattle.dex_base.specs.Reading.{◌>>=◌}
use Rattle.dex_base.specs.Word.{Is32, u32_at}
use Rattle.dex_base.proofs.Decides.{ok_is}
use Rattle.dex_base.proofs.Words.{is_32}
use Rattle.program_model.specs.declared.program.Class.{Class}
use Rattle.program_model.specs.declared.program.Program.{Program}
use Rattle.dex_pools.specs.Run.{run}
use Rattle.dex_pools.proofs.Finding.{finds, raised, finds_run}
use Rattle.dex_read.specs.declared.fault.DexFault.{DexFault}
use Rattle.dex_read.specs.declared.members.Budget.{Budget}
use Rattle.dex_read.specs.Faults.{of_base}
use Rattle.dex_read.specs.File.{classes_at, table_at, class_in}
use Rattle.dex_read.specs.Header.{need_at}
use Rattle.dex_read.specs.Word.{word_at}
use Rattle.dex_read.proofs.Rising.{then_ok}

-- ---- words

-- each of these is a byte
abbrev pub AreBytes : List ℕ → Type 0
AreBytes bytes = (i : ℕ) → slice_index bytes i < 256

pub taken : (n : ℕ) (bytes : List ℕ) → AreBytes bytes → AreBytes (take n bytes)
taken zero [] h i = omega arith
taken zero (b ∷ bytes) h i = omega arith
taken (suc n) [] h i = omega arith
taken (suc n) (b ∷ bytes) h zero = h 0
taken (suc n) (b ∷ bytes) h (suc i) = taken n bytes (λ k. h (suc k)) i

pub dropped : (n : ℕ) (bytes : List ℕ) → AreBytes bytes → AreBytes (drop n bytes)
dropped zero bytes h i = h i
dropped (suc n) [] h i = omega arith
dropped (suc n) (b ∷ bytes) h i = dropped n bytes (λ k. h (suc k)) i

-- a number by its four bytes
of_four : (bytes : List ℕ) → from_le_bytes w32 bytes ≡ slice_index bytes 0 + 256 * slice_index bytes 1 + 65536 * slice_index bytes 2 + 16777216 * slice_index bytes 3
of_four bytes = omega arith

pub word_below : (bytes : List ℕ) → AreBytes bytes → (at n : ℕ) → Is32 bytes at n → n < 2 ^ 32
word_below bytes h at n is =
    let four = taken 4 (drop at bytes) (dropped at bytes h) in
    omega (arith, is.spelled, of_four (take 4 (drop at bytes)), four 0, four 1, four 2, four 3)

-- ---- classes

run_length : {X S F : Type 0} (f : ℕ → S → Result (X × S) F) (from n : ℕ) (s : S) (r : List X × S) → run f from n s ≡ Ok r → length r.0 ≡ n
run_length f from n s r h = ((finds_run (λ i t y. f i t ≡ Ok y) f (λ i t. record { found = λ y e. e; again = λ y e. e }) from n s).found r h).0

abbrev Classes : Type 0
Classes = List Class × Budget

chosen : (none : Bool) (count : ℕ) (left : Budget) (read : Result Classes DexFault) (r : Classes) → (none ≡ true → count ≡ 0) → (read ≡ Ok r → length r.0 ≡ count)
    → (if none then Ok ([], left) else read) ≡ Ok r → length r.0 ≡ count
chosen true count left read r zero_is to h = ap (λ (x : Classes). length x.0) (sym (ok_is {F = DexFault} ([], left) r h)) ∙ sym (zero_is refl)
chosen false count left read r zero_is to h = to h

table_length : (bytes : List ℕ) (p : Program) (count offset : ℕ) (left : Budget) (r : Classes) → table_at bytes p count offset left ≡ Ok r → length r.0 ≡ count
unfolding table_at
table_length bytes p count offset left r h =
    let read : Result Classes DexFault = run (class_in bytes p offset) 0 count left in
    chosen (eqb count 0) count left (need_at bytes offset (32 * count) >>= λ whole. read) r (eqb-true count 0)
    (λ e. run_length (class_in bytes p offset) 0 count left r (then_ok (need_at bytes offset (32 * count)) (λ whole. read) r e).2) h

pub word_is : (bytes : List ℕ) (at n : ℕ) → word_at bytes at ≡ Ok n → Is32 bytes at n
word_is bytes at n h = (raised of_base (u32_at bytes at) (finds (u32_at bytes at) (is_32 bytes at))).found n h

pub few_classes : (bytes : List ℕ) (p : Program) (left : Budget) (classes : List Class) → AreBytes bytes → classes_at bytes p left ≡ Ok classes → length classes < 2 ^ 32
unfolding classes_at
few_classes bytes p left classes b h =
    let table : ℕ → ℕ → Result (List Class) DexFault = λ count offset. table_at bytes p count offset left >>= λ cs. Ok cs.0 in
    let count = then_ok (word_at bytes 96) (λ n. word_at bytes 100 >>= λ offset. table n offset) classes h in
    let offset = then_ok (word_at bytes 100) (λ n. table count.0 n) classes count.2 in
    let read = then_ok (table_at bytes p count.0 offset.0 left) (λ cs. Ok cs.0) classes offset.2 in
    let long : length read.0.0 ≡ count.0 = table_length bytes p count.0 offset.0 left read.0 read.1 in
    let same : read.0.0 ≡ classes = ok_is {F = DexFault} read.0.0 classes read.2 in
    subst (λ (cs : List Class). length cs < 2 ^ 32) same (subst (λ n. n < 2 ^ 32) (sym long) (word_below bytes b 96 count.0 (word_is bytes 96 count.0 count.1)))
