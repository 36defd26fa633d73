-- Reading opcode after opcode.
use Rattle.std.proofs.Common.{◌≡◌, ℕ, suc, ◌+◌, ◌-◌, ◌<◌, ◌≤◌, ◌^◌, List, [], ◌++◌, length, drop, replicate, Option, Some, None, Result, Ok, refl, sym, ap, ◌∙◌, append_assoc, add_assoc, zero-add, arith}
use Rattle.std.proofs.lemmas.Bool.{eq-eqb, ne_eqb}
use Rattle.std.proofs.lemmas.List.{append-nil, length-append, length-drop, length-replicate, drop-drop}
use Rattle.dex_base.specs.declared.fault.BaseFault.{BaseFault}
use Rattle.dex_base.specs.Leb.{uleb_at}
use Rattle.line_tables.specs.declared.read.Spot.{Spot}
use Rattle.line_tables.specs.declared.read.Turn.{Turn}
use Rattle.line_tables.specs.declared.read.Turn.TheVariants.{Breaks, IsOver, GoesTo, EntersAt}
use Rattle.line_tables.specs.Item.{skip_at, Lines, read_as, ahead, one_more, count_below, enter, take_turn, turn_at, walk, StaysLow}

abbrev read_to : ℕ → ℕ → ℕ × ℕ
read_to n behind = (n, behind)

-- one number more
pub skips_on : (bytes : List ℕ) (count i at number behind : ℕ) (total : Result ℕ BaseFault) → i < count → Ok (read_to number behind) ≡ uleb_at bytes at
    → skip_at bytes (count - i) at ≡ total → skip_at bytes (count - (i + 1)) behind ≡ total
skips_on bytes count i at number behind total few is so_far =
    let k : count - i ≡ suc (count - (i + 1)) = omega arith in
    let one : skip_at bytes (count - i) at ≡ skip_at bytes (count - (i + 1)) behind = rw (k, ← is) refl in
    sym one ∙ so_far

-- lines before lines
pub ahead_ahead : (xs ys : List ℕ) (m n : ℕ) (read : Lines) → ahead xs m (ahead ys n read) ≡ ahead (xs ++ ys) (m + n) read
ahead_ahead xs ys m n read = both (read.0) read.1
  where
    both : (lines : Option (List ℕ)) (opcodes : ℕ) → ahead xs m (ahead ys n (lines, opcodes)) ≡ ahead (xs ++ ys) (m + n) (lines, opcodes)
    both None opcodes = ap (read_as None) (sym (add_assoc m n opcodes))
    both (Some zs) opcodes = ap (λ (ls : List ℕ). read_as (Some ls) (m + (n + opcodes))) (sym (append_assoc xs ys zs)) ∙ ap (read_as (Some (xs ++ ys ++ zs))) (sym (add_assoc m n opcodes))

-- so many opcodes are read, and these lines stand
pub record HasWalked (bytes starts : List ℕ) (most : ℕ) (total : Lines) (done : ℕ) (lines : List ℕ) (line : ℕ) (s : Spot) : Type 0 where
  pub within : length lines ≤ length starts
  pub address_low : s.address < 2 ^ 31
  pub line_low : s.line < 2 ^ 31
  pub gives : ahead lines done (walk (most - done) bytes line (drop (length lines) starts) s) ≡ total

-- the turn that is read next
next_turn : (bytes starts : List ℕ) (most : ℕ) (total : Lines) (done : ℕ) (lines : List ℕ) (line : ℕ) (s : Spot) (turn : Turn) → HasWalked bytes starts most total done lines line s → done < most → turn ≡ turn_at bytes s
    → ahead lines done (take_turn bytes line (drop (length lines) starts) s turn (λ l us n. walk (most - (done + 1)) bytes l us n)) ≡ total
next_turn bytes starts most total done lines line s turn h few at =
    let k : most - done ≡ suc (most - (done + 1)) = omega arith in
    let one : ahead lines done (walk (most - done) bytes line (drop (length lines) starts) s) ≡ ahead lines done (take_turn bytes line (drop (length lines) starts) s turn (λ l us n. walk (most - (done + 1)) bytes l us n)) = rw (k, at) refl in
    sym one ∙ h.gives

pub walk_breaks : (bytes starts : List ℕ) (most : ℕ) (total : Lines) (done : ℕ) (lines : List ℕ) (line : ℕ) (s : Spot) → HasWalked bytes starts most total done lines line s → done < most → Breaks ≡ turn_at bytes s
    → read_as None (done + one_more bytes s) ≡ total
walk_breaks bytes starts most total done lines line s h few at = next_turn bytes starts most total done lines line s Breaks h few at

pub walk_over : (bytes starts : List ℕ) (most : ℕ) (total : Lines) (done : ℕ) (lines : List ℕ) (line : ℕ) (s : Spot) → HasWalked bytes starts most total done lines line s → done < most → IsOver ≡ turn_at bytes s
    → read_as (Some (lines ++ replicate (length starts - length lines) line)) (done + 1) ≡ total
walk_over bytes starts most total done lines line s h few at =
    ap (λ (n : ℕ). read_as (Some (lines ++ replicate n line)) (done + 1)) (sym (length-drop (length lines) starts)) ∙ next_turn bytes starts most total done lines line s IsOver h few at

pub walk_goes : (bytes starts : List ℕ) (most : ℕ) (total : Lines) (done : ℕ) (lines : List ℕ) (line : ℕ) (s next : Spot) → HasWalked bytes starts most total done lines line s → done < most → GoesTo next ≡ turn_at bytes s → StaysLow (GoesTo next)
    → HasWalked bytes starts most total (done + 1) lines line next
walk_goes bytes starts most total done lines line s next h few at low = record {
  within = h.within;
  address_low = low.0;
  line_low = low.1;
  gives =
      let read = walk (most - (done + 1)) bytes line (drop (length lines) starts) next in
      ap (λ (ls : List ℕ). ahead ls (done + 1) read) (sym (append-nil lines)) ∙ sym (ahead_ahead lines [] done 1 read) ∙ next_turn bytes starts most total done lines line s (GoesTo next) h few at;
}

-- the positions before an entry, and whether those are all
pub walk_done : (bytes starts : List ℕ) (most : ℕ) (total : Lines) (done : ℕ) (lines : List ℕ) (line n : ℕ) (s next : Spot) → HasWalked bytes starts most total done lines line s → done < most → EntersAt next ≡ turn_at bytes s
    → n ≡ count_below next.address (drop (length lines) starts) → length (lines ++ replicate n line) ≡ length starts → read_as (Some (lines ++ replicate n line)) (done + 1) ≡ total
walk_done bytes starts most total done lines line n s next h few at is all =
    let rest = drop (length lines) starts in
    let e : n ≡ length rest = omega (arith, all, length-append lines (replicate n line), length-replicate n line, length-drop (length lines) starts, h.within) in
    let more : ℕ → List ℕ → Spot → Lines = λ l us k. walk (most - (done + 1)) bytes l us k in
    let one : ahead lines done (enter n line rest next more) ≡ read_as (Some (lines ++ replicate n line)) (done + 1) = rw (eq-eqb n (length rest) e) refl in
    sym one ∙ ap (λ (k : ℕ). ahead lines done (enter k line rest next more)) is ∙ next_turn bytes starts most total done lines line s (EntersAt next) h few at

pub walk_enters : (bytes starts : List ℕ) (most : ℕ) (total : Lines) (done : ℕ) (lines : List ℕ) (line n : ℕ) (s next : Spot) → HasWalked bytes starts most total done lines line s → done < most → EntersAt next ≡ turn_at bytes s
    → n ≡ count_below next.address (drop (length lines) starts) → n ≤ length (drop (length lines) starts) → (length (lines ++ replicate n line) ≡ length starts → ⊥) → StaysLow (EntersAt next)
    → HasWalked bytes starts most total (done + 1) (lines ++ replicate n line) next.line next
walk_enters bytes starts most total done lines line n s next h few at is within not low =
    let rest = drop (length lines) starts in
    let size : length (lines ++ replicate n line) ≡ length lines + n = omega (arith, length-append lines (replicate n line), length-replicate n line) in
    let ne : n ≡ length rest → ⊥ = λ e. not (omega (arith, e, size, length-drop (length lines) starts, h.within)) in
    let more : ℕ → List ℕ → Spot → Lines = λ l us k. walk (most - (done + 1)) bytes l us k in
    let one : ahead lines done (enter n line rest next more) ≡ ahead lines done (ahead (replicate n line) 1 (more next.line (drop n rest) next)) = rw (ne_eqb n (length rest) ne) refl in
    let behind : drop (length (lines ++ replicate n line)) starts ≡ drop n rest = ap (λ (k : ℕ). drop k starts) size ∙ sym (drop-drop n (length lines) starts) in
    record {
      within = omega (arith, size, within, length-drop (length lines) starts, h.within);
      address_low = low.0;
      line_low = low.1;
      gives = ap (λ (us : List ℕ). ahead (lines ++ replicate n line) (done + 1) (more next.line us next)) behind ∙ sym (ahead_ahead lines (replicate n line) done 1 (more next.line (drop n rest) next)) ∙ sym one
          ∙ ap (λ (k : ℕ). ahead lines done (enter k line rest next more)) is ∙ next_turn bytes starts most total done lines line s (EntersAt next) h few at;
    }

pub none_ahead : (read : Lines) → ahead [] 0 read ≡ read
none_ahead (None, n) = ap (read_as None) (zero-add n)
none_ahead (Some ls, n) = ap (read_as (Some ls)) (zero-add n)

pub walk_starts : (bytes starts : List ℕ) (most : ℕ) (s : Spot) → s.address < 2 ^ 31 → s.line < 2 ^ 31 → HasWalked bytes starts most (walk most bytes 0 starts s) 0 [] 0 s
walk_starts bytes starts most s address line =
    let k : most - 0 ≡ most = omega arith in
    record { within = omega arith; address_low = address; line_low = line; gives = rw k (none_ahead (walk most bytes 0 starts s)) }

pub walk_ends : (bytes starts : List ℕ) (most : ℕ) (total : Lines) (done : ℕ) (lines : List ℕ) (line : ℕ) (s : Spot) → HasWalked bytes starts most total done lines line s → done ≡ most → read_as None (most + one_more bytes s) ≡ total
walk_ends bytes starts most total done lines line s h all =
    let k : most - done ≡ 0 = omega arith in
    let one : ahead lines done (walk (most - done) bytes line (drop (length lines) starts) s) ≡ read_as None (done + one_more bytes s) = rw k refl in
    ap (λ (n : ℕ). read_as None (n + one_more bytes s)) (sym all) ∙ sym one ∙ h.gives
