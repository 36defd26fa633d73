-- What stood there before stays at the front, while an item is added.
use Rattle.std.proofs.Common.{◌≡◌, ℕ, suc, ◌+◌, ◌<◌, ◌≤◌, ◌^◌, List, ◌∷◌, ◌++◌, length, get_or, take, drop, refl, sym, ap, subst, ◌∙◌, append_assoc, arith}
use Rattle.std.specs.List.{AllByRecursion}
use Rattle.std.proofs.lemmas.Bool.{eq-eqb, ne_eqb}
use Rattle.std.proofs.lemmas.List.{take_at, take_all, take-take, drop_more, length-take}
use Rattle.line_tables.specs.Text.{AscendsFrom, first_line, entry_text, entries_text}

pub front_trans : (a b c : List ℕ) → take (length a) b ≡ a → take (length b) c ≡ b → take (length a) c ≡ a
front_trans a b c p q =
    let le : length a ≤ length b = omega (arith, ap length p, length-take (length a) b) in
    sym (take-take (length a) (length b) c le) ∙ ap (take (length a)) q ∙ p

-- the lines before are 0, and those behind are low
pub record HasSkipped (lines : List ℕ) (i : ℕ) : Type 0 where
  pub gives : first_line (drop i lines) ≡ first_line lines
  pub low : AllByRecursion (λ x. x < 2 ^ 31) (drop i lines)

-- entries are added for the positions before i
pub record HasEntries (old lines starts : List ℕ) (first : ℕ) (out : List ℕ) (i address line shown : ℕ) : Type 0 where
  pub alike : length lines ≡ length starts
  pub bound : ℕ
  pub behind : address ≤ bound
  pub line_low : line < 2 ^ 31
  pub ascends : AscendsFrom bound (drop i starts)
  pub low : AllByRecursion (λ x. x < 2 ^ 31) (drop i lines)
  pub gives : out ++ entries_text address line shown (drop i starts) (drop i lines) ≡ old ++ entries_text 0 first 0 starts lines
  pub front : take (length old) out ≡ old

-- the position that comes next
record IsNext (starts lines : List ℕ) (i bound : ℕ) : Type 0 where
  pub start_is : drop i starts ≡ get_or starts i 0 ∷ drop (i + 1) starts
  pub line_is : drop i lines ≡ get_or lines i 0 ∷ drop (i + 1) lines
  pub above : bound ≤ get_or starts i 0
  pub ascends : AscendsFrom (suc (get_or starts i 0)) (drop (i + 1) starts)
  pub next_low : get_or lines i 0 < 2 ^ 31
  pub low : AllByRecursion (λ x. x < 2 ^ 31) (drop (i + 1) lines)

is_next : (starts lines : List ℕ) (i bound : ℕ) → length lines ≡ length starts → i < length starts → AscendsFrom bound (drop i starts) → AllByRecursion (λ x. x < 2 ^ 31) (drop i lines) → IsNext starts lines i bound
is_next starts lines i bound alike inside ascends low =
    let s : drop i starts ≡ get_or starts i 0 ∷ drop (i + 1) starts = drop_more starts i 0 inside in
    let l : drop i lines ≡ get_or lines i 0 ∷ drop (i + 1) lines = drop_more lines i 0 (omega (arith, alike, inside)) in
    let a : AscendsFrom bound (get_or starts i 0 ∷ drop (i + 1) starts) = subst (AscendsFrom bound) s ascends in
    let b : AllByRecursion (λ x. x < 2 ^ 31) (get_or lines i 0 ∷ drop (i + 1) lines) = subst (AllByRecursion (λ x. x < 2 ^ 31)) l low in
    record { start_is = s; line_is = l; above = a.0; ascends = a.2; next_low = b.0; low = b.1 }

pub HasEntries-none : (old lines starts : List ℕ) (first : ℕ) → length lines ≡ length starts → AscendsFrom 0 starts → AllByRecursion (λ x. x < 2 ^ 31) lines → first < 2 ^ 31 → HasEntries old lines starts first old 0 0 first 0
HasEntries-none old lines starts first alike ascends low first_low = record {
  alike = alike;
  bound = 0;
  behind = omega arith;
  line_low = first_low;
  ascends = ascends;
  low = low;
  gives = refl;
  front = take_all (length old) old (omega arith);
}

-- a position with the line of the one before it
pub HasEntries-same : (old lines starts : List ℕ) (first : ℕ) (out : List ℕ) (i address line shown : ℕ) → HasEntries old lines starts first out i address line shown → i < length starts → get_or lines i 0 ≡ shown
    → HasEntries old lines starts first out (i + 1) address line shown
HasEntries-same old lines starts first out i address line shown h inside same =
    let n = is_next starts lines i h.bound h.alike inside h.ascends h.low in
    let one : entries_text address line shown (drop i starts) (drop i lines) ≡ entries_text address line shown (drop (i + 1) starts) (drop (i + 1) lines) = rw (n.start_is, n.line_is, eq-eqb (get_or lines i 0) shown same) refl in
    record {
      alike = h.alike;
      bound = suc (get_or starts i 0);
      behind = omega (arith, h.behind, n.above);
      line_low = h.line_low;
      ascends = n.ascends;
      low = n.low;
      gives = ap (λ (t : List ℕ). out ++ t) (sym one) ∙ h.gives;
      front = h.front;
    }

-- a position with another line
pub HasEntries-more : (old lines starts : List ℕ) (first : ℕ) (out new : List ℕ) (i address line shown : ℕ) → HasEntries old lines starts first out i address line shown → i < length starts → (get_or lines i 0 ≡ shown → ⊥)
    → new ≡ out ++ entry_text address line (get_or starts i 0) (get_or lines i 0) → HasEntries old lines starts first new (i + 1) (get_or starts i 0) (get_or lines i 0) (get_or lines i 0)
HasEntries-more old lines starts first out new i address line shown h inside other is =
    let n = is_next starts lines i h.bound h.alike inside h.ascends h.low in
    let at = get_or starts i 0 in
    let next = get_or lines i 0 in
    let text = entry_text address line at next in
    let rest = entries_text at next next (drop (i + 1) starts) (drop (i + 1) lines) in
    let one : entries_text address line shown (drop i starts) (drop i lines) ≡ text ++ rest = rw (n.start_is, n.line_is, ne_eqb next shown other) refl in
    record {
      alike = h.alike;
      bound = suc at;
      behind = omega arith;
      line_low = n.next_low;
      ascends = n.ascends;
      low = n.low;
      gives = ap (λ (t : List ℕ). t ++ rest) is ∙ append_assoc out text rest ∙ ap (λ (t : List ℕ). out ++ t) (sym one) ∙ h.gives;
      front = front_trans old out new h.front (ap (take (length out)) is ∙ take_at out text (length out) refl);
    }

-- the next position is behind the address
pub next_behind : (old lines starts : List ℕ) (first : ℕ) (out : List ℕ) (i address line shown : ℕ) → HasEntries old lines starts first out i address line shown → i < length starts → (address ≤ get_or starts i 0) × (get_or lines i 0 < 2 ^ 31)
next_behind old lines starts first out i address line shown h inside =
    let n = is_next starts lines i h.bound h.alike inside h.ascends h.low in
    (omega (arith, h.behind, n.above), n.next_low)
