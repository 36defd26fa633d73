-- What is read position after position is what the entries say.
use Rattle.std.proofs.Common.{◌≡◌, ℕ, zero, suc, ◌+◌, ◌<◌, ◌≤◌, inl, inr, Bool, true, false, cond, eqb, leb, List, [], ◌∷◌, ◌++◌, map, length, take, drop, replicate, Option, Some, None, Result, Ok, Err, refl, sym, ap, ◌∙◌, append_assoc, arith}
use Rattle.std.specs.Prelude.{pos, ◌+ℤ◌, nat_lt}
use Rattle.std.specs.List.{AllByRecursion, list_all}
use Rattle.std.specs.Option.{option_map}
use Rattle.std.proofs.lemmas.Bool.{cases_lt, cases_eq, lt-ltb, le-ltb, le-leb, lt-leb, eq-eqb, ne_eqb, eqb-true}
use Rattle.std.proofs.lemmas.List.{take-append-drop}
use Rattle.dex_base.specs.declared.fault.BaseFault.{BaseFault}
use Rattle.line_tables.specs.declared.opcode.Effect.{Effect}
use Rattle.line_tables.specs.declared.opcode.Kind.{Kind}
use Rattle.line_tables.specs.declared.opcode.Kind.TheVariants.{Step, Entry, End}
use Rattle.line_tables.specs.declared.read.Spot.{Spot}
use Rattle.line_tables.specs.declared.read.Turn.{Turn}
use Rattle.line_tables.specs.declared.read.Turn.TheVariants.{Breaks, IsOver, GoesTo, EntersAt}
use Rattle.line_tables.specs.Item.{spot, turn_to, turn_of, turn_at, moved_by, in_range, opcode_at, count_below, Lines, read_as, ahead, enter, take_turn, walk, begin_at, begun, lines_at}
use Rattle.line_tables.specs.Text.{AscendsFrom}
use Rattle.line_tables.specs.Entries.{Found, found_as, found_before, entry, find_turn, entries_from, line_of, begun_by, item_lines}

-- ---- addresses never fall

-- a turn to this address or above
abbrev Rises : ℕ → Turn → Type 0
Rises low Breaks = Unit {0}
Rises low IsOver = Unit {0}
Rises low (GoesTo s) = low ≤ s.address
Rises low (EntersAt s) = low ≤ s.address

-- an address and a line at or above
abbrev Above : ℕ → Option (ℕ × ℕ) → Type 0
Above low None = Unit {0}
Above low (Some p) = low ≤ p.0

above_if : (b : Bool) (address step : ℕ) (line : Option ℕ) → Above address (cond b (option_map (λ n. (address + step, n)) line) None)
above_if true address step None = tt
above_if true address step (Some n) = omega arith
above_if false address step line = tt

moved_above : (address line : ℕ) (e : Effect) → Above address (moved_by address line e)
unfolding moved_by
moved_above address line e = above_if _ address e.address (in_range (pos line +ℤ e.line))

entry_rises : (b : Bool) (low : ℕ) (s : Spot) → low ≤ s.address → Rises low (cond b Breaks (EntersAt s))
entry_rises true low s le = tt
entry_rises false low s le = le

to_rises : (kind : Kind) (low behind : ℕ) (there : Option (ℕ × ℕ)) → Above low there → Rises low (turn_to kind behind there)
to_rises End low behind there above = tt
to_rises Step low behind None above = tt
to_rises Step low behind (Some p) above = above
to_rises Entry low behind None above = tt
to_rises Entry low behind (Some p) above = entry_rises _ low (spot behind p.0 p.1) above

of_rises : (s : Spot) (read : Result (Effect × ℕ) BaseFault) → Rises s.address (turn_of s read)
of_rises s (Err e) = tt
of_rises s (Ok r) = to_rises r.0.kind s.address r.1 (moved_by s.address s.line r.0) (moved_above s.address s.line r.0)

rises : (bytes : List ℕ) (s : Spot) → Rises s.address (turn_at bytes s)
unfolding turn_at
rises bytes s = of_rises s (opcode_at bytes s.place)

-- entries at or above
abbrev AllAbove : ℕ → Option (List (ℕ × ℕ)) → Type 0
AllAbove low None = Unit {0}
AllAbove low (Some entries) = AllByRecursion (λ e. low ≤ e.0) entries

all_lower : (low high : ℕ) (entries : List (ℕ × ℕ)) → low ≤ high → AllByRecursion (λ e. high ≤ e.0) entries → AllByRecursion (λ e. low ≤ e.0) entries
all_lower low high [] le all = tt
all_lower low high (e ∷ es) le all = (omega (arith, all.0, le), all_lower low high es le all.1)

before_none : (low high : ℕ) (found : Option (List (ℕ × ℕ))) (n : ℕ) → low ≤ high → AllAbove high found → AllAbove low (found_before [] (found, n)).0
before_none low high None n le all = tt
before_none low high (Some es) n le all = all_lower low high es le all

before_one : (low : ℕ) (s : Spot) (found : Option (List (ℕ × ℕ))) (n : ℕ) → low ≤ s.address → AllAbove s.address found → AllAbove low (found_before (entry s ∷ []) (found, n)).0
before_one low s None n le all = tt
before_one low s (Some es) n le all = (le, all_lower low s.address es le all)

turn_above : (bytes starts : List ℕ) (s : Spot) (turn : Turn) (more : Spot → Found) → Rises s.address turn → ((next : Spot) → AllAbove next.address (more next).0) → AllAbove s.address (find_turn bytes starts s turn more).0
turn_above bytes starts s Breaks more up behind = tt
turn_above bytes starts s IsOver more up behind = tt
turn_above bytes starts s (GoesTo next) more up behind = before_none s.address next.address (more next).0 (more next).1 up (behind next)
turn_above bytes starts s (EntersAt next) more up behind = choose (list_all (λ u. nat_lt u next.address) starts)
  where
    choose : (b : Bool) → AllAbove s.address (cond b (found_as (Some []) 1) (found_before (entry next ∷ []) (more next))).0
    choose true = tt
    choose false = before_one s.address next (more next).0 (more next).1 up (behind next)

all_above : (left : ℕ) (bytes starts : List ℕ) (s : Spot) → AllAbove s.address (entries_from left bytes starts s).0
all_above zero bytes starts s = tt
all_above (suc left) bytes starts s = turn_above bytes starts s (turn_at bytes s) (λ next. entries_from left bytes starts next) (rises bytes s) (λ next. all_above left bytes starts next)

-- ---- the positions before an entry, and those behind it

-- no entry is at or before the address
line_none : (before u low : ℕ) (entries : List (ℕ × ℕ)) → u < low → AllByRecursion (λ e. low ≤ e.0) entries → line_of before entries u ≡ before
line_none before u low [] lt all = refl
line_none before u low (e ∷ es) lt all = rw (lt-leb e.0 u (omega (arith, all.0, lt))) (line_none before u low es lt all.1)

abbrev at_line : ℕ → ℕ → ℕ × ℕ
at_line address line = (address, line)

-- positions from the entry on
lines_behind : (starts : List ℕ) (bound before address line : ℕ) (entries : List (ℕ × ℕ)) → address ≤ bound → AscendsFrom bound starts → map (line_of line entries) starts ≡ map (line_of before (at_line address line ∷ entries)) starts
lines_behind [] bound before address line entries le ascends = refl
lines_behind (u ∷ us) bound before address line entries le ascends =
    let head : line_of line entries u ≡ line_of before (at_line address line ∷ entries) u = rw (le-leb address u (omega (arith, le, ascends.0))) refl in
    let tail = lines_behind us (suc u) before address line entries (omega (arith, le, ascends.0)) ascends.2 in
    ap (λ (l : ℕ). l ∷ map (line_of line entries) us) head ∙ ap (λ (ls : List ℕ). line_of before (at_line address line ∷ entries) u ∷ ls) tail

lines_around : (starts : List ℕ) (bound before address line : ℕ) (entries : List (ℕ × ℕ)) → AscendsFrom bound starts → AllByRecursion (λ e. address ≤ e.0) entries
    → replicate (count_below address starts) before ++ map (line_of line entries) (drop (count_below address starts) starts) ≡ map (line_of before (at_line address line ∷ entries)) starts
lines_around [] bound before address line entries ascends above = refl
lines_around (u ∷ us) bound before address line entries ascends above =
    elim (cases_lt u address) [
      | inl lt ↦
          let head : before ≡ line_of before (at_line address line ∷ entries) u = sym (rw (lt-leb address u lt) (line_none before u address entries lt above)) in
          rw (lt-ltb u address lt) (ap (λ (ls : List ℕ). before ∷ ls) (lines_around us (suc u) before address line entries ascends.2 above) ∙ ap (λ (l : ℕ). l ∷ map (line_of before (at_line address line ∷ entries)) us) head)
      | inr ge ↦ rw (le-ltb u address ge) (lines_behind (u ∷ us) u before address line entries ge (omega arith, ascends.1, ascends.2))
    ]

lines_alone : (starts : List ℕ) (before : ℕ) → replicate (length starts) before ≡ map (line_of before []) starts
lines_alone [] before = refl
lines_alone (u ∷ us) before = ap (λ (ls : List ℕ). before ∷ ls) (lines_alone us before)

-- ---- whether all positions are before an address

abbrev all_before : ℕ → List ℕ → Bool
all_before address us = list_all (λ u. nat_lt u address) us

eqb_next : (a b : ℕ) → eqb (suc a) (suc b) ≡ eqb a b
eqb_next a b = elim (cases_eq a b) [
  | inl e ↦ eq-eqb (suc a) (suc b) (ap suc e) ∙ sym (eq-eqb a b e)
  | inr n ↦ ne_eqb (suc a) (suc b) (λ e. n (omega (arith, e))) ∙ sym (ne_eqb a b n)
]

before_is : (address : ℕ) (us : List ℕ) → all_before address us ≡ eqb (count_below address us) (length us)
before_is address [] = refl
before_is address (u ∷ us) =
    elim (cases_lt u address) [
      | inl lt ↦ rw (lt-ltb u address lt) (before_is address us ∙ sym (eqb_next (count_below address us) (length us)))
      | inr ge ↦ rw (le-ltb u address ge) (sym (ne_eqb 0 (suc (length us)) (omega arith)))
    ]

before_append : (address : ℕ) (filled us : List ℕ) → AllByRecursion (λ u. u < address) filled → all_before address (filled ++ us) ≡ all_before address us
before_append address [] us all = refl
before_append address (f ∷ fs) us all = rw (lt-ltb f address all.0) (before_append address fs us all.1)

counted_before : (address : ℕ) (us : List ℕ) → AllByRecursion (λ u. u < address) (take (count_below address us) us)
counted_before address [] = tt
counted_before address (u ∷ us) =
    elim (cases_lt u address) [
      | inl lt ↦ rw (lt-ltb u address lt) (lt, counted_before address us)
      | inr ge ↦ rw (le-ltb u address ge) tt
    ]

before_more : (low high : ℕ) (us : List ℕ) → low ≤ high → AllByRecursion (λ u. u < low) us → AllByRecursion (λ u. u < high) us
before_more low high [] le all = tt
before_more low high (u ∷ us) le all = (omega (arith, all.0, le), before_more low high us le all.1)

both_before : (address : ℕ) (xs ys : List ℕ) → AllByRecursion (λ u. u < address) xs → AllByRecursion (λ u. u < address) ys → AllByRecursion (λ u. u < address) (xs ++ ys)
both_before address [] ys p q = q
both_before address (x ∷ xs) ys p q = (p.0, both_before address xs ys p.1 q)

ascends_drop : (n bound : ℕ) (us : List ℕ) → AscendsFrom bound us → AscendsFrom bound (drop n us)
ascends_drop zero bound us ascends = ascends
ascends_drop (suc n) bound [] ascends = tt
ascends_drop (suc n) bound (u ∷ us) ascends = lower bound (suc u) (drop n us) (omega (arith, ascends.0)) (ascends_drop n (suc u) us ascends.2)
  where
    lower : (low high : ℕ) (us : List ℕ) → low ≤ high → AscendsFrom high us → AscendsFrom low us
    lower low high [] le a = tt
    lower low high (v ∷ vs) le a = (omega (arith, a.0, le), a.1, a.2)

-- ---- the lines of a walk are those of its entries

abbrev lines_from : ℕ → List ℕ → Found → Lines
lines_from line starts found = (option_map (λ entries. map (line_of line entries) starts) found.0, found.1)

goes_on : (line : ℕ) (starts : List ℕ) (found : Option (List (ℕ × ℕ))) (n : ℕ) → ahead [] 1 (lines_from line starts (found, n)) ≡ lines_from line starts (found_before [] (found, n))
goes_on line starts None n = ap (read_as None) (omega arith)
goes_on line starts (Some es) n = ap (read_as (Some (map (line_of line es) starts))) (omega arith)

enters : (line bound : ℕ) (starts : List ℕ) (next : Spot) (found : Option (List (ℕ × ℕ))) (n : ℕ) → AscendsFrom bound starts → AllAbove next.address found
    → ahead (replicate (count_below next.address starts) line) 1 (lines_from next.line (drop (count_below next.address starts) starts) (found, n)) ≡ lines_from line starts (found_before (entry next ∷ []) (found, n))
enters line bound starts next None n ascends above = ap (read_as None) (omega arith)
enters line bound starts next (Some es) n ascends above =
    ap (λ (ls : List ℕ). read_as (Some ls) (1 + n)) (lines_around starts bound line next.address next.line es ascends above) ∙ ap (read_as (Some (map (line_of line (entry next ∷ es)) starts))) (omega arith)

-- an entry, by whether it is behind all positions
enters_at : (b : Bool) (line bound : ℕ) (all starts : List ℕ) (next : Spot) (walks : ℕ → List ℕ → Spot → Lines) (finds : Spot → Found) → all_before next.address all ≡ b → all_before next.address all ≡ eqb (count_below next.address starts) (length starts)
    → AscendsFrom bound starts → AllAbove next.address (finds next).0 → walks next.line (drop (count_below next.address starts) starts) next ≡ lines_from next.line (drop (count_below next.address starts) starts) (finds next)
    → enter (count_below next.address starts) line starts next walks ≡ lines_from line starts (cond b (found_as (Some []) 1) (found_before (entry next ∷ []) (finds next)))
enters_at true line bound all starts next walks finds is same ascends above behind =
    let e : eqb (count_below next.address starts) (length starts) ≡ true = sym same ∙ is in
    let n : count_below next.address starts ≡ length starts = eqb-true _ _ e in
    rw e (ap (λ (k : ℕ). read_as (Some (replicate k line)) 1) n ∙ ap (λ (ls : List ℕ). read_as (Some ls) 1) (lines_alone starts line))
enters_at false line bound all starts next walks finds is same ascends above behind =
    let e : eqb (count_below next.address starts) (length starts) ≡ false = sym same ∙ is in
    rw e (ap (ahead (replicate (count_below next.address starts) line) 1) behind ∙ enters line bound starts next (finds next).0 (finds next).1 ascends above)

by_turn : (bytes all filled starts : List ℕ) (line bound : ℕ) (s : Spot) (turn : Turn) (walks : ℕ → List ℕ → Spot → Lines) (finds : Spot → Found) → all ≡ filled ++ starts → AllByRecursion (λ u. u < s.address) filled → AscendsFrom bound starts → Rises s.address turn
    → ((next : Spot) → AllAbove next.address (finds next).0)
    → ((l : ℕ) (before us : List ℕ) (next : Spot) → all ≡ before ++ us → AllByRecursion (λ u. u < next.address) before → AscendsFrom bound us → walks l us next ≡ lines_from l us (finds next))
    → take_turn bytes line starts s turn walks ≡ lines_from line starts (find_turn bytes all s turn finds)
by_turn bytes all filled starts line bound s Breaks walks finds parts below ascends up above more = refl
by_turn bytes all filled starts line bound s IsOver walks finds parts below ascends up above more = ap (λ (ls : List ℕ). read_as (Some ls) 1) (lines_alone starts line)
by_turn bytes all filled starts line bound s (GoesTo next) walks finds parts below ascends up above more =
    ap (ahead [] 1) (more line filled starts next parts (before_more s.address next.address filled up below) ascends) ∙ goes_on line starts (finds next).0 (finds next).1
by_turn bytes all filled starts line bound s (EntersAt next) walks finds parts below ascends up above more =
    let n = count_below next.address starts in
    let waits : AllByRecursion (λ u. u < next.address) filled = before_more s.address next.address filled up below in
    let same : all_before next.address all ≡ eqb n (length starts) = ap (all_before next.address) parts ∙ before_append next.address filled starts waits ∙ before_is next.address starts in
    let split : all ≡ (filled ++ take n starts) ++ drop n starts = parts ∙ ap (λ (us : List ℕ). filled ++ us) (sym (take-append-drop n starts)) ∙ sym (append_assoc filled (take n starts) (drop n starts)) in
    let behind = more next.line (filled ++ take n starts) (drop n starts) next split (both_before next.address filled (take n starts) waits (counted_before next.address starts)) (ascends_drop n bound starts ascends) in
    enters_at (all_before next.address all) line bound all starts next walks finds refl same ascends (above next) behind

by_entries : (left line bound : ℕ) (bytes all filled starts : List ℕ) (s : Spot) → all ≡ filled ++ starts → AllByRecursion (λ u. u < s.address) filled → AscendsFrom bound starts → walk left bytes line starts s ≡ lines_from line starts (entries_from left bytes all s)
by_entries zero line bound bytes all filled starts s parts below ascends = refl
by_entries (suc left) line bound bytes all filled starts s parts below ascends =
    by_turn bytes all filled starts line bound s (turn_at bytes s) (λ l us n. walk left bytes l us n) (λ n. entries_from left bytes all n) parts below ascends (rises bytes s) (λ n. all_above left bytes all n)
    (λ l before us next split waits goes. by_entries left l bound bytes all before us next split waits goes)

begun_same : (bytes starts : List ℕ) (most : ℕ) (begin : Result (ℕ × ℕ) BaseFault) → AscendsFrom 0 starts → begun bytes starts most begin ≡ begun_by bytes starts most begin
begun_same bytes starts most (Err e) ascends = refl
begun_same bytes starts most (Ok r) ascends = ap (λ (lines : Lines). cond (leb r.0 2147483647) lines (read_as None 0)) (by_entries most 0 0 bytes starts [] starts (spot r.1 0 r.0) refl tt ascends)

pub lines_are : (bytes starts : List ℕ) (at most : ℕ) → AscendsFrom 0 starts → lines_at bytes at starts most ≡ item_lines bytes at starts most
unfolding lines_at item_lines
lines_are bytes starts at most ascends = begun_same bytes starts most (begin_at bytes at) ascends
