-- The lines that are read of a debug item fit the positions of a body.
use Rattle.std.proofs.Common.{◌≡◌, ℕ, zero, suc, ◌≤◌, ◌+◌, ◌-◌, Bool, true, false, not, cond, List, [], ◌∷◌, ◌++◌, length, drop, replicate, Option, Some, None, Result, Ok, Err, refl, sym, subst, ◌∙◌, arith}
use Rattle.std.specs.Prelude.{◌&&◌, ◌||◌, ◌==◌, nat_eq, nat_lt, nat_le, ℤ, pos, negsuc, ◌+ℤ◌}
use Rattle.std.specs.List.{list_all, list_any}
use Rattle.std.specs.Option.{option_map}
use Rattle.std.proofs.lemmas.Bool.{leb-true, le-leb, eqb-true, eqb-false, eq-eqb}
use Rattle.std.proofs.lemmas.List.{length-append, length-replicate, length-drop}
use Rattle.std.proofs.lemmas.List.Folds.{list_all-append}
use Rattle.lemmas.proofs.Bools.{and_both, or_right}
use Rattle.lemmas.proofs.Options.{none_some, some_same}
use Rattle.dex_base.specs.declared.fault.BaseFault.{BaseFault}
use Rattle.line_tables.specs.declared.opcode.Effect.{Effect}
use Rattle.line_tables.specs.declared.opcode.Kind.{Kind}
use Rattle.line_tables.specs.declared.opcode.Kind.TheVariants.{Step, Entry, End}
use Rattle.line_tables.specs.declared.read.Spot.{Spot}
use Rattle.line_tables.specs.declared.read.Turn.{Turn}
use Rattle.line_tables.specs.declared.read.Turn.TheVariants.{Breaks, IsOver, GoesTo, EntersAt}
use Rattle.line_tables.specs.Item.{in_range, moved_by, spot, turn_to, turn_of, turn_at, opcode_at, count_below, Lines, ahead, take_turn, walk, begin_at, begun, lines_at}
use Rattle.line_tables.specs.Text.{Lined}
use Rattle.program_model.specs.LineRules.{goes_on_with_lines, lines_fit}
use Rattle.program_model.specs.Neighbours.{neighbours}
use Rattle.dex_read.specs.Code.{kept_lines, counted_lines, lined_at}
use Rattle.read_laws.proofs.Readings.{Reads, weaker, done, when, either}

abbrev most : ℕ
most = 2147483647

-- lines of so many positions behind a position of this line
record Given (starts : List ℕ) (line : ℕ) (lines : List ℕ) : Type 0 where
  long : length lines ≡ length starts
  low : list_all (λ l. nat_le l most) lines ≡ true
  lined : Lined line lines

-- what lines are read, if any
record Gives (Is : List ℕ → Type 0) (read : Lines) : Type 0 where
  found : (lines : List ℕ) → read.0 ≡ Some lines → Is lines

mapped : {A B : Type 0} (f : A → B) (o : Option A) (y : B) → option_map f o ≡ Some y → (x : A) × (o ≡ Some x) × (f x ≡ y)
mapped f None y e = none_some y e
mapped f (Some x) y e = (x, refl, some_same (f x) y e)

-- ---- lists of lines

all_low : (n line : ℕ) → line ≤ most → list_all (λ l. nat_le l most) (replicate n line) ≡ true
all_low zero line le = refl
all_low (suc n) line le = and_both (nat_le line most) (list_all (λ l. nat_le l most) (replicate n line)) (le-leb line most le) (all_low n line le)

same_line : (n line : ℕ) → Lined line (replicate n line)
same_line zero line = tt
same_line (suc n) line = ((λ e. e), same_line n line)

lined_behind : (n line next : ℕ) (lines : List ℕ) → (next ≡ 0 → ⊥) → Lined next lines → Lined line (replicate n line ++ lines)
lined_behind zero line next [] some h = tt
lined_behind zero line next (x ∷ xs) some h = ((λ e. absurd (some (h.0 e))), h.1)
lined_behind (suc n) line next lines some h = ((λ e. e), lined_behind n line next lines some h)

pair_goes_on : (x y : ℕ) → (y ≡ 0 → x ≡ 0) → (nat_eq x 0 || not (nat_eq y 0)) ≡ true
pair_goes_on x y h = by (nat_eq x 0) (nat_eq y 0) refl refl
  where
    by : (a b : Bool) → nat_eq x 0 ≡ a → nat_eq y 0 ≡ b → (a || not b) ≡ true
    by true b e f = refl
    by false false e f = refl
    by false true e f = absurd (eqb-false x 0 e (h (eqb-true y 0 f)))

go_on : (shown : ℕ) (lines : List ℕ) → Lined shown lines → list_all goes_on_with_lines (neighbours lines) ≡ true
go_on shown [] h = refl
go_on shown (x ∷ []) h = refl
go_on shown (x ∷ (y ∷ ys)) h = and_both (goes_on_with_lines (x, y)) (list_all goes_on_with_lines (neighbours (y ∷ ys))) (pair_goes_on x y h.1.0) (go_on x (y ∷ ys) h.1)

-- ---- where an opcode leads

abbrev Enters : Turn → Type 0
Enters Breaks = Unit {0}
Enters IsOver = Unit {0}
Enters (GoesTo s) = Unit {0}
Enters (EntersAt s) = (s.line ≡ 0 → ⊥) × (s.line ≤ most)

in_range_low : (z : ℤ) (n : ℕ) → in_range z ≡ Some n → n ≤ most
in_range_low (pos m) n h = by (nat_le m most) refl h
  where
    by : (b : Bool) → nat_le m most ≡ b → cond b (Some m) None ≡ Some n → n ≤ most
    by true e g = subst (λ (k : ℕ). k ≤ most) (some_same m n g) (leb-true m most e)
    by false e g = none_some n g
in_range_low (negsuc m) n h = none_some n h

moved_low : (address line : ℕ) (e : Effect) (p : ℕ × ℕ) → moved_by address line e ≡ Some p → p.1 ≤ most
unfolding moved_by
moved_low address line e p h = by (nat_le (address + e.address) most) h
  where
    by : (b : Bool) → cond b (option_map (λ (n : ℕ). (address + e.address, n)) (in_range (pos line +ℤ e.line))) None ≡ Some p → p.1 ≤ most
    by true g =
        let m = mapped (λ (n : ℕ). (address + e.address, n)) (in_range (pos line +ℤ e.line)) p g in
        subst (λ (q : ℕ × ℕ). q.1 ≤ most) m.2 (in_range_low (pos line +ℤ e.line) m.0 m.1)
    by false g = none_some p g

to_turn : (kind : Kind) (behind : ℕ) (o : Option (ℕ × ℕ)) → ((p : ℕ × ℕ) → o ≡ Some p → p.1 ≤ most) → Enters (turn_to kind behind o)
to_turn End behind o low = tt
to_turn Step behind None low = tt
to_turn Step behind (Some p) low = tt
to_turn Entry behind None low = tt
to_turn Entry behind (Some p) low = by (p.1 == 0) refl
  where
    by : (b : Bool) → (p.1 == 0) ≡ b → Enters (cond b Breaks (EntersAt (spot behind p.0 p.1)))
    by true e = tt
    by false e = (eqb-false p.1 0 e, low p refl)

of_turn : (s : Spot) (r : Result (Effect × ℕ) BaseFault) → Enters (turn_of s r)
of_turn s (Err e) = tt
of_turn s (Ok r) = to_turn r.0.kind r.1 (moved_by s.address s.line r.0) (moved_low s.address s.line r.0)

enters : (bytes : List ℕ) (s : Spot) → Enters (turn_at bytes s)
unfolding turn_at
enters bytes s = of_turn s (opcode_at bytes s.place)

-- ---- the walk

few_below : (address : ℕ) (starts : List ℕ) → count_below address starts ≤ length starts
few_below address [] = omega arith
few_below address (u ∷ us) = by (nat_lt u address) (few_below address us)
  where
    by : (b : Bool) → count_below address us ≤ length us → cond b (suc (count_below address us)) 0 ≤ suc (length us)
    by true h = omega (arith, h)
    by false h = omega arith

behind_entry : (n line : ℕ) (starts : List ℕ) (next : Spot) (read : Lines) → n ≤ length starts → line ≤ most → (next.line ≡ 0 → ⊥) → Gives (Given (drop n starts) next.line) read
    → Gives (Given starts line) (ahead (replicate n line) 1 read)
behind_entry n line starts next read few low some rest = record {
  found = λ lines h.
      let m = mapped (λ (ls : List ℕ). replicate n line ++ ls) read.0 lines h in
      let r = rest.found m.0 m.1 in
      subst (Given starts line) m.2 (record {
        long = omega (arith, length-append (replicate n line) m.0, length-replicate n line, r.long, length-drop n starts, few);
        low = list_all-append (λ l. nat_le l most) (replicate n line) m.0 ∙ and_both _ _ (all_low n line low) r.low;
        lined = lined_behind n line next.line m.0 some r.lined;
      });
}

all_same : (line : ℕ) (starts : List ℕ) (n opcodes : ℕ) → n ≡ length starts → line ≤ most → Gives (Given starts line) (Some (replicate n line), opcodes)
all_same line starts n opcodes e low = record {
  found = λ lines h. subst (Given starts line) (some_same (replicate n line) lines h) (record { long = length-replicate n line ∙ e; low = all_low n line low; lined = same_line n line });
}

at_turn : (bytes : List ℕ) (line : ℕ) (starts : List ℕ) (s : Spot) (turn : Turn) (more : ℕ → List ℕ → Spot → Lines) → Enters turn → line ≤ most
    → ((l : ℕ) (ss : List ℕ) (n : Spot) → l ≤ most → Gives (Given ss l) (more l ss n)) → Gives (Given starts line) (take_turn bytes line starts s turn more)
at_turn bytes line starts s Breaks more i low later = record { found = λ lines h. none_some lines h }
at_turn bytes line starts s IsOver more i low later = all_same line starts (length starts) 1 refl low
at_turn bytes line starts s (GoesTo next) more i low later = record {
  found = λ lines h.
      let m = mapped (λ (ls : List ℕ). [] ++ ls) (more line starts next).0 lines h in
      subst (Given starts line) m.2 ((later line starts next low).found m.0 m.1);
}
at_turn bytes line starts s (EntersAt next) more i low later = by (count_below next.address starts == length starts) refl
  where
    by : (b : Bool) → (count_below next.address starts == length starts) ≡ b
        → Gives (Given starts line) (cond b (Some (replicate (count_below next.address starts) line), 1) (ahead (replicate (count_below next.address starts) line) 1 (more next.line (drop (count_below next.address starts) starts) next)))
    by true e = all_same line starts (count_below next.address starts) 1 (eqb-true (count_below next.address starts) (length starts) e) low
    by false e = behind_entry (count_below next.address starts) line starts next (more next.line (drop (count_below next.address starts) starts) next) (few_below next.address starts) low i.0
        (later next.line (drop (count_below next.address starts) starts) next i.1)

walk_gives : (left : ℕ) (bytes : List ℕ) (line : ℕ) (starts : List ℕ) (s : Spot) → line ≤ most → Gives (Given starts line) (walk left bytes line starts s)
walk_gives zero bytes line starts s low = record { found = λ lines h. none_some lines h }
walk_gives (suc left) bytes line starts s low =
    at_turn bytes line starts s (turn_at bytes s) (λ next_line next_starts next. walk left bytes next_line next_starts next) (enters bytes s) low (λ l ss n le. walk_gives left bytes l ss n le)

begun_gives : (bytes starts : List ℕ) (count : ℕ) (r : Result (ℕ × ℕ) BaseFault) → Gives (Given starts 0) (begun bytes starts count r)
begun_gives bytes starts count (Err e) = record { found = λ lines h. none_some lines h }
begun_gives bytes starts count (Ok r) = by (nat_le r.0 most)
  where
    by : (b : Bool) → Gives (Given starts 0) (cond b (walk count bytes 0 starts (spot r.1 0 r.0)) (None, 0))
    by true = walk_gives count bytes 0 starts (spot r.1 0 r.0) (omega arith)
    by false = record { found = λ lines h. none_some lines h }

item_gives : (bytes : List ℕ) (at : ℕ) (starts : List ℕ) (count : ℕ) → Gives (Given starts 0) (lines_at bytes at starts count)
unfolding lines_at
item_gives bytes at starts count = begun_gives bytes starts count (begin_at bytes at)

-- ---- what a method keeps of them

no_lines : (n : ℕ) → lines_fit n [] ≡ true
unfolding lines_fit
no_lines n = refl

given_fit : (starts lines : List ℕ) → Given starts 0 lines → list_any (λ line. not (nat_eq line 0)) lines ≡ true → lines_fit (length starts) lines ≡ true
unfolding lines_fit
given_fit starts lines g some = or_right (nat_eq (length lines) 0)
    ((nat_eq (length lines) (length starts) && list_any (λ line. not (nat_eq line 0)) lines) && (list_all (λ line. nat_le line most) lines && list_all goes_on_with_lines (neighbours lines)))
    (and_both _ _ (and_both _ _ (eq-eqb (length lines) (length starts) g.long) some) (and_both _ _ g.low (go_on 0 lines g.lined)))

kept_fit : (starts : List ℕ) (o : Option (List ℕ)) → ((lines : List ℕ) → o ≡ Some lines → Given starts 0 lines) → lines_fit (length starts) (kept_lines o) ≡ true
kept_fit starts None g = no_lines (length starts)
kept_fit starts (Some lines) g = by (list_any (λ line. not (nat_eq line 0)) lines) refl
  where
    by : (b : Bool) → list_any (λ line. not (nat_eq line 0)) lines ≡ b → lines_fit (length starts) (cond b lines []) ≡ true
    by true e = given_fit starts lines (g lines refl) e
    by false e = no_lines (length starts)

pub reads_lined : (bytes : List ℕ) (debug : ℕ) (starts : List ℕ) (left : ℕ) → Reads (λ r. lines_fit (length starts) r.0 ≡ true) (lined_at bytes debug starts left)
unfolding lined_at
reads_lined bytes debug starts left = either
    (λ _. weaker (Ok ([], left)) (done ([], left)) (λ y e. subst (λ (r : List ℕ × ℕ). lines_fit (length starts) r.0 ≡ true) (sym e) (no_lines (length starts))))
    (λ _. weaker (counted_lines left (lines_at bytes debug starts left)) (when _ (done (kept_lines (lines_at bytes debug starts left).0, left - (lines_at bytes debug starts left).1)))
    (λ y q. subst (λ (r : List ℕ × ℕ). lines_fit (length starts) r.0 ≡ true) (sym q.1) (kept_fit starts (lines_at bytes debug starts left).0 (item_gives bytes debug starts left).found)))
