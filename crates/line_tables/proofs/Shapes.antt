-- Lines that are read are as many as the starts and low, no 0 stands behind a line, and at most one opcode past the most is read.
use Rattle.std.proofs.Common.{◌≡◌, ℕ, zero, suc, ◌+◌, ◌<◌, ◌≤◌, ◌^◌, inl, inr, Bool, true, false, cond, eqb, ltb, leb, List, [], ◌∷◌, ◌++◌, length, drop, replicate, Option, Some, None, Result, Ok, Err, refl, sym, ap, subst, ◌∙◌, arith}
use Rattle.std.specs.Prelude.{ℤ, pos, negsuc, ◌+ℤ◌, IfOk, IfSome}
use Rattle.std.proofs.Common.{Vec, Global}
use Rattle.std.specs.declared.alloc.AllocError.{AllocError}
use Rattle.std.specs.List.{AllByRecursion}
use Rattle.std.specs.Option.{option_map}
use Rattle.std.proofs.lemmas.Bool.{cases_lt, lt-ltb, le-ltb, leb-true, eqb-true, eqb-false}
use Rattle.std.proofs.lemmas.List.{append-nil, length-append, length-drop, length-replicate}
use Rattle.dex_base.specs.declared.fault.BaseFault.{BaseFault}
use Rattle.line_tables.specs.declared.opcode.Effect.{Effect}
use Rattle.line_tables.specs.declared.opcode.Kind.{Kind}
use Rattle.line_tables.specs.declared.opcode.Kind.TheVariants.{Step, Entry, End}
use Rattle.line_tables.specs.declared.read.Spot.{Spot}
use Rattle.line_tables.specs.declared.read.Turn.{Turn}
use Rattle.line_tables.specs.declared.read.Turn.TheVariants.{Breaks, IsOver, GoesTo, EntersAt}
use Rattle.line_tables.specs.Item.{spot, turn_to, turn_of, turn_at, in_range, moved_by, opcode_at, count_below, Lines, read_as, ahead, take_turn, one_more, walk, begin_at, begun, lines_at}
use Rattle.line_tables.specs.declared.read.LinesRead.{LinesRead}
use Rattle.line_tables.specs.Seen.{seen}
use Rattle.line_tables.specs.Text.{Lined}

-- ---- lines stay in range, and no entry has line 0

abbrev LowTurn : Turn → Type 0
LowTurn Breaks = Unit {0}
LowTurn IsOver = Unit {0}
LowTurn (GoesTo s) = s.line < 2 ^ 31
LowTurn (EntersAt s) = (s.line < 2 ^ 31) × (s.line ≡ 0 → ⊥)

abbrev LowThere : Option (ℕ × ℕ) → Type 0
LowThere None = Unit {0}
LowThere (Some p) = p.1 < 2 ^ 31

low_if : (b : Bool) (n address : ℕ) → leb n 2147483647 ≡ b → LowThere (option_map (λ line. (address, line)) (cond b (Some n) None))
low_if true n address is = omega (arith, leb-true n 2147483647 is)
low_if false n address is = tt

low_range : (address : ℕ) (z : ℤ) → LowThere (option_map (λ line. (address, line)) (in_range z))
low_range address (pos n) = low_if (leb n 2147483647) n address refl
low_range address (negsuc n) = tt

low_moved : (b : Bool) (address : ℕ) (z : ℤ) → LowThere (cond b (option_map (λ line. (address, line)) (in_range z)) None)
low_moved true address z = low_range address z
low_moved false address z = tt

moved_low : (address line : ℕ) (e : Effect) → LowThere (moved_by address line e)
unfolding moved_by
moved_low address line e = low_moved (leb (address + e.address) 2147483647) (address + e.address) (pos line +ℤ e.line)

entry_low : (b : Bool) (s : Spot) → eqb s.line 0 ≡ b → s.line < 2 ^ 31 → LowTurn (cond b Breaks (EntersAt s))
entry_low true s is low = tt
entry_low false s is low = (low, eqb-false s.line 0 is)

to_low : (kind : Kind) (behind : ℕ) (there : Option (ℕ × ℕ)) → LowThere there → LowTurn (turn_to kind behind there)
to_low End behind there low = tt
to_low Step behind None low = tt
to_low Step behind (Some p) low = low
to_low Entry behind None low = tt
to_low Entry behind (Some p) low = entry_low (eqb p.1 0) (spot behind p.0 p.1) refl low

of_low : (s : Spot) (read : Result (Effect × ℕ) BaseFault) → LowTurn (turn_of s read)
of_low s (Err e) = tt
of_low s (Ok r) = to_low r.0.kind r.1 (moved_by s.address s.line r.0) (moved_low s.address s.line r.0)

turn_low : (bytes : List ℕ) (s : Spot) → LowTurn (turn_at bytes s)
unfolding turn_at
turn_low bytes s = of_low s (opcode_at bytes s.place)

-- ---- shapes

-- lines for these starts, behind a line
pub record IsShaped (line : ℕ) (starts lines : List ℕ) : Type 0 where
  pub counted : length lines ≡ length starts
  pub low : AllByRecursion (λ x. x < 2 ^ 31) lines
  pub lined : Lined line lines

-- what is read has this shape, with at most so many opcodes and one
abbrev Shaped : ℕ → ℕ → List ℕ → Lines → Type 0
Shaped most line starts (None, n) = n ≤ most + 1
Shaped most line starts (Some lines, n) = (n ≤ most + 1) × IsShaped line starts lines

replicate_low : (n line : ℕ) → line < 2 ^ 31 → AllByRecursion (λ x. x < 2 ^ 31) (replicate n line)
replicate_low zero line low = tt
replicate_low (suc n) line low = (low, replicate_low n line low)

append_low : (xs ys : List ℕ) → AllByRecursion (λ x. x < 2 ^ 31) xs → AllByRecursion (λ x. x < 2 ^ 31) ys → AllByRecursion (λ x. x < 2 ^ 31) (xs ++ ys)
append_low [] ys p q = q
append_low (x ∷ xs) ys p q = (p.0, append_low xs ys p.1 q)

-- lines behind positions of one line
replicate_lined : (n line : ℕ) (lines : List ℕ) → Lined line lines → Lined line (replicate n line ++ lines)
replicate_lined zero line lines lined = lined
replicate_lined (suc n) line lines lined = (λ e. e, replicate_lined n line lines lined)

-- lines behind an entry are lines behind any line
entry_lined : (line next : ℕ) (lines : List ℕ) → (next ≡ 0 → ⊥) → Lined next lines → Lined line lines
entry_lined line next [] some lined = tt
entry_lined line next (x ∷ xs) some lined = (λ e. absurd (some (lined.0 e)), lined.1)

all_alike : (n line : ℕ) (starts : List ℕ) → n ≡ length starts → line < 2 ^ 31 → IsShaped line starts (replicate n line)
all_alike n line starts is low = record {
  counted = length-replicate n line ∙ is;
  low = replicate_low n line low;
  lined = subst (Lined line) (append-nil (replicate n line)) (replicate_lined n line [] tt);
}

one_shaped : (most line : ℕ) (bytes starts : List ℕ) (s : Spot) → Shaped most line starts (None, one_more bytes s)
one_shaped most line bytes starts s = small (ltb s.place (length bytes))
  where
    small : (b : Bool) → cond b 1 0 ≤ most + 1
    small true = omega arith
    small false = omega arith

goes_shaped : (most line : ℕ) (starts : List ℕ) (read : Lines) → Shaped most line starts read → Shaped (suc most) line starts (ahead [] 1 read)
goes_shaped most line starts (None, n) shaped = omega (arith, shaped)
goes_shaped most line starts (Some lines, n) shaped = (omega (arith, shaped.0), shaped.1)

enters_shaped : (most line next n : ℕ) (starts : List ℕ) (read : Lines) → n ≤ length starts → line < 2 ^ 31 → (next ≡ 0 → ⊥) → Shaped most next (drop n starts) read → Shaped (suc most) line starts (ahead (replicate n line) 1 read)
enters_shaped most line next n starts (None, k) within low some shaped = omega (arith, shaped)
enters_shaped most line next n starts (Some lines, k) within low some shaped = (
  omega (arith, shaped.0),
  record {
    counted = omega (arith, shaped.1.counted, length-append (replicate n line) lines, length-replicate n line, length-drop n starts, within);
    low = append_low (replicate n line) lines (replicate_low n line low) shaped.1.low;
    lined = replicate_lined n line lines (entry_lined line next lines some shaped.1.lined);
  },
)

count_within : (address : ℕ) (starts : List ℕ) → count_below address starts ≤ length starts
count_within address [] = omega arith
count_within address (u ∷ us) =
    elim (cases_lt u address) [
      | inl lt ↦ rw (lt-ltb u address lt) (omega (arith, count_within address us))
      | inr ge ↦ rw (le-ltb u address ge) (omega arith)
    ]

enter_shaped : (b : Bool) (most line n : ℕ) (starts : List ℕ) (next : Spot) (more : ℕ → List ℕ → Spot → Lines) → eqb n (length starts) ≡ b → n ≤ length starts → line < 2 ^ 31 → (next.line ≡ 0 → ⊥)
    → Shaped most next.line (drop n starts) (more next.line (drop n starts) next) → Shaped (suc most) line starts (cond b (read_as (Some (replicate n line)) 1) (ahead (replicate n line) 1 (more next.line (drop n starts) next)))
enter_shaped true most line n starts next more is within low some shaped = (omega arith, all_alike n line starts (eqb-true n (length starts) is) low)
enter_shaped false most line n starts next more is within low some shaped = enters_shaped most line next.line n starts (more next.line (drop n starts) next) within low some shaped

turn_shaped : (most line : ℕ) (bytes starts : List ℕ) (s : Spot) (turn : Turn) (more : ℕ → List ℕ → Spot → Lines) → line < 2 ^ 31 → LowTurn turn → ((l : ℕ) (us : List ℕ) (next : Spot) → l < 2 ^ 31 → Shaped most l us (more l us next))
    → Shaped (suc most) line starts (take_turn bytes line starts s turn more)
turn_shaped most line bytes starts s Breaks more low turn_is behind = one_shaped (suc most) line bytes starts s
turn_shaped most line bytes starts s IsOver more low turn_is behind = (omega arith, all_alike (length starts) line starts refl low)
turn_shaped most line bytes starts s (GoesTo next) more low turn_is behind = goes_shaped most line starts (more line starts next) (behind line starts next low)
turn_shaped most line bytes starts s (EntersAt next) more low turn_is behind =
    let n = count_below next.address starts in
    enter_shaped (eqb n (length starts)) most line n starts next more refl (count_within next.address starts) low turn_is.1 (behind next.line (drop n starts) next turn_is.0)

walk_shaped : (most line : ℕ) (bytes starts : List ℕ) (s : Spot) → line < 2 ^ 31 → Shaped most line starts (walk most bytes line starts s)
walk_shaped zero line bytes starts s low = one_shaped 0 line bytes starts s
walk_shaped (suc most) line bytes starts s low = turn_shaped most line bytes starts s (turn_at bytes s) (λ l us n. walk most bytes l us n) low (turn_low bytes s) (λ l us n small. walk_shaped most l bytes us n small)

begun_shaped : (bytes starts : List ℕ) (most : ℕ) (begin : Result (ℕ × ℕ) BaseFault) → Shaped most 0 starts (begun bytes starts most begin)
begun_shaped bytes starts most (Err e) = omega arith
begun_shaped bytes starts most (Ok r) = choose (leb r.0 2147483647)
  where
    choose : (b : Bool) → Shaped most 0 starts (cond b (walk most bytes 0 starts (spot r.1 0 r.0)) (read_as None 0))
    choose true = walk_shaped most 0 bytes starts (spot r.1 0 r.0) (omega arith)
    choose false = omega arith

lines_shaped : (bytes starts : List ℕ) (at most : ℕ) → Shaped most 0 starts (lines_at bytes at starts most)
unfolding lines_at
lines_shaped bytes starts at most = begun_shaped bytes starts most (begin_at bytes at)

shaped_few : (most : ℕ) (starts : List ℕ) (read : Lines) → Shaped most 0 starts read → read.1 ≤ most + 1
shaped_few most starts (None, n) shaped = shaped
shaped_few most starts (Some lines, n) shaped = shaped.0

shaped_lines : (most : ℕ) (starts lines : List ℕ) (read : Lines) → Shaped most 0 starts read → read.0 ≡ Some lines → IsShaped 0 starts lines
shaped_lines most starts lines (None, n) shaped is = absurd cc
shaped_lines most starts lines (Some ls, n) shaped is = let e : ls ≡ lines = cc in subst (IsShaped 0 starts) e shaped.1

-- how many opcodes are read
pub few_read : (bytes starts : List ℕ) (at most : ℕ) (lines : Option (List ℕ)) (n : ℕ) → read_as lines n ≡ lines_at bytes at starts most → n ≤ most + 1
few_read bytes starts at most lines n is = omega (arith, shaped_few most starts (lines_at bytes at starts most) (lines_shaped bytes starts at most), ap (λ (r : Lines). r.1) is)

-- which lines are read
pub shape_read : (bytes starts : List ℕ) (at most : ℕ) (lines : List ℕ) (n : ℕ) → read_as (Some lines) n ≡ lines_at bytes at starts most → IsShaped 0 starts lines
shape_read bytes starts at most lines n is = shaped_lines most starts lines (lines_at bytes at starts most) (lines_shaped bytes starts at most) (sym (ap (λ (r : Lines). r.0) is))

-- ---- the same of what the code answers

few_of : (read : LinesRead) (most : ℕ) (bytes starts : List ℕ) (at : ℕ) → seen read ≡ lines_at bytes at starts most → read.opcodes ≤ most + 1
few_of read most bytes starts at is = few_read bytes starts at most (option_map (λ lines. lines.items) read.lines) read.opcodes is

abbrev Of : Type 0
Of = Result LinesRead AllocError

pub answer_few : (r : Of) (bytes starts : List ℕ) (at most : ℕ) → IfOk r (λ read. seen read ≡ lines_at bytes at starts most) → IfOk r (λ read. read.opcodes ≤ most + 1)
answer_few (Ok read) bytes starts at most is = few_of read most bytes starts at is
answer_few (Err e) bytes starts at most is = tt

-- the lines of an answer
shape_of : (lines : Option (Vec ℕ Global)) (n : ℕ) (bytes starts : List ℕ) (at most : ℕ) → read_as (option_map (λ v. v.items) lines) n ≡ lines_at bytes at starts most → IfSome lines (λ v. IsShaped 0 starts v.items)
shape_of None n bytes starts at most is = tt
shape_of (Some v) n bytes starts at most is = shape_read bytes starts at most v.items n is

some_then : (lines : Option (Vec ℕ Global)) (P Q : Vec ℕ Global → Type 0) → IfSome lines P → ((v : Vec ℕ Global) → P v → Q v) → IfSome lines Q
some_then None P Q p f = tt
some_then (Some v) P Q p f = f v p

pub answer_shape : (r : Of) (bytes starts : List ℕ) (at most : ℕ) (Q : Vec ℕ Global → Type 0) → IfOk r (λ read. seen read ≡ lines_at bytes at starts most) → ((v : Vec ℕ Global) → IsShaped 0 starts v.items → Q v)
    → IfOk r (λ read. IfSome read.lines Q)
answer_shape (Ok read) bytes starts at most Q is to = some_then read.lines (λ v. IsShaped 0 starts v.items) Q (shape_of read.lines read.opcodes bytes starts at most is) to
answer_shape (Err e) bytes starts at most Q is to = tt
