-- A written item is read as the lines that it was written for.
use Rattle.std.proofs.Common.{◌≡◌, ℕ, zero, suc, ◌+◌, ◌-◌, ◌*◌, ◌<◌, ◌≤◌, ◌^◌, inl, inr, List, [], ◌∷◌, ◌++◌, length, drop, replicate, Some, Ok, refl, sym, ap, subst, ◌∙◌, append_assoc, arith}
use Rattle.std.specs.List.{AllByRecursion}
use Rattle.std.proofs.lemmas.Bool.{cases_lt, cases_eq, lt-ltb, le-ltb, le-leb, eq-eqb, ne_eqb}
use Rattle.std.proofs.lemmas.List.{append-nil, drop_at, length-append, length-replicate, replicate-append-replicate}
use Rattle.dex_base.specs.Leb.{uleb_at, uleb_text}
use Rattle.line_tables.specs.declared.read.Spot.{Spot}
use Rattle.line_tables.specs.Item.{skip_at, spot, count_below, Lines, read_as, ahead, enter, walk, begin_at, lines_at}
use Rattle.line_tables.specs.Text.{AscendsFrom, Lined, first_line, entry_text, entries_text, item_text}
use Rattle.line_tables.proofs.Here.{behind_here, uleb_here, to_place}
use Rattle.line_tables.proofs.Turns.{turn_end, walk_turn}
use Rattle.line_tables.proofs.Entries.{ReadsEntry, reads_entry}

abbrev AllBelow : ℕ → List ℕ → Type 0
AllBelow bound us = AllByRecursion (λ u. u < bound) us

AllBelow-more : (low high : ℕ) (us : List ℕ) → low ≤ high → AllBelow low us → AllBelow high us
AllBelow-more low high [] le all = tt
AllBelow-more low high (u ∷ us) le all = (omega (arith, all.0, le), AllBelow-more low high us le all.1)

AllBelow-push : (bound u : ℕ) (us : List ℕ) → AllBelow bound us → u < bound → AllBelow bound (us ++ u ∷ [])
AllBelow-push bound u [] all lt = (lt, tt)
AllBelow-push bound u (v ∷ us) all lt = (all.0, AllBelow-push bound u us all.1 lt)

-- the positions before an entry are those that wait for it
count_waiting : (u : ℕ) (waiting us : List ℕ) → AllBelow u waiting → count_below u (waiting ++ u ∷ us) ≡ length waiting
count_waiting u [] us all = rw (le-ltb u u (omega arith)) refl
count_waiting u (w ∷ ws) us all = rw (lt-ltb w u all.0, count_waiting u ws us all.1) refl

-- the lines of a walk, and how many opcodes it takes at most
pub record Gives (most : ℕ) (read : Lines) (lines : List ℕ) : Type 0 where
  pub opcodes : ℕ
  pub few : opcodes ≤ most
  pub is : read ≡ read_as (Some lines) opcodes

-- positions that wait for an entry, which have the line before it
replicate-push : (n x : ℕ) (xs : List ℕ) → replicate n x ++ (x ∷ xs) ≡ replicate (n + 1) x ++ xs
replicate-push n x xs = sym (append_assoc (replicate n x) (x ∷ []) xs) ∙ ap (λ (ys : List ℕ). ys ++ xs) (replicate-append-replicate n 1 x)

-- an entry that is read, and the lines behind it
entered : (left : ℕ) (bytes : List ℕ) (shown u x most : ℕ) (waiting us xs rest : List ℕ) (s : Spot) → AllBelow u waiting → ReadsEntry 2 bytes s u x rest → most + 3 ≤ left
    → ((m : ℕ) (next : Spot) → most ≤ m → next ≡ spot next.place u x → drop next.place bytes ≡ rest → Gives most (walk m bytes x (u ∷ us) next) (x ∷ xs))
    → Gives (most + 3) (walk left bytes shown (waiting ++ u ∷ us) s) (replicate (length waiting) shown ++ (x ∷ xs))
entered left bytes shown u x most waiting us xs rest s below entry enough behind =
    let starts = waiting ++ u ∷ us in
    let next = spot (entry.t.place + 1) u x in
    let more : ℕ → List ℕ → Spot → Lines = λ l vs n. walk (left - entry.k - 1) bytes l vs n in
    let size : length starts ≡ length waiting + suc (length us) = length-append waiting (u ∷ us) in
    let not_all : length waiting ≡ length starts → ⊥ = λ e. omega (arith, e, size) in
    let last : drop (length waiting) starts ≡ u ∷ us = drop_at waiting (u ∷ us) (length waiting) refl in
    let g = behind (left - entry.k - 1) next (omega (arith, enough, entry.few)) refl entry.here in
    let first : walk left bytes shown starts s ≡ ahead [] entry.k (walk (left - entry.k) bytes shown starts entry.t) = entry.passes left shown starts (omega (arith, enough, entry.few)) in
    let turn : walk (left - entry.k) bytes shown starts entry.t ≡ enter (count_below u starts) shown starts next more = walk_turn (left - entry.k) bytes shown starts entry.t (omega (arith, enough, entry.few)) ∙ rw entry.turn refl in
    let enters : enter (count_below u starts) shown starts next more ≡ ahead (replicate (length waiting) shown) 1 (walk (left - entry.k - 1) bytes x (u ∷ us) next) =
    rw (count_waiting u waiting us below, ne_eqb (length waiting) (length starts) not_all, last) refl in
    record {
      opcodes = entry.k + (1 + g.opcodes);
      few = omega (arith, g.few, entry.few);
      is = first ∙ ap (ahead [] entry.k) (turn ∙ enters ∙ ap (ahead (replicate (length waiting) shown) 1) g.is);
    }

reads_end : (left : ℕ) (bytes waiting rest : List ℕ) (shown : ℕ) (s : Spot) → drop s.place bytes ≡ 0 ∷ rest → 1 ≤ left → Gives 1 (walk left bytes shown (waiting ++ []) s) (replicate (length waiting) shown ++ [])
reads_end left bytes waiting rest shown s here enough = record {
  opcodes = 1;
  few = omega arith;
  is = walk_turn left bytes shown (waiting ++ []) s enough ∙ rw (turn_end bytes rest s here) (ap (λ (n : ℕ). read_as (Some (replicate n shown)) 1) (ap length (append-nil waiting)) ∙ ap (λ (ls : List ℕ). read_as (Some ls) 1) (sym (append-nil (replicate (length waiting) shown))));
}

-- more opcodes than are needed
Gives-more : (low high : ℕ) (read : Lines) (lines : List ℕ) → low ≤ high → Gives low read lines → Gives high read lines
Gives-more low high read lines le g = record { opcodes = g.opcodes; few = omega (arith, g.few, le); is = g.is }

reads_back : (us xs waiting bytes rest : List ℕ) (left shown bound : ℕ) (s : Spot) → length xs ≡ length us → AllBelow bound waiting → AscendsFrom bound us → s.address ≤ bound → s.line < 2 ^ 31 → AllByRecursion (λ x. x < 2 ^ 31) xs → Lined shown xs
    → drop s.place bytes ≡ entries_text s.address s.line shown us xs ++ 0 ∷ rest → 3 * length us + 1 ≤ left → Gives (3 * length us + 1) (walk left bytes shown (waiting ++ us) s) (replicate (length waiting) shown ++ xs)
reads_back [] [] waiting bytes rest left shown bound s alike below ascends address line low lined here enough = reads_end left bytes waiting rest shown s here (omega arith)
reads_back [] (x ∷ xs) waiting bytes rest left shown bound s alike below ascends address line low lined here enough = absurd (omega (arith, alike))
reads_back (u ∷ us) [] waiting bytes rest left shown bound s alike below ascends address line low lined here enough = absurd (omega (arith, alike))
reads_back (u ∷ us) (x ∷ xs) waiting bytes rest left shown bound s alike below ascends address line low lined here enough =
    elim (cases_eq x shown) [
      | inl same ↦
          let text : drop s.place bytes ≡ entries_text s.address s.line shown us xs ++ 0 ∷ rest = rw (eq-eqb x shown same) at here in
          let waits : AllBelow (suc u) (waiting ++ u ∷ []) = AllBelow-push (suc u) u waiting (AllBelow-more bound (suc u) waiting (omega (arith, ascends.0)) below) (omega arith) in
          let g = reads_back us xs (waiting ++ u ∷ []) bytes rest left shown (suc u) s (omega (arith, alike)) waits ascends.2 (omega (arith, address, ascends.0)) line low.1 (subst (λ (l : ℕ). Lined l xs) same lined.1) text (omega (arith, enough)) in
          let size : length (waiting ++ u ∷ []) ≡ length waiting + 1 = length-append waiting (u ∷ []) in
          let lines : replicate (length (waiting ++ u ∷ [])) shown ++ xs ≡ replicate (length waiting) shown ++ (x ∷ xs) =
          ap (λ (n : ℕ). replicate n shown ++ xs) size ∙ sym (replicate-push (length waiting) shown xs) ∙ ap (λ (l : ℕ). replicate (length waiting) shown ++ (l ∷ xs)) (sym same) in
          let starts : (waiting ++ u ∷ []) ++ us ≡ waiting ++ u ∷ us = append_assoc waiting (u ∷ []) us in
          Gives-more (3 * length us + 1) (3 * suc (length us) + 1) (walk left bytes shown (waiting ++ u ∷ us) s) (replicate (length waiting) shown ++ (x ∷ xs)) (omega arith)
          (subst (λ (ls : List ℕ). Gives (3 * length us + 1) (walk left bytes shown (waiting ++ u ∷ us) s) ls) lines (subst (λ (vs : List ℕ). Gives (3 * length us + 1) (walk left bytes shown vs s) (replicate (length (waiting ++ u ∷ [])) shown ++ xs)) starts g))
      | inr other ↦
          let more = entries_text u x x us xs ++ 0 ∷ rest in
          let text : drop s.place bytes ≡ entry_text s.address s.line u x ++ more = (rw (ne_eqb x shown other) at here) ∙ append_assoc (entry_text s.address s.line u x) (entries_text u x x us xs) (0 ∷ rest) in
          let some : 0 < x = elim (cases_lt 0 x) [ inl lt ↦ lt | inr le ↦ absurd (other (omega (arith, le, lined.0 (omega arith)))) ] in
          let entry = reads_entry bytes more s u x (omega (arith, address, ascends.0)) ascends.1 line some low.0 text in
          let waits : AllBelow u waiting = AllBelow-more bound u waiting ascends.0 below in
          Gives-more (3 * length us + 1 + 3) (3 * suc (length us) + 1) (walk left bytes shown (waiting ++ u ∷ us) s) (replicate (length waiting) shown ++ (x ∷ xs)) (omega arith)
          (entered left bytes shown u x (3 * length us + 1) waiting us xs more s waits entry (omega (arith, enough))
          (λ m next room is behind.
          let at : next.address ≡ u = ap (λ (n : Spot). n.address) is in
          let on : next.line ≡ x = ap (λ (n : Spot). n.line) is in
          reads_back us xs (u ∷ []) bytes rest m x (suc u) next (omega (arith, alike)) (omega arith, tt) ascends.2 (omega (arith, at)) (omega (arith, on, low.0)) low.1 lined.1
          (behind ∙ sym (ap (λ (a : ℕ). entries_text a next.line x us xs ++ 0 ∷ rest) at ∙ ap (λ (l : ℕ). entries_text u l x us xs ++ 0 ∷ rest) on)) room))
    ]

-- ---- the head of an item

first_low : (lines : List ℕ) → AllByRecursion (λ x. x < 2 ^ 31) lines → first_line lines < 2 ^ 31
first_low [] low = omega arith
first_low (x ∷ xs) low =
    elim (cases_eq x 0) [
      | inl e ↦ rw (eq-eqb x 0 e) (first_low xs low.1)
      | inr n ↦ rw (ne_eqb x 0 n) low.0
    ]

zero_text : uleb_text 0 ≡ 0 ∷ []
unfolding uleb_text
zero_text = refl

-- names that are 0 are skipped
skip_zeros : (count : ℕ) (bytes rest : List ℕ) (at : ℕ) → drop at bytes ≡ replicate count 0 ++ rest → skip_at bytes count at ≡ Ok (at + count)
skip_zeros zero bytes rest at here = ap Ok (omega arith)
skip_zeros (suc n) bytes rest at here =
    let number : drop at bytes ≡ uleb_text 0 ++ (replicate n 0 ++ rest) = here ∙ ap (λ (t : List ℕ). t ++ (replicate n 0 ++ rest)) (sym zero_text) in
    let one : uleb_at bytes at ≡ Ok (to_place 0 (at + length (uleb_text 0))) = uleb_here bytes (replicate n 0 ++ rest) at 0 (omega arith) number in
    let size : at + length (uleb_text 0) ≡ at + 1 = ap (λ (t : List ℕ). at + length t) zero_text in
    let behind : drop (at + length (uleb_text 0)) bytes ≡ replicate n 0 ++ rest = behind_here bytes (uleb_text 0) (replicate n 0 ++ rest) at number in
    rw one (skip_zeros n bytes rest (at + length (uleb_text 0)) behind ∙ ap Ok (omega (arith, size)))

-- where the entries of an item begin
record Begins (bytes : List ℕ) (at first : ℕ) (entries : List ℕ) : Type 0 where
  pub place : ℕ
  pub is : begin_at bytes at ≡ Ok (to_place first place)
  pub here : drop place bytes ≡ entries

begins : (bytes entries : List ℕ) (at first parameters : ℕ) → first < 2 ^ 31 → parameters < 2 ^ 32 → drop at bytes ≡ uleb_text first ++ (uleb_text parameters ++ (replicate parameters 0 ++ entries)) → Begins bytes at first entries
unfolding begin_at
begins bytes entries at first parameters fits few here =
    let zeros : List ℕ = replicate parameters 0 in
    let names : ℕ = at + length (uleb_text first) in
    let zeros_at : ℕ = names + length (uleb_text parameters) in
    let at_names : drop names bytes ≡ uleb_text parameters ++ (zeros ++ entries) = behind_here bytes (uleb_text first) (uleb_text parameters ++ (zeros ++ entries)) at here in
    let at_zeros : drop zeros_at bytes ≡ zeros ++ entries = behind_here bytes (uleb_text parameters) (zeros ++ entries) names at_names in
    let size : zeros_at + length zeros ≡ zeros_at + parameters = ap (λ (n : ℕ). zeros_at + n) (length-replicate parameters 0) in
    let wide : first < 2 ^ 32 = omega (arith, fits) in
    record {
      place = zeros_at + parameters;
      is = rw (uleb_here bytes (uleb_text parameters ++ (zeros ++ entries)) at first wide here, uleb_here bytes (zeros ++ entries) names parameters few at_names, skip_zeros parameters bytes entries zeros_at at_zeros) refl;
      here = ap (λ (n : ℕ). drop n bytes) (sym size) ∙ behind_here bytes zeros entries zeros_at at_zeros;
    }

item_parts : (bytes lines starts rest : List ℕ) (at parameters : ℕ) → drop at bytes ≡ item_text lines starts parameters ++ rest
    → drop at bytes ≡ uleb_text (first_line lines) ++ (uleb_text parameters ++ (replicate parameters 0 ++ (entries_text 0 (first_line lines) 0 starts lines ++ 0 ∷ rest)))
unfolding item_text
item_parts bytes lines starts rest at parameters here = here ∙ simp append_assoc

-- the walk with which an item is read
walk_of : (bytes starts : List ℕ) (at most first place : ℕ) → first < 2 ^ 31 → begin_at bytes at ≡ Ok (to_place first place) → lines_at bytes at starts most ≡ walk most bytes 0 starts (spot place 0 first)
unfolding lines_at
walk_of bytes starts at most first place fits is = rw (is, le-leb first 2147483647 (omega (arith, fits))) refl

-- an item at a place is read as the lines that it was written for
pub item_is_read : (bytes lines starts rest : List ℕ) (at parameters most : ℕ) → length lines ≡ length starts → AscendsFrom 0 starts → AllByRecursion (λ x. x < 2 ^ 31) lines → Lined 0 lines → parameters < 2 ^ 32 → 3 * length starts + 1 ≤ most
    → drop at bytes ≡ item_text lines starts parameters ++ rest → Gives (3 * length starts + 1) (lines_at bytes at starts most) lines
item_is_read bytes lines starts rest at parameters most alike ascends low lined few enough here =
    let fits : first_line lines < 2 ^ 31 = first_low lines low in
    let b : Begins bytes at (first_line lines) (entries_text 0 (first_line lines) 0 starts lines ++ 0 ∷ rest) =
    begins bytes (entries_text 0 (first_line lines) 0 starts lines ++ 0 ∷ rest) at (first_line lines) parameters fits few (item_parts bytes lines starts rest at parameters here) in
    let least : 0 ≤ 0 = omega arith in
    let g : Gives (3 * length starts + 1) (walk most bytes 0 starts (spot b.place 0 (first_line lines))) lines = reads_back starts lines [] bytes rest most 0 0 (spot b.place 0 (first_line lines)) alike tt ascends least fits low lined b.here enough in
    record { opcodes = g.opcodes; few = g.few; is = walk_of bytes starts at most (first_line lines) b.place fits b.is ∙ g.is }
