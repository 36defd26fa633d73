-- What was read of a keep rule with references.
use Rattle.std.proofs.Common.{◌≡◌, ◌<◌, ◌≤◌, ◌+◌, ◌-◌, ℕ, zero, suc, Bool, true, false, ◌&&◌, List, [], ◌∷◌, ◌++◌, map, take, drop, length, slice_index_or, Vec, refl, sym, ap, subst, ◌∙◌, arith}
use Rattle.std.specs.List.{list_all}
use Rattle.std.specs.declared.alloc.Global.{Global}
use Rattle.rule_text.specs.Places.{Between, is_keep}
use Rattle.rule_text.specs.Reads.{Reads}
use Rattle.rule_text.specs.Refusals.{EndsWhole}
use Rattle.rule_text.specs.Related.{IsEntryOf}
use Rattle.rule_text.specs.Spelling.{is_entry, entry_words}
use Rattle.rule_text.specs.Steps.{first_word, words_at}
use Rattle.rule_text.specs.Tokens.{Word}
use Rattle.rule_text.specs.declared.rules.Entry.{Entry as ReadEntry}
use Rattle.rule_text.specs.declared.token.Token.{Token as Lexed}
use Rattle.if_text.specs.Faults.{IsKeptTo}
use Rattle.if_text.specs.Parts.{parts_of}
use Rattle.rule_text.specs.declared.stop.Halt.TheVariants as halt
use Rattle.rule_text.specs.declared.stop.Stop.TheVariants as stop
use Rattle.if_text.specs.Steps.{ReadsKept, IsBadAt, Bad, HaltsKept}
use Rattle.if_text.specs.Wildcards.{is_good_in}
use Rattle.if_text.specs.declared.parts.Part.{Part}
use Rattle.if_text.specs.declared.slots.Source.{Source}
use Rattle.if_text.proofs.Items.{word_of, between}

abbrev Parts : Type 0
Parts = Vec Part Global

abbrev pub good_parts : List Source → Parts → Bool
good_parts ss parts = list_all (is_good_in ss) parts.items

abbrev good_word : List Source → Word → Bool
good_word ss w = list_all (is_good_in ss) (parts_of w)

-- the parts of each word were read
abbrev pub ReadAs : List Parts → List Lexed → Type 0
ReadAs read slice = map (λ parts. parts.items) read ≡ map (λ t. parts_of t.word.now) slice

read_words : (slice : List Lexed) → map (λ t. parts_of t.word.now) slice ≡ map parts_of (map word_of slice)
read_words [] = refl
read_words (t ∷ ts) = ap (λ xs. parts_of t.word.now ∷ xs) (read_words ts)

all_parts : (ss : List Source) (ps : List Parts) → list_all (good_parts ss) ps ≡ list_all (list_all (is_good_in ss)) (map (λ parts. parts.items) ps)
all_parts ss [] = refl
all_parts ss (p ∷ ps) = ap (λ b. good_parts ss p && b) (all_parts ss ps)

all_words : (ss : List Source) (ts : List Lexed) → list_all (list_all (is_good_in ss)) (map (λ t. parts_of t.word.now) ts) ≡ list_all (good_word ss) (map word_of ts)
all_words ss [] = refl
all_words ss (t ∷ ts) = ap (λ b. good_word ss t.word.now && b) (all_words ss ts)

good_same : (ss : List Source) (read : List Parts) (slice : List Lexed) → ReadAs read slice → list_all (good_parts ss) read ≡ list_all (good_word ss) (map word_of slice)
good_same ss read slice is = all_parts ss read ∙ ap (list_all (list_all (is_good_in ss))) is ∙ all_words ss slice

kept_to : (tokens hidden : List Lexed) (at next : ℕ) (slice : List Lexed) (one : ReadEntry) → slice ≡ take (next - at) (drop at tokens) → at ≤ next → is_keep (first_word (words_at hidden at)) ≡ true
    → Reads IsEntryOf is_entry entry_words hidden at next one → EndsWhole Between hidden at next → IsKeptTo tokens hidden at next (map word_of slice)
kept_to tokens hidden at next slice one is le option reads whole = record {
  spelled = between tokens at next le ∙ ap (λ xs. map word_of xs ++ words_at tokens next) (sym is);
  option = option;
  entry = reads.thing;
  written = reads.written;
  words = reads.spelled;
  whole = whole;
}

pub kept_read : (tokens hidden : List Lexed) (ss : List Source) (at next : ℕ) (slice : List Lexed) (read : Vec Parts Global) (one : ReadEntry) → slice ≡ take (next - at) (drop at tokens) → at ≤ next
    → is_keep (first_word (words_at hidden at)) ≡ true → Reads IsEntryOf is_entry entry_words hidden at next one → EndsWhole Between hidden at next → ReadAs read.items slice → list_all (good_parts ss) read.items ≡ true
    → ReadsKept tokens hidden ss at next read
kept_read tokens hidden ss at next slice read one is le option reads whole found_as good = record {
  words = map word_of slice;
  are = kept_to tokens hidden at next slice one is le option reads whole;
  read_as = found_as ∙ read_words slice;
  good = sym (good_same ss read.items slice found_as) ∙ good;
}

-- ---- the first reference that names nothing

read_take : (k : ℕ) (read : List Parts) (slice : List Lexed) → ReadAs read slice → ReadAs (take k read) (take k slice)
read_take zero read slice is = refl
read_take (suc k) [] [] is = refl
read_take (suc k) [] (t ∷ ts) is = cc
read_take (suc k) (p ∷ ps) [] is = cc
read_take (suc k) (p ∷ ps) (t ∷ ts) is =
    let one : p.items ≡ parts_of t.word.now = grind arith in
    let rest : ReadAs ps ts = grind arith in
    ap (λ xs. xs ∷ map (λ parts. parts.items) (take k ps)) one ∙ ap (λ xs. parts_of t.word.now ∷ xs) (read_take k ps ts rest)

-- the token at a place, and the parts that were read of it
pub record TokenAt (k : ℕ) (read : List Parts) (slice : List Lexed) : Type 0 where
  pub token : Lexed
  pub split : slice ≡ take k slice ++ token ∷ drop (suc k) slice
  pub parts : (p : Parts) → p ≡ slice_index_or read k p → p.items ≡ parts_of token.word.now

token_at : (k : ℕ) (read : List Parts) (slice : List Lexed) → ReadAs read slice → k < length read → TokenAt k read slice
token_at k [] slice is inside = absurd (omega arith)
token_at k (p ∷ ps) [] is inside = cc
token_at zero (p ∷ ps) (t ∷ ts) is inside =
    let one : p.items ≡ parts_of t.word.now = grind arith in
    record { token = t; split = refl; parts = λ q e. ap (λ x. x.items) e ∙ one }
token_at (suc k) (p ∷ ps) (t ∷ ts) is inside =
    let rest : ReadAs ps ts = grind arith in
    let more : TokenAt k ps ts = token_at k ps ts rest (omega arith) in
    record { token = more.token; split = ap (λ xs. t ∷ xs) more.split; parts = more.parts }

words_append : (xs ys : List Lexed) → map word_of (xs ++ ys) ≡ map word_of xs ++ map word_of ys
words_append [] ys = refl
words_append (x ∷ xs) ys = ap (λ ws. x.word.now ∷ ws) (words_append xs ys)

split_words : (k : ℕ) (slice : List Lexed) (t : Lexed) → slice ≡ take k slice ++ t ∷ drop (suc k) slice → map word_of slice ≡ map word_of (take k slice) ++ t.word.now ∷ map word_of (drop (suc k) slice)
split_words k slice t is = ap (map word_of) is ∙ words_append (take k slice) (t ∷ drop (suc k) slice)

take_less : (k n : ℕ) (xs : List Lexed) → k ≤ n → take k (take n xs) ≡ take k xs
take_less zero n xs le = refl
take_less (suc k) zero xs le = absurd (omega arith)
take_less (suc k) (suc n) [] le = refl
take_less (suc k) (suc n) (x ∷ xs) le = ap (λ ys. x ∷ ys) (take_less k n xs (omega arith))

read_long : (read : List Parts) (slice : List Lexed) → ReadAs read slice → length read ≡ length slice
read_long [] [] is = refl
read_long [] (t ∷ ts) is = cc
read_long (p ∷ ps) [] is = cc
read_long (p ∷ ps) (t ∷ ts) is =
    let rest : ReadAs ps ts = grind arith in
    ap suc (read_long ps ts rest)

take_short : (n : ℕ) (xs : List Lexed) → length (take n xs) ≤ n
take_short zero xs = omega arith
take_short (suc n) [] = omega arith
take_short (suc n) (x ∷ xs) =
    let more : length (take n xs) ≤ n = take_short n xs in
    omega (arith, more)

pub bad_read : (tokens hidden : List Lexed) (ss : List Source) (at end k : ℕ) (slice : List Lexed) (read : Vec Parts Global) (one : ReadEntry) → slice ≡ take (end - at) (drop at tokens) → at ≤ end
    → is_keep (first_word (words_at hidden at)) ≡ true → Reads IsEntryOf is_entry entry_words hidden at end one → EndsWhole Between hidden at end → ReadAs read.items slice
    → list_all (good_parts ss) (take k read.items) ≡ true → k < length read.items → ((p : Parts) → p ≡ slice_index_or read.items k p → good_parts ss p ≡ false) → (p : Parts) → p ≡ slice_index_or read.items k p
    → IsBadAt tokens hidden ss at (at + k)
bad_read tokens hidden ss at end k slice read one is le option reads whole found_as before inside there p here =
    let t : TokenAt k read.items slice = token_at k read.items slice found_as inside in
    let words : map word_of slice ≡ map word_of (take k slice) ++ t.token.word.now ∷ map word_of (drop (suc k) slice) = split_words k slice t.token t.split in
    let long : length read.items ≡ length slice = read_long read.items slice found_as in
    let size : length slice ≤ end - at = subst (λ xs. length xs ≤ end - at) (sym is) (take_short (end - at) (drop at tokens)) in
    let less : k ≤ end - at = omega (arith, inside, long, size) in
    let same : (at + k) - at ≡ k = omega arith in
    let front : take ((at + k) - at) (drop at tokens) ≡ take k slice = ap (λ n. take n (drop at tokens)) same ∙ sym (take_less k (end - at) (drop at tokens) less) ∙ ap (take k) (sym is) in
    record {
      behind = end;
      front = map word_of (take k slice);
      word = t.token.word.now;
      rest = map word_of (drop (suc k) slice);
      are = subst (IsKeptTo tokens hidden at end) words (kept_to tokens hidden at end slice one is le option reads whole);
      there = between tokens at (at + k) (omega arith) ∙ ap (λ xs. map word_of xs ++ words_at tokens (at + k)) front;
      good = sym (good_same ss (take k read.items) (take k slice) (read_take k read.items slice found_as)) ∙ before;
      bad = ap (list_all (is_good_in ss)) (sym (t.parts p here)) ∙ there p here;
    }

element_at : {X : Type 0} (k : ℕ) (xs : List X) → k < length xs → (x : X) × (x ≡ slice_index_or xs k x)
element_at k [] inside = absurd (omega (arith, inside))
element_at zero (x ∷ xs) inside = (x, refl)
element_at (suc k) (x ∷ xs) inside = element_at k xs (omega (arith, inside))

pub bad_halts : (tokens hidden : List Lexed) (ss : List Source) (at end k : ℕ) (slice : List Lexed) (read : Vec Parts Global) (one : ReadEntry) → slice ≡ take (end - at) (drop at tokens) → at ≤ end
    → is_keep (first_word (words_at hidden at)) ≡ true → Reads IsEntryOf is_entry entry_words hidden at end one → EndsWhole Between hidden at end → ReadAs read.items slice
    → list_all (good_parts ss) (take k read.items) ≡ true → k < length read.items → ((p : Parts) → k < length read.items → p ≡ slice_index_or read.items k p → good_parts ss p ≡ false) → HaltsKept tokens hidden ss at (at + k) (halt.Inside stop.Syntax)
bad_halts tokens hidden ss at end k slice read one is le option reads whole found_as before inside there =
    let here = element_at k read.items inside in
    Bad at (at + k) (bad_read tokens hidden ss at end k slice read one is le option reads whole found_as before inside (λ p e. there p inside e) here.0 here.1)

-- the place of the word is inside
pub bad_inside : (tokens : List Lexed) (at end k : ℕ) (slice : List Lexed) (read : List Parts) → slice ≡ take (end - at) (drop at tokens) → at ≤ end → end ≤ length tokens → ReadAs read slice → k < length read → at + k ≤ length tokens
bad_inside tokens at end k slice read is le most found_as inside =
    let long : length read ≡ length slice = read_long read slice found_as in
    let size : length slice ≤ end - at = subst (λ xs. length xs ≤ end - at) (sym is) (take_short (end - at) (drop at tokens)) in
    omega (arith, le, most, inside, long, size)
