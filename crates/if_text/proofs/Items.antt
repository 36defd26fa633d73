-- What was read of a text with conditions.
use Rattle.std.proofs.Common.{◌≡◌, ◌<◌, ◌≤◌, ◌+◌, ◌-◌, ℕ, zero, suc, Bool, true, false, ◌&&◌, ◌||◌, if◌then◌else◌, List, [], ◌∷◌, ◌++◌, map, take, drop, length, refl, sym, ap, subst, ◌∙◌, arith, take-append-drop, drop-drop}
use Rattle.std.specs.List.{flat_map, list_all}
use Rattle.std.specs.Str.{IsUtf8}
use Rattle.std.specs.Cmp.Lexicographic.{bytes_decides}
use Rattle.std.proofs.lemmas.List.{append-nil, append_assoc, append_cancel_right, drop-map, length-map}
use Rattle.rule_text.specs.Fronts.{AreTokensOf}
use Rattle.rule_text.specs.Places.{Between, is_keep}
use Rattle.rule_text.specs.Reads.{Reads}
use Rattle.rule_text.specs.ReadEntries.{IsReading}
use Rattle.rule_text.specs.Refusals.{EndsWhole}
use Rattle.rule_text.specs.Related.{AreEach, AreEntriesOf, IsEntryOf}
use Rattle.rule_text.specs.Rules.{Entry, Setting, Keep, Assume}
use Rattle.rule_text.specs.Spelling.{word_eq, begins_rule, setting_word, keep_word, entry_words, class_rule_words, is_entry, is_rule, spelled, count_rules}
use Rattle.rule_text.specs.Steps.{first_word, words_at}
use Rattle.rule_text.specs.Tokens.{Word}
use Rattle.rule_text.specs.declared.rules.Entry.{Entry as ReadEntry}
use Rattle.rule_text.specs.declared.rules.KeepKind.{KeepKind}
use Rattle.rule_text.specs.declared.rules.KeepKind.TheVariants as keep
use Rattle.rule_text.specs.declared.rules.SettingName.{SettingName}
use Rattle.rule_text.specs.declared.rules.SettingName.TheVariants as setting
use Rattle.rule_text.specs.declared.stop.Halt.{Halt}
use Rattle.rule_text.specs.declared.stop.Halt.TheVariants as halt
use Rattle.rule_text.specs.declared.stop.Stop.TheVariants as stop
use Rattle.rule_text.specs.declared.token.Token.{Token as Lexed}
use Rattle.rule_text.specs.declared.token.Tokens.{Tokens}
use Rattle.rule_text.proofs.EntryLemmas.{words_from}
use Rattle.rule_text.proofs.ReadLemmas.{each_more, spelled_more}
use Rattle.rule_text.proofs.StepLemmas.{end_at}
use Rattle.if_text.specs.Faults.{AreMasked, is_if_at, IsConditionTo, IsKeptTo, ItemsTo, OfNone, OfEntry, OfIf, begins_item, StandsBefore, IsOptionAt, HaltsItem, HaltsItems}
use Rattle.if_text.specs.Items.{IfRule, Item, Plain, If, if_word, item_words, IsKeepRule, IsItem, AreItems, count_items, plain_of, ifs_of}
use Rattle.if_text.specs.Parts.{masked}
use Rattle.if_text.specs.Readings.{AreRead, IsIfOf, IsIfReading}
use Rattle.if_text.specs.Steps.{ReadsIf, ReadsTo, ReadsCounted, ReadsFew, AddsItem}
use Rattle.if_text.specs.declared.rules.IfRule.{IfRule as ReadIf}
use Rattle.if_text.specs.declared.rules.IfRules.{IfRules}

-- ---- tokens with names in place of words with references

abbrev pub word_of : Lexed → Word
word_of t = t.word.now

map_both : {A B C : Type 0} (f : A → B) (g : B → C) (xs : List A) → map g (map f xs) ≡ map (λ x. g (f x)) xs
map_both f g [] = refl
map_both f g (x ∷ xs) = ap (λ ys. g (f x) ∷ ys) (map_both f g xs)

pub masked_at : (tokens hidden : List Lexed) (at : ℕ) → AreMasked tokens hidden → words_at hidden at ≡ map masked (words_at tokens at)
masked_at tokens hidden at m = ap (drop at) (m.words ∙ sym (map_both word_of masked tokens)) ∙ drop-map masked at (map word_of tokens)

pub same_length : (tokens hidden : List Lexed) → AreMasked tokens hidden → length hidden ≡ length tokens
same_length tokens hidden m = sym (length-map hidden word_of) ∙ ap length m.words ∙ length-map tokens (λ t. masked t.word.now)

map_append : (xs ys : List Word) → map masked (xs ++ ys) ≡ map masked xs ++ map masked ys
map_append [] ys = refl
map_append (x ∷ xs) ys = ap (λ zs. masked x ∷ zs) (map_append xs ys)

take_map : {A B : Type 0} (f : A → B) (n : ℕ) (xs : List A) → take n (map f xs) ≡ map f (take n xs)
take_map f zero xs = refl
take_map f (suc n) [] = refl
take_map f (suc n) (x ∷ xs) = ap (λ ys. f x ∷ ys) (take_map f n xs)

-- the words of the tokens between two places
pub between : (tokens : List Lexed) (at next : ℕ) → at ≤ next → words_at tokens at ≡ map word_of (take (next - at) (drop at tokens)) ++ words_at tokens next
between tokens at next le =
    let ws : List Word = map word_of tokens in
    let sum : at + (next - at) ≡ next = omega (arith, le) in
    let front : take (next - at) (drop at ws) ≡ map word_of (take (next - at) (drop at tokens)) = ap (take (next - at)) (drop-map word_of at tokens) ∙ take_map word_of (next - at) (drop at tokens) in
    let rest : drop (next - at) (drop at ws) ≡ drop next ws = drop-drop (next - at) at ws ∙ ap (λ n. drop n ws) sum in
    sym (take-append-drop (next - at) (drop at ws)) ∙ ap (λ xs. xs ++ drop (next - at) (drop at ws)) front ∙ ap (λ xs. map word_of (take (next - at) (drop at tokens)) ++ xs) rest

-- ---- items, one behind the other

are_more : (is : List Item) (i : Item) → AreItems is → IsItem i → AreItems (is ++ i ∷ [])
are_more [] i are is = (is, tt)
are_more (j ∷ js) i are is = (are.0, are_more js i are.1 is)

step_at : (ws : List Word) (at : ℕ) → word_eq (first_word (drop at ws)) if_word ≡ true → drop at ws ≡ if_word ∷ drop (suc at) ws
step_at [] zero is = cc
step_at [] (suc at) is = cc
step_at (w ∷ ws) zero is = ap (λ v. v ∷ ws) ((bytes_decides w if_word).0 is)
step_at (w ∷ ws) (suc at) is = step_at ws at is

pub if_step : (tokens : List Lexed) (at : ℕ) → is_if_at tokens at ≡ true → words_at tokens at ≡ if_word ∷ words_at tokens (suc at)
if_step tokens at is = step_at (map word_of tokens) at is

-- the words of a keep rule with references
kept_words : (tokens hidden : List Lexed) (at next : ℕ) (ws : List Word) → AreMasked tokens hidden → (k : IsKeptTo tokens hidden at next ws) → entry_words k.entry ≡ map masked ws
kept_words tokens hidden at next ws m k = append_cancel_right (entry_words k.entry) (map masked ws) (words_at hidden next) (
    sym k.words ∙ masked_at tokens hidden at m ∙ ap (map masked) k.spelled ∙ map_append ws (words_at tokens next) ∙ ap (λ xs. map masked ws ++ xs) (sym (masked_at tokens hidden next m))
    )

first_of : (e : Entry) (rest : List Word) → first_word (entry_words e ++ rest) ≡ first_word (entry_words e)
first_of (Setting name words) rest = refl
first_of (Keep rule) rest = refl
first_of (Assume rule) rest = refl

keep_rule : (tokens hidden : List Lexed) (at next : ℕ) (ws : List Word) → AreMasked tokens hidden → IsKeptTo tokens hidden at next ws → IsKeepRule ws
keep_rule tokens hidden at next ws m k =
    let same : entry_words k.entry ≡ map masked ws = kept_words tokens hidden at next ws m k in
    record {
      option = ap (λ xs. is_keep (first_word xs)) (sym same) ∙ ap is_keep (sym (first_of k.entry (words_at hidden next))) ∙ ap (λ xs. is_keep (first_word xs)) (sym k.words) ∙ k.option;
      entry = k.entry;
      written = k.written;
      words = same;
    }

if_words_at : (tokens hidden : List Lexed) (at mid next : ℕ) (r : IfRule) → IsConditionTo tokens at mid r.condition → IsKeptTo tokens hidden mid next r.words → words_at tokens at ≡ item_words (If r) ++ words_at tokens next
if_words_at tokens hidden at mid next r c k = if_step tokens at c.is_if ∙ ap (λ xs. if_word ∷ xs) (
    c.words ∙ ap (λ xs. class_rule_words r.condition ++ xs) k.spelled ∙ sym (append_assoc (class_rule_words r.condition) r.words (words_at tokens next))
    )

-- the words of items before a place
pub spelled_to : (tokens hidden : List Lexed) (at : ℕ) (items : List Item) → ItemsTo tokens hidden at items → words_at tokens 0 ≡ flat_map item_words items ++ words_at tokens at
spelled_to tokens hidden _ _ OfNone = refl
spelled_to tokens hidden _ _ (OfEntry at next items e before written words whole) =
    spelled_to tokens hidden at items before ∙ spelled_more item_words items (Plain e) (words_at tokens at) (words_at tokens next) words
spelled_to tokens hidden _ _ (OfIf at mid next items r before c k good) =
    spelled_to tokens hidden at items before ∙ spelled_more item_words items (If r) (words_at tokens at) (words_at tokens next) (if_words_at tokens hidden at mid next r c k)

pub items_to : (tokens hidden : List Lexed) (at : ℕ) (items : List Item) → AreMasked tokens hidden → ItemsTo tokens hidden at items → AreItems items
items_to tokens hidden _ _ m OfNone = tt
items_to tokens hidden _ _ m (OfEntry at next items e before written words whole) = are_more items (Plain e) (items_to tokens hidden at items m before) written
items_to tokens hidden _ _ m (OfIf at mid next items r before c k good) =
    are_more items (If r) (items_to tokens hidden at items m before) (record { condition = c.written; keep = keep_rule tokens hidden mid next r.words m k; good = good })

-- ---- what is added

plain_more : (is : List Item) (i : Item) → plain_of (is ++ i ∷ []) ≡ plain_of is ++ plain_of (i ∷ [])
plain_more [] i = refl
plain_more (Plain e ∷ is) i = ap (λ es. e ∷ es) (plain_more is i)
plain_more (If r ∷ is) i = plain_more is i

ifs_more : (is : List Item) (i : Item) → ifs_of (is ++ i ∷ []) ≡ ifs_of is ++ ifs_of (i ∷ [])
ifs_more [] i = refl
ifs_more (Plain e ∷ is) i = ifs_more is i
ifs_more (If r ∷ is) i = ap (λ rs. r ∷ rs) (ifs_more is i)

pub count_more : (is : List Item) (i : Item) → count_items (is ++ i ∷ []) ≡ count_items is + count_items (i ∷ [])
count_more [] i =
    let e : count_items (i ∷ []) ≡ 0 + count_items (i ∷ []) = omega arith in
    e
count_more (Plain e ∷ is) i =
    let more : count_items (is ++ i ∷ []) ≡ count_items is + count_items (i ∷ []) = count_more is i in
    let one : count_items (Plain e ∷ (is ++ i ∷ [])) ≡ (if is_rule e then 1 else 0) + count_items (is ++ i ∷ []) = refl in
    let two : count_items (Plain e ∷ is) ≡ (if is_rule e then 1 else 0) + count_items is = refl in
    omega (arith, more, one, two)
count_more (If r ∷ is) i =
    let more : count_items (is ++ i ∷ []) ≡ count_items is + count_items (i ∷ []) = count_more is i in
    let one : count_items (If r ∷ (is ++ i ∷ [])) ≡ 1 + count_items (is ++ i ∷ []) = refl in
    let two : count_items (If r ∷ is) ≡ 1 + count_items is = refl in
    omega (arith, more, one, two)

-- a rule or an option without a condition was added
pub read_entry_more : (items : List Item) (e : Entry) (one : ReadEntry) (old new : IfRules) → AreRead items old → IsEntryOf one e → new.plain.entries.items ≡ old.plain.entries.items ++ one ∷ [] → new.ifs.items ≡ old.ifs.items
    → AreRead (items ++ Plain e ∷ []) new
read_entry_more items e one old new read is plain ifs = record {
  plain = subst (λ rs. AreEntriesOf rs (plain_of (items ++ Plain e ∷ []))) (sym plain) (subst (AreEntriesOf (old.plain.entries.items ++ one ∷ [])) (sym (plain_more items (Plain e)))
      (each_more IsEntryOf old.plain.entries.items (plain_of items) one e read.plain is));
  ifs = subst (λ rs. AreEach IsIfOf rs (ifs_of (items ++ Plain e ∷ []))) (sym ifs) (subst (AreEach IsIfOf old.ifs.items) (sym (ifs_more items (Plain e) ∙ append-nil (ifs_of items))) read.ifs);
}

-- one with a condition was
pub read_if_more : (items : List Item) (r : IfRule) (one : ReadIf) (old new : IfRules) → AreRead items old → IsIfOf one r → new.ifs.items ≡ old.ifs.items ++ one ∷ [] → new.plain.entries.items ≡ old.plain.entries.items
    → AreRead (items ++ If r ∷ []) new
read_if_more items r one old new read is ifs plain = record {
  plain = subst (λ rs. AreEntriesOf rs (plain_of (items ++ If r ∷ []))) (sym plain) (subst (AreEntriesOf old.plain.entries.items) (sym (plain_more items (If r) ∙ append-nil (plain_of items))) read.plain);
  ifs = subst (λ rs. AreEach IsIfOf rs (ifs_of (items ++ If r ∷ []))) (sym ifs) (subst (AreEach IsIfOf (old.ifs.items ++ one ∷ [])) (sym (ifs_more items (If r)))
      (each_more IsIfOf old.ifs.items (ifs_of items) one r read.ifs is));
}

-- a rule begins with the first word of an item just where the item counts
setting_item : (name : SettingName) → begins_item (setting_word name) ≡ false
setting_item setting.DontOptimize = refl
setting_item setting.DontShrink = refl
setting_item setting.Verbose = refl
setting_item setting.DontObfuscate = refl
setting_item setting.DontPreverify = refl
setting_item setting.DontUseMixedCaseClassNames = refl
setting_item setting.DontSkipNonPublicLibraryClasses = refl
setting_item setting.AllowAccessModification = refl
setting_item setting.IgnoreWarnings = refl
setting_item setting.KeepAttributes = refl
setting_item setting.DontWarn = refl
setting_item setting.DontNote = refl
setting_item setting.Optimizations = refl
setting_item setting.OptimizationPasses = refl
setting_item setting.RenameSourceFileAttribute = refl
setting_item setting.RepackageClasses = refl

keep_item : (kind : KeepKind) → begins_item (keep_word kind) ≡ true
keep_item keep.Keep = refl
keep_item keep.ClassMembers = refl
keep_item keep.ClassesWithMembers = refl
keep_item keep.Names = refl
keep_item keep.ClassMemberNames = refl
keep_item keep.ClassesWithMemberNames = refl

entry_item : (e : Entry) (rest : List Word) → begins_item (first_word (entry_words e ++ rest)) ≡ is_rule e
entry_item (Setting name words) rest = setting_item name
entry_item (Keep rule) rest = keep_item rule.kind
entry_item (Assume rule) rest = refl

one_if : (b : Bool) → (if b then 1 else 0) ≡ (if b then 1 else 0) + 0
one_if true = refl
one_if false = refl

entry_count : (items : List Item) (e : Entry) (count : ℕ) (ws rest : List Word) → count_items items ≡ count → ws ≡ entry_words e ++ rest
    → count_items (items ++ Plain e ∷ []) ≡ count + (if begins_item (first_word ws) then 1 else 0)
entry_count items e count ws rest counted is =
    count_more items (Plain e) ∙ ap (λ n. n + count_items (Plain e ∷ [])) counted
    ∙ ap (λ n. count + n) (sym (one_if (is_rule e)) ∙ ap (λ b. if b then 1 else 0) (sym (ap (λ xs. begins_item (first_word xs)) is ∙ entry_item e rest)))

if_count : (items : List Item) (r : IfRule) (count : ℕ) (w : Word) → count_items items ≡ count → word_eq w if_word ≡ true → count_items (items ++ If r ∷ []) ≡ count + (if begins_item w then 1 else 0)
if_count items r count w counted is =
    count_more items (If r) ∙ ap (λ n. n + 1) counted ∙ ap (λ b. count + (if (b || begins_rule w) then 1 else 0)) (sym is)

pub adds_entry : (tokens hidden : List Lexed) (at next : ℕ) (one : ReadEntry) (old new : IfRules) → Reads IsEntryOf is_entry entry_words tokens at next one → EndsWhole Between tokens at next
    → new.plain.entries.items ≡ old.plain.entries.items ++ one ∷ [] → new.ifs.items ≡ old.ifs.items → AddsItem tokens hidden at next old new
adds_entry tokens hidden at next one old new reads whole plain ifs count before = record {
  reads = record {
    items = before.reads.items ++ Plain reads.thing ∷ [];
    are = OfEntry at next before.reads.items reads.thing before.reads.are reads.written reads.spelled whole;
    read = read_entry_more before.reads.items reads.thing one old new before.reads.read reads.related plain ifs;
  };
  counted = entry_count before.reads.items reads.thing count (words_at tokens at) (words_at tokens next) before.counted reads.spelled;
}

pub adds_if : (tokens hidden : List Lexed) (at next : ℕ) (one : ReadIf) (old new : IfRules) → ReadsIf tokens hidden at next one
    → new.ifs.items ≡ old.ifs.items ++ one ∷ [] → new.plain.entries.items ≡ old.plain.entries.items → AddsItem tokens hidden at next old new
adds_if tokens hidden at next one old new reads ifs plain count before = record {
  reads = record {
    items = before.reads.items ++ If reads.rule ∷ [];
    are = OfIf at reads.mid next before.reads.items reads.rule before.reads.are reads.condition reads.kept reads.good;
    read = read_if_more before.reads.items reads.rule one old new before.reads.read reads.related ifs plain;
  };
  counted = if_count before.reads.items reads.rule count (first_word (words_at tokens at)) before.counted reads.condition.is_if;
}

pub reads_none : (tokens hidden : List Lexed) (at : ℕ) (rules : IfRules) → at ≡ 0 → rules.plain.entries.items ≡ [] → rules.ifs.items ≡ [] → ReadsTo tokens hidden at rules
reads_none tokens hidden at rules begin plain ifs = record {
  items = [];
  are = subst (λ n. ItemsTo tokens hidden n []) (sym begin) OfNone;
  read = record { plain = subst (λ rs. AreEntriesOf rs []) (sym plain) tt; ifs = subst (λ rs. AreEach IsIfOf rs []) (sym ifs) tt };
}

pub reads_few : (tokens hidden : List Lexed) (at count : ℕ) (rules : IfRules) → ReadsCounted tokens hidden at rules count → length tokens ≤ at → at ≤ length tokens → count ≤ 4096 → ReadsFew tokens hidden (length tokens) rules
reads_few tokens hidden at count rules c past inside few =
    let same : at ≡ length tokens = omega (arith, past, inside) in
    subst (λ n. ReadsFew tokens hidden n rules) same (record { reads = c.reads; few = subst (λ n. n ≤ 4096) (sym c.counted) few })

-- ---- a whole text

pub whole_text : (text : List ℕ) (tokens : Tokens) (hidden : List Lexed) (rules : IfRules) → IsUtf8 text → AreTokensOf text tokens → AreMasked tokens.items.items hidden
    → (reads : ReadsTo tokens.items.items hidden (length tokens.items.items) rules) → count_items reads.items ≤ 4096 → IsIfReading text rules
whole_text text tokens hidden rules characters are m reads few = record {
  items = reads.items;
  spells = record {
    characters = characters;
    written = items_to tokens.items.items hidden (length tokens.items.items) reads.items m reads.are;
    words = sym (append-nil (flat_map item_words reads.items)) ∙ ap (λ xs. flat_map item_words reads.items ++ xs) (sym (end_at tokens.items.items (length tokens.items.items) (omega arith)))
        ∙ sym (spelled_to tokens.items.items hidden (length tokens.items.items) reads.items reads.are) ∙ words_from text tokens are;
    few = few;
  };
  read = reads.read;
}

-- ---- a text without conditions

abbrev plains : List Entry → List Item
plains es = map (λ e. Plain e) es

plain_words : (es : List Entry) → flat_map item_words (plains es) ≡ spelled es
plain_words [] = refl
plain_words (e ∷ es) = ap (λ ws. entry_words e ++ ws) (plain_words es)

both_true : (a b : Bool) → (a && b) ≡ true → (a ≡ true) × (b ≡ true)
both_true true b is = (refl, is)
both_true false b is = cc

plain_items : (es : List Entry) → list_all is_entry es ≡ true → AreItems (plains es)
plain_items [] written = tt
plain_items (e ∷ es) written =
    let two = both_true (is_entry e) (list_all is_entry es) written in
    (two.0, plain_items es two.1)

plain_count : (es : List Entry) → count_items (plains es) ≡ count_rules es
plain_count [] = refl
plain_count (e ∷ es) = ap (λ n. (if is_rule e then 1 else 0) + n) (plain_count es)

plain_same : (es : List Entry) → plain_of (plains es) ≡ es
plain_same [] = refl
plain_same (e ∷ es) = ap (λ xs. e ∷ xs) (plain_same es)

no_ifs : (es : List Entry) → ifs_of (plains es) ≡ []
no_ifs [] = refl
no_ifs (e ∷ es) = no_ifs es

pub plain_reading : (text : List ℕ) (rules : IfRules) → IsReading text rules.plain → rules.ifs.items ≡ [] → IsIfReading text rules
plain_reading text rules reading none = record {
  items = plains reading.entries;
  spells = record {
    characters = reading.spells.characters;
    written = plain_items reading.entries reading.spells.words.written;
    words = plain_words reading.entries ∙ reading.spells.words.words;
    few = subst (λ n. n ≤ 4096) (sym (plain_count reading.entries)) reading.spells.few;
  };
  read = record {
    plain = subst (AreEntriesOf rules.plain.entries.items) (sym (plain_same reading.entries)) reading.related;
    ifs = subst (λ rs. AreEach IsIfOf rs (ifs_of (plains reading.entries))) (sym none) (subst (AreEach IsIfOf []) (sym (no_ifs reading.entries)) tt);
  };
}

-- ---- where reading halts

pub counts_none : (tokens hidden : List Lexed) (at : ℕ) (rules : IfRules) → at ≡ 0 → rules.plain.entries.items ≡ [] → rules.ifs.items ≡ [] → ReadsCounted tokens hidden at rules 0
unfolding reads_none
counts_none tokens hidden at rules begin plain ifs = record { reads = reads_none tokens hidden at rules begin plain ifs; counted = refl }

stands : (tokens hidden : List Lexed) (at count : ℕ) (rules : IfRules) → ReadsCounted tokens hidden at rules count → at < length tokens → StandsBefore tokens hidden at count
stands tokens hidden at count rules c inside = record { items = c.reads.items; are = c.reads.are; inside = inside; counted = c.counted }

pub crowded : (tokens hidden : List Lexed) (at count : ℕ) (rules : IfRules) (w : Word) (h : Halt) → ReadsCounted tokens hidden at rules count → at < length tokens → w ≡ first_word (words_at tokens at)
    → h ≡ halt.TooMany → begins_item w ≡ true → count ≡ 4096 → HaltsItems tokens hidden at h
crowded tokens hidden at count rules w h c inside first is begins full = subst (HaltsItems tokens hidden at) (sym is) (record {
  front = subst (StandsBefore tokens hidden at) full (stands tokens hidden at count rules c inside);
  rule = ap begins_item (sym first) ∙ begins;
})

pub halted_item : (tokens hidden : List Lexed) (at next count more : ℕ) (rules : IfRules) (w : Word) (h : Halt) → ReadsCounted tokens hidden at rules count → count ≤ 4096 → at < length tokens
    → w ≡ first_word (words_at tokens at) → more ≡ count + (if begins_item w then 1 else 0) → more ≤ 4096 → HaltsItem tokens hidden at next h → HaltsItems tokens hidden next h
halted_item tokens hidden at next count more rules w (halt.Inside stop.NoMemory) c few inside first is most h = tt
halted_item tokens hidden at next count more rules w (halt.Inside stop.Syntax) c few inside first is most h =
    let same : count + (if begins_item (first_word (words_at tokens at)) then 1 else 0) ≡ more = ap (λ v. count + (if begins_item v then 1 else 0)) (sym first) ∙ sym is in
    record { at = at; count = count; front = stands tokens hidden at count rules c inside; few = subst (λ n. n ≤ 4096) (sym same) most; refused = h }
halted_item tokens hidden at next count more rules w halt.Option c few inside first is most h = subst (λ k. IsOptionAt tokens hidden k) (sym h.0) (record {
  count = count;
  front = stands tokens hidden at count rules c inside;
  few = few;
  option = h.1;
  unknown = h.2;
  other = h.3;
})
halted_item tokens hidden at next count more rules w halt.TooMany c few inside first is most h = absurd h

pub counts_more : (tokens hidden : List Lexed) (at next count more : ℕ) (old new : IfRules) (w : Word) → ReadsCounted tokens hidden at old count → w ≡ first_word (words_at tokens at)
    → more ≡ count + (if begins_item w then 1 else 0) → AddsItem tokens hidden at next old new → ReadsCounted tokens hidden next new more
counts_more tokens hidden at next count more old new w c first is adds =
    let same : count + (if begins_item (first_word (words_at tokens at)) then 1 else 0) ≡ more = ap (λ v. count + (if begins_item v then 1 else 0)) (sym first) ∙ sym is in
    subst (ReadsCounted tokens hidden next new) same (adds count c)
