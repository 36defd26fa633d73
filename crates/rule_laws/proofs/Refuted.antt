-- A text that spells rules and options, some with a condition, has no fault.
use Rattle.std.proofs.Common.{◌≡◌, inl, inr, ◌<◌, ◌≤◌, ◌+◌, ℕ, suc, Bool, true, false, ◌&&◌, ◌||◌, if◌then◌else◌, map, length, List, [], ◌∷◌, ◌++◌, Some, None, refl, sym, ap, subst, ◌∙◌, arith}
use Rattle.std.specs.List.{flat_map, list_all, list_any}
use Rattle.std.proofs.lemmas.List.{append-nil}
use Rattle.rule_text.specs.Tokens.{Word}
use Rattle.rule_text.specs.Rules.{Entry}
use Rattle.rule_text.specs.Spelling.{word_eq, begins_option, begins_rule, class_rule_words, is_entry, entry_words, is_rule, spelled, count_rules}
use Rattle.rule_text.specs.Steps.{first_word, words_at}
use Rattle.rule_text.specs.Fault.{IsFault}
use Rattle.rule_text.specs.Fronts.{AreTokensOf}
use Rattle.rule_text.specs.Halts.{is_known}
use Rattle.rule_text.specs.Places.{InHead, is_keep, from_option}
use Rattle.rule_text.specs.declared.fault.RuleFault.{RuleFault}
use Rattle.rule_text.specs.declared.fault.RuleFault.TheVariants as fault
use Rattle.rule_text.specs.declared.token.Token.{Token as Lexed}
use Rattle.rule_text.specs.declared.token.Tokens.{Tokens}
use Rattle.rule_text.proofs.EntryLemmas.{words_from}
use Rattle.rule_text.proofs.PlaceLemmas.{clash, entry_word}
use Rattle.if_text.specs.Faults.{AreMasked, is_if_at, ItemsTo, IsRefusedItem, InEntry, InCondition, NoRule, InKept, AtReference, begins_item, IsRefusedAt, IsOptionAt, IsRuleAt, HasIfFault, IsIfFault}
use Rattle.if_text.specs.Items.{IfRule, Item, Plain, If, if_word, item_words, IsIfRule, AreItems, are_good, count_items, SpellsItems, has_if}
use Rattle.if_text.specs.Parts.{masked}
use Rattle.rule_laws.proofs.Plain.{no_bad_byte, no_plain_fault}
use Rattle.rule_laws.proofs.Firsts.{first_entry, word_rule, word_known, some_there, never_refused, entry_goes, class_stretch}
use Rattle.rule_laws.proofs.Masks.{kept_begins, items_begin, items_masked}
use Rattle.rule_laws.proofs.Splits.{Behind, split_to, no_if, if_there, behind_if, condition_same, hidden_words, kept_same}
use Rattle.rule_laws.proofs.Named.{same_good}

-- ---- where reading stops in an item

none_no_place : (tokens : List Lexed) (at : ℕ) → at < length tokens → [] ≡ words_at tokens at → ⊥
none_no_place tokens at inside none = some_there tokens at inside (sym none)

no_first : (f : Entry) (fs : List Item) (tokens : List Lexed) (at : ℕ) → flat_map item_words (Plain f ∷ fs) ≡ words_at tokens at → is_if_at tokens at ≡ true → ⊥
no_first f fs tokens at mine is = no_if f (sym (first_entry f (flat_map item_words fs)) ∙ ap first_word mine ∙ if_there (first_word (words_at tokens at)) is)

-- At no item reading stops.
goes_if : (tokens hidden : List Lexed) (at next : ℕ) (q : IfRule) (qs : List Item) → AreMasked tokens hidden → IsIfRule q → flat_map item_words (If q ∷ qs) ≡ words_at tokens at → IsRefusedItem tokens hidden at next → ⊥
goes_if tokens hidden _ _ q qs m is mine (InEntry at next (inl r)) = clash (sym r.plain ∙ ap (λ xs. begins_option (first_word xs)) (sym mine))
goes_if tokens hidden _ _ q qs m is mine (InEntry at next (inr r)) =
    let none : from_option if_word ≡ None = refl in
    let no : None ≡ Some r.place = sym none ∙ ap (λ xs. from_option (first_word xs)) mine ∙ r.leads in
    cc
goes_if tokens hidden _ _ q qs m is mine (InCondition at next there r) =
    let rest : List Word = flat_map item_words qs in
    never_refused InHead (class_rule_words q.condition) (q.words ++ rest) tokens (suc at) next (class_stretch q.condition (q.words ++ rest) is.condition (kept_begins q.words rest is.keep.option)) (behind_if tokens at q rest there mine) r
goes_if tokens hidden _ _ q qs m is mine (NoRule at next c to none) =
    let rest : List Word = flat_map item_words qs in
    let one : (class_rule_words q.condition ≡ class_rule_words c) × (q.words ++ rest ≡ words_at tokens next) = condition_same tokens at next q rest c is mine to in
    let kept : words_at hidden next ≡ entry_words is.keep.entry ++ map masked rest = hidden_words tokens hidden next q.words rest m is.keep one.1 in
    let first : first_word (words_at hidden next) ≡ entry_word is.keep.entry = ap first_word kept ∙ first_entry is.keep.entry (map masked rest) in
    let own : entry_word is.keep.entry ≡ first_word (map masked q.words) = sym (first_entry is.keep.entry []) ∙ ap first_word (append-nil (entry_words is.keep.entry) ∙ is.keep.words) in
    clash (sym none ∙ ap is_keep (first ∙ own) ∙ is.keep.option)
goes_if tokens hidden _ _ q qs m is mine (InKept at mid next c to keeps r) =
    let rest : List Word = flat_map item_words qs in
    let one : (class_rule_words q.condition ≡ class_rule_words c) × (q.words ++ rest ≡ words_at tokens mid) = condition_same tokens at mid q rest c is mine to in
    entry_goes is.keep.entry (map masked rest) hidden mid next is.keep.written (items_masked qs) (hidden_words tokens hidden mid q.words rest m is.keep one.1) r
goes_if tokens hidden _ _ q qs m is mine (AtReference at mid next behind c front more w to k there good bad) =
    let rest : List Word = flat_map item_words qs in
    let one : (class_rule_words q.condition ≡ class_rule_words c) × (q.words ++ rest ≡ words_at tokens mid) = condition_same tokens at mid q rest c is mine to in
    let two : (q.words ≡ front ++ w ∷ more) × (rest ≡ words_at tokens behind) = kept_same tokens hidden mid behind q.words (front ++ w ∷ more) rest m is.keep (items_masked qs) one.1 k in
    clash (sym bad ∙ same_good q.condition c front more w is.condition to.written one.0 (ap (are_good q.condition) (sym two.0) ∙ is.good))

goes_plain : (tokens hidden : List Lexed) (at next : ℕ) (e : Entry) (es : List Item) → is_entry e ≡ true → flat_map item_words (Plain e ∷ es) ≡ words_at tokens at → IsRefusedItem tokens hidden at next → ⊥
goes_plain tokens hidden _ _ e es is mine (InEntry at next r) = entry_goes e (flat_map item_words es) tokens at next is (items_begin es) (sym mine) r
goes_plain tokens hidden _ _ e es is mine (InCondition at next there r) = no_first e es tokens at mine there
goes_plain tokens hidden _ _ e es is mine (NoRule at next c to none) = no_first e es tokens at mine to.is_if
goes_plain tokens hidden _ _ e es is mine (InKept at mid next c to keeps r) = no_first e es tokens at mine to.is_if
goes_plain tokens hidden _ _ e es is mine (AtReference at mid next behind c front more w to k there good bad) = no_first e es tokens at mine to.is_if

goes : (tokens hidden : List Lexed) (at next : ℕ) (items : List Item) → AreMasked tokens hidden → AreItems items → flat_map item_words items ≡ words_at tokens at → at < length tokens → IsRefusedItem tokens hidden at next → ⊥
goes tokens hidden at next [] m are mine inside r = none_no_place tokens at inside mine
goes tokens hidden at next (Plain e ∷ es) m are mine inside r = goes_plain tokens hidden at next e es are.0 mine r
goes tokens hidden at next (If q ∷ qs) m are mine inside r = goes_if tokens hidden at next q qs m are.0 mine r

-- No option that isn't known begins an item.
known : (tokens : List Lexed) (at : ℕ) (items : List Item) → flat_map item_words items ≡ words_at tokens at → at < length tokens → is_known (first_word (words_at tokens at)) ≡ false → is_if_at tokens at ≡ false → ⊥
known tokens at [] mine inside unknown other = none_no_place tokens at inside mine
known tokens at (Plain e ∷ es) mine inside unknown other =
    clash (sym unknown ∙ ap (λ xs. is_known (first_word xs)) (sym mine) ∙ ap is_known (first_entry e (flat_map item_words es)) ∙ word_known e)
known tokens at (If q ∷ qs) mine inside unknown other = clash (sym other ∙ ap (λ xs. word_eq (first_word xs) if_word) (sym mine))

-- A rule that begins counts.
entry_counts : (e : Entry) (n : ℕ) (b : Bool) → is_rule e ≡ b → b ≡ true → 0 < (if b then 1 else 0) + n
entry_counts e n true is rule = omega arith
entry_counts e n false is rule = absurd (clash rule)

no_if_first : (e : Entry) (b : Bool) → word_eq (entry_word e) if_word ≡ b → (b || begins_rule (entry_word e)) ≡ true → begins_rule (entry_word e) ≡ true
no_if_first e true is rule = absurd (no_if e (if_there (entry_word e) is))
no_if_first e false is rule = rule

counts : (tokens : List Lexed) (at : ℕ) (items : List Item) → flat_map item_words items ≡ words_at tokens at → at < length tokens → begins_item (first_word (words_at tokens at)) ≡ true → 0 < count_items items
counts tokens at [] mine inside rule = absurd (none_no_place tokens at inside mine)
counts tokens at (Plain e ∷ es) mine inside rule =
    let first : begins_item (entry_word e) ≡ true = ap begins_item (sym (first_entry e (flat_map item_words es)) ∙ ap first_word mine) ∙ rule in
    entry_counts e (count_items es) (is_rule e) refl (sym (word_rule e) ∙ no_if_first e (word_eq (entry_word e) if_word) refl first)
counts tokens at (If q ∷ qs) mine inside rule =
    let e : count_items (If q ∷ qs) ≡ 1 + count_items qs = refl in
    omega (arith, e)

-- ---- a text with conditions

abbrev behind_of : (text : List ℕ) (items done : List Item) (tokens : Tokens) (hidden : List Lexed) (at : ℕ) → SpellsItems text items → AreTokensOf text tokens → AreMasked tokens.items.items hidden
    → ItemsTo tokens.items.items hidden at done → Behind (count_items done) items (words_at tokens.items.items at)
behind_of text items done tokens hidden at s are m to = split_to tokens.items.items hidden at done items m s.written (s.words ∙ sym (words_from text tokens are)) to

no_syntax : (text : List ℕ) (items : List Item) (tokens : Tokens) (hidden : List Lexed) (next : ℕ) → SpellsItems text items → AreTokensOf text tokens → AreMasked tokens.items.items hidden → IsRefusedAt tokens.items.items hidden next → ⊥
no_syntax text items tokens hidden next s are m r =
    let b : Behind (count_items r.front.items) items (words_at tokens.items.items r.at) = behind_of text items r.front.items tokens hidden r.at s are m r.front.are in
    goes tokens.items.items hidden r.at next b.rest m b.are b.words r.front.inside r.refused

no_option : (text : List ℕ) (items : List Item) (tokens : Tokens) (hidden : List Lexed) (next : ℕ) → SpellsItems text items → AreTokensOf text tokens → AreMasked tokens.items.items hidden → IsOptionAt tokens.items.items hidden next → ⊥
no_option text items tokens hidden next s are m r =
    let b : Behind (count_items r.front.items) items (words_at tokens.items.items next) = behind_of text items r.front.items tokens hidden next s are m r.front.are in
    known tokens.items.items next b.rest b.words r.front.inside r.unknown r.other

no_crowd : (text : List ℕ) (items : List Item) (tokens : Tokens) (hidden : List Lexed) (next : ℕ) → SpellsItems text items → AreTokensOf text tokens → AreMasked tokens.items.items hidden → IsRuleAt tokens.items.items hidden next → ⊥
no_crowd text items tokens hidden next s are m r =
    let b : Behind (count_items r.front.items) items (words_at tokens.items.items next) = behind_of text items r.front.items tokens hidden next s are m r.front.are in
    let more : 0 < count_items b.rest = counts tokens.items.items next b.rest b.words r.front.inside r.rule in
    let all : count_items items ≡ count_items r.front.items + count_items b.rest = b.count in
    let full : count_items r.front.items ≡ 4096 = r.front.counted in
    omega (arith, more, all, full, s.few)

no_if_fault : (text : List ℕ) (items : List Item) → SpellsItems text items → (found : RuleFault) → (found ≡ fault.NoMemory → ⊥) → HasIfFault text found → ⊥
no_if_fault text items s fault.NoMemory other is = other refl
no_if_fault text items s (fault.Syntax line) other is = no_syntax text items is.tokens is.hidden is.by.next s is.are is.same is.by.refused
no_if_fault text items s (fault.Option line) other is = no_option text items is.tokens is.hidden is.by.next s is.are is.same is.by.option
no_if_fault text items s (fault.NotUtf8 at) other is = no_bad_byte text at s.characters is
no_if_fault text items s (fault.TooMany count) other is = no_crowd text items is.tokens is.hidden is.by.next s is.are is.same is.by.rule

-- ---- one without them

record ArePlain (items : List Item) : Type 0 where
  entries : List Entry
  written : list_all is_entry entries ≡ true
  words : spelled entries ≡ flat_map item_words items
  count : count_rules entries ≡ count_items items

or_first : (a b : Bool) → (a || b) ≡ false → a ≡ false
or_first true b is = is
or_first false b is = refl

or_second : (a b : Bool) → (a || b) ≡ false → b ≡ false
or_second true b is = absurd (clash (sym is))
or_second false b is = is

any_second : (f : Word → Bool) (xs ys : List Word) → list_any f (xs ++ ys) ≡ false → list_any f ys ≡ false
any_second f [] ys is = is
any_second f (x ∷ xs) ys is = any_second f xs ys (or_second (f x) (list_any f (xs ++ ys)) is)

both : (a b : Bool) → a ≡ true → b ≡ true → (a && b) ≡ true
both true true one two = refl
both true false one two = two
both false b one two = one

abbrev is_if : Word → Bool
is_if w = word_eq w if_word

only_plain : (items : List Item) → AreItems items → list_any is_if (flat_map item_words items) ≡ false → ArePlain items
only_plain [] are none = record { entries = []; written = refl; words = refl; count = refl }
only_plain (Plain e ∷ es) are none =
    let more : ArePlain es = only_plain es are.1 (any_second is_if (entry_words e) (flat_map item_words es) none) in
    record {
      entries = e ∷ more.entries;
      written = both (is_entry e) (list_all is_entry more.entries) are.0 more.written;
      words = ap (λ ws. entry_words e ++ ws) more.words;
      count = ap (λ n. (if is_rule e then 1 else 0) + n) more.count;
    }
only_plain (If q ∷ qs) are none = absurd (clash (sym none))

no_conditions : (text : List ℕ) (items : List Item) → SpellsItems text items → has_if text ≡ false → (found : RuleFault) → (found ≡ fault.NoMemory → ⊥) → IsFault text found → ⊥
no_conditions text items s none found other is =
    let all : ArePlain items = only_plain items s.written (ap (list_any is_if) s.words ∙ none) in
    no_plain_fault text all.entries (record {
      characters = s.characters;
      words = record { written = all.written; words = all.words ∙ s.words };
      few = subst (λ n. n ≤ 4096) (sym all.count) s.few;
    }) found other is

pub no_item_fault : (text : List ℕ) (items : List Item) → SpellsItems text items → (found : RuleFault) → (found ≡ fault.NoMemory → ⊥) → IsIfFault text found → ⊥
no_item_fault text items s found other (inl is) = no_conditions text items s is.0 found other is.1
no_item_fault text items s found other (inr is) = no_if_fault text items s found other is.1
