-- What a parse by clap lists is what the pieces of the words sort to, and the words tell in their order.
use Rattle.std.proofs.Common.{◌≡◌, ◌==◌, ◌+◌, ℕ, Bool, true, false, cond, List, [], ◌∷◌, ◌++◌, map, length, Option, Some, None, option_map, option_and_then, codes, bytes_eq, is_some, count_by, refl, sym, ap, subst, ◌∙◌, arith}
use Rattle.std.specs.Prelude.{◌&&◌, ◌||◌, not, if◌then◌else◌}
use Rattle.std.specs.List.{filter_map, list_all}
use Rattle.std.proofs.lemmas.Slice.Eq.{bytes_eq-Decides}
use Rattle.std.proofs.lemmas.List.Sums.{sum_by-cons}
use Rattle.clap.specs.Lexer.{long_of}
use Rattle.clap.specs.Walk.{Row, Text}
use Rattle.command_line.specs.declared.command.Tell.{Tell}
use Rattle.command_line.specs.declared.command.Tell.TheVariants as tell
use Rattle.command_line.specs.declared.sorted.Sorted.{Sorted}
use Rattle.command_line.specs.Spelling.{Valued, Spare, AtMost, Library, Piece, Plain, Advice, Inline, FromLibrary, sorted_of, plain_word, tell_of, library_of, is_inline}
use Rattle.command_line.specs.Parsing.{Raw, plain, given, flag, Place, free, closed, wants, more_raw, by_value, by_flag, by_name, by_long, raws_from, has_one_dash, is_full, is_whole, listed, operand_text, spare_text, at_most_text, library_text, inline_text, after_front, ends_name, names, tells_in, IsParsed}
use Rattle.command_line.specs.Reading.{full_word, number_of, numbers_of, piece_of, pieces_of, piece_given, said, small}
use Rattle.command_line.proofs.OptionLemmas.{mapped, chained}
use Rattle.command_line.proofs.FrontLemmas.{after_front-is}
use Rattle.command_line.proofs.SaidLemmas.{behind, long-is, one_more}

-- ---- the order of what is told

-- what raws tell, with these numbers
abbrev pub told : List Raw → List ℕ → List Tell
told [] ns = []
told (given Spare v ∷ rs) ns = tell.Spare v ∷ told rs ns
told (given AtMost v ∷ rs) [] = told rs []
told (given AtMost v ∷ rs) (n ∷ ns) = tell.AtMost n ∷ told rs ns
told (given Library v ∷ rs) ns = told rs ns
told (plain word ∷ rs) ns = told rs ns
told (flag ∷ rs) ns = told rs ns

closed-told : (words : List Text) (rs : List Raw) (ns : List ℕ) → raws_from closed words ≡ Some rs → told rs ns ≡ []
closed-told [] rs ns h = let is : [] ≡ rs = cc in rw (← is) refl
closed-told (word ∷ rest) rs ns h =
    let m = mapped (λ qs. plain word ∷ qs) (raws_from closed rest) rs h in rw m.2 (closed-told rest m.0 ns m.1)

not_named : (option word : Text) → ((back : Text) → long_of (option ++ back) ≡ None → ⊥) → long_of word ≡ None → names option word ≡ false
not_named option word some none = by_front (after_front option word) refl
  where
    by_front : (o : Option Text) → after_front option word ≡ o → ends_name o ≡ false
    by_front None e = refl
    by_front (Some back) e = absurd (some back (subst (λ w. long_of w ≡ None) (after_front-is option word back e) none))

no_spare : (word : Text) → long_of word ≡ None → names (codes "--spare") word ≡ false
no_spare word none = not_named (codes "--spare") word (λ back h. cc) none

no_at_most : (word : Text) → long_of word ≡ None → names (codes "--at-most") word ≡ false
no_at_most word none = not_named (codes "--at-most") word (λ back h. cc) none

abbrev OnFree : List Text → Type 0
OnFree words = (rs : List Raw) → raws_from free words ≡ Some rs → (ns : List ℕ) → tells_in words (filter_map spare_text rs) ns ≡ told rs ns

abbrev OnWants : List Text → Type 0
OnWants words = (n : Valued) (rs : List Raw) → raws_from (wants n) words ≡ Some rs
    → (v : Text) × (back : List Raw) × (rs ≡ given n v ∷ back) × ((ns : List ℕ) → tells_in words (filter_map spare_text back) ns ≡ told back ns)

module _ (rest : List Text) (on : OnFree rest) (on_wants : OnWants rest) where
  -- an option's value, here or in the next word
  value-at : (n : Valued) (v : Option Text) (rs : List Raw) → by_value n v (λ go. raws_from go rest) ≡ Some rs
      → (x : Text) × (back : List Raw) × (rs ≡ given n x ∷ back) × ((ns : List ℕ) → tells_in rest (filter_map spare_text back) ns ≡ told back ns)
  value-at n (Some x) rs h = let m = mapped (λ qs. given n x ∷ qs) (raws_from free rest) rs h in (x, m.0, m.2, on m.0 m.1)
  value-at n None rs h = on_wants n rs h

  abbrev Tells : Text → List Raw → Type 0
  Tells word rs = (ns : List ℕ) → tells_in (word ∷ rest) (filter_map spare_text rs) ns ≡ told rs ns

  spare-told : (v : Option Text) (rs : List Raw) → by_value Spare v (λ go. raws_from go rest) ≡ Some rs → Tells (codes "--spare" ++ behind v) rs
  spare-told None rs h ns = let m = value-at Spare None rs h in rw m.2 (ap (λ ts. tell.Spare m.0 ∷ ts) (m.3 ns))
  spare-told (Some x) rs h ns = let m = value-at Spare (Some x) rs h in rw m.2 (ap (λ ts. tell.Spare m.0 ∷ ts) (m.3 ns))

  at_most-told : (v : Option Text) (rs : List Raw) → by_value AtMost v (λ go. raws_from go rest) ≡ Some rs → Tells (codes "--at-most" ++ behind v) rs
  at_most-told None rs h [] = let m = value-at AtMost None rs h in rw m.2 (m.3 [])
  at_most-told None rs h (n ∷ ns) = let m = value-at AtMost None rs h in rw m.2 (ap (λ ts. tell.AtMost n ∷ ts) (m.3 ns))
  at_most-told (Some x) rs h [] = let m = value-at AtMost (Some x) rs h in rw m.2 (m.3 [])
  at_most-told (Some x) rs h (n ∷ ns) = let m = value-at AtMost (Some x) rs h in rw m.2 (ap (λ ts. tell.AtMost n ∷ ts) (m.3 ns))

  library-told : (v : Option Text) (rs : List Raw) → by_value Library v (λ go. raws_from go rest) ≡ Some rs → Tells (codes "--library" ++ behind v) rs
  library-told None rs h ns = let m = value-at Library None rs h in rw m.2 (m.3 ns)
  library-told (Some x) rs h ns = let m = value-at Library (Some x) rs h in rw m.2 (m.3 ns)

  inline-told : (v : Option Text) (rs : List Raw) → by_flag v (λ go. raws_from go rest) ≡ Some rs → Tells (codes "--inline" ++ behind v) rs
  inline-told (Some x) rs h ns = cc
  inline-told None rs h ns = let m = mapped (λ qs. flag ∷ qs) (raws_from free rest) rs h in rw m.2 (on m.0 m.1 ns)

  same : (x y : Text) → bytes_eq x y ≡ true → x ≡ y
  same x y e = (bytes_eq-Decides x y).0 e

  name-told : (name : Text) (v : Option Text) (rs : List Raw) → by_name name v (λ go. raws_from go rest) ≡ Some rs → Tells (45 ∷ 45 ∷ (name ++ behind v)) rs
  name-told name v rs h =
      by_tests (bytes_eq (codes "spare") name) (bytes_eq (codes "at-most") name) (bytes_eq (codes "library") name) (bytes_eq (codes "inline") name) refl refl refl refl h
    where
      by_tests : (a b d e : Bool) → bytes_eq (codes "spare") name ≡ a → bytes_eq (codes "at-most") name ≡ b → bytes_eq (codes "library") name ≡ d → bytes_eq (codes "inline") name ≡ e
          → (if a then by_value Spare v (λ go. raws_from go rest) else (if b then by_value AtMost v (λ go. raws_from go rest)
          else (if d then by_value Library v (λ go. raws_from go rest) else (if e then by_flag v (λ go. raws_from go rest) else None)))) ≡ Some rs
          → Tells (45 ∷ 45 ∷ (name ++ behind v)) rs
      by_tests true b d e i j k l m = subst (λ x. Tells (45 ∷ 45 ∷ (x ++ behind v)) rs) (same (codes "spare") name i) (spare-told v rs m)
      by_tests false true d e i j k l m = subst (λ x. Tells (45 ∷ 45 ∷ (x ++ behind v)) rs) (same (codes "at-most") name j) (at_most-told v rs m)
      by_tests false false true e i j k l m = subst (λ x. Tells (45 ∷ 45 ∷ (x ++ behind v)) rs) (same (codes "library") name k) (library-told v rs m)
      by_tests false false false true i j k l m = subst (λ x. Tells (45 ∷ 45 ∷ (x ++ behind v)) rs) (same (codes "inline") name l) (inline-told v rs m)
      by_tests false false false false i j k l m = cc

  -- a word that tells nothing
  silent-told : (word : Text) (rs : List Raw) (ns : List ℕ) → bytes_eq word (codes "--") ≡ false → long_of word ≡ None
      → tells_in rest (filter_map spare_text rs) ns ≡ told rs ns → tells_in (word ∷ rest) (filter_map spare_text rs) ns ≡ told rs ns
  silent-told word rs ns e none h = rw (e, no_spare word none, no_at_most word none) h

  long-told : (word : Text) (l : Option (Text × Option Text)) (rs : List Raw) → long_of word ≡ l → bytes_eq word (codes "--") ≡ false
      → by_long word l (λ go. raws_from go rest) ≡ Some rs → Tells word rs
  long-told word None rs is e h ns =
      let m = mapped (λ qs. plain word ∷ qs) (raws_from free rest) rs h in rw m.2 (silent-told word m.0 ns e is (on m.0 m.1 ns))
  long-told word (Some p) rs is e h ns = subst (λ w. Tells w rs) (sym (long-is word p.0 p.1 is)) (name-told p.0 p.1 rs h) ns

  free-told : (word : Text) → OnFree (word ∷ rest)
  free-told word rs h = by_tests (bytes_eq word (codes "--")) (has_one_dash word) refl h
    where
      by_tests : (a b : Bool) → bytes_eq word (codes "--") ≡ a
          → (if a then raws_from closed rest else (if b then None else by_long word (long_of word) (λ go. raws_from go rest))) ≡ Some rs → Tells word rs
      by_tests true b i m ns = rw i (sym (closed-told rest rs ns m))
      by_tests false true i m ns = cc
      by_tests false false i m ns = long-told word (long_of word) rs refl i m ns

  wants-told : (word : Text) → OnWants (word ∷ rest)
  wants-told word n rs h = by_tests (bytes_eq word (codes "--")) (has_one_dash word) (long_of word) refl refl h
    where
      by_tests : (a b : Bool) (l : Option (Text × Option Text)) → bytes_eq word (codes "--") ≡ a → long_of word ≡ l
          → (if a then None else (if b then None else (if is_some l then None else more_raw (given n word) (raws_from free rest)))) ≡ Some rs
          → (v : Text) × (back : List Raw) × (rs ≡ given n v ∷ back) × ((ns : List ℕ) → tells_in (word ∷ rest) (filter_map spare_text back) ns ≡ told back ns)
      by_tests true b l i k m = cc
      by_tests false true l i k m = cc
      by_tests false false (Some p) i k m = cc
      by_tests false false None i k m =
          let t = mapped (λ qs. given n word ∷ qs) (raws_from free rest) rs m in
          (word, t.0, t.2, λ ns. silent-told word t.0 ns i k (on t.0 t.1 ns))

both-told : (words : List Text) → OnFree words × OnWants words
both-told [] = ((λ rs h ns. let is : [] ≡ rs = cc in rw (← is) refl), (λ n rs h. cc))
both-told (word ∷ rest) = let b = both-told rest in (free-told rest b.0 b.1 word, wants-told rest b.0 b.1 word)

-- ---- what the pieces sort to

pub record AreSorted (rs : List Raw) (ns : List ℕ) (ps : List Piece) : Type 0 where
  pub pieces : pieces_of rs ≡ Some ps
  pub plain_words : filter_map plain_word ps ≡ filter_map operand_text rs
  pub tells : filter_map tell_of ps ≡ told rs ns
  pub inlines : count_by is_inline ps ≡ length (filter_map inline_text rs)
  pub libraries : filter_map library_of ps ≡ filter_map library_text rs

head-full : (r : Raw) (rs : List Raw) → list_all is_full (r ∷ rs) ≡ true → (is_full r ≡ true) × (list_all is_full rs ≡ true)
head-full r rs h = by_full (is_full r) h
  where
    by_full : (b : Bool) → (b && list_all is_full rs) ≡ true → (b ≡ true) × (list_all is_full rs ≡ true)
    by_full true k = (refl, k)
    by_full false k = cc

module _ (rs : List Raw) (behind : (ns : List ℕ) → numbers_of (filter_map at_most_text rs) ≡ Some ns → (ps : List Piece) × AreSorted rs ns ps) where
  at_most-sorted : (v : Text) (n : ℕ) (rest : List ℕ) (ps : List Piece) (ns : List ℕ) → option_and_then small (number_of v) ≡ Some n → ns ≡ n ∷ rest → AreSorted rs rest ps
      → (qs : List Piece) × AreSorted (given AtMost v ∷ rs) ns qs
  at_most-sorted v n rest ps ns number is s = rw is
      (Advice (tell.AtMost n) ∷ ps, record { pieces = rw (number, s.pieces) refl; plain_words = s.plain_words; tells = ap (λ ts. tell.AtMost n ∷ ts) s.tells; inlines = s.inlines; libraries = s.libraries })

  given-sorted : (n : Valued) (v : Text) (ns : List ℕ) → numbers_of (filter_map at_most_text (given n v ∷ rs)) ≡ Some ns → is_whole v ≡ true → (ps : List Piece) × AreSorted (given n v ∷ rs) ns ps
  given-sorted Spare [] ns h full = cc
  given-sorted Spare (c ∷ cs) ns h full =
      let b = behind ns h in let s = b.1 in
      (Advice (tell.Spare (c ∷ cs)) ∷ b.0, record { pieces = rw s.pieces refl; plain_words = s.plain_words; tells = ap (λ ts. tell.Spare (c ∷ cs) ∷ ts) s.tells; inlines = s.inlines; libraries = s.libraries })
  given-sorted AtMost v ns h full =
      let k = chained (λ n. option_map (λ ms. n ∷ ms) (numbers_of (filter_map at_most_text rs))) (option_and_then small (number_of v)) ns h in
      let m = mapped (λ ms. k.0 ∷ ms) (numbers_of (filter_map at_most_text rs)) ns k.2 in
      let b = behind m.0 m.1 in let s = b.1 in
      at_most-sorted v k.0 m.0 b.0 ns k.1 m.2 s
  given-sorted Library [] ns h full = cc
  given-sorted Library (c ∷ cs) ns h full =
      let b = behind ns h in let s = b.1 in
      (FromLibrary (c ∷ cs) ∷ b.0, record { pieces = rw s.pieces refl; plain_words = s.plain_words; tells = s.tells; inlines = s.inlines; libraries = ap (λ ts. (c ∷ cs) ∷ ts) s.libraries })

  raw-sorted : (r : Raw) (ns : List ℕ) → numbers_of (filter_map at_most_text (r ∷ rs)) ≡ Some ns → is_full r ≡ true → (ps : List Piece) × AreSorted (r ∷ rs) ns ps
  raw-sorted (plain []) ns h full = cc
  raw-sorted (plain (c ∷ cs)) ns h full =
      let b = behind ns h in let s = b.1 in
      (Plain (c ∷ cs) ∷ b.0, record { pieces = rw s.pieces refl; plain_words = ap (λ ts. (c ∷ cs) ∷ ts) s.plain_words; tells = s.tells; inlines = s.inlines; libraries = s.libraries })
  raw-sorted (given n v) ns h full = given-sorted n v ns h full
  raw-sorted flag ns h full =
      let b = behind ns h in let s = b.1 in
      (Inline ∷ b.0, record { pieces = rw s.pieces refl; plain_words = s.plain_words; tells = s.tells; inlines = sum_by-cons (λ p. cond (is_inline p) 1 0) Inline b.0 ∙ ap (λ n. 1 + n) s.inlines ∙ one_more (length (filter_map inline_text rs)); libraries = s.libraries })

pub are-sorted : (rs : List Raw) (ns : List ℕ) → numbers_of (filter_map at_most_text rs) ≡ Some ns → list_all is_full rs ≡ true → (ps : List Piece) × AreSorted rs ns ps
are-sorted [] ns h full = ([], record { pieces = refl; plain_words = refl; tells = refl; inlines = refl; libraries = refl })
are-sorted (r ∷ rs) ns h full = let f = head-full r rs full in raw-sorted rs (λ ms k. are-sorted rs ms k f.1) r ns h f.0

none-behind : (o : Option Piece) → option_and_then (λ p. option_map (λ ps. p ∷ ps) None) o ≡ None
none-behind None = refl
none-behind (Some p) = refl

rest-none : (r : Raw) (rs : List Raw) → pieces_of rs ≡ None → pieces_of (r ∷ rs) ≡ None
rest-none r rs h = rw h (none-behind (piece_of r))

number-none : (v : Text) (rs : List Raw) (o : Option ℕ) → option_and_then small (number_of v) ≡ o
    → option_and_then (λ n. option_map (λ ms. n ∷ ms) (numbers_of (filter_map at_most_text rs))) o ≡ None → (numbers_of (filter_map at_most_text rs) ≡ None → pieces_of rs ≡ None)
    → pieces_of (given AtMost v ∷ rs) ≡ None
number-none v rs None e h behind = rw e refl
number-none v rs (Some n) e h behind = by_rest (numbers_of (filter_map at_most_text rs)) refl h
  where
    by_rest : (q : Option (List ℕ)) → numbers_of (filter_map at_most_text rs) ≡ q → option_map (λ ms. n ∷ ms) q ≡ None → pieces_of (given AtMost v ∷ rs) ≡ None
    by_rest None i k = rest-none (given AtMost v) rs (behind i)
    by_rest (Some ms) i k = cc

pub numbers-none : (rs : List Raw) → numbers_of (filter_map at_most_text rs) ≡ None → pieces_of rs ≡ None
numbers-none [] h = cc
numbers-none (plain word ∷ rs) h = rest-none (plain word) rs (numbers-none rs h)
numbers-none (given Spare v ∷ rs) h = rest-none (given Spare v) rs (numbers-none rs h)
numbers-none (given AtMost v ∷ rs) h = number-none v rs (option_and_then small (number_of v)) refl h (numbers-none rs)
numbers-none (given Library v ∷ rs) h = rest-none (given Library v) rs (numbers-none rs h)
numbers-none (flag ∷ rs) h = rest-none flag rs (numbers-none rs h)

-- what the lists of a parse sort to
pub sorted-is : (words : List Text) (rows : List Row) (ns : List ℕ) → IsParsed words rows → numbers_of (listed (codes "at-most") rows) ≡ Some ns
    → (ps : List Piece) × (said words ≡ Some ps) × (sorted_of ps ≡ record {
      plain = listed (codes "operand") rows;
      tells = tells_in words (listed (codes "spare") rows) ns;
      inlines = length (listed (codes "inline") rows);
      libraries = listed (codes "library") rows;
    })
sorted-is words rows ns p h =
    let k = are-sorted p.raws ns (rw p.at_mosts at h) p.full in
    let s = k.1 in
    let order : tells_in words (filter_map spare_text p.raws) ns ≡ told p.raws ns = (both-told words).0 p.raws p.said ns in
    (k.0, rw p.said s.pieces, rw (p.operands, p.spares, p.inlines, p.libraries, order, s.plain_words, s.tells, s.inlines, s.libraries) refl)

pub sorted-none : (words : List Text) (rows : List Row) → IsParsed words rows → numbers_of (listed (codes "at-most") rows) ≡ None → said words ≡ None
sorted-none words rows p h = rw p.said (numbers-none p.raws (rw p.at_mosts at h))

-- the same, as the code says it
pub sorted-found : (words : List Text) (rows : List Row) (ns : List ℕ) (s : Sorted) → IsParsed words rows → numbers_of (listed (codes "at-most") rows) ≡ Some ns
    → s ≡ record {
      plain = listed (codes "operand") rows;
      tells = tells_in words (listed (codes "spare") rows) ns;
      inlines = length (listed (codes "inline") rows);
      libraries = listed (codes "library") rows;
    } → Some s ≡ option_map sorted_of (said words)
sorted-found words rows ns s p h is =
    let k = sorted-is words rows ns p h in rw k.1 (ap Some (is ∙ sym k.2))

pub sorted-lost : (words : List Text) (rows : List Row) → IsParsed words rows → numbers_of (listed (codes "at-most") rows) ≡ None → None ≡ option_map sorted_of (said words)
sorted-lost words rows p h = rw (sorted-none words rows p h) refl
