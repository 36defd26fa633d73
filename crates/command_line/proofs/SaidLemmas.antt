-- What words say is what is read of them, so they say one list of pieces or none.
use Rattle.std.proofs.Common.{◌≡◌, ◌≢◌, ◌==◌, ◌<◌, ◌^◌, ◌+◌, ℕ, suc, Bool, true, false, cond, List, [], ◌∷◌, ◌++◌, map, Option, Some, None, option_map, option_and_then, All, codes, bytes_eq, nat_lt, is_some, refl, sym, ap, subst, ◌∙◌, eqb-true, ne_eqb, eq-eqb, ltb-true, lt-ltb, append-nil, arith, take, drop}
use Rattle.std.specs.Prelude.{◌&&◌, ◌||◌, not, if◌then◌else◌}
use Rattle.std.specs.List.{after_first, before_first, position_or_len}
use Rattle.std.proofs.lemmas.List.Elements.{All-cons, All-nil}
use Rattle.std.proofs.lemmas.Slice.Eq.{bytes_eq-Decides}
use Rattle.clap.specs.Lexer.{has_byte, long_of, long_of_rest, strip_byte}
use Rattle.command_line.specs.declared.command.Tell.TheVariants as tell
use Rattle.command_line.specs.Spelling.{Says, Gives, IsFull, IsPlain, IsNumber, option_name, Valued, Spare, AtMost, Library, Piece, Plain, Advice, Inline, FromLibrary}
use Rattle.command_line.specs.Spelling as says_by
use Rattle.command_line.specs.Parsing.{Raw, plain, given, flag, Place, free, closed, wants, more_raw, by_value, by_flag, by_name, by_long, raw_at, raw_end, raws_from, has_one_dash}
use Rattle.command_line.specs.Reading.{number_of, full_word, small, piece_given, piece_of, pieces_of, said}
use Rattle.command_line.proofs.NumberLemmas.{number_of-numeral, number_of-some}
use Rattle.command_line.proofs.OptionLemmas.{mapped, chained}

-- ---- what is said is read

full-again : (value : List ℕ) → IsFull value → full_word value ≡ Some value
full-again [] h = absurd (h refl)
full-again (c ∷ cs) h = refl

number-again : (value : List ℕ) (n : ℕ) → IsNumber value n → number_of value ≡ Some n
number-again value n h = number_of-numeral value h.digits h.short ∙ ap Some (sym h.value)

small-again : (n : ℕ) → n < 2 ^ 32 → small n ≡ Some n
small-again n h = rw (lt-ltb n (2 ^ 32) h) refl

given-again : (name : Valued) (value : List ℕ) (p : Piece) → Gives name value p → piece_given name value ≡ Some p
given-again Spare value p h = ap (option_map (λ word. Advice (tell.Spare word))) (full-again value h.0) ∙ ap Some (sym h.1)
given-again AtMost value p h =
    ap (λ o. option_map (λ n. Advice (tell.AtMost n)) (option_and_then small o)) (number-again value h.0 h.1)
    ∙ ap (option_map (λ n. Advice (tell.AtMost n))) (small-again h.0 h.2) ∙ ap Some (sym h.3)
given-again Library value p h = ap (option_map FromLibrary) (full-again value h.0) ∙ ap Some (sym h.1)

-- the raws of the words are read as these pieces
abbrev pub IsRead : Place → List (List ℕ) → List Piece → Type 0
IsRead here words ps = (rs : List Raw) × (raws_from here words ≡ Some rs) × (pieces_of rs ≡ Some ps)

abbrev IsMore : Raw → Option (List Raw) → List Piece → Type 0
IsMore r o ps = (rs : List Raw) × (o ≡ Some rs) × (pieces_of rs ≡ Some ps)

more-read : (r : Raw) (p : Piece) (here : Place) (rest : List (List ℕ)) (more : List Piece) → piece_of r ≡ Some p → IsRead here rest more
    → IsMore r (more_raw r (raws_from here rest)) (p ∷ more)
more-read r p here rest more is read = (r ∷ read.0, rw read.1 refl, rw (is, read.2) refl)

All-head : {X : Type 0} (P : X → Type 0) (x : X) (xs : List X) → All P (x ∷ xs) → P x
All-head P x xs h = h 0 x (omega arith)

All-tail : {X : Type 0} (P : X → Type 0) (x : X) (xs : List X) → All P (x ∷ xs) → All P xs
All-tail P x xs h = λ k d lt. h (suc k) d (omega arith)

closed-read : (rest : List (List ℕ)) → All IsFull rest → IsRead closed rest (map Plain rest)
closed-read [] h = ([], refl, refl)
closed-read (word ∷ rest) h =
    more-read (plain word) (Plain word) closed rest (map Plain rest) (ap (option_map Plain) (full-again word (All-head IsFull word rest h))) (closed-read rest (All-tail IsFull word rest h))

-- a word that does not begin with `-`
plain-tests : (word : List ℕ) → IsPlain word → (bytes_eq word (codes "--") ≡ false) × (has_one_dash word ≡ false) × (long_of word ≡ None)
plain-tests [] h = absurd h
plain-tests (c ∷ []) h = let e = ne_eqb c 45 h in (rw e refl, rw e refl, rw e refl)
plain-tests (c ∷ d ∷ cs) h = let e = ne_eqb c 45 h in (rw e refl, rw e refl, rw e refl)

plain-full : (word : List ℕ) → IsPlain word → full_word word ≡ Some word
plain-full [] h = absurd h
plain-full (c ∷ cs) h = refl

plain-read : (word : List ℕ) (rest : List (List ℕ)) (more : List Piece) → IsPlain word → IsRead free rest more → IsRead free (word ∷ rest) (Plain word ∷ more)
plain-read word rest more h read =
    let t = plain-tests word h in
    let m = more-read (plain word) (Plain word) free rest more (ap (option_map Plain) (plain-full word h)) read in
    (m.0, rw (t.0, t.1, t.2) m.1, m.2)

inline-read : (rest : List (List ℕ)) (more : List Piece) → IsRead free rest more → IsRead free (codes "--inline" ∷ rest) (Inline ∷ more)
inline-read rest more read = let m = more-read flag Inline free rest more refl read in (m.0, m.1, m.2)

joined-raws : (name : Valued) (value : List ℕ) (rest : List (List ℕ)) → raws_from free ((option_name name ++ 61 ∷ value) ∷ rest) ≡ more_raw (given name value) (raws_from free rest)
joined-raws Spare value rest = refl
joined-raws AtMost value rest = refl
joined-raws Library value rest = refl

name-raws : (name : Valued) (rest : List (List ℕ)) → raws_from free (option_name name ∷ rest) ≡ raws_from (wants name) rest
name-raws Spare rest = refl
name-raws AtMost rest = refl
name-raws Library rest = refl

apart-raws : (name : Valued) (value : List ℕ) (rest : List (List ℕ)) → IsPlain value → raws_from (wants name) (value ∷ rest) ≡ more_raw (given name value) (raws_from free rest)
apart-raws name value rest h = let t = plain-tests value h in rw (t.0, t.1, t.2) refl

pub says-read : (words : List (List ℕ)) (ps : List Piece) → Says words ps → IsRead free words ps
says-read _ _ says_by.nothing = ([], refl, refl)
says-read _ _ (says_by.closed rest full) = closed-read rest full
says-read _ _ (says_by.plain word rest more h says) = plain-read word rest more h (says-read rest more says)
says-read _ _ (says_by.inline rest more says) = inline-read rest more (says-read rest more says)
says-read _ _ (says_by.joined name value p rest more gives says) =
    let m = more-read (given name value) p free rest more (given-again name value p gives) (says-read rest more says) in (m.0, joined-raws name value rest ∙ m.1, m.2)
says-read _ _ (says_by.apart name value p rest more h gives says) =
    let m = more-read (given name value) p free rest more (given-again name value p gives) (says-read rest more says) in
    (m.0, name-raws name (value ∷ rest) ∙ apart-raws name value rest h ∙ m.1, m.2)

pub says-again : (words : List (List ℕ)) (ps : List Piece) → Says words ps → said words ≡ Some ps
says-again words ps h = let r = says-read words ps h in rw r.1 r.2

-- ---- what is read is said

-- what is read from here on is said from here on
abbrev pub Reads : Place → List (List ℕ) → List Piece → Type 0
Reads free words ps = Says words ps
Reads (wants name) words ps = Says (option_name name ∷ words) ps
Reads closed words ps = All IsFull words × (ps ≡ map Plain words)

cons-full : (c : ℕ) (cs : List ℕ) → IsFull (c ∷ cs)
cons-full c cs e = cc

full-is : (value word : List ℕ) → full_word value ≡ Some word → IsFull value × (word ≡ value)
full-is [] word h = cc
full-is (c ∷ cs) word h = (cons-full c cs, cc)

split-small : (n m : ℕ) (b : Bool) → nat_lt n (2 ^ 32) ≡ b → cond b (Some n) None ≡ Some m → (n < 2 ^ 32) × (m ≡ n)
split-small n m true e h = (ltb-true n (2 ^ 32) e, cc)
split-small n m false e h = cc

given-is : (name : Valued) (value : List ℕ) (p : Piece) → piece_given name value ≡ Some p → Gives name value p
given-is Spare value p h =
    let k = mapped (λ word. Advice (tell.Spare word)) (full_word value) p h in
    let f = full-is value k.0 k.1 in (f.0, k.2 ∙ ap (λ word. Advice (tell.Spare word)) f.1)
given-is AtMost value p h =
    let k = mapped (λ n. Advice (tell.AtMost n)) (option_and_then small (number_of value)) p h in
    let g = chained small (number_of value) k.0 k.1 in
    let s = split-small g.0 k.0 (nat_lt g.0 (2 ^ 32)) refl g.2 in
    (g.0, number_of-some value g.0 g.1, s.0, k.2 ∙ ap (λ n. Advice (tell.AtMost n)) s.1)
given-is Library value p h =
    let k = mapped FromLibrary (full_word value) p h in
    let f = full-is value k.0 k.1 in (f.0, k.2 ∙ ap FromLibrary f.1)

-- the words of a long flag
abbrev pub behind : Option (List ℕ) → List ℕ
behind None = []
behind (Some v) = 61 ∷ v

pub one_more : (n : ℕ) → 1 + n ≡ suc n
one_more n = omega arith

more_one : (n : ℕ) → suc n + 1 ≡ suc (n + 1)
more_one n = omega arith

split-value : (t : List ℕ) → t ≡ before_first (λ x. x == 61) t ++ behind (if has_byte 61 t then Some (after_first (λ x. x == 61) t) else None)
split-value [] = refl
split-value (x ∷ xs) = by_equals (x == 61) refl (split-value xs)
  where
    by_equals : (b : Bool) → (x == 61) ≡ b → xs ≡ before_first (λ y. y == 61) xs ++ behind (if has_byte 61 xs then Some (after_first (λ y. y == 61) xs) else None)
        → x ∷ xs ≡ before_first (λ y. y == 61) (x ∷ xs) ++ behind (if has_byte 61 (x ∷ xs) then Some (after_first (λ y. y == 61) (x ∷ xs)) else None)
    by_equals true e rest = let is : x ≡ 61 = eqb-true x 61 e in rw is refl
    by_equals false e rest = rw (e, one_more (position_or_len (λ y. y == 61) xs), more_one (position_or_len (λ y. y == 61) xs)) (ap (λ t. x ∷ t) rest)

pub long-is : (word name : List ℕ) (v : Option (List ℕ)) → long_of word ≡ Some (name, v) → word ≡ 45 ∷ 45 ∷ (name ++ behind v)
long-is [] name v h = cc
long-is (a ∷ []) name v h = by_dash (a == 45) h
  where
    by_dash : (b : Bool) → option_and_then long_of_rest (option_and_then (strip_byte 45) (if b then Some [] else None)) ≡ Some (name, v) → a ∷ [] ≡ 45 ∷ 45 ∷ (name ++ behind v)
    by_dash true k = cc
    by_dash false k = cc
long-is (a ∷ b ∷ rest) name v h = by_dashes (a == 45) (b == 45) refl refl h
  where
    by_rest : (t : List ℕ) → long_of_rest t ≡ Some (name, v) → t ≡ name ++ behind v
    by_rest [] k = cc
    by_rest (x ∷ xs) k = split-value (x ∷ xs) ∙ (let e : ◌≡◌ {A = List ℕ × Option (List ℕ)} (before_first (λ y. y == 61) (x ∷ xs), (if has_byte 61 (x ∷ xs) then Some (after_first (λ y. y == 61) (x ∷ xs)) else None)) (name, v) = cc in ap (λ p. p.0 ++ behind p.1) e)

    by_dashes : (c d : Bool) → (a == 45) ≡ c → (b == 45) ≡ d → option_and_then long_of_rest (option_and_then (strip_byte 45) (if c then Some (b ∷ rest) else None)) ≡ Some (name, v)
        → a ∷ b ∷ rest ≡ 45 ∷ 45 ∷ (name ++ behind v)
    by_dashes true true e f k = let is_a : a ≡ 45 = eqb-true a 45 e in let is_b : b ≡ 45 = eqb-true b 45 f in
        let m : long_of_rest rest ≡ Some (name, v) = rw f at k in
        rw (is_a, is_b) (ap (λ t. 45 ∷ 45 ∷ t) (by_rest rest m))
    by_dashes true false e f k = let m : option_and_then long_of_rest None ≡ Some (name, v) = rw f at k in cc
    by_dashes false d e f k = cc

two_dashes : (d : ℕ) (cs : List ℕ) (b : Bool) → (d == 45) ≡ b → bytes_eq (45 ∷ d ∷ cs) (codes "--") ≡ false → not b ≡ false → long_of (45 ∷ d ∷ cs) ≡ None → ⊥
two_dashes d [] true f e one long = let is : d ≡ 45 = eqb-true d 45 f in let bad : true ≡ false = rw is at e in cc
two_dashes d (x ∷ xs) true f e one long = let is : d ≡ 45 = eqb-true d 45 f in let bad : long_of (45 ∷ 45 ∷ x ∷ xs) ≡ None = rw is at long in cc
two_dashes d cs false f e one long = cc

-- a full word that is no flag and not `--` does not begin with `-`
plain-of : (word : List ℕ) → bytes_eq word (codes "--") ≡ false → has_one_dash word ≡ false → long_of word ≡ None → IsFull word → IsPlain word
plain-of [] e one long full = absurd (full refl)
plain-of (c ∷ []) e one long full = λ same. let bad : (c == 45) ≡ true = eq-eqb c 45 same in cc
plain-of (c ∷ d ∷ cs) e one long full = λ same. two_dashes d cs (d == 45) refl (rw same at e) (rw same at one) (rw same at long)

pieces-cons : (r : Raw) (rs : List Raw) (ps : List Piece) → pieces_of (r ∷ rs) ≡ Some ps
    → (p : Piece) × (more : List Piece) × (piece_of r ≡ Some p) × (pieces_of rs ≡ Some more) × (ps ≡ p ∷ more)
pieces-cons r rs ps h =
    let k = chained (λ p. option_map (λ qs. p ∷ qs) (pieces_of rs)) (piece_of r) ps h in
    let m = mapped (λ qs. k.0 ∷ qs) (pieces_of rs) ps k.2 in (k.0, m.0, k.1, m.1, m.2)

word-is : (word : List ℕ) (p : Piece) → piece_of (plain word) ≡ Some p → IsFull word × (p ≡ Plain word)
word-is word p h =
    let k = mapped Plain (full_word word) p h in
    let f = full-is word k.0 k.1 in (f.0, k.2 ∙ ap Plain f.1)

abbrev ReadsOn : List (List ℕ) → Type 0
ReadsOn rest = (here : Place) (rs : List Raw) (ps : List Piece) → raws_from here rest ≡ Some rs → pieces_of rs ≡ Some ps → Reads here rest ps

module _ (rest : List (List ℕ)) (on : ReadsOn rest) where
  more-is : (r : Raw) (here : Place) (rs : List Raw) (ps : List Piece) → more_raw r (raws_from here rest) ≡ Some rs → pieces_of rs ≡ Some ps
      → (p : Piece) × (more : List Piece) × (piece_of r ≡ Some p) × Reads here rest more × (ps ≡ p ∷ more)
  more-is r here rs ps h read =
      let m = mapped (λ qs. r ∷ qs) (raws_from here rest) rs h in
      let k = pieces-cons r m.0 ps (rw m.2 at read) in
      (k.0, k.1, k.2, on here m.0 k.1 m.1 k.3, k.4)

  value-is : (n : Valued) (v : Option (List ℕ)) (rs : List Raw) (ps : List Piece) → by_value n v (λ go. raws_from go rest) ≡ Some rs → pieces_of rs ≡ Some ps
      → Says ((option_name n ++ behind v) ∷ rest) ps
  value-is n (Some v) rs ps h read =
      let m = more-is (given n v) free rs ps h read in rw m.4 (says_by.joined n v m.0 rest m.1 (given-is n v m.0 m.2) m.3)
  value-is n None rs ps h read = rw (append-nil (option_name n)) (on (wants n) rs ps h read)

  flag-is : (v : Option (List ℕ)) (rs : List Raw) (ps : List Piece) → by_flag v (λ go. raws_from go rest) ≡ Some rs → pieces_of rs ≡ Some ps
      → Says ((codes "--inline" ++ behind v) ∷ rest) ps
  flag-is (Some v) rs ps h read = cc
  flag-is None rs ps h read =
      let m = more-is flag free rs ps h read in
      let is : Inline ≡ m.0 = cc in rw (m.4, ← is) (says_by.inline rest m.1 m.3)

  same : (x y : List ℕ) → bytes_eq x y ≡ true → x ≡ y
  same x y e = (bytes_eq-Decides x y).0 e

  name-is : (name : List ℕ) (v : Option (List ℕ)) (rs : List Raw) (ps : List Piece) → by_name name v (λ go. raws_from go rest) ≡ Some rs → pieces_of rs ≡ Some ps
      → Says ((45 ∷ 45 ∷ (name ++ behind v)) ∷ rest) ps
  name-is name v rs ps h read =
      by_tests (bytes_eq (codes "spare") name) (bytes_eq (codes "at-most") name) (bytes_eq (codes "library") name) (bytes_eq (codes "inline") name) refl refl refl refl h
    where
      by_tests : (a b d e : Bool) → bytes_eq (codes "spare") name ≡ a → bytes_eq (codes "at-most") name ≡ b → bytes_eq (codes "library") name ≡ d → bytes_eq (codes "inline") name ≡ e
          → (if a then by_value Spare v (λ go. raws_from go rest) else (if b then by_value AtMost v (λ go. raws_from go rest)
          else (if d then by_value Library v (λ go. raws_from go rest) else (if e then by_flag v (λ go. raws_from go rest) else None)))) ≡ Some rs
          → Says ((45 ∷ 45 ∷ (name ++ behind v)) ∷ rest) ps
      by_tests true b d e i j k l m = rw (← same (codes "spare") name i) (value-is Spare v rs ps m read)
      by_tests false true d e i j k l m = rw (← same (codes "at-most") name j) (value-is AtMost v rs ps m read)
      by_tests false false true e i j k l m = rw (← same (codes "library") name k) (value-is Library v rs ps m read)
      by_tests false false false true i j k l m = rw (← same (codes "inline") name l) (flag-is v rs ps m read)
      by_tests false false false false i j k l m = cc

  long-word-is : (word : List ℕ) (l : Option (List ℕ × Option (List ℕ))) (rs : List Raw) (ps : List Piece) → long_of word ≡ l → bytes_eq word (codes "--") ≡ false → has_one_dash word ≡ false
      → by_long word l (λ go. raws_from go rest) ≡ Some rs → pieces_of rs ≡ Some ps → Says (word ∷ rest) ps
  long-word-is word None rs ps is e one h read =
      let m = more-is (plain word) free rs ps h read in
      let w = word-is word m.0 m.2 in
      rw (m.4, w.1) (says_by.plain word rest m.1 (plain-of word e one is w.0) m.3)
  long-word-is word (Some p) rs ps is e one h read = rw (long-is word p.0 p.1 is) (name-is p.0 p.1 rs ps h read)

  free-is : (word : List ℕ) (rs : List Raw) (ps : List Piece) → raws_from free (word ∷ rest) ≡ Some rs → pieces_of rs ≡ Some ps → Says (word ∷ rest) ps
  free-is word rs ps h read = by_tests (bytes_eq word (codes "--")) (has_one_dash word) refl refl h
    where
      by_tests : (a b : Bool) → bytes_eq word (codes "--") ≡ a → has_one_dash word ≡ b
          → (if a then raws_from closed rest else (if b then None else by_long word (long_of word) (λ go. raws_from go rest))) ≡ Some rs → Says (word ∷ rest) ps
      by_tests true b i j m = let r = on closed rs ps m read in rw (same word (codes "--") i, r.1) (says_by.closed rest r.0)
      by_tests false true i j m = cc
      by_tests false false i j m = long-word-is word (long_of word) rs ps refl i j m read

  wants-is : (n : Valued) (word : List ℕ) (rs : List Raw) (ps : List Piece) → raws_from (wants n) (word ∷ rest) ≡ Some rs → pieces_of rs ≡ Some ps → Says (option_name n ∷ word ∷ rest) ps
  wants-is n word rs ps h read = by_tests (bytes_eq word (codes "--")) (has_one_dash word) (long_of word) refl refl refl h
    where
      value-full : (m : Valued) (p : Piece) → Gives m word p → IsFull word
      value-full Spare p g = g.0
      value-full AtMost p g = λ e. let is : number_of word ≡ Some g.0 = number-again word g.0 g.1 in let bad : number_of [] ≡ Some g.0 = subst (λ w. number_of w ≡ Some g.0) e is in cc
      value-full Library p g = g.0

      by_tests : (a b : Bool) (l : Option (List ℕ × Option (List ℕ))) → bytes_eq word (codes "--") ≡ a → has_one_dash word ≡ b → long_of word ≡ l
          → (if a then None else (if b then None else (if is_some l then None else more_raw (given n word) (raws_from free rest)))) ≡ Some rs → Says (option_name n ∷ word ∷ rest) ps
      by_tests true b l i j k m = cc
      by_tests false true l i j k m = cc
      by_tests false false (Some p) i j k m = cc
      by_tests false false None i j k m =
          let t = more-is (given n word) free rs ps m read in
          let g = given-is n word t.0 t.2 in
          rw t.4 (says_by.apart n word t.0 rest t.1 (plain-of word i j k (value-full n t.0 g)) g t.3)

  closed-is : (word : List ℕ) (rs : List Raw) (ps : List Piece) → raws_from closed (word ∷ rest) ≡ Some rs → pieces_of rs ≡ Some ps → Reads closed (word ∷ rest) ps
  closed-is word rs ps h read =
      let m = more-is (plain word) closed rs ps h read in
      let w = word-is word m.0 m.2 in
      let r = m.3 in
      (All-cons IsFull word rest w.0 r.0, m.4 ∙ rw (w.1, r.1) refl)

nothing-is : (ps : List Piece) → pieces_of [] ≡ Some ps → ps ≡ []
nothing-is ps h = cc

pub reads-is : (words : List (List ℕ)) → ReadsOn words
reads-is [] free rs ps h read = let is : [] ≡ rs = cc in rw (nothing-is ps (rw (← is) at read)) says_by.nothing
reads-is [] (wants n) rs ps h read = cc
reads-is [] closed rs ps h read = let is : [] ≡ rs = cc in (All-nil IsFull, nothing-is ps (rw (← is) at read))
reads-is (word ∷ rest) free rs ps h read = free-is rest (reads-is rest) word rs ps h read
reads-is (word ∷ rest) (wants n) rs ps h read = wants-is rest (reads-is rest) n word rs ps h read
reads-is (word ∷ rest) closed rs ps h read = closed-is rest (reads-is rest) word rs ps h read

-- what words say, they are read as, and the other way round
pub says-is : (words : List (List ℕ)) (ps : List Piece) → said words ≡ Some ps → Says words ps
says-is words ps h = let k = chained pieces_of (raws_from free words) ps h in reads-is words free k.0 ps k.1 k.2
