-- What a pattern matches is what the pieces of its word match.
use Rattle.std.proofs.Common.{◌≡◌, ℕ, zero, suc, ◌+◌, ◌-◌, ◌<◌, ◌≤◌, Bool, true, false, true≢false, List, [], ◌∷◌, ◌++◌, map, length, drop, take, refl, sym, ap, ◌∙◌, arith, Option, Some, None, append_assoc, nat_eq, codes, eqb-true, eq-eqb, get_or, set, replicate, inl, inr}
use Rattle.std.specs.Prelude.{◌&&◌, ◌||◌, ◌==◌, ◌≢◌, not, ◌/◌, ◌%◌, nat_lt, if◌then◌else◌, slice_index_or}
use Rattle.std.specs.Cmp.Lexicographic.{pointwise, bytes_decides}
use Rattle.std.proofs.lemmas.Bool.{cases_lt}
use Rattle.std.proofs.lemmas.List.{append-nil, length-append, take_at, get_or_at, drop_more, drop_all, get_or-replicate, get_or_past, length-replicate, get_or-set_same, get_or-set_other}
use Rattle.rule_text.specs.declared.pattern.Piece.{Piece}
use Rattle.rule_text.specs.declared.pattern.Piece.TheVariants as piece
use Rattle.rule_text.specs.declared.pattern.Named.{Named}
use Rattle.rule_text.specs.declared.pattern.NamePattern.{NamePattern}
use Rattle.rule_text.specs.Tokens.{Word}
use Rattle.rule_text.specs.Glob.{read_of, passes_of, begins_pair, behind_one, unit_then, one_then, star_then, piece_then, is_end, matches_of, behind_of, IsRow}
use Rattle.rule_text.specs.Pieces.{characters, exactly, units_of, pieces_of, is_many, ends_many, added, all_added, merged, fewest_of}
use Rattle.rule_text.specs.Related.{IsPatternOf}
use Rattle.rule_match.specs.Rows.{IsBlank, is_lone, is_lone_many}
use Rattle.std.specs.Prelude.{Result, IfOk}
use Rattle.std.proofs.lemmas.Result.{IfOk-weaker}

-- ---- the units in front

abbrev pub then_rest : Named → List Piece → Option (List ℕ) → Bool
then_rest named ps None = false
then_rest named ps (Some rest) = matches_of named ps rest

pub by_head : (named : Named) (head : List ℕ) (ps : List Piece) (text : List ℕ) → matches_of named (map (λ u. piece.Exactly u) head ++ ps) text ≡ then_rest named ps (behind_of named text head)
by_head named [] ps text = refl
by_head named (u ∷ us) ps [] = refl
by_head named (u ∷ us) ps (v ∷ text) = step (by_head named us ps text) (read_of named v == u)
  where
    step : matches_of named (map (λ u. piece.Exactly u) us ++ ps) text ≡ then_rest named ps (behind_of named text us) → (b : Bool) → (b && matches_of named (map (λ u. piece.Exactly u) us ++ ps) text) ≡ then_rest named ps (if b then behind_of named text us else None)
    step r true = r
    step r false = refl

-- ---- how short a text may be

behind_one_short : (u : ℕ) (text : List ℕ) → length (behind_one (u ∷ text)) ≤ length text
behind_one_short u [] = omega arith
behind_one_short u (v ∷ text) = step (begins_pair (u ∷ v ∷ text))
  where
    step : (b : Bool) → length (if b then drop 2 (u ∷ v ∷ text) else drop 1 (u ∷ v ∷ text)) ≤ length (v ∷ text)
    step true = omega arith
    step false = omega arith

both_parts : (a b : Bool) → (a && b) ≡ true → (a ≡ true) × (b ≡ true)
both_parts true b e = (refl, e)
both_parts false b e = cc

star_short : (passes : ℕ → Bool) (rest : List ℕ → Bool) (n : ℕ) → ((t : List ℕ) → rest t ≡ true → n ≤ length t) → (text : List ℕ) → star_then passes rest text ≡ true → n ≤ length text
star_short passes rest n h [] e = h [] e
star_short passes rest n h (u ∷ text) e = step (star_short passes rest n h text) (rest (u ∷ text)) refl e
  where
    step : (star_then passes rest text ≡ true → n ≤ length text) → (b : Bool) → rest (u ∷ text) ≡ b → (b || (passes u && star_then passes rest text)) ≡ true → n ≤ length (u ∷ text)
    step s true r e = h (u ∷ text) r
    step s false r e = let more = s (both_parts (passes u) (star_then passes rest text) e).1 in omega (arith, more)

pub long_enough : (named : Named) (ps : List Piece) (text : List ℕ) → matches_of named ps text ≡ true → fewest_of ps ≤ length text
long_enough named [] text e = omega arith
long_enough named (piece.Exactly u ∷ ps) [] e = cc
long_enough named (piece.Exactly u ∷ ps) (v ∷ text) e = let more = long_enough named ps text (both_parts _ _ e).1 in omega (arith, more)
long_enough named (piece.One ∷ ps) [] e = cc
long_enough named (piece.One ∷ ps) (v ∷ text) e =
    let more = long_enough named ps (behind_one (v ∷ text)) (both_parts (passes_of named v) _ e).1 in
    let short = behind_one_short v text in omega (arith, more, short)
long_enough named (piece.Star ∷ ps) text e = let more : fewest_of ps ≤ length text = star_short (passes_of named) (matches_of named ps) (fewest_of ps) (long_enough named ps) text e in omega (arith, more)
long_enough named (piece.Stars ∷ ps) text e = let more : fewest_of ps ≤ length text = star_short (λ _. true) (matches_of named ps) (fewest_of ps) (long_enough named ps) text e in omega (arith, more)

pub too_short : (named : Named) (ps : List Piece) (text : List ℕ) → length text < fewest_of ps → matches_of named ps text ≡ false
too_short named ps text h = step (matches_of named ps text) refl
  where
    step : (b : Bool) → matches_of named ps text ≡ b → b ≡ false
    step true e = let more = long_enough named ps text e in absurd (omega (arith, more, h))
    step false e = refl

pub stars_match : (text : List ℕ) → star_then (λ _. true) is_end text ≡ true
stars_match [] = refl
stars_match (u ∷ text) = stars_match text

-- ---- wildcards side by side

pub same_behind : (named : Named) (front ps qs : List Piece) → ((t : List ℕ) → matches_of named ps t ≡ matches_of named qs t) → (t : List ℕ) → matches_of named (front ++ ps) t ≡ matches_of named (front ++ qs) t
same_behind named [] ps qs h t = h t
same_behind named (piece.Exactly u ∷ front) ps qs h [] = refl
same_behind named (piece.Exactly u ∷ front) ps qs h (v ∷ t) = ap (λ b. (read_of named v == u) && b) (same_behind named front ps qs h t)
same_behind named (piece.One ∷ front) ps qs h [] = refl
same_behind named (piece.One ∷ front) ps qs h (v ∷ t) = ap (λ b. passes_of named v && b) (same_behind named front ps qs h (behind_one (v ∷ t)))
same_behind named (piece.Star ∷ front) ps qs h t = same_star (passes_of named) (matches_of named (front ++ ps)) (matches_of named (front ++ qs)) (same_behind named front ps qs h) t
  where
    same_star : (passes : ℕ → Bool) (f g : List ℕ → Bool) → ((t : List ℕ) → f t ≡ g t) → (t : List ℕ) → star_then passes f t ≡ star_then passes g t
    same_star passes f g e [] = e []
    same_star passes f g e (u ∷ t) = ap (λ b. b || (passes u && star_then passes f t)) (e (u ∷ t)) ∙ ap (λ b. g (u ∷ t) || (passes u && b)) (same_star passes f g e t)
same_behind named (piece.Stars ∷ front) ps qs h t = same_star (λ _. true) (matches_of named (front ++ ps)) (matches_of named (front ++ qs)) (same_behind named front ps qs h) t
  where
    same_star : (passes : ℕ → Bool) (f g : List ℕ → Bool) → ((t : List ℕ) → f t ≡ g t) → (t : List ℕ) → star_then passes f t ≡ star_then passes g t
    same_star passes f g e [] = e []
    same_star passes f g e (u ∷ t) = ap (λ b. b || (passes u && star_then passes f t)) (e (u ∷ t)) ∙ ap (λ b. g (u ∷ t) || (passes u && b)) (same_star passes f g e t)

abbrev any_then : (List ℕ → Bool) → List ℕ → Bool
any_then f t = star_then (λ _. true) f t

or_again : (a b : Bool) → (a || (a || b)) ≡ (a || b)
or_again true b = refl
or_again false b = refl

-- any characters that pass and then any are any
some_any : (passes : ℕ → Bool) (f : List ℕ → Bool) (t : List ℕ) → star_then passes (any_then f) t ≡ any_then f t
some_any passes f [] = refl
some_any passes f (u ∷ t) = ap (λ b. (f (u ∷ t) || any_then f t) || (passes u && b)) (some_any passes f t) ∙ step (f (u ∷ t)) (any_then f t) (passes u)
  where
    step : (a b c : Bool) → ((a || b) || (c && b)) ≡ (a || b)
    step true b c = refl
    step false true c = refl
    step false false true = refl
    step false false false = refl

-- any characters and then any that pass are any
any_some : (passes : ℕ → Bool) (f : List ℕ → Bool) (t : List ℕ) → any_then (star_then passes f) t ≡ any_then f t
any_some passes f [] = refl
any_some passes f (u ∷ t) = ap (λ b. (f (u ∷ t) || (passes u && star_then passes f t)) || b) (any_some passes f t) ∙ step (f (u ∷ t)) (passes u) (star_then passes f t) (any_then f t) (within t)
  where
    within : (t : List ℕ) → (star_then passes f t || any_then f t) ≡ any_then f t
    within [] = same (f [])
      where
        same : (a : Bool) → (a || a) ≡ a
        same true = refl
        same false = refl
    within (u ∷ t) = step (f (u ∷ t)) (passes u) (star_then passes f t) (any_then f t) (within t)
      where
        step : (a c s b : Bool) → (s || b) ≡ b → ((a || (c && s)) || (a || b)) ≡ (a || b)
        step true c s b e = refl
        step false true s b e = e
        step false false s b e = refl

    step : (a c s b : Bool) → (s || b) ≡ b → ((a || (c && s)) || b) ≡ (a || b)
    step true c s b e = refl
    step false true s b e = e
    step false false s b e = refl

-- ---- the pieces with one for wildcards side by side

abbrev is_single : Piece → Bool
is_single piece.Star = true
is_single p = false

abbrev starts_single : List Piece → Bool
starts_single [] = false
starts_single (p ∷ ps) = is_single p

-- no `*` stands beside `*`
abbrev pub are_apart : List Piece → Bool
are_apart [] = true
are_apart (p ∷ ps) = not (is_single p && starts_single ps) && are_apart ps

added_behind : (fs : List Piece) (x p : Piece) → added (fs ++ x ∷ []) p ≡ (if is_many p && is_many x then fs ++ piece.Stars ∷ [] else (fs ++ x ∷ []) ++ p ∷ [])
added_behind fs x p =
    let short : length (fs ++ x ∷ []) - 1 ≡ length fs = simp length-append (omega arith) in
    let last : slice_index_or (fs ++ x ∷ []) (length (fs ++ x ∷ []) - 1) piece.One ≡ x = ap (λ n. slice_index_or (fs ++ x ∷ []) n piece.One) short ∙ get_or_at fs x [] piece.One (length fs) refl in
    let front : take (length (fs ++ x ∷ []) - 1) (fs ++ x ∷ []) ≡ fs = ap (λ n. take n (fs ++ x ∷ [])) short ∙ take_at fs (x ∷ []) (length fs) refl in
    ap (λ y. if is_many p && is_many y then take (length (fs ++ x ∷ []) - 1) (fs ++ x ∷ []) ++ piece.Stars ∷ [] else (fs ++ x ∷ []) ++ p ∷ []) last
    ∙ ap (λ ys. if is_many p && is_many x then ys ++ piece.Stars ∷ [] else (fs ++ x ∷ []) ++ p ∷ []) front

added_first : (p : Piece) → added [] p ≡ p ∷ []
added_first (piece.Exactly u) = refl
added_first piece.One = refl
added_first piece.Star = refl
added_first piece.Stars = refl

-- two that are side by side match what `**` matches
joined : (named : Named) (x p : Piece) (ps : List Piece) → is_many p ≡ true → is_many x ≡ true → are_apart (x ∷ p ∷ ps) ≡ true → (t : List ℕ) → matches_of named (piece.Stars ∷ ps) t ≡ matches_of named (x ∷ p ∷ ps) t
joined named (piece.Exactly u) p ps ep ex e t = cc
joined named piece.One p ps ep ex e t = cc
joined named piece.Star (piece.Exactly u) ps ep ex e t = cc
joined named piece.Star piece.One ps ep ex e t = cc
joined named piece.Star piece.Star ps ep ex e t = cc
joined named piece.Star piece.Stars ps ep ex e t = sym (some_any (passes_of named) (matches_of named ps) t)
joined named piece.Stars (piece.Exactly u) ps ep ex e t = cc
joined named piece.Stars piece.One ps ep ex e t = cc
joined named piece.Stars piece.Star ps ep ex e t = sym (any_some (passes_of named) (matches_of named ps) t)
joined named piece.Stars piece.Stars ps ep ex e t = sym (some_any (λ _. true) (matches_of named ps) t)

apart_behind : (p : Piece) (ps : List Piece) → are_apart (p ∷ ps) ≡ true → are_apart ps ≡ true
apart_behind p ps e = (both_parts (not (is_single p && starts_single ps)) (are_apart ps) e).1

added_match : (named : Named) (fs : List Piece) (x : Piece) (ps : List Piece) → are_apart (x ∷ ps) ≡ true → (t : List ℕ) → matches_of named (all_added (fs ++ x ∷ []) ps) t ≡ matches_of named (fs ++ x ∷ ps) t
added_match named fs x [] e t = refl
added_match named fs x (p ∷ ps) e t = ap (λ front. matches_of named (all_added front ps) t) (added_behind fs x p)
    ∙ step (added_match named fs piece.Stars ps (apart_behind p ps (apart_behind x (p ∷ ps) e)) t) (added_match named (fs ++ x ∷ []) p ps (apart_behind x (p ∷ ps) e) t) (is_many p && is_many x) refl
  where
    step : matches_of named (all_added (fs ++ piece.Stars ∷ []) ps) t ≡ matches_of named (fs ++ piece.Stars ∷ ps) t → matches_of named (all_added ((fs ++ x ∷ []) ++ p ∷ []) ps) t ≡ matches_of named ((fs ++ x ∷ []) ++ p ∷ ps) t
        → (b : Bool) → (is_many p && is_many x) ≡ b → matches_of named (all_added (if b then fs ++ piece.Stars ∷ [] else (fs ++ x ∷ []) ++ p ∷ []) ps) t ≡ matches_of named (fs ++ x ∷ p ∷ ps) t
    step joins follows true many =
        let parts = both_parts (is_many p) (is_many x) many in
        joins
        ∙ same_behind named fs (piece.Stars ∷ ps) (x ∷ p ∷ ps) (joined named x p ps parts.0 parts.1 e) t
    step joins follows false many =
        follows
        ∙ ap (λ l. matches_of named l t) (append_assoc fs (x ∷ []) (p ∷ ps))

merged_match : (named : Named) (ps : List Piece) → are_apart ps ≡ true → (t : List ℕ) → matches_of named (merged ps) t ≡ matches_of named ps t
merged_match named [] e t = refl
merged_match named (p ∷ ps) e t = ap (λ front. matches_of named (all_added front ps) t) (added_first p) ∙ added_match named [] p ps e t

-- the pieces are `*` alone
alone_added : (fs : List Piece) (x : Piece) (ps : List Piece) → all_added (fs ++ x ∷ []) ps ≡ piece.Star ∷ [] → (fs ≡ []) × ((x ≡ piece.Star) × (ps ≡ []))
alone_added [] x [] e = (refl, (cc, refl))
alone_added (y ∷ []) x [] e = cc
alone_added (y ∷ z ∷ ys) x [] e = cc
alone_added fs x (p ∷ ps) e = step (alone_added fs piece.Stars ps) (alone_added (fs ++ x ∷ []) p ps) (is_many p && is_many x) (ap (λ front. all_added front ps) (sym (added_behind fs x p)) ∙ e)
  where
    never : (ys : List Piece) → ys ++ x ∷ [] ≡ [] → ⊥
    never [] s = cc
    never (y ∷ ys) s = cc

    step : (all_added (fs ++ piece.Stars ∷ []) ps ≡ piece.Star ∷ [] → (fs ≡ []) × ((piece.Stars ≡ piece.Star) × (ps ≡ [])))
        → (all_added ((fs ++ x ∷ []) ++ p ∷ []) ps ≡ piece.Star ∷ [] → (fs ++ x ∷ [] ≡ []) × ((p ≡ piece.Star) × (ps ≡ [])))
        → (b : Bool) → all_added (if b then fs ++ piece.Stars ∷ [] else (fs ++ x ∷ []) ++ p ∷ []) ps ≡ piece.Star ∷ [] → (fs ≡ []) × ((x ≡ piece.Star) × (p ∷ ps ≡ []))
    step f g true s = let is : piece.Stars ≡ piece.Star = (f s).1.0 in cc
    step f g false s = absurd (never fs (g s).0)

alone_merged : (ps : List Piece) → merged ps ≡ piece.Star ∷ [] → ps ≡ piece.Star ∷ []
alone_merged [] e = cc
alone_merged (p ∷ ps) e =
    let is = alone_added [] p ps (ap (λ front. all_added front ps) (sym (added_first p)) ∙ e) in
    ap (λ q. q ∷ ps) is.1.0 ∙ ap (λ qs. piece.Star ∷ qs) is.1.1

-- ---- the pieces of characters

exactly_apart : (c : ℕ) (ps : List Piece) → are_apart ps ≡ true → are_apart (exactly c ++ ps) ≡ true
exactly_apart c ps e = step (nat_lt c 65536)
  where
    step : (b : Bool) → are_apart (map (λ u. piece.Exactly u) (if b then c ∷ [] else (55296 + (c - 65536) / 1024 % 1024) ∷ (56320 + (c - 65536) % 1024) ∷ []) ++ ps) ≡ true
    step true = e
    step false = e

exactly_alone : (c : ℕ) → are_apart (exactly c) ≡ true
exactly_alone c = ap are_apart (sym (append-nil (exactly c))) ∙ exactly_apart c [] refl

exactly_starts : (c : ℕ) (ps : List Piece) → starts_single (exactly c ++ ps) ≡ false
exactly_starts c ps = step (nat_lt c 65536)
  where
    step : (b : Bool) → starts_single (map (λ u. piece.Exactly u) (if b then c ∷ [] else (55296 + (c - 65536) / 1024 % 1024) ∷ (56320 + (c - 65536) % 1024) ∷ []) ++ ps) ≡ false
    step true = refl
    step false = refl

-- a character other than `*` doesn't begin with one
other_starts : (d : ℕ) (cs : List ℕ) → nat_eq d 42 ≡ false → starts_single (pieces_of (d ∷ cs)) ≡ false
other_starts d [] e = step (nat_eq d 63) (nat_eq d 42) e
  where
    step : (b c : Bool) → c ≡ false → starts_single (if b then piece.One ∷ [] else if c then piece.Star ∷ [] else exactly d) ≡ false
    step true c s = refl
    step false true s = cc
    step false false s = ap starts_single (sym (append-nil (exactly d))) ∙ exactly_starts d []
other_starts d (k ∷ cs) e = step (nat_eq d 63) (nat_eq d 42) e
  where
    step : (b c : Bool) → c ≡ false → starts_single (if b then piece.One ∷ pieces_of (k ∷ cs) else if c then (if nat_eq k 42 then piece.Stars ∷ pieces_of cs else piece.Star ∷ pieces_of (k ∷ cs)) else exactly d ++ pieces_of (k ∷ cs)) ≡ false
    step true c s = refl
    step false true s = cc
    step false false s = exactly_starts d (pieces_of (k ∷ cs))

pieces_apart : (cs : List ℕ) → are_apart (pieces_of cs) ≡ true
pieces_apart [] = refl
pieces_apart (c ∷ []) = step (nat_eq c 63) (nat_eq c 42)
  where
    step : (a b : Bool) → are_apart (if a then piece.One ∷ [] else if b then piece.Star ∷ [] else exactly c) ≡ true
    step true b = refl
    step false true = refl
    step false false = exactly_alone c
pieces_apart (c ∷ d ∷ cs) = step (pieces_apart (d ∷ cs)) (pieces_apart cs) (nat_eq c 63) (nat_eq c 42) (nat_eq d 42) refl
  where
    step : are_apart (pieces_of (d ∷ cs)) ≡ true → are_apart (pieces_of cs) ≡ true → (a b k : Bool) → nat_eq d 42 ≡ k → are_apart (if a then piece.One ∷ pieces_of (d ∷ cs) else if b then (if k then piece.Stars ∷ pieces_of cs else piece.Star ∷ pieces_of (d ∷ cs)) else exactly c ++ pieces_of (d ∷ cs)) ≡ true
    step r s true b k e = r
    step r s false true true e = s
    step r s false true false e = ap (λ x. not x && are_apart (pieces_of (d ∷ cs))) (other_starts d cs e) ∙ r
    step r s false false k e = exactly_apart c (pieces_of (d ∷ cs)) r

never_none : (c : ℕ) (cs : List ℕ) → pieces_of (c ∷ cs) ≡ [] → ⊥
never_none c [] e = step (nat_eq c 63) (nat_eq c 42) (nat_lt c 65536) e
  where
    step : (a b l : Bool) → (if a then piece.One ∷ [] else if b then piece.Star ∷ [] else map (λ u. piece.Exactly u) (if l then c ∷ [] else (55296 + (c - 65536) / 1024 % 1024) ∷ (56320 + (c - 65536) % 1024) ∷ [])) ≡ [] → ⊥
    step true b l s = cc
    step false true l s = cc
    step false false true s = cc
    step false false false s = cc
never_none c (d ∷ cs) e = step (nat_eq c 63) (nat_eq c 42) (nat_eq d 42) (nat_lt c 65536) e
  where
    step : (a b k l : Bool) → (if a then piece.One ∷ pieces_of (d ∷ cs) else if b then (if k then piece.Stars ∷ pieces_of cs else piece.Star ∷ pieces_of (d ∷ cs)) else map (λ u. piece.Exactly u) (if l then c ∷ [] else (55296 + (c - 65536) / 1024 % 1024) ∷ (56320 + (c - 65536) % 1024) ∷ []) ++ pieces_of (d ∷ cs)) ≡ [] → ⊥
    step true b k l s = cc
    step false true true l s = cc
    step false true false l s = cc
    step false false k true s = cc
    step false false k false s = cc

alone_pieces : (cs : List ℕ) → pieces_of cs ≡ piece.Star ∷ [] → cs ≡ 42 ∷ []
alone_pieces [] e = cc
alone_pieces (c ∷ []) e = step (nat_eq c 63) (nat_eq c 42) (nat_lt c 65536) refl e
  where
    step : (a b l : Bool) → nat_eq c 42 ≡ b → (if a then piece.One ∷ [] else if b then piece.Star ∷ [] else map (λ u. piece.Exactly u) (if l then c ∷ [] else (55296 + (c - 65536) / 1024 % 1024) ∷ (56320 + (c - 65536) % 1024) ∷ [])) ≡ piece.Star ∷ [] → c ∷ [] ≡ 42 ∷ []
    step true b l is s = cc
    step false true l is s = ap (λ n. n ∷ []) (eqb-true c 42 is)
    step false false true is s = cc
    step false false false is s = cc
alone_pieces (c ∷ d ∷ cs) e = step (nat_eq c 63) (nat_eq c 42) (nat_eq d 42) (nat_lt c 65536) e
  where
    step : (a b k l : Bool) → (if a then piece.One ∷ pieces_of (d ∷ cs) else if b then (if k then piece.Stars ∷ pieces_of cs else piece.Star ∷ pieces_of (d ∷ cs)) else map (λ u. piece.Exactly u) (if l then c ∷ [] else (55296 + (c - 65536) / 1024 % 1024) ∷ (56320 + (c - 65536) % 1024) ∷ []) ++ pieces_of (d ∷ cs)) ≡ piece.Star ∷ [] → c ∷ d ∷ cs ≡ 42 ∷ []
    step true b k l s = cc
    step false true true l s = cc
    step false true false l s = absurd (never_none d cs (let none : pieces_of (d ∷ cs) ≡ [] = cc in none))
    step false false k true s = cc
    step false false k false s = cc

-- ---- a pattern and its word

pub pattern_matches : (named : Named) (p : NamePattern) (w : Word) (text : List ℕ) → IsPatternOf p w → matches_of named (pieces_of (characters w)) text ≡ then_rest named p.rest.items (behind_of named text p.head.items)
pattern_matches named p w text is =
    sym (merged_match named (pieces_of (characters w)) (pieces_apart (characters w)) text)
    ∙ ap (λ ps. matches_of named ps text) (sym is.pieces)
    ∙ by_head named p.head.items p.rest.items text

-- ---- `*` alone

lone_is : (ps : List Piece) → is_lone ps ≡ true → ps ≡ piece.Star ∷ []
lone_is [] e = cc
lone_is (piece.Star ∷ []) e = refl
lone_is (piece.Star ∷ p ∷ ps) e = cc
lone_is (piece.Exactly u ∷ ps) e = cc
lone_is (piece.One ∷ ps) e = cc
lone_is (piece.Stars ∷ ps) e = cc

abbrev pub is_alone : List ℕ → List Piece → Bool
is_alone [] ps = is_lone ps
is_alone (u ∷ us) ps = false

alone_is : (head : List ℕ) (rest : List Piece) → is_alone head rest ≡ true → map (λ u. piece.Exactly u) head ++ rest ≡ piece.Star ∷ []
alone_is [] rest e = lone_is rest e
alone_is (u ∷ us) rest e = cc

is_alone_of : (head : List ℕ) (rest : List Piece) → map (λ u. piece.Exactly u) head ++ rest ≡ piece.Star ∷ [] → is_alone head rest ≡ true
is_alone_of [] rest e = ap is_lone e
is_alone_of (u ∷ us) rest e = cc

same_test : (b c : Bool) → (b ≡ true → c ≡ true) → (c ≡ true → b ≡ true) → b ≡ c
same_test true c f g = sym (f refl)
same_test false true f g = g refl
same_test false false f g = refl

-- the pattern is `*` alone where its word's characters are
pub star_is : (p : NamePattern) (w : Word) → IsPatternOf p w → is_alone p.head.items p.rest.items ≡ pointwise nat_eq (characters w) (codes "*")
star_is p w is = same_test (is_alone p.head.items p.rest.items) (pointwise nat_eq (characters w) (codes "*"))
    (λ e. (bytes_decides (characters w) (codes "*")).1 (alone_pieces (characters w) (alone_merged (pieces_of (characters w)) (sym is.pieces ∙ alone_is p.head.items p.rest.items e))))
    (λ e. is_alone_of p.head.items p.rest.items (is.pieces ∙ ap (λ l. merged (pieces_of l)) ((bytes_decides (characters w) (codes "*")).0 e)))

pub star_here : (p : NamePattern) (w : Word) (b : Bool) → b ≡ is_lone p.rest.items → p.head.items ≡ [] → IsPatternOf p w → b ≡ pointwise nat_eq (characters w) (codes "*")
star_here p w b e h is = e ∙ sym (ap (λ l. is_alone l p.rest.items) h) ∙ star_is p w is

pub star_not : (p : NamePattern) (w : Word) → (p.head.items ≡ [] → ⊥) → IsPatternOf p w → false ≡ pointwise nat_eq (characters w) (codes "*")
star_not p w other is = none p.head.items other ∙ star_is p w is
  where
    none : (head : List ℕ) → (head ≡ [] → ⊥) → false ≡ is_alone head p.rest.items
    none [] d = absurd (d refl)
    none (u ∷ us) d = refl

-- what is behind the head decides
pub behind_matches : {E : Type 0} (named : Named) (p : NamePattern) (w : Word) (text rest : List ℕ) (r : Result Bool E) → behind_of named text p.head.items ≡ Some rest → IfOk r (λ b. b ≡ matches_of named p.rest.items rest) → IsPatternOf p w → IfOk r (λ b. b ≡ matches_of named (pieces_of (characters w)) text)
behind_matches named p w text rest r e h is =
    let same : matches_of named (pieces_of (characters w)) text ≡ matches_of named p.rest.items rest = pattern_matches named p w text is ∙ ap (then_rest named p.rest.items) e in
    IfOk-weaker r (λ b. b ≡ matches_of named p.rest.items rest) (λ b. b ≡ matches_of named (pieces_of (characters w)) text) (λ b f. f ∙ sym same) h

pub behind_short : (named : Named) (p : NamePattern) (w : Word) (text rest : List ℕ) → behind_of named text p.head.items ≡ Some rest → length rest < p.fewest → IsPatternOf p w → false ≡ matches_of named (pieces_of (characters w)) text
behind_short named p w text rest e h is =
    let few = is.fewest in
    sym (pattern_matches named p w text is ∙ ap (then_rest named p.rest.items) e ∙ too_short named p.rest.items rest (omega (arith, h, few)))

pub behind_none : (named : Named) (p : NamePattern) (w : Word) (text : List ℕ) → behind_of named text p.head.items ≡ None → IsPatternOf p w → false ≡ matches_of named (pieces_of (characters w)) text
behind_none named p w text e is = sym (pattern_matches named p w text is ∙ ap (then_rest named p.rest.items) e)

-- ---- the ends of loops

pub behind_out : (named : Named) (text head rest : List ℕ) (i : ℕ) → behind_of named text head ≡ behind_of named rest (drop i head) → i < length head → length rest < 1 → behind_of named text head ≡ None
behind_out named text head rest i inv l h = inv ∙ ap (behind_of named rest) (drop_more head i 0 l) ∙ none rest h
  where
    none : (t : List ℕ) → length t < 1 → behind_of named t (get_or head i 0 ∷ drop (i + 1) head) ≡ None
    none [] g = refl
    none (u ∷ us) g = absurd (omega arith)

pub stars_lone : (named : Named) (ps : List Piece) (text : List ℕ) → is_lone_many ps ≡ true → true ≡ matches_of named ps text
stars_lone named [] text e = cc
stars_lone named (piece.Stars ∷ []) text e = sym (stars_match text)
stars_lone named (piece.Stars ∷ p ∷ ps) text e = cc
stars_lone named (piece.Star ∷ ps) text e = cc
stars_lone named (piece.Exactly u ∷ ps) text e = cc
stars_lone named (piece.One ∷ ps) text e = cc

pub none_ends : (named : Named) (ps : List Piece) (text : List ℕ) (b : Bool) → ps ≡ [] → b ≡ is_end text → b ≡ matches_of named ps text
none_ends named ps text b e h = h ∙ sym (ap (λ l. matches_of named l text) e)

pub blank_is : (row : List Bool) (n : ℕ) → row ≡ replicate n false → IsBlank row
blank_is row n e = record { at = λ k. ap (λ l. get_or l k false) e ∙ elim (cases_lt k n) [ inl l ↦ get_or-replicate n k false false l | inr g ↦ get_or_past (replicate n false) k false (let z = length-replicate n false in omega (arith, z, g)) ] }

pub rows_begin : (named : Named) (ps : List Piece) (text : List ℕ) (row : List Bool) → IsBlank row → length row ≡ length text + 1 → IsRow (matches_of named (drop (length ps) ps)) text (set row (length text) true)
rows_begin named ps text row blank size = record {
  at = λ k h. elim (cases_lt k (length text)) [
    | inl l ↦ get_or-set_other row (length text) k true false (λ s. omega (arith, l, s)) ∙ blank.at k ∙ sym (ends k (drop_more text k 0 l))
    | inr g ↦ let s : k ≡ length text = omega (arith, h, g) in ap (λ j. get_or (set row (length text) true) j false) s ∙ get_or-set_same row (length text) true false (omega (arith, size)) ∙ sym (here k (drop_all k text g))
  ];
}
  where
    none : drop (length ps) ps ≡ []
    none = drop_all (length ps) ps (omega arith)

    ends : (k : ℕ) → drop k text ≡ get_or text k 0 ∷ drop (k + 1) text → matches_of named (drop (length ps) ps) (drop k text) ≡ false
    ends k e = ap (λ l. matches_of named l (drop k text)) none ∙ ap is_end e

    here : (k : ℕ) → drop k text ≡ [] → matches_of named (drop (length ps) ps) (drop k text) ≡ true
    here k e = ap (λ l. matches_of named l (drop k text)) none ∙ ap is_end e
