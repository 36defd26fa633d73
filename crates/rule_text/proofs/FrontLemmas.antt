-- Comments and runs at the front of a text.
use Rattle.std.proofs.Common.{◌≡◌, ℕ, suc, ◌+◌, Bool, true, false, not, cond, List, [], ◌∷◌, ◌++◌, length, take, drop, nat_eq, nat_lt, Some, None, ◌-◌, ◌≤◌, slice_index_or, refl, sym, ap, subst, ◌∙◌, arith, eqb-true, unwrap_or, lt-ltb}
use Rattle.std.specs.List.{prefix_len}
use Rattle.std.proofs.lemmas.List.{append-nil, append_assoc, take_all, length-drop}
use Rattle.rule_text.specs.Bytes.{in_run, in_line, is_mark, is_blank, front_len}
use Rattle.rule_text.specs.Tokens.{Word, tokens_from, of_run, of_mark, next_line}
use Rattle.rule_text.specs.Fronts.{line_ends, IsBehindLine, IsBehindGap, IsBehindWord}

one_later : (b : Bool) (m n : ℕ) → unwrap_or (cond b (Some (1 + m)) None) (suc n) ≡ suc (unwrap_or (cond b (Some m) None) n)
one_later true m n = omega arith
one_later false m n = refl

one_more : (m n : ℕ) → unwrap_or (cond (nat_lt (1 + m) (suc n)) (Some (1 + m)) None) (suc n) ≡ suc (unwrap_or (cond (nat_lt m n) (Some m) None) n)
one_more m n =
    let e : nat_lt (1 + m) (suc n) ≡ nat_lt m n = grind arith in
    rw e (one_later (nat_lt m n) m n)

none_first : (n : ℕ) → unwrap_or (cond (nat_lt 0 (suc n)) (Some 0) None) (suc n) ≡ 0
none_first n =
    let e : nat_lt 0 (suc n) ≡ true = lt-ltb 0 (suc n) (omega arith) in
    rw e refl

pub front_more : (p : ℕ → Bool) (c : ℕ) (cs : List ℕ) → p c ≡ true → front_len p (c ∷ cs) ≡ suc (front_len p cs)
front_more p c cs e = rw e (one_more (prefix_len (λ x. not (not (p x))) cs) (length cs))

pub front_none : (p : ℕ → Bool) (c : ℕ) (cs : List ℕ) → p c ≡ false → front_len p (c ∷ cs) ≡ 0
front_none p c cs e = rw e (none_first (length cs))

nat_eq-other : (c : ℕ) → nat_eq 10 c ≡ nat_eq c 10
nat_eq-other c = grind arith

-- what is behind a comment begins at the end of its line
abbrev pub IsBehindComment : List ℕ → Type 0
IsBehindComment cs = (line : ℕ) → tokens_from line true [] cs ≡ tokens_from line false [] (drop (front_len in_line cs) cs)

comment_end : (cs : List ℕ) → IsBehindComment (10 ∷ cs)
comment_end cs line = rw (front_none in_line 10 cs refl) refl

comment_next : (c : ℕ) (cs : List ℕ) (b : Bool) → nat_eq c 10 ≡ b → IsBehindComment cs → IsBehindComment (c ∷ cs)
comment_next c cs true e more = subst (λ x. IsBehindComment (x ∷ cs)) (sym (eqb-true c 10 e)) (comment_end cs)
comment_next c cs false e more = λ line. rw (front_more in_line c cs (ap not e), e) (more line)

pub comment_front : (cs : List ℕ) → IsBehindComment cs
comment_front [] line = refl
comment_front (c ∷ cs) line = comment_next c cs (nat_eq c 10) refl (comment_front cs) line

abbrev HasEndsBehind : List ℕ → Type 0
HasEndsBehind cs = line_ends cs ≡ line_ends (drop (front_len in_line cs) cs)

ends_next : (c : ℕ) (cs : List ℕ) (b : Bool) → nat_eq c 10 ≡ b → HasEndsBehind cs → HasEndsBehind (c ∷ cs)
ends_next c cs true e more = rw (front_none in_line c cs (ap not e)) refl
ends_next c cs false e more = rw (front_more in_line c cs (ap not e), nat_eq-other c, e) more

pub comment_ends : (cs : List ℕ) → HasEndsBehind cs
comment_ends [] = refl
comment_ends (c ∷ cs) = ends_next c cs (nat_eq c 10) refl (comment_ends cs)

-- one byte of a run, and another
step_run : (line : ℕ) (r : Word) (c : ℕ) (cs : List ℕ) → in_run c ≡ true → tokens_from line false r (c ∷ cs) ≡ tokens_from line false (r ++ c ∷ []) cs
step_run line r c cs e = ap (λ b. elim b [
  | true ↦ tokens_from line false (r ++ c ∷ []) cs
  | false ↦ of_run line r ++ (of_mark line c ++ tokens_from (next_line line c) (nat_eq c 35) [] cs)
]) e

step_other : (line : ℕ) (r : Word) (c : ℕ) (cs : List ℕ) → in_run c ≡ false → tokens_from line false r (c ∷ cs) ≡ of_run line r ++ (of_mark line c ++ tokens_from (next_line line c) (nat_eq c 35) [] cs)
step_other line r c cs e = ap (λ b. elim b [
  | true ↦ tokens_from line false (r ++ c ∷ []) cs
  | false ↦ of_run line r ++ (of_mark line c ++ tokens_from (next_line line c) (nat_eq c 35) [] cs)
]) e

-- a run goes as far as its bytes
abbrev IsRunFront : List ℕ → Type 0
IsRunFront cs = (line : ℕ) (r : Word) → tokens_from line false r cs ≡ of_run line (r ++ take (front_len in_run cs) cs) ++ tokens_from line false [] (drop (front_len in_run cs) cs)

run_next : (c : ℕ) (cs : List ℕ) (b : Bool) → in_run c ≡ b → IsRunFront cs → IsRunFront (c ∷ cs)
run_next c cs true e more line r =
    let n : ℕ = front_len in_run cs in
    rw (front_more in_run c cs e) (step_run line r c cs e ∙ more line (r ++ c ∷ []) ∙ ap (λ w. of_run line w ++ tokens_from line false [] (drop n cs)) (append_assoc r (c ∷ []) (take n cs)))
run_next c cs false e more line r = rw (front_none in_run c cs e, append-nil r) (step_other line r c cs e ∙ ap (λ ts. of_run line r ++ ts) (sym (step_other line [] c cs e)))

pub run_front : (cs : List ℕ) → IsRunFront cs
run_front [] line r = rw (append-nil r, append-nil (of_run line r)) refl
run_front (c ∷ cs) line r = run_next c cs (in_run c) refl (run_front cs) line r

abbrev HasRunEnds : List ℕ → Type 0
HasRunEnds cs = line_ends cs ≡ line_ends (drop (front_len in_run cs) cs)

no_feed : (c : ℕ) → in_run c ≡ true → nat_eq c 10 ≡ false
no_feed c e = grind arith

run_ends_next : (c : ℕ) (cs : List ℕ) (b : Bool) → in_run c ≡ b → HasRunEnds cs → HasRunEnds (c ∷ cs)
run_ends_next c cs true e more = rw (front_more in_run c cs e, nat_eq-other c, no_feed c e) more
run_ends_next c cs false e more = rw (front_none in_run c cs e) refl

pub run_ends : (cs : List ℕ) → HasRunEnds cs
run_ends [] = refl
run_ends (c ∷ cs) = run_ends_next c cs (in_run c) refl (run_ends cs)

-- ---- what stands at the front

pub line_first : (rest : List ℕ) → IsBehindLine (10 ∷ rest) rest
line_first rest = record { tokens = λ line. refl; ends = refl }

pub blank_first : (c : ℕ) (rest : List ℕ) → nat_eq c 10 ≡ false → is_blank c ≡ true → in_run c ≡ false → is_mark c ≡ false → nat_eq c 35 ≡ false → IsBehindGap (c ∷ rest) rest
blank_first c rest feed blank run mark hash = record {
  tokens = λ line. step_other line [] c rest run ∙ rw (mark, feed, hash) refl;
  ends = rw (nat_eq-other c, feed) refl;
}

pub comment_first : (rest : List ℕ) → IsBehindGap (35 ∷ rest) (drop (front_len in_line rest) rest)
comment_first rest = record {
  tokens = λ line. comment_front rest line;
  ends = comment_ends rest;
}

pub mark_first : (c : ℕ) (rest : List ℕ) → nat_eq c 10 ≡ false → in_run c ≡ false → is_mark c ≡ true → nat_eq c 35 ≡ false → IsBehindWord (c ∷ rest) (c ∷ []) rest
mark_first c rest feed run mark hash = record {
  tokens = λ line. step_other line [] c rest run ∙ rw (mark, feed, hash) refl;
  ends = rw (nat_eq-other c, feed) refl;
}

pub run_first : (c : ℕ) (rest : List ℕ) → in_run c ≡ true → IsBehindWord (c ∷ rest) (c ∷ take (front_len in_run rest) rest) (drop (front_len in_run rest) rest)
run_first c rest run = record {
  tokens = λ line. step_run line [] c rest run ∙ run_front rest line (c ∷ []);
  ends = rw (nat_eq-other c, no_feed c run) (run_ends rest);
}

-- ---- the same, by places of the text

tail_of : (c : ℕ) (cs : List ℕ) → take (length (c ∷ cs) - 1) (drop 1 (c ∷ cs)) ≡ cs
tail_of c cs = ap (λ n. take n cs) (omega arith) ∙ take_all (length cs) cs (omega arith)

rest_of : (n : ℕ) (cs : List ℕ) → take (length cs - n) (drop n cs) ≡ drop n cs
rest_of n cs = take_all (length cs - n) (drop n cs) (rw (length-drop n cs) (omega arith))

pub comment_at : (text : List ℕ) (n : ℕ) → 1 ≤ length text → slice_index_or text 0 0 ≡ 35
    → n ≡ front_len in_line (take (length text - 1) (drop 1 text))
    → IsBehindGap text (take (length (take (length text - 1) (drop 1 text)) - n) (drop n (take (length text - 1) (drop 1 text))))
comment_at [] n some first is =
    let no : ⊥ = omega arith in
    absurd no
comment_at (c ∷ cs) n some first is =
    rw (tail_of c cs, rest_of n cs, is, tail_of c cs) (subst (λ x. IsBehindGap (x ∷ cs) (drop (front_len in_line cs) cs)) (sym first) (comment_first cs))

pub run_at : (text : List ℕ) (n : ℕ) → 1 ≤ length text → in_run (slice_index_or text 0 0) ≡ true
    → n ≡ front_len in_run (take (length text - 1) (drop 1 text))
    → IsBehindWord text (take (n + 1) text) (take (length (take (length text - 1) (drop 1 text)) - n) (drop n (take (length text - 1) (drop 1 text))))
run_at [] n some first is =
    let no : ⊥ = omega arith in
    absurd no
run_at (c ∷ cs) n some first is =
    let more : n + 1 ≡ suc n = omega arith in
    rw (tail_of c cs, rest_of n cs, more, is, tail_of c cs) (run_first c cs first)
