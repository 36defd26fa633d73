-- Asks, one after another.
use Rattle.std.proofs.Common.{◌≡◌, ℕ, zero, suc, ◌+◌, Bool, List, [], ◌∷◌, ◌++◌, length, map, drop, flat_map, refl, sym, ap, ◌∙◌, subst, arith, append-nil, append_assoc}
use Rattle.std.specs.List.{All}
use Rattle.std.specs.Prelude.{Result, Ok, Err, OnErr}
use Rattle.std.proofs.lemmas.List.{map-append}
use Rattle.std.proofs.lemmas.Grind.{flat_map-append}
use Rattle.std.proofs.lemmas.List.Elements.{All-append, All-push}
use Rattle.program_model.specs.declared.program.Program.{Program}
use Rattle.redex_outside.specs.declared.adviser.Ask.{Ask}
use Rattle.redex_outside.specs.Turns.{Turn, Weighed}
use Rattle.redex_outside.specs.Voices.{Voice}
use Rattle.redex_outside.specs.Panels.{AllAnswered, AskedAll, EachReplied, first_of, first_answers, other_answers}
use Rattle.splice.specs.declared.callee.Callee.{Callee}
use Rattle.inline_calls.specs.declared.site.Caller.{Caller}
use Rattle.inline_calls.specs.Accepting.{ask_of, IsAsked}
use Rattle.inline_calls.specs.Asked.{Row, answers_of, turn_of, agreed, agreed_count, AreAnswered, Asks, NoAsks}

-- ---- where memory does not suffice

pub on_err : {T E P : Type 0} (r : Result T E) → P → OnErr r P
on_err (Ok x) p = tt
on_err (Err x) p = p

-- ---- how many agree

pub agreed-append : (rows more : List Row) → agreed_count (rows ++ more) ≡ agreed_count rows + agreed_count more
agreed-append [] more = omega arith
agreed-append (r ∷ rows) more = omega (arith, agreed-append rows more)

-- ---- no ask

none_each : (count : ℕ) → All (λ (r : Row). length (answers_of r) ≡ count) []
none_each count k d lt = absurd (omega (arith, lt))

none_replied : (voices : List Voice) → EachReplied [] voices [] voices
none_replied [] = tt
none_replied (voice ∷ voices) = ((λ rest. refl), none_replied voices)

pub no_asks : (voices : List Voice) (answers : List Bool) (P : List Row → Type 0) → P [] → Asks voices voices answers answers P
no_asks voices answers P h = record {
  rows = [];
  answered = record { grown = sym (append-nil answers); each_adviser = none_each (length voices); replied = none_replied voices };
  holds = h;
}

-- the advisers and their answers are as before
pub unasked : {A : Type 0} (voice : A → Voice) (olds news : List A) (before after : List Bool) → news ≡ olds → after ≡ before → Asks (map voice olds) (map voice news) before after NoAsks
unasked {A = A} voice olds news before after e f =
    subst (λ (l : List A). Asks (map voice olds) (map voice l) before after NoAsks) (sym e)
    (subst (λ (l : List Bool). Asks (map voice olds) (map voice olds) before l NoAsks) (sym f) (no_asks (map voice olds) before NoAsks refl))

-- ---- one ask

-- each adviser has one answer
given_length : (ask : Ask) (olds : List Voice) (given : List Bool) (news : List Voice) → AllAnswered ask olds given news → length given ≡ length olds
given_length ask [] [] [] t = refl
given_length ask (old ∷ olds) (answer ∷ given) (new ∷ news) t = omega (arith, given_length ask olds given news t.1)
given_length ask [] (answer ∷ given) news t = absurd t
given_length ask [] [] (new ∷ news) t = absurd t
given_length ask (old ∷ olds) [] news t = absurd t
given_length ask (old ∷ olds) (answer ∷ given) [] t = absurd t

one_replied : (ask : Ask) (olds : List Voice) (given : List Bool) (news : List Voice) → AllAnswered ask olds given news → EachReplied (Weighed ask ∷ []) olds (given ∷ []) news
one_replied ask [] [] [] t = tt
one_replied ask (old ∷ olds) (answer ∷ given) (new ∷ news) t = ((λ rest. t.0 rest), one_replied ask olds given news t.1)
one_replied ask [] (answer ∷ given) news t = absurd t
one_replied ask [] [] (new ∷ news) t = absurd t
one_replied ask (old ∷ olds) [] news t = absurd t
one_replied ask (old ∷ olds) (answer ∷ given) [] t = absurd t

pub one_asked : (p : Program) (c : Caller) (n : ℕ) (y : Callee) (ask : Ask) (olds news : List Voice) (before after : List Bool) (all : Bool)
    → ask ≡ ask_of p c n y → AskedAll ask olds news before after all → Asks olds news before after (IsAsked p c n y all)
one_asked p c n y ask olds news before after all e t =
    let row : Row = record { ask = ask; answers = t.given } in
    record {
      rows = row ∷ [];
      answered = record {
        grown = t.grown ∙ ap (λ (given : List Bool). before ++ given) (sym (append-nil t.given));
        each_adviser = All-push (λ (r : Row). length (answers_of r) ≡ length olds) [] row (none_each (length olds)) (given_length ask olds t.given news t.answered);
        replied = one_replied ask olds t.given news t.answered;
      };
      holds = record { row = row; one = refl; ask = e; agreed = t.all_yes };
    }

-- ---- asks behind others

both_replied : (xs ys : List Turn) (olds mids news : List Voice) (rows more : List (List Bool)) → EachReplied xs olds rows mids → EachReplied ys mids more news → EachReplied (xs ++ ys) olds (rows ++ more) news
both_replied xs ys [] [] [] rows more r t = tt
both_replied xs ys (old ∷ olds) (mid ∷ mids) (new ∷ news) rows more r t = (
  (λ rest. ap old (append_assoc xs ys rest) ∙ r.0 (ys ++ rest) ∙ ap (λ (l : List Bool). first_answers rows ++ l) (t.0 rest) ∙ sym (append_assoc (first_answers rows) (first_answers more) (new rest))
      ∙ ap (λ (l : List Bool). l ++ new rest) (sym (map-append first_of rows more))),
  subst (λ (l : List (List Bool)). EachReplied (xs ++ ys) olds l news) (sym (map-append (drop 1) rows more)) (both_replied xs ys olds mids news (other_answers rows) (other_answers more) r.1 t.1),
)
both_replied xs ys [] (mid ∷ mids) news rows more r t = absurd r
both_replied xs ys (old ∷ olds) [] news rows more r t = absurd r
both_replied xs ys [] [] (new ∷ news) rows more r t = absurd t
both_replied xs ys (old ∷ olds) (mid ∷ mids) [] rows more r t = absurd t

-- there are as many advisers as before
still_asked : (xs : List Turn) (olds news : List Voice) (rows : List (List Bool)) → EachReplied xs olds rows news → length news ≡ length olds
still_asked xs [] [] rows t = refl
still_asked xs (old ∷ olds) (new ∷ news) rows t = omega (arith, still_asked xs olds news (other_answers rows) t.1)
still_asked xs [] (new ∷ news) rows t = absurd t
still_asked xs (old ∷ olds) [] rows t = absurd t

more_answered : (rows more : List Row) (olds mids news : List Voice) (x y z : List Bool) → AreAnswered rows olds mids x y → AreAnswered more mids news y z → AreAnswered (rows ++ more) olds news x z
more_answered rows more olds mids news x y z a b =
    let long : length mids ≡ length olds = still_asked (map turn_of rows) olds mids (map answers_of rows) a.replied in
    record {
      grown = b.grown ∙ ap (λ (l : List Bool). l ++ flat_map answers_of more) a.grown ∙ append_assoc x (flat_map answers_of rows) (flat_map answers_of more)
          ∙ ap (λ (l : List Bool). x ++ l) (sym (flat_map-append answers_of rows more));
      each_adviser = All-append (λ (r : Row). length (answers_of r) ≡ length olds) rows more a.each_adviser (subst (λ (k : ℕ). All (λ (r : Row). length (answers_of r) ≡ k) more) long b.each_adviser);
      replied =
          subst (λ (l : List Turn). EachReplied l olds (map answers_of (rows ++ more)) news) (sym (map-append turn_of rows more))
          (subst (λ (l : List (List Bool)). EachReplied (map turn_of rows ++ map turn_of more) olds l news) (sym (map-append answers_of rows more))
          (both_replied (map turn_of rows) (map turn_of more) olds mids news (map answers_of rows) (map answers_of more) a.replied b.replied));
    }

pub more_asks : (olds mids news : List Voice) (x y z : List Bool) (P Q R : List Row → Type 0) → ((rows more : List Row) → P rows → Q more → R (rows ++ more))
    → Asks olds mids x y P → Asks mids news y z Q → Asks olds news x z R
more_asks olds mids news x y z P Q R join a b = record {
  rows = a.rows ++ b.rows;
  answered = more_answered a.rows b.rows olds mids news x y z a.answered b.answered;
  holds = join a.rows b.rows a.holds b.holds;
}

-- no more asks
pub no_more : (olds mids news : List Voice) (x y z : List Bool) (P Q : List Row → Type 0) → ((rows : List Row) → P rows → Q rows)
    → Asks olds mids x y P → Asks mids news y z NoAsks → Asks olds news x z Q
no_more olds mids news x y z P Q so a b =
    more_asks olds mids news x y z P NoAsks Q (λ rows more h none. subst Q (sym (append-nil rows) ∙ ap (λ (l : List Row). rows ++ l) (sym none)) (so rows h)) a b

-- the same asks, said otherwise
pub so_asks : (olds news : List Voice) (x y : List Bool) (P Q : List Row → Type 0) → ((rows : List Row) → P rows → Q rows) → Asks olds news x y P → Asks olds news x y Q
so_asks olds news x y P Q so a = record { rows = a.rows; answered = a.answered; holds = so a.rows a.holds }
