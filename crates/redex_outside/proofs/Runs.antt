-- A panel's runs: it starts with none, and each telling and each ask goes on with one.
use Rattle.std.proofs.Common.{◌≡◌, All, length, ℕ, ◌+◌, Bool, List, [], ◌∷◌, ◌++◌, drop, refl, sym, ap, ◌∙◌, subst, arith, append_assoc, append-nil, length-append}
use Rattle.std.proofs.lemmas.List.{map-append, nil_from_length}
use Rattle.std.proofs.lemmas.List.Elements.{All-append, All-cons}
use Rattle.std.proofs.lemmas.Grind.{flat_map-append}
use Rattle.std.specs.List.{flat_map}
use Rattle.redex_outside.specs.declared.adviser.Ask.{Ask}
use Rattle.redex_outside.specs.declared.adviser.Key.{Key}
use Rattle.redex_outside.specs.Turns.{Turn, Told, Weighed, weigh_count}
use Rattle.redex_outside.specs.Voices.{Voice, HasReplied, OneForEach}
use Rattle.redex_outside.specs.Panels.{AllTold, AllAnswered, AskedAll, EachReplied, HasRun, first_of, first_answers, other_answers}

-- where an adviser has one reply for each ask, its answers are its replies at entry
pub replies_are : (turns : List Turn) (old : Voice) (answers : List Bool) (new : Voice) → HasReplied turns old answers new → OneForEach new → old turns ≡ answers
replies_are turns old answers new replied each =
    ap old (sym (append-nil turns)) ∙ replied [] ∙ ap (λ xs. answers ++ xs) (nil_from_length (new []) (each [])) ∙ append-nil answers

weigh_count-append : (xs ys : List Turn) → weigh_count (xs ++ ys) ≡ weigh_count xs + weigh_count ys
weigh_count-append [] ys = omega arith
weigh_count-append (Told key number text ∷ xs) ys = weigh_count-append xs ys
weigh_count-append (Weighed ask ∷ xs) ys = omega (arith, weigh_count-append xs ys)

none_replied : (voices : List Voice) → EachReplied [] voices [] voices
none_replied [] = tt
none_replied (voice ∷ voices) = ((λ rest. refl), none_replied voices)

none_wrong : (voices : List Voice) → All {X = List Bool} (λ row. length row ≡ length voices) []
none_wrong voices = λ k d h. absurd (omega arith)

-- no turns yet
pub run_start : (voices : List Voice) (answers : List Bool) → HasRun [] voices voices answers answers
run_start voices answers = record {
  rows = [];
  grown = sym (append-nil answers);
  each_ask = refl;
  each_adviser = none_wrong voices;
  replied = none_replied voices;
}

told_replied : (turns : List Turn) (turn : Turn) (olds mids news : List Voice) (rows : List (List Bool))
    → EachReplied turns olds rows mids → AllTold turn mids news → EachReplied (turns ++ turn ∷ []) olds rows news
told_replied turns turn [] [] [] rows r t = tt
told_replied turns turn (old ∷ olds) (mid ∷ mids) (new ∷ news) rows r t = (
  (λ rest. ap old (append_assoc turns (turn ∷ []) rest) ∙ r.0 (turn ∷ rest) ∙ ap (λ xs. first_answers rows ++ xs) (sym (t.0 rest))),
  told_replied turns turn olds mids news (other_answers rows) r.1 t.1,
)
told_replied turns turn [] (mid ∷ mids) news rows r t = absurd r
told_replied turns turn (old ∷ olds) [] news rows r t = absurd r
told_replied turns turn [] [] (new ∷ news) rows r t = absurd t
told_replied turns turn (old ∷ olds) (mid ∷ mids) [] rows r t = absurd t

-- all advisers were told something
pub run_told : (turns : List Turn) (key : Key) (number : ℕ) (text : List ℕ) (olds mids news : List Voice) (before after : List Bool)
    → HasRun turns olds mids before after → AllTold (Told key number text) mids news → HasRun (turns ++ Told key number text ∷ []) olds news before after
run_told turns key number text olds mids news before after run told = record {
  rows = run.rows;
  grown = run.grown;
  each_ask = omega (arith, run.each_ask, weigh_count-append turns (Told key number text ∷ []));
  each_adviser = run.each_adviser;
  replied = told_replied turns (Told key number text) olds mids news run.rows run.replied told;
}

asked_replied : (turns : List Turn) (ask : Ask) (olds mids news : List Voice) (rows : List (List Bool)) (given : List Bool)
    → EachReplied turns olds rows mids → AllAnswered ask mids given news → EachReplied (turns ++ Weighed ask ∷ []) olds (rows ++ given ∷ []) news
asked_replied turns ask [] [] [] rows [] r t = tt
asked_replied turns ask (old ∷ olds) (mid ∷ mids) (new ∷ news) rows (answer ∷ given) r t =
    let firsts : first_answers (rows ++ (answer ∷ given) ∷ []) ≡ first_answers rows ++ answer ∷ [] = map-append first_of rows ((answer ∷ given) ∷ []) in
    let others : other_answers (rows ++ (answer ∷ given) ∷ []) ≡ other_answers rows ++ given ∷ [] = map-append (drop 1) rows ((answer ∷ given) ∷ []) in
    let P : List (List Bool) → Type 0 = λ rest. EachReplied (turns ++ Weighed ask ∷ []) olds rest news in (
      (λ rest. ap old (append_assoc turns (Weighed ask ∷ []) rest) ∙ r.0 (Weighed ask ∷ rest) ∙ ap (λ xs. first_answers rows ++ xs) (t.0 rest)
          ∙ sym (append_assoc (first_answers rows) (answer ∷ []) (new rest)) ∙ ap (λ xs. xs ++ new rest) (sym firsts)),
      subst P (sym others) (asked_replied turns ask olds mids news (other_answers rows) given r.1 t.1),
    )
asked_replied turns ask [] [] news rows (answer ∷ given) r t = absurd t
asked_replied turns ask [] [] (new ∷ news) rows [] r t = absurd t
asked_replied turns ask [] (mid ∷ mids) news rows given r t = absurd r
asked_replied turns ask (old ∷ olds) [] news rows given r t = absurd r
asked_replied turns ask (old ∷ olds) (mid ∷ mids) [] rows [] r t = absurd t
asked_replied turns ask (old ∷ olds) (mid ∷ mids) [] rows (answer ∷ given) r t = absurd t
asked_replied turns ask (old ∷ olds) (mid ∷ mids) (new ∷ news) rows [] r t = absurd t

flat_last : (rows : List (List Bool)) (given : List Bool) → flat_map (λ row. row) (rows ++ given ∷ []) ≡ flat_map (λ row. row) rows ++ given
flat_last rows given = flat_map-append (λ row. row) rows (given ∷ []) ∙ ap (λ xs. flat_map (λ row. row) rows ++ xs) (append-nil given)

replied_length : (turns : List Turn) (olds : List Voice) (rows : List (List Bool)) (news : List Voice) → EachReplied turns olds rows news → length news ≡ length olds
replied_length turns [] rows [] r = refl
replied_length turns (old ∷ olds) rows (new ∷ news) r = omega (arith, replied_length turns olds (other_answers rows) news r.1)
replied_length turns [] rows (new ∷ news) r = absurd r
replied_length turns (old ∷ olds) rows [] r = absurd r

answered_length : (ask : Ask) (olds : List Voice) (given : List Bool) (news : List Voice) → AllAnswered ask olds given news → length given ≡ length olds
answered_length ask [] [] [] t = refl
answered_length ask (old ∷ olds) (answer ∷ given) (new ∷ news) t = omega (arith, answered_length ask olds given news t.1)
answered_length ask [] (answer ∷ given) news t = absurd t
answered_length ask [] [] (new ∷ news) t = absurd t
answered_length ask (old ∷ olds) [] news t = absurd t
answered_length ask (old ∷ olds) (answer ∷ given) [] t = absurd t

-- all advisers were asked
pub run_asked : (turns : List Turn) (ask : Ask) (olds mids news : List Voice) (before after after' : List Bool) (all : Bool)
    → HasRun turns olds mids before after → AskedAll ask mids news after after' all → HasRun (turns ++ Weighed ask ∷ []) olds news before after'
run_asked turns ask olds mids news before after after' all run asked = record {
  rows = run.rows ++ asked.given ∷ [];
  grown = asked.grown ∙ ap (λ xs. xs ++ asked.given) run.grown ∙ append_assoc before (flat_map (λ row. row) run.rows) asked.given
      ∙ ap (λ xs. before ++ xs) (sym (flat_last run.rows asked.given));
  each_ask = omega (arith, run.each_ask, length-append run.rows (asked.given ∷ []), weigh_count-append turns (Weighed ask ∷ []));
  each_adviser =
      All-append (λ row. length row ≡ length olds) run.rows (asked.given ∷ []) run.each_adviser
      (All-cons (λ row. length row ≡ length olds) asked.given []
      (answered_length ask mids asked.given news asked.answered ∙ replied_length turns olds run.rows mids run.replied) (none_wrong olds));
  replied = asked_replied turns ask olds mids news run.rows asked.given run.replied asked.answered;
}
