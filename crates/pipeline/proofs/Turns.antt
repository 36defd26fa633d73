-- Turns that advisers took, some behind others.
use Rattle.std.proofs.Common.{◌≡◌, ℕ, zero, suc, ◌+◌, ◌<◌, ◌≤◌, Bool, true, false, if◌then◌else◌, List, [], ◌∷◌, ◌++◌, length, map, drop, take, get_or, refl, sym, ap, ◌∙◌, subst, arith, append-nil, append_assoc, length-append, All}
use Rattle.std.specs.List.{flat_map}
use Rattle.std.specs.Prelude.{Result, Ok, Err, OnErr}
use Rattle.std.proofs.lemmas.Grind.{flat_map-append}
use Rattle.std.proofs.lemmas.List.{map-append, take_all, take-append-drop}
use Rattle.std.proofs.lemmas.List.Elements.{All-append, All-map}
use Rattle.program_model.specs.declared.program.Method.{Method}
use Rattle.program_model.specs.declared.program.Class.{Class}
use Rattle.program_model.specs.declared.program.Program.{Program}
use Rattle.redex_outside.specs.declared.adviser.Ask.{Ask}
use Rattle.redex_outside.specs.Turns.{Turn, Told, Weighed, weigh_count}
use Rattle.redex_outside.specs.Voices.{Voice}
use Rattle.redex_outside.specs.Panels.{EachReplied, HasRun, first_of, first_answers, other_answers}
use Rattle.redex_outside.proofs.Runs.{run_start}
use Rattle.call_graph.specs.declared.live_set.LiveSet.{LiveSet}
use Rattle.inline_calls.specs.Asked.{Row, answers_of, turn_of, AreAnswered}
use Rattle.pipeline.specs.Asks.{is_asked}
use Rattle.pipeline.specs.Replies.{ask_about, turns_one, HaveTaken, AreFirstOf}
use Rattle.pipeline.proofs.AskLemmas.{flat_next}

-- ---- where memory does not suffice

pub on_err : {T E P : Type 0} (r : Result T E) → P → OnErr r P
on_err (Ok x) p = tt
on_err (Err x) p = p

-- ---- some turns behind others

weigh_count-append : (xs ys : List Turn) → weigh_count (xs ++ ys) ≡ weigh_count xs + weigh_count ys
weigh_count-append [] ys = omega arith
weigh_count-append (Told key number text ∷ xs) ys = weigh_count-append xs ys
weigh_count-append (Weighed ask ∷ xs) ys = omega (arith, weigh_count-append xs ys)

both_replied : (xs ys : List Turn) (olds mids news : List Voice) (rows more : List (List Bool)) → EachReplied xs olds rows mids → EachReplied ys mids more news → EachReplied (xs ++ ys) olds (rows ++ more) news
both_replied xs ys [] [] [] rows more r t = tt
both_replied xs ys (old ∷ olds) (mid ∷ mids) (new ∷ news) rows more r t = (
  (λ rest. ap old (append_assoc xs ys rest) ∙ r.0 (ys ++ rest) ∙ ap (λ (l : List Bool). first_answers rows ++ l) (t.0 rest) ∙ sym (append_assoc (first_answers rows) (first_answers more) (new rest))
      ∙ ap (λ (l : List Bool). l ++ new rest) (sym (map-append first_of rows more))),
  subst (λ (l : List (List Bool)). EachReplied (xs ++ ys) olds l news) (sym (map-append (drop 1) rows more)) (both_replied xs ys olds mids news (other_answers rows) (other_answers more) r.1 t.1),
)
both_replied xs ys [] (mid ∷ mids) news rows more r t = absurd r
both_replied xs ys (old ∷ olds) [] news rows more r t = absurd r
both_replied xs ys [] [] (new ∷ news) rows more r t = absurd t
both_replied xs ys (old ∷ olds) (mid ∷ mids) [] rows more r t = absurd t

-- there are as many advisers as before
still_as_many : (xs : List Turn) (olds news : List Voice) (rows : List (List Bool)) → EachReplied xs olds rows news → length news ≡ length olds
still_as_many xs [] [] rows t = refl
still_as_many xs (old ∷ olds) (new ∷ news) rows t = omega (arith, still_as_many xs olds news (other_answers rows) t.1)
still_as_many xs [] (new ∷ news) rows t = absurd t
still_as_many xs (old ∷ olds) [] rows t = absurd t

abbrev flat : List (List Bool) → List Bool
flat rows = flat_map (λ row. row) rows

pub more_run : (ts us : List Turn) (olds mids news : List Voice) (x y z : List Bool) → HasRun ts olds mids x y → HasRun us mids news y z → HasRun (ts ++ us) olds news x z
more_run ts us olds mids news x y z a b = record {
  rows = a.rows ++ b.rows;
  grown = b.grown ∙ ap (λ (l : List Bool). l ++ flat b.rows) a.grown ∙ append_assoc x (flat a.rows) (flat b.rows) ∙ ap (λ (l : List Bool). x ++ l) (sym (flat_map-append (λ row. row) a.rows b.rows));
  each_ask = omega (arith, a.each_ask, b.each_ask, length-append a.rows b.rows, weigh_count-append ts us);
  each_adviser = All-append (λ row. length row ≡ length olds) a.rows b.rows a.each_adviser
      (subst (λ (k : ℕ). All (λ row. length row ≡ k) b.rows) (still_as_many ts olds mids a.rows a.replied) b.each_adviser);
  replied = both_replied ts us olds mids news a.rows b.rows a.replied b.replied;
}

-- no more turns
pub run_on : (ts : List Turn) (olds mids news : List Voice) (x y z : List Bool) → HasRun ts olds mids x y → HasRun [] mids news y z → HasRun ts olds news x z
run_on ts olds mids news x y z a b = subst (λ (l : List Turn). HasRun l olds news x z) (append-nil ts) (more_run ts [] olds mids news x y z a b)

-- ---- turns for which something holds

pub taken_so : (P Q : List Turn → Type 0) (olds news : List Voice) (x y : List Bool) → ((ts : List Turn) → P ts → Q ts) → HaveTaken P olds news x y → HaveTaken Q olds news x y
taken_so P Q olds news x y so h = record { turns = h.turns; run = h.run; holds = so h.turns h.holds }

pub taken_by : (P : List Turn → Type 0) (ts : List Turn) (olds news : List Voice) (x y : List Bool) → HasRun ts olds news x y → P ts → HaveTaken P olds news x y
taken_by P ts olds news x y run h = record { turns = ts; run = run; holds = h }

-- the advisers and their answers are as before
pub none_run : {A : Type 0} (voice : A → Voice) (olds news : List A) (before after : List Bool) → news ≡ olds → after ≡ before → HasRun [] (map voice olds) (map voice news) before after
none_run {A = A} voice olds news before after e f =
    subst (λ (l : List A). HasRun [] (map voice olds) (map voice l) before after) (sym e)
    (subst (λ (l : List Bool). HasRun [] (map voice olds) (map voice olds) before l) (sym f) (run_start (map voice olds) before))

pub first_none : (ts : List Turn) → AreFirstOf ts []
first_none ts = record { left = ts; all = refl }

pub first_all : (ts : List Turn) → AreFirstOf ts ts
first_all ts = record { left = []; all = sym (append-nil ts) }

-- ---- asks about methods, one after another

-- one ask, and no turn before it
pub one_run : (ask about : Ask) (olds news : List Voice) (x y : List Bool) → ask ≡ about → HasRun ([] ++ Weighed ask ∷ []) olds news x y → HasRun (Weighed about ∷ []) olds news x y
one_run ask about olds news x y e run = subst (λ (a : Ask). HasRun (Weighed a ∷ []) olds news x y) e run

module _ (s : LiveSet) (p : Program) (c : Class) (m : Method) (olds news : List Voice) (x y : List Bool) where
  pub is_run : is_asked s m ≡ true → HasRun (Weighed (ask_about p c m) ∷ []) olds news x y → HasRun (turns_one s p c m) olds news x y
  is_run e run = subst (λ b. HasRun (if b then Weighed (ask_about p c m) ∷ [] else []) olds news x y) (sym e) run

  pub not_run : is_asked s m ≡ false → HasRun [] olds news x y → HasRun (turns_one s p c m) olds news x y
  not_run e run = subst (λ b. HasRun (if b then Weighed (ask_about p c m) ∷ [] else []) olds news x y) (sym e) run

module _ {A : Type 0} (f : A → List Turn) (xs : List A) (olds mids news : List Voice) (x y z : List Bool) where
  -- the step of a loop
  pub item_run : (i : ℕ) (d a : A) → i < length xs → a ≡ get_or xs i d → HasRun (flat_map f (take i xs)) olds mids x y → HasRun (f a) mids news y z → HasRun (flat_map f (take (i + 1) xs)) olds news x z
  item_run i d a lt is so one =
      subst (λ (l : List Turn). HasRun l olds news x z) (sym (flat_next f xs i d lt))
      (more_run (flat_map f (take i xs)) (f (get_or xs i d)) olds mids news x y z so (subst (λ (b : A). HasRun (f b) mids news y z) is one))

  -- a part of a step
  pub item_begun : (i : ℕ) (d a : A) → i < length xs → a ≡ get_or xs i d → HasRun (flat_map f (take i xs)) olds mids x y → HaveTaken (AreFirstOf (f a)) mids news y z → HaveTaken (AreFirstOf (flat_map f xs)) olds news x z
  item_begun i d a lt is so part =
      let next : flat_map f (take (i + 1) xs) ≡ flat_map f (take i xs) ++ f a = flat_next f xs i d lt ∙ ap (λ (b : A). flat_map f (take i xs) ++ f b) (sym is) in
      let rest : flat_map f (take (i + 1) xs) ++ flat_map f (drop (i + 1) xs) ≡ flat_map f xs =
      sym (flat_map-append f (take (i + 1) xs) (drop (i + 1) xs)) ∙ ap (flat_map f) (take-append-drop (i + 1) xs) in
      let behind : List Turn = part.holds.left ++ flat_map f (drop (i + 1) xs) in
      record {
        turns = flat_map f (take i xs) ++ part.turns;
        run = more_run (flat_map f (take i xs)) part.turns olds mids news x y z so part.run;
        holds = record {
          left = behind;
          all = sym rest ∙ ap (λ (l : List Turn). l ++ flat_map f (drop (i + 1) xs)) (next ∙ ap (λ (l : List Turn). flat_map f (take i xs) ++ l) part.holds.all)
              ∙ append_assoc (flat_map f (take i xs)) (part.turns ++ part.holds.left) (flat_map f (drop (i + 1) xs))
              ∙ ap (λ (l : List Turn). flat_map f (take i xs) ++ l) (append_assoc part.turns part.holds.left (flat_map f (drop (i + 1) xs)))
              ∙ sym (append_assoc (flat_map f (take i xs)) part.turns behind);
        };
      }

-- its end
pub all_run : {A : Type 0} (f : A → List Turn) (xs : List A) (olds news : List Voice) (x y : List Bool) (i : ℕ) → length xs ≤ i → HasRun (flat_map f (take i xs)) olds news x y → HasRun (flat_map f xs) olds news x y
all_run f xs olds news x y i le run = subst (λ l. HasRun (flat_map f l) olds news x y) (take_all i xs le) run

-- ---- asks about calls

each_row : (rows : List Row) → flat (map answers_of rows) ≡ flat_map answers_of rows
each_row [] = refl
each_row (r ∷ rows) = ap (λ (l : List Bool). answers_of r ++ l) (each_row rows)

each_weighed : (rows : List Row) → length (map answers_of rows) ≡ weigh_count (map turn_of rows)
each_weighed [] = refl
each_weighed (r ∷ rows) = omega (arith, each_weighed rows)

pub rows_run : (rows : List Row) (olds news : List Voice) (x y : List Bool) → AreAnswered rows olds news x y → HasRun (map turn_of rows) olds news x y
rows_run rows olds news x y a = record {
  rows = map answers_of rows;
  grown = a.grown ∙ ap (λ (l : List Bool). x ++ l) (sym (each_row rows));
  each_ask = each_weighed rows;
  each_adviser = All-map (λ row. length row ≡ length olds) answers_of rows a.each_adviser;
  replied = a.replied;
}
