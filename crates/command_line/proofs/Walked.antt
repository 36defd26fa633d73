-- A parse by clap of the words behind a command, use by use.
use Rattle.std.proofs.Common.{◌≡◌, ℕ, Bool, true, false, cond, List, [], ◌∷◌, ◌++◌, length, Option, Some, None, option_map, option_and_then, codes, bytes_eq, is_some, nat_lt, refl, sym, ap, subst, ◌∙◌, arith}
use Rattle.std.specs.Prelude.{◌&&◌, ◌||◌, ◌==◌, not, fold, if◌then◌else◌}
use Rattle.std.specs.Option.{option_map_or}
use Rattle.std.proofs.lemmas.Slice.Eq.{bytes_eq-Decides}
use Rattle.clap.specs.Lexer.{long_of, short_of, short_of_rest, strip_byte}
use Rattle.clap.specs.Walk.{Held, Names, Outcome, Row, Rule, Step, Text, Waiting, Walk, after_step, arg_by_id, arg_by_index, arg_by_long, long_word, walk_from, nothing_held, is_append, action_of, is_pending, most_values, plain_word, positional_held, pushed, reacted, settled, subcommand_met, takes_several, takes_values, used, walked, word_met, idle, option, positional, next, trailing, value, done, waits}
use Rattle.clap.specs.declared.error.kind.ErrorKind.TheVariants as kind
use Rattle.clap.specs.Simple.{Shape}
use Rattle.clap.specs.Kinds.{Kinds, or_else}
use Rattle.command_line.specs.Parsing.{has_one_dash, are_apt}
use Rattle.clap.specs.Faults.{use_fault, settle_fault, walk_fault, turn_fault, word_fault, step_fault, positional_fault, stray_fault, react_fault, long_fault}

-- ---- the uses that words make of arguments

abbrev pub Use : Type 0
Use = Rule × List Text

-- where the reading stands: any word may come, `--` has come, or the value of an option must come
pub data Stand : Type 0 where
  free : Stand
  closed : Stand
  wants : Rule → Stand

abbrev pub more : Use → Option (List Use) → Option (List Use)
more u = option_map (λ us. u ∷ us)

abbrev pub valued : Rule → Option Text → (Stand → Option (List Use)) → Option (List Use)
valued a (Some v) go = more (a, v ∷ []) (go free)
valued a None go = go (wants a)

abbrev pub flagged : Rule → Option Text → (Stand → Option (List Use)) → Option (List Use)
flagged a (Some v) go = None
flagged a None go = more (a, []) (go free)

abbrev pub named : Option Rule → Option Text → (Stand → Option (List Use)) → Option (List Use)
named None v go = None
named (Some a) v go = if takes_values a then valued a v go else flagged a v go

abbrev pub longed : List Rule → Rule → Text → Option (Text × Option Text) → (Stand → Option (List Use)) → Option (List Use)
longed c o word None go = more (o, word ∷ []) (go free)
longed c o word (Some p) go = named (arg_by_long c p.0) p.1 go

abbrev pub opened : List Rule → Rule → Text → (Stand → Option (List Use)) → Option (List Use)
opened c o word go = if bytes_eq word (codes "--") then go closed else longed c o word (long_of word) go

abbrev pub wanted : Rule → Text → (Stand → Option (List Use)) → Option (List Use)
wanted a word go = if bytes_eq word (codes "--") then None else (if is_some (long_of word) then None else more (a, word ∷ []) (go free))

abbrev pub stood : List Rule → Rule → Stand → Text → (Stand → Option (List Use)) → Option (List Use)
stood c o free word go = opened c o word go
stood c o closed word go = more (o, word ∷ []) (go closed)
stood c o (wants a) word go = wanted a word go

abbrev pub ended : Stand → Option (List Use)
ended free = Some []
ended closed = Some []
ended (wants a) = None

-- the uses from here on
abbrev pub uses_from : List Rule → Rule → Stand → List Text → Option (List Use)
uses_from c o here [] = ended here
uses_from c o here (word ∷ rest) = stood c o here word (λ go. uses_from c o go rest)

-- ---- what may fail

abbrev pub pass : {X : Type 0} → Kinds → Option X → Option X
pass [] o = o
pass (k ∷ ks) o = None

pub pass-or : {X : Type 0} (a b : Kinds) (o : Option X) → pass (or_else a b) o ≡ pass a (pass b o)
pass-or [] b o = refl
pass-or (k ∷ ks) b o = refl

pub pass-none : {X : Type 0} (a : Kinds) → pass {X = X} a None ≡ None
pass-none [] = refl
pass-none (k ∷ ks) = refl

-- the rows after the uses, where each passes
abbrev pub run_all : Bool → List Row → List Use → Option (List Row)
run_all again rows [] = Some rows
run_all again rows (u ∷ us) = pass (use_fault again u.0 u.1 rows) (run_all again (used u.0 u.1 rows) us)

abbrev pub run : Bool → List Row → Option (List Use) → Option (List Row)
run again rows None = None
run again rows (Some us) = run_all again rows us

pub run-more : (again : Bool) (rows : List Row) (u : Use) (o : Option (List Use))
    → run again rows (more u o) ≡ pass (use_fault again u.0 u.1 rows) (run again (used u.0 u.1 rows) o)
run-more again rows u None = sym (pass-none (use_fault again u.0 u.1 rows))
run-more again rows u (Some us) = refl

-- ---- what the operand and the options have

-- an option, by its rule
pub record IsOption (s : Shape) (a : Rule) : Type 0 where
  pub by_id : arg_by_id s.rules a.id ≡ Some a
  pub one : takes_values a ≡ true → most_values a ≡ 1
  pub refuses : takes_values a ≡ true → (rows : List Row) (o : Option (List Row)) → pass (use_fault s.args_override_self a [] rows) o ≡ None

pub record Serves (s : Shape) (o : Rule) : Type 0 where
  pub operand : arg_by_index s.rules 1 ≡ Some o
  pub operand_id : arg_by_id s.rules o.id ≡ Some o
  pub several : takes_several o ≡ false
  pub appends : is_append (action_of o) ≡ true
  pub trailing : o.trailing_var_arg ≡ false
  pub options : (name : Text) (a : Rule) → arg_by_long s.rules name ≡ Some a → IsOption s a

-- a word that is no flag goes to the operand
pub record IsIdle (c : List Rule) (wt : Waiting) : Type 0 where
  pub none : (word : Text) → subcommand_met [] wt word ≡ None
  pub plain : (word : Text) (h : Held) → plain_word c wt word h ≡ (h, value)

and_false : (b : Bool) → (b && false) ≡ false
and_false true = refl
and_false false = refl

or_false : (b : Bool) → (b || false) ≡ b
or_false true = refl
or_false false = refl

-- a word without one dash that is no long flag is no flag
not_short : (word : Text) → has_one_dash word ≡ false → short_of word ≡ None
not_short [] h = refl
not_short (c ∷ []) h = by_dash (c == 45)
  where
    by_dash : (b : Bool) → option_and_then short_of_rest (if b then Some [] else None) ≡ None
    by_dash true = refl
    by_dash false = refl
not_short (c ∷ d ∷ rest) h = by_dash (c == 45) h
  where
    by_next : (b : Bool) → not b ≡ false → (if b then None else Some (d ∷ rest)) ≡ None
    by_next true e = refl
    by_next false e = cc

    by_dash : (b : Bool) → (b && not (d == 45)) ≡ false → option_and_then short_of_rest (if b then Some (d ∷ rest) else None) ≡ None
    by_dash true e = by_next (d == 45) e
    by_dash false e = refl

module _ (s : Shape) (o : Rule) (serves : Serves s o) where
  abbrev c : List Rule
  c = s.rules

  abbrev again : Bool
  again = s.args_override_self

  abbrev pub S : Held → Kinds
  S h = settle_fault c again h

  abbrev pub R : Held → List Row
  R h = (settled c h).rows

  -- where the walk stands
  abbrev pub stand : Held → Waiting → Bool → Walk
  stand h wt t = record { held = h; waiting = wt; position = 1; is_trailing = t; stopped = None }

  -- the rows that are settled behind the words, where nothing fails
  abbrev pub outcome : Walk → List Text → Option (List Row)
  outcome w words = pass (walk_fault s [] w words) (pass (S (fold (walked c []) w words).held) (Some (R (fold (walked c []) w words).held)))

  outcome-nil : (w : Walk) → outcome w [] ≡ pass (S w.held) (Some (R w.held))
  unfolding walk_fault
  outcome-nil w = refl

  outcome-step : (w : Walk) (word : Text) (rest : List Text) → outcome w (word ∷ rest) ≡ pass (turn_fault s [] w word) (outcome (walked c [] w word) rest)
  unfolding walk_fault
  outcome-step w word rest = pass-or (turn_fault s [] w word) (walk_fault s [] (walked c [] w word) rest) _

  -- one word, by what it is met as
  turned : (h : Held) (wt : Waiting) (t : Bool) (word : Text) (rest : List Text) (f : Kinds) (met : Held × Step)
      → word_fault s [] t wt word h ≡ f → word_met c [] t wt 1 word h ≡ met
      → outcome (stand h wt t) (word ∷ rest) ≡ pass f (pass (step_fault s 1 met.0 met.1) (outcome (after_step c word (stand h wt t) met.0 met.1) rest))
  unfolding walked
  turned h wt t word rest f met is_fault is_met =
      outcome-step (stand h wt t) word rest ∙ rw (is_fault, is_met) (pass-or f (step_fault s 1 met.0 met.1) _)

  -- what is pending is used next
  pended : (h : Held) (a : Rule) (values : List Text) (o : Option (List Use)) → arg_by_id c a.id ≡ Some a → h.pending ≡ Some (a.id, values)
      → pass (S h) (run again (R h) o) ≡ run again h.rows (more (a, values) o)
  pended h a values o is pending = rw (pending, is) (sym (run-more again h.rows (a, values) o))

  step_operand : (h : Held) → step_fault s 1 h value ≡ S h
  step_operand h = rw (serves.operand, serves.several, and_false (is_pending o h.pending)) refl

  -- a word goes to the operand
  abbrev given : Text → Held → Held
  given word h = pushed o.id word (settled c h)

  after_operand : (h : Held) (wt : Waiting) (t : Bool) (word : Text) → after_step c word (stand h wt t) h value ≡ stand (given word h) positional t
  after_operand h wt t word = rw (serves.operand, serves.several, serves.appends, serves.trailing, and_false (is_pending o h.pending), or_false t) refl

  idle-positional : IsIdle c positional
  idle-positional = record { none = λ word. refl; plain = λ word h. refl }

  idle-idle : IsIdle c idle
  idle-idle = record { none = λ word. refl; plain = λ word h. refl }

  closed-is : (words : List Text) (h : Held) (wt : Waiting) → outcome (stand h wt true) words ≡ pass (S h) (run again (R h) (uses_from c o closed words))
  closed-is [] h wt = outcome-nil (stand h wt true)
  closed-is (word ∷ rest) h wt =
      turned h wt true word rest [] (h, value) refl refl
      ∙ rw (step_operand h, after_operand h wt true word, closed-is rest (given word h) positional, pended (given word h) o (word ∷ []) (uses_from c o closed rest) serves.operand_id refl) refl

  -- ---- before `--`

  abbrev Uses : Type 0
  Uses = Stand → Option (List Use)

  no-pass : (h : Held) (f : Kinds) (o : Option (List Row)) → ((x : Option (List Row)) → pass (S h) x ≡ None) → pass (or_else (S h) f) o ≡ None
  no-pass h f o none = pass-or (S h) f o ∙ none (pass f o)

  apt-head : (word : Text) (rest : List Text) → bytes_eq word (codes "--") ≡ false → are_apt (word ∷ rest) ≡ true → has_one_dash word ≡ false
  apt-head word rest e apt = by_dash (has_one_dash word) refl (rw e at apt)
    where
      by_dash : (b : Bool) → has_one_dash word ≡ b → (not b && are_apt rest) ≡ true → has_one_dash word ≡ false
      by_dash true is k = cc
      by_dash false is k = is

  apt-tail : (word : Text) (rest : List Text) → bytes_eq word (codes "--") ≡ false → are_apt (word ∷ rest) ≡ true → are_apt rest ≡ true
  apt-tail word rest e apt = by_dash (has_one_dash word) (rw e at apt)
    where
      by_dash : (b : Bool) → (not b && are_apt rest) ≡ true → are_apt rest ≡ true
      by_dash true k = cc
      by_dash false k = k

  bytes_eq-self : (x : Text) → bytes_eq x x ≡ true
  bytes_eq-self x = (bytes_eq-Decides x x).1 refl

  -- a word that is none of `--`, a long flag and a short one
  word_fault-plain : (wt : Waiting) (word : Text) (h : Held) → subcommand_met [] wt word ≡ None → bytes_eq word (codes "--") ≡ false
      → long_of word ≡ None → short_of word ≡ None → word_fault s [] false wt word h ≡ []
  word_fault-plain wt word h sub e long short = rw (sub, e, long, short) refl

  word_met-plain : (wt : Waiting) (word : Text) (h : Held) → subcommand_met [] wt word ≡ None → bytes_eq word (codes "--") ≡ false
      → long_of word ≡ None → short_of word ≡ None → word_met c [] false wt 1 word h ≡ plain_word c wt word h
  word_met-plain wt word h sub e long short = rw (sub, e, long, short) refl

  -- a long flag
  word_fault-long : (wt : Waiting) (word : Text) (h : Held) (p : Text × Option Text) → subcommand_met [] wt word ≡ None → bytes_eq word (codes "--") ≡ false
      → long_of word ≡ Some p → word_fault s [] false wt word h ≡ long_fault c again (arg_by_long c p.0) p.1 h
  word_fault-long wt word h p sub e long = rw (sub, e, long) refl

  word_met-long : (wt : Waiting) (word : Text) (h : Held) (p : Text × Option Text) → subcommand_met [] wt word ≡ None → bytes_eq word (codes "--") ≡ false
      → long_of word ≡ Some p → word_met c [] false wt 1 word h ≡ long_word c wt word p.0 p.1 h
  word_met-long wt word h p sub e long = rw (sub, e, long) refl

  -- what holds from here on, where any word may come, and where an option waits for its value
  abbrev FreeIs : List Text → Type 0
  FreeIs words = (h : Held) (wt : Waiting) → IsIdle c wt → are_apt words ≡ true → outcome (stand h wt false) words ≡ pass (S h) (run again (R h) (uses_from c o free words))

  abbrev waiting_held : Rule → Held → Held
  waiting_held a h = record h { pending = Some (a.id, []) }

  abbrev WantsIs : List Text → Type 0
  WantsIs words = (a : Rule) (h : Held) → IsOption s a → takes_values a ≡ true → are_apt words ≡ true
      → outcome (stand (waiting_held a h) (option a.id) false) words ≡ run again h.rows (uses_from c o (wants a) words)

  -- `--`
  dashes : (rest : List Text) (h : Held) (wt : Waiting) (word : Text) → subcommand_met [] wt word ≡ None → bytes_eq word (codes "--") ≡ true
      → outcome (stand h wt false) (word ∷ rest) ≡ pass (S h) (run again (R h) (uses_from c o closed rest))
  dashes rest h wt word sub e = turned h wt false word rest [] (h, trailing 1) (rw (sub, e) refl) (rw (sub, e) refl) ∙ closed-is rest h wt

  -- an option or a flag that is met with the settled rows
  module _ (rest : List Text) (free-is : FreeIs rest) (wants-is : WantsIs rest) (apt : are_apt rest ≡ true) (h : Held) (wt : Waiting) (word : Text)
      (sub : subcommand_met [] wt word ≡ None) (e : bytes_eq word (codes "--") ≡ false) where
    -- a use that is settled at once
    reacts : (a : Rule) (values : List Text) → word_fault s [] false wt word h ≡ or_else (S h) (use_fault again a values (R h))
        → word_met c [] false wt 1 word h ≡ (reacted c a values h, next idle)
        → outcome (stand h wt false) (word ∷ rest) ≡ pass (S h) (run again (R h) (more (a, values) (uses_from c o free rest)))
    reacts a values fault met =
        turned h wt false word rest _ (reacted c a values h, next idle) fault met
        ∙ ap (λ x. pass (or_else (S h) (use_fault again a values (R h))) x) (free-is (reacted c a values h) idle idle-idle apt)
        ∙ pass-or (S h) (use_fault again a values (R h)) _
        ∙ ap (pass (S h)) (sym (run-more again (R h) (a, values) (uses_from c o free rest)))

    refused-now : (k : _) (ks : Kinds) → word_fault s [] false wt word h ≡ k ∷ ks → outcome (stand h wt false) (word ∷ rest) ≡ None
    refused-now k ks fault = turned h wt false word rest (k ∷ ks) (word_met c [] false wt 1 word h) fault refl

    by_value : (p : Text × Option Text) (a : Rule) (v : Option Text) (b : Bool) → takes_values a ≡ b → long_of word ≡ Some p → arg_by_long c p.0 ≡ Some a → p.1 ≡ v
        → outcome (stand h wt false) (word ∷ rest) ≡ pass (S h) (run again (R h) (if b then valued a v (λ go. uses_from c o go rest) else flagged a v (λ go. uses_from c o go rest)))
    by_value p a (Some v) true takes long found is =
        reacts a (v ∷ []) (word_fault-long wt word h p sub e long ∙ rw (found, is, takes) refl) (word_met-long wt word h p sub e long ∙ rw (found, is, takes) refl)
    by_value p a None true takes long found is =
        turned h wt false word rest (S h) (waiting_held a (settled c h), next (option a.id)) (word_fault-long wt word h p sub e long ∙ rw (found, is, takes) refl) (word_met-long wt word h p sub e long ∙ rw (found, is, takes) refl)
        ∙ ap (pass (S h)) (wants-is a (settled c h) (serves.options p.0 a found) takes apt)
    by_value p a (Some v) false takes long found is =
        refused-now kind.TooManyValues [] (word_fault-long wt word h p sub e long ∙ rw (found, is, takes) refl) ∙ sym (pass-none (S h))
    by_value p a None false takes long found is =
        reacts a [] (word_fault-long wt word h p sub e long ∙ rw (found, is, takes) refl) (word_met-long wt word h p sub e long ∙ rw (found, is, takes) refl)

    by_rule : (p : Text × Option Text) (a : Option Rule) → long_of word ≡ Some p → arg_by_long c p.0 ≡ a
        → outcome (stand h wt false) (word ∷ rest) ≡ pass (S h) (run again (R h) (named a p.1 (λ go. uses_from c o go rest)))
    by_rule p None long found = refused-now kind.UnknownArgument [] (word_fault-long wt word h p sub e long ∙ rw found refl) ∙ sym (pass-none (S h))
    by_rule p (Some a) long found = by_value p a p.1 (takes_values a) refl long found refl

    by_long : (l : Option (Text × Option Text)) → long_of word ≡ l → IsIdle c wt → short_of word ≡ None
        → outcome (stand h wt false) (word ∷ rest) ≡ pass (S h) (run again (R h) (longed c o word l (λ go. uses_from c o go rest)))
    by_long (Some p) long is short = by_rule p (arg_by_long c p.0) long refl
    by_long None long is short =
        turned h wt false word rest [] (h, value) (word_fault-plain wt word h sub e long short) (word_met-plain wt word h sub e long short ∙ is.plain word h)
        ∙ rw (step_operand h, after_operand h wt false word, free-is (given word h) positional idle-positional apt, pended (given word h) o (word ∷ []) (uses_from c o free rest) serves.operand_id refl) refl

  -- the value of an option was to come
  module _ (rest : List Text) (free-is : FreeIs rest) (apt : are_apt rest ≡ true) (a : Rule) (h : Held) (opt : IsOption s a) (takes : takes_values a ≡ true)
      (word : Text) where
    abbrev to_value : Option (List Use) → Type 0
    to_value u = outcome (stand (waiting_held a h) (option a.id) false) (word ∷ rest) ≡ run again h.rows u

    no-value : (x : Option (List Row)) → pass (S (waiting_held a h)) x ≡ None
    no-value x = rw opt.by_id (opt.refuses takes h.rows x)

    fails : (f : Kinds) → word_fault s [] false (option a.id) word (waiting_held a h) ≡ f → ((x : Option (List Row)) → pass f x ≡ None)
        → outcome (stand (waiting_held a h) (option a.id) false) (word ∷ rest) ≡ None
    fails f fault none = turned (waiting_held a h) (option a.id) false word rest f (word_met c [] false (option a.id) 1 word (waiting_held a h)) fault refl ∙ none _

    no-value-or : (f : Kinds) (x : Option (List Row)) → pass (or_else (S (waiting_held a h)) f) x ≡ None
    no-value-or f x = no-pass (waiting_held a h) f x no-value

    wants-dashes : bytes_eq word (codes "--") ≡ true → to_value None
    wants-dashes e = dashes rest (waiting_held a h) (option a.id) word refl e ∙ no-value _

    module _ (e : bytes_eq word (codes "--") ≡ false) where
      flag_fault : (p : Text × Option Text) → long_of word ≡ Some p → word_fault s [] false (option a.id) word (waiting_held a h) ≡ long_fault c again (arg_by_long c p.0) p.1 (waiting_held a h)
      flag_fault p long = word_fault-long (option a.id) word (waiting_held a h) p refl e long

      wants-flag-value : (p : Text × Option Text) (b : Rule) (v : Option Text) (t : Bool) → takes_values b ≡ t → long_of word ≡ Some p → arg_by_long c p.0 ≡ Some b → p.1 ≡ v → to_value None
      wants-flag-value p b (Some v) true is long found value_is = fails _ (flag_fault p long ∙ rw (found, value_is, is) refl) (no-value-or (use_fault again b (v ∷ []) (R (waiting_held a h))))
      wants-flag-value p b None true is long found value_is = fails _ (flag_fault p long ∙ rw (found, value_is, is) refl) no-value
      wants-flag-value p b (Some v) false is long found value_is = fails (kind.TooManyValues ∷ []) (flag_fault p long ∙ rw (found, value_is, is) refl) (λ x. refl)
      wants-flag-value p b None false is long found value_is = fails _ (flag_fault p long ∙ rw (found, value_is, is) refl) (no-value-or (use_fault again b [] (R (waiting_held a h))))

      wants-flag : (p : Text × Option Text) (b : Option Rule) → long_of word ≡ Some p → arg_by_long c p.0 ≡ b → to_value None
      wants-flag p None long found = fails (kind.UnknownArgument ∷ []) (flag_fault p long ∙ rw found refl) (λ x. refl)
      wants-flag p (Some b) long found = wants-flag-value p b p.1 (takes_values b) refl long found refl

      taken : word_met c [] false (option a.id) 1 word (waiting_held a h) ≡ plain_word c (option a.id) word (waiting_held a h)
          → word_met c [] false (option a.id) 1 word (waiting_held a h) ≡ (record (waiting_held a h) { pending = Some (a.id, word ∷ []) }, next idle)
      taken met = met ∙ rw (opt.by_id, opt.one takes, bytes_eq-self a.id) refl

      wants-word : short_of word ≡ None → long_of word ≡ None → to_value (more (a, word ∷ []) (uses_from c o free rest))
      wants-word short long =
          turned (waiting_held a h) (option a.id) false word rest [] (record (waiting_held a h) { pending = Some (a.id, word ∷ []) }, next idle)
          (word_fault-plain (option a.id) word (waiting_held a h) refl e long short)
          (taken (word_met-plain (option a.id) word (waiting_held a h) refl e long short))
          ∙ free-is (record (waiting_held a h) { pending = Some (a.id, word ∷ []) }) idle idle-idle apt
          ∙ pended (record (waiting_held a h) { pending = Some (a.id, word ∷ []) }) a (word ∷ []) (uses_from c o free rest) opt.by_id refl

      wants-by-long : (l : Option (Text × Option Text)) → long_of word ≡ l → short_of word ≡ None
          → to_value (if is_some l then None else more (a, word ∷ []) (uses_from c o free rest))
      wants-by-long (Some p) long short = wants-flag p (arg_by_long c p.0) long refl
      wants-by-long None long short = wants-word short long

  free-on : (word : Text) (rest : List Text) → FreeIs rest → WantsIs rest → FreeIs (word ∷ rest)
  free-on word rest free-is wants-is h wt is apt = by_dashes (bytes_eq word (codes "--")) refl
    where
      by_dashes : (b : Bool) → bytes_eq word (codes "--") ≡ b → outcome (stand h wt false) (word ∷ rest)
          ≡ pass (S h) (run again (R h) (if b then uses_from c o closed rest else longed c o word (long_of word) (λ go. uses_from c o go rest)))
      by_dashes true e = dashes rest h wt word (is.none word) e
      by_dashes false e = by_long rest free-is wants-is (apt-tail word rest e apt) h wt word (is.none word) e (long_of word) refl is (not_short word (apt-head word rest e apt))

  wants-on : (word : Text) (rest : List Text) → FreeIs rest → WantsIs (word ∷ rest)
  wants-on word rest free-is a h opt takes apt = by_dashes (bytes_eq word (codes "--")) refl
    where
      by_dashes : (b : Bool) → bytes_eq word (codes "--") ≡ b → outcome (stand (waiting_held a h) (option a.id) false) (word ∷ rest)
          ≡ run again h.rows (if b then None else (if is_some (long_of word) then None else more (a, word ∷ []) (uses_from c o free rest)))
      by_dashes true e = dashes rest (waiting_held a h) (option a.id) word refl e ∙ rw opt.by_id (opt.refuses takes h.rows _)
      by_dashes false e = wants-by-long rest free-is (apt-tail word rest e apt) a h opt takes word e (long_of word) refl (not_short word (apt-head word rest e apt))

  both-are : (words : List Text) → FreeIs words × WantsIs words
  both-are [] = ((λ h wt is apt. outcome-nil (stand h wt false)), (λ a h opt takes apt. outcome-nil (stand (waiting_held a h) (option a.id) false) ∙ rw opt.by_id (opt.refuses takes h.rows _)))
  both-are (word ∷ rest) = let behind = both-are rest in (free-on word rest behind.0 behind.1, wants-on word rest behind.0)

  -- a parse of words whose flags are long: its uses, each settled
  pub walked-uses : (words : List Text) → are_apt words ≡ true → outcome (walk_from nothing_held) words ≡ run again [] (uses_from c o free words)
  walked-uses words apt = (both-are words).0 nothing_held idle idle-idle apt
