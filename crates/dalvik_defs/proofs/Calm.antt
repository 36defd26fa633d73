-- Classes whose initialisation does nothing don't count. A set of classes is calm where none has an initialiser and all
-- that are initialised before one of them are calm too. A run that begins with all classes new shows the same as one that
-- begins with the calm classes done.
use Rattle.std.proofs.Common.{◌≡◌, ℕ, zero, suc, Bool, true, false, true≢false, ◌&&◌, List, [], ◌∷◌, ◌++◌, Option, Some, None, refl, sym, ap, ◌∙◌, subst}
use Rattle.std.specs.Prelude.{length, slice_get, nat_eq}
use Rattle.std.specs.Cmp.Lexicographic.{bytes_decides}
use Rattle.insn_set.specs.declared.ops.Item.{Item}
use Rattle.insn_set.specs.declared.ops.InvokeKind.{InvokeKind}
use Rattle.insn_set.specs.declared.ops.InvokeKind.TheVariants as call
use Rattle.dalvik_defs.specs.Names.{Text, text_eq, method_eq, object_constructor}
use Rattle.dalvik_defs.specs.Flags.{is_static, is_native}
use Rattle.dalvik_defs.specs.Known.{no_class, null_pointer, class_change, abstract_method}
use Rattle.dalvik_defs.specs.Find.{Found, Search, Nothing, Clash, Finds}
use Rattle.dalvik_defs.specs.Face.{Bodies, Place, is_defined}
use Rattle.dalvik_defs.specs.State.{World, Classes, Status, New, Running, Done, Failed, Value, Word, Frame, Thing, Instance, Items, Waiting, Method, Initialiser, Ending, Outside, State, On, Ended, Next, quiet, with_thing, next_object, fresh, put_status, thing_at, is_null, kind_of, opening}
use Rattle.dalvik_defs.specs.Effect.{Effect, Goes, Faults, Throws, Gives, Calls, Makes, Reads, Writes, Locks, Unlocks, Stuck, write, next}
use Rattle.dalvik_defs.specs.Fields.{key_at, static_value, instance_value, with_static, with_instance}
use Rattle.dalvik_defs.specs.Outcome.{Outcome, Stays, Starts, Enters, Leaves, Ends, Raises, Halts, Need, Ready, Fresh, Broken, need_if, need_of, faults, when_ready, calls_out, native_kind, takes_no_receiver, calls_uncoded, calls_found, is_direct, calls_unfound, calls_by, receiver, on_receiver, calls, makes, reads_value, reads_static, reads_instance, reads_out, writes_static, writes_instance, written, writes_out, locks, unlocks, outcome}
use Rattle.dalvik_defs.specs.Stack.{form_at, entry_frame, enters_body, enters, gives, lands, wrapped, back, lands_or, unwinds, left_at, left_of, runs, goes_on, starts, resumes, ends}
use Rattle.dalvik_defs.specs.Quiet.{status_if, calm_classes, calm_opening}
use Rattle.dalvik_defs.specs.Happens.{Setting, effect_of, outcome_at, happens, first_needed, initialises}
use Rattle.dalvik_defs.specs.Show.{show, show_option}
use Rattle.dalvik_defs.specs.Names.{throwable_type}
use Rattle.dalvik_defs.specs.declared.events.Event.TheVariants as event
use Rattle.dalvik_defs.specs.Items.{stored, item_of_type}
use Rattle.dalvik_defs.specs.Gives.{gets, gets_all, spread, fits, may_throw}
use Rattle.dalvik_defs.specs.Legal.{may_enter, may_make, may_answer, on_fits, is_exposed}
use Rattle.dalvik_defs.specs.Moves.{needs, entered, enter, made, make, got, answers, throws, shows_value, goes, field_value, with_field, reads, writes, reads_item, array_get, with_item, writes_item, array_put, measures_thing, array_length, key_of, moves, framework_turn}
use Rattle.dalvik_defs.specs.declared.script.Given.{Given}
use Rattle.dalvik_defs.specs.declared.script.Move.TheVariants as move
use Rattle.dalvik_defs.specs.Step.{step, events_of, after, shows_from}
use Rattle.dalvik_defs.specs.declared.names.MethodKey.{MethodKey}
use Rattle.dalvik_defs.specs.declared.names.FieldKey.{FieldKey}
use Rattle.dalvik_defs.specs.declared.program.NamedBody.{NamedBody}
use Rattle.dalvik_defs.specs.declared.script.Move.{Move}
use Rattle.dalvik_defs.specs.declared.events.Event.{Event}
use Rattle.dalvik_defs.proofs.Simulation.{joined, after_joined, shows_joined, Follows, Shows, follows_shows}

-- ---- texts and lists

text_same : (t : Text) → text_eq t t ≡ true
text_same t = (bytes_decides t t).1 refl

pub text_sound : (t u : Text) → text_eq t u ≡ true → t ≡ u
text_sound t u = (bytes_decides t u).0

abbrev pub Each : (Text → Type 0) → List Text → Type 0
Each P [] = Unit {0}
Each P (x ∷ xs) = P x × Each P xs

pub each_map : (P Q : Text → Type 0) → ((t : Text) → P t → Q t) → (ts : List Text) → Each P ts → Each Q ts
each_map P Q h [] e = tt
each_map P Q h (t ∷ ts) e = (h t e.0, each_map P Q h ts e.1)

clash : (b : Bool) {A : Type 0} → b ≡ true → b ≡ false → A
clash b e f = absurd (true≢false (sym e ∙ f))

-- ---- a class's status

abbrev pub IsSound : Status → Type 0
IsSound New = Unit {0}
IsSound Running = Unit {0}
IsSound Done = Unit {0}
IsSound Failed = ⊥

put_same : (t : Text) (x : Status) (c : Classes) → put_status t x c t ≡ x
put_same t x c = ap (λ b. elim b as (λ b. Status) [ true ↦ x | false ↦ c t ]) (text_same t)

-- what a status holds after one is put, by cases
put_cases : (P : Text → Status → Type 0) (t : Text) (x : Status) (c : Classes) (u : Text) → P t x → P u (c u) → P u (put_status t x c u)
put_cases P t x c u h k = at (text_eq u t) (λ e. sym (text_sound u t e)) where
  at : (b : Bool) → (b ≡ true → t ≡ u) → P u (elim b as (λ b. Status) [ true ↦ x | false ↦ c u ])
  at true e = subst (λ v. P v x) (e refl) h
  at false e = k

-- a chain of calm classes that come first ends
abbrev pub IsDeep : Setting → (Text → Bool) → ℕ → Text → Type 0
IsDeep s calm zero t = ⊥
IsDeep s calm (suc n) t = Each (λ u. (calm u ≡ true) × IsDeep s calm n u) (s.face.first t)

-- none of these classes has an initialiser, and all that come before one of them are of them
pub record IsCalm (s : Setting) (calm : Text → Bool) : Type 0 where
  pub initialiser : (t : Text) → calm t ≡ true → s.face.initialiser t ≡ None
  pub grounded : (t : Text) → calm t ≡ true → (n : ℕ) × IsDeep s calm n t

module _ (s : Setting) (find : Bodies) (calm : Text → Bool) where
  -- statuses of a run, and those of one in which the calm classes are done
  pub record Agree (c c' : Classes) : Type 0 where
    pub busy : (t : Text) → calm t ≡ false → c t ≡ c' t
    pub done : (t : Text) → calm t ≡ true → c' t ≡ Done
    pub sound : (t : Text) → calm t ≡ true → IsSound (c t)

  put_busy : (c c' : Classes) (t : Text) (x : Status) → calm t ≡ false → Agree c c' → Agree (put_status t x c) (put_status t x c')
  put_busy c c' t x e a = record {
    busy = λ u f. ap (λ y. elim (text_eq u t) as (λ b. Status) [ true ↦ x | false ↦ y ]) (a.busy u f);
    done = λ u. put_cases (λ v y. calm v ≡ true → y ≡ Done) t x c' u (λ f. clash (calm t) f e) (a.done u);
    sound = λ u. put_cases (λ v y. calm v ≡ true → IsSound y) t x c u (λ f. clash (calm t) f e) (a.sound u);
  }

  put_calm : (c c' : Classes) (t : Text) (x : Status) → calm t ≡ true → IsSound x → Agree c c' → Agree (put_status t x c) c'
  put_calm c c' t x e h a = record {
    busy = λ u. put_cases (λ v y. calm v ≡ false → y ≡ c' v) t x c u (λ f. clash (calm t) e f) (a.busy u);
    done = a.done;
    sound = λ u. put_cases (λ v y. calm v ≡ true → IsSound y) t x c u (λ f. h) (a.sound u);
  }

  -- ---- steps that show nothing

  pub record Silent (t u : State) : Type 0 where
    pub steps : ℕ
    pub ends : after s find t steps ≡ u
    pub silent : shows_from s find t steps ≡ []

  silent_none : (t : State) → Silent t t
  silent_none t = record { steps = 0; ends = refl; silent = refl }

  silent_same : (t u : State) → t ≡ u → Silent t u
  silent_same t u e = record { steps = 0; ends = e; silent = refl }

  silent_on : (t u v : State) → Silent t u → Silent u v → Silent t v
  silent_on t u v a b = record {
    steps = joined a.steps b.steps;
    ends = after_joined s find a.steps b.steps t ∙ ap (λ x. after s find x b.steps) a.ends ∙ b.ends;
    silent = shows_joined s find a.steps b.steps t ∙ ap (λ l. l ++ shows_from s find (after s find t a.steps) b.steps) a.silent
        ∙ ap (λ x. shows_from s find x b.steps) a.ends ∙ b.silent;
  }

  silent_step : (t u v : State) → step s find t ≡ quiet u → Silent u v → Silent t v
  silent_step t u v e a = record {
    steps = suc a.steps;
    ends = ap (λ x. after s find x.0 a.steps) e ∙ a.ends;
    silent = ap (λ x. events_of x.1 ++ shows_from s find x.0 a.steps) e ∙ a.silent;
  }

  -- ---- a calm class is initialised in silence

  -- from a class's start to what waited for it, the class being done
  pub record Passes (t : Text) (w : World) (c c' : Classes) (stack : List Waiting) (script : List Move) : Type 0 where
    pub classes : Classes
    pub silent : Silent (starts s.face find w c t stack script) (resumes s.face find w classes stack script)
    pub agree : Agree classes c'
    pub done : classes t ≡ Done

  abbrev pub IsPassed : Text → Type 0
  IsPassed t = (w : World) (c c' : Classes) (stack : List Waiting) (script : List Move) → Agree c c' → Passes t w c c' stack script

  pub record Settles (w : World) (c c' : Classes) (t : Text) (above : List Text) (stack : List Waiting) (script : List Move) : Type 0 where
    pub classes : Classes
    pub silent : Silent (goes_on s.face find w c t (left_of c above) stack script) (goes_on s.face find w classes t (left_of c' above) stack script)
    pub agree : Agree classes c'

  settles_same : (w : World) (c c' : Classes) (t : Text) (above : List Text) (stack : List Waiting) (script : List Move) → left_of c above ≡ left_of c' above → Agree c c' → Settles w c c' t above stack script
  settles_same w c c' t above stack script e a = record {
    classes = c;
    silent = silent_same (goes_on s.face find w c t (left_of c above) stack script) (goes_on s.face find w c t (left_of c' above) stack script) (ap (λ l. goes_on s.face find w c t l stack script) e);
    agree = a;
  }

  settles_skip : (w : World) (c c' : Classes) (t d : Text) (ds : List Text) (stack : List Waiting) (script : List Move) → left_of c (d ∷ ds) ≡ left_of c ds → left_of c' (d ∷ ds) ≡ left_of c' ds
      → Settles w c c' t ds stack script → Settles w c c' t (d ∷ ds) stack script
  settles_skip w c c' t d ds stack script e e' r = record {
    classes = r.classes;
    silent = subst (λ l. Silent (goes_on s.face find w c t l stack script) (goes_on s.face find w r.classes t (left_of c' (d ∷ ds)) stack script)) (sym e)
        (subst (λ l. Silent (goes_on s.face find w c t (left_of c ds) stack script) (goes_on s.face find w r.classes t l stack script)) (sym e') r.silent);
    agree = r.agree;
  }

  -- the first class is calm and new: it passes
  settles_pass : (w : World) (c c' : Classes) (t d : Text) (ds : List Text) (stack : List Waiting) (script : List Move) → c d ≡ New → c' d ≡ Done
      → (p : Passes d w c c' (Initialiser t (d ∷ ds) ∷ stack) script) → Settles w p.classes c' t ds stack script → Settles w c c' t (d ∷ ds) stack script
  settles_pass w c c' t d ds stack script e e' p r =
      let l : left_of c (d ∷ ds) ≡ d ∷ ds = ap (λ x. left_at x (d ∷ ds) (left_of c ds)) e in
      let l' : left_of c' (d ∷ ds) ≡ left_of c' ds = ap (λ x. left_at x (d ∷ ds) (left_of c' ds)) e' in
      let m : left_of p.classes (d ∷ ds) ≡ left_of p.classes ds = ap (λ x. left_at x (d ∷ ds) (left_of p.classes ds)) p.done in
      let one : step s find (On w c (Initialiser t (d ∷ ds) ∷ stack) script) ≡ quiet (starts s.face find w c d (Initialiser t (d ∷ ds) ∷ stack) script) =
      ap (λ x. first_needed s find w c t d ds x stack script) e in
      let rest : Silent (goes_on s.face find w p.classes t (left_of p.classes (d ∷ ds)) stack script) (goes_on s.face find w r.classes t (left_of c' ds) stack script) =
      subst (λ x. Silent (goes_on s.face find w p.classes t x stack script) (goes_on s.face find w r.classes t (left_of c' ds) stack script)) (sym m) r.silent in
      let all = silent_step (On w c (Initialiser t (d ∷ ds) ∷ stack) script) (starts s.face find w c d (Initialiser t (d ∷ ds) ∷ stack) script) (goes_on s.face find w r.classes t (left_of c' ds) stack script) one
      (silent_on (starts s.face find w c d (Initialiser t (d ∷ ds) ∷ stack) script) (resumes s.face find w p.classes (Initialiser t (d ∷ ds) ∷ stack) script) (goes_on s.face find w r.classes t (left_of c' ds) stack script) p.silent rest) in
      record {
        classes = r.classes;
        silent = subst (λ x. Silent (goes_on s.face find w c t x stack script) (goes_on s.face find w r.classes t (left_of c' (d ∷ ds)) stack script)) (sym l)
            (subst (λ x. Silent (On w c (Initialiser t (d ∷ ds) ∷ stack) script) (goes_on s.face find w r.classes t x stack script)) (sym l') all);
        agree = r.agree;
      }

  settles_at : (w : World) (c c' : Classes) (t d : Text) (ds : List Text) (stack : List Waiting) (script : List Move) → Agree c c' → (calm d ≡ true → IsPassed d)
      → ((x : Classes) → Agree x c' → Settles w x c' t ds stack script) → (b : Bool) → calm d ≡ b → (x : Status) → c d ≡ x → Settles w c c' t (d ∷ ds) stack script
  settles_at w c c' t d ds stack script a pass rest true e New f =
      let p = pass e w c c' (Initialiser t (d ∷ ds) ∷ stack) script a in settles_pass w c c' t d ds stack script f (a.done d e) p (rest p.classes p.agree)
  settles_at w c c' t d ds stack script a pass rest true e Running f = settles_skip w c c' t d ds stack script
      (ap (λ y. left_at y (d ∷ ds) (left_of c ds)) f) (ap (λ y. left_at y (d ∷ ds) (left_of c' ds)) (a.done d e)) (rest c a)
  settles_at w c c' t d ds stack script a pass rest true e Done f = settles_skip w c c' t d ds stack script
      (ap (λ y. left_at y (d ∷ ds) (left_of c ds)) f) (ap (λ y. left_at y (d ∷ ds) (left_of c' ds)) (a.done d e)) (rest c a)
  settles_at w c c' t d ds stack script a pass rest true e Failed f = absurd (subst IsSound f (a.sound d e))
  settles_at w c c' t d ds stack script a pass rest false e New f = settles_same w c c' t (d ∷ ds) stack script
      (ap (λ y. left_at y (d ∷ ds) (left_of c ds)) f ∙ sym (ap (λ y. left_at y (d ∷ ds) (left_of c' ds)) (sym (a.busy d e) ∙ f))) a
  settles_at w c c' t d ds stack script a pass rest false e Failed f = settles_same w c c' t (d ∷ ds) stack script
      (ap (λ y. left_at y (d ∷ ds) (left_of c ds)) f ∙ sym (ap (λ y. left_at y (d ∷ ds) (left_of c' ds)) (sym (a.busy d e) ∙ f))) a
  settles_at w c c' t d ds stack script a pass rest false e Running f = settles_skip w c c' t d ds stack script
      (ap (λ y. left_at y (d ∷ ds) (left_of c ds)) f) (ap (λ y. left_at y (d ∷ ds) (left_of c' ds)) (sym (a.busy d e) ∙ f)) (rest c a)
  settles_at w c c' t d ds stack script a pass rest false e Done f = settles_skip w c c' t d ds stack script
      (ap (λ y. left_at y (d ∷ ds) (left_of c ds)) f) (ap (λ y. left_at y (d ∷ ds) (left_of c' ds)) (sym (a.busy d e) ∙ f)) (rest c a)

  settles : (above : List Text) → Each (λ u. calm u ≡ true → IsPassed u) above → (w : World) (c c' : Classes) (t : Text) (stack : List Waiting) (script : List Move) → Agree c c'
      → Settles w c c' t above stack script
  settles [] h w c c' t stack script a = settles_same w c c' t [] stack script refl a
  settles (d ∷ ds) h w c c' t stack script a = settles_at w c c' t d ds stack script a h.0 (λ x b. settles ds h.1 w x c' t stack script b) (calm d) refl (c d) refl

  all_done : (c c' : Classes) → Agree c c' → (l : List Text) → Each (λ u. calm u ≡ true) l → left_of c' l ≡ []
  all_done c c' a [] h = refl
  all_done c c' a (d ∷ ds) h = ap (λ y. left_at y (d ∷ ds) (left_of c' ds)) (a.done d h.0) ∙ all_done c c' a ds h.1

  module _ (is : IsCalm s calm) where
    passed_deep : (n : ℕ) (t : Text) → calm t ≡ true → IsDeep s calm n t → IsPassed t
    passed_deep zero t e h w c c' stack script a = absurd h
    passed_deep (suc n) t e h w c c' stack script a =
        let run = put_status t Running c in
        let b = put_calm c c' t Running e tt a in
        let l = s.face.first t in
        let r = settles l (each_map (λ u. (calm u ≡ true) × IsDeep s calm n u) (λ u. calm u ≡ true → IsPassed u) (λ u d f. passed_deep n u f d.1) l h) w run c' t stack script b in
        let last = all_done run c' b l (each_map (λ u. (calm u ≡ true) × IsDeep s calm n u) (λ u. calm u ≡ true) (λ u d. d.0) l h) in
        let here : goes_on s.face find w r.classes t (left_of c' l) stack script ≡ On w r.classes (Ending t ∷ stack) script =
        ap (λ x. goes_on s.face find w r.classes t x stack script) last ∙ ap (λ o. runs find w r.classes t o stack script) (is.initialiser t e) in
        let end = put_status t Done r.classes in
        record {
          classes = end;
          silent = silent_on (starts s.face find w c t stack script) (On w r.classes (Ending t ∷ stack) script) (resumes s.face find w end stack script)
              (subst (λ x. Silent (starts s.face find w c t stack script) x) here r.silent)
              (silent_step (On w r.classes (Ending t ∷ stack) script) (resumes s.face find w end stack script) (resumes s.face find w end stack script) refl (silent_none (resumes s.face find w end stack script)));
          agree = put_calm r.classes c' t Done e tt r.agree;
          done = put_same t Done r.classes;
        }

    passed : (t : Text) → calm t ≡ true → IsPassed t
    passed t e = passed_deep (is.grounded t e).0 t e (is.grounded t e).1

    settled : (above : List Text) (w : World) (c c' : Classes) (t : Text) (stack : List Waiting) (script : List Move) → Agree c c' → Settles w c c' t above stack script
    settled above = settles above (each_map (λ u. Unit {0}) (λ u. calm u ≡ true → IsPassed u) (λ u x. passed u) above (each_any above)) where
      each_any : (l : List Text) → Each (λ u. Unit {0}) l
      each_any [] = tt
      each_any (u ∷ us) = (tt, each_any us)

    -- ---- related states: the classes that are being initialised aren't calm

    abbrev pub Busy : List Waiting → Type 0
    Busy [] = Unit {0}
    Busy (Method f ∷ r) = Busy r
    Busy (Initialiser t a ∷ r) = (calm t ≡ false) × Busy r
    Busy (Ending t ∷ r) = (calm t ≡ false) × Busy r
    Busy (Outside owes pending ∷ r) = Busy r

    abbrev pub Core : State → State → Type 0
    Core Ended u = u ≡ Ended
    Core (On w c stack script) u = (c' : Classes) × ((u ≡ On w c' stack script) × (Agree c c' × Busy stack))

    -- two steps' ends are good where they show the same, and the first comes in silence to what is related to the second
    record Good (x x' : Next) : Type 0 where
      shown : x'.1 ≡ x.1
      to : State
      silent : Silent x.0 to
      core : Core to x'.0

    good_state : (w : World) (c c' : Classes) (stack : List Waiting) (script : List Move) (e : Option Event) → Agree c c' → Busy stack → Good (On w c stack script, e) (On w c' stack script, e)
    good_state w c c' stack script e a b = record { shown = refl; to = On w c stack script; silent = silent_none (On w c stack script); core = (c', (refl, (a, b))) }

    good_end : Good (quiet Ended) (quiet Ended)
    good_end = record { shown = refl; to = Ended; silent = silent_none Ended; core = refl }

    good_behind : (x x' y : Next) → x.1 ≡ y.1 → Silent y.0 x.0 → Good x x' → Good y x'
    good_behind x x' y e q g = record { shown = g.shown ∙ e; to = g.to; silent = silent_on y.0 x.0 g.to q g.silent; core = g.core }

    good_body : (o : Option NamedBody) (w : World) (c c' : Classes) (k : MethodKey) (vs : List Value) (stack : List Waiting) (script : List Move) → Agree c c' → Busy stack
        → Good (quiet (enters_body o w c k vs stack script)) (quiet (enters_body o w c' k vs stack script))
    good_body None w c c' k vs stack script a b = good_end
    good_body (Some x) w c c' k vs stack script a b = by (nat_eq (length vs) x.ins) where
      by : (q : Bool) → Good (quiet (elim q as (λ b. State) [ true ↦ On w c (Method (entry_frame k vs x) ∷ stack) script | false ↦ Ended ]))
          (quiet (elim q as (λ b. State) [ true ↦ On w c' (Method (entry_frame k vs x) ∷ stack) script | false ↦ Ended ]))
      by true = good_state w c c' (Method (entry_frame k vs x) ∷ stack) script None a b
      by false = good_end

    good_runs : (o : Option MethodKey) (w : World) (c c' : Classes) (t : Text) (stack : List Waiting) (script : List Move) → Agree c c' → calm t ≡ false → Busy stack
        → Good (quiet (runs find w c t o stack script)) (quiet (runs find w c' t o stack script))
    good_runs None w c c' t stack script a e b = good_state w c c' (Ending t ∷ stack) script None a (e, b)
    good_runs (Some k) w c c' t stack script a e b = good_body (find k) w c c' k [] (Ending t ∷ stack) script a (e, b)

    good_list : (l : List Text) (w : World) (c c' : Classes) (t : Text) (stack : List Waiting) (script : List Move) → Agree c c' → calm t ≡ false → Busy stack
        → Good (quiet (goes_on s.face find w c t l stack script)) (quiet (goes_on s.face find w c' t l stack script))
    good_list [] w c c' t stack script a e b = good_runs (s.face.initialiser t) w c c' t stack script a e b
    good_list (d ∷ ds) w c c' t stack script a e b = good_state w c c' (Initialiser t (d ∷ ds) ∷ stack) script None a (e, b)

    good_goes_on : (above : List Text) (w : World) (c c' : Classes) (t : Text) (stack : List Waiting) (script : List Move) → Agree c c' → calm t ≡ false → Busy stack
        → Good (quiet (goes_on s.face find w c t (left_of c above) stack script)) (quiet (goes_on s.face find w c' t (left_of c' above) stack script))
    good_goes_on above w c c' t stack script a e b =
        let r = settled above w c c' t stack script a in
        good_behind (quiet (goes_on s.face find w r.classes t (left_of c' above) stack script)) (quiet (goes_on s.face find w c' t (left_of c' above) stack script))
        (quiet (goes_on s.face find w c t (left_of c above) stack script)) refl r.silent (good_list (left_of c' above) w r.classes c' t stack script r.agree e b)

    good_starts : (w : World) (c c' : Classes) (t : Text) (stack : List Waiting) (script : List Move) → Agree c c' → calm t ≡ false → Busy stack
        → Good (quiet (starts s.face find w c t stack script)) (quiet (starts s.face find w c' t stack script))
    good_starts w c c' t stack script a e b = good_goes_on (s.face.first t) w (put_status t Running c) (put_status t Running c') t stack script (put_busy c c' t Running e a) e b

    good_resumes : (stack : List Waiting) (w : World) (c c' : Classes) (script : List Move) → Agree c c' → Busy stack
        → Good (quiet (resumes s.face find w c stack script)) (quiet (resumes s.face find w c' stack script))
    good_resumes [] w c c' script a b = good_state w c c' [] script None a b
    good_resumes (Method f ∷ r) w c c' script a b = good_state w c c' (Method f ∷ r) script None a b
    good_resumes (Initialiser t l ∷ r) w c c' script a b = good_goes_on l w c c' t r script a b.0 b.1
    good_resumes (Ending t ∷ r) w c c' script a b = good_state w c c' (Ending t ∷ r) script None a b
    good_resumes (Outside owes pending ∷ r) w c c' script a b = good_state w c c' (Outside owes pending ∷ r) script None a b

    good_gives : (stack : List Waiting) (kind : Text) (w : World) (c c' : Classes) (v : Option Value) (script : List Move) → Agree c c' → Busy stack
        → Good (gives find kind w c v stack script) (gives find kind w c' v stack script)
    good_gives [] kind w c c' v script a b = good_end
    good_gives (Method f ∷ r) kind w c c' v script a b = good_state w c c' (Method (back find f v) ∷ r) script None a b
    good_gives (Initialiser t l ∷ r) kind w c c' v script a b = good_end
    good_gives (Ending t ∷ r) kind w c c' v script a b = good_state w c c' (Ending t ∷ r) script None a b
    good_gives (Outside owes pending ∷ r) kind w c c' v script a b =
        good_state (show_option w kind v).0 c c' (Outside owes pending ∷ r) script (Some (event.Result (show_option w kind v).1)) a b

    good_lands : (o : Option Frame) (r : List Waiting) (w : World) (c c' : Classes) (script : List Move) (x x' : Next) → Agree c c' → Busy r → Good x x'
        → Good (lands_or w c r script o x) (lands_or w c' r script o x')
    good_lands None r w c c' script x x' a b g = g
    good_lands (Some f) r w c c' script x x' a b g = good_state w c c' (Method f ∷ r) script None a b

    good_unwinds : (stack : List Waiting) (w : World) (c c' : Classes) (v : Value) (script : List Move) → Agree c c' → Busy stack
        → Good (unwinds s.face find w c v stack script) (unwinds s.face find w c' v stack script)
    good_unwinds [] w c c' v script a b = good_end
    good_unwinds (Method f ∷ r) w c c' v script a b = good_lands (lands s.face find w f v) r w c c' script (unwinds s.face find w c v r script) (unwinds s.face find w c' v r script) a b (good_unwinds r w c c' v script a b)
    good_unwinds (Initialiser t l ∷ r) w c c' v script a b = good_unwinds r w (put_status t Failed c) (put_status t Failed c') v script (put_busy c c' t Failed b.0 a) b.1
    good_unwinds (Ending t ∷ r) w c c' v script a b =
        good_unwinds r (wrapped s.face w v).0 (put_status t Failed c) (put_status t Failed c') (wrapped s.face w v).1 script (put_busy c c' t Failed b.0 a) b.1
    good_unwinds (Outside owes pending ∷ r) w c c' v script a b =
        good_state (show w throwable_type v).0 c c' (Outside owes None ∷ r) script (Some (event.Uncaught (show w throwable_type v).1)) a b

    -- ---- a class that is being initialised

    good_first : (w : World) (c c' : Classes) (t d : Text) (ds : List Text) (r : List Waiting) (script : List Move) → Agree c c' → calm t ≡ false → Busy r
        → (b : Bool) → calm d ≡ b → (x : Status) → c d ≡ x → (x' : Status) → c' d ≡ x' → Good (first_needed s find w c t d ds x r script) (first_needed s find w c' t d ds x' r script)
    good_first w c c' t d ds r script a e b true f New g x' g' =
        let p = passed d f w c c' (Initialiser t (d ∷ ds) ∷ r) script a in
        let m : left_of p.classes (d ∷ ds) ≡ left_of p.classes ds = ap (λ y. left_at y (d ∷ ds) (left_of p.classes ds)) p.done in
        let q = subst (λ l. Silent (starts s.face find w c d (Initialiser t (d ∷ ds) ∷ r) script) (goes_on s.face find w p.classes t l r script)) m p.silent in
        subst (λ y. Good (quiet (starts s.face find w c d (Initialiser t (d ∷ ds) ∷ r) script)) (first_needed s find w c' t d ds y r script)) (sym (a.done d f) ∙ g')
        (good_behind (quiet (goes_on s.face find w p.classes t (left_of p.classes ds) r script)) (quiet (goes_on s.face find w c' t (left_of c' ds) r script))
        (quiet (starts s.face find w c d (Initialiser t (d ∷ ds) ∷ r) script)) refl q (good_goes_on ds w p.classes c' t r script p.agree e b))
    good_first w c c' t d ds r script a e b true f Running g x' g' =
        subst (λ y. Good (quiet (goes_on s.face find w c t (left_of c ds) r script)) (first_needed s find w c' t d ds y r script)) (sym (a.done d f) ∙ g') (good_goes_on ds w c c' t r script a e b)
    good_first w c c' t d ds r script a e b true f Done g x' g' =
        subst (λ y. Good (quiet (goes_on s.face find w c t (left_of c ds) r script)) (first_needed s find w c' t d ds y r script)) (sym (a.done d f) ∙ g') (good_goes_on ds w c c' t r script a e b)
    good_first w c c' t d ds r script a e b true f Failed g x' g' = absurd (subst IsSound g (a.sound d f))
    good_first w c c' t d ds r script a e b false f New g x' g' =
        subst (λ y. Good (quiet (starts s.face find w c d (Initialiser t (d ∷ ds) ∷ r) script)) (first_needed s find w c' t d ds y r script)) (sym g ∙ a.busy d f ∙ g')
        (good_starts w c c' d (Initialiser t (d ∷ ds) ∷ r) script a f (e, b))
    good_first w c c' t d ds r script a e b false f Running g x' g' =
        subst (λ y. Good (quiet (goes_on s.face find w c t (left_of c ds) r script)) (first_needed s find w c' t d ds y r script)) (sym g ∙ a.busy d f ∙ g') (good_goes_on ds w c c' t r script a e b)
    good_first w c c' t d ds r script a e b false f Done g x' g' =
        subst (λ y. Good (quiet (goes_on s.face find w c t (left_of c ds) r script)) (first_needed s find w c' t d ds y r script)) (sym g ∙ a.busy d f ∙ g') (good_goes_on ds w c c' t r script a e b)
    good_first w c c' t d ds r script a e b false f Failed g x' g' =
        subst (λ y. Good (first_needed s find w c t d ds Failed r script) (first_needed s find w c' t d ds y r script)) (sym g ∙ a.busy d f ∙ g')
        (good_unwinds (Initialiser t (d ∷ ds) ∷ r) (with_thing w (fresh no_class)) c c' (next_object w) script a (e, b))

    good_initialises : (l : List Text) (w : World) (c c' : Classes) (t : Text) (r : List Waiting) (script : List Move) → Agree c c' → calm t ≡ false → Busy r
        → Good (initialises s find w c t l r script) (initialises s find w c' t l r script)
    good_initialises [] w c c' t r script a e b = good_list [] w c c' t r script a e b
    good_initialises (d ∷ ds) w c c' t r script a e b = good_first w c c' t d ds r script a e b (calm d) refl (c d) refl (c' d) refl

    -- ---- what comes of a form, with the calm classes as they are and with them done

    abbrev Calmly : Outcome → Type 0
    Calmly (Starts t) = calm t ≡ false
    Calmly o = Unit {0}

    data AlikeBy (g : (Text → Need) → Outcome) (c c' : Classes) : Type 0 where
      -- the same comes
      Same : g (need_of s.face c) ≡ g (need_of s.face c') → Calmly (g (need_of s.face c')) → AlikeBy g c c'
      -- a calm class comes first, and then the same
      Wait : (t : Text) → calm t ≡ true → g (need_of s.face c) ≡ Starts t → ((x : Classes) → x t ≡ Done → g (need_of s.face x) ≡ g (need_of s.face c')) → Calmly (g (need_of s.face c')) → AlikeBy g c c'

    need_known : (x : Classes) (t : Text) (b : Bool) (y : Status) → is_defined s.face t ≡ b → x t ≡ y → need_of s.face x t ≡ need_if b y
    need_known x t b y e f = ap (λ z. need_if z (x t)) e ∙ ap (need_if b) f

    calm_ready : (n : Need) (w : World) (t : Text) (o : Outcome) → calm t ≡ false → Calmly o → Calmly (when_ready n w t o)
    calm_ready Ready w t o e h = h
    calm_ready Fresh w t o e h = e
    calm_ready Broken w t o e h = tt

    alike_at : (w : World) (t : Text) (o : Outcome) (c c' : Classes) → Calmly o → Agree c c' → (b : Bool) → is_defined s.face t ≡ b → (k : Bool) → calm t ≡ k → (y : Status) → c t ≡ y
        → AlikeBy (λ n. when_ready (n t) w t o) c c'
    alike_at w t o c c' h a false e k f y g =
        let r = need_known c' t false (c' t) e refl in
        Same (ap (λ n. when_ready n w t o) (need_known c t false y e g) ∙ sym (ap (λ n. when_ready n w t o) r)) (subst (λ n. Calmly (when_ready n w t o)) (sym r) h)
    alike_at w t o c c' h a true e true f New g =
        let r = need_known c' t true Done e (a.done t f) in
        Wait t f (ap (λ n. when_ready n w t o) (need_known c t true New e g))
        (λ x d. ap (λ n. when_ready n w t o) (need_known x t true Done e d) ∙ sym (ap (λ n. when_ready n w t o) r)) (subst (λ n. Calmly (when_ready n w t o)) (sym r) h)
    alike_at w t o c c' h a true e true f Running g =
        let r = need_known c' t true Done e (a.done t f) in
        Same (ap (λ n. when_ready n w t o) (need_known c t true Running e g) ∙ sym (ap (λ n. when_ready n w t o) r)) (subst (λ n. Calmly (when_ready n w t o)) (sym r) h)
    alike_at w t o c c' h a true e true f Done g =
        let r = need_known c' t true Done e (a.done t f) in
        Same (ap (λ n. when_ready n w t o) (need_known c t true Done e g) ∙ sym (ap (λ n. when_ready n w t o) r)) (subst (λ n. Calmly (when_ready n w t o)) (sym r) h)
    alike_at w t o c c' h a true e true f Failed g = absurd (subst IsSound g (a.sound t f))
    alike_at w t o c c' h a true e false f y g =
        Same (ap (λ z. when_ready (need_if (is_defined s.face t) z) w t o) (a.busy t f)) (calm_ready (need_of s.face c' t) w t o f h)

    alike_ready : (w : World) (t : Text) (o : Outcome) (c c' : Classes) → Calmly o → Agree c c' → AlikeBy (λ n. when_ready (n t) w t o) c c'
    alike_ready w t o c c' h a = alike_at w t o c c' h a (is_defined s.face t) refl (calm t) refl (c t) refl

    alike_same : (o : Outcome) (c c' : Classes) → Calmly o → AlikeBy (λ n. o) c c'
    alike_same o c c' h = Same refl h

    alike_bool : (b : Bool) (g h : (Text → Need) → Outcome) (c c' : Classes) → AlikeBy g c c' → AlikeBy h c c' → AlikeBy (λ n. elim b as (λ b. Outcome) [ true ↦ g n | false ↦ h n ]) c c'
    alike_bool true g h c c' x y = x
    alike_bool false g h c c' x y = y

    calm_bool : (b : Bool) (o o' : Outcome) → Calmly o → Calmly o' → Calmly (elim b as (λ b. Outcome) [ true ↦ o | false ↦ o' ])
    calm_bool true o o' h k = h
    calm_bool false o o' h k = k

    calm_found : (kind : InvokeKind) (g : Found) (vs : List Value) (w : World) → Calmly (calls_found kind g vs w)
    calm_found kind g vs w = calm_bool g.coded (Enters g.key vs) (calls_uncoded kind g vs w) tt
        (calm_bool (is_native g.flags) (calls_out (native_kind kind) (takes_no_receiver kind) g.key vs w) (faults w abstract_method) tt tt)

    alike_by : (kind : InvokeKind) (k : MethodKey) (vs : List Value) (w : World) (f : Frame) (x : Search) (c c' : Classes) → Agree c c' → AlikeBy (λ n. calls_by n kind k vs w f x) c c'
    alike_by kind k vs w f Nothing c c' a = alike_same (calls_unfound kind k vs w f) c c'
        (calm_bool (is_direct kind && method_eq k object_constructor) (Stays w (next (record f { result = Word 0 })) None) (calls_out kind (takes_no_receiver kind) k vs w) tt tt)
    alike_by kind k vs w f Clash c c' a = alike_same (faults w class_change) c c' tt
    alike_by kind k vs w f (Finds g) c c' a = alike_bool (is_static g.flags) (λ n. when_ready (n g.key.class) w g.key.class (calls_found kind g vs w)) (λ n. calls_found kind g vs w) c c'
        (alike_ready w g.key.class (calls_found kind g vs w) c c' (calm_found kind g vs w) a) (alike_same (calls_found kind g vs w) c c' (calm_found kind g vs w))

    alike_on : (vs : List Value) (w : World) (g : (Text → Need) → Outcome) (c c' : Classes) → AlikeBy g c c' → AlikeBy (λ n. on_receiver vs w (g n)) c c'
    alike_on vs w g c c' x = alike_bool (is_null (receiver vs)) (λ n. faults w null_pointer) g c c' (alike_same (faults w null_pointer) c c' tt) x

    alike_calls : (kind : InvokeKind) (k : MethodKey) (vs : List Value) (w : World) (f : Frame) (c c' : Classes) → Agree c c' → AlikeBy (λ n. calls s.face n kind k vs w f) c c'
    alike_calls call.Static k vs w f c c' a = alike_by call.Static k vs w f (s.face.statically k) c c' a
    alike_calls call.Direct k vs w f c c' a = alike_on vs w (λ n. calls_by n call.Direct k vs w f (s.face.statically k)) c c' (alike_by call.Direct k vs w f (s.face.statically k) c c' a)
    alike_calls call.Super k vs w f c c' a = alike_on vs w (λ n. calls_by n call.Super k vs w f (s.face.above f.method.class k)) c c' (alike_by call.Super k vs w f (s.face.above f.method.class k) c c' a)
    alike_calls call.Virtual k vs w f c c' a = alike_on vs w (λ n. calls_by n call.Virtual k vs w f (s.face.virtually (kind_of w (receiver vs)) k)) c c'
        (alike_by call.Virtual k vs w f (s.face.virtually (kind_of w (receiver vs)) k) c c' a)
    alike_calls call.Interface k vs w f c c' a = alike_on vs w (λ n. calls_by n call.Interface k vs w f (s.face.virtually (kind_of w (receiver vs)) k)) c c'
        (alike_by call.Interface k vs w f (s.face.virtually (kind_of w (receiver vs)) k) c c' a)

    alike_makes : (to : ℕ) (t : Text) (w : World) (f : Frame) (c c' : Classes) → Agree c c' → AlikeBy (λ n. makes s.face n to t w f) c c'
    alike_makes to t w f c c' a =
        let made = with_thing w (fresh t) in let g = next (write f to (next_object w)) in let z = show made t (next_object w) in
        alike_bool (is_defined s.face t) (λ n. when_ready (n t) w t (Stays made g None)) (λ n. Stays z.0 g (Some (event.Make z.1))) c c'
        (alike_ready w t (Stays made g None) c c' tt a) (alike_same (Stays z.0 g (Some (event.Make z.1))) c c' tt)

    calm_value : (item : Item) (to : ℕ) (o : Option Value) (w : World) (f : Frame) → Calmly (reads_value item to o w f)
    calm_value item to None w f = tt
    calm_value item to (Some v) w f = tt

    calm_written : (o : Option World) (f : Frame) → Calmly (written o f)
    calm_written None f = tt
    calm_written (Some w) f = tt

    alike_static : (item : Item) (to : ℕ) (k : FieldKey) (w : World) (f : Frame) (o : Option Place) (c c' : Classes) → Agree c c' → AlikeBy (λ n. reads_static n item to k w f o) c c'
    alike_static item to k w f None c c' a = alike_same (reads_out k None w) c c' tt
    alike_static item to k w f (Some place) c c' a = alike_ready w place.class (reads_value item to (Some (static_value w k place)) w f) c c' tt a

    alike_instance : (item : Item) (to : ℕ) (k : FieldKey) (on : Value) (w : World) (f : Frame) (o : Option Place) (c c' : Classes) → AlikeBy (λ n. reads_instance item to k on w f o) c c'
    alike_instance item to k on w f None c c' = alike_same (reads_out k (Some on) w) c c' tt
    alike_instance item to k on w f (Some place) c c' =
        alike_same (reads_value item to (instance_value k place (thing_at w on)) w f) c c' (calm_value item to (instance_value k place (thing_at w on)) w f)

    alike_put_static : (k : FieldKey) (v : Value) (w : World) (f : Frame) (o : Option Place) (c c' : Classes) → Agree c c' → AlikeBy (λ n. writes_static n k v w f o) c c'
    alike_put_static k v w f None c c' a = alike_same (writes_out k None v w f) c c' tt
    alike_put_static k v w f (Some place) c c' a = alike_ready w place.class (Stays (with_static w (key_at k place) v) (next f) None) c c' tt a

    alike_put : (k : FieldKey) (on v : Value) (w : World) (f : Frame) (o : Option Place) (c c' : Classes) → AlikeBy (λ n. writes_instance k on v w f o) c c'
    alike_put k on v w f None c c' = alike_same (writes_out k (Some on) v w f) c c' tt
    alike_put k on v w f (Some place) c c' =
        alike_same (written (with_instance w (key_at k place) on v (thing_at w on)) f) c c' (calm_written (with_instance w (key_at k place) on v (thing_at w on)) f)

    alike : (e : Effect) (w : World) (f : Frame) (c c' : Classes) → Agree c c' → AlikeBy (λ n. outcome s.face n e w f) c c'
    alike (Goes w1 f1) w f c c' a = alike_same (Stays w1 f1 None) c c' tt
    alike (Faults t) w f c c' a = alike_same (faults w t) c c' tt
    alike (Throws v) w f c c' a = alike_same (Raises w v) c c' tt
    alike (Gives v) w f c c' a = alike_same (Ends v) c c' tt
    alike (Calls kind k vs) w f c c' a = alike_calls kind k vs w f c c' a
    alike (Makes to t) w f c c' a = alike_makes to t w f c c' a
    alike (Reads item to k None) w f c c' a = alike_static item to k w f (s.face.field k) c c' a
    alike (Reads item to k (Some on)) w f c c' a = alike_instance item to k on w f (s.face.field k) c c'
    alike (Writes k None v) w f c c' a = alike_put_static k v w f (s.face.field k) c c' a
    alike (Writes k (Some on) v) w f c c' a = alike_put k on v w f (s.face.field k) c c'
    alike (Locks v) w f c c' a = alike_same (locks w v f) c c' tt
    alike (Unlocks v) w f c c' a = alike_same (unlocks w v f) c c' tt
    alike Stuck w f c c' a = alike_same Halts c c' tt

    good_happens : (o : Outcome) → Calmly o → (w : World) (c c' : Classes) (f : Frame) (r : List Waiting) (script : List Move) → Agree c c' → Busy r
        → Good (happens s find o w c f r script) (happens s find o w c' f r script)
    good_happens (Stays w1 f1 e) h w c c' f r script a b = good_state w1 c c' (Method f1 ∷ r) script e a b
    good_happens (Starts t) h w c c' f r script a b = good_starts w c c' t (Method f ∷ r) script a h b
    good_happens (Enters k vs) h w c c' f r script a b = good_body (find k) w c c' k vs (Method f ∷ r) script a b
    good_happens (Leaves w1 owes e) h w c c' f r script a b = good_state w1 c c' (Outside (Some owes) None ∷ Method f ∷ r) script (Some e) a b
    good_happens (Ends v) h w c c' f r script a b = good_gives r f.method.signature.result w c c' v script a b
    good_happens (Raises w1 v) h w c c' f r script a b = good_unwinds (Method f ∷ r) w1 c c' v script a b
    good_happens Halts h w c c' f r script a b = good_end

    -- ---- a step

    data Prepared (t u : State) : Type 0 where
      Now : Good (step s find t) (step s find u) → Prepared t u
      -- after some steps in silence
      Later : (t0 t1 : State) → step s find t ≡ quiet t0 → Silent t0 t1 → Good (step s find t1) (step s find u) → Prepared t u

    prepared_frame : (w : World) (c c' : Classes) (f : Frame) (r : List Waiting) (script : List Move) → Agree c c' → Busy r
        → AlikeBy (λ n. outcome_at s find n w f) c c' → Prepared (On w c (Method f ∷ r) script) (On w c' (Method f ∷ r) script)
    prepared_frame w c c' f r script a b (Same e h) = Now (subst (λ o. Good (happens s find o w c f r script) (step s find (On w c' (Method f ∷ r) script))) (sym e)
        (good_happens (outcome_at s find (need_of s.face c') w f) h w c c' f r script a b))
    prepared_frame w c c' f r script a b (Wait t k e later h) =
        let p = passed t k w c c' (Method f ∷ r) script a in
        Later (starts s.face find w c t (Method f ∷ r) script) (On w p.classes (Method f ∷ r) script) (ap (λ o. happens s find o w c f r script) e) p.silent
        (subst (λ o. Good (happens s find o w p.classes f r script) (step s find (On w c' (Method f ∷ r) script))) (sym (later p.classes p.done))
        (good_happens (outcome_at s find (need_of s.face c') w f) h w p.classes c' f r script p.agree b))

    -- ---- moves

    good_bool : (b : Bool) (x y x' y' : Next) → Good x x' → Good y y' → Good (elim b [ true ↦ x | false ↦ y ]) (elim b [ true ↦ x' | false ↦ y' ])
    good_bool true x y x' y' g h = g
    good_bool false x y x' y' g h = h

    good_if : (b : Bool) (x x' : Next) → Good x x' → Good (elim b [ true ↦ x | false ↦ quiet Ended ]) (elim b [ true ↦ x' | false ↦ quiet Ended ])
    good_if b x x' g = good_bool b x (quiet Ended) x' (quiet Ended) g good_end

    -- the framework's frame is on top and makes the move
    module _ (w : World) (owes : Option Text) (below : List Waiting) (now : Move) (busy : Busy below) where
      data PreparedMove (rest : List Move) (m : Classes → Next) (c c' : Classes) : Type 0 where
        Once : Good (m c) (m c') → PreparedMove rest m c c'
        Behind : (t : Text) → calm t ≡ true → m c ≡ quiet (starts s.face find w c t (Outside owes (Some now) ∷ below) rest)
            → ((x : Classes) → x t ≡ Done → Agree x c' → Good (m x) (m c')) → PreparedMove rest m c c'

      move_bool : (b : Bool) (rest : List Move) (m m' : Classes → Next) (c c' : Classes) → PreparedMove rest m c c' → PreparedMove rest m' c c' → PreparedMove rest (λ x. elim b as (λ b. Next) [ true ↦ m x | false ↦ m' x ]) c c'
      move_bool true rest m m' c c' p q = p
      move_bool false rest m m' c c' p q = q

      move_end : (rest : List Move) (c c' : Classes) → PreparedMove rest (λ x. quiet Ended) c c'
      move_end rest c c' = Once good_end

      -- the move needs a class
      module _ (t : Text) (rest : List Move) (m : Classes → Next) (c c' : Classes) (agree : Agree c c') (h : (x : Classes) → Agree x c' → Good (m x) (m c')) where
        abbrev needing : Need → Classes → Next
        needing n x = needs s find n w x t (Outside owes (Some now) ∷ below) (Outside owes None ∷ below) rest (m x)

        good_needing : (n : Need) → calm t ≡ false → Good (needing n c) (needing n c')
        good_needing Ready f = h c agree
        good_needing Fresh f = good_starts w c c' t (Outside owes (Some now) ∷ below) rest agree f busy
        good_needing Broken f = good_unwinds (Outside owes None ∷ below) (with_thing w (fresh no_class)) c c' (next_object w) rest agree busy

        both_ready : need_of s.face c t ≡ Ready → need_of s.face c' t ≡ Ready → PreparedMove rest (λ x. needing (need_of s.face x t) x) c c'
        both_ready e e' = Once (subst (λ n. Good (needing n c) (needing (need_of s.face c' t) c')) (sym e) (subst (λ n. Good (m c) (needing n c')) (sym e') (h c agree)))

        move_at : (b : Bool) → is_defined s.face t ≡ b → (k : Bool) → calm t ≡ k → (y : Status) → c t ≡ y → PreparedMove rest (λ x. needing (need_of s.face x t) x) c c'
        move_at false e k f y g = both_ready (need_known c t false y e g) (need_known c' t false (c' t) e refl)
        move_at true e true f New g =
            let r = need_known c' t true Done e (agree.done t f) in
            Behind t f (ap (λ n. needing n c) (need_known c t true New e g))
            (λ x d a. subst (λ n. Good (needing n x) (needing (need_of s.face c' t) c')) (sym (need_known x t true Done e d)) (subst (λ n. Good (m x) (needing n c')) (sym r) (h x a)))
        move_at true e true f Running g = both_ready (need_known c t true Running e g) (need_known c' t true Done e (agree.done t f))
        move_at true e true f Done g = both_ready (need_known c t true Done e g) (need_known c' t true Done e (agree.done t f))
        move_at true e true f Failed g = absurd (subst IsSound g (agree.sound t f))
        move_at true e false f y g = Once (subst (λ n. Good (needing (need_of s.face c t) c) (needing n c')) (ap (λ z. need_if (is_defined s.face t) z) (agree.busy t f)) (good_needing (need_of s.face c t) f))

        move_needs : PreparedMove rest (λ x. needing (need_of s.face x t) x) c c'
        move_needs = move_at (is_defined s.face t) refl (calm t) refl (c t) refl

      good_here : (w' : World) (c c' : Classes) (rest : List Move) (e : Option Event) → Agree c c' → Good (On w' c (Outside owes None ∷ below) rest, e) (On w' c' (Outside owes None ∷ below) rest, e)
      good_here w' c c' rest e a = good_state w' c c' (Outside owes None ∷ below) rest e a busy

      move_entered : (f : Found) (vs : List Value) (rest : List Move) (w' : World) (c c' : Classes) → Agree c c' → PreparedMove rest (λ x. entered s find w x f vs (Outside owes (Some now) ∷ below) (Outside owes None ∷ below) rest w') c c'
      move_entered f vs rest w' c c' a =
          let m : Classes → Next = (λ x. quiet (enters find w' x f.key (spread vs) (Outside owes None ∷ below) rest)) in
          let h : (x : Classes) → Agree x c' → Good (m x) (m c') = (λ x d. good_body (find f.key) w' x c' f.key (spread vs) (Outside owes None ∷ below) rest d busy) in
          move_bool (is_static f.flags) rest (λ x. needs s find (need_of s.face x f.key.class) w x f.key.class (Outside owes (Some now) ∷ below) (Outside owes None ∷ below) rest (m x)) m c c'
          (move_needs f.key.class rest m c c' a h) (Once (h c a))

      move_enter : (o : Option Found) (gs : List Given) (rest : List Move) (c c' : Classes) → Agree c c' → PreparedMove rest (λ x. enter s find w x o gs (Outside owes (Some now) ∷ below) (Outside owes None ∷ below) rest) c c'
      move_enter None gs rest c c' a = move_end rest c c'
      move_enter (Some f) gs rest c c' a = move_bool (may_enter s.face s.outer w (gets_all w gs).0 f gs (gets_all w gs).1) rest
          (λ x. entered s find w x f (gets_all w gs).1 (Outside owes (Some now) ∷ below) (Outside owes None ∷ below) rest (gets_all w gs).0) (λ x. quiet Ended) c c'
          (move_entered f (gets_all w gs).1 rest (gets_all w gs).0 c c' a) (move_end rest c c')

      move_make : (t : Text) (rest : List Move) (c c' : Classes) → Agree c c' → PreparedMove rest (λ x. make s find w x t (Outside owes (Some now) ∷ below) (Outside owes None ∷ below) rest) c c'
      move_make t rest c c' a =
          let z = show (with_thing w (fresh t)) t (next_object w) in
          let m : Classes → Next = (λ x. made w x t (Outside owes None ∷ below) rest) in
          move_bool (may_make s.face s.outer t) rest (λ x. needs s find (need_of s.face x t) w x t (Outside owes (Some now) ∷ below) (Outside owes None ∷ below) rest (m x)) (λ x. quiet Ended) c c'
          (move_needs t rest m c c' a (λ x d. good_here z.0 x c' rest (Some (event.Make z.1)) d)) (move_end rest c c')

      good_answers : (o : Option Text) (g : Option Given) (rest : List Move) (c c' : Classes) → Agree c c' → Good (answers s find w c o g below rest) (answers s find w c' o g below rest)
      good_answers None g rest c c' a = good_end
      good_answers (Some kind) g rest c c' a = good_if (may_answer s.face s.outer w kind g)
          (gives find kind (got w g).0 c (got w g).1 below rest) (gives find kind (got w g).0 c' (got w g).1 below rest)
          (good_gives below kind (got w g).0 c c' (got w g).1 rest a busy)

      good_throws : (o : Option Text) (g : Given) (rest : List Move) (c c' : Classes) → Agree c c' → Good (throws s find w c o g below rest) (throws s find w c' o g below rest)
      good_throws None g rest c c' a = good_end
      good_throws (Some kind) g rest c c' a = good_if (may_throw s.face s.outer w (gets w g).0 g (gets w g).1)
          (unwinds s.face find (gets w g).0 c (gets w g).1 below rest) (unwinds s.face find (gets w g).0 c' (gets w g).1 below rest)
          (good_unwinds below (gets w g).0 c c' (gets w g).1 rest a busy)

      good_shows_value : (o : Option Value) (w' : World) (kind : Text) (rest : List Move) (c c' : Classes) → Agree c c'
          → Good (shows_value w' c kind o (Outside owes None ∷ below) rest) (shows_value w' c' kind o (Outside owes None ∷ below) rest)
      good_shows_value None w' kind rest c c' a = good_end
      good_shows_value (Some v) w' kind rest c c' a = good_here (show w' kind v).0 c c' rest (Some (event.Answer (show w' kind v).1)) a

      good_goes : (o : Option World) (rest : List Move) (c c' : Classes) → Agree c c' → Good (goes o c (Outside owes None ∷ below) rest) (goes o c' (Outside owes None ∷ below) rest)
      good_goes None rest c c' a = good_end
      good_goes (Some w') rest c c' a = good_here w' c c' rest None a

      good_reads : (k : FieldKey) (o : Option Place) (on : Option Given) (rest : List Move) (c c' : Classes) → Agree c c'
          → Good (reads s w c k o on (Outside owes None ∷ below) rest) (reads s w c' k o on (Outside owes None ∷ below) rest)
      good_reads k None on rest c c' a = good_end
      good_reads k (Some place) on rest c c' a = let z = got w on in good_if (s.outer.fields k && on_fits s.face s.outer w z.0 k place on z.1)
          (shows_value z.0 c k.kind (field_value z.0 k place z.1) (Outside owes None ∷ below) rest) (shows_value z.0 c' k.kind (field_value z.0 k place z.1) (Outside owes None ∷ below) rest)
          (good_shows_value (field_value z.0 k place z.1) z.0 k.kind rest c c' a)

      good_writes : (k : FieldKey) (o : Option Place) (on : Option Given) (g : Given) (rest : List Move) (c c' : Classes) → Agree c c'
          → Good (writes s w c k o on g (Outside owes None ∷ below) rest) (writes s w c' k o on g (Outside owes None ∷ below) rest)
      good_writes k None on g rest c c' a = good_end
      good_writes k (Some place) on g rest c c' a =
          let z = got w on in let b = gets z.0 g in
          good_if (s.outer.fields k && on_fits s.face s.outer w z.0 k place on z.1 && fits s.face s.outer z.0 b.0 g b.1 k.kind)
          (goes (with_field b.0 k z.1 (stored (item_of_type k.kind) b.1)) c (Outside owes None ∷ below) rest)
          (goes (with_field b.0 k z.1 (stored (item_of_type k.kind) b.1)) c' (Outside owes None ∷ below) rest)
          (good_goes (with_field b.0 k z.1 (stored (item_of_type k.kind) b.1)) rest c c' a)

      good_reads_item : (o : Option Thing) (n : ℕ) (rest : List Move) (c c' : Classes) → Agree c c'
          → Good (reads_item w c o n (Outside owes None ∷ below) rest) (reads_item w c' o n (Outside owes None ∷ below) rest)
      good_reads_item None n rest c c' a = good_end
      good_reads_item (Some (Instance t fields)) n rest c c' a = good_end
      good_reads_item (Some (Items kind vs)) n rest c c' a = good_shows_value (slice_get vs n) w kind rest c c' a

      good_array_get : (g : Given) (n : ℕ) (rest : List Move) (c c' : Classes) → Agree c c'
          → Good (array_get w c g n (Outside owes None ∷ below) rest) (array_get w c' g n (Outside owes None ∷ below) rest)
      good_array_get g n rest c c' a = good_if (is_exposed w g)
          (reads_item w c (thing_at w (gets w g).1) n (Outside owes None ∷ below) rest) (reads_item w c' (thing_at w (gets w g).1) n (Outside owes None ∷ below) rest)
          (good_reads_item (thing_at w (gets w g).1) n rest c c' a)

      good_writes_item : (on : Value) (o : Option Thing) (n : ℕ) (g : Given) (rest : List Move) (c c' : Classes) → Agree c c'
          → Good (writes_item s w c on o n g (Outside owes None ∷ below) rest) (writes_item s w c' on o n g (Outside owes None ∷ below) rest)
      good_writes_item on None n g rest c c' a = good_end
      good_writes_item on (Some (Instance t fields)) n g rest c c' a = good_end
      good_writes_item on (Some (Items kind vs)) n g rest c c' a = good_if (fits s.face s.outer w (gets w g).0 g (gets w g).1 kind)
          (goes (with_item (gets w g).0 on kind vs n (gets w g).1) c (Outside owes None ∷ below) rest) (goes (with_item (gets w g).0 on kind vs n (gets w g).1) c' (Outside owes None ∷ below) rest)
          (good_goes (with_item (gets w g).0 on kind vs n (gets w g).1) rest c c' a)

      good_array_put : (on : Given) (n : ℕ) (g : Given) (rest : List Move) (c c' : Classes) → Agree c c'
          → Good (array_put s w c on n g (Outside owes None ∷ below) rest) (array_put s w c' on n g (Outside owes None ∷ below) rest)
      good_array_put on n g rest c c' a = good_if (is_exposed w on)
          (writes_item s w c (gets w on).1 (thing_at w (gets w on).1) n g (Outside owes None ∷ below) rest) (writes_item s w c' (gets w on).1 (thing_at w (gets w on).1) n g (Outside owes None ∷ below) rest)
          (good_writes_item (gets w on).1 (thing_at w (gets w on).1) n g rest c c' a)

      good_measures : (o : Option Thing) (rest : List Move) (c c' : Classes) → Agree c c'
          → Good (measures_thing w c o (Outside owes None ∷ below) rest) (measures_thing w c' o (Outside owes None ∷ below) rest)
      good_measures None rest c c' a = good_end
      good_measures (Some (Instance t fields)) rest c c' a = good_end
      good_measures (Some (Items kind vs)) rest c c' a = good_shows_value (Some (Word (length vs))) w (73 ∷ []) rest c c' a

      good_array_length : (g : Given) (rest : List Move) (c c' : Classes) → Agree c c'
          → Good (array_length w c g (Outside owes None ∷ below) rest) (array_length w c' g (Outside owes None ∷ below) rest)
      good_array_length g rest c c' a = good_if (is_exposed w g)
          (measures_thing w c (thing_at w (gets w g).1) (Outside owes None ∷ below) rest) (measures_thing w c' (thing_at w (gets w g).1) (Outside owes None ∷ below) rest)
          (good_measures (thing_at w (gets w g).1) rest c c' a)

      move_after : (script rest : List Move) (pending : Option Move) (c c' : Classes) → Agree c c'
          → ((x : Classes) → framework_turn s find w x owes pending below script ≡ moves s find w x owes now below rest) → PreparedMove rest (λ x. moves s find w x owes now below rest) c c'
          → Prepared (On w c (Outside owes pending ∷ below) script) (On w c' (Outside owes pending ∷ below) script)
      move_after script rest pending c c' a e (Once g) = Now (subst (λ x. Good x (framework_turn s find w c' owes pending below script)) (sym (e c)) (subst (λ x. Good (moves s find w c owes now below rest) x) (sym (e c')) g))
      move_after script rest pending c c' a e (Behind t k z h) =
          let p = passed t k w c c' (Outside owes (Some now) ∷ below) rest a in
          Later (starts s.face find w c t (Outside owes (Some now) ∷ below) rest) (On w p.classes (Outside owes (Some now) ∷ below) rest) (e c ∙ z) p.silent
          (subst (λ x. Good (moves s find w p.classes owes now below rest) x) (sym (e c')) (h p.classes p.done p.agree))

    prepared_move : (w : World) (owes : Option Text) (below : List Waiting) → (b : Busy below) → (m : Move) (rest : List Move) (c c' : Classes) → Agree c c'
        → PreparedMove w owes below m b rest (λ x. moves s find w x owes m below rest) c c'
    prepared_move w owes below b (move.Enter t n q gs) rest c c' a = move_enter w owes below (move.Enter t n q gs) b (s.face.declared t n q) gs rest c c' a
    prepared_move w owes below b (move.Make t) rest c c' a = move_make w owes below (move.Make t) b t rest c c' a
    prepared_move w owes below b (move.Return g) rest c c' a = Once (good_answers w owes below (move.Return g) b owes g rest c c' a)
    prepared_move w owes below b (move.Throw g) rest c c' a = Once (good_throws w owes below (move.Throw g) b owes g rest c c' a)
    prepared_move w owes below b (move.Get t n k on) rest c c' a = Once (good_reads w owes below (move.Get t n k on) b (key_of t n k) (s.face.own_field (key_of t n k)) on rest c c' a)
    prepared_move w owes below b (move.Put t n k on g) rest c c' a = Once (good_writes w owes below (move.Put t n k on g) b (key_of t n k) (s.face.own_field (key_of t n k)) on g rest c c' a)
    prepared_move w owes below b (move.ArrayGet g n) rest c c' a = Once (good_array_get w owes below (move.ArrayGet g n) b g n rest c c' a)
    prepared_move w owes below b (move.ArrayPut on n g) rest c c' a = Once (good_array_put w owes below (move.ArrayPut on n g) b on n g rest c c' a)
    prepared_move w owes below b (move.ArrayLength g) rest c c' a = Once (good_array_length w owes below (move.ArrayLength g) b g rest c c' a)

    prepared_turn : (w : World) (owes : Option Text) (pending : Option Move) (below : List Waiting) → Busy below → (script : List Move) (c c' : Classes) → Agree c c'
        → Prepared (On w c (Outside owes pending ∷ below) script) (On w c' (Outside owes pending ∷ below) script)
    prepared_turn w owes (Some m) below b script c c' a = move_after w owes below m b script script (Some m) c c' a (λ x. refl) (prepared_move w owes below b m script c c' a)
    prepared_turn w owes None below b [] c c' a = Now good_end
    prepared_turn w owes None below b (m ∷ rest) c c' a = move_after w owes below m b (m ∷ rest) rest None c c' a (λ x. refl) (prepared_move w owes below b m rest c c' a)

    prepared_stack : (stack : List Waiting) (w : World) (c c' : Classes) (script : List Move) → Agree c c' → Busy stack → Prepared (On w c stack script) (On w c' stack script)
    prepared_stack [] w c c' script a b = Now good_end
    prepared_stack (Method f ∷ r) w c c' script a b = prepared_frame w c c' f r script a b (alike (effect_of s (form_at find f) w f) w f c c' a)
    prepared_stack (Initialiser t l ∷ r) w c c' script a b = Now (good_initialises l w c c' t r script a b.0 b.1)
    prepared_stack (Ending t ∷ r) w c c' script a b = Now (good_resumes r w (put_status t Done c) (put_status t Done c') script (put_busy c c' t Done b.0 a) b.1)
    prepared_stack (Outside owes pending ∷ r) w c c' script a b = prepared_turn w owes pending r b script c c' a

    prepared : (t u : State) → Core t u → Prepared t u
    prepared Ended u h = subst (λ x. Prepared Ended x) (sym h) (Now good_end)
    prepared (On w c stack script) u h = subst (λ x. Prepared (On w c stack script) x) (sym h.1.0) (prepared_stack stack w c h.0 script h.1.1.0 h.1.1.1)

    -- ---- both runs show the same

    abbrev Back : State → State → Type 0
    Back u t = Core t u

    -- steps in silence, and then what one step of the other comes to
    later_ends : (t t0 t1 u : State) (e : step s find t ≡ quiet t0) (q : Silent t0 t1) (g : Good (step s find t1) (step s find u)) → after s find t (suc (joined q.steps (suc g.silent.steps))) ≡ g.to
    later_ends t t0 t1 u e q g = ap (λ x. after s find x.0 (joined q.steps (suc g.silent.steps))) e ∙ after_joined s find q.steps (suc g.silent.steps) t0
        ∙ ap (λ x. after s find x (suc g.silent.steps)) q.ends ∙ g.silent.ends

    later_shown : (t t0 t1 u : State) (e : step s find t ≡ quiet t0) (q : Silent t0 t1) (g : Good (step s find t1) (step s find u)) → shows_from s find t (suc (joined q.steps (suc g.silent.steps))) ≡ shows_from s find u 1
    later_shown t t0 t1 u e q g =
        let n = joined q.steps (suc g.silent.steps) in
        ap (λ x. events_of x.1 ++ shows_from s find x.0 n) e ∙ shows_joined s find q.steps (suc g.silent.steps) t0
        ∙ ap (λ l. l ++ shows_from s find (after s find t0 q.steps) (suc g.silent.steps)) q.silent ∙ ap (λ x. shows_from s find x (suc g.silent.steps)) q.ends
        ∙ ap (λ l. events_of (step s find t1).1 ++ l) g.silent.silent ∙ sym (ap (λ y. events_of y ++ []) g.shown)

    there : (t u : State) → Core t u → Prepared t u → (k : ℕ) × ((j : ℕ) × ((shows_from s find u j ≡ shows_from s find t (suc k)) × Core (after s find t (suc k)) (after s find u j)))
    there t u h (Now g) = (
      g.silent.steps,
      (
        1,
        (
          ap (λ e. events_of e ++ []) g.shown ∙ ap (λ l. events_of (step s find t).1 ++ l) (sym g.silent.silent),
          subst (λ x. Core x (step s find u).0) (sym g.silent.ends) g.core,
        ),
      ),
    )
    there t u h (Later t0 t1 e q g) = (joined q.steps (suc g.silent.steps), (1, (sym (later_shown t t0 t1 u e q g), subst (λ x. Core x (step s find u).0) (sym (later_ends t t0 t1 u e q g)) g.core)))

    back_again : (t u : State) → Core t u → Prepared t u → (k : ℕ) × ((j : ℕ) × ((shows_from s find t j ≡ shows_from s find u (suc k)) × Back (after s find u (suc k)) (after s find t j)))
    back_again t u h (Now g) = (
      0,
      (
        suc g.silent.steps,
        (
          sym (ap (λ e. events_of e ++ []) g.shown ∙ ap (λ l. events_of (step s find t).1 ++ l) (sym g.silent.silent)),
          subst (λ x. Core x (step s find u).0) (sym g.silent.ends) g.core,
        ),
      ),
    )
    back_again t u h (Later t0 t1 e q g) =
        (0, (suc (joined q.steps (suc g.silent.steps)), (later_shown t t0 t1 u e q g, subst (λ x. Core x (step s find u).0) (sym (later_ends t t0 t1 u e q g)) g.core)))

    pub calm_follows : Follows s find s find Core
    calm_follows = record { on = λ t u h. there t u h (prepared t u h) }

    pub calm_followed : Follows s find s find Back
    calm_followed = record { on = λ u t h. back_again t u h (prepared t u h) }

    calm_agree : Agree (λ t. New) (calm_classes calm)
    calm_agree = record { busy = λ t e. sym (ap status_if e); done = λ t e. ap status_if e; sound = λ t e. tt }

    -- what a program shows, it shows where the calm classes are done
    pub calm_shows : (script : List Move) → Shows s find s find (opening script) (calm_opening calm script)
    calm_shows script = follows_shows s find s find Core calm_follows (opening script) (calm_opening calm script) (calm_classes calm, (refl, (calm_agree, tt)))

    pub calm_shown : (script : List Move) → Shows s find s find (calm_opening calm script) (opening script)
    calm_shown script = follows_shows s find s find Back calm_followed (calm_opening calm script) (opening script) (calm_classes calm, (refl, (calm_agree, tt)))

    -- ---- in a run that begins with the calm classes done they stay so

    pub record CalmState (u : State) : Type 0 where
      pub from : State
      pub core : Core from u

    pub calm_start : (script : List Move) → CalmState (calm_opening calm script)
    calm_start script = record { from = opening script; core = (calm_classes calm, (refl, (calm_agree, tt))) }

    next_calm : (t u : State) → Prepared t u → CalmState (step s find u).0
    next_calm t u (Now g) = record { from = g.to; core = g.core }
    next_calm t u (Later t0 t1 e q g) = record { from = g.to; core = g.core }

    pub calm_keeps : (u : State) → CalmState u → CalmState (step s find u).0
    calm_keeps u h = next_calm h.from u (prepared h.from u h.core)

    abbrev is_on : State → Bool
    is_on Ended = false
    is_on (On w c stack script) = true

    abbrev classes_of : State → Classes
    classes_of Ended = λ t. New
    classes_of (On w c stack script) = c

    core_done : (t : State) (w : World) (c : Classes) (stack : List Waiting) (script : List Move) → Core t (On w c stack script) → (d : Text) → calm d ≡ true → c d ≡ Done
    core_done Ended w c stack script h d e = absurd (true≢false (ap is_on h))
    core_done (On v b r z) w c stack script h d e = ap (λ x. classes_of x d) h.1.0 ∙ h.1.1.0.done d e

    pub calm_done : (w : World) (c : Classes) (stack : List Waiting) (script : List Move) → CalmState (On w c stack script) → (d : Text) → calm d ≡ true → c d ≡ Done
    calm_done w c stack script h d e = core_done h.from w c stack script h.core d e
