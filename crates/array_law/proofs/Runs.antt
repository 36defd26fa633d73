-- The frames of each run of a typed program stand where the typings of their bodies have states.
use Rattle.std.proofs.Common.{◌≡◌, ℕ, zero, suc, Bool, true, false, List, [], ◌∷◌, ◌++◌, refl, sym, ap, ◌∙◌, subst}
use Rattle.std.specs.Prelude.{◌&&◌, ◌||◌, not, Option, Some, None, slice_get, codes}
use Rattle.std.specs.List.{list_all}
use Rattle.std.specs.Option.{option_and_then}
use Rattle.lemmas.proofs.Options.{some_same}
use Rattle.dalvik_defs.specs.Names.{Text, text_eq, is_array, is_reference, item_of}
use Rattle.dalvik_defs.specs.Face.{Face, face_of, bodies_of}
use Rattle.dalvik_defs.specs.Outer.{Outer}
use Rattle.dalvik_defs.specs.Shown.{fit_given, fit_option, fit_move}
use Rattle.dalvik_defs.specs.Stack.{form_at}
use Rattle.dalvik_defs.specs.State.{Classes, New, State, On, Ended, opening}
use Rattle.dalvik_defs.specs.Step.{after, setting_of, step}
use Rattle.dalvik_defs.specs.declared.state.Frame.{Frame}
use Rattle.dalvik_defs.specs.declared.state.Waiting.TheVariants.{Method, Initialiser, Ending, Outside}
use Rattle.dalvik_defs.specs.declared.names.MethodKey.{MethodKey}
use Rattle.dalvik_defs.specs.declared.forms.Form.{Form}
use Rattle.dalvik_defs.specs.declared.forms.Form.TheVariants as form
use Rattle.dalvik_defs.specs.declared.script.Given.{Given}
use Rattle.dalvik_defs.specs.declared.script.Given.TheVariants as given
use Rattle.dalvik_defs.specs.declared.script.Move.{Move}
use Rattle.dalvik_defs.specs.declared.script.Move.TheVariants as move
use Rattle.dalvik_defs.specs.declared.program.NamedBody.{NamedBody}
use Rattle.dalvik_defs.specs.declared.program.NamedClass.{NamedClass}
use Rattle.dalvik_defs.specs.declared.program.NamedMethod.{NamedMethod}
use Rattle.dalvik_defs.specs.declared.program.NamedProgram.{NamedProgram}
use Rattle.dalvik_defs.specs.declared.tables.Framework.{Framework}
use Rattle.dalvik_defs.specs.declared.tables.Floats.{Floats}
use Rattle.pass_defs.specs.Bare.{may_throw}
use Rattle.pass_defs.specs.Walks.{handlers_at, onward, caught}
use Rattle.pass_defs.specs.Registers.{Kinds}
use Rattle.pass_defs.specs.Typed.{is_wrong, wrong_filled, IsTyped}
use Rattle.removal_law.specs.Left.{In}
use Rattle.removal_law.specs.Agree.{sieved, CalmDone, Agree}
use Rattle.removal_law.proofs.Lists.{clash, in_front, in_back}
use Rattle.removal_law.proofs.TypedCode.{not_not}
use Rattle.removal_law.proofs.Trivial.{AnyType, AnyMethod, AnyForm, itself}
use Rattle.removal_law.proofs.Stacks.{StateOk}
use Rattle.removal_law.proofs.Steps.{stepping}
use Rattle.array_law.specs.Making.{NamesArrayOf, NamesMaybe, MakesArray, MakesArrays}
use Rattle.array_law.proofs.States.{HasState, entry_state, next_state, right_state}

-- ---- every script fits a program without classes

abbrev pub emptied : NamedProgram → NamedProgram
emptied p = record p { classes = [] }

module _ (p : NamedProgram) (o : Outer) where
  given_fits : (g : Given) → fit_given (emptied p) o g ≡ true
  given_fits given.Null = refl
  given_fits (given.Word n) = refl
  given_fits (given.Wide n) = refl
  given_fits (given.Exposed n) = refl
  given_fits (given.New kind) = refl
  given_fits (given.Array item size) = refl
  given_fits (given.Literal t) = refl
  given_fits (given.Class t) = refl

  option_fits : (g : Option Given) → fit_option (emptied p) o g ≡ true
  option_fits (Some g) = given_fits g
  option_fits None = refl

  givens_fit : (gs : List Given) → list_all (fit_given (emptied p) o) gs ≡ true
  givens_fit [] = refl
  givens_fit (g ∷ gs) = ap (λ b. b && list_all (fit_given (emptied p) o) gs) (given_fits g) ∙ givens_fit gs

  move_fits : (x : Move) → fit_move (emptied p) o x ≡ true
  move_fits (move.Enter c n q gs) = givens_fit gs
  move_fits (move.Make c) = refl
  move_fits (move.Return g) = option_fits g
  move_fits (move.Throw g) = given_fits g
  move_fits (move.Get c n k on) = option_fits on
  move_fits (move.Put c n k on g) = ap (λ b. b && fit_given (emptied p) o g) (option_fits on) ∙ given_fits g
  move_fits (move.ArrayGet on n) = given_fits on
  move_fits (move.ArrayPut on n g) = ap (λ b. b && fit_given (emptied p) o g) (given_fits on) ∙ given_fits g
  move_fits (move.ArrayLength on) = given_fits on

  pub script_fits : (script : List Move) → list_all (fit_move (emptied p) o) script ≡ true
  script_fits [] = refl
  script_fits (x ∷ script) = ap (λ b. b && list_all (fit_move (emptied p) o) script) (move_fits x) ∙ script_fits script

-- ---- a form that is not wrong

filled_array : (t : Text) → not (wrong_filled t) ≡ true → is_array t ≡ true
filled_array t e = by (is_array t) (text_eq (item_of t) (codes "I") || is_reference (item_of t)) e
  where
    by : (b d : Bool) → not (not b || not d) ≡ true → b ≡ true
    by true d i = refl
    by false d i = clash false i refl

names_array : (p : NamedProgram) (c : NamedClass) (m : NamedMethod) (a : Kinds) (f : Form) → not (is_wrong p c m a f) ≡ true → NamesArrayOf f
names_array p c m a (form.NewArray to size kind) e = not_not (is_array kind) e
names_array p c m a (form.FilledNewArray kind args) e = filled_array kind e
names_array p c m a f e = tt

-- ---- states of a run

abbrev never : Text → Bool
never t = false

never_calm : (c : Classes) → CalmDone never c
never_calm c t e = clash false e refl

module _ (p : NamedProgram) (typed : IsTyped p) (o : Outer) (f : Framework) (floats : Floats) where
  abbrev F : Face
  F = face_of p f

  -- a position of a method at which its body has a state
  abbrev Stands : MethodKey → ℕ → Type 0
  Stands k n = (b : NamedBody) → bodies_of p k ≡ Some b → HasState p b n

  goes_on : (k : MethodKey) (b : NamedBody) (n m : ℕ) (x : Form) → bodies_of p k ≡ Some b → Stands k n → slice_get b.forms n ≡ Some x → In m (onward x n ++ caught b x n) → Stands k m
  goes_on k b n m x e s i j = λ d a. subst (λ y. HasState p y m) (some_same b d (sym e ∙ a)) (next_state p b n m x (s b e) i j)

  caught_in : (b : NamedBody) (n m : ℕ) (x : Form) → may_throw x ≡ true → In m (handlers_at b n) → In m (caught b x n)
  caught_in b n m x e i = subst (λ y. In m (elim y as (λ y. List ℕ) [ true ↦ handlers_at b n | false ↦ [] ])) (sym e) i

  -- the machine over the program agrees with itself, and its frames go on to such positions
  agrees : Agree AnyType AnyType AnyMethod AnyForm Stands never (emptied p) o F (sieved never F) (bodies_of p) (bodies_of p)
  agrees = let t = itself never (emptied p) o F (bodies_of p) in record {
    flags = t.flags;
    under = t.under;
    known = t.known;
    empty = t.empty;
    array = t.array;
    item = t.item;
    base = t.base;
    new_fits = t.new_fits;
    new_made = t.new_made;
    array_fits = t.array_fits;
    bodies = t.bodies;
    class_ok = t.class_ok;
    result_ok = t.result_ok;
    parameters_ok = t.parameters_ok;
    code = λ k b n x l e s i. tt;
    entry = λ k b l e. λ d a. entry_state p k d typed a;
    onwards = λ k b n m x l e s i j. goes_on k b n m x e s i (in_front m (onward x n) (caught b x n) j);
    catches = λ k b n m x l e s i y j. goes_on k b n m x e s i (in_back m (onward x n) (caught b x n) (caught_in b n m x y j));
    news = t.news;
    arrays = t.arrays;
    filled = t.filled;
    fields = t.fields;
    calls = t.calls;
    answers = t.answers;
    initialiser = t.initialiser;
    initialiser_live = t.initialiser_live;
    first = t.first;
    first_ok = t.first_ok;
    declared = t.declared;
    makes = t.makes;
    made_ok = t.made_ok;
    own_field = t.own_field;
    own_kind = t.own_kind;
  }

  abbrev Standing : State → Type 0
  Standing = StateOk AnyType AnyType AnyMethod AnyForm Stands never (emptied p) o F (sieved never F) (bodies_of p) (bodies_of p) agrees

  begins : (script : List Move) → Standing (opening script)
  begins script = (record { kinds = tt; mades = tt }, (((tt, tt), tt), (never_calm (λ t. New), script_fits p o script)))

  stays : (k : ℕ) (t : State) → Standing t → Standing (after (setting_of p o f floats) (bodies_of p) t k)
  stays zero t h = h
  stays (suc k) t h = stays k (step (setting_of p o f floats) (bodies_of p) t).0
      (stepping AnyType AnyType AnyMethod AnyForm Stands never (emptied p) o F (sieved never F) (bodies_of p) (bodies_of p) agrees floats t h).good

  -- ---- what comes next

  named_in : (b : NamedBody) (n : ℕ) → HasState p b n → NamesMaybe (slice_get b.forms n)
  named_in b n h = by (slice_get b.forms n) refl
    where
      by : (x : Option Form) → slice_get b.forms n ≡ x → NamesMaybe x
      by None e = tt
      by (Some x) e = names_array p h.class h.method h.kinds x (right_state p b n x h e)

  named_at : (g : Frame) → Stands g.method g.position → NamesMaybe (form_at (bodies_of p) g)
  named_at g s = by (bodies_of p g.method) s
    where
      by : (x : Option NamedBody) → ((b : NamedBody) → x ≡ Some b → HasState p b g.position) → NamesMaybe (option_and_then (λ b. slice_get b.forms g.position) x)
      by None s = tt
      by (Some b) s = named_in b g.position (s b refl)

  makes_array : (t : State) → Standing t → MakesArray (bodies_of p) t
  makes_array Ended h = tt
  makes_array (On w c [] script) h = tt
  makes_array (On w c (Method g ∷ rest) script) h = named_at g h.1.0.0.1
  makes_array (On w c (Initialiser t above ∷ rest) script) h = tt
  makes_array (On w c (Ending t ∷ rest) script) h = tt
  makes_array (On w c (Outside owes pending ∷ rest) script) h = tt

  makes_arrays : (script : List Move) (n : ℕ) → MakesArrays (setting_of p o f floats) (bodies_of p) (opening script) n
  makes_arrays script n = record { at = λ k lt. makes_array (after (setting_of p o f floats) (bodies_of p) (opening script) k) (stays k (opening script) (begins script)) }

pub make_arrays : (p : NamedProgram) → IsTyped p → (o : Outer) (f : Framework) (floats : Floats) (script : List Move) (n : ℕ) → MakesArrays (setting_of p o f floats) (bodies_of p) (opening script) n
make_arrays p typed o f floats script n = makes_arrays p typed o f floats script n
