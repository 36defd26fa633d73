-- What advisers are told.
use Rattle.std.proofs.Common.{◌≡◌, ◌≤◌, ℕ, Bool, List, [], ◌∷◌, ◌++◌, Result, Ok, Err, length, map, take, refl, sym, ap, ◌∙◌, subst}
use Rattle.std.specs.Prelude.{OnOk}
use Rattle.std.proofs.lemmas.List.{nil_from_length}
use Rattle.std.specs.List.{flat_map}
use Rattle.command_line.specs.declared.command.Tell.{Tell}
use Rattle.command_line.specs.declared.command.Tell.TheVariants as say
use Rattle.redex_outside.specs.declared.adviser.Key.{Key}
use Rattle.redex_outside.specs.Turns.{Turn, Told, weigh_count}
use Rattle.redex_outside.specs.Voices.{Voice}
use Rattle.redex_outside.specs.Panels.{HasRun}
use Rattle.redex_outside.proofs.Runs.{run_start}
use Rattle.pipeline.proofs.Turns.{all_run}
use Rattle.redex_cli.specs.Finished.{AreTold, turn_told}

-- one telling, and no turn before it
pub one_told : {T E : Type 0} (r : Result T E) (which : Key) (number : ℕ) (text : List ℕ) (turn : Turn) (olds news : List Voice) (before after : List Bool) → turn ≡ Told which number text
    → OnOk r ((turns : List Turn) (first : List Voice) (given : List Bool) → HasRun turns first olds given before → HasRun (turns ++ Told which number text ∷ []) first news given after)
    → OnOk r (HasRun (turn ∷ []) olds news before after)
one_told (Ok x) which number text turn olds news before after is runs = subst (λ (t : Turn). HasRun (t ∷ []) olds news before after) (sym is) (runs [] olds before (run_start olds before))
one_told (Err e) which number text turn olds news before after is runs = tt

-- each of these turns alone
abbrev pub turns_one : Tell → List Turn
turns_one t = turn_told t ∷ []

one_each : (tells : List Tell) → flat_map turns_one tells ≡ map turn_told tells
one_each [] = refl
one_each (t ∷ tells) = ap (λ (l : List Turn). turn_told t ∷ l) (one_each tells)

none_weighed : (tells : List Tell) → weigh_count (map turn_told tells) ≡ 0
none_weighed [] = refl
none_weighed (say.Spare prefix ∷ tells) = none_weighed tells
none_weighed (say.AtMost number ∷ tells) = none_weighed tells

module _ (tells : List Tell) (voices told : List Voice) where
  -- the end of a loop that tells
  pub all_told : (before after : List Bool) (i : ℕ) → length tells ≤ i → HasRun (flat_map turns_one (take i tells)) voices told before after → HasRun (map turn_told tells) voices told before after
  all_told before after i le run = subst (λ (l : List Turn). HasRun l voices told before after) (one_each tells) (all_run turns_one tells voices told before after i le run)

  -- where nothing was asked before, nothing was asked
  none_given : (after : List Bool) → HasRun (map turn_told tells) voices told [] after → after ≡ []
  none_given after run = run.grown ∙ ap (λ rows. flat_map (λ row. row) rows) (nil_from_length run.rows (run.each_ask ∙ none_weighed tells))

  pub none_asked : (before after : List Bool) → before ≡ [] → HasRun (map turn_told tells) voices told before after → after ≡ []
  none_asked before after none run = none_given after (subst (λ (l : List Bool). HasRun (map turn_told tells) voices told l after) none run)

-- the advisers that were given are these, and no answer was there
pub told_so : {A : Type 0} (voice : A → Voice) (tells : List Tell) (given olds : List A) (told : List Voice) (before after : List Bool) → olds ≡ given → before ≡ []
    → HasRun (map turn_told tells) (map voice olds) told before after → AreTold tells (map voice given) told
told_so {A = A} voice tells given olds told before after same none run =
    let first : HasRun (map turn_told tells) (map voice olds) told [] after = subst (λ (l : List Bool). HasRun (map turn_told tells) (map voice olds) told l after) none run in
    subst (λ (l : List A). AreTold tells (map voice l) told) same
    (subst (λ (l : List Bool). HasRun (map turn_told tells) (map voice olds) told [] l) (none_given tells (map voice olds) told after first) first)
