-- The move of a play: the one that waits with the framework's frame, or the next of the script.
use Rattle.std.proofs.Common.{◌≡◌, ℕ, zero, suc, ◌+◌, ◌<◌, List, [], ◌∷◌, length, arith, ap, refl, subst, ◌∙◌}
use Rattle.std.specs.Prelude.{◌^◌, drop, slice_get, Option, Some, None}
use Rattle.program_model.specs.declared.pass.Outside.{Outside}
use Rattle.dalvik_defs.specs.declared.script.Move.{Move}
use Rattle.dalvik_lookups.specs.Playing.{AreEach, ArePlays, IsPlay}
use Rattle.dalvik_lookups.specs.declared.lookups.Lookups.{Lookups}
use Rattle.dalvik_lookups.specs.declared.memo.Memo.{Memo}
use Rattle.dalvik_lookups.specs.declared.plays.Play.{Play}
use Rattle.dalvik_lookups.specs.declared.types.Kind.{Kind}
use Rattle.dalvik_state.specs.declared.state.State.{State}
use Rattle.dalvik_state.specs.declared.state.Waiting.TheVariants as waiting
use Rattle.dalvik_state.specs.Runs.{script_in, IsReach, IsRun}
use Rattle.dalvik_state.specs.States.{move_of}
use Rattle.dalvik_steps.specs.Backs.{last_of}
use Rattle.dalvik_moves.specs.Moving.{play_of, IsMoving, IsTaking}

-- what stands for an entry is there at its place
pub record StandsFor {A B : Type 0} (R : A → B → Type 0) (xs : List A) (n : ℕ) (b : B) : Type 0 where
  pub first : A
  pub there : slice_get xs n ≡ Some first
  pub is : R first b

pub stands_for : {A B : Type 0} (R : A → B → Type 0) (xs : List A) (ys : List B) (n : ℕ) (b : B) → AreEach R xs ys → slice_get ys n ≡ Some b → StandsFor R xs n b
stands_for R [] [] n b h e = absurd (cc)
stands_for R [] (y ∷ ys) n b h e = absurd h
stands_for R (x ∷ xs) [] n b h e = absurd h
stands_for R (x ∷ xs) (y ∷ ys) zero b h e = (let same : y ≡ b = cc in record { first = x; there = refl; is = subst (R x) same h.0 })
stands_for R (x ∷ xs) (y ∷ ys) (suc n) b h e = let t = stands_for R xs ys n b h.1 e in record { first = t.first; there = t.there; is = t.is }

-- nothing stands behind the last
pub nothing_there : {A B : Type 0} (R : A → B → Type 0) (xs : List A) (ys : List B) (n : ℕ) → AreEach R xs ys → slice_get ys n ≡ None → slice_get xs n ≡ None
nothing_there R [] [] n h e = refl
nothing_there R [] (y ∷ ys) n h e = absurd h
nothing_there R (x ∷ xs) [] n h e = absurd h
nothing_there R (x ∷ xs) (y ∷ ys) zero h e = absurd (cc)
nothing_there R (x ∷ xs) (y ∷ ys) (suc n) h e = nothing_there R xs ys n h.1 e

pub as_long : {A B : Type 0} (R : A → B → Type 0) (xs : List A) (ys : List B) → AreEach R xs ys → length xs ≡ length ys
as_long R [] [] h = refl
as_long R [] (y ∷ ys) h = absurd h
as_long R (x ∷ xs) [] h = absurd h
as_long R (x ∷ xs) (y ∷ ys) h = ap suc (as_long R xs ys h.1)

-- what is left from an entry on
pub left_from : {A : Type 0} (xs : List A) (n : ℕ) (x : A) → slice_get xs n ≡ Some x → drop n xs ≡ x ∷ drop (n + 1) xs
left_from [] n x e = absurd (cc)
left_from (y ∷ ys) zero x e = (let same : y ≡ x = cc in ap (λ z. z ∷ ys) same)
left_from (y ∷ ys) (suc n) x e = let step : suc (n + 1) ≡ suc n + 1 = omega arith in left_from ys n x e ∙ ap (λ (k : ℕ). x ∷ drop k (y ∷ ys)) step

pub left_past : {A : Type 0} (xs : List A) (n : ℕ) → slice_get xs n ≡ None → drop n xs ≡ []
left_past [] zero e = refl
left_past [] (suc n) e = refl
left_past (y ∷ ys) zero e = absurd (cc)
left_past (y ∷ ys) (suc n) e = left_past ys n e

pub there_low : {A : Type 0} (xs : List A) (n : ℕ) (x : A) → slice_get xs n ≡ Some x → n < length xs
there_low [] n x e = absurd (cc)
there_low (y ∷ ys) zero x e = omega arith
there_low (y ∷ ys) (suc n) x e = let low = there_low ys n x e in omega (arith, low)

-- ---- the play of a move that waits

-- a move waits at a place, or none
pub record WaitsAt (script : List Move) (pending : Option ℕ) (y : Play) (IsSo : Move → Play → Type 0) : Type 0 where
  pub place : ℕ
  pub is_at : pending ≡ Some place
  pub first : Move
  pub there : slice_get script place ≡ Some first
  pub is : IsSo first y

pub waits_at : (R : Move → Play → Type 0) (script : List Move) (plays : List Play) (pending : Option ℕ) (y : Play) → AreEach R script plays → play_of plays pending ≡ Some y → WaitsAt script pending y R
waits_at R script plays None y h e = absurd (cc)
waits_at R script plays (Some place) y h e = let t = stands_for R script plays place y h e in record { place = place; is_at = refl; first = t.first; there = t.there; is = t.is }

pub waits_none : (R : Move → Play → Type 0) (script : List Move) (plays : List Play) (pending : Option ℕ) → AreEach R script plays → play_of plays pending ≡ None → move_of script pending ≡ None
waits_none R script plays None h e = refl
waits_none R script plays (Some place) h e = nothing_there R script plays place h e

module _ (l : Lookups) (o : Outside) (m : Memo) (script : List Move) (plays : List Play) (steps : ℕ) (s : State) (owes : Option Kind) (few : length plays < 2 ^ 64) (run : IsRun l m steps s) (reach : IsReach l o) (each : ArePlays l.program.now l.types l.texts script plays) where
  abbrev Stands : Move → Play → Type 0
  Stands = IsPlay l.program.now l.types l.texts

  short : length script < 2 ^ 64
  short = let long = as_long Stands script plays each in omega (arith, long, few)

  -- the move that waits with the framework's frame
  pub waiting_moves : (pending : Option ℕ) (place : ℕ) (first : Move) → last_of s.stack.items ≡ Some (waiting.Outside owes pending) → pending ≡ Some place → slice_get script place ≡ Some first → IsMoving l o m script steps s owes first (script_in script s)
  waiting_moves pending place first top at there = record {
    run = run;
    reach = reach;
    place = place;
    top = top ∙ ap (λ (p : Option ℕ). Some (waiting.Outside owes p)) at;
    waits = there;
    left = refl;
  }

  -- the next move of the script
  pub next_begins : (pending : Option ℕ) (first : Move) → last_of s.stack.items ≡ Some (waiting.Outside owes pending) → slice_get script s.next ≡ Some first → IsTaking l o m script steps s owes pending first (drop (s.next + 1) script)
  next_begins pending first top there = record { run = run; reach = reach; top = top; next = there; left = refl; short = short }
