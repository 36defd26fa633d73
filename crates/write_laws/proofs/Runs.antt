-- Runs one behind another stand where they begin.
use Rattle.std.proofs.Common.{◌≡◌, ◌≤◌, ◌+◌, ◌-◌, ℕ, Bool, true, false, cond, List, [], ◌∷◌, ◌++◌, length, replicate, refl, subst, append_assoc, length-append, arith, nat_eq}
use Rattle.std.proofs.lemmas.List.{length-replicate}
use Rattle.dex_write.specs.declared.run.Run.{Run}
use Rattle.dex_write.specs.Runs.{end_behind, run_text, runs_text}
use Rattle.dex_write.specs.File.{ends_behind}
use Rattle.dex_defs.specs.Here.{Here, AreZeros}
use Rattle.write_laws.proofs.Here.{here_left, here_right, here_is, here_same}

-- where a run has items, it begins no earlier than where those before it end, and zeros stand between
pub record RunStands (bytes : List ℕ) (at : ℕ) (run : Run) : Type 0 where
  pub here : nat_eq run.count 0 ≡ false → Here bytes run.at run.bytes
  pub zeros : nat_eq run.count 0 ≡ false → AreZeros bytes at run.at

abbrev pub RunsStand : List ℕ → ℕ → List Run → Type 0
RunsStand bytes at [] = Unit {0}
RunsStand bytes at (run ∷ runs) = RunStands bytes at run × RunsStand bytes (end_behind at run) runs

abbrev pub RunsAscend : ℕ → List Run → Type 0
RunsAscend at [] = Unit {0}
RunsAscend at (run ∷ runs) = (nat_eq run.count 0 ≡ false → at ≤ run.at) × RunsAscend (end_behind at run) runs

record OneRun (bytes : List ℕ) (at : ℕ) (run : Run) (rest : List ℕ) : Type 0 where
  stands : RunStands bytes at run
  behind : Here bytes (end_behind at run) rest

one_run : (bytes : List ℕ) (at : ℕ) (run : Run) (rest : List ℕ) (none : Bool) → nat_eq run.count 0 ≡ none → (nat_eq run.count 0 ≡ false → at ≤ run.at) → Here bytes at (run_text at run ++ rest) → OneRun bytes at run rest
one_run bytes at run rest true e le h = record {
  stands = record { here = λ f. absurd cc; zeros = λ f. absurd cc };
  behind = rw e (subst (λ (b : Bool). Here bytes at (cond b [] (replicate (run.at - at) 0 ++ run.bytes) ++ rest)) e h);
}
one_run bytes at run rest false e le h =
    let pad : List ℕ = replicate (run.at - at) 0 in
    let whole : Here bytes at ((pad ++ run.bytes) ++ rest) = subst (λ (b : Bool). Here bytes at (cond b [] (replicate (run.at - at) 0 ++ run.bytes) ++ rest)) e h in
    let apart : Here bytes at (pad ++ (run.bytes ++ rest)) = here_same bytes at ((pad ++ run.bytes) ++ rest) (pad ++ (run.bytes ++ rest)) (append_assoc pad run.bytes rest) whole in
    let low : at ≤ run.at = le e in
    let there : Here bytes run.at (run.bytes ++ rest) = here_is bytes (at + length pad) run.at (run.bytes ++ rest) (omega (arith, low, length-replicate {A = ℕ} (run.at - at) 0)) (here_right bytes at pad (run.bytes ++ rest) apart) in
    record {
      stands = record {
        here = λ f. here_left bytes run.at run.bytes rest there;
        zeros = λ f. record { order = low; zeros = here_left bytes at pad (run.bytes ++ rest) apart };
      };
      behind = rw e (here_right bytes run.at run.bytes rest there);
    }

-- what stands behind the runs stands where they end
pub record AllRuns (bytes : List ℕ) (at : ℕ) (runs : List Run) (rest : List ℕ) : Type 0 where
  pub stand : RunsStand bytes at runs
  pub behind : Here bytes (ends_behind at runs) rest

pub runs_stand : (bytes : List ℕ) (at : ℕ) (runs : List Run) (rest : List ℕ) → RunsAscend at runs → Here bytes at (runs_text at runs ++ rest) → AllRuns bytes at runs rest
runs_stand bytes at [] rest up h = record { stand = tt; behind = h }
runs_stand bytes at (run ∷ runs) rest up h =
    let apart : Here bytes at (run_text at run ++ (runs_text (end_behind at run) runs ++ rest)) = here_same bytes at ((run_text at run ++ runs_text (end_behind at run) runs) ++ rest) (run_text at run ++ (runs_text (end_behind at run) runs ++ rest)) (append_assoc (run_text at run) (runs_text (end_behind at run) runs) rest) h in
    let one : OneRun bytes at run (runs_text (end_behind at run) runs ++ rest) = one_run bytes at run (runs_text (end_behind at run) runs ++ rest) (nat_eq run.count 0) refl up.0 apart in
    let more : AllRuns bytes (end_behind at run) runs rest = runs_stand bytes (end_behind at run) runs rest up.1 one.behind in
    record { stand = (one.stands, more.stand); behind = more.behind }

one_length : (at : ℕ) (run : Run) (none : Bool) → nat_eq run.count 0 ≡ none → (nat_eq run.count 0 ≡ false → at ≤ run.at) → at + length (run_text at run) ≡ end_behind at run
one_length at run true e le = rw e (omega arith)
one_length at run false e le = rw e (omega (arith, le e, length-append (replicate (run.at - at) 0) run.bytes, length-replicate {A = ℕ} (run.at - at) 0))

pub runs_length : (at : ℕ) (runs : List Run) → RunsAscend at runs → at + length (runs_text at runs) ≡ ends_behind at runs
runs_length at [] up = omega arith
runs_length at (run ∷ runs) up = omega (arith, length-append (run_text at run) (runs_text (end_behind at run) runs), one_length at run (nat_eq run.count 0) refl up.0, runs_length (end_behind at run) runs up.1)
