-- What is said for a status.
use Rattle.std.proofs.Common.{◌≡◌, ℕ, List, ◌++◌, length, take, Bool, IsTrue, append-nil, refl, sym, ap, ◌∙◌, inl, inr}
use Rattle.std.proofs.Math.Seq.{take-length}
use Rattle.redex_outside.specs.Counts.{Rose}
use Rattle.redex_cli.specs.FaultLines.{status_text}
use Rattle.redex_cli.specs.Said.{Said, SaidPart, SaysStatus, unsaid}
use Rattle.redex_cli.specs.declared.status.Status.{Status}
use Rattle.redex_cli.specs.declared.status.Status.TheVariants.{Done, WriteFault, NoMemory}

pub none_said : (text old new : List ℕ) → new ≡ old → SaidPart text old new
none_said text old new e = record { kept = 0; said = e ∙ sym (append-nil old) }

whole_said : (text old new : List ℕ) → new ≡ old ++ text → SaidPart text old new
whole_said text old new e = record { kept = length text; said = e ∙ ap (λ (t : List ℕ). old ++ t) (sym (take-length text)) }

pub unsaid_said : (IsResult : List ℕ → Type 0) (status : Status) (n m : ℕ) (old new : List ℕ) → new ≡ old → Said IsResult (unsaid status) n m old new
unsaid_said IsResult WriteFault n m old new e = inl (none_said (status_text WriteFault) old new e)
unsaid_said IsResult _ n m old new e = none_said (status_text NoMemory) old new e

pub line_said : (IsResult : List ℕ → Type 0) (status : Status) (n m : ℕ) (old new : List ℕ) → (status ≡ Done → ⊥)
    → new ≡ old ++ status_text status → Said IsResult status n m old new
line_said IsResult Done n m old new not_done e = absurd (not_done refl)
line_said IsResult WriteFault n m old new not_done e = inl (whole_said (status_text WriteFault) old new e)
line_said IsResult NoMemory n m old new not_done e = whole_said (status_text NoMemory) old new e
line_said IsResult _ n m old new not_done e = inl e

pub part_said : (IsResult : List ℕ → Type 0) (status : Status) (n m : ℕ) (old new : List ℕ) → (status ≡ Done → ⊥)
    → Rose n m → SaidPart (status_text status) old new → Said IsResult status n m old new
part_said IsResult Done n m old new not_done rose part = absurd (not_done refl)
part_said IsResult WriteFault n m old new not_done rose part = inl part
part_said IsResult NoMemory n m old new not_done rose part = part
part_said IsResult _ n m old new not_done rose part = inr (rose, part)

pub says_nothing : (status : Status) (tells : Bool) (n m : ℕ) (old new : List ℕ) → (IsTrue tells → new ≡ old)
    → SaysStatus status tells n m old new (unsaid status)
says_nothing status tells n m old new same = record {
  becomes = inr refl;
  said = λ _ told. unsaid_said (λ _. ⊥) status n m old new (same told);
}

pub says_line : (status : Status) (tells : Bool) (n m : ℕ) (line old new : List ℕ) → line ≡ status_text status
    → (IsTrue tells → new ≡ old ++ line) → SaysStatus status tells n m old new status
says_line status tells n m line old new is whole = record {
  becomes = inl refl;
  said = λ not_done told. line_said (λ _. ⊥) status n m old new not_done (whole told ∙ ap (λ (t : List ℕ). old ++ t) is);
}

pub says_part : (status : Status) (tells : Bool) (n m : ℕ) (line old new : List ℕ) → line ≡ status_text status → Rose n m
    → (IsTrue tells → (kept : ℕ) × (new ≡ old ++ take kept line)) → SaysStatus status tells n m old new status
says_part status tells n m line old new is rose part = record {
  becomes = inl refl;
  said = λ not_done told. part_said (λ _. ⊥) status n m old new not_done rose
      (record { kept = (part told).0; said = (part told).1 ∙ ap (λ (t : List ℕ). old ++ take (part told).0 t) is });
}

said_weaker : (P Q : List ℕ → Type 0) (status : Status) (n m : ℕ) (old new : List ℕ) → ((text : List ℕ) → P text → Q text)
    → Said P status n m old new → Said Q status n m old new
said_weaker P Q Done n m old new more s = record { text = s.text; result = more s.text s.result; said = s.said }
said_weaker P Q WriteFault n m old new more (inl s) = inl s
said_weaker P Q WriteFault n m old new more (inr s) = inr (record { text = s.text; result = more s.text s.result; said = s.said })
said_weaker P Q _ n m old new more s = s

pub said_for : (Q : List ℕ → Type 0) (status : Status) (n m : ℕ) (old new : List ℕ)
    → Said (λ _. ⊥) status n m old new → Said Q status n m old new
said_for Q status n m old new s = said_weaker (λ _. ⊥) Q status n m old new (λ text x. absurd x) s
