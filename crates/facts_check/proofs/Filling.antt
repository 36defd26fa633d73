-- Frames that are filled in one by one.
use Rattle.std.proofs.Common.{◌≡◌, ℕ, zero, suc, ◌+◌, ◌<◌, ◌≤◌, true, false, List, [], ◌∷◌, ◌++◌, Option, Some, None, inl, inr, refl, sym, ap, ◌∙◌, subst, arith, length-append}
use Rattle.std.specs.Prelude.{length, is_some, slice_get, slice_index_or}
use Rattle.std.proofs.lemmas.Bool.{cases_lt}
use Rattle.std.proofs.lemmas.Option.{slice_get_past}
use Rattle.insn_set.specs.declared.form.Insn.{Insn}
use Rattle.program_model.specs.declared.body.Body.{Body}
use Rattle.dom_frame.specs.declared.frames.Frame.{Frame}
use Rattle.dom_frame.specs.Registers.{Registers}
use Rattle.closed_facts.specs.Tables.{AreBelow, Arrives}
use Rattle.facts_check.specs.declared.known.Known.{Known}
use Rattle.facts_check.specs.declared.starts.Start.{Start}
use Rattle.facts_check.specs.declared.starts.Start.TheVariants.{Inside, Idle, Comes}
use Rattle.facts_check.specs.Bodies.{registers_in, registers_of, IsArrived, IsStep, IsLinked, IsKept, IsFilling, IsFilled, AreFrames, insn_before}
use Rattle.closed_facts.specs.Entries.{BeginsAt}
use Rattle.facts_check.specs.Known.{is_marked}
use Rattle.facts_check.specs.Tables.{ComesBelow, PlacedIf, BeginsWhere}
use Rattle.facts_check.specs.Placed.{IsPlaced}

comes_same : (x y : Registers) → Some (Comes x) ≡ Some (Comes y) → Some x ≡ Some y
comes_same x y e = cc

some_same : (x y : Registers) → Some x ≡ Some y → x ≡ y
some_same x y e = cc

-- at the beginning of a block stands what is known there
pub arrives_known : (next : Option Registers) (y : Registers) → ComesBelow next y → IsArrived (Some (Comes y)) next (Some y)
arrives_known next y h = record { kept = λ z e. comes_same y z e; onto = λ c e. onto next h c e }
  where
    onto : (next : Option Registers) → ComesBelow next y → (c : Registers) → next ≡ Some c → Arrives c (Some y)
    onto None h c e = absurd (cc)
    onto (Some x) h c e = subst (λ c. AreBelow c y) (some_same x c e) h

pub arrives_idle : (next : Option Registers) → next ≡ None → IsArrived (Some Idle) next None
arrives_idle next i = record { kept = λ z e. absurd (cc); onto = λ c e. absurd (let l : Some c ≡ None = sym e ∙ i in cc) }

onto_itself : (next : Option Registers) (c : Registers) → next ≡ Some c → Arrives c next
onto_itself next c e = subst (Arrives c) (sym e) (λ r d h. h)

pub arrives_inside : (next : Option Registers) → IsArrived (Some Inside) next next
arrives_inside next = record { kept = λ z e. absurd (cc); onto = onto_itself next }

pub none_left : (next : Option Registers) → is_some next ≡ false → next ≡ None
none_left None e = refl
none_left (Some x) e = absurd (cc)

pub arrives_past : (next : Option Registers) → IsArrived None next next
arrives_past next = record { kept = λ z e. absurd (cc); onto = onto_itself next }

-- ---- a step

same_insn : (i j : Insn) → Some i ≡ Some j → i ≡ j
same_insn i j e = cc

-- what is placed at a position of the code is a step
pub step_placed : (k : Known) (class method : ℕ) (b : Body) (starts : List Start) (n : ℕ) (i : Insn) (here next : Option Registers) → slice_get b.insns n ≡ Some i
    → PlacedIf k class method b starts n (insn_before b.insns n) i here next → IsStep k class method b starts n here next
step_placed k class method b starts n i here next e h = record { placed = λ j x f g. subst (λ (j : Insn). IsPlaced k class method b starts n (insn_before b.insns n) j x next) (same_insn i j (sym e ∙ f)) (by here h x g) }
  where
    by : (o : Option Registers) → PlacedIf k class method b starts n (insn_before b.insns n) i o next → (x : Registers) → o ≡ Some x → IsPlaced k class method b starts n (insn_before b.insns n) i x next
    by None h x g = absurd (cc)
    by (Some y) h x g = subst (λ (x : Registers). IsPlaced k class method b starts n (insn_before b.insns n) i x next) (some_same y x g) h

-- ---- one frame more

read_front : (frames : List (Option Frame)) (f : Option Frame) (j : ℕ) → j < length frames → slice_index_or (frames ++ f ∷ []) j None ≡ slice_index_or frames j None
read_front [] f j lt = absurd (omega arith)
read_front (g ∷ gs) f zero lt = refl
read_front (g ∷ gs) f (suc j) lt = read_front gs f j (omega arith)

read_last : (frames : List (Option Frame)) (f : Option Frame) → slice_index_or (frames ++ f ∷ []) (length frames) None ≡ f
read_last [] f = refl
read_last (g ∷ gs) f = read_last gs f

module _ (k : Known) (class method : ℕ) (b : Body) (starts : List Start) where
  abbrev Linked : List (Option Frame) → ℕ → Type 0
  Linked = IsLinked k class method b starts

  abbrev Kept : List (Option Frame) → ℕ → Type 0
  Kept = IsKept k class method b starts

  abbrev Step : ℕ → Option Registers → Option Registers → Type 0
  Step = IsStep k class method b starts

  pub none_filled : (next : Option Registers) → IsFilling k class method b starts [] 0 next
  none_filled next = record {
    long = refl;
    kept = λ j lt. absurd (omega arith);
    linked = λ j lt. absurd (omega arith);
    last = λ j e. absurd (omega arith);
  }

  module _ (frames : List (Option Frame)) (n : ℕ) (f : Option Frame) (long : length frames ≡ n) where
    abbrev more : List (Option Frame)
    more = frames ++ f ∷ []

    front : (j : ℕ) → j < n → registers_of more j ≡ registers_of frames j
    front j lt = ap registers_in (read_front frames f j (subst (λ m. j < m) (sym long) lt))

    seam : registers_of more n ≡ registers_in f
    seam = ap registers_in (subst (λ m. slice_index_or more m None ≡ f) long (read_last frames f))

    link_more : (j : ℕ) → j + 1 < n → Linked frames j → Linked more j
    link_more j lt h = record {
      next = h.next;
      step = subst (λ o. Step j o h.next) (sym (front j (omega arith))) h.step;
      onto = λ c e. subst (Arrives c) (sym (front (j + 1) lt)) (h.onto c e);
    }

    kept_more : (j : ℕ) → j < n → Kept frames j → Kept more j
    kept_more j lt h y e = front j lt ∙ h y e

  pub one_filled : (frames : List (Option Frame)) (n : ℕ) (next here after : Option Registers) (f : Option Frame) → IsFilling k class method b starts frames n next
      → IsArrived (slice_get starts n) next here → Step n here after → registers_in f ≡ here → IsFilling k class method b starts (frames ++ f ∷ []) (n + 1) after
  one_filled frames n next here after f h a s e = record {
    long = length-append frames (f ∷ []) ∙ ap (λ m. m + 1) h.long;
    kept = λ j lt. elim (cases_lt j n) [
      | inl below ↦ kept_more frames n f h.long j below (h.kept j below)
      | inr above ↦ let i : n ≡ j = omega arith in subst (λ m. Kept (frames ++ f ∷ []) m) i (λ y t. seam frames n f h.long ∙ e ∙ a.kept y t)
    ];
    linked = λ j lt. elim (cases_lt (j + 1) n) [
      | inl below ↦ link_more frames n f h.long j below (h.linked j below)
      | inr above ↦ let i : n ≡ j + 1 = omega arith in record {
        next = next;
        step = subst (λ o. Step j o next) (sym (front frames n f h.long j (omega arith))) (h.last j (sym i));
        onto = λ c t. subst (λ m. Arrives c (registers_of (frames ++ f ∷ []) m)) i (subst (Arrives c) (sym (seam frames n f h.long ∙ e)) (a.onto c t));
      }
    ];
    last = λ j t. let i : n ≡ j = omega arith in subst (λ m. Step m (registers_of (frames ++ f ∷ []) m) after) i (subst (λ o. Step n o after) (sym (seam frames n f h.long ∙ e)) s);
  }

  pub next_filled : (frames longer : List (Option Frame)) (n : ℕ) (next here after : Option Registers) (f : Option Frame) → IsFilling k class method b starts frames n next
      → IsArrived (slice_get starts n) next here → Step n here after → registers_in f ≡ here → longer ≡ frames ++ f ∷ [] → IsFilling k class method b starts longer (n + 1) after
  next_filled frames longer n next here after f h a s e m = subst (λ (xs : List (Option Frame)). IsFilling k class method b starts xs (n + 1) after) (sym m) (one_filled frames n next here after f h a s e)

  -- at the end nothing is handed on
  pub all_filled : (frames : List (Option Frame)) (n : ℕ) (next : Option Registers) → IsFilling k class method b starts frames n next → next ≡ None → length b.insns ≡ n → length starts ≡ n
      → IsFilled k class method b starts frames
  all_filled frames n next h none e l = record {
    kept = λ j. elim (cases_lt j n) [
      | inl below ↦ h.kept j below
      | inr above ↦ λ y t. absurd (let p : slice_get starts j ≡ None = slice_get_past starts j (subst (λ m. m ≤ j) (sym l) above) in let q : Some (Comes y) ≡ None = sym t ∙ p in cc)
    ];
    linked = λ j lt. elim (cases_lt (j + 1) n) [
      | inl below ↦ h.linked j below
      | inr above ↦ record {
        next = next;
        step = h.last j (let below : j < n = subst (λ m. j < m) e lt in omega arith);
        onto = λ c t. absurd (let q : Some c ≡ None = sym t ∙ none in cc);
      }
    ];
  }

-- ---- the frames of a method

-- none where no run comes to it
pub no_frames : (k : Known) (class method : ℕ) (b : Body) (frames : List (Option Frame)) → frames ≡ [] → AreFrames k class method b frames
no_frames k class method b frames e = subst (AreFrames k class method b) (sym e) record {
  starts = [];
  filled = record {
    kept = λ j y t. absurd (cc);
    linked = λ j lt. record { next = None; step = record { placed = λ i x t u. absurd (cc) }; onto = λ c t. absurd (cc) };
  };
  begins = λ x t. absurd (cc);
  live = λ n x t. absurd (cc);
}

-- else those that are filled in, where its entry is above its parameters and it is live
pub filled_frames : (k : Known) (class method : ℕ) (b : Body) (starts : List Start) (frames : List (Option Frame)) → IsFilled k class method b starts frames
    → BeginsWhere k.facts.now method b (registers_of frames 0) → is_marked k.live.now.methods.items method ≡ true → AreFrames k class method b frames
filled_frames k class method b starts frames h e l = record {
  starts = starts;
  filled = h;
  begins = λ x t. by (registers_of frames 0) e x t;
  live = λ n x t. l;
}
  where
    by : (o : Option Registers) → BeginsWhere k.facts.now method b o → (x : Registers) → o ≡ Some x → BeginsAt k.facts.now method b x
    by None e x t = absurd (cc)
    by (Some y) e x t = subst (λ (x : Registers). BeginsAt k.facts.now method b x) (some_same y x t) e
